-- `check_branch_build` meets its contract: each return cites the law of its answer.
use Rattle.std.proofs.Common.{sym, arith}
use Rattle.formats.specs.Checks.{branch_build_checks}
use Rattle.formats.specs.Plan.{node_count}
use Rattle.formats.specs.Rules.{state_count}
use Rattle.formats.proofs.RefusalLaws.{handed-on-first}
use Rattle.formats.proofs.InputLaws.{branch-table-passes, branch-table-numbered}
use Rattle.formats.proofs.InputAnswers.{room-no, room-good}
use Rattle.formats.proofs.inputs.check_branch_build.Goals as goal

pub returns-in_err-check_branch_inputs : goal.returns-in_err-check_branch_inputs
unfolding branch_build_checks
returns-in_err-check_branch_inputs c = handed-on-first _ _ _ _ c.from_residual.ensures.1 c.in_err-check_branch_inputs.ensures

pub read32-n-requires : goal.read32-n-requires
read32-n-requires c = omega (arith, (branch-table-passes _ _ (sym c.in_ok-check_branch_inputs.ensures)).0.long)

pub read32-s-requires : goal.read32-s-requires
read32-s-requires c = omega (arith, (branch-table-passes _ _ (sym c.in_ok-check_branch_inputs.ensures)).1.long)

pub room_fits-requires : goal.room_fits-requires
room_fits-requires c =
    let t = branch-table-passes _ _ (sym c.in_ok-check_branch_inputs.ensures) in
    record { nodes = omega (arith, t.0.most, c.read32-n.ensures); states = omega (arith, t.1.states_most, c.read32-s.ensures) }

pub returns-then-not-room_fits : goal.returns-then-not-room_fits
unfolding branch_build_checks
returns-then-not-room_fits c =
    let a = c.args in
    room-no _ (branch-table-numbered a.plan.now a.branch.now) (sym c.in_ok-check_branch_inputs.ensures) _ (node_count a.plan.now) _
    (state_count a.branch.now) _ _ c.read32-n.ensures c.read32-s.ensures _ c.room_fits.ensures c.if-not-room_fits.true-raw

pub returns : goal.returns
unfolding branch_build_checks
returns c =
    let a = c.args in
    room-good _ (branch-table-numbered a.plan.now a.branch.now) (sym c.in_ok-check_branch_inputs.ensures) _ (node_count a.plan.now) _
    (state_count a.branch.now) _ _ c.read32-n.ensures c.read32-s.ensures _ c.room_fits.ensures c.if-not-room_fits.false-raw
