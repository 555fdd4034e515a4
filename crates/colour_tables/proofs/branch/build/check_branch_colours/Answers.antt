-- `build::check_branch_colours` meets its contract: each return cites the law of its answer.
use mathlib.Core.Path.{sym}
use native.Mathlib.Omega.{arith}
use Rattle.formats.proofs.InputLaws.{branch-table-passes}
use Rattle.formats.proofs.RefusalLaws.{handed-on-first}
use Rattle.colour_tables.specs.branch.Build.{branch_colour_checks}
use Rattle.colour_tables.proofs.branch.BuildLaws.{room-no, room-good}
use Rattle.colour_tables.proofs.branch.build.check_branch_colours.Goals as goal

pub returns-in_err-check_branch_inputs : goal.returns-in_err-check_branch_inputs
unfolding branch_colour_checks
returns-in_err-check_branch_inputs c = handed-on-first _ _ _ _ c.from_residual.ensures.1 c.in_err-check_branch_inputs.ensures

pub read32-n-requires : goal.read32-n-requires
read32-n-requires c = omega (arith, (branch-table-passes _ _ (sym c.in_ok-check_branch_inputs.ensures)).0.long)

pub read32-s-requires : goal.read32-s-requires
read32-s-requires c = omega (arith, (branch-table-passes _ _ (sym c.in_ok-check_branch_inputs.ensures)).1.long)

pub colours_fit-requires : goal.colours_fit-requires
colours_fit-requires c =
    let t = branch-table-passes _ _ (sym c.in_ok-check_branch_inputs.ensures) in
    record {
      nodes = omega (arith, t.0.most, c.read32-n.ensures);
      states = omega (arith, t.1.states_most, c.read32-s.ensures);
    }

pub returns-then-not-colours_fit : goal.returns-then-not-colours_fit
returns-then-not-colours_fit c =
    room-no _ _ _ _ (sym c.in_ok-check_branch_inputs.ensures) _ _ c.read32-n.ensures c.read32-s.ensures _
    c.colours_fit.ensures c.if-not-colours_fit.true

pub returns : goal.returns
returns c =
    room-good _ _ _ _ (sym c.in_ok-check_branch_inputs.ensures) _ _ c.read32-n.ensures c.read32-s.ensures _
    c.colours_fit.ensures c.if-not-colours_fit.false
