-- `check_node_room` meets its contract: each return cites the law of its answer.
use mathlib.Core.Path.{sym}
use Rattle.formats.proofs.InputLaws.{rule-table-passes}
use Rattle.formats.proofs.RefusalLaws.{handed-on-first}
use Rattle.allowed.specs.Answers.{node_room_checks}
use Rattle.allowed.proofs.InputsLaws.{no_room, all_yes}
use native.Mathlib.Omega.{arith}
use Rattle.allowed.proofs.check.check_node_room.Goals as goal

pub returns-in_err-check_rule_inputs : goal.returns-in_err-check_rule_inputs
unfolding node_room_checks
returns-in_err-check_rule_inputs c = handed-on-first _ _ _ _ c.from_residual.ensures.1 c.in_err-check_rule_inputs.ensures

pub read32-n-requires : goal.read32-n-requires
read32-n-requires c =
    let g = c.args in
    omega (arith, (rule-table-passes g.plan.now g.rules.now (sym c.in_ok-check_rule_inputs.ensures)).0.long)

pub returns-then-room-n : goal.returns-then-room-n
returns-then-room-n c =
    let g = c.args in
    no_room g.plan.now g.rules.now g.room (sym c.in_ok-check_rule_inputs.ensures)
    (omega (arith, c.if-room-n.true, c.read32-n.ensures))

pub returns : goal.returns
returns c =
    let g = c.args in
    all_yes g.plan.now g.rules.now g.room (sym c.in_ok-check_rule_inputs.ensures)
    (omega (arith, c.if-room-n.false, c.read32-n.ensures))
