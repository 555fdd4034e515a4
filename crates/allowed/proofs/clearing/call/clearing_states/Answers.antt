-- `clearing_states` meets its contract: refused where a check fails, else the clearing states.
use mathlib.Core.Path.{sym}
use lib.ListN.{length}
use Rattle.formats.proofs.InputLaws.{rule-table-passes}
use Rattle.allowed.proofs.InputsLaws.{table-yes, room-yes, call-args}
use Rattle.allowed.proofs.clearing.CallLaws.{done_refused, done-written}
use native.Mathlib.Omega.{arith}
use Rattle.allowed.proofs.clearing.call.clearing_states.Goals as goal

pub returns-in_err-check_node_room : goal.returns-in_err-check_node_room
returns-in_err-check_node_room c = done_refused _ _ _ _ _ c.from_residual.ensures.1 c.in_err-check_node_room.ensures

pub read32-n-requires : goal.read32-n-requires
read32-n-requires c =
    let g = c.args in
    omega (arith, (rule-table-passes g.plan.now g.rules.now (table-yes g.plan.now g.rules.now (length g.sets.now) (sym c.in_ok-check_node_room.ensures))).0.long)

pub read32-s-requires : goal.read32-s-requires
read32-s-requires c =
    let g = c.args in
    omega (arith, (rule-table-passes g.plan.now g.rules.now (table-yes g.plan.now g.rules.now (length g.sets.now) (sym c.in_ok-check_node_room.ensures))).1.long)

pub read32-k-requires : goal.read32-k-requires
read32-k-requires c =
    let g = c.args in
    omega (arith, (rule-table-passes g.plan.now g.rules.now (table-yes g.plan.now g.rules.now (length g.sets.now) (sym c.in_ok-check_node_room.ensures))).1.long)

pub write_clearing-requires : goal.write_clearing-requires
write_clearing-requires c =
    let g = c.args in
    rw (c.read32-n.ensures, c.read32-s.ensures, c.read32-k.ensures)
    (call-args g.plan.now g.rules.now
    (table-yes g.plan.now g.rules.now (length g.sets.now) (sym c.in_ok-check_node_room.ensures))
    (length g.sets.now) (room-yes g.plan.now g.rules.now (length g.sets.now) (sym c.in_ok-check_node_room.ensures)))

pub returns : goal.returns
returns c =
    let g = c.args in
    done-written g.plan.now g.rules.now g.sets.now c.write_clearing.new.sets
    (sym c.in_ok-check_node_room.ensures) c.write_clearing.ensures
