-- The pass up, then the pass down.
use Rattle.std.proofs.Common.{subst, Bool}
use Rattle.tables.proofs.node_tables.CheckLoop.{UpTells}
use Rattle.tables.proofs.node_tables.CheckLaws.{answer-no, down-room, answer-both}
use Rattle.tables.proofs.node_tables.check.check_node_table.Goals as goal

pub returns-then-not-check_up : goal.returns-then-not-check_up
returns-then-not-check_up c =
    answer-no c.args.kinds.now c.args.node_table.now
    (subst (λ (r : Bool). UpTells r c.args.kinds.now c.args.node_table.now) c.if-not-check_up.true c.check_up.ensures)

pub check_down-requires : goal.check_down-requires
check_down-requires c = (
  down-room c.args.kinds.now c.args.node_table.now c.requires
      (subst (λ (r : Bool). UpTells r c.args.kinds.now c.args.node_table.now) c.if-not-check_up.false c.check_up.ensures),
  c.jump_lengths-lengths.ensures,
)

pub returns : goal.returns
returns c =
    answer-both c.args.kinds.now c.args.node_table.now c.requires.room
    (subst (λ (r : Bool). UpTells r c.args.kinds.now c.args.node_table.now) c.if-not-check_up.false c.check_up.ensures)
    c.check_down.result c.check_down.ensures
