-- Both sides are asked at the places found, and their answers go to the rule.
use Rattle.std.proofs.Common.{ℕ, ◌+◌, ◌*◌, ◌≤◌, ap, arith}
use Rattle.tables.specs.node_tables.Cells.{depth_cell}
use Rattle.questions.proofs.PartLoop.{side-args, side-few, fork-answer}
use Rattle.questions.proofs.part.fork_on.Goals as goal

pub side_on-left-requires : goal.side_on-left-requires
side_on-left-requires c =
    side-args _ _ _ _ _ _ _ _ _ _ c.last_below-i.result c.requires.path
    (omega (arith, c.requires.left, c.requires.at)) c.requires.same c.last_below-i.ensures

pub side_on-right-requires : goal.side_on-right-requires
side_on-right-requires c =
    side-args _ _ _ _ _ _ _ _ _ _ c.last_below-j.result c.requires.path (omega (arith, c.requires.at)) c.requires.same
    c.last_below-j.ensures

pub join_on-requires : goal.join_on-requires
join_on-requires c =
    let p = c.requires.path in
    let d : (v : ℕ) → depth_cell c.args.node_table.now v ≤ 65535 =
    λ v. omega (arith, c.type_inv.node_table (v * 4 + 2)) in
    record {
      few = p.few;
      labels = p.labels;
      room = p.inner_room;
      left_few = side-few _ _ _ _ _ c.side_on-left.result p.most d c.side_on-left.ensures;
      right_few = side-few _ _ _ _ _ c.side_on-right.result p.most d c.side_on-right.ensures;
    }

pub returns : goal.returns
returns c =
    let g = c.args in
    fork-answer _ g.earlier.now g.states.now g.v g.l g.a c.last_below-i.result c.last_below-j.result
    (c.depth_at-to.result + 1) c.requires.same (ap (λ (d : ℕ). d + 1) c.depth_at-to.ensures) c.last_below-i.ensures
    c.last_below-j.ensures c.side_on-left.result c.side_on-right.result c.join_on.result c.side_on-left.ensures
    c.side_on-right.ensures c.join_on.ensures
