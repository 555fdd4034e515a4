-- `fork_by_colours` meets its contract.
use Prim.Native.Nat.{◌+◌, ◌-◌, ◌≤◌}
use mathlib.Core.Path.{sym, ◌∙◌}
use Rattle.tables.specs.node_tables.Cells.{size_cell}
use Rattle.questions.proofs.ScanLaws.{last-bound, last-covers}
use Rattle.colour_questions.specs.parts.Part.{sides_of}
use Rattle.colour_questions.proofs.parts.ForkCases.{fork-left, fork-right, fork_rule, fork-falls, fork-few, fork-made}
use native.Mathlib.Omega.{arith}
use Rattle.colour_questions.proofs.parts.part.fork_by_colours.Goals as goal

pub side_by_colours-requires : goal.side_by_colours-requires
side_by_colours-requires c =
    let g = c.args in
    record {
      reads = c.requires.reads;
      at = omega (arith, c.requires.left, c.requires.at);
      same = c.requires.same;
      place = omega (
        arith,
        c.last_below-i.ensures,
        last-bound g.l (size_cell g.node_table.now g.l) g.earlier.now,
      );
      inside = λ i z.
          omega (
            arith,
            c.requires.at,
            c.requires.left,
            last-covers g.l (size_cell g.node_table.now g.l) g.earlier.now i (sym c.last_below-i.ensures ∙ z),
          );
    }

pub side_by_colours-requires-2 : goal.side_by_colours-requires-2
side_by_colours-requires-2 c =
    let g = c.args in
    record {
      reads = c.requires.reads;
      at = omega (arith, c.requires.left, c.requires.at);
      same = c.requires.same;
      place = omega (
        arith,
        c.last_below-j.ensures,
        last-bound (g.v - 1) (size_cell g.node_table.now (g.v - 1))
            g.earlier.now,
      );
      inside = λ i z.
          omega (
            arith,
            c.requires.at,
            c.requires.left,
            last-covers (g.v - 1) (size_cell g.node_table.now (g.v - 1)) g.earlier.now i (sym
                c.last_below-j.ensures ∙ z),
          );
    }

pub returns-then-s-q : goal.returns-then-s-q
returns-then-s-q c =
    fork_rule _ _ _ _ _ _ _ _ _ _ _ c.requires.same c.last_below-i.ensures c.last_below-j.ensures
    _ c.side_by_colours.ensures c.in_ok-left.left.state c.in_ok-left.left.drops c.in_ok-left.left.links c.in_ok-left.was _
    c.side_by_colours-2.ensures
    c.in_ok-right.right.state c.in_ok-right.right.drops c.in_ok-right.right.links c.in_ok-right.was _ c.rule_on-q.ensures c.if-s-q.true

pub overflow_add-result : goal.overflow_add-result
overflow_add-result c =
    let falls : c.in_ok-left.left.drops + c.in_ok-right.right.drops ≤ 60 =
    (let g = c.args in
    fork-falls (sides_of g.n g.s g.m g.state_table.now g.numbers.now g.copies.now) g.k g.inner.now
    g.node_table.now g.earlier.now g.states.now g.v g.l g.a c.last_below-i.result
    c.last_below-j.result c.requires.same c.last_below-i.ensures c.last_below-j.ensures
    c.side_by_colours.result c.side_by_colours.ensures
    c.in_ok-left.left.state c.in_ok-left.left.drops c.in_ok-left.left.links c.in_ok-left.was c.side_by_colours-2.result
    c.side_by_colours-2.ensures
    c.in_ok-right.right.state c.in_ok-right.right.drops c.in_ok-right.right.links c.in_ok-right.was c.rule_on-q.result c.rule_on-q.ensures) in
    let g = c.args in
    let f = fork-few (sides_of g.n g.s g.m g.state_table.now g.numbers.now g.copies.now) g.k g.inner.now
    g.node_table.now g.earlier.now g.states.now g.v g.l g.a c.last_below-i.result
    c.last_below-j.result c.requires.same c.last_below-i.ensures c.last_below-j.ensures
    c.side_by_colours.result c.side_by_colours.ensures
    c.in_ok-left.left.state c.in_ok-left.left.drops c.in_ok-left.left.links c.in_ok-left.was c.side_by_colours-2.result
    c.side_by_colours-2.ensures
    c.in_ok-right.right.state c.in_ok-right.right.drops c.in_ok-right.right.links c.in_ok-right.was c.rule_on-q.result
    c.rule_on-q.ensures in
    omega (arith, falls, f)

pub returns-in_err-left : goal.returns-in_err-left
returns-in_err-left c =
    rw c.from_residual.ensures (fork-left _ _ _ _ _ _ _ _ _ _ _ c.requires.same c.last_below-i.ensures
    c.last_below-j.ensures _ c.side_by_colours.ensures c.in_err-left.was)

pub returns-in_err-right : goal.returns-in_err-right
returns-in_err-right c =
    rw c.from_residual-in_err-right.ensures (fork-right _ _ _ _ _ _ _ _ _ _ _ c.requires.same c.last_below-i.ensures
    c.last_below-j.ensures _ c.side_by_colours.ensures c.in_ok-left.left.state c.in_ok-left.left.drops
    c.in_ok-left.left.links c.in_ok-left.was _ c.side_by_colours-2.ensures c.in_err-right.was)

pub returns : goal.returns
returns c =
    fork-made _ _ _ _ _ _ _ _ _ _ _ c.requires.same c.last_below-i.ensures c.last_below-j.ensures
    _ c.side_by_colours.ensures c.in_ok-left.left.state c.in_ok-left.left.drops c.in_ok-left.left.links c.in_ok-left.was _
    c.side_by_colours-2.ensures
    c.in_ok-right.right.state c.in_ok-right.right.drops c.in_ok-right.right.links c.in_ok-right.was _ c.rule_on-q.ensures c.if-s-q.false
