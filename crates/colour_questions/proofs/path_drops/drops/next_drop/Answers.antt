-- `next_drop` meets its contract, by the way each test went.
use Prim.Native.Nat.{◌+◌, ◌*◌}
use native.Mathlib.Omega.{arith}
use Rattle.colour_questions.proofs.path_drops.DropCases.{gives-done, gives-outside, gives-stuck, gives-node, gives-high, gives-fell}
use Rattle.colour_questions.proofs.path_drops.drops.next_drop.Goals as goal

pub returns-then-seen_at-to : goal.returns-then-seen_at-to
returns-then-seen_at-to c =
    gives-done _ _ _ _ _ _ c.seen_at.ensures.0 c.if-seen_at-to.true

pub returns-then-n-v : goal.returns-then-n-v
returns-then-n-v c =
    gives-outside _ _ _ _ _ _ c.seen_at.ensures.0 c.if-seen_at-to.false _ c.lowest_at-v.ensures c.if-n-v.true

pub size_at-d-requires : goal.size_at-d-requires
size_at-d-requires c =
    let g = c.args in
    omega (
      arith,
      c.requires.room,
      gives-node g.n g.table.now g.c g.to g.l c.seen_at.result c.seen_at.ensures.0
          c.if-seen_at-to.false
          c.lowest_at-v.result c.lowest_at-v.ensures c.if-n-v.false c.search.result c.search.ensures
          c.in-Some.found c.in-Some.is,
    )

pub returns-then-c-d : goal.returns-then-c-d
returns-then-c-d c =
    gives-high _ _ _ _ _ _ c.seen_at.ensures.0 c.if-seen_at-to.false
    _ c.lowest_at-v.ensures c.if-n-v.false _ c.search.ensures
    c.in-Some.found c.in-Some.is _ c.size_at-d.ensures c.if-c-d.true

pub returns-in-None : goal.returns-in-None
returns-in-None c =
    gives-stuck _ _ _ _ _ _ c.seen_at.ensures.0 c.if-seen_at-to.false
    _ c.lowest_at-v.ensures c.if-n-v.false _ c.search.ensures c.in-None.is

pub returns-else-c-d : goal.returns-else-c-d
returns-else-c-d c =
    gives-fell _ _ _ _ _ _ c.seen_at.ensures.0 c.if-seen_at-to.false
    _ c.lowest_at-v.ensures c.if-n-v.false _ c.search.ensures
    c.in-Some.found c.in-Some.is _ c.size_at-d.ensures c.if-c-d.false
    (omega (arith, c.type_inv.table (c.lowest_at-v.result * 4 + 2)))
