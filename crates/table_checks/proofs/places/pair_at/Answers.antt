-- `places::pair_at` meets its contract.
use Prim.Native.Nat.{◌+◌, ◌-◌, ◌*◌}
use lib.ListN.{get_or}
use Rattle.tables.specs.StateCells.{state_cell}
use Rattle.table_checks.proofs.DifferenceLaws.{xor-test}
use Rattle.table_checks.proofs.PairStateLaws.{row_room, row_small, state_in, rule-place, placed}
use native.Mathlib.Omega.{arith}
use Rattle.table_checks.proofs.places.pair_at.Goals as goal

pub state_at-p-requires : goal.state_at-p-requires
state_at-p-requires c =
    state_in _ _ _ _ _ _ _ _ c.requires.table c.left_in-left.result
    (omega (arith, c.left_in-left.ensures, c.requires.inside))

pub state_at-q-requires : goal.state_at-q-requires
state_at-q-requires c =
    state_in _ _ _ _ _ _ _ _ c.requires.table (c.args.v - 1) (omega (arith, c.requires.inside))

pub bounds-inner-row : goal.bounds-inner-row
bounds-inner-row c =
    rule-place _ _ _ _ _ _ _ _ c.requires.table c.args.v c.requires.pos c.requires.inside
    c.left_in-left.result c.state_at-p.result
    c.state_at-q.result
    c.left_in-left.ensures c.state_at-p.ensures.0
    c.state_at-q.ensures.0

pub overflow_mul-x : goal.overflow_mul-x
overflow_mul-x c =
    omega (arith, row_small _ _ _ _ _ _ _ _ c.requires.table c.args.v c.requires.inside)

pub bounds-state_table-v : goal.bounds-state_table-v
bounds-state_table-v c =
    omega (arith, row_room _ _ _ _ _ _ _ _ c.requires.table c.args.v c.requires.inside)

pub returns : goal.returns
returns c =
    let g = c.args in
    let l = c.left_in-left in
    let p = c.state_at-p in
    let q = c.state_at-q in
    placed g.labels.now g.node_table.now g.leaves.now g.inner.now g.s g.k g.n
    g.state_table.now c.requires.table g.v c.requires.pos c.requires.inside l.result p.result q.result
    _ l.ensures p.ensures.0 q.ensures.0
    (xor-test (state_cell g.s g.state_table.now g.v)
    (get_or g.inner.now ((p.result * g.k + get_or g.labels.now g.v 0) * g.s + q.result) 0))
