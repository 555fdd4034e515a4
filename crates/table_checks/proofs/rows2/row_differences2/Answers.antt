-- `rows2::row_differences2` meets its contract.
use Prim.Native.Nat.{ℕ, ◌+◌, ◌*◌}
use mathlib.Core.Path.{◌≡◌, ap, ◌∙◌}
use mathlib.Core.Bool.{cond}
use native.Mathlib.Omega.{arith}
use lib.Dec.{eqb}
use lib.ListN.{get_or}
use Rattle.table_checks.proofs.TwoStateLaws.{near-at, rows-two}
use Rattle.table_checks.proofs.rows2.row_differences2.Goals as goal

pub entry_of-requires : goal.entry_of-requires
entry_of-requires c =
    let g = c.args in
    let m = c.two_maps-two.ensures in (
      m.zero_less,
      m.one_less,
      near-at g.inner.now g.row 1 0 g.row (omega arith) (c.requires.right_below 0 (omega arith)),
    )

pub entry_of-requires-2 : goal.entry_of-requires-2
entry_of-requires-2 c =
    let g = c.args in
    let m = c.two_maps-two.ensures in (
      m.zero_less,
      m.one_less,
      near-at g.inner.now g.row 1 1 (g.row + 1) (omega arith) (c.requires.right_below 1 (omega arith)),
    )

pub entry_of-requires-3 : goal.entry_of-requires-3
entry_of-requires-3 c =
    let g = c.args in
    let m = c.two_maps-two.ensures in (
      m.zero_less,
      m.one_less,
      near-at g.inner.now g.col g.step 0 g.col (omega arith) (c.requires.left_below 0 (omega arith)),
    )

pub entry_of-requires-4 : goal.entry_of-requires-4
entry_of-requires-4 c =
    let g = c.args in
    let m = c.two_maps-two.ensures in (
      m.zero_less,
      m.one_less,
      near-at g.inner.now g.col g.step 1 (g.col + g.step) (omega arith)
          (c.requires.left_below 1 (omega arith)),
    )

pub returns : goal.returns
returns c =
    let g = c.args in
    let m = c.two_maps-two in
    let e0 = c.entry_of in
    let e1 = c.entry_of-2 in
    let e2 = c.entry_of-3 in
    let e3 = c.entry_of-4 in
    let f : ℕ → ℕ = λ x. cond (eqb (get_or g.inner.now x 0) 0) m.result.zero m.result.one in
    let p0 : g.row ≡ g.row + 0 * 1 = omega arith in
    let p1 : g.row + 1 ≡ g.row + 1 * 1 = omega arith in
    let p2 : g.col ≡ g.col + 0 * g.step = omega arith in
    let p3 : g.col + g.step ≡ g.col + 1 * g.step = omega arith in
    rows-two g.node_table.now g.n g.state_table.now g.v g.inner.now g.left g.row g.col
    g.step m.result.zero m.result.one m.ensures c.requires.right_below c.requires.left_below
    e0.result e1.result e2.result e3.result (e0.ensures ∙ ap f p0) (e1.ensures ∙ ap f p1)
    (e2.ensures ∙ ap f p2) (e3.ensures ∙ ap f p3)
