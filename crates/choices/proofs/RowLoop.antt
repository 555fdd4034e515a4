-- What the table begins with after put_row.
--     put-rows     the rows before and the row written
use Prim.Native.Nat.{ℕ, ◌+◌, ◌*◌, ◌≤◌, ◌<◌}
use mathlib.Core.Path.{◌≡◌, sym, ◌∙◌}
use mathlib.Core.List.{List, ◌++◌}
use native.Mathlib.Omega.{arith}
use lib.ListN.{length, take, drop, length-drop}
use lib.Seq.{get_or-take, get_or-drop, take-add, length-take-le, ext_get_or}
use Rattle.list_laws.proofs.SliceLaws.{append-both}
use Rattle.choices.specs.inner.Parts.{RowPut}

module _ (b : List ℕ) (i : ℕ) (r : List ℕ) where
  -- the rows before, and the row
  module _ (m : List ℕ) (P : RowPut b i r m) (room : i * 16 + 16 ≤ length b) (sixteen : length r ≡ 16) where
    front : take (i * 16) m ≡ take (i * 16) b
    front =
        let x = length-take-le (i * 16) m (omega (arith, P.same)) in
        let y = length-take-le (i * 16) b (omega arith) in
        ext_get_or 0 (take (i * 16) m) (take (i * 16) b) (x ∙ sym y)
        (λ j h.
        let g : j < i * 16 = omega (arith, x) in
        get_or-take (i * 16) m j 0 g ∙ P.kept j g ∙ sym (get_or-take (i * 16) b j 0 g))

    back : take 16 (drop (i * 16) m) ≡ r
    back =
        let x = length-take-le 16 (drop (i * 16) m) (simp length-drop (omega (arith, P.same))) in
        ext_get_or 0 (take 16 (drop (i * 16) m)) r (x ∙ sym sixteen)
        (λ j h.
        let g : j < 16 = omega (arith, x) in
        get_or-take 16 (drop (i * 16) m) j 0 g ∙ get_or-drop (i * 16) m j 0 ∙ P.row j g)

    pub put-rows : take (i * 16 + 16) m ≡ take (i * 16) b ++ r
    put-rows = take-add (i * 16) 16 m ∙ append-both front back
