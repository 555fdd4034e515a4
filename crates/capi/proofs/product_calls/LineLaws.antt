-- The lines of a reply, written out.
--     line-written                     four numbers, one behind the other
--     LinesLoop                        the invariant of put_lines: i lines are written
--     lines_start, lines-call, lines_next, lines-done    its start, what a line requires, one line more, its end
use Prim.Native.Nat.{ℕ, suc, ◌+◌, ◌*◌, ◌≤◌, ◌<◌}
use mathlib.Core.Path.{◌≡◌, refl, sym, ap, ap₂, ◌∙◌}
use mathlib.Core.List.{List, [], ◌∷◌}
use native.Mathlib.Omega.{arith}
use lib.ListN.{length, set}
use Rattle.list_laws.specs.Rows.{rows}
use Rattle.list_laws.proofs.RowLaws.{length-rows}
use Rattle.products.specs.merging.Writes.{written}
use Rattle.products.proofs.merging.WriteLaws.{length-written, written_none, written_one, written_behind}
use Rattle.capi.specs.product_calls.Exported.{line_row, line_numbers, LineArgs, LinesArgs}

pub line-written : (at a b c d : ℕ) (l : List ℕ) → at + 4 ≤ length l
    → set (set (set (set l at a) (at + 1) b) (at + 2) c) (at + 3) d ≡ written at (a ∷ b ∷ c ∷ d ∷ []) l
line-written at a b c d l h =
    let z : at + 0 ≡ at = omega arith in
    ap (λ (y : List ℕ). set (set (set y (at + 1) b) (at + 2) c) (at + 3) d)
    (ap₂ (λ (y : List ℕ) (j : ℕ). set y j a) (sym (written_none at l)) (sym z) ∙ written_one at [] l a (omega arith))
    ∙ ap (λ (y : List ℕ). set (set y (at + 2) c) (at + 3) d) (written_one at (a ∷ []) l b (omega arith))
    ∙ ap (λ (y : List ℕ). set y (at + 3) d) (written_one at (a ∷ b ∷ []) l c (omega arith))
    ∙ written_one at (a ∷ b ∷ c ∷ []) l d (omega arith)

module _ (ks bs ls rs : List ℕ) where
  pub length-lines : (n : ℕ) → length (line_numbers ks bs ls rs n) ≡ n * 4
  length-lines n = length-rows n 4 (line_row ks bs ls rs) (λ v h. refl)

  pub record LinesLoop (n : ℕ) (l₀ l : List ℕ) (i : ℕ) : Type 0 where
    pub args : LinesArgs ks bs ls rs n l₀
    pub upto : i ≤ n
    pub long : length l ≡ length l₀
    pub is : l ≡ written 0 (line_numbers ks bs ls rs i) l₀

  pub lines_start : (n : ℕ) (l : List ℕ) → LinesArgs ks bs ls rs n l → LinesLoop n l l 0
  unfolding rows
  lines_start n l A = record { args = A; upto = omega arith; long = refl; is = sym (written_none 0 l) }

  module _ (n : ℕ) (l₀ l : List ℕ) (i : ℕ) (L : LinesLoop n l₀ l i) where
    pub lines-call : i < n → LineArgs (i * 4) l
    lines-call h = record { inside = omega (arith, L.args.room, L.long); small = omega (arith, L.args.few) }

    pub lines_next : i < n → (r : List ℕ) → r ≡ written (i * 4) (line_row ks bs ls rs i) l → LinesLoop n l₀ r (i + 1)
    unfolding rows
    lines_next h r e =
        let s : suc i ≡ i + 1 = omega arith in
        let w : r ≡ written 0 (line_numbers ks bs ls rs (i + 1)) l₀ =
        e
        ∙ ap (written (i * 4) (line_row ks bs ls rs i)) L.is
        ∙ written_behind (i * 4) (line_numbers ks bs ls rs i) (line_row ks bs ls rs i) l₀ (length-lines i) (omega
        (arith, L.args.room))
        ∙ ap (λ (m : ℕ). written 0 (line_numbers ks bs ls rs m) l₀) s in
        record {
          args = L.args;
          upto = omega arith;
          long = ap length w ∙ length-written 0 (line_numbers ks bs ls rs (i + 1)) l₀ (omega (
            arith,
            length-lines
                (i + 1),
            L.args.room,
          ));
          is = w;
        }

    pub lines-done : n ≤ i → l ≡ written 0 (line_numbers ks bs ls rs n) l₀
    lines-done h = let e : i ≡ n = omega (arith, L.upto) in L.is ∙ ap (λ (m : ℕ). written 0
        (line_numbers ks bs ls rs m) l₀) e
