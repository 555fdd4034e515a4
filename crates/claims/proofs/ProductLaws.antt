-- What Products cites of lines and their numbers.
--     lines-read, length-lines   the lines of a buffer whose numbers are those of a reply's arrays
--     row-numbers                a reply's numbers are those of its lines
use Prim.Native.Nat.{ℕ, zero, suc, ◌+◌, ◌*◌, ◌≤◌, ◌<◌}
use mathlib.Core.Path.{◌≡◌, refl, sym, ap, ap₂, ◌∙◌}
use mathlib.Core.List.{List, [], ◌∷◌, ◌++◌}
use native.Mathlib.Omega.{arith}
use lib.ListN.{length, get_or, take, length-append}
use lib.Seq.{take-suc, take-length}
use Rattle.list_laws.specs.Rows.{rows}
use Rattle.products.specs.agreement.Lines.{Line, leaf_line}
use Rattle.products.specs.agreement.reachable.SearchRecord.{line_of, line_from, lines_from}
use Rattle.products.specs.agreement.Reply.{line_kind, line_label, line_left, line_right, column}
use Rattle.products.proofs.agreement.ReplyLaws.{column_at}
use Rattle.capi.specs.product_calls.Exported.{line_row, line_numbers}
use Rattle.claims.specs.ProductBuffers.{line_in, lines_in, numbers_of_lines}

-- the lines that were written, read again
pub lines-read : (ks bs ls rs lines : List ℕ) (m : ℕ)
    → ((i k : ℕ) → i < m → k < 4 → get_or lines (i * 4 + k) 0 ≡ get_or (line_row ks bs ls rs i) k 0)
    → lines_in lines m ≡ lines_from ks bs ls rs m
unfolding lines_in lines_from
lines-read ks bs ls rs lines zero cells = refl
lines-read ks bs ls rs lines (suc m) cells =
    let z : m * 4 + 0 ≡ m * 4 = omega arith in
    let a : get_or lines (m * 4) 0 ≡ get_or ks m 0 =
    ap (λ (j : ℕ). get_or lines j 0) (sym z) ∙ cells m 0 (omega arith) (omega arith) in
    let b : get_or lines (m * 4 + 1) 0 ≡ get_or bs m 0 = cells m 1 (omega arith) (omega arith) in
    let c : get_or lines (m * 4 + 2) 0 ≡ get_or ls m 0 = cells m 2 (omega arith) (omega arith) in
    let d : get_or lines (m * 4 + 3) 0 ≡ get_or rs m 0 = cells m 3 (omega arith) (omega arith) in
    let w : line_in lines m ≡ line_from ks bs ls rs m =
    ap₂ (λ (x y : ℕ). line_of x y (get_or lines (m * 4 + 2) 0) (get_or lines (m * 4 + 3) 0)) a b
    ∙ ap₂ (λ (x y : ℕ). line_of (get_or ks m 0) (get_or bs m 0) x y) c d in
    ap₂ (λ (x : List Line) (y : Line). x ++ (y ∷ []))
    (lines-read ks bs ls rs lines m (λ i k h l. cells i k (omega arith) l)) w

pub length-lines : (lines : List ℕ) (m : ℕ) → length (lines_in lines m) ≡ m
unfolding lines_in
length-lines lines zero = refl
length-lines lines (suc m) =
    length-append (lines_in lines m) (line_in lines m ∷ []) ∙ omega (arith, length-lines lines m)

-- ---- numbers of lines

numbers-append : (xs : List Line) (y : Line)
    → numbers_of_lines (xs ++ (y ∷ [])) ≡ numbers_of_lines xs ++ numbers_of_lines (y ∷ [])
numbers-append [] y = refl
numbers-append (x ∷ xs) y =
    ap (λ (l : List ℕ). line_kind x ∷ line_label x ∷ line_left x ∷ line_right x ∷ l) (numbers-append xs y)

module _ (xs : List Line) (few : length xs ≤ 256) where
  row_is : (n : ℕ) → n < length xs
      → line_row (column line_kind xs) (column line_label xs) (column line_left xs) (column line_right xs) n
      ≡ numbers_of_lines (get_or xs n (leaf_line 0) ∷ [])
  row_is n h =
      let i : n < 256 = omega arith in
      ap₂ (λ (a b : ℕ). a ∷ b ∷ get_or (column line_left xs) n 0 ∷ get_or (column line_right xs) n 0 ∷ [])
      (column_at line_kind xs n i) (column_at line_label xs n i)
      ∙ ap₂ (λ (a b : ℕ). line_kind (get_or xs n (leaf_line 0)) ∷ line_label (get_or xs n (leaf_line 0)) ∷ a ∷ b ∷ [])
      (column_at line_left xs n i) (column_at line_right xs n i)

  rows_upto : (n : ℕ) → n ≤ length xs
      → line_numbers (column line_kind xs) (column line_label xs) (column line_left xs) (column line_right xs) n
      ≡ numbers_of_lines (take n xs)
  unfolding rows
  rows_upto zero h = refl
  rows_upto (suc n) h =
      ap₂ (λ (l k : List ℕ). l ++ k) (rows_upto n (omega arith)) (row_is n (omega arith))
      ∙ sym (numbers-append (take n xs) (get_or xs n (leaf_line 0)))
      ∙ ap numbers_of_lines (sym (take-suc xs n (leaf_line 0) (omega arith)))

  pub row-numbers : line_numbers (column line_kind xs) (column line_label xs) (column line_left xs) (column line_right xs)
      (length xs) ≡ numbers_of_lines xs
  row-numbers = rows_upto (length xs) (omega arith) ∙ ap numbers_of_lines (take-length xs)
