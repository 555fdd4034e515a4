-- One iteration of each loop of merge: what its part asks is there, and what it writes is the table's next stretch.
--     row_next                     a row, stretch by stretch
--     nth-parts, nth-row, nth-is   row r of the inner run, from a row of each table
--     inner-call, inner-next       the inner run, row by row
--     word-written, head-written   the header, byte by byte and number by number
use Prim.Native.Nat.{ℕ, ◌+◌, ◌*◌, ◌/◌, ◌%◌, ◌-◌, ◌≤◌, ◌<◌}
use mathlib.Core.Path.{◌≡◌, refl, sym, ap, ap₂, ◌∙◌, subst}
use mathlib.Core.List.{List, [], ◌∷◌, ◌++◌}
use native.Mathlib.Omega.{arith}
use native.Mathlib.Nat.{div-lt_iff_lt-mul, mod-lt}
use lib.Arith.{digits_div, digits_mod, digits_lt}
use lib.ListN.{length, get_or, take, drop, set}
use lib.Seq.{get_or-take, get_or-drop}
use Rattle.list_laws.specs.Rows.{tabulate}
use Rattle.list_laws.proofs.RowLaws.{stride, tabulate-ext}
use Rattle.formats.specs.Bytes.{le32_bytes}
use Rattle.list_laws.proofs.SliceLaws.{length_part}
use Rattle.products.specs.merging.Merged.{rule_head}
use Rattle.products.specs.merging.Writes.{written, row_cell, row_at, inner_cell, first_row, second_row, Room}
use Rattle.products.specs.merging.Writes.{RowArgs, Inner, NthRowArgs, InnerArgs, HeadArgs}
use Rattle.products.proofs.merging.WriteLaws.{Fill, fill-block, written_none, written_one, written_next}

-- ---- a row

module _ (f g : List ℕ) (s2 at : ℕ) (l₀ l : List ℕ) (p : ℕ) (A : RowArgs f g s2 at l₀)
    (F : Fill at (length f * s2) (row_cell f g s2) l₀ l (p * s2)) (h : p < length f) where
  next-in : p * s2 + s2 ≤ length f * s2
  next-in = stride s2 p (length f) h

  same-cell : (q : ℕ) → q < length g → get_or f p 0 * s2 + get_or g q 0 ≡ row_cell f g s2 (p * s2 + q)
  same-cell q m =
      let i : q < s2 = omega (arith, A.width) in
      let e : (p * s2 + q) / s2 ≡ p = digits_div p i in
      let d : (p * s2 + q) % s2 ≡ q = digits_mod p i in
      sym (ap₂ (λ (x y : ℕ). get_or f x 0 * s2 + get_or g y 0) e d)

  pub row_next : (r : List ℕ) → r ≡ written (at + p * s2) (tabulate (length g) (λ q. get_or f p 0 * s2 + get_or g q 0)) l
      → Fill at (length f * s2) (row_cell f g s2) l₀ r ((p + 1) * s2)
  row_next r e =
      fill-block F (length g) ((p + 1) * s2) (omega (arith, A.width))
      (omega (arith, next-in)) (λ q. get_or f p 0 * s2 + get_or g q 0) same-cell r e

-- ---- row r of the inner run

module _ (f g : List ℕ) (s1 s2 k r : ℕ) (I : Inner f g s1 s2 k) (inside : r < s1 * s2 * k) where
  left_in : r / k < s1 * s2
  left_in = (div-lt_iff_lt-mul I.labels_least).1 inside

  label_in : r % k < k
  label_in = mod-lt r I.labels_least

  first_in : r / k / s2 < s1
  first_in = (div-lt_iff_lt-mul I.second_least).1 left_in

  second_in : r / k % s2 < s2
  second_in = mod-lt (r / k) I.second_least

  pub first-end : first_row s1 s2 k r + s1 ≤ length f
  first-end = omega (arith, stride s1 (r / k / s2 * k + r % k) (s1 * k) (digits_lt first_in label_in), I.first_length)

  pub second-end : second_row s2 k r + s2 ≤ length g
  second-end = omega (arith, stride s2 (r / k % s2 * k + r % k) (s2 * k) (digits_lt second_in label_in), I.second_length)

  abbrev f_row : List ℕ
  f_row = take (first_row s1 s2 k r + s1 - first_row s1 s2 k r) (drop (first_row s1 s2 k r) f)

  abbrev g_row : List ℕ
  g_row = take (second_row s2 k r + s2 - second_row s2 k r) (drop (second_row s2 k r) g)

  first_part : f_row ≡ take s1 (drop (first_row s1 s2 k r) f)
  first_part = let e : first_row s1 s2 k r + s1 - first_row s1 s2 k r ≡ s1 = omega arith in ap (λ (n : ℕ). take n (drop
      (first_row s1 s2 k r) f)) e

  second-part : g_row ≡ take s2 (drop (second_row s2 k r) g)
  second-part = let e : second_row s2 k r + s2 - second_row s2 k r ≡ s2 = omega arith in ap (λ (n : ℕ). take n (drop
      (second_row s2 k r) g)) e

  first_width : length f_row ≡ s1
  first_width = ap length first_part ∙ length_part f (first_row s1 s2 k r) s1 first-end

  second-width : length g_row ≡ s2
  second-width = ap length second-part ∙ length_part g (second_row s2 k r) s2 second-end

  first-at : (i : ℕ) → i < s1 → get_or f_row i 0 ≡ get_or f (first_row s1 s2 k r + i) 0
  first-at i h =
      ap (λ (l : List ℕ). get_or l i 0) first_part
      ∙ get_or-take s1 (drop (first_row s1 s2 k r) f) i 0 h
      ∙ get_or-drop (first_row s1 s2 k r) f i 0

  second_at : (i : ℕ) → i < s2 → get_or g_row i 0 ≡ get_or g (second_row s2 k r + i) 0
  second_at i h =
      ap (λ (l : List ℕ). get_or l i 0) second-part
      ∙ get_or-take s2 (drop (second_row s2 k r) g) i 0 h
      ∙ get_or-drop (second_row s2 k r) g i 0

  pub nth-row : (at : ℕ) (l : List ℕ) → Room at (s1 * s2) l → RowArgs f_row g_row s2 at l
  nth-row at l R = record {
    room = subst (λ (n : ℕ). Room at (n * s2) l) (sym first_width) R;
    least = I.second_least;
    width = second-width;
    small = λ i j hi hj.
        let x : get_or f_row i 0 ≡ get_or f (first_row s1 s2 k r + i) 0 = first-at i (omega (arith, first_width)) in
        let y : get_or g_row j 0 ≡ get_or g (second_row s2 k r + j) 0 = second_at j (omega (arith, second-width)) in
        subst (λ (v : ℕ). get_or f_row i 0 * s2 + v < 256) (sym y)
        (subst (λ (u : ℕ). u * s2 + get_or g (second_row s2 k r + j) 0 < 256) (sym x) (I.small (first_row s1 s2 k r + i)
        (second_row s2 k r + j)));
  }

  nth-cell : (q : ℕ) → q < s1 * s2 → row_cell f_row g_row s2 q ≡ row_at f g s1 s2 k r q
  nth-cell q h =
      ap₂ (λ (u v : ℕ). u * s2 + v) (first-at (q / s2) ((div-lt_iff_lt-mul I.second_least).1 h)) (second_at (q % s2)
      (mod-lt q I.second_least))

  pub nth-is : tabulate (length f_row * s2) (row_cell f_row g_row s2) ≡ tabulate (s1 * s2) (row_at f g s1 s2 k r)
  nth-is =
      ap (λ (n : ℕ). tabulate (n * s2) (row_cell f_row g_row s2)) first_width
      ∙ tabulate-ext (s1 * s2) (row_cell f_row g_row s2) (row_at f g s1 s2 k r) nth-cell

-- ---- the inner run

module _ (f g : List ℕ) (s1 s2 k at : ℕ) (l₀ l : List ℕ) (r : ℕ) (A : InnerArgs f g s1 s2 k at l₀)
    (F : Fill at (s1 * s2 * k * (s1 * s2)) (inner_cell f g s1 s2 k) l₀ l (r * (s1 * s2))) (h : r < s1 * s2 * k) where
  abbrev S : ℕ
  S = s1 * s2

  row_ends : r * S + S ≤ S * k * S
  row_ends = stride S r (S * k) h

  pub inner-call : NthRowArgs f g s1 s2 k r (at + r * S) l
  inner-call = record {
    inner = A.inner;
    inside = h;
    room = record {
      inside = omega (arith, row_ends, A.room.inside, F.long);
      small = omega (arith, row_ends, A.room.small);
    };
  }

  inner-same : (q : ℕ) → q < S → row_at f g s1 s2 k r q ≡ inner_cell f g s1 s2 k (r * S + q)
  inner-same q m =
      let e : (r * S + q) / S ≡ r = digits_div r m in
      let d : (r * S + q) % S ≡ q = digits_mod r m in
      sym (ap₂ (λ (x y : ℕ). row_at f g s1 s2 k x y) e d)

  pub inner-next : (z : List ℕ) → z ≡ written (at + r * S) (tabulate S (row_at f g s1 s2 k r)) l
      → Fill at (S * k * S) (inner_cell f g s1 s2 k) l₀ z ((r + 1) * S)
  inner-next z e =
      fill-block F S ((r + 1) * S) (omega arith) (omega (arith, row_ends)) (row_at f g s1 s2 k r) inner-same z e

-- ---- the header

pub word-written : (at n : ℕ) (l : List ℕ) → at + 4 ≤ length l
    → set (set (set (set l at (n % 256)) (at + 1) (n / 256 % 256)) (at + 2) (n / 65536 % 256)) (at + 3) (n / 16777216 % 256)
    ≡ written at (le32_bytes n) l
word-written at n l h =
    let a : ℕ = n % 256 in
    let b : ℕ = n / 256 % 256 in
    let c : ℕ = n / 65536 % 256 in
    let d : ℕ = n / 16777216 % 256 in
    let z : at + 0 ≡ at = omega arith in
    ap (λ (y : List ℕ). set (set (set y (at + 1) b) (at + 2) c) (at + 3) d)
    (ap₂ (λ (y : List ℕ) (j : ℕ). set y j a) (sym (written_none at l)) (sym z) ∙ written_one at [] l a (omega arith))
    ∙ ap (λ (y : List ℕ). set (set y (at + 2) c) (at + 3) d) (written_one at (a ∷ []) l b (omega arith))
    ∙ ap (λ (y : List ℕ). set y (at + 3) d) (written_one at (a ∷ b ∷ []) l c (omega arith))
    ∙ written_one at (a ∷ b ∷ c ∷ []) l d (omega arith)

module _ (s k m : ℕ) (l l1 l2 l3 l4 l5 : List ℕ) (A : HeadArgs s k l) (marks : m ≡ s * k * s) (e1 : l1 ≡ written 0
    (le32_bytes s) l)
    (e2 : l2 ≡ written 4 (le32_bytes k) l1) (e3 : l3 ≡ written 8 (le32_bytes 20) l2) (e4 : l4 ≡ written 12 (le32_bytes
    (20 + k)) l3)
    (e5 : l5 ≡ written 16 (le32_bytes (20 + k + m)) l4) where
  long : 20 ≤ length l
  long = A.room.inside

  pub head-written : l5 ≡ written 0 (rule_head s k) l
  unfolding rule_head
  head-written =
      e5
      ∙ ap (λ (x : ℕ). written 16 (le32_bytes (20 + k + x)) l4) marks
      ∙ ap (written 16 (le32_bytes (20 + k + s * k * s))) (e4 ∙ ap (written 12 (le32_bytes (20 + k))) (e3 ∙ ap (written 8
      (le32_bytes 20)) (e2
      ∙ ap (written 4 (le32_bytes k)) e1
      ∙ written_next 0 4 (le32_bytes s) (le32_bytes k) l refl (omega (arith, long)))
      ∙ written_next 0 8 (le32_bytes s ++ le32_bytes k) (le32_bytes 20) l refl (omega (arith, long)))
      ∙ written_next 0 12 (le32_bytes s ++ (le32_bytes k ++ le32_bytes 20)) (le32_bytes (20 + k)) l refl (omega (arith, long)))
      ∙ written_next 0 16 (le32_bytes s ++ (le32_bytes k ++ (le32_bytes 20 ++ le32_bytes (20 + k)))) (le32_bytes
      (20 + k + s * k * s)) l refl
      (omega (arith, long))
