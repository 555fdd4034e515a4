-- The laws of tables of rows, for any width w: cell k of row v is at v * w + k.
--     stride .. cell-split      indices: rows do not overlap, and every index below n * w is a cell
--     length-tabulate ..        a list by its entries
--     length-rows, get_d_rows    a table by its cells
--     rows-of-cells .. take-over  a buffer whose cells are a table's begins with the table, and back
use Prim.Native.Nat.{ℕ, zero, suc, ◌+◌, ◌-◌, ◌*◌, ◌≤◌, ◌<◌}
use mathlib.Core.Path.{◌≡◌, refl, sym, ap, ◌∙◌, subst}
use mathlib.Core.List.{List, [], ◌∷◌, ◌++◌}
use native.Mathlib.Decide.{dec_lt, ℕ_discrete}
use native.Mathlib.Nat.{mul-le-mul_right}
use native.Mathlib.Omega.{arith}
use lib.ListN.{length, get_or, take, drop, length-append, length-drop, get_or-append}
use lib.Seq.{ext_get_or, get_or-append-add, get_or-append_seam, get_or-take, length-take-le, take_at}
use Rattle.list_laws.specs.Rows.{tabulate, rows}
use Rattle.list_laws.proofs.AppendLaws.{get_d_past}

-- ---- indices

-- row v begins after row u has ended
pub stride : (w u v : ℕ) → u < v → u * w + w ≤ v * w
stride w u v h = omega (arith, mul-le-mul_right w h)

-- cells of different rows are different
pub cells-apart : (w u v a b : ℕ) → a < w → b < w → (u ≡ v → ⊥) → u * w + a ≡ v * w + b → ⊥
cells-apart w u v a b ha hb ne e = elim (dec_lt u v) [
  | yes h ↦ omega (arith, stride w u v h)
  | no h ↦ omega (arith, stride w v u (omega arith))
]

-- a cell is inside a buffer that has room for the table
pub cell_in : (w n v k m : ℕ) → v < n → k < w → n * w ≤ m → v * w + k < m
cell_in w n v k m h l room = omega (arith, stride w v n h)

-- index j is cell `column` of row `row`
pub record Cell (w n j : ℕ) : Type 0 where
  pub row : ℕ
  pub column : ℕ
  pub row_in : row < n
  pub column-in : column < w
  pub is : j ≡ row * w + column

pub cell-split : (w n j : ℕ) → j < n * w → Cell w n j
cell-split w zero j h = absurd (omega arith)
cell-split w (suc n) j h = elim (dec_lt j (n * w)) [
  | yes l ↦ (let c : Cell w n j = cell-split w n j l in
      let l : c.row < suc n = omega (arith, c.row_in) in
      record { row = c.row; column = c.column; row_in = l; column-in = c.column-in; is = c.is })
  | no l ↦ record { row = n; column = j - n * w; row_in = omega arith; column-in = omega arith; is = omega arith }
]

-- ---- a list by its entries

pub length-tabulate : (n : ℕ) (f : ℕ → ℕ) → length (tabulate n f) ≡ n
unfolding tabulate
length-tabulate zero f = refl
length-tabulate (suc n) f = length-append (tabulate n f) (f n ∷ []) ∙ omega (arith, length-tabulate n f)

pub get_d_tabulate : (n : ℕ) (f : ℕ → ℕ) (j : ℕ) → j < n → get_or (tabulate n f) j 0 ≡ f j
unfolding tabulate
get_d_tabulate zero f j h = absurd (omega arith)
get_d_tabulate (suc n) f j h = elim (ℕ_discrete j n) [
  | yes e ↦ rw e (subst (λ (k : ℕ). get_or (tabulate n f ++ (f n ∷ [])) k 0 ≡ f n) (length-tabulate n f)
      (get_or-append_seam (tabulate n f) (f n) [] 0))
  | no e ↦ get_or-append (tabulate n f) (f n ∷ []) 0 j (omega (arith, length-tabulate n f))
      ∙ get_d_tabulate n f j (omega arith)
]

pub tabulate-ext : (n : ℕ) (f g : ℕ → ℕ) → ((j : ℕ) → j < n → f j ≡ g j) → tabulate n f ≡ tabulate n g
tabulate-ext n f g e =
    ext_get_or 0 (tabulate n f) (tabulate n g) (length-tabulate n f ∙ sym (length-tabulate n g))
    (λ j h. each j (omega (arith, length-tabulate n f)))
  where
    each : (j : ℕ) → j < n → get_or (tabulate n f) j 0 ≡ get_or (tabulate n g) j 0
    each j h = get_d_tabulate n f j h ∙ e j h ∙ sym (get_d_tabulate n g j h)

-- a list is the table of its entries
pub tabulate-of : (n : ℕ) (f : ℕ → ℕ) (l : List ℕ) → length l ≡ n → ((j : ℕ) → j < n → get_or l j 0 ≡ f j)
    → l ≡ tabulate n f
tabulate-of n f l z e =
    ext_get_or 0 l (tabulate n f) (z ∙ sym (length-tabulate n f))
    (λ j h. e j (omega arith) ∙ sym (get_d_tabulate n f j (omega arith)))

-- ---- a table by its cells

pub length-rows : (n w : ℕ) (f : ℕ → List ℕ) → ((v : ℕ) → v < n → length (f v) ≡ w) → length (rows n f) ≡ n * w
unfolding rows
length-rows zero w f wide = omega arith
length-rows (suc n) w f wide =
    length-append (rows n f) (f n)
    ∙ omega (arith, length-rows n w f (λ v h. wide v (omega arith)), wide n (omega arith))

pub get_d_rows : (n w : ℕ) (f : ℕ → List ℕ) → ((v : ℕ) → v < n → length (f v) ≡ w) → (v k : ℕ) → v < n → k < w
    → get_or (rows n f) (v * w + k) 0 ≡ get_or (f v) k 0
unfolding rows
get_d_rows zero w f wide v k h l = absurd (omega arith)
get_d_rows (suc n) w f wide v k h l =
    let z : length (rows n f) ≡ n * w = length-rows n w f (λ u q. wide u (omega arith)) in
    elim (ℕ_discrete v n) [
      | yes e ↦ rw e (subst (λ (m : ℕ). get_or (rows n f ++ f n) (m + k) 0 ≡ get_or (f n) k 0) z
          (get_or-append-add (rows n f) (f n) k 0))
      | no e ↦ get_or-append (rows n f) (f n) 0 (v * w + k) (omega (arith, stride w v n (omega arith)))
          ∙ get_d_rows n w f (λ u q. wide u (omega arith)) v k (omega arith) l
    ]

pub rows_ext : (n : ℕ) (f g : ℕ → List ℕ) → ((v : ℕ) → v < n → f v ≡ g v) → rows n f ≡ rows n g
unfolding rows
rows_ext zero f g e = refl
rows_ext (suc n) f g e = rw (rows_ext n f g (λ v h. e v (omega arith)), e n (omega arith))

-- ---- a buffer and a table

module _ (n w : ℕ) (f : ℕ → List ℕ) (wide : (v : ℕ) → v < n → length (f v) ≡ w) where
  pub take-over : (rest : List ℕ) → take (n * w) (rows n f ++ rest) ≡ rows n f
  take-over rest = take_at (rows n f) rest (n * w) (length-rows n w f wide)

  pub rows-of-cells : (b : List ℕ) → n * w ≤ length b
      → ((v k : ℕ) → v < n → k < w → get_or b (v * w + k) 0 ≡ get_or (f v) k 0)
      → take (n * w) b ≡ rows n f
  rows-of-cells b room cells =
      ext_get_or 0 (take (n * w) b) (rows n f) (z ∙ sym (length-rows n w f wide)) (λ j h. each j (omega (arith, z)))
    where
      z : length (take (n * w) b) ≡ n * w
      z = length-take-le (n * w) b room

      each : (j : ℕ) → j < n * w → get_or (take (n * w) b) j 0 ≡ get_or (rows n f) j 0
      each j h =
          let c : Cell w n j = cell-split w n j h in
          get_or-take (n * w) b j 0 h ∙ ap (λ (i : ℕ). get_or b i 0) c.is
          ∙ cells c.row c.column c.row_in c.column-in
          ∙ sym (ap (λ (i : ℕ). get_or (rows n f) i 0) c.is
          ∙ get_d_rows n w f wide c.row c.column c.row_in c.column-in)

  pub cells-of-rows : (b : List ℕ) → take (n * w) b ≡ rows n f → (v k : ℕ) → v < n → k < w
      → get_or b (v * w + k) 0 ≡ get_or (f v) k 0
  cells-of-rows b e v k h l =
      sym (get_or-take (n * w) b (v * w + k) 0 (cell_in w n v k (n * w) h l (omega arith)))
      ∙ ap (λ (x : List ℕ). get_or x (v * w + k) 0) e ∙ get_d_rows n w f wide v k h l

  pub rows-over : (before after : List ℕ) → length after ≡ length before → n * w ≤ length before
      → ((v k : ℕ) → v < n → k < w → get_or after (v * w + k) 0 ≡ get_or (f v) k 0)
      → ((j : ℕ) → n * w ≤ j → get_or after j 0 ≡ get_or before j 0)
      → after ≡ rows n f ++ drop (n * w) before
  rows-over before after e room cells kept = ext_get_or 0 after (rows n f ++ drop (n * w) before) len each
    where
      z : length (rows n f) ≡ n * w
      z = length-rows n w f wide

      len : length after ≡ length (rows n f ++ drop (n * w) before)
      len = sym (length-append (rows n f) (drop (n * w) before) ∙ omega (arith, z, length-drop (n * w) before))

      each : (j : ℕ) → j < length after → get_or after j 0 ≡ get_or (rows n f ++ drop (n * w) before) j 0
      each j h = elim (dec_lt j (n * w)) [
        | yes l ↦ sym (get_or-take (n * w) after j 0 l)
            ∙ ap (λ (x : List ℕ). get_or x j 0) (rows-of-cells after (omega arith) cells)
            ∙ sym (get_or-append (rows n f) (drop (n * w) before) 0 j (omega (arith, z)))
        | no l ↦ kept j (omega arith) ∙ sym (get_d_past (rows n f) before (n * w) j z (omega arith))
      ]
