-- Both children's maps written byte by byte, and the 16 states that are read first.
--     pair-iteration               one byte more of each map written
--     pair-other, cell_other       other maps are as they were, after both and after one store
--     FarTurn, far-turn            what an iteration of `far_pair` reads and writes
--     line-entry                   a state read as an entry of a row
use Prim.Native.Nat.{ℕ, ◌+◌, ◌*◌, ◌≤◌, ◌<◌}
use mathlib.Core.Path.{◌≡◌, refl, ap, ◌∙◌}
use mathlib.Core.List.{List}
use native.Mathlib.Decide.{ℕ_discrete}
use native.Mathlib.Omega.{arith}
use lib.ListN.{length, get_or, set, length-set}
use lib.Seq.{get_or-set_same, get_or-set_other}
use Rattle.list_laws.proofs.RowLaws.{cells-apart}
use Rattle.tables.specs.StateCells.{map_cell}
use Rattle.tables.specs.inner.Rows.{far_cell}
use Rattle.tables.specs.inner.MapPairs.{PairTo, FarPairArgs}
use Rattle.tables.proofs.RowLoop.{placed, far-here-below, far-near-below, far-is}

-- a store into node r's map leaves the others
pub cell_other : (s : ℕ) (b : List ℕ) (r i y u q : ℕ) → (u ≡ r → ⊥) → i < s → q < s
    → map_cell s (set b (r * (s + 1) + 1 + i) y) u q ≡ map_cell s b u q
cell_other s b r i y u q ne h l =
    get_or-set_other b (r * (s + 1) + 1 + i) (u * (s + 1) + (1 + q)) y 0
    (λ e. cells-apart (s + 1) u r (1 + q) (1 + i) (omega arith) (omega arith) ne (omega arith))

module _ (s : ℕ) (f g : ℕ → ℕ) (r l i : ℕ) (b₀ b : List ℕ) (P : PairTo s f g r l i b₀ b) where
  pub pair-other : (u q : ℕ) → (u ≡ r → ⊥) → (u ≡ l → ⊥) → i ≤ s → q < s → map_cell s b u q ≡ map_cell s b₀ u q
  pair-other u q nr nl few h =
      P.kept (u * (s + 1) + (1 + q))
      (λ x lx e. cells-apart (s + 1) u r (1 + q) (1 + x) (omega arith) (omega arith) nr e)
      (λ x lx e. cells-apart (s + 1) u l (1 + q) (1 + x) (omega arith) (omega arith) nl e)

  module _ (ne : r ≡ l → ⊥) (h : i < s) (x y : ℕ) where
    abbrev both : List ℕ
    both = set (set b (r * (s + 1) + 1 + i) x) (l * (s + 1) + 1 + i) y

    right-cell : (q : ℕ) → q < i + 1 → r * (s + 1) + 1 + i < length b → x ≡ f i → map_cell s both r q ≡ f q
    right-cell q h₁ room e =
        cell_other s (set b (r * (s + 1) + 1 + i) x) l i y r q ne h (omega arith)
        ∙ elim (ℕ_discrete q i) [
          | yes p ↦ (let z : r * (s + 1) + (1 + q) ≡ r * (s + 1) + 1 + i = omega arith in
              rw (z, p) (get_or-set_same b (r * (s + 1) + 1 + i) x 0 room ∙ e))
          | no p ↦ get_or-set_other b (r * (s + 1) + 1 + i) (r * (s + 1) + (1 + q)) x 0 (omega arith)
              ∙ P.right q (omega arith)
        ]

    left-cell : (q : ℕ) → q < i + 1 → l * (s + 1) + 1 + i < length b → y ≡ g i → map_cell s both l q ≡ g q
    left-cell q h₁ room e =
        let b₁ : List ℕ = set b (r * (s + 1) + 1 + i) x in
        elim (ℕ_discrete q i) [
          | yes p ↦ (let z : l * (s + 1) + (1 + q) ≡ l * (s + 1) + 1 + i = omega arith in
              rw (z, p) (get_or-set_same b₁ (l * (s + 1) + 1 + i) y 0 (simp length-set room) ∙ e))
          | no p ↦ get_or-set_other b₁ (l * (s + 1) + 1 + i) (l * (s + 1) + (1 + q)) y 0 (omega arith)
              ∙ cell_other s b r i x l q (λ z. ne (omega arith)) h (omega arith) ∙ P.left q (omega arith)
        ]

    pub pair-iteration : r * (s + 1) + 1 + i < length b → l * (s + 1) + 1 + i < length b → x ≡ f i → y ≡ g i
        → PairTo s f g r l (i + 1) b₀ both
    pair-iteration rr rl ex ey = record {
      right = λ q l₁. right-cell q l₁ rr ex;
      left = λ q l₁. left-cell q l₁ rl ey;
      kept = λ j a c.
          get_or-set_other (set b (r * (s + 1) + 1 + i) x) (l * (s + 1) + 1 + i) j y 0
          (λ e. c i (omega arith) (omega arith))
          ∙ get_or-set_other b (r * (s + 1) + 1 + i) j x 0 (λ e. a i (omega arith) (omega arith))
          ∙ P.kept j (λ q m. a q (omega arith)) (λ q m. c q (omega arith));
    }

-- ---- an iteration of `far_pair`: the right row's entry, stored, then the left row's

abbrev pub right_stored : ℕ → ℕ → ℕ → ℕ → ℕ → List ℕ → ℕ → List ℕ → List ℕ
right_stored s v j r i table row b =
    set b (r * (s + 1) + 1 + i) (placed s b j (placed s b v (get_or table (row + i) 0)))

pub record FarTurn (s v j r l i : ℕ) (table : List ℕ) (row col step : ℕ) (b₀ b : List ℕ) : Type 0 where
  pub right_in : row + i < length table
  pub left_in : col + i * step < length table
  pub right-here : get_or table (row + i) 0 < s
  pub right_near : placed s b v (get_or table (row + i) 0) < s
  pub right_is : placed s b j (placed s b v (get_or table (row + i) 0)) ≡ far_cell s b₀ v j table row 1 i
  pub left_here : get_or table (col + i * step) 0 < s
  pub left_near : placed s (right_stored s v j r i table row b) v (get_or table (col + i * step) 0) < s
  pub left_is : placed s (right_stored s v j r i table row b) j
      (placed s (right_stored s v j r i table row b) v (get_or table (col + i * step) 0))
      ≡ far_cell s b₀ v j table col step i

module _ (s v j r l i : ℕ) (table : List ℕ) (row col step : ℕ) (b₀ b : List ℕ)
    (P : PairTo s (far_cell s b₀ v j table row 1) (far_cell s b₀ v j table col step) r l i b₀ b)
    (A : FarPairArgs b₀ s v j r l table row col step) (h : i < s) where
  unstored : (u : ℕ) → (u ≡ r → ⊥) → (u ≡ l → ⊥) → (q : ℕ) → q < s → map_cell s b u q ≡ map_cell s b₀ u q
  unstored u nr nl q lq =
      pair-other s (far_cell s b₀ v j table row 1) (far_cell s b₀ v j table col step) r l i b₀ b P u q nr nl (omega arith)
      lq

  stored : (u : ℕ) → (u ≡ r → ⊥) → (u ≡ l → ⊥) → (q : ℕ) → q < s
      → map_cell s (right_stored s v j r i table row b) u q ≡ map_cell s b₀ u q
  stored u nr nl q lq =
      cell_other s b r i (placed s b j (placed s b v (get_or table (row + i) 0))) u q nr h lq ∙ unstored u nr nl q lq

  pub far-turn : FarTurn s v j r l i table row col step b₀ b
  far-turn =
      let R = A.right in
      let L = A.left in
      let b₁ : List ℕ = right_stored s v j r i table row b in
      let near = unstored v R.near_other L.near_other in
      let far = unstored j R.far_other L.far_other in
      let near₁ = stored v R.near_other L.near_other in
      let far₁ = stored j R.far_other L.far_other in
      let e : row + i ≡ row + i * 1 = omega arith in
      record {
        right_in = omega (arith, R.inside i h);
        left_in = L.inside i h;
        right-here = far-here-below s r v j i table row 1 b₀ b near far R h (row + i) e;
        right_near = far-near-below s r v j i table row 1 b₀ b near far R h (row + i) e;
        right_is = far-is s r v j i table row 1 b₀ b near far R h (row + i) e;
        left_here = L.here_below i h;
        left_near = far-near-below s l v j i table col step b₀ b₁ near₁ far₁ L h (col + i * step) refl;
        left_is = far-is s l v j i table col step b₀ b₁ near₁ far₁ L h (col + i * step) refl;
      }

-- an entry of the states read, by the indices as the two rows have them
pub line-entry : (line table : List ℕ) (row q : ℕ) → get_or line q 0 ≡ get_or table (row + q) 0
    → get_or line (0 + q * 1) 0 ≡ get_or table (row + q * 1) 0
line-entry line table row q e =
    let z : 0 + q * 1 ≡ q = omega arith in
    let y : row + q ≡ row + q * 1 = omega arith in
    ap (λ (x : ℕ). get_or line x 0) z ∙ e ∙ ap (λ (x : ℕ). get_or table x 0) y
