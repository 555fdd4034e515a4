-- What an iteration of `far_pair` reads, to write a map by a table and two maps.
--     placed                     a byte of a map, by its index as the code computes it
--     far-here-below .. far-is   the byte read in the table and in each of the two maps; the last is the byte to write
use Prim.Native.Nat.{ℕ, ◌+◌, ◌*◌, ◌<◌}
use mathlib.Core.Path.{◌≡◌, ap, ◌∙◌}
use mathlib.Core.List.{List}
use native.Mathlib.Omega.{arith}
use lib.ListN.{get_or}
use Rattle.tables.specs.StateCells.{map_cell}
use Rattle.tables.specs.inner.Rows.{FarArgs, far_cell}

-- the indices as the code computes them
abbrev pub placed : ℕ → List ℕ → ℕ → ℕ → ℕ
placed s b v q = get_or b (v * (s + 1) + 1 + q) 0

placed-is : (s : ℕ) (b : List ℕ) (v q : ℕ) → placed s b v q ≡ map_cell s b v q
placed-is s b v q = let e : v * (s + 1) + 1 + q ≡ v * (s + 1) + (1 + q) = omega arith in ap (λ (j : ℕ). get_or b j 0) e

-- the maps of p and of j are as they were; `at` is the index of entry i, as the code computes it
module _ (s v p j i : ℕ) (table : List ℕ) (base stride : ℕ) (b₀ b : List ℕ)
    (Near-same : (q : ℕ) → q < s → map_cell s b p q ≡ map_cell s b₀ p q)
    (far-same : (q : ℕ) → q < s → map_cell s b j q ≡ map_cell s b₀ j q)
    (args : FarArgs b₀ s v p j table base stride) (h : i < s) (at : ℕ) (e : at ≡ base + i * stride) where
  pub far-here-below : get_or table at 0 < s
  far-here-below = rw e (args.here_below i h)

  far-near : placed s b p (get_or table at 0) ≡ map_cell s b₀ p (get_or table at 0)
  far-near = placed-is s b p (get_or table at 0) ∙ Near-same (get_or table at 0) far-here-below

  pub far-near-below : placed s b p (get_or table at 0) < s
  far-near-below = rw far-near (args.near_below (get_or table at 0) far-here-below)

  pub far-is : placed s b j (placed s b p (get_or table at 0)) ≡ far_cell s b₀ p j table base stride i
  far-is =
      let x : ℕ = map_cell s b₀ p (get_or table at 0) in
      ap (placed s b j) far-near ∙ placed-is s b j x
      ∙ far-same x (args.near_below (get_or table at 0) far-here-below)
      ∙ ap (λ (y : ℕ). map_cell s b₀ j (map_cell s b₀ p (get_or table y 0))) e
