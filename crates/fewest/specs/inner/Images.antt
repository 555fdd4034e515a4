-- The states that all labels give over two states, as sets.
--
-- image_has inn s k p q j == whether some label gives state j over states p and q
-- Image inn s k p q x == x is the set of these states, as bits
-- Images inn s k I == I has these sets of all states p and q, at p s + q; ImagesArgs == what it takes to write them
-- ImageArgs == what a row is lowered by with such a set: the labels are all permitted, and the states cost less than
--   65,536 together
-- ImagesFit inn s k a may I == I is empty; or it has these sets, and a node of label a may take every label
-- ImagesFor inn s k ls may I == I is empty; or it has these sets, the labels ls are below k, and no sets of labels are
--   given
use Rattle.std.specs.Prelude.{ℕ, ◌+◌, ◌*◌, ◌≤◌, ◌<◌, ◌≡◌, Bool, true, List, eqb, length, get_or}
use Rattle.state_sets.specs.StateSets.{member}
use Rattle.fewest.specs.Least.{no_way_out}
use Rattle.fewest.specs.inner.Rows.{RowArgs}
use Rattle.fewest.specs.inner.down.Search.{any_of}

abbrev pub image_has : List ℕ → ℕ → ℕ → ℕ → ℕ → ℕ → Bool
image_has inn s k p q j = any_of k (λ b. eqb (get_or inn ((p * k + b) * s + q) 0) j)

abbrev pub Image : List ℕ → ℕ → ℕ → ℕ → ℕ → ℕ → Type 0
Image inn s k p q x = (j : ℕ) → j < s → member x j ≡ image_has inn s k p q j

pub record Images (inn : List ℕ) (s k : ℕ) (I : List ℕ) : Type 0 where
  pub wide : s * s ≤ length I
  pub are : (p q : ℕ) → p < s → q < s → Image inn s k p q (get_or I (p * s + q) 0)

pub record ImagesArgs (inn : List ℕ) (s k m : ℕ) : Type 0 where
  pub some : 0 < s
  pub few : s ≤ 16
  pub labels : k ≤ 64
  pub inner_count : length inn ≡ s * k * s
  pub inner_below : (j : ℕ) → get_or inn j 0 < s
  pub room : s * s ≤ m

pub record ImageArgs (inn : List ℕ) (s k p q a : ℕ) (may : ℕ → Bool) (base x : ℕ) : Type 0 where
  pub row : RowArgs inn s k p q a base
  pub own : a < k
  pub all : (b : ℕ) → b < k → may b ≡ true
  pub below : base < no_way_out
  pub image : Image inn s k p q x

pub record Imaged (inn : List ℕ) (s k a : ℕ) (may : ℕ → Bool) (I : List ℕ) : Type 0 where
  pub own : a < k
  pub all : (b : ℕ) → b < k → may b ≡ true
  pub images : Images inn s k I

abbrev pub ImagesFit : List ℕ → ℕ → ℕ → ℕ → (ℕ → Bool) → List ℕ → Type 0
ImagesFit inn s k a may I = (length I ≡ 0 → ⊥) → Imaged inn s k a may I

abbrev pub ImagesFor : List ℕ → ℕ → ℕ → List ℕ → List ℕ → List ℕ → Type 0
ImagesFor inn s k ls may I = (length I ≡ 0 → ⊥) → (length may ≡ 0) × ((v : ℕ) → get_or ls v 0 < k) × Images inn s k I
