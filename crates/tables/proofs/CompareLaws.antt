-- The laws of comparisons: `every` by its numbers, and one number more.
--     every-all, every-at   it holds exactly where each number's test does; every-not: not where one does not
--     row_equals-map, map-row_equals  a row is a map exactly where its entries are
--     every-same, every-other   one number more: what a loop that keeps a flag uses
use Prim.Native.Nat.{ℕ, zero, suc, ◌+◌, ◌<◌}
use mathlib.Core.Path.{◌≡◌, refl, sym, ap, ◌∙◌}
use mathlib.Core.Bool.{Bool, true, false, ◌&&◌}
use mathlib.Core.List.{List}
use native.Mathlib.Decide.{ℕ_discrete}
use native.Mathlib.Numerals.{add-one}
use native.Mathlib.Omega.{arith}
use lib.Dec.{eqb}
use borrow.Author.Tests.{eq-eqb, ne_eqb, eqb-true}
use Rattle.list_laws.proofs.BoolLaws.{and_both, and_left, and_right, and-no-right}
use Rattle.tables.specs.StateCells.{map_cell}
use Rattle.tables.specs.inner.Compare.{every, row_equals}

pub every-all : (n : ℕ) (f : ℕ → Bool) → ((q : ℕ) → q < n → f q ≡ true) → every n f ≡ true
unfolding every
every-all zero f h = refl
every-all (suc n) f h = and_both (every n f) (f n) (every-all n f (λ q l. h q (omega arith))) (h n (omega arith))

pub every-at : (n : ℕ) (f : ℕ → Bool) → every n f ≡ true → (q : ℕ) → q < n → f q ≡ true
unfolding every
every-at zero f e q h = absurd (omega arith)
every-at (suc n) f e q h = elim (ℕ_discrete q n) [
  | yes z ↦ rw z (and_right (every n f) (f n) e)
  | no z ↦ every-at n f (and_left (every n f) (f n) e) q (omega arith)
]

pub every-not : (n : ℕ) (f : ℕ → Bool) (q : ℕ) → q < n → f q ≡ false → every n f ≡ false
unfolding every
every-not zero f q h e = absurd (omega arith)
every-not (suc n) f q h e = elim (ℕ_discrete q n) [
  | yes z ↦ and-no-right (every n f) (f n) (ap f (sym z) ∙ e)
  | no z ↦ rw (every-not n f q (omega arith) e)
]

pub every-ext : (n : ℕ) (f g : ℕ → Bool) → ((q : ℕ) → q < n → f q ≡ g q) → every n f ≡ every n g
unfolding every
every-ext zero f g e = refl
every-ext (suc n) f g e = rw (every-ext n f g (λ q h. e q (omega arith)), e n (omega arith))

-- ---- one number more

every_more : (n : ℕ) (f : ℕ → Bool) → every (n + 1) f ≡ (every n f && f n)
unfolding every
every_more n f = rw (add-one n)

and-true : (a b : Bool) → b ≡ true → a ≡ (a && b)
and-true true b e = sym e
and-true false b e = refl

pub every-same : (n : ℕ) (f g : ℕ → ℕ) (same : Bool) → same ≡ every n (λ q. eqb (f q) (g q)) → f n ≡ g n
    → same ≡ every (n + 1) (λ q. eqb (f q) (g q))
every-same n f g same e h =
    let t : ℕ → Bool = λ q. eqb (f q) (g q) in
    e ∙ and-true (every n t) (t n) (eq-eqb (f n) (g n) h) ∙ sym (every_more n t)

pub every-other : (n : ℕ) (f g : ℕ → ℕ) → (f n ≡ g n → ⊥) → false ≡ every (n + 1) (λ q. eqb (f q) (g q))
every-other n f g h =
    let t : ℕ → Bool = λ q. eqb (f q) (g q) in
    sym (every_more n t ∙ and-no-right (every n t) (t n) (ne_eqb (f n) (g n) h))

-- ---- rows

pub row_equals-map : (s : ℕ) (b : List ℕ) (v : ℕ) (f : ℕ → ℕ) → row_equals s b v f ≡ true
    → (q : ℕ) → q < s → map_cell s b v q ≡ f q
row_equals-map s b v f e q h = eqb-true (map_cell s b v q) (f q) (every-at s (λ x. eqb (map_cell s b v x) (f x)) e q h)

pub map-row_equals : (s : ℕ) (b : List ℕ) (v : ℕ) (f : ℕ → ℕ) → ((q : ℕ) → q < s → map_cell s b v q ≡ f q)
    → row_equals s b v f ≡ true
map-row_equals s b v f h =
    every-all s (λ x. eqb (map_cell s b v x) (f x)) (λ q l. eq-eqb (map_cell s b v q) (f q) (h q l))

pub row_equals-ext : (s : ℕ) (b : List ℕ) (v : ℕ) (f g : ℕ → ℕ) → ((q : ℕ) → q < s → f q ≡ g q)
    → row_equals s b v f ≡ row_equals s b v g
row_equals-ext s b v f g e =
    every-ext s (λ q. eqb (map_cell s b v q) (f q)) (λ q. eqb (map_cell s b v q) (g q))
    (λ q h. ap (eqb (map_cell s b v q)) (e q h))
