-- The laws of first numbers.
--     any-yes, any-no, any-ext     some number below n
--     any-first, first_found       the first of them is below n exactly where there is one
--     any-least                    a value that is not above any is one of them exactly where it is the least
--     first-place                  the first that has the least value is `place_of_least`
use Prim.Native.Nat.{ℕ, zero, suc, min, ◌+◌, ◌≤◌, ◌<◌}
use mathlib.Core.Path.{◌≡◌, refl, sym, ap, ap₂, ◌∙◌}
use mathlib.Core.Bool.{Bool, true, false, cond, ◌||◌}
use native.Mathlib.Decide.{ℕ_discrete, dec_lt}
use native.Mathlib.Omega.{arith}
use lib.Dec.{eqb, ltb}
use borrow.Author.Tests.{eqb-true, eq-eqb, ne_eqb, lt-ltb, le-ltb}
use Rattle.list_laws.proofs.BoolLaws.{true-false, or-first, or-second}
use Rattle.list_laws.proofs.Choice.{le-or}
use Rattle.fewest.specs.Least.{least_to, place_of_least}
use Rattle.fewest.proofs.costs.LeastLaws.{least-le, Found, least-found}
use Rattle.fewest.specs.inner.down.Search.{any_of, First}

pub any-yes : (n : ℕ) (f : ℕ → Bool) (i : ℕ) → i < n → f i ≡ true → any_of n f ≡ true
unfolding any_of
any-yes zero f i h e = absurd (omega arith)
any-yes (suc n) f i h e = elim (ℕ_discrete i n) [
  | yes q ↦ or-second (any_of n f) (f n) (ap f (sym q) ∙ e)
  | no q ↦ or-first (any_of n f) (f n) (any-yes n f i (omega arith) e)
]

pub any-no : (n : ℕ) (f : ℕ → Bool) → ((i : ℕ) → i < n → f i ≡ false) → any_of n f ≡ false
unfolding any_of
any-no zero f e = refl
any-no (suc n) f e = ap₂ (λ (x y : Bool). x || y) (any-no n f (λ i h. e i (omega arith))) (e n (omega arith))

pub any-ext : (n : ℕ) (f g : ℕ → Bool) → ((i : ℕ) → i < n → f i ≡ g i) → any_of n f ≡ any_of n g
unfolding any_of
any-ext zero f g e = refl
any-ext (suc n) f g e = ap₂ (λ (x y : Bool). x || y) (any-ext n f g (λ i h. e i (omega arith))) (e n (omega arith))

module _ (n : ℕ) (f : ℕ → Bool) (r : ℕ) (F : First n f r) where
  pub any-first : ltb r n ≡ any_of n f
  any-first = elim (dec_lt r n) [
    | yes h ↦ lt-ltb r n h ∙ sym (any-yes n f r h (F.hit h))
    | no h ↦ le-ltb r n (omega arith) ∙ sym (any-no n f (λ i l. F.before i (omega (arith, F.most))))
  ]

  pub first_found : any_of n f ≡ true → r < n
  first_found e = elim (dec_lt r n) [
    | yes h ↦ h
    | no h ↦ absurd (true-false (sym e ∙ any-no n f (λ i l. F.before i (omega (arith, F.most)))))
  ]

-- one number more
pub first_next : (f : ℕ → Bool) (r : ℕ) → ((i : ℕ) → i < r → f i ≡ false) → f r ≡ false → (i : ℕ) → i < r + 1 → f i ≡ false
first_next f r e z i h = elim (ℕ_discrete i r) [ yes q ↦ ap f q ∙ z | no q ↦ e i (omega arith) ]

pub first-here : (n : ℕ) (f : ℕ → Bool) (r : ℕ) → r < n → ((i : ℕ) → i < r → f i ≡ false) → f r ≡ true → First n f r
first-here n f r h e z = record { most = omega arith; before = e; hit = λ l. z }

module _ (far : ℕ) where
  pub any-least : (n : ℕ) (f : ℕ → ℕ) (c : ℕ) → c < far → c ≤ least_to far n f → any_of n (λ i. eqb (f i) c) ≡ eqb (least_to far n f) c
  unfolding any_of least_to
  any-least zero f c u h = sym (ne_eqb far c (λ e. omega arith))
  any-least (suc n) f c u h =
      ap (λ (x : Bool). x || eqb (f n) c) (any-least n f c u (omega arith)) ∙ both (least_to far n f) (f n) (omega arith) (omega arith)
    where
      both : (x y : ℕ) → c ≤ x → c ≤ y → (eqb x c || eqb y c) ≡ eqb (min x y) c
      both x y hx hy = elim (ℕ_discrete x c) [
        | yes e ↦ or-first (eqb x c) (eqb y c) (eq-eqb x c e) ∙ sym (eq-eqb (min x y) c (omega arith))
        | no e ↦ elim (ℕ_discrete y c) [
          | yes d ↦ or-second (eqb x c) (eqb y c) (eq-eqb y c d) ∙ sym (eq-eqb (min x y) c (omega arith))
          | no d ↦ ap₂ (λ (a b : Bool). a || b) (ne_eqb x c e) (ne_eqb y c d) ∙ sym (ne_eqb (min x y) c (λ z. omega arith))
        ]
      ]

  place-first : (n : ℕ) (f : ℕ → ℕ) → least_to far n f < far → (j : ℕ) → j < place_of_least far n f → least_to far n f < f j
  unfolding least_to place_of_least
  place-first zero f h j l = absurd (omega arith)
  place-first (suc n) f h j l =
      le-or (least_to far n f) (f n)
      (λ z. let e : cond (ltb (f n) (least_to far n f)) n (place_of_least far n f) ≡ place_of_least far n f =
      ap (λ (b : Bool). cond b n (place_of_least far n f)) (le-ltb (f n) (least_to far n f) z) in
      omega (arith, place-first n f (omega arith) j (omega (arith, e))))
      (λ z. let e : cond (ltb (f n) (least_to far n f)) n (place_of_least far n f) ≡ n =
      ap (λ (b : Bool). cond b n (place_of_least far n f)) (lt-ltb (f n) (least_to far n f) z) in
      omega (arith, least-le far n f j (omega (arith, e))))

  pub first-place : (n : ℕ) (f : ℕ → ℕ) (c r : ℕ) (g : ℕ → Bool) → c < far → least_to far n f ≡ c
      → ((i : ℕ) → i < n → g i ≡ eqb (f i) c) → First n g r → r ≡ place_of_least far n f
  first-place n f c r g u e same R =
      let h : least_to far n f < far = omega arith in
      let F : Found far n f (place_of_least far n f) = least-found far n f h in
      let low : place_of_least far n f < r → ⊥ = λ l. true-false (sym (same (place_of_least far n f) F.below
      ∙ eq-eqb (f (place_of_least far n f)) c (F.is ∙ e)) ∙ R.before (place_of_least far n f) l) in
      let high : r < place_of_least far n f → ⊥ = λ l. omega (
        arith,
        e,
        place-first n f h r l,
        eqb-true (f r) c (sym (same r (omega (arith, F.below))) ∙ R.hit (omega (arith, F.below))),
      ) in
      elim (ℕ_discrete r (place_of_least far n f)) [
        | yes z ↦ z
        | no z ↦ elim (dec_lt r (place_of_least far n f)) [ yes l ↦ absurd (high l) | no l ↦ absurd (low (omega arith)) ]
      ]
