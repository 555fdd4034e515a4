-- Lists of numbers and how many of them there are.
--     cover   a list that holds every number below m has at least m elements
--     room    a list of different numbers below m has at most m elements
--     full    so, where it has m, it holds every number below m
use Prim.Native.Nat.{ℕ, zero, suc, ◌≤◌, ◌<◌}
use mathlib.Core.Path.{◌≡◌, refl, sym, ap, ◌∙◌}
use mathlib.Core.Bool.{Bool, true, false, cond, ◌||◌}
use mathlib.Core.List.{List, [], ◌∷◌}
use native.Mathlib.Omega.{arith}
use native.Mathlib.Decide.{ℕ_discrete}
use lib.Dec.{eqb}
use lib.ListN.{length}
use borrow.Author.Tests.{eq-eqb, ne_eqb}
use Rattle.list_laws.specs.Tests.{holds, distinct}
use Rattle.list_laws.proofs.BoolLaws.{true-false}
use Rattle.list_laws.proofs.TestLaws.{distinct_head, distinct_tail, distinct_cons}

-- ---- what a list of one more holds

pub holds-here : (x : ℕ) (l : List ℕ) → holds x (x ∷ l) ≡ true
unfolding holds
holds-here x l = rw (eq-eqb x x refl)

pub holds_later : (x y : ℕ) (l : List ℕ) → holds x l ≡ true → holds x (y ∷ l) ≡ true
unfolding holds
holds_later x y l e = go (eqb x y)
  where
    go : (b : Bool) → (b || holds x l) ≡ true
    go true = refl
    go false = e

pub holds-other : (x y : ℕ) (l : List ℕ) → (x ≡ y → ⊥) → holds x (y ∷ l) ≡ holds x l
unfolding holds
holds-other x y l f = rw (ne_eqb x y f)

-- ---- a list without one element

unfoldable remove : ℕ → List ℕ → List ℕ
remove x [] = []
remove x (y ∷ l) = cond (eqb x y) l (y ∷ remove x l)

remove-here : (x : ℕ) (l : List ℕ) → remove x (x ∷ l) ≡ l
unfolding remove
remove-here x l = rw (eq-eqb x x refl)

remove-later : (x y : ℕ) (l : List ℕ) → (x ≡ y → ⊥) → remove x (y ∷ l) ≡ y ∷ remove x l
unfolding remove
remove-later x y l f = rw (ne_eqb x y f)

-- by whether the first element is x
pub first : {P : Type 0} (x y : ℕ) → (x ≡ y → P) → ((x ≡ y → ⊥) → P) → P
first x y f g = elim (ℕ_discrete x y) [ yes e ↦ f e | no e ↦ g e ]

length-remove : (x : ℕ) (l : List ℕ) → holds x l ≡ true → length l ≡ suc (length (remove x l))
length-remove x [] e = absurd (true-false (sym (unfold holds in e)))
length-remove x (y ∷ l) e =
    first x y
    (λ q. ap suc (ap length (sym (ap (λ (z : ℕ). remove z (y ∷ l)) q ∙ remove-here y l))))
    (λ q. ap suc (length-remove x l (sym (holds-other x y l q) ∙ e) ∙ ap length (sym (remove-later x y l q))))

-- the others stay
remove-keeps : (x z : ℕ) (l : List ℕ) → (z ≡ x → ⊥) → holds z l ≡ true → holds z (remove x l) ≡ true
remove-keeps x z [] f e = absurd (true-false (sym (unfold holds in e)))
remove-keeps x z (y ∷ l) f e =
    first x y
    (λ q.
    let r : remove x (y ∷ l) ≡ l = ap (λ (i : ℕ). remove i (y ∷ l)) q ∙ remove-here y l in
    rw r (sym (holds-other z y l (λ i. f (i ∙ sym q))) ∙ e))
    (λ q.
    rw (remove-later x y l q)
    (first z y
    (λ i. rw i (holds-here y (remove x l)))
    (λ i. holds_later z y (remove x l) (remove-keeps x z l f (sym (holds-other z y l i) ∙ e)))))

-- nothing is added
remove-from : (x z : ℕ) (l : List ℕ) → holds z (remove x l) ≡ true → holds z l ≡ true
remove-from x z [] e = unfold remove in e
remove-from x z (y ∷ l) e =
    first x y
    (λ q.
    let r : remove x (y ∷ l) ≡ l = ap (λ (i : ℕ). remove i (y ∷ l)) q ∙ remove-here y l in
    holds_later z y l (rw r at e))
    (λ q.
    let d : holds z (y ∷ remove x l) ≡ true = rw (remove-later x y l q) at e in
    first z y
    (λ i. rw i (holds-here y l))
    (λ i. holds_later z y l (remove-from x z l (sym (holds-other z y (remove x l) i) ∙ d))))

pub holds_not : (x : ℕ) (l : List ℕ) → (holds x l ≡ true → ⊥) → holds x l ≡ false
holds_not x l f = go (holds x l) refl
  where
    go : (b : Bool) → holds x l ≡ b → b ≡ false
    go true e = absurd (f e)
    go false e = refl

remove-distinct : (x : ℕ) (l : List ℕ) → distinct l ≡ true → distinct (remove x l) ≡ true
remove-distinct x [] e = unfold remove in e
remove-distinct x (y ∷ l) e =
    first x y
    (λ q.
    let r : remove x (y ∷ l) ≡ l = ap (λ (i : ℕ). remove i (y ∷ l)) q ∙ remove-here y l in
    rw r (distinct_tail y l e))
    (λ q.
    rw (remove-later x y l q)
    (distinct_cons y (remove x l)
    (holds_not y (remove x l) (λ i. true-false (sym (remove-from x y l i) ∙ distinct_head y l e)))
    (remove-distinct x l (distinct_tail y l e))))

-- it was there only once
remove-gone : (x : ℕ) (l : List ℕ) → distinct l ≡ true → holds x (remove x l) ≡ true → ⊥
remove-gone x [] e h = true-false (sym (unfold holds remove in h))
remove-gone x (y ∷ l) e h =
    first x y
    (λ q.
    let r : remove x (y ∷ l) ≡ l = ap (λ (i : ℕ). remove i (y ∷ l)) q ∙ remove-here y l in
    let d : holds x l ≡ true = rw r at h in
    true-false (sym (ap (λ (i : ℕ). holds i l) (sym q) ∙ d) ∙ distinct_head y l e))
    (λ q.
    let d : holds x (y ∷ remove x l) ≡ true = rw (remove-later x y l q) at h in
    remove-gone x l (distinct_tail y l e) (sym (holds-other x y (remove x l) q) ∙ d))

-- ---- the two bounds

pub cover : (m : ℕ) (l : List ℕ) → ((k : ℕ) → k < m → holds k l ≡ true) → m ≤ length l
cover zero l f = omega arith
cover (suc m) l f =
    omega (
      arith,
      length-remove m l (f m (omega arith)),
      cover m (remove m l) (λ k h. remove-keeps m k l (λ e. omega arith) (f k (omega arith))),
    )

pub room : (m : ℕ) (l : List ℕ) → distinct l ≡ true → ((k : ℕ) → holds k l ≡ true → k < m) → length l ≤ m
room zero [] e f = omega arith
room zero (x ∷ l) e f = absurd (omega (arith, f x (holds-here x l)))
room (suc m) l e f = go (holds m l) refl (λ l'. room m l')
  where
    go : (b : Bool) → holds m l ≡ b
        → ((l' : List ℕ) → distinct l' ≡ true → ((k : ℕ) → holds k l' ≡ true → k < m) → length l' ≤ m)
        → length l ≤ suc m
    go true h ih =
        omega (
          arith,
          length-remove m l h,
          ih (remove m l) (remove-distinct m l e) (λ k i.
              first k m
              (λ q. absurd (remove-gone m l e (ap (λ (z : ℕ). holds z (remove m l)) (sym q) ∙ i)))
              (λ q. omega (arith, f k (remove-from m k l i)))),
        )
    go false h ih =
        omega (
          arith,
          ih l e (λ k i.
              first k m
              (λ q. absurd (true-false (sym (ap (λ (z : ℕ). holds z l) (sym q) ∙ i) ∙ h)))
              (λ q. omega (arith, f k i))),
        )

pub full : (m : ℕ) (l : List ℕ) → length l ≡ m → distinct l ≡ true → ((k : ℕ) → holds k l ≡ true → k < m) → (q : ℕ)
    → q < m → holds q l ≡ true
full m l c e f q h = go (holds q l) refl
  where
    go : (b : Bool) → holds q l ≡ b → b ≡ true
    go true i = refl
    go false i =
        absurd (omega (
          arith,
          room m (q ∷ l) (distinct_cons q l i e) (λ k j.
              first k q
              (λ z. omega arith)
              (λ z. f k (sym (holds-other k q l z) ∙ j))),
        ))
