-- The laws of a colouring, for any number of states and any step.
--     lowest-free                    the lowest free number is free, nothing below it is, and it is at most the length
--     place-lt, place_at, place-of   the colour of a state, and back
--     has-colour                     in a colouring every state has a colour
--     recolour-colouring             the next copy is a colouring again
--     lands-state                    the colour that a colour lands on has the state that its state leads to
--     lands-le                       a colour lands on itself or on a lower one
--
-- "every copy of Q has one vertex of each of the |Q| colors; when i.q has color c and there is an edge to (i + 1).q',
-- which is colored with color c', then c ≥ c'" (source document 002, section 2.2.3)
use Prim.Native.Nat.{ℕ, zero, suc, ◌+◌, ◌≤◌, ◌<◌}
use mathlib.Core.Path.{◌≡◌, refl, sym, ap, ◌∙◌}
use mathlib.Core.Bool.{Bool, true, false, cond, ◌||◌}
use mathlib.Core.List.{List, [], ◌∷◌, ◌++◌}
use native.Mathlib.Omega.{arith}
use native.Mathlib.Nat.{zero-add}
use lib.Dec.{eqb}
use lib.ListN.{length, get_or, length-append}
use borrow.Author.Tests.{eqb-true, eq-eqb}
use Rattle.list_laws.specs.Tests.{holds, distinct}
use Rattle.list_laws.proofs.BoolLaws.{true-false}
use Rattle.list_laws.proofs.TestLaws.{at-holds, distinct_head, distinct_tail, distinct_cons, distinct-at}
use Rattle.list_laws.proofs.Choice.{le-or}
use Rattle.colours.specs.Colouring.{free_from, lowest_free, takes, recolour_from, recolour, place_of, lands}
use Rattle.colours.specs.Colouring.{Colouring}
use Rattle.colours.proofs.Pigeonhole.{holds-here, holds_later, holds-other, first, cover, full}
use Rattle.colours.specs.Colouring.{Free}

-- ---- one element more at the end

pub holds-left : (q : ℕ) (xs ys : List ℕ) → holds q xs ≡ true → holds q (xs ++ ys) ≡ true
holds-left q [] ys e = absurd (true-false (sym (unfold holds in e)))
holds-left q (x ∷ xs) ys e =
    first q x
    (λ i. rw i (holds-here x (xs ++ ys)))
    (λ i. holds_later q x (xs ++ ys) (holds-left q xs ys (sym (holds-other q x xs i) ∙ e)))

holds-last : (q : ℕ) (xs : List ℕ) → holds q (xs ++ (q ∷ [])) ≡ true
holds-last q [] = holds-here q []
holds-last q (x ∷ xs) = holds_later q x (xs ++ (q ∷ [])) (holds-last q xs)

-- a member of the longer list is in the shorter one, or is the element added
holds-snoc : {P : Type 0} (q y : ℕ) (xs : List ℕ) → holds q (xs ++ (y ∷ [])) ≡ true → (holds q xs ≡ true → P)
    → (q ≡ y → P) → P
holds-snoc q y [] e f g =
    first q y g (λ i. absurd (true-false (sym (unfold holds in (sym (holds-other q y [] i) ∙ e)))))
holds-snoc q y (x ∷ xs) e f g =
    first q x
    (λ i. f (rw i (holds-here x xs)))
    (λ i. holds-snoc q y xs (sym (holds-other q x (xs ++ (y ∷ [])) i) ∙ e) (λ h. f (holds_later q x xs h)) g)

distinct_snoc : (xs : List ℕ) (y : ℕ) → distinct xs ≡ true → holds y xs ≡ false → distinct (xs ++ (y ∷ [])) ≡ true
distinct_snoc [] y d e = unfold distinct holds in refl
distinct_snoc (x ∷ xs) y d e =
    let ne : x ≡ y → ⊥ = λ i. true-false (sym (holds-here x xs) ∙ ap (λ (z : ℕ). holds z (x ∷ xs)) i ∙ e) in
    distinct_cons x (xs ++ (y ∷ []))
    (go (holds x (xs ++ (y ∷ []))) refl ne)
    (distinct_snoc xs y (distinct_tail x xs d) (sym (holds-other y x xs (λ i. ne (sym i))) ∙ e))
  where
    go : (b : Bool) → holds x (xs ++ (y ∷ [])) ≡ b → (x ≡ y → ⊥) → b ≡ false
    go true h ne = absurd (holds-snoc x y xs h (λ i. true-false (sym i ∙ distinct_head x xs d)) ne)
    go false h ne = refl

-- ---- the place of a state

pub place-lt : (q : ℕ) (xs : List ℕ) → holds q xs ≡ true → place_of q xs < length xs
unfolding holds place_of
place-lt q [] e = absurd (true-false (sym e))
place-lt q (x ∷ xs) e = go (eqb q x) e (place-lt q xs)
  where
    go : (b : Bool) → (b || holds q xs) ≡ true → (holds q xs ≡ true → place_of q xs < length xs)
        → cond b 0 (suc (place_of q xs)) < length (x ∷ xs)
    go true i ih = omega arith
    go false i ih = omega (arith, ih i)

pub place_at : (q : ℕ) (xs : List ℕ) → holds q xs ≡ true → get_or xs (place_of q xs) 0 ≡ q
unfolding holds place_of
place_at q [] e = absurd (true-false (sym e))
place_at q (x ∷ xs) e = go (eqb q x) refl e (place_at q xs)
  where
    go : (b : Bool) → eqb q x ≡ b → (b || holds q xs) ≡ true → (holds q xs ≡ true → get_or xs (place_of q xs) 0 ≡ q)
        → get_or (x ∷ xs) (cond b 0 (suc (place_of q xs))) 0 ≡ q
    go true i j ih = sym (eqb-true q x i)
    go false i j ih = ih j

pub place-left : (q : ℕ) (xs ys : List ℕ) → holds q xs ≡ true → place_of q (xs ++ ys) ≡ place_of q xs
unfolding holds place_of
place-left q [] ys e = absurd (true-false (sym e))
place-left q (x ∷ xs) ys e = go (eqb q x) e (place-left q xs ys)
  where
    go : (b : Bool) → (b || holds q xs) ≡ true → (holds q xs ≡ true → place_of q (xs ++ ys) ≡ place_of q xs)
        → cond b 0 (suc (place_of q (xs ++ ys))) ≡ cond b 0 (suc (place_of q xs))
    go true i ih = refl
    go false i ih = ap suc (ih i)

-- the place of a state that is not there is the length
pub place_none : (q : ℕ) (xs : List ℕ) → holds q xs ≡ false → place_of q xs ≡ length xs
unfolding holds place_of
place_none q [] e = refl
place_none q (x ∷ xs) e = go (eqb q x) e (place_none q xs)
  where
    go : (b : Bool) → (b || holds q xs) ≡ false → (holds q xs ≡ false → place_of q xs ≡ length xs)
        → cond b 0 (suc (place_of q xs)) ≡ length (x ∷ xs)
    go true i ih = absurd (true-false i)
    go false i ih = ap suc (ih i)

place-new : (xs : List ℕ) (q : ℕ) → holds q xs ≡ false → place_of q (xs ++ (q ∷ [])) ≡ length xs
unfolding holds place_of
place-new [] q e = rw (eq-eqb q q refl)
place-new (x ∷ xs) q e = go (eqb q x) e (place-new xs q)
  where
    go : (b : Bool) → (b || holds q xs) ≡ false → (holds q xs ≡ false → place_of q (xs ++ (q ∷ [])) ≡ length xs)
        → cond b 0 (suc (place_of q (xs ++ (q ∷ [])))) ≡ length (x ∷ xs)
    go true i ih = absurd (true-false i)
    go false i ih = ap suc (ih i)

place-le : (q : ℕ) (xs ys : List ℕ) → place_of q (xs ++ (q ∷ ys)) ≤ length xs
unfolding place_of
place-le q [] ys = rw (eq-eqb q q refl) (omega arith)
place-le q (x ∷ xs) ys = go (eqb q x) (place-le q xs ys)
  where
    go : (b : Bool) → place_of q (xs ++ (q ∷ ys)) ≤ length xs
        → cond b 0 (suc (place_of q (xs ++ (q ∷ ys)))) ≤ length (x ∷ xs)
    go true ih = omega arith
    go false ih = omega (arith, ih)

-- of different states: the place of the state at place c is c
pub place-of : (xs : List ℕ) (c : ℕ) → distinct xs ≡ true → c < length xs → place_of (get_or xs c 0) xs ≡ c
place-of xs c d h =
    let q : ℕ = get_or xs c 0 in
    let e : holds q xs ≡ true = at-holds q xs c h refl in
    let a : get_or xs (place_of q xs) 0 ≡ q = place_at q xs e in
    let b : place_of q xs < length xs = place-lt q xs e in
    le-or (place_of q xs) c
    (λ l. le-or c (place_of q xs) (λ m. omega arith) (λ m. absurd (distinct-at xs (place_of q xs) c d m h a)))
    (λ l. absurd (distinct-at xs c (place_of q xs) d l b (sym a)))

-- ---- the lowest free number

free-from : (f k : ℕ) (xs : List ℕ) → ((i : ℕ) → i < k → holds i xs ≡ true) → length xs ≤ k + f
    → Free xs (free_from f k xs)
unfolding free_from
free-from zero k xs all l =
    record { free = go (holds k xs) refl; lowest = all; short = cover k xs all }
  where
    go : (b : Bool) → holds k xs ≡ b → b ≡ false
    go true e =
        absurd (omega (
          arith,
          cover (suc k) xs (λ i h.
              first i k (λ q. rw q e) (λ q. all i (omega arith))),
        ))
    go false e = refl
free-from (suc f) k xs all l = go (holds k xs) refl (free-from f (suc k) xs)
  where
    go : (b : Bool) → holds k xs ≡ b
        → (((i : ℕ) → i < suc k → holds i xs ≡ true) → length xs ≤ suc k + f → Free xs (free_from f (suc k) xs))
        → Free xs (cond b (free_from f (suc k) xs) k)
    go true e ih = ih (λ i h. first i k (λ q. rw q e) (λ q. all i (omega arith))) (omega arith)
    go false e ih = record { free = e; lowest = all; short = cover k xs all }

pub lowest-free : (xs : List ℕ) → Free xs (lowest_free xs)
unfolding lowest_free
lowest-free xs = free-from (length xs) 0 xs (λ i h. absurd (omega arith)) (omega arith)

-- there is one lowest free number
pub free-is : (xs : List ℕ) (k : ℕ) → holds k xs ≡ false → ((i : ℕ) → i < k → holds i xs ≡ true) → k ≡ lowest_free xs
free-is xs k e h =
    let F : Free xs (lowest_free xs) = lowest-free xs in
    le-or k (lowest_free xs)
    (λ a. le-or (lowest_free xs) k (λ b. omega arith) (λ b. absurd (true-false (sym (F.lowest k b) ∙ e))))
    (λ a. absurd (true-false (sym (h (lowest_free xs) a) ∙ F.free)))

-- ---- what the next colour takes

pub takes-new : (xs : List ℕ) (q : ℕ) → holds (takes xs q) xs ≡ false
unfolding takes
takes-new xs q = go (holds q xs) refl
  where
    go : (b : Bool) → holds q xs ≡ b → holds (cond b (lowest_free xs) q) xs ≡ false
    go true e = (lowest-free xs).free
    go false e = e

takes-below : (n : ℕ) (xs : List ℕ) (q : ℕ) → length xs < n → q < n → takes xs q < n
unfolding takes
takes-below n xs q l h = go (holds q xs)
  where
    go : (b : Bool) → cond b (lowest_free xs) q < n
    go true = omega (arith, (lowest-free xs).short)
    go false = h

-- the state itself has a colour then, this one or a lower one
pub takes-held : (xs : List ℕ) (q : ℕ)
    → (holds q (xs ++ (takes xs q ∷ [])) ≡ true) × (place_of q (xs ++ (takes xs q ∷ [])) ≤ length xs)
unfolding takes
takes-held xs q = go (holds q xs) refl
  where
    go : (b : Bool) → holds q xs ≡ b
        → (holds q (xs ++ (cond b (lowest_free xs) q ∷ [])) ≡ true)
        × (place_of q (xs ++ (cond b (lowest_free xs) q ∷ [])) ≤ length xs)
    go true e = (
      holds-left q xs (lowest_free xs ∷ []) e,
      omega (arith, place-left q xs (lowest_free xs ∷ []) e, place-lt q xs e),
    )
    go false e = (holds-last q xs, place-le q xs [])

-- a state that no lower colour has is taken by the next colour: its place is the last
pub place-last : (xs : List ℕ) (q : ℕ) → holds q xs ≡ false → place_of q (xs ++ (takes xs q ∷ [])) ≡ length xs
unfolding takes
place-last xs q e = rw e (place-new xs q e)

-- ---- all colours in turn

snoc-length : (xs : List ℕ) (y : ℕ) → length (xs ++ (y ∷ [])) ≡ suc (length xs)
snoc-length xs y = simp length-append (omega arith)

module _ (f : ℕ → ℕ) where
  length_from : (taken above : List ℕ) → length (recolour_from f taken above) ≡ length taken + length above
  unfolding recolour_from
  length_from taken [] = omega arith
  length_from taken (s ∷ above) =
      let x : ℕ = takes taken (f s) in
      omega (arith, length_from (taken ++ (x ∷ [])) above, snoc-length taken x)

  held_kept : (q : ℕ) (taken above : List ℕ) → holds q taken ≡ true → holds q (recolour_from f taken above) ≡ true
  unfolding recolour_from
  held_kept q taken [] e = e
  held_kept q taken (s ∷ above) e =
      let x : ℕ = takes taken (f s) in
      held_kept q (taken ++ (x ∷ [])) above (holds-left q taken (x ∷ []) e)

  pub place_kept : (q : ℕ) (taken above : List ℕ) → holds q taken ≡ true
      → place_of q (recolour_from f taken above) ≡ place_of q taken
  unfolding recolour_from
  place_kept q taken [] e = refl
  place_kept q taken (s ∷ above) e =
      let x : ℕ = takes taken (f s) in
      place_kept q (taken ++ (x ∷ [])) above (holds-left q taken (x ∷ []) e) ∙ place-left q taken (x ∷ []) e

  -- where the state at place c leads to has a colour, and none above the one at place c
  landed : (taken above : List ℕ) (c : ℕ) → c < length above
      → (holds (f (get_or above c 0)) (recolour_from f taken above) ≡ true)
      × (place_of (f (get_or above c 0)) (recolour_from f taken above) ≤ length taken + c)
  unfolding recolour_from
  landed taken [] c h = absurd (omega arith)
  landed taken (s ∷ above) zero h =
      let x : ℕ = takes taken (f s) in
      let e = takes-held taken (f s) in (
        held_kept (f s) (taken ++ (x ∷ [])) above e.0,
        omega (arith, place_kept (f s) (taken ++ (x ∷ [])) above e.0, e.1),
      )
  landed taken (s ∷ above) (suc c) h =
      let x : ℕ = takes taken (f s) in
      let e = landed (taken ++ (x ∷ [])) above c (omega arith) in
      (e.0, omega (arith, e.1, snoc-length taken x))

  distinct_from : (taken above : List ℕ) → distinct taken ≡ true → distinct (recolour_from f taken above) ≡ true
  unfolding recolour_from
  distinct_from taken [] d = d
  distinct_from taken (s ∷ above) d =
      let x : ℕ = takes taken (f s) in
      distinct_from (taken ++ (x ∷ [])) above (distinct_snoc taken x d (takes-new taken (f s)))

  module _ (n : ℕ) (keeps : (q : ℕ) → q < n → f q < n) where
    below-from : (taken above : List ℕ) → length taken + length above ≤ n
        → ((q : ℕ) → holds q taken ≡ true → q < n) → ((c : ℕ) → c < length above → get_or above c 0 < n)
        → (q : ℕ) → holds q (recolour_from f taken above) ≡ true → q < n
    unfolding recolour_from
    below-from taken [] l a b q h = a q h
    below-from taken (s ∷ above) l a b q h =
        let x : ℕ = takes taken (f s) in
        let lt : x < n = takes-below n taken (f s) (omega arith) (keeps s (b 0 (omega arith))) in
        below-from (taken ++ (x ∷ [])) above (omega (arith, snoc-length taken x))
        (λ r i. holds-snoc r x taken i (a r) (λ z. rw z lt)) (λ c i. b (suc c) (omega arith)) q h

-- ---- a copy and the next one

pub colouring-below : (n : ℕ) (xs : List ℕ) → Colouring n xs → (q : ℕ) → holds q xs ≡ true → q < n
colouring-below n xs C q e =
    rw (← place_at q xs e) (C.below (place_of q xs) (omega (arith, place-lt q xs e, C.count)))

pub has-colour : (n : ℕ) (xs : List ℕ) → Colouring n xs → (q : ℕ) → q < n → holds q xs ≡ true
has-colour n xs C q h = full n xs C.count C.once (colouring-below n xs C) q h

pub length-recolour : (f : ℕ → ℕ) (above : List ℕ) → length (recolour f above) ≡ length above
unfolding recolour
length-recolour f above = length_from f [] above ∙ zero-add (length above)

pub recolour-colouring : (n : ℕ) (f : ℕ → ℕ) (above : List ℕ) → ((q : ℕ) → q < n → f q < n) → Colouring n above
    → Colouring n (recolour f above)
unfolding recolour
recolour-colouring n f above keeps C =
    let e : length (recolour_from f [] above) ≡ n = length_from f [] above ∙ zero-add (length above) ∙ C.count in
    record {
      count = e;
      below = λ c h. below-from f n keeps [] above (omega (arith, C.count))
          (λ q i. absurd (true-false (sym (unfold holds in i)))) (λ d i. C.below d (omega (arith, C.count)))
          (get_or (recolour_from f [] above) c 0) (at-holds _ (recolour_from f [] above) c (omega arith) refl);
      once = distinct_from f [] above (unfold distinct in refl);
    }

module _ (f : ℕ → ℕ) (above : List ℕ) (c : ℕ) (h : c < length above) where
  lands-held : holds (f (get_or above c 0)) (recolour f above) ≡ true
  unfolding recolour
  lands-held = (landed f [] above c h).0

  pub lands-state : get_or (recolour f above) (lands f above c) 0 ≡ f (get_or above c 0)
  unfolding lands
  lands-state = place_at (f (get_or above c 0)) (recolour f above) lands-held

  pub lands-le : lands f above c ≤ c
  unfolding lands recolour
  lands-le = omega (arith, (landed f [] above c h).1)
