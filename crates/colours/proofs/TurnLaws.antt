-- Colours taking states one after the other: what a loop over a row of states keeps.
--     recolour-nil, recolour-turn after c turns the row is that of the first c states above; turn c adds what colour
--     c takes
--     recolour-all                  after all turns it is the next copy
--     lands-turn, lands-place what colour c lands on is known in its turn: the lower colour that has the state, or
--     itself
--     map_at, recolour-map, lands-map   a step's copy from the states that it leads to
use Prim.Native.Nat.{ℕ, zero, suc, ◌+◌, ◌<◌}
use mathlib.Core.Path.{◌≡◌, refl, sym, ap, ap₂, ◌∙◌}
use mathlib.Core.Bool.{Bool, true, false, cond}
use mathlib.Core.List.{List, [], ◌∷◌, ◌++◌, map}
use native.Mathlib.Omega.{arith}
use lib.ListN.{length, get_or, take, drop, take-append-drop}
use lib.Seq.{take-suc, take-length, length-take-le}
use Rattle.list_laws.specs.Tests.{holds}
use Rattle.colours.specs.Colouring.{takes, recolour_from, recolour, place_of, lands}
use Rattle.colours.proofs.ColouringLaws.{place-left, place-last, place_kept, place_none, takes-held}
use Rattle.colours.proofs.ColouringLaws.{length-recolour}

module _ (f : ℕ → ℕ) where
  from-snoc : (taken xs : List ℕ) (s : ℕ)
      → recolour_from f taken (xs ++ (s ∷ []))
      ≡ recolour_from f taken xs ++ (takes (recolour_from f taken xs) (f s) ∷ [])
  unfolding recolour_from
  from-snoc taken [] s = refl
  from-snoc taken (x ∷ xs) s = from-snoc (taken ++ (takes taken (f x) ∷ [])) xs s

  from-append : (taken xs ys : List ℕ) → recolour_from f taken (xs ++ ys) ≡ recolour_from f (recolour_from f taken xs) ys
  unfolding recolour_from
  from-append taken [] ys = refl
  from-append taken (x ∷ xs) ys = from-append (taken ++ (takes taken (f x) ∷ [])) xs ys

  pub recolour-nil : recolour f [] ≡ []
  unfolding recolour recolour_from
  recolour-nil = refl

  pub recolour-turn : (above : List ℕ) (c : ℕ) → c < length above
      → recolour f (take (suc c) above)
      ≡ recolour f (take c above) ++ (takes (recolour f (take c above)) (f (get_or above c 0)) ∷ [])
  unfolding recolour
  recolour-turn above c h =
      ap (recolour_from f []) (take-suc above c 0 h) ∙ from-snoc [] (take c above) (get_or above c 0)

  pub recolour-all : (above : List ℕ) → recolour f (take (length above) above) ≡ recolour f above
  recolour-all above = ap (recolour f) (take-length above)

  -- the place of a state among the first c colours' states and the next one's is its place in the whole copy
  pub lands-turn : (above : List ℕ) (c : ℕ) → c < length above
      → lands f above c
      ≡ cond (holds (f (get_or above c 0)) (recolour f (take c above)))
      (place_of (f (get_or above c 0)) (recolour f (take c above))) c
  unfolding lands
  lands-turn above c h =
      let q : ℕ = f (get_or above c 0) in
      let xs : List ℕ = recolour f (take c above) in
      let l : length xs ≡ c = length-recolour f (take c above) ∙ length-take-le c above (omega arith) in
      let w : recolour f above ≡ recolour_from f (recolour f (take (suc c) above)) (drop (suc c) above) =
      unfold recolour in (ap (recolour_from f []) (sym (take-append-drop (suc c) above))
      ∙ from-append [] (take (suc c) above) (drop (suc c) above)) in
      let e : holds q (recolour f (take (suc c) above)) ≡ true =
      ap (holds q) (recolour-turn above c h) ∙ (takes-held xs q).0 in
      ap (place_of q) w ∙ place_kept f q (recolour f (take (suc c) above)) (drop (suc c) above) e
      ∙ ap (place_of q) (recolour-turn above c h) ∙ go q xs l (holds q xs) refl
    where
      go : (q : ℕ) (xs : List ℕ) → length xs ≡ c → (b : Bool) → holds q xs ≡ b
          → place_of q (xs ++ (takes xs q ∷ [])) ≡ cond b (place_of q xs) c
      go q xs l true e = place-left q xs (takes xs q ∷ []) e
      go q xs l false e = place-last xs q e ∙ l

  -- a colour lands on the place of its state among the lower colours' states, or on itself
  pub lands-place : (above : List ℕ) (c : ℕ) → c < length above
      → lands f above c ≡ place_of (f (get_or above c 0)) (recolour f (take c above))
  lands-place above c h =
      let xs : List ℕ = recolour f (take c above) in
      let l : length xs ≡ c = length-recolour f (take c above) ∙ length-take-le c above (omega arith) in
      lands-turn above c h ∙ go (f (get_or above c 0)) xs l (holds (f (get_or above c 0)) xs) refl
    where
      go : (q : ℕ) (xs : List ℕ) → length xs ≡ c → (b : Bool) → holds q xs ≡ b → cond b (place_of q xs) c ≡ place_of q xs
      go q xs l true e = refl
      go q xs l false e = sym (place_none q xs e ∙ l)

-- ---- by the states led to

from-map : (f : ℕ → ℕ) (taken above : List ℕ) → recolour_from f taken above ≡ recolour_from (λ q. q) taken (map f above)
unfolding recolour_from
from-map f taken [] = refl
from-map f taken (s ∷ above) = from-map f (taken ++ (takes taken (f s) ∷ [])) above

pub recolour-map : (f : ℕ → ℕ) (above : List ℕ) → recolour f above ≡ recolour (λ q. q) (map f above)
unfolding recolour
recolour-map f above = from-map f [] above

pub map_at : (f : ℕ → ℕ) (xs : List ℕ) (c : ℕ) → c < length xs → get_or (map f xs) c 0 ≡ f (get_or xs c 0)
map_at f [] c h = absurd (omega arith)
map_at f (x ∷ xs) zero h = refl
map_at f (x ∷ xs) (suc c) h = map_at f xs c (omega arith)

pub lands-map : (f : ℕ → ℕ) (above : List ℕ) (c : ℕ) → c < length above
    → lands f above c ≡ lands (λ q. q) (map f above) c
unfolding lands
lands-map f above c h = ap₂ (λ (q : ℕ) (xs : List ℕ). place_of q xs) (sym (map_at f above c h)) (recolour-map f above)
