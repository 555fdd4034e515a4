-- The homeward loop writes the file's two runs.
--     from_right            our plan's nodes from the right, as the loop reads them
--     homeward-rest        later siblings are written, and the node above gets the count of its list
--     homeward-children    a children's list is written, and then its node with all that this completes
--     homeward-tree        so a whole image gives its file
use Prim.Native.Nat.{ℕ, suc, ◌+◌}
use mathlib.Core.Path.{◌≡◌, refl, sym, ap, ap₂, ◌∙◌}
use mathlib.Core.Bool.{Bool, true, false}
use mathlib.Core.List.{List, [], ◌∷◌, ◌++◌, append_assoc, append-nil}
use mathlib.Core.Option.{Option, none, some}
use native.Mathlib.Omega.{arith}
use Rattle.planner.specs.Siblings.{Siblings, empty, sibling, width, pre_labels, pre_counts}
use Rattle.planner.specs.inner.HomeMachine.{Waiting, waiting, HomeState, home_state, released, with_count, homeward}

abbrev pub from_right : Siblings → List (Option ℕ)
from_right empty = none ∷ []
from_right (sibling a c r) = some a ∷ (from_right r ++ from_right c)

abbrev homed : List (Option ℕ) → HomeState → HomeState
homed xs T = homeward xs 0 T.stack T.labels T.counts

abbrev Later : Siblings → Type 0
Later f = (xs : List (Option ℕ)) (k : ℕ) (st : List Waiting) (ls cs : List ℕ)
    → homeward (from_right f ++ xs) (suc k) st ls cs
    ≡ homeward xs 0 (with_count (suc k) (suc k + width f) st) (pre_labels f ++ ls) (pre_counts f ++ cs)

abbrev Children : Siblings → Type 0
Children f = (xs : List (Option ℕ)) (a : ℕ) (b : Bool) (st : List Waiting) (ls cs : List ℕ)
    → homeward (from_right f ++ xs) 0 (waiting a 0 b ∷ st) ls cs
    ≡ homed xs (released (waiting a (width f) b ∷ st) (pre_labels f ++ ls) (pre_counts f ++ cs))

mutual
  pub homeward-rest : (f : Siblings) → Later f
  homeward-rest empty xs k st ls cs =
      let e : suc k ≡ suc k + 0 = omega arith in
      ap (λ (n : ℕ). homeward xs 0 (with_count (suc k) n st) ls cs) e
  homeward-rest (sibling a c r) xs k st ls cs =
      let e : suc (suc k) + width r ≡ suc k + suc (width r) = omega arith in
      ap (λ (l : List (Option ℕ)). homeward l (suc (suc k)) (waiting a 0 false ∷ st) ls cs)
      (append_assoc (from_right r) (from_right c) xs)
      ∙ homeward-rest r (from_right c ++ xs) (suc k) (waiting a 0 false ∷ st) ls cs
      ∙ homeward-children c xs a false (with_count (suc k) (suc (suc k) + width r) st) (pre_labels r ++ ls)
      (pre_counts r ++ cs)
      ∙ ap (λ (n : ℕ). homeward xs 0 (with_count (suc k) n st) (a ∷ (pre_labels c ++ (pre_labels r ++ ls)))
      (width c ∷ (pre_counts c ++ (pre_counts r ++ cs)))) e
      ∙ ap₂ (λ (l m : List ℕ). homeward xs 0 (with_count (suc k) (suc k + suc (width r)) st) (a ∷ l) (width c ∷ m))
      (sym (append_assoc (pre_labels c) (pre_labels r) ls)) (sym (append_assoc (pre_counts c) (pre_counts r) cs))

  pub homeward-children : (f : Siblings) → Children f
  homeward-children empty xs a b st ls cs = refl
  homeward-children (sibling d c r) xs a b st ls cs =
      let e : 1 + width r ≡ suc (width r) = omega arith in
      ap (λ (l : List (Option ℕ)). homeward l 1 (waiting d 0 true ∷ waiting a 0 b ∷ st) ls cs)
      (append_assoc (from_right r) (from_right c) xs)
      ∙ homeward-rest r (from_right c ++ xs) 0 (waiting d 0 true ∷ waiting a 0 b ∷ st) ls cs
      ∙ homeward-children c xs d true (waiting a (1 + width r) b ∷ st) (pre_labels r ++ ls) (pre_counts r ++ cs)
      ∙ ap (λ (n : ℕ). homed xs
      (released (waiting a n b ∷ st) (d ∷ (pre_labels c ++ (pre_labels r ++ ls)))
      (width c ∷ (pre_counts c ++ (pre_counts r ++ cs))))) e
      ∙ ap₂ (λ (l m : List ℕ). homed xs (released (waiting a (suc (width r)) b ∷ st) (d ∷ l) (width c ∷ m)))
      (sym (append_assoc (pre_labels c) (pre_labels r) ls)) (sym (append_assoc (pre_counts c) (pre_counts r) cs))

pub homeward-tree : (a : ℕ) (c : Siblings)
    → homeward (from_right (sibling a c empty)) 0 [] [] []
    ≡ home_state [] (pre_labels (sibling a c empty)) (pre_counts (sibling a c empty))
homeward-tree a c =
    ap (λ (l : List (Option ℕ)). homeward l 0 (waiting a 0 true ∷ []) [] []) (sym (append-nil (from_right c)))
    ∙ homeward-children c [] a true [] [] []
