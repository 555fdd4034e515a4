-- The parts of a part, by the tests of the code.
--     answer-no, answer-yes                  a number read as a state
--     leaf-outside, leaf-at              the part of a leaf
--     join-lost, join-made               the rule for the states of both children
--     place_none, place_found            what is at a place found, for roots
--     label-none, label-found            and for labels
--     side-run, side-own, side-lost, side-climb   the state at a child
--     reached-answer                         the result can be read from the answer
--     answer-reached, answer-outside         the result, from a given answer
use Rattle.std.proofs.Common.{◌≡◌, ℕ, ◌+◌, ◌-◌, ◌<◌, ◌≤◌, List, get_or, sym, refl, ap, ◌∙◌, add-one, arith, le-ltb, lt-ltb}
use mathlib.Core.Option.{Option, none, some}
use Rattle.trees.specs.Climb.{and_then}
use Rattle.tables.specs.declared.answers.Climbed.TheVariants.{Reached as To, OutOfRange}
use Rattle.tables.specs.declared.answers.Reached.{Reached}
use Rattle.tables.specs.Climbs.{View, below, run_on, rule_on, reached, climb_on, climbed_of}
use Rattle.tables.specs.inner.PathViews.{states_view}
use Rattle.tables.proofs.LookupLaws.{below-yes, below-no}
use Rattle.questions.specs.Part.{Found, found, climb_from, run_reached, own_reached, join_on, leaf_on}
use Rattle.questions.specs.inner.Scans.{found_of, label_of, side_on}
use Rattle.questions.specs.inner.PartArgs.{unmoved, reached_in}

pub reached-answer : (o : Option Reached) → reached_in (climbed_of o) ≡ o
unfolding climbed_of
reached-answer none = refl
reached-answer (some x) = refl

-- for a caller who has matched the answer r
pub answer-reached : (o : Option Reached) (x : Reached) → To x ≡ climbed_of o → o ≡ some x
answer-reached o x e = sym (reached-answer o) ∙ ap reached_in (sym e)

pub answer-outside : (o : Option Reached) → OutOfRange ≡ climbed_of o → o ≡ none
answer-outside o e = sym (reached-answer o) ∙ ap reached_in (sym e)

-- ---- a number read as a state

module _ (s q : ℕ) where
  pub answer-no : s ≤ q → OutOfRange ≡ climbed_of (unmoved (below s q))
  unfolding climbed_of
  answer-no h = ap (λ (o : Option ℕ). climbed_of (unmoved o)) (sym (below-no s q h))

  pub answer-yes : q < s → To (reached q 0 0) ≡ climbed_of (unmoved (below s q))
  unfolding climbed_of
  answer-yes h = ap (λ (o : Option ℕ). climbed_of (unmoved o)) (sym (below-yes s q h))

-- ---- leaves

module _ (X : View) (a : ℕ) where
  pub leaf-outside : X.k ≤ a → OutOfRange ≡ climbed_of (leaf_on X a)
  unfolding leaf_on climbed_of
  leaf-outside h = rw (le-ltb a X.k h)

  pub leaf-at : a < X.k → leaf_on X a ≡ unmoved (below X.s (get_or X.leaves a 0))
  unfolding leaf_on
  leaf-at h = rw (lt-ltb a X.k h)

-- ---- rules

module _ (X : View) (a : ℕ) (x y : Reached) (r : ℕ) (e : below X.s r ≡ rule_on X x.state a y.state) where
  pub join-lost : X.s ≤ r → OutOfRange ≡ climbed_of (join_on X a (some x) (some y))
  unfolding join_on climbed_of
  join-lost h = rw (sym e ∙ below-no X.s r h)

  pub join-made : r < X.s
      → To (reached r (x.links + y.links) (x.passed + y.passed)) ≡ climbed_of (join_on X a (some x) (some y))
  unfolding join_on climbed_of
  join-made h = rw (sym e ∙ below-yes X.s r h)

pub join-left : (X : View) (a : ℕ) (y : Option Reached) → OutOfRange ≡ climbed_of (join_on X a none y)
unfolding join_on climbed_of
join-left X a y = refl

pub join-right : (X : View) (a : ℕ) (x : Reached) → OutOfRange ≡ climbed_of (join_on X a (some x) none)
unfolding join_on climbed_of
join-right X a x = refl

-- ---- places found

module _ (i : ℕ) where
  pub place_none : (es qs : List ℕ) → i ≡ 0 → found_of es qs i ≡ none
  unfolding found_of
  place_none es qs e = rw e

  pub place_found : (es qs : List ℕ) → ¬ (i ≡ 0)
      → found_of es qs i ≡ some (found (get_or es (i - 1) 0) (get_or qs (i - 1) 0))
  unfolding found_of
  place_found es qs e =
      let h : i ≡ i - 1 + 1 = omega arith in
      ap (found_of es qs) (h ∙ add-one (i - 1))

  pub label-none : (ls bs : List ℕ) (v : ℕ) → i ≡ 0 → label_of ls bs v i ≡ get_or ls v 0
  unfolding label_of
  label-none ls bs v e = rw e

  pub label-found : (ls bs : List ℕ) (v : ℕ) → ¬ (i ≡ 0) → label_of ls bs v i ≡ get_or bs (i - 1) 0
  unfolding label_of
  label-found ls bs v e =
      let h : i ≡ i - 1 + 1 = omega arith in
      ap (label_of ls bs v) (h ∙ add-one (i - 1))

-- ---- the state at a child

module _ (X : View) (t c : ℕ) (es qs : List ℕ) (own other : ℕ) where
  pub side-run : (x : ℕ) → below X.s x ≡ run_on (states_view X.s X.state_table) c → own ≡ 0
      → unmoved (below X.s x) ≡ side_on X t c (found_of es qs own) (found_of es qs other)
  unfolding side_on run_reached run_on
  side-run x e h = rw (place_none own es qs h) (ap unmoved e)

  module _ (h : ¬ (own ≡ 0)) where
    abbrev root : Found
    root = found (get_or es (own - 1) 0) (get_or qs (own - 1) 0)

    pub side-own : ¬ (other ≡ 0)
        → unmoved (below X.s (get_or qs (own - 1) 0)) ≡ side_on X t c (found_of es qs own) (found_of es qs other)
    unfolding side_on own_reached
    side-own i = rw (place_found own es qs h, place_found other es qs i)

    side-alone : other ≡ 0 → climb_from X t root ≡ side_on X t c (found_of es qs own) (found_of es qs other)
    unfolding side_on
    side-alone i = rw (place_found own es qs h, place_none other es qs i)

    pub side-lost : other ≡ 0 → X.s ≤ get_or qs (own - 1) 0
        → OutOfRange ≡ climbed_of (side_on X t c (found_of es qs own) (found_of es qs other))
    unfolding climb_from climbed_of
    side-lost i l =
        ap (λ (o : Option ℕ). climbed_of (and_then o (λ q. climb_on X (get_or es (own - 1) 0) t q)))
        (sym (below-no X.s (get_or qs (own - 1) 0) l))
        ∙ ap climbed_of (side-alone i)

    pub side-climb : other ≡ 0 → get_or qs (own - 1) 0 < X.s
        → climb_on X (get_or es (own - 1) 0) t (get_or qs (own - 1) 0)
        ≡ side_on X t c (found_of es qs own) (found_of es qs other)
    unfolding climb_from
    side-climb i l =
        ap (λ (o : Option ℕ). and_then o (λ q. climb_on X (get_or es (own - 1) 0) t q))
        (sym (below-yes X.s (get_or qs (own - 1) 0) l))
        ∙ side-alone i
