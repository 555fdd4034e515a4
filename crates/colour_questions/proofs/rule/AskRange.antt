-- Where a rule question by colours is refused with 18.
--     ask-range   a value leads outside the plan, the states or the labels, or no target state is found
use Prim.Native.Nat.{ℕ, ◌+◌, ◌-◌, ◌≤◌, ◌<◌}
use mathlib.Core.Path.{◌≡◌, refl, sym, ◌∙◌}
use mathlib.Core.Bool.{Bool, true, false, cond, ◌&&◌}
use mathlib.Core.List.{List, []}
use mathlib.Core.Option.{Option, none, some}
use native.Mathlib.Decide.{ℕ_discrete}
use native.Mathlib.Omega.{arith}
use lib.Dec.{leb, eqb}
use lib.ListN.{length, take}
use lib.Seq.{length-take-le}
use Rattle.list_laws.specs.Tests.{all_below}
use Rattle.trees.specs.Climb.{and_then}
use Rattle.trees.proofs.MoveLaws.{none-some}
use Rattle.formats.specs.Limits.{change_limit}
use Rattle.formats.specs.Plan.{node_count, labels_within}
use Rattle.formats.specs.Rules.{state_count, label_count}
use Rattle.formats.specs.Checks.{first_no, list_checks, node_table_length}
use Rattle.formats.specs.inner.InnerChecks.{lists_fit}
use Rattle.changes.specs.inner.LastDiffering.{last_differing, given_differing}
use Rattle.changes.proofs.LastDifferingLaws.{last-most, last_below}
use Rattle.questions.specs.RootsAnswers.{roots_given}
use Rattle.questions.specs.OutOfRange.{links}
use Rattle.questions.proofs.FitLaws.{fit_all, given_yes, given-are}
use Rattle.questions.proofs.PlaceLaws.{to_below, below-entry}
use Rattle.questions.proofs.RootsRange.{roots-out-of-range}
use Rattle.branches.specs.Question.{is_some}
use Rattle.colours.specs.StateSets.{Tried, tried}
use Rattle.colour_questions.specs.parts.Part.{ColourView, handled_from}
use Rattle.colour_tables.specs.rule.Build.{set_states_fit}
use Rattle.colour_questions.specs.rule.Question.{Handled, handled, handled_on, asked_on, left_within, lent_colours}
use Rattle.colour_questions.specs.rule.Question.{rule_colours_fit, asked_checks, rule_ask_number}
use Rattle.colour_questions.specs.rule.OutOfRange.{RuleColoursOutOfRange, part}
use Rattle.colour_questions.proofs.rule.AskChecks.{Passed, passed_are}
use Rattle.colour_questions.proofs.rule.AskNumbers.{number-asked, number-last}
use Rattle.colour_questions.proofs.rule.RangeLaws.{handled-none}

-- none of the checks before the last has the number 18
not-18 : (a b c d e : Bool) → ◌≡◌ {A = ℕ} (cond a (cond b (cond c (cond d (cond e 0 14) 13) 12) 27) 17) 18 → ⊥
not-18 true true true true true h = omega arith
not-18 true true true true false h = omega arith
not-18 true true true false e h = omega arith
not-18 true true false d e h = omega arith
not-18 true false c d e h = omega arith
not-18 false b c d e h = omega arith

given-few : (ls vs bs : List ℕ) → length vs ≤ 64 → length (given_differing ls vs bs) ≤ 64
given-few ls vs bs h = go (lists_fit vs bs)
  where
    go : (b : Bool) → length (cond b (last_differing ls vs bs) []) ≤ 64
    go true = omega (arith, last-most ls vs bs)
    go false = omega arith

given_below : (n : ℕ) (ls vs bs : List ℕ) → all_below n vs ≡ true → all_below n (given_differing ls vs bs) ≡ true
unfolding all_below
given_below n ls vs bs h = go (lists_fit vs bs)
  where
    go : (b : Bool) → all_below n (cond b (last_differing ls vs bs) []) ≡ true
    go true = last_below n ls vs bs h
    go false = refl

module _ (p r node_table state_table numbers bytes vs bs : List ℕ) where
  abbrev L : ColourView
  L = lent_colours p r node_table state_table numbers bytes

  abbrev left : List ℕ
  left = left_within p vs bs

  abbrev table : List ℕ
  table = take (node_table_length (node_count p)) node_table

  module _ (ok : first_no (asked_checks p r (length node_table) (length state_table) (length numbers) (length bytes) vs bs)
      ≡ 0) where
    P : Passed p r (length node_table) (length state_table) (length numbers) (length bytes) vs bs
    P = passed_are p r (length node_table) (length state_table) (length numbers) (length bytes) vs bs ok

    roots-none : roots_given (node_count p) table left ≡ none → RuleColoursOutOfRange L vs bs
    roots-none e =
        let H = P.fits.headed in
        let l = H.headers.in-limits in
        let b : all_below (node_count p) left ≡ true = given_below (node_count p) (labels_within p) vs bs P.nodes-below in
        let f = sym (fit_all (node_count p) (length table) left l.nodes l.most
        (omega (arith, length-take-le (node_table_length (node_count p)) node_table H.node_table_room))
        (given-few (labels_within p) vs bs P.few-list)) ∙ b in
        part (links (roots-out-of-range (node_count p) table left (omega (arith, l.nodes)) b
        (sym (given_yes (node_count p) table left f) ∙ e)))

    lost : asked_on p r node_table state_table numbers bytes vs bs ≡ none → RuleColoursOutOfRange L vs bs
    unfolding handled_on all_below
    lost e = go (roots_given (node_count p) table left) refl e
      where
        some_node : 0 < node_count p
        some_node = omega (arith, P.fits.headed.headers.in-limits.nodes)

        last : (o : Option Tried) (m : ℕ) → and_then o (λ y. some (handled y m)) ≡ none → o ≡ none
        last none m i = refl
        last (some y) m i = absurd (none-some (sym i))

        go : (o : Option (List ℕ)) → roots_given (node_count p) table left ≡ o
            → and_then o (λ ms. and_then (handled_from L vs bs [] [] (tried 0 []) ms) (λ y. some (handled y (length ms))))
            ≡ none
            → RuleColoursOutOfRange L vs bs
        go none q i = roots-none q
        go (some ms) q i =
            let R = given-are (node_count p) table left ms q in
            handled-none L vs bs ms [] [] (tried 0 []) refl
            (λ j h. omega (
              arith,
              below-entry (node_count p - 1 + 1) ms (to_below (node_count p - 1) ms R.to) j h,
              some_node,
            ))
            (last (handled_from L vs bs [] [] (tried 0 []) ms) (length ms) i)

  is_none : (o : Option Handled) → ◌≡◌ {A = ℕ} (cond (is_some o) 0 18) 18 → o ≡ none
  is_none none e = refl
  is_none (some h) e = absurd (omega arith)

  pub ask-range : rule_ask_number p r node_table state_table numbers bytes vs bs ≡ 18
      → RuleColoursOutOfRange (lent_colours p r node_table state_table numbers bytes) vs bs
  unfolding asked_checks list_checks first_no
  ask-range e =
      elim (ℕ_discrete (first_no (asked_checks p r (length node_table) (length state_table) (length numbers) (length bytes)
      vs bs)) 0) [
        | yes ok ↦ lost ok (is_none (asked_on p r node_table state_table numbers bytes vs bs)
            (sym (number-last p r node_table state_table numbers bytes vs bs ok) ∙ e))
        | no h ↦ absurd (not-18 (rule_colours_fit p r (length node_table) (length state_table) (length numbers) (length
            bytes))
            (set_states_fit (state_count r)) (eqb (length vs) (length bs) && leb (length vs) change_limit)
            (all_below (node_count p) vs) (all_below (label_count r) bs)
            (sym (number-asked p r node_table state_table numbers bytes vs bs h) ∙ e))
      ]
