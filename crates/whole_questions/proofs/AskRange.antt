-- Where a whole question is refused with 18.
--     ask-range   a value leads outside the plan, the states or the labels, or a link does not rise
use Prim.Native.Nat.{ℕ, ◌+◌, ◌-◌, ◌<◌}
use mathlib.Core.Path.{◌≡◌, refl, sym, ◌∙◌}
use mathlib.Core.Bool.{Bool, true, false, cond, ◌&&◌}
use mathlib.Core.List.{List, []}
use mathlib.Core.Option.{Option, none, some}
use native.Mathlib.Decide.{ℕ_discrete}
use native.Mathlib.Omega.{arith}
use lib.Dec.{leb, eqb}
use lib.ListN.{length, take}
use lib.Seq.{length-take-le}
use Rattle.list_laws.specs.Tests.{all_below}
use Rattle.trees.specs.Climb.{and_then}
use Rattle.trees.proofs.MoveLaws.{none-some}
use Rattle.formats.specs.Limits.{change_limit}
use Rattle.formats.specs.Plan.{node_count, labels_within}
use Rattle.formats.specs.Rules.{label_count}
use Rattle.formats.specs.Checks.{first_no, list_checks, node_table_length}
use Rattle.formats.specs.Buffers.{headed_buffers_fit, rule_tables}
use Rattle.formats.specs.inner.InnerChecks.{lists_fit}
use Rattle.changes.specs.inner.LastDiffering.{last_differing, given_differing}
use Rattle.changes.proofs.LastDifferingLaws.{last_below}
use Rattle.tables.specs.declared.answers.Reached.{Reached}
use Rattle.tables.specs.Climbs.{View, reached}
use Rattle.questions.specs.RootsAnswers.{roots_given}
use Rattle.questions.specs.OutOfRange.{PartOutOfRange, links}
use Rattle.questions.proofs.FitLaws.{fit_all, given_yes, given-are}
use Rattle.questions.proofs.PlaceLaws.{to_below, below-entry}
use Rattle.questions.proofs.RootsRange.{roots-out-of-range}
use Rattle.whole_questions.specs.Question.{view_lent, left_lent, handled_from, Whole, is_whole, whole_with, whole_on, whole_lent}
use Rattle.whole_questions.specs.Question.{listed_checks, ask_number}
use Rattle.whole_questions.proofs.AskChecks.{Passed, passed_are}
use Rattle.whole_questions.proofs.AskNumbers.{number-listed, number-last}
use Rattle.questions.proofs.RootedLaws.{left-most}
use Rattle.whole_questions.proofs.TotalLaws.{handled-none}

-- none of the checks before the last has the number 18
not-18 : (a b c d : Bool) → ◌≡◌ {A = ℕ} (cond a (cond b (cond c (cond d 0 14) 13) 12) 17) 18 → ⊥
not-18 true true true true h = omega arith
not-18 true true true false h = omega arith
not-18 true true false d h = omega arith
not-18 true false c d h = omega arith
not-18 false b c d h = omega arith

left_below : (n : ℕ) (ls vs bs : List ℕ) → all_below n vs ≡ true → all_below n (given_differing ls vs bs) ≡ true
unfolding all_below
left_below n ls vs bs h = go (lists_fit vs bs)
  where
    go : (b : Bool) → all_below n (cond b (last_differing ls vs bs) []) ≡ true
    go true = last_below n ls vs bs h
    go false = refl

module _ (p r node_table state_table vs bs : List ℕ) where
  abbrev X : View
  X = view_lent p r node_table state_table

  abbrev left : List ℕ
  left = left_lent p vs bs

  abbrev table : List ℕ
  table = take (node_table_length (node_count p)) node_table

  module _ (ok : first_no (listed_checks p r (length node_table) (length state_table) vs bs) ≡ 0) where
    P : Passed p r (length node_table) (length state_table) vs bs
    P = passed_are p r (length node_table) (length state_table) vs bs ok

    roots-none : roots_given (node_count p) table left ≡ none → PartOutOfRange X [] vs bs
    roots-none e =
        let H = P.headed in
        let l = H.headers.in-limits in
        let b : all_below (node_count p) left ≡ true = left_below (node_count p) (labels_within p) vs bs P.nodes-below in
        let f = sym (fit_all (node_count p) (length table) left l.nodes l.most
        (omega (arith, length-take-le (node_table_length (node_count p)) node_table H.node_table_room))
        (left-most (labels_within p) vs bs P.few-list)) ∙ b in
        links (roots-out-of-range (node_count p) table left (omega (arith, l.nodes)) b
        (sym (given_yes (node_count p) table left f) ∙ e))

    lost : whole_lent p r node_table state_table vs bs ≡ none → PartOutOfRange X [] vs bs
    unfolding whole_on all_below
    lost e = go (roots_given (node_count p) table left) refl e
      where
        some_node : 0 < node_count p
        some_node = omega (arith, P.headed.headers.in-limits.nodes)

        last : (o : Option Reached) (m : ℕ) → and_then o (λ y. some (whole_with y m)) ≡ none → o ≡ none
        last none m i = refl
        last (some y) m i = absurd (none-some (sym i))

        go : (o : Option (List ℕ)) → roots_given (node_count p) table left ≡ o
            → and_then o (λ ms. and_then (handled_from X vs bs [] [] (reached 0 0 0) ms)
            (λ y. some (whole_with y (length ms)))) ≡ none
            → PartOutOfRange X [] vs bs
        go none q i = roots-none q
        go (some ms) q i =
            let R = given-are (node_count p) table left ms q in
            handled-none X vs bs ms [] [] (reached 0 0 0) refl
            (λ j h. omega (
              arith,
              below-entry (node_count p - 1 + 1) ms (to_below (node_count p - 1) ms R.to) j h,
              some_node,
            ))
            (last (handled_from X vs bs [] [] (reached 0 0 0) ms) (length ms) i)

  is_none : (o : Option Whole) → ◌≡◌ {A = ℕ} (cond (is_whole o) 0 18) 18 → o ≡ none
  is_none none e = refl
  is_none (some h) e = absurd (omega arith)

  pub ask-range : ask_number p r node_table state_table vs bs ≡ 18
      → PartOutOfRange (view_lent p r node_table state_table) [] vs bs
  unfolding listed_checks list_checks first_no
  ask-range e =
      elim (ℕ_discrete (first_no (listed_checks p r (length node_table) (length state_table) vs bs)) 0) [
        | yes ok ↦ lost ok (is_none (whole_lent p r node_table state_table vs bs)
            (sym (number-last p r node_table state_table vs bs ok) ∙ e))
        | no h ↦ absurd (not-18 (headed_buffers_fit rule_tables p r (length node_table) (length state_table))
            (eqb (length vs) (length bs) && leb (length vs) change_limit)
            (all_below (node_count p) vs) (all_below (label_count r) bs)
            (sym (number-listed p r node_table state_table vs bs h) ∙ e))
      ]
