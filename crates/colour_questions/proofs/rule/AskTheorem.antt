-- The promise of a rule question by colours.
--     ask-kept   an answer's state is below S
--     ask-done   the whole promise, for any answer that tells what rule_ask_answer says
use Prim.Native.Nat.{ℕ, zero, suc, ◌<◌}
use mathlib.Core.Path.{◌≡◌, refl, sym, ap, ◌∙◌, subst}
use mathlib.Core.List.{List, []}
use mathlib.Core.Option.{Option, none, some, some-injective}
use native.Mathlib.Omega.{arith}
use lib.ListN.{length}
use Rattle.trees.specs.Climb.{and_then}
use Rattle.trees.proofs.MoveLaws.{none-some}
use Rattle.std.specs.Prelude.{Result, Ok, Err}
use Rattle.formats.specs.Refusals.{answer_number, told}
use Rattle.formats.specs.declared.refusals.Refusal.{Refusal}
use Rattle.formats.proofs.RefusalLaws.{told-value}
use Rattle.questions.specs.RootsAnswers.{roots_given}
use Rattle.questions.proofs.FitLaws.{given-are}
use Rattle.questions.proofs.PlaceLaws.{to_some}
use Rattle.colours.specs.StateSets.{Tried, tried}
use Rattle.colour_questions.specs.parts.Part.{ColourView, handled_from}
use Rattle.colour_questions.specs.declared.rule.answers.RuleAsked.{RuleAsked}
use Rattle.colour_questions.specs.rule.Question.{Handled, handled, handled_on, asked_on, left_within, lent_colours, rule_ask_number}
use Rattle.colour_questions.specs.rule.Question.{answered_with, rule_answer, rule_ask_answer}
use Rattle.colour_questions.specs.rule.Promise.{state_kept, links_kept, RuleAskDone}
use Rattle.colour_questions.proofs.rule.StateLaws.{handled-state}
use Rattle.colour_questions.proofs.rule.AskNumbers.{told-asked, on-number}
use Rattle.colour_questions.proofs.rule.AskRange.{ask-range}
use Rattle.colour_questions.proofs.rule.AskUsable.{ask-usable}
use Rattle.colour_questions.proofs.rule.AskBuilt.{ask-built}

on-kept : (L : ColourView) (left vs bs : List ℕ) (h : Handled) → handled_on L left vs bs ≡ some h
    → h.result.state < L.view.s
unfolding handled_on
on-kept L left vs bs h e = go (roots_given L.view.n L.view.node_table left) refl e
  where
    inside : (ms : List ℕ) → 0 < length ms → (o : Option Tried) → handled_from L vs bs [] [] (tried 0 []) ms ≡ o
        → and_then o (λ r. some (handled r (length ms))) ≡ some h → h.result.state < L.view.s
    inside ms p none q i = absurd (none-some i)
    inside ms p (some x) q i =
        let z : x ≡ h.result = ap (λ (y : Handled). y.result) (some-injective (handled x (length ms)) h i) in
        subst (λ (y : Tried). y.state < L.view.s) z
        (handled-state L vs bs [] [] (tried 0 []) ms x (λ w. absurd (omega arith)) q)

    go : (o : Option (List ℕ)) → roots_given L.view.n L.view.node_table left ≡ o
        → and_then o (λ ms. and_then (handled_from L vs bs [] [] (tried 0 []) ms) (λ r. some (handled r (length ms))))
        ≡ some h
        → h.result.state < L.view.s
    go none q i = absurd (none-some i)
    go (some ms) q i =
        inside ms (to_some _ ms (given-are L.view.n L.view.node_table left ms q).to)
        (handled_from L vs bs [] [] (tried 0 []) ms) refl i

module _ (p r node_table state_table numbers bytes vs bs : List ℕ) where
  abbrev on : Option Handled
  on = asked_on p r node_table state_table numbers bytes vs bs

  ask-kept : (a : Result RuleAsked Refusal) → told a ≡ rule_ask_answer p r node_table state_table numbers bytes vs bs
      → state_kept r a
  unfolding rule_ask_answer rule_answer
  ask-kept (Err e) h = tt
  ask-kept (Ok y) h = go (rule_ask_number p r node_table state_table numbers bytes vs bs) on refl h
    where
      go : (n : ℕ) (o : Option Handled) → asked_on p r node_table state_table numbers bytes vs bs ≡ o
          → ◌≡◌ {A = ℕ × Option RuleAsked} (0, some y) (rule_answer r n o) → state_kept r (Ok y)
      go zero none e i = absurd (let z : ◌≡◌ {A = ℕ} 0 18 = ap (λ t. t.0) i in omega arith)
      go zero (some h) e i =
          subst (λ (x : RuleAsked). state_kept r (Ok x))
          (some-injective (answered_with r h.result.state h.result.searches h.parts) y (sym (ap (λ t. t.1) i)))
          (on-kept (lent_colours p r node_table state_table numbers bytes) (left_within p vs bs) vs bs h e, refl)
      go (suc n) o e i = absurd (let z : ◌≡◌ {A = ℕ} 0 (suc n) = ap (λ t. t.0) i in omega arith)

  pub ask-done : (answer : Result RuleAsked Refusal)
      → told answer ≡ rule_ask_answer p r node_table state_table numbers bytes vs bs
      → links_kept answer → RuleAskDone p r node_table state_table numbers bytes vs bs answer
  ask-done answer e few =
      let n : answer_number answer ≡ rule_ask_number p r node_table state_table numbers bytes vs bs =
      told-asked answer ∙ ap (λ t. t.0) e ∙ on-number p r node_table state_table numbers bytes vs bs in
      record {
        result = e;
        number = n;
        properties = ask-kept answer e;
        few = few;
        out_of_range = λ i. ask-range p r node_table state_table numbers bytes vs bs (sym n ∙ i);
        usable = λ U ok. told-value answer 0 _ (e ∙ ask-usable p r node_table state_table numbers bytes vs bs U ok) refl;
        built = λ D ok. ask-built p r node_table state_table numbers bytes vs bs D ok answer e;
      }
