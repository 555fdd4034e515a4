-- Whole questions as C and Rust call them, from the promise of the exported function.
--     whole_of         the number and the outputs of an answer that is known
--     whole-answers    on tables as built and a list that passes 12 to 14: the fresh run's state and mark of the changed
--                      plan, and the session's parts, links and nodes passed over
--     whole-ruled      on usable tables: what the parts by the rule of document 01 give on the bytes that were passed in
--     whole-never-18   18 never comes on usable tables, for any list
--     whole-kept       refused: the outputs are unchanged
use Prim.Native.Nat.{ℕ}
use mathlib.Core.Path.{◌≡◌, refl, sym, ap, ◌∙◌}
use mathlib.Core.Bool.{Bool, true, false}
use mathlib.Core.List.{List, [], ◌∷◌}
use native.Mathlib.Omega.{arith}
use Rattle.std.specs.Prelude.{Result, Ok, Err}
use Rattle.formats.specs.Plan.{node_count}
use Rattle.formats.specs.Rules.{label_count, rule_automaton}
use Rattle.formats.specs.Checks.{check, first_no, list_checks}
use Rattle.formats.specs.Built.{AsBuilt}
use Rattle.formats.specs.Refusals.{answer_number}
use Rattle.formats.specs.declared.refusals.Refusal.{Refusal}
use Rattle.whole_questions.specs.declared.answers.Asked.{Asked}
use Rattle.whole_questions.specs.Promise.{AskUsable}
use Rattle.whole_questions.proofs.Theorems.{ask-number}
use Rattle.capi.specs.numbers.Numbers.{bit_of}
use Rattle.capi_ask.specs.AskAnswers.{AskAnswered, AskRuled}
use Rattle.capi_ask.specs.WholeExported.{end_of, accepted_of, parts_of, links_of, passed_of, WholeExported}

-- 12 to 14 are not 18
not-18 : (a b c : Bool) → first_no (check 12 a ∷ check 13 b ∷ check 14 c ∷ []) ≡ 18 → ⊥
unfolding first_no
not-18 true true true z = omega arith
not-18 true true false z = omega arith
not-18 true false c z = omega arith
not-18 false b c z = omega arith

module _ (p r node_table state_table vs bs : List ℕ)
    (n state₀ yes₀ parts₀ links₀ passed₀ state₁ yes₁ parts₁ links₁ passed₁ : ℕ)
    (E : WholeExported p r node_table state_table vs bs n state₀ yes₀ parts₀ links₀ passed₀ state₁ yes₁ parts₁ links₁
    passed₁) where
  -- the number and the outputs of an answer that is known
  pub whole_of : (a : Result Asked Refusal) → E.answer ≡ a
      → (n ≡ answer_number a) × (state₁ ≡ end_of a state₀) × (yes₁ ≡ accepted_of a yes₀) × (parts₁ ≡ parts_of a parts₀)
      × (links₁ ≡ links_of a links₀) × (passed₁ ≡ passed_of a passed₀)
  whole_of a i = (
    E.number.result ∙ ap answer_number i,
    E.number.state_answer ∙ ap (λ (x : Result Asked Refusal). end_of x state₀) i,
    E.number.yes_answer ∙ ap (λ (x : Result Asked Refusal). accepted_of x yes₀) i,
    E.number.parts_answer ∙ ap (λ (x : Result Asked Refusal). parts_of x parts₀) i,
    E.number.links_answer ∙ ap (λ (x : Result Asked Refusal). links_of x links₀) i,
    E.number.passed_answer ∙ ap (λ (x : Result Asked Refusal). passed_of x passed₀) i,
  )

  pub whole-answers : AsBuilt p r node_table state_table → first_no (list_checks (node_count p) (label_count r) vs bs) ≡ 0
      → AskAnswered p r vs bs n state₁ yes₁ parts₁ links₁ passed₁
  whole-answers B ok =
      let w = whole_of _ (E.done.built B ok) in
      record {
        accepted = w.0;
        state_is = w.1;
        yes_is = w.2 ∙ ap (λ (q : ℕ). bit_of ((rule_automaton r).accepting q)) (sym w.1);
        parts_are = w.3;
        links_are = w.4;
        passed_are = w.5;
      }

  pub whole-ruled : AskUsable p r node_table state_table → first_no (list_checks (node_count p) (label_count r) vs bs) ≡ 0
      → AskRuled p r node_table state_table vs bs n state₁ yes₁ parts₁ links₁ passed₁
  whole-ruled U ok =
      let w = whole_of _ (E.done.usable U ok) in
      record {
        accepted = w.0;
        state_is = w.1;
        yes_is = w.2 ∙ ap (λ (q : ℕ). bit_of ((rule_automaton r).accepting q)) (sym w.1);
        parts_are = w.3;
        links_are = w.4;
        passed_are = w.5;
      }

  pub whole-never-18 : AskUsable p r node_table state_table → n ≡ 18 → ⊥
  unfolding list_checks
  whole-never-18 U e =
      not-18 _ _ _ (sym (E.number.result ∙ ask-number p r node_table state_table vs bs E.answer E.done U) ∙ e)

  pub whole-kept : (n ≡ 0 → ⊥)
      → (state₁ ≡ state₀) × (yes₁ ≡ yes₀) × (parts₁ ≡ parts₀) × (links₁ ≡ links₀) × (passed₁ ≡ passed₀)
  whole-kept h =
      let N = E.number in
      let w = not-answered E.answer (λ e. h (N.result ∙ e)) in (
        N.state_answer ∙ w.0,
        N.yes_answer ∙ w.1,
        N.parts_answer ∙ w.2,
        N.links_answer ∙ w.3,
        N.passed_answer ∙ w.4,
      )
    where
      not-answered : (a : Result Asked Refusal) → (answer_number a ≡ 0 → ⊥)
          → (end_of a state₀ ≡ state₀) × (accepted_of a yes₀ ≡ yes₀) × (parts_of a parts₀ ≡ parts₀)
          × (links_of a links₀ ≡ links₀) × (passed_of a passed₀ ≡ passed₀)
      not-answered (Ok x) z = absurd (z refl)
      not-answered (Err r) z = (refl, refl, refl, refl, refl)
