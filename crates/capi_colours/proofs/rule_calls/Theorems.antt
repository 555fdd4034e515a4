-- Rule questions by colours as C and Rust call them (document 02, S-14), from the promise of the exported function.
--     rule-descent-answers   on tables as built and a list that passes 12 to 14: the fresh run's state and mark of the
--                            changed plan, the session's parts, at most 60 drops for each part with members below one
--                            child only, at most 45 links for each drop
--     rule-descent-built     18 never comes on tables as built, for any list
--     rule-descent-kept      refused: the outputs are unchanged
use Prim.Native.Nat.{ℕ}
use mathlib.Core.Path.{◌≡◌, refl, sym, ap, ◌∙◌}
use mathlib.Core.Bool.{Bool, true, false}
use mathlib.Core.List.{List, [], ◌∷◌}
use native.Mathlib.Omega.{arith}
use lib.ListN.{length}
use Rattle.std.specs.Prelude.{Result, Ok, Err}
use Rattle.formats.specs.Plan.{node_count}
use Rattle.formats.specs.Rules.{label_count, rule_automaton}
use Rattle.formats.specs.Checks.{check, first_no, list_checks}
use Rattle.formats.specs.Refusals.{answer_number}
use Rattle.formats.specs.declared.refusals.Refusal.{Refusal}
use Rattle.colours.specs.Descents.{sum}
use Rattle.colours.proofs.DescentLaws.{sum-le}
use Rattle.colour_questions.specs.declared.rule.answers.RuleAsked.{RuleAsked}
use Rattle.colour_questions.specs.rule.Question.{asked_checks, rule_ask_checks, rule_ask_number}
use Rattle.colour_questions.specs.rule.Promise.{RuleColoursBuilt, RuleColourAnswer, searches_left}
use Rattle.capi.specs.numbers.Numbers.{bit_of}
use Rattle.capi_colours.specs.rule_calls.RuleExported.{end_of, accepted_of, drops_of, links_of, parts_of, RuleExported, RunAnswered}

-- where 18 is the first that fails, 12 to 14 pass
list-passes : (a b c d e f : Bool)
    → first_no (check 17 a ∷ check 27 b ∷ check 12 c ∷ check 13 d ∷ check 14 e ∷ check 18 f ∷ []) ≡ 18
    → first_no (check 12 c ∷ check 13 d ∷ check 14 e ∷ []) ≡ 0
unfolding first_no
list-passes true true true true true f z = refl
list-passes true true true true false f z = absurd (omega arith)
list-passes true true true false e f z = absurd (omega arith)
list-passes true true false d e f z = absurd (omega arith)
list-passes true false c d e f z = absurd (omega arith)
list-passes false b c d e f z = absurd (omega arith)

module _ (p r node_table state_table numbers bytes vs bs : List ℕ)
    (n state₀ yes₀ drops₀ links₀ parts₀ state₁ yes₁ drops₁ links₁ parts₁ : ℕ)
    (E : RuleExported p r node_table state_table numbers bytes vs bs n state₀ yes₀ drops₀ links₀ parts₀ state₁ yes₁ drops₁
    links₁ parts₁) where
  pub rule-descent-answers : RuleColoursBuilt p r node_table state_table numbers bytes
      → first_no (list_checks (node_count p) (label_count r) vs bs) ≡ 0
      → RunAnswered p r vs bs n state₁ yes₁ drops₁ links₁ parts₁
  rule-descent-answers D c =
      let W : RuleColourAnswer p r vs bs E.answer = E.done.built D c in
      let i = W.is in
      let s = E.number.state_answer ∙ ap (λ (x : Result RuleAsked Refusal). end_of x state₀) i in
      let d : drops₁ ≡ length (searches_left p r vs bs) =
      E.number.drops_answer ∙ ap (λ (x : Result RuleAsked Refusal). drops_of x drops₀) i in
      let k : links₁ ≡ sum (searches_left p r vs bs) =
      E.number.links_answer ∙ ap (λ (x : Result RuleAsked Refusal). links_of x links₀) i in
      record {
        accepted = E.number.result ∙ ap answer_number i;
        state = s;
        yes = E.number.yes_answer ∙ ap (λ (x : Result RuleAsked Refusal). accepted_of x yes₀) i
            ∙ ap (λ (q : ℕ). bit_of ((rule_automaton r).accepting q)) (sym s);
        parts = E.number.parts_answer ∙ ap (λ (x : Result RuleAsked Refusal). parts_of x parts₀) i;
        drops_are = d;
        links_are = k;
        falls = rw d W.falls;
        few = rw (d, k) (sum-le 45 (searches_left p r vs bs) W.few);
      }

  pub rule-descent-built : RuleColoursBuilt p r node_table state_table numbers bytes → n ≡ 18 → ⊥
  unfolding rule_ask_number rule_ask_checks asked_checks list_checks
  rule-descent-built D e =
      let i = sym E.done.number ∙ sym E.number.result ∙ e in
      let z : n ≡ 0 = (rule-descent-answers D (list-passes _ _ _ _ _ _ i)).accepted in
      omega arith

  pub rule-descent-kept : (n ≡ 0 → ⊥)
      → (state₁ ≡ state₀) × (yes₁ ≡ yes₀) × (drops₁ ≡ drops₀) × (links₁ ≡ links₀) × (parts₁ ≡ parts₀)
  rule-descent-kept h =
      let N = E.number in
      let w = not-answered E.answer (λ e. h (N.result ∙ e)) in (
        N.state_answer ∙ w.0,
        N.yes_answer ∙ w.1,
        N.drops_answer ∙ w.2,
        N.links_answer ∙ w.3,
        N.parts_answer ∙ w.4,
      )
    where
      not-answered : (a : Result RuleAsked Refusal) → (answer_number a ≡ 0 → ⊥)
          → (end_of a state₀ ≡ state₀) × (accepted_of a yes₀ ≡ yes₀) × (drops_of a drops₀ ≡ drops₀)
          × (links_of a links₀ ≡ links₀) × (parts_of a parts₀ ≡ parts₀)
      not-answered (Ok x) z = absurd (z refl)
      not-answered (Err r) z = (refl, refl, refl, refl, refl)
