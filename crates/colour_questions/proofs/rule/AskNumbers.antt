-- The number of a rule question by colours, and the answer by it.
--     number-asked, number-last   the number of the first check that fails: before 18, and 18
--     refused-is, lent_is         so the code's answers are the named ones
--     told-asked, on-number       the number of the named answer
--     refused-few                 a refusal has no links
use Prim.Native.Nat.{ℕ, zero, suc}
use mathlib.Core.Path.{◌≡◌, refl, sym, ap, ◌∙◌}
use mathlib.Core.Bool.{cond}
use mathlib.Core.List.{List, [], ◌∷◌}
use mathlib.Core.Option.{Option, none, some}
use native.Mathlib.Omega.{arith}
use lib.ListN.{length}
use Rattle.formats.specs.Plan.{node_count}
use Rattle.formats.specs.Rules.{label_count}
use Rattle.std.specs.Prelude.{Result, Ok, Err, IsErrAnd}
use Rattle.formats.specs.Checks.{Check, check, first_no}
use Rattle.formats.specs.Refusals.{refusal_number, answer_number, told}
use Rattle.formats.specs.declared.refusals.Refusal.{Refusal}
use Rattle.formats.proofs.CheckLaws.{first_no-append-zero, first_no-append-no, Numbered}
use Rattle.formats.proofs.InputLaws.{list-numbered}
use Rattle.formats.proofs.RefusalLaws.{number-not-0}
use Rattle.branches.specs.Question.{is_some}
use Rattle.colour_questions.specs.declared.rule.answers.RuleAsked.{RuleAsked}
use Rattle.colour_questions.specs.rule.Question.{Handled, asked_on, asked_checks, rule_ask_checks, rule_ask_number, rule_answer}
use Rattle.colour_questions.specs.rule.Question.{rule_ask_answer}
use Rattle.colour_questions.specs.rule.Promise.{links_kept}
use Rattle.colour_questions.specs.rule.inner.Args.{answered_on}

-- an answer tells its number
pub told-asked : (a : Result RuleAsked Refusal) → answer_number a ≡ (told a).0
told-asked (Ok x) = refl
told-asked (Err e) = refl

-- what `?` hands on has no links
pub refused-few : (x : Refusal) (a : Result RuleAsked Refusal) → IsErrAnd a (λ e. e ≡ x) → links_kept a
refused-few x (Ok y) h = absurd h
refused-few x (Err e) h = tt

module _ (p r node_table state_table numbers bytes vs bs : List ℕ) where
  abbrev asked : List Check
  asked = asked_checks p r (length node_table) (length state_table) (length numbers) (length bytes) vs bs

  abbrev on : Option Handled
  on = asked_on p r node_table state_table numbers bytes vs bs

  abbrev last : List Check
  last = check 18 (is_some on) ∷ []

  numbered : Numbered asked
  unfolding asked_checks
  numbered = (omega arith, (omega arith, list-numbered (node_count p) (label_count r) vs bs))

  pub number-asked : (first_no asked ≡ 0 → ⊥) → rule_ask_number p r node_table state_table numbers bytes vs bs
      ≡ first_no asked
  unfolding rule_ask_number rule_ask_checks
  number-asked h = first_no-append-no asked last h

  pub number-last : first_no asked ≡ 0 → rule_ask_number p r node_table state_table numbers bytes vs bs
      ≡ cond (is_some on) 0 18
  unfolding rule_ask_number rule_ask_checks
  number-last h = first_no-append-zero asked last numbered h ∙ one
    where
      one : first_no last ≡ cond (is_some on) 0 18
      one = unfold first_no in refl

  no-answer : (n : ℕ) → (n ≡ 0 → ⊥) → ◌≡◌ {A = ℕ × Option RuleAsked} (n, none) (rule_answer r n on)
  unfolding rule_answer
  no-answer zero f = absurd (f refl)
  no-answer (suc n) f = refl

  -- a is what `?` hands on of the checks' refusal x
  pub refused-is : (x : Refusal) (a : Result RuleAsked Refusal) → IsErrAnd a (λ e. e ≡ x) → refusal_number x ≡ first_no asked
      → told a ≡ rule_ask_answer p r node_table state_table numbers bytes vs bs
  unfolding rule_ask_answer
  refused-is x (Ok y) h e = absurd h
  refused-is x (Err y) h e =
      let i : refusal_number y ≡ first_no asked = ap refusal_number h ∙ e in
      no-answer (refusal_number y) (number-not-0 y)
      ∙ ap (λ (n : ℕ). rule_answer r n on) (i ∙ sym (number-asked (λ z. number-not-0 y (i ∙ z))))

  pub lent_is : (a : ℕ × Option RuleAsked) → first_no asked ≡ 0 → a ≡ answered_on p r node_table state_table numbers bytes vs bs
      → a ≡ rule_ask_answer p r node_table state_table numbers bytes vs bs
  unfolding rule_ask_answer rule_answer
  lent_is a z e = e ∙ sym (ap (λ (n : ℕ). rule_answer r n on) (number-last z) ∙ go on)
    where
      go : (o : Option Handled) → rule_answer r (cond (is_some o) 0 18) o ≡ rule_answer r 0 o
      go none = refl
      go (some h) = refl

  -- the number of the named answer is the first check's that fails
  pub on-number : (rule_ask_answer p r node_table state_table numbers bytes vs bs).0
      ≡ rule_ask_number p r node_table state_table numbers bytes vs bs
  unfolding rule_ask_answer rule_answer
  on-number = go (first_no asked) refl
    where
      named : (n : ℕ) (o : Option Handled) → (n ≡ 0 → (x : Handled) × (o ≡ some x))
          → (rule_answer r n o).0 ≡ n
      named zero none f = absurd (let y = (f refl).1 in let w : ◌≡◌ {A = ℕ} 0 1 = cc in omega arith)
      named zero (some h) f = refl
      named (suc n) none f = refl
      named (suc n) (some h) f = refl

      found : (o : Option Handled) → ◌≡◌ {A = ℕ} (cond (is_some o) 0 18) 0 → (x : Handled) × (o ≡ some x)
      found none e = absurd (omega arith)
      found (some h) e = (h, refl)

      go : (n : ℕ) → first_no asked ≡ n
          → (rule_answer r (rule_ask_number p r node_table state_table numbers bytes vs bs) on).0
          ≡ rule_ask_number p r node_table state_table numbers bytes vs bs
      go zero z = named _ on (λ e. found on (sym (number-last z) ∙ e))
      go (suc n) z =
          let f : first_no asked ≡ 0 → ⊥ = λ e. (let w : ◌≡◌ {A = ℕ} (suc n) 0 = sym z ∙ e in omega arith) in
          named _ on (λ e. absurd (f (sym (number-asked f) ∙ e)))
