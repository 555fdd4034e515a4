-- The number of a whole question, and the answer by it.
--     number-listed, number-last   the number of the first check that fails: before 18, and 18
--     refused-is, lent_is          so the code's answers are the named ones
--     told-asked, on-number        the number of the named answer
use Prim.Native.Nat.{ℕ, zero, suc}
use mathlib.Core.Path.{◌≡◌, refl, sym, ap, ◌∙◌}
use mathlib.Core.Bool.{cond}
use mathlib.Core.List.{List, [], ◌∷◌}
use mathlib.Core.Option.{Option, none, some}
use native.Mathlib.Omega.{arith}
use lib.ListN.{length}
use Rattle.formats.specs.Plan.{node_count}
use Rattle.formats.specs.Rules.{label_count}
use Rattle.std.specs.Prelude.{Result, Ok, Err, IsErrAnd}
use Rattle.formats.specs.Checks.{Check, check, first_no}
use Rattle.formats.specs.Refusals.{refusal_number, answer_number, told}
use Rattle.formats.specs.declared.refusals.Refusal.{Refusal}
use Rattle.formats.proofs.CheckLaws.{first_no-append-zero, first_no-append-no, Numbered}
use Rattle.formats.proofs.InputLaws.{list-numbered}
use Rattle.formats.proofs.RefusalLaws.{number-not-0}
use Rattle.whole_questions.specs.declared.answers.Asked.{Asked}
use Rattle.whole_questions.specs.Question.{Whole, is_whole, whole_lent, listed_checks, ask_checks, ask_number, answer_for, ask_answer}
use Rattle.whole_questions.specs.inner.Args.{answered_on}

-- an answer tells its number
pub told-asked : (a : Result Asked Refusal) → answer_number a ≡ (told a).0
told-asked (Ok x) = refl
told-asked (Err e) = refl

module _ (p r node_table state_table vs bs : List ℕ) where
  abbrev listed : List Check
  listed = listed_checks p r (length node_table) (length state_table) vs bs

  abbrev on : Option Whole
  on = whole_lent p r node_table state_table vs bs

  abbrev last : List Check
  last = check 18 (is_whole on) ∷ []

  numbered : Numbered listed
  unfolding listed_checks
  numbered = (omega arith, list-numbered (node_count p) (label_count r) vs bs)

  pub number-listed : (first_no listed ≡ 0 → ⊥) → ask_number p r node_table state_table vs bs ≡ first_no listed
  unfolding ask_number ask_checks
  number-listed h = first_no-append-no listed last h

  pub number-last : first_no listed ≡ 0 → ask_number p r node_table state_table vs bs ≡ cond (is_whole on) 0 18
  unfolding ask_number ask_checks
  number-last h = first_no-append-zero listed last numbered h ∙ one
    where
      one : first_no last ≡ cond (is_whole on) 0 18
      one = unfold first_no in refl

  no-answer : (n : ℕ) → (n ≡ 0 → ⊥) → ◌≡◌ {A = ℕ × Option Asked} (n, none) (answer_for r n on)
  unfolding answer_for
  no-answer zero f = absurd (f refl)
  no-answer (suc n) f = refl

  -- a is what `?` hands on of the checks' refusal x
  pub refused-is : (x : Refusal) (a : Result Asked Refusal) → IsErrAnd a (λ e. e ≡ x) → refusal_number x ≡ first_no listed
      → told a ≡ ask_answer p r node_table state_table vs bs
  unfolding ask_answer
  refused-is x (Ok y) h e = absurd h
  refused-is x (Err y) h e =
      let i : refusal_number y ≡ first_no listed = ap refusal_number h ∙ e in
      no-answer (refusal_number y) (number-not-0 y)
      ∙ ap (λ (n : ℕ). answer_for r n on) (i ∙ sym (number-listed (λ z. number-not-0 y (i ∙ z))))

  pub lent_is : (a : ℕ × Option Asked) → first_no listed ≡ 0 → a ≡ answered_on p r node_table state_table vs bs
      → a ≡ ask_answer p r node_table state_table vs bs
  unfolding ask_answer answer_for
  lent_is a z e = e ∙ sym (ap (λ (n : ℕ). answer_for r n on) (number-last z) ∙ go on)
    where
      go : (o : Option Whole) → answer_for r (cond (is_whole o) 0 18) o ≡ answer_for r 0 o
      go none = refl
      go (some w) = refl

  -- the number of the named answer is the first check's that fails
  pub on-number : (ask_answer p r node_table state_table vs bs).0 ≡ ask_number p r node_table state_table vs bs
  unfolding ask_answer answer_for
  on-number = go (first_no listed) refl
    where
      named : (n : ℕ) (o : Option Whole) → (n ≡ 0 → (x : Whole) × (o ≡ some x)) → (answer_for r n o).0 ≡ n
      named zero none f = absurd (let y = (f refl).1 in let w : ◌≡◌ {A = ℕ} 0 1 = cc in omega arith)
      named zero (some w) f = refl
      named (suc n) none f = refl
      named (suc n) (some w) f = refl

      found : (o : Option Whole) → ◌≡◌ {A = ℕ} (cond (is_whole o) 0 18) 0 → (x : Whole) × (o ≡ some x)
      found none e = absurd (omega arith)
      found (some w) e = (w, refl)

      go : (n : ℕ) → first_no listed ≡ n
          → (answer_for r (ask_number p r node_table state_table vs bs) on).0
          ≡ ask_number p r node_table state_table vs bs
      go zero z = named _ on (λ e. found on (sym (number-last z) ∙ e))
      go (suc n) z =
          let f : first_no listed ≡ 0 → ⊥ = λ e. (let w : ◌≡◌ {A = ℕ} (suc n) 0 = sym z ∙ e in omega arith) in
          named _ on (λ e. absurd (f (sym (number-listed f) ∙ e)))
