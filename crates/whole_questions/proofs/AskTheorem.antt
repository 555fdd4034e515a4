-- The promise of a whole question.
--     ask-kept   what holds of an answer for any inputs
--     ask-done   the whole promise, for any answer that tells what ask_answer says
use Prim.Native.Nat.{ℕ, zero, suc, ◌+◌}
use mathlib.Core.Path.{◌≡◌, refl, sym, ap, ◌∙◌, subst}
use mathlib.Core.List.{List, []}
use mathlib.Core.Option.{Option, none, some, some-injective}
use native.Mathlib.Omega.{arith}
use lib.ListN.{length}
use Rattle.std.specs.Prelude.{Result, Ok, Err}
use Rattle.trees.specs.Climb.{and_then}
use Rattle.trees.proofs.MoveLaws.{none-some}
use Rattle.formats.specs.Refusals.{answer_number, told}
use Rattle.formats.specs.declared.refusals.Refusal.{Refusal}
use Rattle.formats.proofs.RefusalLaws.{told-value}
use Rattle.tables.specs.declared.answers.Reached.{Reached}
use Rattle.tables.specs.Climbs.{View, reached}
use Rattle.questions.specs.RootsAnswers.{roots_given}
use Rattle.questions.proofs.FitLaws.{given-are}
use Rattle.questions.proofs.PlaceLaws.{to_some}
use Rattle.whole_questions.specs.declared.answers.Asked.{Asked}
use Rattle.whole_questions.specs.Question.{view_lent, left_lent, handled_from, Whole, whole_with, whole_on, whole_lent}
use Rattle.whole_questions.specs.Question.{answered_with, ask_number, answer_for, ask_answer}
use Rattle.whole_questions.specs.Promise.{TotalKept, AskKept, ruled_answer, fresh_answer, AskDone}
use Rattle.whole_questions.proofs.TotalLaws.{bounds-none, handled-bounds}
use Rattle.whole_questions.proofs.AskNumbers.{told-asked, on-number}
use Rattle.whole_questions.proofs.AskRange.{ask-range}
use Rattle.whole_questions.proofs.AskBuilt.{ask-usable, ask-built}

on-kept : (X : View) (left vs bs : List ℕ) (w : Whole) → whole_on X left vs bs ≡ some w
    → TotalKept X (length left) w.parts w.total
unfolding whole_on
on-kept X left vs bs w e = go (roots_given X.n X.node_table left) refl e
  where
    inside : (ms : List ℕ) → roots_given X.n X.node_table left ≡ some ms → (o : Option Reached)
        → handled_from X vs bs [] [] (reached 0 0 0) ms ≡ o
        → and_then o (λ x. some (whole_with x (length ms))) ≡ some w → TotalKept X (length left) w.parts w.total
    inside ms g none q i = absurd (none-some i)
    inside ms g (some x) q i =
        let B = handled-bounds X vs bs ms [] [] 0 (reached 0 0 0) x (bounds-none X) q in
        let R = given-are X.n X.node_table left ms g in
        let c : 0 + length ms ≡ length ms = omega arith in
        subst (λ (y : Whole). TotalKept X (length left) y.parts y.total)
        (some-injective (whole_with x (length ms)) w i)
        (record {
          state_below = B.state (omega (arith, to_some _ ms R.to));
          one = R.one;
          few = R.few;
          links_most = omega (arith, c, B.links_most);
          links_passed = B.links_passed;
          passed_most = λ d b. omega (arith, c, B.passed_most d b);
        })

    go : (o : Option (List ℕ)) → roots_given X.n X.node_table left ≡ o
        → and_then o (λ ms. and_then (handled_from X vs bs [] [] (reached 0 0 0) ms)
        (λ x. some (whole_with x (length ms)))) ≡ some w
        → TotalKept X (length left) w.parts w.total
    go none q i = absurd (none-some i)
    go (some ms) q i = inside ms q (handled_from X vs bs [] [] (reached 0 0 0) ms) refl i

module _ (p r node_table state_table vs bs : List ℕ) where
  ask-kept : (a : Result Asked Refusal) → told a ≡ ask_answer p r node_table state_table vs bs
      → AskKept p r node_table state_table vs bs a
  unfolding ask_answer answer_for
  ask-kept (Err e) h = tt
  ask-kept (Ok x) h = go (ask_number p r node_table state_table vs bs) (whole_lent p r node_table state_table vs bs) refl h
    where
      go : (n : ℕ) (o : Option Whole) → whole_lent p r node_table state_table vs bs ≡ o
          → ◌≡◌ {A = ℕ × Option Asked} (0, some x) (answer_for r n o) → AskKept p r node_table state_table vs bs (Ok x)
      go zero none e i = absurd (let z : ◌≡◌ {A = ℕ} 0 18 = ap (λ t. t.0) i in omega arith)
      go zero (some w) e i =
          subst (λ (y : Asked). AskKept p r node_table state_table vs bs (Ok y))
          (some-injective (answered_with r w.total w.parts) x (sym (ap (λ t. t.1) i)))
          (refl, on-kept (view_lent p r node_table state_table) (left_lent p vs bs) vs bs w e)
      go (suc n) o e i = absurd (let z : ◌≡◌ {A = ℕ} 0 (suc n) = ap (λ t. t.0) i in omega arith)

  pub ask-done : (answer : Result Asked Refusal) → told answer ≡ ask_answer p r node_table state_table vs bs
      → AskDone p r node_table state_table vs bs answer
  ask-done answer e =
      let n : answer_number answer ≡ ask_number p r node_table state_table vs bs =
      told-asked answer ∙ ap (λ t. t.0) e ∙ on-number p r node_table state_table vs bs in
      record {
        result = e;
        number = n;
        properties = ask-kept answer e;
        out_of_range = λ i. ask-range p r node_table state_table vs bs (sym n ∙ i);
        usable = λ U ok. told-value answer 0 (ruled_answer p r node_table state_table vs bs)
            (e ∙ ask-usable p r node_table state_table vs bs U ok) refl;
        built = λ B ok. told-value answer 0 (fresh_answer p r vs bs)
            (e ∙ ask-built p r node_table state_table vs bs B ok) refl;
      }
