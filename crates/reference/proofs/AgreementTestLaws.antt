-- The computed test of demand 3 says what the statement says.
--     agreed_is      where agreed says yes, Agrees holds
--     history-of     the model's answers to any list of calls are a history
use Prim.Native.Nat.{ℕ, zero, suc}
use mathlib.Core.Path.{◌≡◌, refl, sym, ap, ◌∙◌}
use mathlib.Core.Bool.{Bool, true, false}
use mathlib.Core.List.{List, [], ◌∷◌}
use lib.Dec.{eqb}
use Rattle.list_laws.proofs.BoolLaws.{true-false, and_left, and_right}
use Rattle.list_laws.proofs.TestLaws.{same_list-true}
use Rattle.model.specs.Calls.{Call, Answer, refused, parts, more, finished, outcome, outcome_answer}
use Rattle.reference.specs.Reference.{Reference, Reply, settled, unsettled, step}
use Rattle.reference.specs.Demand3.{Conforms, after, Agrees}
use Rattle.model.specs.History.{History, done, call}
use Rattle.model.specs.Model.{Record, act, Does}
use Rattle.reference.specs.AgreementTest.{answers_of, flag, code, same_answer, conforms, agreed}

-- an answer from its numbers
decode : List ℕ → Answer
decode [] = more
decode (zero ∷ []) = more
decode (zero ∷ n ∷ ns) = refused n
decode (suc zero ∷ ns) = Answer.accepted
decode (suc (suc zero) ∷ []) = more
decode (suc (suc zero) ∷ p ∷ ns) = parts p
decode (suc (suc (suc zero)) ∷ ns) = more
decode (suc (suc (suc (suc zero))) ∷ ns) = finished
decode (suc (suc (suc (suc (suc n)))) ∷ []) = more
decode (suc (suc (suc (suc (suc n)))) ∷ s ∷ []) = more
decode (suc (suc (suc (suc (suc n)))) ∷ s ∷ y ∷ []) = more
decode (suc (suc (suc (suc (suc n)))) ∷ s ∷ y ∷ p ∷ []) = more
decode (suc (suc (suc (suc (suc n)))) ∷ s ∷ y ∷ p ∷ l ∷ []) = more
decode (suc (suc (suc (suc (suc n)))) ∷ s ∷ y ∷ p ∷ l ∷ d ∷ ns) = outcome_answer s (eqb y 1) p l d

flag-bool : (y : Bool) → eqb (flag y) 1 ≡ y
unfolding flag
flag-bool true = refl
flag-bool false = refl

decode-code : (a : Answer) → decode (code a) ≡ a
unfolding decode code flag
decode-code (refused n) = refl
decode-code Answer.accepted = refl
decode-code (parts p) = refl
decode-code more = refl
decode-code finished = refl
decode-code (outcome o) = ap (λ (y : Bool). outcome_answer o.state y o.parts o.links o.passed) (flag-bool o.yes)

conforms-is : (n : Reply) (x : Answer) → conforms n x ≡ true → Conforms n x
unfolding conforms same_answer
conforms-is (settled a b) x e = sym (decode-code x) ∙ ap decode (same_list-true (code x) (code a) e) ∙ decode-code a
conforms-is (unsettled ok f) x e = e

pub agreed_is : (b : Reference) (cs : List Call) (xs : List Answer) → agreed b cs xs ≡ true → Agrees b cs xs
unfolding agreed
agreed_is b [] [] e = tt
agreed_is b [] (x ∷ xs) e = true-false (sym e)
agreed_is b (c ∷ cs) [] e = true-false (sym e)
agreed_is b (c ∷ cs) (x ∷ xs) e = (
  conforms-is (step b c) x (and_left (conforms (step b c) x) (agreed (after (step b c) x) cs xs) e),
  agreed_is (after (step b c) x) cs xs (and_right (conforms (step b c) x) (agreed (after (step b c) x) cs xs) e),
)

pub history-of : (r : Record) (cs : List Call) → History Does r cs (answers_of r cs)
unfolding answers_of
history-of r [] = done
history-of r (c ∷ cs) = call (record { tells = refl; leaves = refl }) (history-of (act r c).record' cs)
