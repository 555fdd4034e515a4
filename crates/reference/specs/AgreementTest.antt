-- Demand 3 as a test that computes, for samples and controls.
--
-- answers_of r cs == the model's answers to the calls cs, from record r on
-- same_answer a b == whether two answers are the same
-- agreed b cs xs == whether the answers xs agree with the reference model b; where it is true Agrees holds
--   (proofs/AgreementTestLaws)
-- settled_answers b cs xs == for each call the answer that the reference model settles, none where it is left to the
--   program: only there are the answers xs read
use Rattle.std.specs.Prelude.{ℕ, Bool, true, false, ◌&&◌, List, [], ◌∷◌}
use Rattle.std.proofs.Math.Option.{Option, none, some}
use Rattle.list_laws.specs.Tests.{same_list}
use Rattle.model.specs.Calls.{Call, Answer, refused, parts, more, finished, outcome}
use Rattle.reference.specs.Reference.{Reference, Reply, settled, unsettled, step}
use Rattle.reference.specs.Demand3.{after}
use Rattle.model.specs.Model.{Record, act}

unfoldable pub answers_of : Record → List Call → List Answer
answers_of r [] = []
answers_of r (c ∷ cs) = (act r c).answer ∷ answers_of (act r c).record' cs

unfoldable pub flag : Bool → ℕ
flag false = 0
flag true = 1

-- an answer as numbers
unfoldable pub code : Answer → List ℕ
code (refused n) = 0 ∷ n ∷ []
code Answer.accepted = 1 ∷ []
code (parts p) = 2 ∷ p ∷ []
code more = 3 ∷ []
code finished = 4 ∷ []
code (outcome o) = 5 ∷ o.state ∷ flag o.yes ∷ o.parts ∷ o.links ∷ o.passed ∷ []

unfoldable pub same_answer : Answer → Answer → Bool
same_answer a b = same_list (code a) (code b)

unfoldable pub conforms : Reply → Answer → Bool
conforms (settled a b) x = same_answer x a
conforms (unsettled ok f) x = ok x

unfoldable pub agreed : Reference → List Call → List Answer → Bool
agreed b [] [] = true
agreed b [] (x ∷ xs) = false
agreed b (c ∷ cs) [] = false
agreed b (c ∷ cs) (x ∷ xs) = conforms (step b c) x && agreed (after (step b c) x) cs xs

unfoldable pub settled_in : Reply → Option Answer
settled_in (settled a b) = some a
settled_in (unsettled ok f) = none

unfoldable pub settled_answers : Reference → List Call → List Answer → List (Option Answer)
settled_answers b [] xs = []
settled_answers b (c ∷ cs) [] = []
settled_answers b (c ∷ cs) (x ∷ xs) = settled_in (step b c) ∷ settled_answers (after (step b c) x) cs xs
