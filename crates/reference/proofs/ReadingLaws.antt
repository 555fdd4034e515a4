-- What the reference model's reply to a Read allows.
--     outcome-only       an answer that it takes from the program is an outcome
--     reading-outcome    a Read of a finished question is answered with an outcome, however it is settled
--     reading-stays      and it leaves the reference model as it is
use mathlib.Core.Path.{◌≡◌, refl, sym}
use mathlib.Core.Bool.{true}
use Rattle.list_laws.proofs.BoolLaws.{true-false}
use Rattle.model.specs.Calls.{Answer, refused, parts, more, finished, Outcome, outcome}
use Rattle.reference.specs.Reference.{Settlement, clean, by_rule, by_program, Question, Reference, fresh_answer, rule_answer}
use Rattle.reference.specs.Reference.{is_outcome, reading}
use Rattle.reference.specs.Demand3.{Conforms, after}

pub outcome-only : (a : Answer) → is_outcome a ≡ true → (o : Outcome) × (a ≡ outcome o)
unfolding is_outcome
outcome-only (refused n) e = absurd (true-false (sym e))
outcome-only Answer.accepted e = absurd (true-false (sym e))
outcome-only (parts p) e = absurd (true-false (sym e))
outcome-only more e = absurd (true-false (sym e))
outcome-only finished e = absurd (true-false (sym e))
outcome-only (outcome o) e = (o, refl)

pub reading-outcome : (b : Reference) (q : Question) (k : Settlement) (a : Answer) → Conforms (reading b q k) a
    → (o : Outcome) × (a ≡ outcome o)
unfolding reading fresh_answer rule_answer
reading-outcome b q clean a e = (_, e)
reading-outcome b q by_rule a e = (_, e)
reading-outcome b q by_program a e = outcome-only a e

pub reading-stays : (b : Reference) (q : Question) (k : Settlement) (a : Answer) → after (reading b q k) a ≡ b
unfolding reading
reading-stays b q clean a = refl
reading-stays b q by_rule a = refl
reading-stays b q by_program a = refl
