-- By whether a check fails.
use Rattle.std.proofs.Common.{sym}
use Rattle.whole_questions.proofs.AskNumbers.{refused-is, lent_is}
use Rattle.whole_questions.proofs.AskTheorem.{ask-done}
use Rattle.whole_questions.proofs.ask.ask.Goals as goal

pub returns-in_err-check_asked : goal.returns-in_err-check_asked
returns-in_err-check_asked c =
    ask-done _ _ _ _ _ _ _ (refused-is _ _ _ _ _ _ _ _ c.from_residual.ensures.1 c.in_err-check_asked.ensures)

pub returns : goal.returns
returns c = ask-done _ _ _ _ _ _ _ (lent_is _ _ _ _ _ _ _ (sym c.in_ok-check_asked.ensures) c.answer_lent.ensures)
