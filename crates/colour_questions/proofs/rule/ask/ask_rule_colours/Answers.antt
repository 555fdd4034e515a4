-- `ask_rule_colours` meets its contract.
use Rattle.std.proofs.Common.{sym}
use Rattle.colour_questions.proofs.rule.AskNumbers.{refused-is, refused-few, lent_is}
use Rattle.colour_questions.proofs.rule.AskTheorem.{ask-done}
use Rattle.colour_questions.proofs.rule.ask.ask_rule_colours.Goals as goal

pub returns-in_err-check_asked : goal.returns-in_err-check_asked
returns-in_err-check_asked c =
    ask-done _ _ _ _ _ _ _ _ _ (refused-is _ _ _ _ _ _ _ _ _ _ c.from_residual.ensures.1 c.in_err-check_asked.ensures)
    (refused-few _ _ c.from_residual.ensures.1)

pub returns : goal.returns
returns c =
    ask-done _ _ _ _ _ _ _ _ _ (lent_is _ _ _ _ _ _ _ _ _ (sym c.in_ok-check_asked.ensures) c.answer_lent.ensures.0)
    c.answer_lent.ensures.1
