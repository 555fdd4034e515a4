use Rattle.model.specs.Calls.{cancel}
use Rattle.session.specs.Answers.{call_answer}
use Rattle.screens.proofs.in_place.DoneLaws.{not-eight-done, names-cancel, beyond-screen, to-screen}
use Rattle.screens.proofs.in_place.cancel.Goals as goal

pub returns-then-all-ne-SCREENS : goal.returns-then-all-ne-SCREENS
unfolding call_answer
returns-then-all-ne-SCREENS c = not-eight-done _ _ c.if-all-ne-SCREENS.true

pub returns-then-screen-gt-LAST_SCREEN : goal.returns-then-screen-gt-LAST_SCREEN
unfolding call_answer
returns-then-screen-gt-LAST_SCREEN c =
    beyond-screen _ _ _ cancel (names-cancel _ _) c.if-all-ne-SCREENS.false c.if-screen-gt-LAST_SCREEN.true

pub returns : goal.returns
returns c =
    to-screen _ _ _ cancel (names-cancel _ _) _ _ _ c.if-all-ne-SCREENS.false c.if-screen-gt-LAST_SCREEN.false
    c.cancel-out.ensures
