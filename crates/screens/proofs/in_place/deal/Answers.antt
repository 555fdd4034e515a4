use Rattle.screens.specs.in_place.OnStructs.{deal_answer}
use Rattle.screens.proofs.in_place.DoneLaws.{not-eight-done, beyond-deal, deal-none, deal-served}
use Rattle.screens.proofs.in_place.deal.Goals as goal

pub returns-then-all-ne-SCREENS : goal.returns-then-all-ne-SCREENS
unfolding deal_answer
returns-then-all-ne-SCREENS c = not-eight-done _ _ c.if-all-ne-SCREENS.true

pub returns-then-first-gt-LAST_SCREEN : goal.returns-then-first-gt-LAST_SCREEN
unfolding deal_answer
returns-then-first-gt-LAST_SCREEN c =
    beyond-deal _ _ _ c.if-all-ne-SCREENS.false c.if-first-gt-LAST_SCREEN.true

pub returns-then-at-gt-LAST_SCREEN : goal.returns-then-at-gt-LAST_SCREEN
unfolding deal_answer
returns-then-at-gt-LAST_SCREEN c =
    deal-none _ _ _ _ _ c.if-all-ne-SCREENS.false c.if-first-gt-LAST_SCREEN.false c.next_running-at.ensures
    c.if-at-gt-LAST_SCREEN.true

pub returns : goal.returns
returns c =
    deal-served _ _ _ _ _ _ _ _ _ c.if-all-ne-SCREENS.false c.if-first-gt-LAST_SCREEN.false c.next_running-at.ensures
    c.if-at-gt-LAST_SCREEN.false c.deal_answer.ensures c.advance-out.ensures
