-- What `read` over eight structs tells, by cases; `grind` also takes a contract that says less from it.
use native.Mathlib.Omega.{arith}
use Rattle.session.specs.Answers.{read_answer}
use Rattle.screens.proofs.in_place.DoneLaws.{no-run-read, no-screen-read, read_done}
use Rattle.screens.proofs.in_place.read.Goals as goal

pub returns-then-all-ne-SCREENS : goal.returns-then-all-ne-SCREENS
unfolding read_answer
returns-then-all-ne-SCREENS c =
    let e = no-run-read c.args.all.now c.args.screen c.if-all-ne-SCREENS.true in
    grind arith

pub returns-then-screen-gt-LAST_SCREEN : goal.returns-then-screen-gt-LAST_SCREEN
unfolding read_answer
returns-then-screen-gt-LAST_SCREEN c =
    let e = no-screen-read c.args.all.now c.args.screen c.if-all-ne-SCREENS.false c.if-screen-gt-LAST_SCREEN.true in
    grind arith

pub returns : goal.returns
returns c =
    let e = read_done c.args.all.now c.args.screen _ _ c.if-all-ne-SCREENS.false c.if-screen-gt-LAST_SCREEN.false c.read.ensures in
    grind arith
