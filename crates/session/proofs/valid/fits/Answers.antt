-- `session::valid::fits` meets its contract. Each state has its arm.
use Rattle.session.proofs.ValidLaws.{empty-test, loaded-test, running-test, answered_test, phase-test}
use Rattle.session.proofs.valid.fits.Goals as goal

pub returns-in-Empty : goal.returns-in-Empty
returns-in-Empty c =
    phase-test _ _ _ (empty-test _ _ _ c.is_none.ensures c.no_question.ensures) c.in-Empty.is

pub returns-in-Loaded : goal.returns-in-Loaded
returns-in-Loaded c =
    phase-test _ _ _ (loaded-test _ _ _ _ c.sizes_fit.ensures c.last_fits.ensures c.no_question-in-Loaded.ensures) c.in-Loaded.is

pub returns-in-Running : goal.returns-in-Running
returns-in-Running c =
    phase-test _ _ _ (running-test _ _ _ c.question_fits.ensures c.last_fits-in-Running.ensures) c.in-Running.is

pub returns-in-Answered : goal.returns-in-Answered
returns-in-Answered c =
    phase-test _ _ _ (answered_test _ _ _ c.question_fits-in-Answered.ensures (c.last_is_own.ensures _ _ _)) c.in-Answered.is
