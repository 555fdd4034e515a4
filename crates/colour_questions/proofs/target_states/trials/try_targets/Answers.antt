-- A trial that has no end, one that finds the state, one more that does not, and after the last.
use Rattle.colour_questions.proofs.target_states.TrialLoop.{trying-lost, trying-found, trying-on, trying-end}
use Rattle.colour_questions.proofs.target_states.trials.try_targets.Goals as goal

pub returns-in_err-t : goal.returns-in_err-t
returns-in_err-t c =
    rw c.from_residual.ensures (trying-lost _ _ _ _ _ _ _ _ _ c.loop-x.invariant c.loop-x-test.true _ c.try_target.ensures
    c.in_err-t.was)

pub returns-then-t : goal.returns-then-t
returns-then-t c =
    trying-found _ _ _ _ _ _ _ _ _ c.loop-x.invariant c.loop-x-test.true _ c.try_target.ensures
    c.in_ok-t.t c.in_ok-t.was c.if-t.true

pub loop-x-preserved : goal.loop-x-preserved
loop-x-preserved c =
    trying-on _ _ _ _ _ _ _ _ _ c.loop-x.invariant c.loop-x-test.true _ c.try_target.ensures
    c.in_ok-t.t c.in_ok-t.was c.if-t.false

pub returns : goal.returns
returns c = trying-end _ _ _ _ _ _ _ _ _ c.loop-x.invariant c.loop-x-test.false
