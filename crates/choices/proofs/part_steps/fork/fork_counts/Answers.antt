-- `fork_counts` meets its contract.
use Rattle.choices.proofs.part_steps.ForkLaws.{left-lost, right-lost}
use Rattle.choices.proofs.part_steps.ForkLaws.{fork-done}
use borrow.Author.Tests.{not-true, not-false}
use Rattle.choices.proofs.part_steps.fork.fork_counts.Goals as goal

pub returns-then-not-x : goal.returns-then-not-x
returns-then-not-x c =
    left-lost _ _ _ _ _ _ _ _ _ _ _ _ _ _ _ _ _ c.requires _ _ c.side_counts-x.ensures
    (not-true c.side_counts-x.result.ok c.if-not-x.true)

pub returns-then-not-y : goal.returns-then-not-y
returns-then-not-y c =
    right-lost _ _ _ _ _ _ _ _ _ _ _ _ _ _ _ _ _ c.requires _ _ c.side_counts-x.ensures _ _
    c.side_counts-y.ensures
    (not-true c.side_counts-y.result.ok c.if-not-y.true)

pub returns : goal.returns
returns c =
    fork-done _ _ _ _ _ _ _ _ _ _ _ _ _ _ _ _ _ c.requires _ _ c.side_counts-x.ensures _ _
    c.side_counts-y.ensures
    (not-false c.side_counts-x.result.ok
    c.if-not-x.false)
    (not-false c.side_counts-y.result.ok
    c.if-not-y.false) _ c.join.ensures
