-- `check_branch_bytes` meets its contract: each return cites the law of its answer.
use Rattle.std.proofs.Common.{sym, ◌∙◌, arith}
use borrow.Author.Tests.{not-true, not-false}
use Rattle.formats.proofs.RuleAnswers.{counts-answer}
use Rattle.formats.proofs.BranchAnswers.{branch_exact, branch-6, branch-7, branch-8, branch-9, branch-good}
use Rattle.formats.proofs.branch.check_branch_bytes.Goals as goal

pub returns-then-branch-lt-BRANCH_HEAD : goal.returns-then-branch-lt-BRANCH_HEAD
returns-then-branch-lt-BRANCH_HEAD c = branch-6 _ c.if-branch-lt-BRANCH_HEAD.true

pub returns-then-not-counts_fit : goal.returns-then-not-counts_fit
returns-then-not-counts_fit c =
    branch-7 _ (omega arith) _ _ c.read32-s.ensures c.read32-k.ensures (sym c.counts_fit.ensures ∙ not-true _ c.if-not-counts_fit.true-raw)

pub branch_shape-requires : goal.branch_shape-requires
branch_shape-requires c =
    let l = counts-answer _ _ (sym c.counts_fit.ensures ∙ not-false _ c.if-not-counts_fit.false-raw) in
    record { long = omega arith; states = l.1; labels = l.3 }

pub returns-then-not-branch_shape : goal.returns-then-not-branch_shape
returns-then-not-branch_shape c =
    branch-8 _ (omega arith) _ _ c.read32-s.ensures c.read32-k.ensures (sym c.counts_fit.ensures ∙ not-false _ c.if-not-counts_fit.false-raw)
    (sym c.branch_shape.ensures ∙ not-true _ c.if-not-branch_shape.true-raw)

pub branch_values-requires : goal.branch_values-requires
branch_values-requires c =
    let l = counts-answer _ _ (sym c.counts_fit.ensures ∙ not-false _ c.if-not-counts_fit.false-raw) in
    let exact = branch_exact _ _ _ (sym c.branch_shape.ensures ∙ not-false _ c.if-not-branch_shape.false-raw) in
    record { exact = exact; states = l.1; labels = l.3 }

pub returns-then-not-branch_values : goal.returns-then-not-branch_values
returns-then-not-branch_values c =
    branch-9 _ (omega arith) _ _ c.read32-s.ensures c.read32-k.ensures (sym c.counts_fit.ensures ∙ not-false _ c.if-not-counts_fit.false-raw)
    (sym c.branch_shape.ensures ∙ not-false _ c.if-not-branch_shape.false-raw) (sym c.branch_values.ensures ∙ not-true _ c.if-not-branch_values.true-raw)

pub returns : goal.returns
returns c =
    branch-good _ (omega arith) _ _ c.read32-s.ensures c.read32-k.ensures (sym c.counts_fit.ensures ∙ not-false _ c.if-not-counts_fit.false-raw)
    (sym c.branch_shape.ensures ∙ not-false _ c.if-not-branch_shape.false-raw) (sym c.branch_values.ensures ∙ not-false _ c.if-not-branch_values.false-raw)
