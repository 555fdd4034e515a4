-- Each entry is kept or not by keep-again; at the end keep-done.
use Rattle.std.proofs.Common.{◌∙◌, sym}
use Rattle.changes.proofs.LastDifferingLaws.{keep-start, keep-again, keep-done, all_done, nothing_left}
use Rattle.changes.proofs.differing.differing.Goals as goal

pub loop-i-init : goal.loop-i-init
loop-i-init c = keep-start _ _ _ (sym c.lists_fit.ensures ∙ c.if-not-lists_fit.false) _ nothing_left

pub loop-i-preserved : goal.loop-i-preserved
loop-i-preserved c = keep-again _ _ _ _ _ c.loop-i.invariant c.loop-i-test.true _ c.keep-count.ensures

pub returns : goal.returns
returns c =
    all_done _ _ _ (sym c.lists_fit.ensures ∙ c.if-not-lists_fit.false) _
    (keep-done _ _ _ _ _ c.loop-i.invariant c.loop-i-test.false)
