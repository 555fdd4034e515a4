-- A number that is listed again decides; else the rest does, and none is left at the end.
use Rattle.std.proofs.Common.{◌∙◌, sym}
use Rattle.list_laws.proofs.LoopLaws.{distinct-no, distinct-yes, distinct-end}
use Rattle.formats.proofs.lists.all_distinct.Goals as goal

pub returns-then-is_listed : goal.returns-then-is_listed
returns-then-is_listed c =
    sym (distinct-no _ _ c.loop-i-test.true _ c.is_listed.ensures c.if-is_listed.true) ∙ c.loop-i.invariant

pub loop-i-preserved : goal.loop-i-preserved
loop-i-preserved c =
    sym (distinct-yes _ _ c.loop-i-test.true _ c.is_listed.ensures c.if-is_listed.false) ∙ c.loop-i.invariant

pub returns : goal.returns
returns c = sym (distinct-end _ _ c.loop-i-test.false) ∙ c.loop-i.invariant
