-- Each number joins the running answer; at the end none is to come.
use Rattle.std.proofs.Common.{◌∙◌, sym}
use Rattle.list_laws.proofs.LoopLaws.{holds-iteration, holds-end}
use Rattle.formats.proofs.lists.is_listed.Goals as goal

pub loop-u-preserved : goal.loop-u-preserved
loop-u-preserved c = holds-iteration _ _ _ _ c.loop-u-test.true ∙ c.loop-u.invariant

pub returns : goal.returns
returns c = sym (holds-end _ _ _ _ c.loop-u-test.false) ∙ c.loop-u.invariant
