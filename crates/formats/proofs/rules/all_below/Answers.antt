-- Each byte joins the running answer; at the end none is to come.
use Rattle.std.proofs.Common.{◌∙◌, sym}
use Rattle.list_laws.proofs.LoopLaws.{below-iteration, below_end}
use Rattle.formats.proofs.rules.all_below.Goals as goal

pub loop-x-preserved : goal.loop-x-preserved
loop-x-preserved c = below-iteration _ _ _ _ c.loop-x-test.true ∙ c.loop-x.invariant

pub returns : goal.returns
returns c = sym (below_end _ _ _ _ c.loop-x-test.false) ∙ c.loop-x.invariant
