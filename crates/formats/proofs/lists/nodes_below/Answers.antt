-- Each number joins the running answer; at the end none is to come.
use Rattle.std.proofs.Common.{◌∙◌, sym}
use Rattle.list_laws.proofs.LoopLaws.{below-iteration, below_end}
use Rattle.formats.proofs.lists.nodes_below.Goals as goal

pub loop-v-preserved : goal.loop-v-preserved
loop-v-preserved c = below-iteration _ _ _ _ c.loop-v-test.true ∙ c.loop-v.invariant

pub returns : goal.returns
returns c = sym (below_end _ _ _ _ c.loop-v-test.false) ∙ c.loop-v.invariant
