-- One node more is read in each iteration.
use Rattle.std.proofs.Common.{arith}
use Rattle.planner.proofs.home.ReadLoop.{reading-start, reading-args, reading-iteration, reading-end}
use Rattle.planner.proofs.home.read.read_nodes.Goals as goal

pub loop-v-init : goal.loop-v-init
loop-v-init c = λ f A. reading-start f _ _ _ _ A

pub read_node-w-requires : goal.read_node-w-requires
read_node-w-requires c =
    reading-args c.requires.0 _ _ _ _ c.requires.1 c.loop-v.v _ _ _ _ (c.loop-v.invariant c.requires.0 c.requires.1)
    (omega arith) (omega arith)

pub loop-v-preserved : goal.loop-v-preserved
loop-v-preserved c = λ f A. reading-iteration f _ _ _ _ A c.loop-v.v _ _ _ _ (c.loop-v.invariant f A) (omega arith)
    _ _ _ _ c.read_node-w.ensures

pub returns : goal.returns
returns c = λ f A. reading-end f _ _ _ _ A c.loop-v.v _ _ _ _ (c.loop-v.invariant f A) (omega arith)
