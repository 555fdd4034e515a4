use Rattle.std.proofs.Common.{arith, length-set}
use Rattle.whatif.specs.Question.{nodes_in}
use Rattle.whatif.proofs.TripleLaws.{node_of, nodes-by-three, taken-iteration, taken-end}
use Rattle.whatif.proofs.question.nodes_in.Goals as goal

pub loop-i-preserved : goal.loop-i-preserved
loop-i-preserved c =
    let l = c.loop-i in record {
      room = simp length-set (omega arith);
      whole =
          taken-iteration nodes_in node_of nodes-by-three c.args.list.now l.nodes l.i c.number16.result (omega arith) (omega arith)
          c.number16.ensures.0 l.invariant.whole;
    }

pub returns-clause-result_value : goal.returns-clause-result_value
returns-clause-result_value c =
    let l = c.loop-i in
    taken-end nodes_in node_of nodes-by-three c.args.list.now l.nodes l.i (omega arith) (omega arith) l.invariant.whole
