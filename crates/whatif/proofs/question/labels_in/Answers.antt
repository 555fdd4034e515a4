use Rattle.std.proofs.Common.{refl, arith, length-set}
use Rattle.whatif.specs.Question.{labels_within}
use Rattle.whatif.proofs.TripleLaws.{label_of, labels-by-three, taken-iteration, taken-end}
use Rattle.whatif.proofs.question.labels_in.Goals as goal

pub loop-i-preserved : goal.loop-i-preserved
loop-i-preserved c =
    let l = c.loop-i in record {
      room = simp length-set (omega arith);
      whole =
          taken-iteration labels_within label_of labels-by-three c.args.list.now l.labels l.i _ (omega arith) (omega arith) refl
          l.invariant.whole;
    }

pub returns-clause-result_value : goal.returns-clause-result_value
returns-clause-result_value c =
    let l = c.loop-i in
    taken-end labels_within label_of labels-by-three c.args.list.now l.labels l.i (omega arith) (omega arith) l.invariant.whole
