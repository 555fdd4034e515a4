use Rattle.std.proofs.Common.{rules}
use Rattle.whatif.proofs.ToldLaws.{read-more}
use Rattle.whatif.proofs.input.read_full.Goals as goal

pub loop-done-preserved : goal.loop-done-preserved
loop-done-preserved g c = record {
  within = search rules;
  taken = read-more _ _ _ c.loop-done.space c.read.new.buf _ c.loop-done.done c.in_ok-n.n c.loop-done.invariant.within
      c.in_ok-n.ensures.bound.0 c.loop-done.invariant.taken c.in_ok-n.ensures.bytes.0;
}
