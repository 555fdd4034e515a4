use Rattle.std.proofs.Common.{length, drop, ◌-◌, length-take, length-drop}
use native.Mathlib.Omega.{arith}
use Rattle.whatif.proofs.ToldLaws.{write-more}
use Rattle.whatif.proofs.send.write_whole.Goals as goal

pub loop-done-preserved : goal.loop-done-preserved
loop-done-preserved g c =
    let t = c.args.text.now in
    let done = c.loop-done.done in record {
      within = omega (arith, length-take (length t - done) (drop done t), length-drop done t, c.in_ok-n.ensures.bound);
      written = write-more _ _ _ t done (length t - done) c.in_ok-n.n c.in_ok-n.ensures.bound c.loop-done.invariant.written c.in_ok-n.ensures.bytes;
    }
