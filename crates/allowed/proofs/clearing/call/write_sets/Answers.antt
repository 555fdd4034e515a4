-- `write_sets` meets its contract: up, then down from the marked states.
use mathlib.Core.Path.{sym, subst}
use Prim.Native.Nat.{ℕ}
use lib.ListN.{length}
use Rattle.allowed.proofs.StepLaws.{mark-args}
use Rattle.allowed.specs.inner.clearing.Down.{DownWritten}
use Rattle.allowed.proofs.clearing.DownLoop.{down-start}
use native.Mathlib.Omega.{arith}
use Rattle.allowed.proofs.clearing.call.write_sets.Goals as goal

pub marked_set-c-requires : goal.marked_set-c-requires
marked_set-c-requires c = mark-args c.args.marks.now c.args.s c.requires.0.few c.requires.1

pub sets_down-requires : goal.sets_down-requires
sets_down-requires c =
    let g = c.args in
    record {
      leaves = g.leaves.now;
      marks = g.marks.now;
      first = g.cells.now;
      runs = c.requires.0;
      room = omega (arith, c.requires.2);
      ready = subst (λ (x : ℕ). DownWritten g.kinds.now g.labels.now g.leaves.now g.inner.now g.marks.now g.s g.k (length g.kinds.now) x g.cells.now
          c.pairs_up.new.cells) (sym c.marked_set-c.ensures.0)
          (down-start g.kinds.now g.labels.now g.leaves.now g.inner.now g.s g.k c.requires.0 g.marks.now g.cells.now c.pairs_up.new.cells c.pairs_up.ensures);
    }

pub returns : goal.returns
returns c =
    let g = c.args in
    c.sets_down.ensures g.leaves.now g.marks.now g.cells.now c.requires.0
    (subst (λ (x : ℕ). DownWritten g.kinds.now g.labels.now g.leaves.now g.inner.now g.marks.now g.s g.k (length g.kinds.now) x g.cells.now
    c.pairs_up.new.cells) (sym c.marked_set-c.ensures.0)
    (down-start g.kinds.now g.labels.now g.leaves.now g.inner.now g.s g.k c.requires.0 g.marks.now g.cells.now c.pairs_up.new.cells c.pairs_up.ensures))
