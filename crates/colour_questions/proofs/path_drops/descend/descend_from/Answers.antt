-- `descend_from` meets its contract: no drop is left, one is lost, one more, or the colour is the lowest.
use Rattle.std.proofs.Common.{◌≤◌, ◌*◌, refl, arith}
use native.Mathlib.Nat.{mul-le-mul_right}
use Rattle.colour_questions.proofs.path_drops.DescendLoop.{descends-start, descends-turn, descends-lower, descends-small}
use Rattle.colour_questions.proofs.path_drops.DescendLoop.{descends-done, descends-lost, descends-lowest}
use Rattle.colour_questions.proofs.path_drops.descend.descend_from.Goals as goal

pub loop-colour-init : goal.loop-colour-init
loop-colour-init c = descends-start _ _ _ _ _ _ _ refl c.requires.upper

pub drop_in-requires : goal.drop_in-requires
drop_in-requires c =
    let i : c.loop-colour.colour ≤ c.args.c = omega (arith, c.loop-colour.invariant.falls) in
    record {
      most = c.requires.most;
      few = omega (arith, c.requires.few);
      room = omega (arith, c.requires.room, mul-le-mul_right (c.args.n * 4) i);
      upper = c.loop-colour.invariant.inside;
      lower = c.requires.lower;
    }

pub returns-in-Done : goal.returns-in-Done
returns-in-Done c =
    descends-done _ _ _ _ _ _ _ _ _ _ c.loop-colour.invariant c.loop-colour-test.true _ c.drop_in.ensures c.in-Done.is

pub returns-in-Lost : goal.returns-in-Lost
returns-in-Lost c =
    descends-lost _ _ _ _ _ _ _ _ _ _ c.loop-colour.invariant c.loop-colour-test.true _ c.drop_in.ensures c.in-Lost.is

pub overflow_add-drops : goal.overflow_add-drops
overflow_add-drops c = omega (arith, c.loop-colour.invariant.falls, c.requires.few)

pub overflow_add-links : goal.overflow_add-links
overflow_add-links c =
    let o = c.loop-colour in
    let b = descends-small _ _ _ _ _ _ _ _ _ _ o.invariant c.loop-colour-test.true _ c.drop_in.ensures c.in-Fell.x
    c.in-Fell.d c.in-Fell.k c.in-Fell.is in
    omega (arith, o.invariant.falls, o.invariant.few, c.requires.few, b.1)

pub loop-colour-smaller : goal.loop-colour-smaller
loop-colour-smaller c =
    descends-lower _ _ _ _ _ _ _ _ _ _ c.loop-colour.invariant c.loop-colour-test.true _ c.drop_in.ensures
    c.in-Fell.x c.in-Fell.d c.in-Fell.k c.in-Fell.is

pub loop-colour-preserved : goal.loop-colour-preserved
loop-colour-preserved c =
    descends-turn _ _ _ _ _ _ _ _ _ _ c.loop-colour.invariant c.loop-colour-test.true _ c.drop_in.ensures
    c.in-Fell.x c.in-Fell.d c.in-Fell.k c.in-Fell.is

pub returns : goal.returns
returns c =
    descends-lowest _ _ _ _ _ _ _ _ _ _ c.loop-colour.invariant (omega (arith, c.loop-colour-test.false))
