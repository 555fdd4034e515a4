-- One part more at each iteration; at the end the map tells the state.
use Rattle.std.proofs.Common.{arith, ap₂, refl, ℕ, ◌-◌, ◌∙◌}
use borrow.Author.Tests.{not-true, not-false}
use Rattle.tables.proofs.RememberLoop.{sixteen, joined-start, joined-lost, joined-whole, joined-passed, joined-iteration, replay-lost, replay-done}
use Rattle.tables.proofs.replays.replay_parts.Goals as goal

pub loop-moves-init : goal.loop-moves-init
loop-moves-init c =
    joined-start _ _ _ _ _ _ _ _ _ _ refl (λ q h. sixteen q (omega (arith, c.requires.few))) c.requires.at

pub returns-then-not-x : goal.returns-then-not-x
returns-then-not-x c =
    joined-lost _ _ _ _ _ _ _ _ _ _ _ _ c.loop-moves.invariant _ c.remember_moves-x.result c.args.q
    c.remember_moves-x.ensures (not-true _ c.if-not-x.true)

pub loop-moves-preserved : goal.loop-moves-preserved
loop-moves-preserved c =
    joined-iteration _ _ _ _ _ _ _ _ _ _ _ _ c.loop-moves.invariant _ c.remember_moves-x.result
    c.remember_moves-x.ensures (not-false _ c.if-not-x.false) _ c.fold_moves-map.ensures

pub returns-then-s-y : goal.returns-then-s-y
returns-then-s-y c =
    let J = c.loop-moves.invariant in
    replay-lost _ _ _ _ _ _ _ _ _ J.moves c.args.q _ (joined-whole _ _ _ _ _ _ _ _ _ _ _ _ J (omega arith))
    (J.down c.args.q c.requires.state) c.if-s-y.true

pub returns : goal.returns
returns c =
    let J = c.loop-moves.invariant in
    replay-done _ _ _ _ _ _ _ _ _ J.moves c.args.q _ (joined-whole _ _ _ _ _ _ _ _ _ _ _ _ J (omega arith))
    (J.down c.args.q c.requires.state) c.if-s-y.false _ _ J.count
    (ap₂ (λ (x y : ℕ). x - y) c.depth_at-2.ensures c.depth_at-3.ensures ∙ joined-passed _ _ _ _ _ _ _ _ _ _ _ _ J)
