-- Before the first node nothing is written; one node more.
use Rattle.std.proofs.Common.{◌∙◌, ◌≡◌, ℕ, length, subst, arith}
use Rattle.fewest.specs.inner.passes.Up.{Up}
use Rattle.fewest.proofs.passes.UpLoop.{up_next, turn-args}
use Rattle.fewest.proofs.passes.up.pass_up.Goals as goal

pub node_turn-requires : goal.node_turn-requires
node_turn-requires c =
    let g = c.args in
    let l = c.loop-v in (
      turn-args g.kinds.now g.labels.now g.leaves.now g.inner.now g.may.now g.s g.k c.requires.0.runs l.v
          g.work.now l.work c.loop-v-test.true l.invariant.1 c.requires.0.stocks (omega (arith, c.requires.0.room, l.invariant.0)),
      c.requires.1,
    )

pub loop-v-preserved : goal.loop-v-preserved
loop-v-preserved c =
    let g = c.args in
    let l = c.loop-v in (
      c.node_turn.ensures.long ∙ l.invariant.0,
      up_next g.kinds.now g.labels.now g.leaves.now g.inner.now g.may.now g.s g.k c.requires.0.runs l.v
          g.work.now l.work c.loop-v-test.true l.invariant.1 c.node_turn.new.work c.node_turn.ensures,
    )

pub returns : goal.returns
returns c =
    let g = c.args in
    let l = c.loop-v in
    let e : l.v ≡ length g.kinds.now = omega arith in
    subst (λ (i : ℕ). Up g.kinds.now g.labels.now g.leaves.now g.inner.now g.may.now g.s g.k i g.work.now l.work) e l.invariant.1
