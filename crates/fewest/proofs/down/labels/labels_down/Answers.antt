-- Before the last node nothing is told; one node more.
use Rattle.std.proofs.Common.{◌+◌, ◌-◌, ◌≡◌, ℕ, subst, arith}
use Rattle.trees.specs.Tree.{Tree, kinds_of, labels_of}
use Rattle.trees.proofs.PostorderLaws.{postorder-tree}
use Rattle.fewest.specs.Relabelling.{stock_of}
use Rattle.fewest.specs.inner.Problems.{problem_for}
use Rattle.fewest.specs.inner.down.Down.{Told, Down}
use Rattle.fewest.proofs.down.DownLoop.{down-next, turn-args}
use Rattle.fewest.proofs.down.labels.labels_down.Goals as goal

pub node_down-requires : goal.node_down-requires
node_down-requires c =
    let g = c.args in
    let q = c.requires in
    let l = c.loop-v in
    let h = c.loop-v-test.true in
    let e : l.v ≡ l.v - 1 + 1 = omega arith in
    let T : (t : Tree) × (kinds_of t ≡ g.kinds.now) × (labels_of t ≡ g.labels.now) =
    postorder-tree g.kinds.now g.labels.now q.runs.count q.runs.postorder in
    turn-args g.kinds.now g.labels.now g.leaves.now g.inner.now g.may.now g.s g.k q.runs (l.v - 1) l.work
    (omega arith) (omega (arith, l.invariant.0, q.room)) q.stocks q.acc T.0 q.target q.first T.1 T.2 (q.low T.0 T.1 T.2)
    (subst (λ (i : ℕ). Told (problem_for g.s g.k g.leaves.now g.inner.now (stock_of g.may.now) q.acc) T.0 q.target g.s i
    q.first l.work) e (l.invariant.1 q.acc T.0 q.target q.first T.1 T.2 (q.low T.0 T.1 T.2)
    (q.ready T.0 T.1 T.2)))

pub loop-v-preserved : goal.loop-v-preserved
loop-v-preserved c =
    let g = c.args in
    let q = c.requires in
    let l = c.loop-v in
    let e : l.v ≡ l.v - 1 + 1 = omega arith in (
      omega (arith, l.invariant.0),
      down-next g.kinds.now g.labels.now g.leaves.now g.inner.now g.may.now g.s g.k q.runs (l.v - 1) l.work
          (omega arith) (omega (arith, l.invariant.0, q.room)) g.work.now c.node_down.new.work
          (subst (λ (i : ℕ). Down g.kinds.now g.labels.now g.leaves.now g.inner.now g.may.now g.s g.k i g.work.now l.work) e l.invariant.1)
          c.node_down.ensures,
    )
