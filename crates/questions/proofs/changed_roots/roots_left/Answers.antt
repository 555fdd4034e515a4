-- `roots_left` meets its contract: the nodes that `differing` leaves are handed to `roots`.
use Rattle.std.proofs.Common.{ℕ, ◌+◌, ◌-◌, ◌*◌, List, take, drop, ap, ◌∙◌, subst}
use Rattle.list_laws.proofs.SliceLaws.{run-part}
use Rattle.changes.specs.declared.differing.LeftNodes.{LeftNodes}
use Rattle.changes.specs.inner.LastDiffering.{given_differing, DifferingDone}
use Rattle.changes.proofs.LastDifferingLaws.{left-taken}
use Rattle.questions.specs.declared.roots.Rooted.{Rooted}
use Rattle.questions.specs.Promises.{RootsDone}
use Rattle.questions.proofs.changed_roots.roots_left.Goals as goal

-- the roots of the nodes that are left
handed : (n : ℕ) (plan b vs bs : List ℕ) (r : LeftNodes) (R : Rooted)
    → DifferingDone (take (12 + n - 12) (drop 12 plan)) vs bs r → RootsDone n b (take r.count r.nodes) R
    → RootsDone n b (given_differing (take n (drop 12 plan)) vs bs) R
handed n plan b vs bs r R D F =
    subst (λ (l : List ℕ). RootsDone n b l R)
    (left-taken (take (12 + n - 12) (drop 12 plan)) vs bs r D
    ∙ ap (λ (ls : List ℕ). given_differing ls vs bs) (run-part plan 12 n)) F

pub returns : goal.returns
returns c =
    let a = c.args in
    let r = c.differing-left in
    handed a.n a.plan.now (take (a.n * 4) a.node_table.now) a.nodes.now a.labels.now r.result
    c.roots.result r.ensures c.roots.ensures
