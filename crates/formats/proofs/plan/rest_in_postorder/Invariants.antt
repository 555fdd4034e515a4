-- Counted of KindLoop.
use Rattle.std.proofs.Common.{◌+◌, drop}
use Rattle.trees.specs.Postorder.{is_single, waiting as trees_waiting}
use Rattle.formats.proofs.KindLoop.{Counted}
use Rattle.formats.proofs.plan.rest_in_postorder.Given as goal

abbrev pub invariant-loop-kind : goal.invariant-loop-kind
invariant-loop-kind l =
    Counted l.kinds (is_single (trees_waiting (drop l.from l.kinds) l.waiting)) l.none l.trees l.ok (l.from + l.kind-index)
