-- The kinds that are left give the answer, after a run of at most 255.
use Rattle.std.proofs.Common.{◌≡◌, ◌≤◌, drop}
use Rattle.planner.specs.inner.ImageTests.{all_runs_fit}
use Rattle.planner.proofs.home.check.runs_fit.Given as goal

abbrev pub invariant-loop-kind : goal.invariant-loop-kind
invariant-loop-kind l =
    (l.run ≤ 255) × (all_runs_fit 256 (drop l.kind-index l.kinds) l.run ≡ all_runs_fit 256 l.kinds 0)
