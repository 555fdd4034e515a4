-- `root_counts` meets its contract.
use Prim.Native.Nat.{ℕ, ◌+◌}
use mathlib.Core.Path.{ap}
use Rattle.choices.proofs.part_steps.RootLaws.{leaf-done, inner-done}
use Rattle.choices.proofs.part_steps.root.root_counts.Goals as goal

pub returns-then-kinds-v-eq0 : goal.returns-then-kinds-v-eq0
returns-then-kinds-v-eq0 c =
    leaf-done _ _ _ _ _ _ _ _ _ _ _ _ _ _ _ _ _ _
    c.requires
    c.if-kinds-v-eq0.true _ c.accumulate.ensures

pub returns : goal.returns
returns c =
    inner-done _ _ _ _ _ _ _ _ _ _ _ _ _ _ _ _ _ _
    c.requires
    c.if-kinds-v-eq0.false _ (ap (λ (x : ℕ). x + 1) c.depth_at-to.ensures) _ _
    c.fork_counts.ensures
