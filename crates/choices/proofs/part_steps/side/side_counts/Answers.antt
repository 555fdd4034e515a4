-- `side_counts` meets its contract.
use native.Mathlib.Omega.{arith}
use Prim.Native.Nat.{ℕ, suc, ◌-◌}
use mathlib.Core.Path.{◌≡◌}
use Rattle.choices.proofs.part_steps.SideLaws.{run-lost, run-kept, own-kept, carried-side}
use Rattle.choices.proofs.part_steps.side.side_counts.Goals as goal

one_more : (m : ℕ) → (m ≡ 0 → ⊥) → m ≡ suc (m - 1)
one_more m n = omega arith

pub returns-then-s-x : goal.returns-then-s-x
returns-then-s-x c =
    run-lost _ _ _ _ _ _ _ _ _ _ _ _ _ _
    c.requires c.if-own-eq0.true _
    c.run_on-x.ensures c.if-s-x.true

pub returns-then-own-eq0 : goal.returns-then-own-eq0
returns-then-own-eq0 c =
    run-kept _ _ _ _ _ _ _ _ _ _ _ _ _ _
    c.requires c.if-own-eq0.true _
    c.run_on-x.ensures c.if-s-x.false

pub returns-then-other-ne0 : goal.returns-then-other-ne0
returns-then-other-ne0 c =
    own-kept _ _ _ _ _ _ _ _ _ _ _ _ _ (c.args.own - 1) _
    (one_more _ c.if-own-eq0.false) c.requires (c.args.other - 1)
    (one_more _ c.if-other-ne0.true) _ c.copy_row.ensures

pub returns : goal.returns
returns c =
    carried-side _ _ _ _ _ _ _ _ _ _ _ _ _ (c.args.own - 1) _
    (one_more _ c.if-own-eq0.false) c.requires
    c.if-other-ne0.false _
    c.copy_row-2.ensures _ _ c.carry_counts.ensures
