-- `build::build_branch_tables` meets its promise: the first check that fails, or both tables written.
use mathlib.Core.Path.{sym}
use native.Mathlib.Omega.{arith}
use Rattle.tables.proofs.BuildLaws.{build-refused, build-done}
use Rattle.branches.proofs.BranchInputs.{accepted, part-args}
use Rattle.branches.proofs.build.build_branch_tables.Goals as goal

pub returns-in_err-check_branch_build : goal.returns-in_err-check_branch_build
returns-in_err-check_branch_build c = build-refused _ _ _ _ _ _ _ c.from_residual.ensures.1 c.in_err-check_branch_build.ensures

pub read32-n-requires : goal.read32-n-requires
read32-n-requires c = omega (arith, (accepted _ _ _ _ (sym c.in_ok-check_branch_build.ensures)).0.long)

pub read32-s-requires : goal.read32-s-requires
read32-s-requires c = omega (arith, (accepted _ _ _ _ (sym c.in_ok-check_branch_build.ensures)).1.long)

pub read32-k-requires : goal.read32-k-requires
read32-k-requires c = omega (arith, (accepted _ _ _ _ (sym c.in_ok-check_branch_build.ensures)).1.long)

pub write_branch-requires : goal.write_branch-requires
write_branch-requires c =
    part-args _ _ _ _ (sym c.in_ok-check_branch_build.ensures) _ _ _ c.read32-n.ensures c.read32-s.ensures c.read32-k.ensures

pub returns : goal.returns
returns c =
    build-done _ _ _ _ _ _ _ (sym c.in_ok-check_branch_build.ensures) c.write_branch.ensures.links c.write_branch.ensures.states
