-- `check::check_branch_tables` meets its promise: the first check that fails, or whether both tables are as built.
use mathlib.Core.Path.{sym}
use native.Mathlib.Omega.{arith}
use Rattle.tables.proofs.CheckAnswers.{check-refused, check-matches}
use Rattle.branches.proofs.BranchInputs.{accepted, part-args}
use Rattle.branches.proofs.check.check_branch_tables.Goals as goal

pub returns-in_err-check_branch_build : goal.returns-in_err-check_branch_build
returns-in_err-check_branch_build c = check-refused _ _ _ _ _ _ _ c.from_residual.ensures.1 c.in_err-check_branch_build.ensures

pub read32-n-requires : goal.read32-n-requires
read32-n-requires c = omega (arith, (accepted _ _ _ _ (sym c.in_ok-check_branch_build.ensures)).0.long)

pub read32-s-requires : goal.read32-s-requires
read32-s-requires c = omega (arith, (accepted _ _ _ _ (sym c.in_ok-check_branch_build.ensures)).1.long)

pub read32-k-requires : goal.read32-k-requires
read32-k-requires c = omega (arith, (accepted _ _ _ _ (sym c.in_ok-check_branch_build.ensures)).1.long)

pub branch_matches-requires : goal.branch_matches-requires
branch_matches-requires c =
    part-args _ _ _ _ (sym c.in_ok-check_branch_build.ensures) _ _ _ c.read32-n.ensures c.read32-s.ensures c.read32-k.ensures

pub returns : goal.returns
returns c = check-matches _ _ _ _ _ _ (sym c.in_ok-check_branch_build.ensures) c.branch_matches.ensures
