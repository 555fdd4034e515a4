-- `check_tables` meets its contract.
use Rattle.std.proofs.Common.{sym, arith}
use Rattle.formats.proofs.InputLaws.{build-passes}
use Rattle.tables.proofs.BuildLaws.{build-args}
use Rattle.tables.proofs.CheckAnswers.{check-refused, check-matches}
use Rattle.table_checks.proofs.check.check_tables.Goals as goal

pub returns-in_err-check_build : goal.returns-in_err-check_build
returns-in_err-check_build c = check-refused _ _ _ _ _ _ _ c.from_residual.ensures.1 c.in_err-check_build.ensures

pub read32-n-requires : goal.read32-n-requires
read32-n-requires c = omega (arith, (build-passes _ _ _ _ (sym c.in_ok-check_build.ensures)).0.long)

pub read32-s-requires : goal.read32-s-requires
read32-s-requires c = omega (arith, (build-passes _ _ _ _ (sym c.in_ok-check_build.ensures)).1.long)

pub read32-k-requires : goal.read32-k-requires
read32-k-requires c = omega (arith, (build-passes _ _ _ _ (sym c.in_ok-check_build.ensures)).1.long)

pub both_match-requires : goal.both_match-requires
both_match-requires c =
    build-args _ _ _ _ c.read32-n.result c.read32-s.result c.read32-k.result (sym c.in_ok-check_build.ensures)
    c.read32-n.ensures c.read32-s.ensures c.read32-k.ensures

pub returns : goal.returns
returns c = check-matches _ _ _ _ _ _ (sym c.in_ok-check_build.ensures) c.both_match.ensures
