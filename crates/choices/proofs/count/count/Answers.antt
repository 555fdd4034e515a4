-- `count` meets its contract.
use native.Mathlib.Omega.{arith}
use mathlib.Core.Path.{sym}
use Rattle.formats.specs.Buffers.{rule_tables}
use Rattle.formats.proofs.BufferLaws.{headed-are}
use Rattle.choices.proofs.question_counts.BuiltCounts.{fit-17}
use Rattle.choices.proofs.CountChecks.{run-args, count_runs}
use Rattle.choices.proofs.Theorem.{count-done, count-refused}
use Rattle.choices.proofs.count.count.Goals as goal

pub returns-in_err-check_count : goal.returns-in_err-check_count
returns-in_err-check_count c = count-refused _ _ _ _ _ _ _ c.from_residual.ensures.1 c.in_err-check_count.ensures

pub read32-n-requires : goal.read32-n-requires
read32-n-requires c =
    omega (arith, (headed-are rule_tables _ _ _ _ (fit-17 _ _ _ _ _ (sym c.in_ok-check_count.ensures))).headers.plan-long)

pub read32-s-requires : goal.read32-s-requires
read32-s-requires c =
    omega (arith, (headed-are rule_tables _ _ _ _ (fit-17 _ _ _ _ _ (sym c.in_ok-check_count.ensures))).headers.table-long)

pub read32-k-requires : goal.read32-k-requires
read32-k-requires c =
    omega (arith, (headed-are rule_tables _ _ _ _ (fit-17 _ _ _ _ _ (sym c.in_ok-check_count.ensures))).headers.table-long)

pub count_runs-requires : goal.count_runs-requires
count_runs-requires c =
    run-args _ _ _ _ _ (sym c.in_ok-check_count.ensures) _ _ _ c.read32-n.ensures c.read32-s.ensures c.read32-k.ensures

pub returns : goal.returns
returns c =
    count-done _ _ _ _ _ _
    (count_runs _ _ _ _ _ (sym c.in_ok-check_count.ensures) _ _ _ c.read32-n.ensures
    c.read32-s.ensures c.read32-k.ensures c.count_runs.result c.count_runs.ensures)
