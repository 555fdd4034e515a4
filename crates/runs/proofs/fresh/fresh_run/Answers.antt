-- The fresh run meets its contract: a refusal where a check fails, else the run.
use Rattle.std.proofs.Common.{sym, arith}
use Rattle.runs.proofs.RunLaws.{run-args, done-answer, done-refused}
use Rattle.runs.proofs.fresh.fresh_run.Goals as goal

pub returns-in_err-check_fresh_run : goal.returns-in_err-check_fresh_run
returns-in_err-check_fresh_run c = done-refused _ _ _ _ _ _ c.from_residual.ensures.1 c.in_err-check_fresh_run.ensures

pub read32-n-requires : goal.read32-n-requires
read32-n-requires c = omega (arith, (run-args _ _ _ _ (sym c.in_ok-check_fresh_run.ensures)).plan_length)

pub read32-s-requires : goal.read32-s-requires
read32-s-requires c = omega (arith, (run-args _ _ _ _ (sym c.in_ok-check_fresh_run.ensures)).rules_length)

pub read32-k-requires : goal.read32-k-requires
read32-k-requires c = omega (arith, (run-args _ _ _ _ (sym c.in_ok-check_fresh_run.ensures)).rules_length)

pub run_passed-requires : goal.run_passed-requires
run_passed-requires c =
    rw (c.read32-n.ensures, c.read32-s.ensures, c.read32-k.ensures) (run-args _ _ _ _ (sym c.in_ok-check_fresh_run.ensures))

pub returns : goal.returns
returns c = done-answer _ _ _ _ _ c.in_ok-check_fresh_run.ensures c.run_passed.ensures
