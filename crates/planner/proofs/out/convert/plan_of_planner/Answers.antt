-- A refusal writes nothing, and past the checks the plan and the places are those of the file.
use Rattle.std.proofs.Common.{sym, arith}
use Rattle.planner.proofs.CheckAnswers.{out-passes}
use Rattle.planner.proofs.out.OutLaws.{out-done, out-refused}
use Rattle.planner.proofs.out.convert.plan_of_planner.Goals as goal

pub returns-in_err-check_out : goal.returns-in_err-check_out
returns-in_err-check_out c =
    out-refused _ _ _ c.in_err-check_out.field-0.0 _ c.from_residual.ensures.1 c.in_err-check_out.ensures

pub read32-n-requires : goal.read32-n-requires
read32-n-requires c = omega (arith, (out-passes _ _ _ (sym c.in_ok-check_out.ensures)).file.long)

pub write_out-requires : goal.write_out-requires
write_out-requires c = record { passes = sym c.in_ok-check_out.ensures; count = c.read32-n.ensures }

pub returns : goal.returns
returns c = out-done _ _ _ _ _ (sym c.in_ok-check_out.ensures) c.write_out.ensures
