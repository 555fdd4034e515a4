-- A refusal writes nothing, and past the checks the file is that of the plan.
use Rattle.std.proofs.Common.{◌∙◌, ◌/◌, ℕ, sym, ap, arith}
use Rattle.planner.proofs.CheckAnswers.{home-passes}
use Rattle.planner.proofs.home.HomeLaws.{home-plan, home-half, home-done, home-refused}
use Rattle.planner.proofs.home.convert.planner_of_plan.Goals as goal

pub returns-in_err-check_home : goal.returns-in_err-check_home
returns-in_err-check_home c = home-refused _ _ c.in_err-check_home.field-0.0 _ c.from_residual.ensures.1 c.in_err-check_home.ensures

pub read32-n-requires : goal.read32-n-requires
read32-n-requires c = omega (arith, (home-plan _ (home-passes _ _ (sym c.in_ok-check_home.ensures)).0).plan.long)

pub write_home-requires : goal.write_home-requires
write_home-requires c = record {
  passes = sym c.in_ok-check_home.ensures;
  count_is = ap (λ (n : ℕ). n / 2) c.read32-n.ensures ∙ home-half _ _ (sym c.in_ok-check_home.ensures);
}

pub returns : goal.returns
returns c = home-done _ _ _ (sym c.in_ok-check_home.ensures) c.write_home.ensures
