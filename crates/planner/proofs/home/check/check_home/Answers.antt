-- Each refusal is that of the first check that fails, and past the checks none does.
use Rattle.std.proofs.Common.{◌∙◌, sym, arith}
use borrow.Author.Tests.{le-leb, lt-leb}
use Rattle.formats.specs.Plan.{plan_tree}
use Rattle.planner.specs.Siblings.{count, unimage}
use Rattle.planner.specs.File.{file_length}
use Rattle.planner.proofs.CheckAnswers.{home-19, home-21, home-good}
use Rattle.planner.proofs.home.HomeLaws.{home-plan, home-room}
use Rattle.planner.proofs.home.check.check_home.Goals as goal

pub returns-then-not-comes_from_file : goal.returns-then-not-comes_from_file
returns-then-not-comes_from_file c =
    sym (home-19 c.args.plan.now _ (sym c.comes_from_file.ensures ∙ c.if-not-comes_from_file.true))

pub read32-requires : goal.read32-requires
read32-requires c =
    omega (arith, (home-plan c.args.plan.now (sym c.comes_from_file.ensures ∙ c.if-not-comes_from_file.false)).plan.long)

pub overflow_add-read32 : goal.overflow_add-read32
overflow_add-read32 c =
    omega (
      arith,
      (home-plan c.args.plan.now (sym c.comes_from_file.ensures ∙ c.if-not-comes_from_file.false)).plan.most,
      c.read32.ensures,
    )

pub returns-then-file-read32 : goal.returns-then-file-read32
returns-then-file-read32 c =
    let p = c.args.plan.now in
    let came = sym c.comes_from_file.ensures ∙ c.if-not-comes_from_file.false in
    sym (home-21 p c.args.file came
    (lt-leb (file_length (count (unimage (plan_tree p)))) c.args.file (omega (arith, home-room p came, c.read32.ensures))))

pub returns : goal.returns
returns c =
    let p = c.args.plan.now in
    let came = sym c.comes_from_file.ensures ∙ c.if-not-comes_from_file.false in
    sym (home-good p c.args.file came
    (le-leb (file_length (count (unimage (plan_tree p)))) c.args.file (omega (arith, home-room p came, c.read32.ensures))))
