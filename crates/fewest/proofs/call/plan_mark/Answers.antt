-- `plan_mark` meets its contract: plan and rules are handed on as parts.
use Rattle.fewest.proofs.call.EarlyLaws.{run-given, plan-marked}
use Rattle.fewest.proofs.call.plan_mark.Goals as goal

pub root_mark-requires : goal.root_mark-requires
root_mark-requires c = run-given c.requires c.inner_count.result c.inner_count.ensures.value

pub returns : goal.returns
returns c =
    plan-marked c.requires c.inner_count.result c.inner_count.ensures.value c.args.work.now c.root_mark.result
    c.root_mark.new.work c.root_mark.ensures
