-- `fewest_changes` meets its contract: refused where a check fails; 0 where the plan is as wanted already; else the least
-- number and the changes.
use mathlib.Core.Path.{sym}
use lib.ListN.{length}
use Rattle.formats.proofs.InputLaws.{rule-table-passes}
use Rattle.fewest.proofs.call.CallLaws.{table-yes, write-args}
use Rattle.fewest.proofs.call.EarlyLaws.{mark-args, told-none, told-early, told-late}
use native.Mathlib.Omega.{arith}
use Rattle.fewest.proofs.call.fewest_changes.Goals as goal

pub returns-in_err-check_fewest : goal.returns-in_err-check_fewest
returns-in_err-check_fewest c =
    told-none _ _ _ c.args.want _ _ _ _ _ _ _ c.from_residual.ensures.1 c.in_err-check_fewest.ensures

pub read32-n-requires : goal.read32-n-requires
read32-n-requires c =
    let g = c.args in
    omega (arith, (rule-table-passes g.plan.now g.rules.now (table-yes g.plan.now g.rules.now (length g.may.now) (length g.work.now) (length g.nodes.now) (length g.labels.now) (sym c.in_ok-check_fewest.ensures))).0.long)

pub read32-s-requires : goal.read32-s-requires
read32-s-requires c =
    let g = c.args in
    omega (arith, (rule-table-passes g.plan.now g.rules.now (table-yes g.plan.now g.rules.now (length g.may.now) (length g.work.now) (length g.nodes.now) (length g.labels.now) (sym c.in_ok-check_fewest.ensures))).1.long)

pub read32-k-requires : goal.read32-k-requires
read32-k-requires c =
    let g = c.args in
    omega (arith, (rule-table-passes g.plan.now g.rules.now (table-yes g.plan.now g.rules.now (length g.may.now) (length g.work.now) (length g.nodes.now) (length g.labels.now) (sym c.in_ok-check_fewest.ensures))).1.long)

pub plan_mark-requires : goal.plan_mark-requires
plan_mark-requires c =
    let g = c.args in
    rw (c.read32-n.ensures, c.read32-s.ensures, c.read32-k.ensures)
    (mark-args g.plan.now g.rules.now g.may.now g.want g.work.now g.nodes.now g.labels.now g.least.now g.count.now (sym c.in_ok-check_fewest.ensures))

pub returns-then-plan_mark-mark : goal.returns-then-plan_mark-mark
returns-then-plan_mark-mark c =
    let g = c.args in
    told-early g.plan.now g.rules.now g.may.now g.want g.work.now g.nodes.now g.labels.now g.least.now g.count.now (sym c.in_ok-check_fewest.ensures) c.wanted_mark-mark.result c.plan_mark.result c.wanted_mark-mark.ensures c.plan_mark.new.work c.plan_mark.ensures c.if-plan_mark-mark.true

pub write_plan-c-requires : goal.write_plan-c-requires
write_plan-c-requires c =
    let g = c.args in
    let a = write-args g.plan.now g.rules.now g.may.now (length g.work.now) (length g.nodes.now) (length g.labels.now) (sym c.in_ok-check_fewest.ensures) in
    rw (c.read32-n.ensures, c.read32-s.ensures, c.read32-k.ensures)
    (record { call = a.call; stocks = a.stocks; room = omega (arith, a.room); nodes_room = a.nodes_room; labels_room = a.labels_room })

pub returns : goal.returns
returns c =
    let g = c.args in
    told-late g.plan.now g.rules.now g.may.now g.want g.work.now g.nodes.now g.labels.now g.least.now g.count.now (sym c.in_ok-check_fewest.ensures) c.wanted_mark-mark.result c.plan_mark.result c.wanted_mark-mark.ensures c.plan_mark.new.work c.plan_mark.ensures
    c.write_plan-c.result c.write_plan-c.new.work c.write_plan-c.new.nodes c.write_plan-c.new.labels c.write_plan-c.new.least c.write_plan-c.ensures
