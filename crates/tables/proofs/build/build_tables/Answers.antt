-- `build_tables` meets its contract.
use Rattle.std.proofs.Common.{sym, arith}
use Rattle.tables.proofs.BuildLaws.{plan-headed, rules-headed, build-args, build-refused, build-done}
use Rattle.tables.proofs.build.build_tables.Goals as goal

pub returns-in_err-check_build : goal.returns-in_err-check_build
returns-in_err-check_build c = build-refused _ _ _ _ _ _ _ c.from_residual.ensures.1 c.in_err-check_build.ensures

pub read32-n-requires : goal.read32-n-requires
read32-n-requires c =
    let a = c.args in omega (arith, plan-headed a.plan.now a.rules.now a.node_table.now a.state_table.now (sym c.in_ok-check_build.ensures))

pub read32-s-requires : goal.read32-s-requires
read32-s-requires c =
    let a = c.args in omega (arith, rules-headed a.plan.now a.rules.now a.node_table.now a.state_table.now (sym c.in_ok-check_build.ensures))

pub read32-k-requires : goal.read32-k-requires
read32-k-requires c =
    let a = c.args in omega (arith, rules-headed a.plan.now a.rules.now a.node_table.now a.state_table.now (sym c.in_ok-check_build.ensures))

pub write_tables-requires : goal.write_tables-requires
write_tables-requires c =
    let a = c.args in
    build-args a.plan.now a.rules.now a.node_table.now a.state_table.now c.read32-n.result c.read32-s.result c.read32-k.result
    (sym c.in_ok-check_build.ensures) c.read32-n.ensures c.read32-s.ensures c.read32-k.ensures

pub returns : goal.returns
returns c =
    build-done _ _ _ _ _ _ _ (sym c.in_ok-check_build.ensures) c.write_tables.ensures.links c.write_tables.ensures.states
