-- `build_rule_colours` meets its promise: the first check that fails, or both buffers written.
use mathlib.Core.Path.{sym}
use native.Mathlib.Omega.{arith}
use Rattle.tables.proofs.BuildLaws.{build-refused, build-done}
use Rattle.colour_tables.proofs.rule.BuildLaws.{accepted, part-args}
use Rattle.colour_tables.proofs.rule.build.build_rule_colours.Goals as goal

pub returns-in_err-check_rule_colours : goal.returns-in_err-check_rule_colours
returns-in_err-check_rule_colours c = build-refused _ _ _ _ _ _ _ c.from_residual.ensures.1 c.in_err-check_rule_colours.ensures

pub read32-n-requires : goal.read32-n-requires
read32-n-requires c = omega (arith, (accepted _ _ _ _ (sym c.in_ok-check_rule_colours.ensures)).0.long)

pub read32-s-requires : goal.read32-s-requires
read32-s-requires c = omega (arith, (accepted _ _ _ _ (sym c.in_ok-check_rule_colours.ensures)).1.long)

pub read32-k-requires : goal.read32-k-requires
read32-k-requires c = omega (arith, (accepted _ _ _ _ (sym c.in_ok-check_rule_colours.ensures)).1.long)

pub write_rule_colours-requires : goal.write_rule_colours-requires
write_rule_colours-requires c =
    part-args _ _ _ _ (sym c.in_ok-check_rule_colours.ensures) _ _ _ c.read32-n.ensures c.read32-s.ensures c.read32-k.ensures

pub returns : goal.returns
returns c =
    build-done _ _ _ _ _ _ _ (sym c.in_ok-check_rule_colours.ensures) c.write_rule_colours.ensures.numbers_are
    c.write_rule_colours.ensures.bytes_are
