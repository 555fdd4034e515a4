-- `write_clearing` meets its contract: the parts that are handed on, and the whole buffer.
use mathlib.Core.Path.{refl}
use Rattle.allowed.proofs.InputsLaws.{parts-given}
use Rattle.allowed.proofs.clearing.CallLaws.{parts-list}
use native.Mathlib.Omega.{arith}
use Rattle.allowed.proofs.clearing.call.write_clearing.Goals as goal

pub write_sets-requires : goal.write_sets-requires
write_sets-requires c =
    parts-given c.requires c.inner_count.result c.inner_count.ensures.value

pub returns : goal.returns
returns c =
    parts-list c.requires c.inner_count.result c.inner_count.ensures.value c.args.sets.now
    c.write_sets.new.cells refl (omega arith) c.write_sets.ensures
