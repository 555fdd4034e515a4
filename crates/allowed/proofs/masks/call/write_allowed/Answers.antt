-- `write_allowed` meets its contract: the parts that are handed on, and the whole buffer.
use mathlib.Core.Path.{refl}
use Rattle.allowed.proofs.InputsLaws.{parts-given}
use Rattle.allowed.proofs.masks.CallLaws.{parts-list}
use native.Mathlib.Omega.{arith}
use Rattle.allowed.proofs.masks.call.write_allowed.Goals as goal

pub write_parts-requires : goal.write_parts-requires
write_parts-requires c =
    parts-given c.requires c.inner_count.result c.inner_count.ensures.value

pub returns : goal.returns
returns c =
    parts-list c.requires c.inner_count.result c.inner_count.ensures.value c.args.masks.now
    c.write_parts.new.cells refl (omega arith) c.write_parts.ensures
