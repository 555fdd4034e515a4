-- `jump_lengths` meets its contract: the constant's entries are the definition's.
use Rattle.std.proofs.Common.{refl}
use Rattle.tables.specs.node_tables.JumpLengths.{jump_lengths}
use Rattle.tables.proofs.node_tables.jump_lengths.jump_lengths.Goals as goal

pub returns : goal.returns
unfolding jump_lengths
returns c = refl
