-- The count goes to the entry above the list's nodes, where there is one.
use Rattle.std.proofs.Common.{arith}
use Rattle.planner.proofs.home.CellLaws.{count-some, count_none}
use Rattle.planner.proofs.home.read.put_count.Goals as goal

pub returns-then-w : goal.returns-then-w
returns-then-w c = count-some _ _ _ _ _ c.requires (omega arith)

pub returns-else-w : goal.returns-else-w
returns-else-w c = count_none _ _ _ _ _ c.requires (omega arith)
