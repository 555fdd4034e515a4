-- `part_row` meets its contract.
use Rattle.choices.proofs.NextCases.{by-open}
use Rattle.choices.proofs.parts.part_row.Goals as goal

pub returns : goal.returns
returns c =
    by-open _ _ _ _ _ _ _ _ c.is_listed-free.ensures c.part_counts.ensures
