-- `count_parts` meets its contract.
use mathlib.Core.Path.{refl}
use borrow.Author.Tests.{not-false}
use Rattle.choices.proofs.CountCases.{last-args, parts-done}
use Rattle.choices.proofs.count.count_parts.Goals as goal

pub copy_row-requires : goal.copy_row-requires
copy_row-requires c =
    last-args _ _ _ _ _ _ _ _ _ _ _ c.requires _ _ c.all_parts-x.ensures
    (not-false c.all_parts-x.result.ok c.if-not-x.false) _ refl

pub returns : goal.returns
returns c =
    parts-done _ _ _ _ _ _ _ _ _ _ _ c.requires _ _ c.all_parts-x.ensures
    (not-false c.all_parts-x.result.ok c.if-not-x.false) _ c.copy_row.ensures
