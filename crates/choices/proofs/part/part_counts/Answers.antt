-- `part_counts` meets its contract.
use Prim.Native.Nat.{◌+◌}
use mathlib.Core.Path.{◌≡◌, ap}
use mathlib.Core.Bool.{cond}
use lib.ListN.{get_or}
use borrow.Author.Tests.{not-true, not-false}
use Rattle.choices.specs.declared.part.LabelRange.{LabelRange}
use Rattle.choices.proofs.PartCases.{no_label, no-places, placed-args, placed-done}
use Rattle.choices.proofs.part.part_counts.Goals.{After-label_range-b}
use Rattle.choices.proofs.part.part_counts.Goals as goal

first-is : (a : After-label_range-b) → let g = a.args in
    a.label_range-b.result.first ≡ cond g.free 0 (get_or g.labels.now g.v 0)
first-is a = ap (λ (r : LabelRange). r.first) a.label_range-b.ensures

end_is : (a : After-label_range-b) → let g = a.args in
    a.label_range-b.result.end ≡ cond g.free g.k (get_or g.labels.now g.v 0 + 1)
end_is a = ap (λ (r : LabelRange). r.end) a.label_range-b.ensures

pub returns-then-k-b : goal.returns-then-k-b
returns-then-k-b c =
    no_label _ _ _ _ _ _ _ _ _ _ _ _ _ c.requires c.args.free _ _ (first-is (goal.at.returns-then-k-b c).After-label_range-b) (end_is (goal.at.returns-then-k-b c).After-label_range-b) c.if-k-b.true

pub returns-then-not-p : goal.returns-then-not-p
returns-then-not-p c =
    no-places _ _ _ _ _ _ _ _ _ _ _ _ _ c.requires c.args.free _ _ (first-is (goal.at.returns-then-not-p c).After-label_range-b) (end_is (goal.at.returns-then-not-p c).After-label_range-b)
    c.if-k-b.false _ c.places_below-p.ensures (not-true c.places_below-p.result.ok c.if-not-p.true)

pub root_counts-requires : goal.root_counts-requires
root_counts-requires c =
    placed-args _ _ _ _ _ _ _ _ _ _ _ _ _ c.requires c.args.free _ _ (first-is (goal.at.root_counts-requires c).After-label_range-b) (end_is (goal.at.root_counts-requires c).After-label_range-b)
    c.if-k-b.false _ c.places_below-p.ensures (not-false c.places_below-p.result.ok c.if-not-p.false)

pub returns : goal.returns
returns c =
    placed-done _ _ _ _ _ _ _ _ _ _ _ _ _ c.requires c.args.free _ _ (first-is (goal.at.returns c).After-label_range-b) (end_is (goal.at.returns c).After-label_range-b)
    c.if-k-b.false _ c.places_below-p.ensures
    (not-false c.places_below-p.result.ok c.if-not-p.false) _ _ c.root_counts.ensures
