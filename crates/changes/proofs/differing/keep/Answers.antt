-- `changes::differing::keep` meets its contract.
use mathlib.Core.Path.{refl}
use lib.ListN.{get_or}
use Rattle.changes.specs.inner.LastDiffering.{left_within}
use Rattle.changes.proofs.LastDifferingLaws.{keep-later, keep-own, keep-new}
use Rattle.changes.proofs.differing.keep.Goals as goal

pub returns-then-is_superseded : goal.returns-then-is_superseded
returns-then-is_superseded c =
    let a = c.args in
    keep-later (left_within a.count a.left.now) a.labels.now a.nodes.now (get_or a.nodes.now a.i 0)
    (get_or a.changes.now a.i 0) a.i _ c.is_superseded.ensures c.if-is_superseded.true

pub returns-then-changes-i : goal.returns-then-changes-i
returns-then-changes-i c =
    let a = c.args in
    keep-own (left_within a.count a.left.now) a.labels.now a.nodes.now (get_or a.nodes.now a.i 0)
    (get_or a.changes.now a.i 0) a.i _ c.is_superseded.ensures c.if-is_superseded.false _
    c.label_at.ensures c.if-changes-i.true

pub returns : goal.returns
returns c =
    let a = c.args in
    keep-new (left_within a.count a.left.now) a.labels.now a.nodes.now (get_or a.nodes.now a.i 0)
    (get_or a.changes.now a.i 0) a.i _ c.is_superseded.ensures c.if-is_superseded.false _
    c.label_at.ensures c.if-changes-i.false _ refl
