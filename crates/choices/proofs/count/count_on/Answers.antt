-- `count_on` meets its contract.
use mathlib.Core.Path.{◌≡◌, sym, ◌∙◌}
use mathlib.Core.Bool.{true}
use borrow.Author.Tests.{not-true, not-false}
use Rattle.list_laws.specs.Tests.{all_below}
use Rattle.questions.proofs.RootedLaws.{rooted_none}
use Rattle.choices.proofs.CountCases.{leaves-lost, inner-lost, roots-lost}
use Rattle.choices.proofs.CountCases.{taken-args, taken-done}
use Rattle.choices.proofs.count.count_on.Goals.{Else-not-all_below, Else-not-all_below-2}
use Rattle.choices.proofs.count.count_on.Goals as goal

leaves_in : (c : Else-not-all_below) → let g = c.args in
    all_below g.s g.leaves.now ≡ true
leaves_in c = sym c.all_below.ensures ∙ not-false _ c.if-not-all_below.false-raw

inner-in : (c : Else-not-all_below-2) → let g = c.args in
    all_below g.s g.inner.now ≡ true
inner-in c = sym c.all_below-2.ensures ∙ not-false _ c.if-not-all_below-2.false-raw

pub returns-then-not-all_below : goal.returns-then-not-all_below
returns-then-not-all_below c =
    leaves-lost _ _ _ _ _ _ _ _ _ _ c.requires
    (sym c.all_below.ensures ∙ not-true _ c.if-not-all_below.true-raw)

pub returns-then-not-all_below-2 : goal.returns-then-not-all_below-2
returns-then-not-all_below-2 c =
    inner-lost _ _ _ _ _ _ _ _ _ _ c.requires
    (sym c.all_below-2.ensures ∙ not-true _ c.if-not-all_below-2.true-raw)

pub returns-then-not-found : goal.returns-then-not-found
returns-then-not-found c =
    roots-lost _ _ _ _ _ _ _ _ _ _ c.requires
    (rooted_none c.roots-found.result _ c.roots-found.ensures.result
    (not-true c.roots-found.result.ok c.if-not-found.true))

pub count_parts-requires : goal.count_parts-requires
count_parts-requires c =
    taken-args _ _ _ _ _ _ _ _ _ _ c.requires (leaves_in (goal.at.count_parts-requires c).Else-not-all_below) (inner-in (goal.at.count_parts-requires c).Else-not-all_below-2)
    c.roots-found.result c.roots-found.ensures (not-false c.roots-found.result.ok c.if-not-found.false)

pub returns : goal.returns
returns c =
    taken-done _ _ _ _ _ _ _ _ _ _ c.requires (leaves_in (goal.at.returns c).Else-not-all_below) (inner-in (goal.at.returns c).Else-not-all_below-2)
    c.roots-found.result c.roots-found.ensures (not-false c.roots-found.result.ok c.if-not-found.false) _
    c.count_parts.ensures
