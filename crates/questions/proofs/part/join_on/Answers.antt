-- Both answers as the contract reads them, then the rule.
use Rattle.std.proofs.Common.{◌≡◌, ℕ, sym, refl, ap, ◌∙◌, ap₂, arith}
use mathlib.Core.Option.{Option, some}
use Rattle.tables.specs.declared.answers.Reached.{Reached}
use Rattle.tables.specs.Climbs.{View, climbed_of}
use Rattle.questions.specs.Part.{join_on}
use Rattle.questions.specs.inner.PartArgs.{reached_in, Few}
use Rattle.questions.proofs.PartLaws.{join-lost, join-made, join-left, join-right}
use Rattle.questions.proofs.part.join_on.Goals as goal
use Rattle.questions.proofs.part.join_on.Goals.{In-Reached, In-Reached-right}

same-join : (X : View) (a : ℕ) (x y l r : Option Reached) → l ≡ x → r ≡ y
    → climbed_of (join_on X a x y) ≡ climbed_of (join_on X a l r)
same-join X a x y l r e f = ap₂ (λ (i j : Option Reached). climbed_of (join_on X a i j)) (sym e) (sym f)

left_is : (c : In-Reached) → reached_in c.args.left ≡ some c.in-Reached.x
left_is c = ap reached_in c.in-Reached.is

right_is : (c : In-Reached-right) → reached_in c.args.right ≡ some c.in-Reached-right.y
right_is c = ap reached_in c.in-Reached-right.is

left_few : (c : In-Reached) → Few c.args.s c.in-Reached.x
left_few c = c.requires.left_few _ (left_is c)

right_few : (c : In-Reached-right) → Few c.args.s c.in-Reached-right.y
right_few c = c.requires.right_few _ (right_is c)

pub rule_on-r-requires : goal.rule_on-r-requires
rule_on-r-requires c =
    let t = goal.at.rule_on-r-requires c in
    record {
      few = c.requires.few;
      labels = c.requires.labels;
      left = (left_few t.In-Reached).state;
      right = (right_few t.In-Reached-right).state;
      room = c.requires.room;
    }

pub returns-then-s-r : goal.returns-then-s-r
returns-then-s-r c =
    let t = goal.at.returns-then-s-r c in
    join-lost _ c.args.a _ _ c.rule_on-r.result c.rule_on-r.ensures c.if-s-r.true
    ∙ same-join _ c.args.a _ _ _ _ (left_is t.In-Reached) (right_is t.In-Reached-right)

pub overflow_add-result : goal.overflow_add-result
overflow_add-result c =
    let t = goal.at.overflow_add-result c in omega (arith, left_few t.In-Reached, right_few t.In-Reached-right)

pub overflow_add-result-in-Reached-right : goal.overflow_add-result-in-Reached-right
overflow_add-result-in-Reached-right c =
    let t = goal.at.overflow_add-result-in-Reached-right c in
    omega (arith, left_few t.In-Reached, right_few t.In-Reached-right)

pub returns-else-s-r : goal.returns-else-s-r
returns-else-s-r c =
    let t = goal.at.returns-else-s-r c in
    join-made _ c.args.a _ _ c.rule_on-r.result c.rule_on-r.ensures c.if-s-r.false
    ∙ same-join _ c.args.a _ _ _ _ (left_is t.In-Reached) (right_is t.In-Reached-right)

pub returns-in-OutOfRange-right : goal.returns-in-OutOfRange-right
returns-in-OutOfRange-right c =
    let t = goal.at.returns-in-OutOfRange-right c in
    join-right _ c.args.a _
    ∙ same-join _ c.args.a _ _ _ _ (left_is t.In-Reached) (ap reached_in c.in-OutOfRange-right.is)

pub returns-in-OutOfRange : goal.returns-in-OutOfRange
returns-in-OutOfRange c =
    let s = c.args in
    join-left _ s.a (reached_in s.right) ∙ same-join _ s.a _ _ _ _ (ap reached_in c.in-OutOfRange.is) refl
