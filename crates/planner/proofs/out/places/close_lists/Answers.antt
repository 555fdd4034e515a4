-- The start, each iteration and the end are those of CloseLoop and StackLaws.
use Rattle.std.proofs.Common.{◌∙◌, sym, arith}
use Rattle.planner.proofs.out.CloseLoop.{closing-start, closing-iteration, closing_end, closing-fits, closing-fits-next}
use Rattle.planner.proofs.out.StackLaws.{top-some}
use Rattle.planner.proofs.out.places.close_lists.Goals as goal

pub loop-top-init : goal.loop-top-init
loop-top-init c = closing-start _ _ _ _

pub goes_on-requires : goal.goes_on-requires
goes_on-requires c = omega (arith, c.loop-top.invariant.lower, c.requires.room)

pub overflow_sub-top : goal.overflow_sub-top
overflow_sub-top c =
    top-some c.args.plan.now c.loop-top.top c.loop-top.closing (sym c.goes_on.ensures ∙ c.loop-top-test.true)

pub after_leaf-at-requires : goal.after_leaf-at-requires
after_leaf-at-requires c = closing-fits _ _ _ _ _ _ _ _ c.loop-top.invariant c.requires

pub node_on_top-requires : goal.node_on_top-requires
node_on_top-requires c =
    omega (
      arith,
      top-some c.args.plan.now c.loop-top.top c.loop-top.closing (sym c.goes_on.ensures ∙ c.loop-top-test.true),
      c.loop-top.invariant.lower,
      c.requires.room,
    )

pub overflow_cast-at : goal.overflow_cast-at
overflow_cast-at c =
    omega (
      arith,
      c.after_leaf-at.ensures,
      closing-fits-next _ _ _ _ _ _ _ _ c.loop-top.invariant c.requires (sym c.goes_on.ensures ∙ c.loop-top-test.true),
    )

pub overflow_add-at : goal.overflow_add-at
overflow_add-at c =
    omega (
      arith,
      c.after_leaf-at.ensures,
      closing-fits-next _ _ _ _ _ _ _ _ c.loop-top.invariant c.requires (sym c.goes_on.ensures ∙ c.loop-top-test.true),
    )

pub is_later-closing-requires : goal.is_later-closing-requires
is_later-closing-requires c =
    omega (
      arith,
      top-some c.args.plan.now c.loop-top.top c.loop-top.closing (sym c.goes_on.ensures ∙ c.loop-top-test.true),
      c.loop-top.invariant.lower,
      c.requires.room,
    )

pub loop-top-smaller : goal.loop-top-smaller
loop-top-smaller c =
    omega (arith, top-some c.args.plan.now c.loop-top.top c.loop-top.closing (sym c.goes_on.ensures ∙ c.loop-top-test.true))

pub loop-top-preserved : goal.loop-top-preserved
loop-top-preserved c =
    rw (c.is_later-closing.ensures, c.put.ensures, c.node_on_top.ensures, c.after_leaf-at.ensures)
    (closing-iteration _ _ _ _ _ _ _ _ c.loop-top.invariant (sym c.goes_on.ensures ∙ c.loop-top-test.true))

pub returns : goal.returns
returns c = closing_end _ _ _ _ _ _ _ _ c.loop-top.invariant (sym c.goes_on.ensures ∙ c.loop-top-test.false)
