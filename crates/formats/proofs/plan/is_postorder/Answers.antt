-- Each answer is a law of EightLoop, at the eight kinds of this block.
use Rattle.std.proofs.Common.{◌∙◌, sym, arith}
use Rattle.formats.proofs.EightLoop.{blocks_start, blocks-iteration, blocks-stop, blocks-end, no-kinds, word_fits, twice-fits, counts-small, trees-left}
use Rattle.formats.proofs.plan.is_postorder.Goals as goal

pub loop-block-init : goal.loop-block-init
loop-block-init c = blocks_start _

pub returns-then-not-are_kinds : goal.returns-then-not-are_kinds
returns-then-not-are_kinds c =
    no-kinds _ _ _ _ c.loop-block.invariant c.loop-block-test.true c.eight_kinds-word.ensures
    (λ j. omega (arith, c.type_inv.kinds j)) (sym c.are_kinds.ensures ∙ c.if-not-are_kinds.true)

pub overflow_mul-word : goal.overflow_mul-word
overflow_mul-word c =
    record {
      fits = twice-fits _ _ _ _ c.loop-block.invariant c.loop-block-test.true c.eight_kinds-word.ensures
          (λ j. omega (arith, c.type_inv.kinds j)) (sym c.are_kinds.ensures ∙ c.if-not-are_kinds.false);
    }

pub sums_so_far-twice-requires : goal.sums_so_far-twice-requires
sums_so_far-twice-requires c =
    word_fits _ _ _ _ c.loop-block.invariant c.loop-block-test.true c.eight_kinds-word.ensures
    (λ j. omega (arith, c.type_inv.kinds j)) (sym c.are_kinds.ensures ∙ c.if-not-are_kinds.false)

pub trees_suffice-requires : goal.trees_suffice-requires
trees_suffice-requires c =
    counts-small _ _ _ _ c.loop-block.invariant c.loop-block-test.true c.eight_kinds-word.ensures
    (λ j. omega (arith, c.type_inv.kinds j)) (sym c.are_kinds.ensures ∙ c.if-not-are_kinds.false)
    _ c.sums_so_far-twice.ensures

pub returns-then-not-trees_suffice : goal.returns-then-not-trees_suffice
returns-then-not-trees_suffice c =
    blocks-stop _ _ _ _ c.loop-block.invariant c.loop-block-test.true c.eight_kinds-word.ensures
    (λ j. omega (arith, c.type_inv.kinds j)) (sym c.are_kinds.ensures ∙ c.if-not-are_kinds.false)
    _ c.sums_so_far-twice.ensures (sym c.trees_suffice.ensures ∙ c.if-not-trees_suffice.true)

pub overflow_sub-waiting : goal.overflow_sub-waiting
overflow_sub-waiting c =
    let left = trees-left _ _ _ _ c.loop-block.invariant c.loop-block-test.true c.eight_kinds-word.ensures
    (λ j. omega (arith, c.type_inv.kinds j)) (sym c.are_kinds.ensures ∙ c.if-not-are_kinds.false)
    _ c.sums_so_far-twice.ensures (sym c.trees_suffice.ensures ∙ c.if-not-trees_suffice.false) in
    omega (arith, left)

pub loop-block-preserved : goal.loop-block-preserved
loop-block-preserved c =
    blocks-iteration _ _ _ _ c.loop-block.invariant c.loop-block-test.true c.eight_kinds-word.ensures
    (λ j. omega (arith, c.type_inv.kinds j)) (sym c.are_kinds.ensures ∙ c.if-not-are_kinds.false)
    _ c.sums_so_far-twice.ensures (sym c.trees_suffice.ensures ∙ c.if-not-trees_suffice.false)

pub returns : goal.returns
returns c = c.rest_in_postorder.ensures ∙ blocks-end _ _ _ c.loop-block.invariant c.loop-block-test.false
