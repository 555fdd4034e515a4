-- Before the root, what the functions of one node need, and one node more.
use Rattle.std.proofs.Common.{◌-◌, refl, arith}
use Rattle.colour_tables.proofs.states.WordLoop.{words-start, words-above, words-successors, words-place, words-next}
use Rattle.colour_tables.proofs.states.words.write_words.Goals as goal

pub loop-v-init : goal.loop-v-init
loop-v-init c = words-start _ _ _ _ _ _ c.requires _ refl

pub row_above-above-requires : goal.row_above-above-requires
row_above-above-requires c =
    words-above _ _ _ _ _ _ c.requires _ c.loop-v.v (c.loop-v.v - 1) _ _ refl (omega arith) (omega arith) c.loop-v.auto.bytes
    c.loop-v.auto.numbers c.loop-v.invariant

pub successors_by_word-successors-requires : goal.successors_by_word-successors-requires
successors_by_word-successors-requires c =
    words-successors _ _ _ _ _ _ c.requires _ c.loop-v.v (c.loop-v.v - 1) _ _ refl (omega arith) (omega arith) c.loop-v.auto.bytes
    c.loop-v.auto.numbers c.loop-v.invariant _ c.row_above-above.ensures _ (c.requires.below _)

pub put_copy-requires : goal.put_copy-requires
put_copy-requires c =
    words-place _ _ _ _ _ _ c.requires _ c.loop-v.v (c.loop-v.v - 1) _ _ refl (omega arith) (omega arith) c.loop-v.auto.bytes
    c.loop-v.auto.numbers c.loop-v.invariant _ c.row_above-above.ensures _ _
    c.successors_by_word-successors.ensures

pub loop-v-preserved : goal.loop-v-preserved
loop-v-preserved c =
    words-next _ _ _ _ _ _ c.requires _ c.loop-v.v (c.loop-v.v - 1) _ _ refl (omega arith) (omega arith) c.loop-v.auto.bytes
    c.loop-v.auto.numbers c.loop-v.invariant _ c.row_above-above.ensures _ _
    c.successors_by_word-successors.ensures _ _ refl c.put_copy.ensures
