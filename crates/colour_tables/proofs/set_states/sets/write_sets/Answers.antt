-- Before the root, what the functions of one node need, one node more, and after the last.
use Rattle.std.proofs.Common.{◌≡◌, ◌-◌, refl, subst, arith}
use Rattle.colour_tables.proofs.set_states.SetLoop.{Sets, sets-start, sets-above, sets_down, sets-place, sets-next}
use Rattle.colour_tables.proofs.set_states.sets.write_sets.Goals as goal

pub loop-v-init : goal.loop-v-init
loop-v-init c = sets-start _ _ _ _ _ _ _ _ c.requires _ refl

pub row_above-above-requires : goal.row_above-above-requires
row_above-above-requires c =
    sets-above _ _ _ _ _ _ _ _ c.requires _ c.loop-v.v (c.loop-v.v - 1) _ _ refl (omega arith) (omega arith) c.loop-v.auto.bytes
    c.loop-v.auto.numbers c.loop-v.invariant

pub successors_down-successors-requires : goal.successors_down-successors-requires
successors_down-successors-requires c =
    sets_down _ _ _ _ _ _ _ _ c.requires _ c.loop-v.v (c.loop-v.v - 1) _ _ refl (omega arith) (omega arith) c.loop-v.auto.bytes
    c.loop-v.auto.numbers c.loop-v.invariant _ c.row_above-above.ensures

pub put_copy-requires : goal.put_copy-requires
put_copy-requires c =
    sets-place _ _ _ _ _ _ _ _ c.requires _ c.loop-v.v (c.loop-v.v - 1) _ _ refl (omega arith) (omega arith) c.loop-v.auto.bytes
    c.loop-v.auto.numbers c.loop-v.invariant _ c.row_above-above.ensures _
    c.successors_down-successors.ensures

pub loop-v-preserved : goal.loop-v-preserved
loop-v-preserved c =
    sets-next _ _ _ _ _ _ _ _ c.requires _ c.loop-v.v (c.loop-v.v - 1) _ _ refl (omega arith) (omega arith) c.loop-v.auto.bytes
    c.loop-v.auto.numbers c.loop-v.invariant _ c.row_above-above.ensures _
    c.successors_down-successors.ensures _ _ c.put_copy.ensures

pub returns : goal.returns
returns c =
    let g = c.args in
    let z : c.loop-v.v ≡ 0 = omega arith in
    subst
    (λ i. Sets g.labels.now g.inner.now g.s g.k g.count g.base g.bytes.now g.numbers.now i c.loop-v.bytes
    c.loop-v.numbers)
    z c.loop-v.invariant
