-- `states_above` meets its contract, for a right child and for a left one.
use Prim.Native.Nat.{◌-◌, ◌<◌}
use mathlib.Core.Path.{refl}
use Rattle.colour_tables.proofs.set_states.UpLaws.{above-right, above-left, place-small, place_in, state_in, label_in, sums}
use Rattle.colour_tables.proofs.set_states.UpLaws.{right-args, left-args}
use native.Mathlib.Omega.{arith}
use Rattle.colour_tables.proofs.set_states.above.states_above.Goals as goal

pub overflow_mul-x : goal.overflow_mul-x
overflow_mul-x c =
    let right : c.args.v - c.size_at.result
    < c.parent_at-p.result =
    (omega (arith, c.if-v-p.true)) in
    omega (
      arith,
      place-small c.args.labels.now c.args.numbers.now c.args.inner.now
          c.args.bytes.now c.args.s c.args.k c.args.v c.requires c.parent_at-p.result
          c.parent_at-p.ensures (c.args.v - c.size_at.result) right,
    )

pub bounds-bytes-u : goal.bounds-bytes-u
bounds-bytes-u c =
    let right : c.args.v - c.size_at.result
    < c.parent_at-p.result =
    (omega (arith, c.if-v-p.true)) in
    place_in c.args.labels.now c.args.numbers.now c.args.inner.now c.args.bytes.now c.args.s
    c.args.k c.args.v c.requires c.parent_at-p.result c.parent_at-p.ensures
    (c.args.v - c.size_at.result) right

pub overflow_cast-x : goal.overflow_cast-x
overflow_cast-x c =
    let right : c.args.v - c.size_at.result
    < c.parent_at-p.result =
    (omega (arith, c.if-v-p.true)) in
    omega (
      arith,
      state_in c.args.labels.now c.args.numbers.now c.args.inner.now c.args.bytes.now
          c.args.s c.args.k c.args.v c.requires c.parent_at-p.result c.parent_at-p.ensures
          (c.args.v - c.size_at.result) right,
      c.requires.few,
    )

pub overflow_mul-x-then-v-p : goal.overflow_mul-x-then-v-p
overflow_mul-x-then-v-p c =
    let right : c.args.v - c.size_at.result
    < c.parent_at-p.result =
    (omega (arith, c.if-v-p.true)) in
    omega (
      arith,
      (sums c.args.labels.now c.args.numbers.now c.args.inner.now c.args.bytes.now
          c.args.s c.args.k c.args.v c.requires c.parent_at-p.result c.parent_at-p.ensures
          (c.args.v - c.size_at.result) right).0,
    )

pub overflow_add-x-then-v-p : goal.overflow_add-x-then-v-p
overflow_add-x-then-v-p c =
    let right : c.args.v - c.size_at.result
    < c.parent_at-p.result =
    (omega (arith, c.if-v-p.true)) in
    omega (
      arith,
      (sums c.args.labels.now c.args.numbers.now c.args.inner.now c.args.bytes.now c.args.s
          c.args.k c.args.v c.requires c.parent_at-p.result c.parent_at-p.ensures
          (c.args.v - c.size_at.result) right).0,
      label_in c.args.labels.now c.args.numbers.now c.args.inner.now c.args.bytes.now c.args.s
          c.args.k c.args.v c.requires c.parent_at-p.result c.parent_at-p.ensures
          (c.args.v - c.size_at.result) right,
      c.requires.labels,
    )

pub overflow_mul-x-then-v-p-2 : goal.overflow_mul-x-then-v-p-2
overflow_mul-x-then-v-p-2 c =
    let right : c.args.v - c.size_at.result
    < c.parent_at-p.result =
    (omega (arith, c.if-v-p.true)) in
    omega (
      arith,
      (sums c.args.labels.now c.args.numbers.now c.args.inner.now c.args.bytes.now
          c.args.s c.args.k c.args.v c.requires c.parent_at-p.result c.parent_at-p.ensures
          (c.args.v - c.size_at.result) right).1,
    )

pub states_above_from-requires : goal.states_above_from-requires
states_above_from-requires c =
    let right : c.args.v - c.size_at.result
    < c.parent_at-p.result =
    (omega (arith, c.if-v-p.true)) in
    right-args c.args.labels.now c.args.numbers.now c.args.inner.now c.args.bytes.now c.args.s
    c.args.k c.args.v c.requires c.parent_at-p.result c.parent_at-p.ensures
    (c.args.v - c.size_at.result) right

pub returns-then-v-p : goal.returns-then-v-p
returns-then-v-p c =
    above-right c.args.labels.now c.args.numbers.now c.args.inner.now c.args.bytes.now c.args.s
    c.args.k
    c.args.v c.parent_at-p.result _ c.parent_at-p.ensures refl c.states_above_from.result c.if-v-p.true
    c.size_at.result c.size_at.ensures c.states_above_from.ensures

pub overflow_mul-y : goal.overflow_mul-y
overflow_mul-y c =
    let left : c.parent_at-p.result - 1 < c.parent_at-p.result =
    (omega (arith, c.requires.above, c.parent_at-p.ensures)) in
    omega (
      arith,
      place-small c.args.labels.now c.args.numbers.now c.args.inner.now
          c.args.bytes.now c.args.s c.args.k c.args.v c.requires c.parent_at-p.result
          c.parent_at-p.ensures (c.parent_at-p.result - 1) left,
    )

pub bounds-bytes-p : goal.bounds-bytes-p
bounds-bytes-p c =
    let left : c.parent_at-p.result - 1 < c.parent_at-p.result =
    (omega (arith, c.requires.above, c.parent_at-p.ensures)) in
    place_in c.args.labels.now c.args.numbers.now c.args.inner.now c.args.bytes.now c.args.s
    c.args.k c.args.v c.requires c.parent_at-p.result c.parent_at-p.ensures (c.parent_at-p.result - 1)
    left

pub overflow_cast-y : goal.overflow_cast-y
overflow_cast-y c =
    let left : c.parent_at-p.result - 1 < c.parent_at-p.result =
    (omega (arith, c.requires.above, c.parent_at-p.ensures)) in
    omega (
      arith,
      state_in c.args.labels.now c.args.numbers.now c.args.inner.now c.args.bytes.now
          c.args.s c.args.k c.args.v c.requires c.parent_at-p.result c.parent_at-p.ensures
          (c.parent_at-p.result - 1) left,
      c.requires.few,
    )

pub overflow_mul-a : goal.overflow_mul-a
overflow_mul-a c =
    let left : c.parent_at-p.result - 1 < c.parent_at-p.result =
    (omega (arith, c.requires.above, c.parent_at-p.ensures)) in
    omega (
      arith,
      (sums c.args.labels.now c.args.numbers.now c.args.inner.now c.args.bytes.now
          c.args.s c.args.k c.args.v c.requires c.parent_at-p.result c.parent_at-p.ensures
          (c.parent_at-p.result - 1) left).2,
    )

pub overflow_add-a : goal.overflow_add-a
overflow_add-a c =
    let left : c.parent_at-p.result - 1 < c.parent_at-p.result =
    (omega (arith, c.requires.above, c.parent_at-p.ensures)) in
    omega (
      arith,
      (sums c.args.labels.now c.args.numbers.now c.args.inner.now c.args.bytes.now
          c.args.s c.args.k c.args.v c.requires c.parent_at-p.result c.parent_at-p.ensures
          (c.parent_at-p.result - 1) left).2,
      state_in c.args.labels.now c.args.numbers.now
          c.args.inner.now c.args.bytes.now c.args.s c.args.k c.args.v c.requires
          c.parent_at-p.result
          c.parent_at-p.ensures (c.parent_at-p.result - 1) left,
      c.requires.few,
    )

pub overflow_mul-k : goal.overflow_mul-k
overflow_mul-k c =
    let left : c.parent_at-p.result - 1 < c.parent_at-p.result =
    (omega (arith, c.requires.above, c.parent_at-p.ensures)) in
    omega (
      arith,
      (sums c.args.labels.now c.args.numbers.now c.args.inner.now c.args.bytes.now
          c.args.s c.args.k c.args.v c.requires c.parent_at-p.result c.parent_at-p.ensures
          (c.parent_at-p.result - 1) left).3,
    )

pub states_above_from-requires-2 : goal.states_above_from-requires-2
states_above_from-requires-2 c =
    let left : c.parent_at-p.result - 1 < c.parent_at-p.result =
    (omega (arith, c.requires.above, c.parent_at-p.ensures)) in
    left-args c.args.labels.now c.args.numbers.now c.args.inner.now c.args.bytes.now c.args.s
    c.args.k c.args.v c.requires c.parent_at-p.result c.parent_at-p.ensures (c.parent_at-p.result - 1)
    left

pub returns : goal.returns
returns c =
    above-left c.args.labels.now c.args.numbers.now c.args.inner.now c.args.bytes.now c.args.s
    c.args.k
    c.args.v c.parent_at-p.result _ c.parent_at-p.ensures refl c.states_above_from-2.result c.if-v-p.false
    c.states_above_from-2.ensures
