-- Before the first colour, one colour more, and after the last.
use Rattle.std.proofs.Common.{◌≡◌, ◌^◌, ◌<◌, ◌∙◌, refl, arith, get_or, take}
use Rattle.colours.specs.Colouring.{takes}
use Rattle.colour_tables.proofs.rows.TurnLoop.{below, takes-small, power_small, bit-own, bit-low}
use Rattle.colour_tables.proofs.rows.TakeLoop.{take-start, take-args, take-turn, take_done}
use Rattle.colour_tables.proofs.rows.turns.take_in_turn.Goals as goal
use Rattle.colour_tables.proofs.rows.turns.take_in_turn.Goals.{then-taken-q-eq0, else-taken-q-eq0}

pub loop-c-init : goal.loop-c-init
loop-c-init c = take-start _ _ _ _ _ _ c.requires.node _ refl

pub overflow_add-low : goal.overflow_add-low
overflow_add-low c =
    let small : c.loop-c.taken < 65536 =
    below _ _ _ _ _ _ c.loop-c.invariant.turns c.requires.turns c.loop-c-test.true in
    omega arith

pub overflow_sub-low : goal.overflow_sub-low
overflow_sub-low c =
    let small : c.loop-c.taken < 65536 =
    below _ _ _ _ _ _ c.loop-c.invariant.turns c.requires.turns c.loop-c-test.true in
    omega arith

pub overflow_add-taken : goal.overflow_add-taken
overflow_add-taken c =
    let T = c.loop-c.invariant.turns in
    let A = c.requires.turns in
    let h = c.loop-c-test.true in
    let small : c.loop-c.taken < 65536 = below _ _ _ _ _ _ T A h in
    let bit_is : c.if-taken-q-eq0.bit
    ≡ 2 ^ takes (take c.loop-c.c c.loop-c.invariant.row) (get_or c.args.successors.now c.loop-c.c 0) =
    elim c.if-taken-q-eq0.branch [
      | then-taken-q-eq0 w ↦ w.bit-is ∙ bit-own _ _ _ _ _ _ T A h w.if-taken-q-eq0.true
      | else-taken-q-eq0 w ↦ w.bit-is ∙ bit-low _ _ _ _ _ _ T A h w.if-taken-q-eq0.false
    ] in
    omega (arith, power_small _ _ _ _ _ _ T A h)

pub bounds-owners-x : goal.bounds-owners-x
bounds-owners-x c =
    let T = c.loop-c.invariant.turns in
    let A = c.requires.turns in
    let h = c.loop-c-test.true in
    let l : takes (take c.loop-c.c c.loop-c.invariant.row) (get_or c.args.successors.now c.loop-c.c 0) < 16 =
    takes-small _ _ _ _ _ _ T A h in
    let bit_is : c.if-taken-q-eq0.bit
    ≡ 2 ^ takes (take c.loop-c.c c.loop-c.invariant.row) (get_or c.args.successors.now c.loop-c.c 0) =
    elim c.if-taken-q-eq0.branch [
      | then-taken-q-eq0 w ↦ w.bit-is ∙ bit-own _ _ _ _ _ _ T A h w.if-taken-q-eq0.true
      | else-taken-q-eq0 w ↦ w.bit-is ∙ bit-low _ _ _ _ _ _ T A h w.if-taken-q-eq0.false
    ] in
    omega (arith, c.place_of_bit-x.ensures _ l bit_is)

pub put_colour-requires : goal.put_colour-requires
put_colour-requires c =
    take-args _ _ _ _ _ _ c.requires.node c.requires _ _ _ _ _ c.loop-c.invariant c.loop-c-test.true
    c.loop-c.auto.bytes c.loop-c.auto.numbers

pub loop-c-preserved : goal.loop-c-preserved
loop-c-preserved c =
    let T = c.loop-c.invariant.turns in
    let A = c.requires.turns in
    let h = c.loop-c-test.true in
    let l : takes (take c.loop-c.c c.loop-c.invariant.row) (get_or c.args.successors.now c.loop-c.c 0) < 16 =
    takes-small _ _ _ _ _ _ T A h in
    let bit_is : c.if-taken-q-eq0.bit
    ≡ 2 ^ takes (take c.loop-c.c c.loop-c.invariant.row) (get_or c.args.successors.now c.loop-c.c 0) =
    elim c.if-taken-q-eq0.branch [
      | then-taken-q-eq0 w ↦ w.bit-is ∙ bit-own _ _ _ _ _ _ T A h w.if-taken-q-eq0.true
      | else-taken-q-eq0 w ↦ w.bit-is ∙ bit-low _ _ _ _ _ _ T A h w.if-taken-q-eq0.false
    ] in
    take-turn _ _ _ _ _ _ c.requires.node c.requires _ _ _ _ _ c.loop-c.invariant h
    c.loop-c.auto.bytes c.loop-c.auto.numbers _ _ _ bit_is (c.place_of_bit-x.ensures _ l bit_is) c.put_colour.ensures

pub returns : goal.returns
returns c = take_done _ _ _ _ _ _ c.requires.node _ _ _ _ _ c.loop-c.invariant c.loop-c-test.false
