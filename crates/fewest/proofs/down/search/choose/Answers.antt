-- `choose` meets its contract.
use Prim.Native.Nat.{◌+◌, ◌<◌}
use lib.ListN.{get_or}
use Rattle.state_sets.specs.StateSets.{member}
use Rattle.fewest.specs.inner.down.Search.{label_hit, right_hit, left_hit}
use Rattle.fewest.proofs.down.AnyLaws.{first_found}
use Rattle.fewest.proofs.down.WayLaws.{row-args, right-search}
use native.Mathlib.Omega.{arith}
use Rattle.fewest.proofs.down.search.choose.Goals as goal

pub bounds-work-from : goal.bounds-work-from
bounds-work-from c =
    let g = c.args in
    let pin : c.find_left-p.result < g.s = first_found g.s (left_hit g.work.now g.inner.now g.s g.k g.from g.at g.a (member g.labels) g.j g.c) c.find_left-p.result c.find_left-p.ensures c.requires.1 in
    omega (arith, pin, c.requires.0.left_room)

pub find_right-q-requires : goal.find_right-q-requires
find_right-q-requires c =
    let g = c.args in
    let pin : c.find_left-p.result < g.s = first_found g.s (left_hit g.work.now g.inner.now g.s g.k g.from g.at g.a (member g.labels) g.j g.c) c.find_left-p.result c.find_left-p.ensures c.requires.1 in
    right-search g.work.now g.inner.now g.s g.k g.from g.at g.c c.find_left-p.result c.requires.0 pin

pub bounds-work-at : goal.bounds-work-at
bounds-work-at c =
    let g = c.args in
    let pin : c.find_left-p.result < g.s = first_found g.s (left_hit g.work.now g.inner.now g.s g.k g.from g.at g.a (member g.labels) g.j g.c) c.find_left-p.result c.find_left-p.ensures c.requires.1 in
    let qin : c.find_right-q.result < g.s = first_found g.s (right_hit g.work.now g.inner.now g.s g.k c.find_left-p.result (get_or g.work.now (g.from + c.find_left-p.result) 0) g.at g.a (member g.labels) g.j g.c) c.find_right-q.result c.find_right-q.ensures (c.find_left-p.ensures.hit pin) in
    omega (arith, qin, c.requires.0.right_room)

pub overflow_add-x-2 : goal.overflow_add-x-2
overflow_add-x-2 c =
    let g = c.args in
    let pin : c.find_left-p.result < g.s = first_found g.s (left_hit g.work.now g.inner.now g.s g.k g.from g.at g.a (member g.labels) g.j g.c) c.find_left-p.result c.find_left-p.ensures c.requires.1 in
    let qin : c.find_right-q.result < g.s = first_found g.s (right_hit g.work.now g.inner.now g.s g.k c.find_left-p.result (get_or g.work.now (g.from + c.find_left-p.result) 0) g.at g.a (member g.labels) g.j g.c) c.find_right-q.result c.find_right-q.ensures (c.find_left-p.ensures.hit pin) in
    omega (arith, c.requires.0.left_low c.find_left-p.result pin, c.requires.0.right_low c.find_right-q.result qin)

pub find_label-b-requires : goal.find_label-b-requires
find_label-b-requires c =
    let g = c.args in
    let pin : c.find_left-p.result < g.s = first_found g.s (left_hit g.work.now g.inner.now g.s g.k g.from g.at g.a (member g.labels) g.j g.c) c.find_left-p.result c.find_left-p.ensures c.requires.1 in
    let qin : c.find_right-q.result < g.s = first_found g.s (right_hit g.work.now g.inner.now g.s g.k c.find_left-p.result (get_or g.work.now (g.from + c.find_left-p.result) 0) g.at g.a (member g.labels) g.j g.c) c.find_right-q.result c.find_right-q.ensures (c.find_left-p.ensures.hit pin) in
    row-args g.work.now g.inner.now g.s g.k c.find_left-p.result (get_or g.work.now (g.from + c.find_left-p.result) 0) g.at g.a g.c c.find_right-q.result
    (right-search g.work.now g.inner.now g.s g.k g.from g.at g.c c.find_left-p.result c.requires.0 pin) qin

pub returns : goal.returns
returns c =
    let g = c.args in
    let pin : c.find_left-p.result < g.s = first_found g.s (left_hit g.work.now g.inner.now g.s g.k g.from g.at g.a (member g.labels) g.j g.c) c.find_left-p.result c.find_left-p.ensures c.requires.1 in
    let qin : c.find_right-q.result < g.s = first_found g.s (right_hit g.work.now g.inner.now g.s g.k c.find_left-p.result (get_or g.work.now (g.from + c.find_left-p.result) 0) g.at g.a (member g.labels) g.j g.c) c.find_right-q.result c.find_right-q.ensures (c.find_left-p.ensures.hit pin) in
    record {
      left_in = pin;
      right_in = qin;
      label_in = first_found g.k (label_hit g.inner.now g.s g.k c.find_left-p.result c.find_right-q.result g.a (member g.labels) (get_or g.work.now (g.from + c.find_left-p.result) 0 + get_or g.work.now (g.at + c.find_right-q.result) 0) g.j g.c) c.find_label-b.result c.find_label-b.ensures (c.find_right-q.ensures.hit qin);
      left = c.find_left-p.ensures;
      right = c.find_right-q.ensures;
      label = c.find_label-b.ensures;
    }
