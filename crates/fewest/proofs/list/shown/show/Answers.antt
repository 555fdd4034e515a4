-- `show` meets its contract: the root, down, and the list.
use Prim.Native.Nat.{◌+◌, ◌-◌}
use lib.ListN.{length}
use Rattle.list_laws.proofs.RowLaws.{stride}
use Rattle.trees.proofs.PostorderLaws.{some_node}
use Rattle.fewest.proofs.list.ShownLaws.{down-given, show-list-args, show-few, show-done}
use native.Mathlib.Omega.{arith}
use Rattle.fewest.proofs.list.shown.show.Goals as goal

pub overflow_sub-kinds : goal.overflow_sub-kinds
overflow_sub-kinds c =
    let g = c.args in
    let p = c.requires.given.up in
    let z = some_node g.kinds.now p.runs.postorder in
    omega (arith, z)

pub tell_root-requires : goal.tell_root-requires
tell_root-requires c =
    let g = c.args in
    let p = c.requires.given.up in
    let z = some_node g.kinds.now p.runs.postorder in
    record { few = p.runs.few; marks = c.requires.given.marks; room = omega (arith, stride (g.s + 1) (length g.kinds.now - 1) (length g.kinds.now) (omega (arith, z)), p.room) }

pub labels_down-requires : goal.labels_down-requires
labels_down-requires c =
    let g = c.args in
    down-given g.kinds.now g.labels.now g.leaves.now g.inner.now g.marks.now g.may.now g.s g.k g.mark g.m g.work.now (length g.nodes.now) (length g.out.now) c.requires c.tell_root.new.work c.tell_root.ensures (omega arith)

pub list_changes-requires : goal.list_changes-requires
list_changes-requires c =
    let g = c.args in
    show-list-args g.kinds.now g.labels.now g.leaves.now g.inner.now g.marks.now g.may.now g.s g.k g.mark g.m g.work.now (length g.nodes.now) (length g.out.now) c.requires c.tell_root.new.work c.tell_root.ensures (omega arith) c.labels_down.new.work c.labels_down.ensures (omega arith)

pub overflow_cast-result : goal.overflow_cast-result
overflow_cast-result c =
    let g = c.args in
    let L = show-few g.kinds.now g.labels.now g.leaves.now g.inner.now g.marks.now g.may.now g.s g.k g.mark g.m g.work.now (length g.nodes.now) (length g.out.now) c.requires c.tell_root.new.work c.tell_root.ensures (omega arith) c.labels_down.new.work c.labels_down.ensures (omega arith) in
    omega (arith, c.list_changes.ensures.count, L)

pub returns : goal.returns
returns c =
    let g = c.args in
    show-done g.kinds.now g.labels.now g.leaves.now g.inner.now g.marks.now g.may.now g.s g.k g.mark g.m g.work.now (length g.nodes.now) (length g.out.now) c.requires c.tell_root.new.work c.tell_root.ensures (omega arith) c.labels_down.new.work c.labels_down.ensures (omega arith) g.nodes.now g.out.now c.list_changes.result
    c.list_changes.new.nodes c.list_changes.new.out c.list_changes.ensures
