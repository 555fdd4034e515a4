-- Before the first node nothing is listed; one node more. An entry has room where there is a change.
use Rattle.std.proofs.Common.{length, get_or, refl, arith}
use Rattle.fewest.specs.inner.passes.Cells.{size_cell}
use Rattle.fewest.proofs.list.ListLoop.{list-start, list-next, entry_in}
use Rattle.fewest.proofs.list.entries.list_changes.Goals as goal

pub loop-v-init : goal.loop-v-init
loop-v-init c =
    let g = c.args in
    (refl, refl, list-start (λ i. get_or g.labels.now i 0) (size_cell g.s g.work.now) g.nodes.now g.out.now)

pub put_change-c-requires : goal.put_change-c-requires
put_change-c-requires c =
    let g = c.args in
    let l = c.loop-v in
    let h = c.loop-v-test.true in
    record {
      node_low = omega (arith, h, c.requires.most);
      label_low = c.requires.labels_low l.v h;
      nodes_room = λ e. omega (
        arith,
        entry_in (λ i. get_or g.labels.now i 0) (size_cell g.s g.work.now) l.v (length g.labels.now) (length g.nodes.now) h c.requires.nodes_room e,
        l.invariant.2.count,
        l.invariant.0,
      );
      labels_room = λ e. omega (
        arith,
        entry_in (λ i. get_or g.labels.now i 0) (size_cell g.s g.work.now) l.v (length g.labels.now) (length g.out.now) h c.requires.labels_room e,
        l.invariant.2.count,
        l.invariant.1,
      );
    }

pub loop-v-preserved : goal.loop-v-preserved
loop-v-preserved c =
    let g = c.args in
    let l = c.loop-v in
    let h = c.loop-v-test.true in (
      omega (arith, l.invariant.0),
      omega (arith, l.invariant.1),
      list-next (λ i. get_or g.labels.now i 0) (size_cell g.s g.work.now) l.v g.nodes.now g.out.now l.c l.nodes l.out c.put_change-c.result c.put_change-c.new.nodes
          c.put_change-c.new.out l.invariant.2
          (λ e. omega (arith, entry_in (λ i. get_or g.labels.now i 0) (size_cell g.s g.work.now) l.v (length g.labels.now) (length g.nodes.now) h c.requires.nodes_room e, l.invariant.2.count))
          (λ e. omega (arith, entry_in (λ i. get_or g.labels.now i 0) (size_cell g.s g.work.now) l.v (length g.labels.now) (length g.out.now) h c.requires.labels_room e, l.invariant.2.count))
          c.put_change-c.ensures,
    )
