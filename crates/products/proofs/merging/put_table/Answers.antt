-- Each part is handed the runs of the two tables, and one behind the other they are the merged table.
use Rattle.products.proofs.merging.TableLaws.{leaves-args, inner-args, marks-args, leaves-first, leaves-second, inner_first}
use Rattle.products.proofs.merging.TableLaws.{inner-second, marks-first, marks-second, length-1, length-2, length-3}
use Rattle.products.proofs.merging.TableLaws.{table-written}
use Rattle.products.proofs.merging.put_table.Goals as goal

pub put_leaves-requires : goal.put_leaves-requires
put_leaves-requires c =
    let A = c.requires in leaves-args A (leaves-first A) (leaves-second A) (length-1 A c.put_head.ensures)

pub put_inner-requires : goal.put_inner-requires
put_inner-requires c =
    let A = c.requires in
    inner-args A (inner_first A c.inner_count.ensures.value) (inner-second A c.inner_count-2.ensures.value)
    (length-2 A c.put_head.ensures (leaves-first A) (leaves-second A) c.put_leaves.ensures)

pub put_marks-requires : goal.put_marks-requires
put_marks-requires c =
    let A = c.requires in
    let x = c.inner_count.ensures.value in
    let y = c.inner_count-2.ensures.value in
    marks-args A (marks-first A x) (marks-second A y) c.inner_count-3.ensures.value
    (length-3 A c.put_head.ensures (leaves-first A) (leaves-second A) c.put_leaves.ensures (inner_first A x)
    (inner-second A y) c.put_inner.ensures)

pub returns : goal.returns
returns c =
    let A = c.requires in
    let x = c.inner_count.ensures.value in
    let y = c.inner_count-2.ensures.value in
    table-written A c.put_head.ensures (leaves-first A) (leaves-second A) c.put_leaves.ensures (inner_first A x)
    (inner-second A y) c.put_inner.ensures (marks-first A x) (marks-second A y) c.inner_count-3.ensures.value
    c.put_marks.ensures
