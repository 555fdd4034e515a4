-- `whatif_lay_over` meets its contract: each way out cites its law (ExportCases).
use Rattle.std.proofs.Common.{ℕ, ◌++◌, List, drop, refl, ap, arith}
use Rattle.capi.proofs.list_calls.ExportCases.{count_most, refused-exported, nodes-short, labels-short}
use Rattle.capi.proofs.list_calls.ExportCases.{laid-exported}
use Rattle.capi.proofs.list_calls.whatif_lay_over.Goals as goal

pub returns-in-Err : goal.returns-in-Err
returns-in-Err c =
    let g = c.args in
    refused-exported g.lower_nodes.now g.lower_labels.now g.upper_nodes.now g.upper_labels.now
    c.in-Err.refusal (rw c.in-Err.is at c.lay_over.ensures)
    g.nodes.now g.labels.now g.count.now c.number.result c.number.ensures

pub returns-then-nodes-n : goal.returns-then-nodes-n
returns-then-nodes-n c =
    let g = c.args in
    nodes-short g.lower_nodes.now g.lower_labels.now g.upper_nodes.now g.upper_labels.now
    c.in-Ok.list (rw c.in-Ok.is at c.lay_over.ensures)
    g.nodes.now g.labels.now g.count.now c.number-then-nodes-n.result c.number-then-nodes-n.ensures c.if-nodes-n.true

pub returns-then-labels-n : goal.returns-then-labels-n
returns-then-labels-n c =
    let g = c.args in
    labels-short g.lower_nodes.now g.lower_labels.now g.upper_nodes.now g.upper_labels.now
    c.in-Ok.list (rw c.in-Ok.is at c.lay_over.ensures)
    g.nodes.now g.labels.now g.count.now c.number-then-labels-n.result c.number-then-labels-n.ensures c.if-labels-n.true

pub shared_ref_as_front-copy_from_slice : goal.shared_ref_as_front-copy_from_slice
shared_ref_as_front-copy_from_slice c =
    let g = c.args in
    count_most g.lower_nodes.now g.lower_labels.now g.upper_nodes.now g.upper_labels.now
    c.in-Ok.list (rw c.in-Ok.is at c.lay_over.ensures)

pub returns : goal.returns
returns c =
    let g = c.args in
    laid-exported g.lower_nodes.now g.lower_labels.now g.upper_nodes.now g.upper_labels.now
    c.in-Ok.list (rw c.in-Ok.is at c.lay_over.ensures)
    g.nodes.now g.labels.now g.count.now
    (omega (arith, c.if-nodes-n.false)) (omega (arith, c.if-labels-n.false)) _ _ _
    (ap (λ (t : List ℕ). t ++ drop c.in-Ok.list.count g.nodes.now) c.copy_from_slice.ensures.after)
    (ap (λ (t : List ℕ). t ++ drop c.in-Ok.list.count g.labels.now) c.copy_from_slice-2.ensures.after) refl
