-- `whatif_count` meets its contract: each way out cites its law (ExportCases).
use Rattle.std.proofs.Common.{ℕ, ◌++◌, List, drop, ap, arith}
use Rattle.capi.proofs.choice_calls.ExportCases.{header-there, most_states, refused-exported, short-exported, counted-exported}
use Rattle.capi.proofs.choice_calls.whatif_count.Goals as goal

pub returns-in-Err : goal.returns-in-Err
returns-in-Err c =
    let g = c.args in
    refused-exported g.plan.now g.rules.now g.node_table.now g.state_table.now g.nodes.now
    c.in-Err.refusal (rw c.in-Err.is at c.count.ensures) g.counts.now g.parts.now g.links.now
    c.number.result c.number.ensures

pub read32-s-requires : goal.read32-s-requires
read32-s-requires c =
    let g = c.args in
    header-there g.plan.now g.rules.now g.node_table.now g.state_table.now g.nodes.now
    c.in-Ok.reply (rw c.in-Ok.is at c.count.ensures)

pub returns-then-counts-s : goal.returns-then-counts-s
returns-then-counts-s c =
    let g = c.args in
    short-exported g.plan.now g.rules.now g.node_table.now g.state_table.now g.nodes.now
    c.in-Ok.reply (rw c.in-Ok.is at c.count.ensures) g.counts.now g.parts.now g.links.now
    c.number-then-counts-s.result c.number-then-counts-s.ensures
    (omega (arith, c.read32-s.ensures, c.if-counts-s.true))

pub shared_ref_as_front-copy_from_slice : goal.shared_ref_as_front-copy_from_slice
shared_ref_as_front-copy_from_slice c =
    let g = c.args in
    most_states g.plan.now g.rules.now g.node_table.now g.state_table.now g.nodes.now
    c.in-Ok.reply (rw c.in-Ok.is at c.count.ensures) c.read32-s.result c.read32-s.ensures

pub returns : goal.returns
returns c =
    let g = c.args in
    counted-exported g.plan.now g.rules.now g.node_table.now g.state_table.now g.nodes.now
    c.in-Ok.reply (rw c.in-Ok.is at c.count.ensures) g.counts.now g.parts.now g.links.now
    c.read32-s.result c.read32-s.ensures (omega (arith, c.if-counts-s.false)) _
    (ap (λ (t : List ℕ). t ++ drop c.read32-s.result g.counts.now) c.copy_from_slice.ensures.after)
