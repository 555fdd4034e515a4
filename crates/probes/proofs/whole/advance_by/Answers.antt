-- None made, one advance more, and all (ProbeLaws).
use Rattle.std.proofs.Common.{◌≡◌, ℕ, ◌+◌, ◌-◌, ap, arith}
use Rattle.formats.specs.Inputs.{inputs_of}
use Rattle.probes.specs.Probed.{advanced}
use Rattle.probes.proofs.ProbeLaws.{once_more, all_done}
use Rattle.probes.proofs.whole.advance_by.Goals as goal

pub loop-init : goal.loop-init
loop-init c =
    let g = c.args in
    let e : g.count - 0 ≡ g.count = omega arith in
    ap (λ (n : ℕ). advanced n (inputs_of g.plan.now g.rules.now g.node_table.now g.state_table.now) g.s) e

pub loop-preserved : goal.loop-preserved
loop-preserved c =
    let l = c.loop in
    once_more _ l.u _ (c.args.count - l.counter) l.invariant _ (c.args.count - (l.counter + 1)) (omega arith)
    c.advance_at-out.ensures.leaves

pub returns : goal.returns
returns c =
    let l = c.loop in
    all_done _ _ _ (c.args.count - l.counter) l.invariant (omega arith)
