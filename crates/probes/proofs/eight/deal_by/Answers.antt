-- None made, one deal more, and all (EightLaws).
use Rattle.std.proofs.Common.{◌≡◌, ℕ, ◌+◌, ◌-◌, ◌∙◌, ap, arith}
use Rattle.formats.specs.Inputs.{inputs_of}
use Rattle.probes.specs.EightProbed.{dealt_all, dealt_next}
use Rattle.probes.proofs.EightLaws.{dealt-once, next-once, all-dealt, next-dealt}
use Rattle.probes.proofs.eight.deal_by.Goals as goal

pub loop-init : goal.loop-init
loop-init c =
    let g = c.args in
    let x = inputs_of g.plan.now g.rules.now g.node_table.now g.state_table.now in
    let e : g.count - 0 ≡ g.count = omega arith in
    (ap (λ (n : ℕ). dealt_all n x g.first g.all) e, ap (λ (n : ℕ). dealt_next n x g.first g.all) e)

pub loop-preserved : goal.loop-preserved
loop-preserved c =
    let l = c.loop in
    let left = c.args.count - l.counter in
    let next = c.args.count - (l.counter + 1) in (
      dealt-once _ l.u l.at left _ _ next (omega arith) c.deal_on-out.ensures c.next_after-at.ensures ∙ l.invariant.0,
      next-once _ l.u l.at left _ _ next (omega arith) c.deal_on-out.ensures c.next_after-at.ensures ∙ l.invariant.1,
    )

pub returns : goal.returns
returns c =
    let l = c.loop in
    let left = c.args.count - l.counter in
    (all-dealt _ l.u l.at left (omega arith) ∙ l.invariant.0, next-dealt _ l.u l.at left (omega arith) ∙ l.invariant.1)
