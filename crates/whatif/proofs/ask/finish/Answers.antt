use Rattle.std.proofs.Common.{ℕ, suc, ◌≡◌, ◌+◌, ◌-◌, ap, sym, ◌∙◌, Ok, arith}
use Rattle.formats.specs.Inputs.{inputs_of}
use Rattle.whatif.specs.Asked.{finished_in}
use Rattle.whatif.proofs.AskLaws.{more-iteration, finished-iteration, refused-iteration}
use Rattle.whatif.proofs.ask.finish.Goals as goal

pub loop-parts-preserved : goal.loop-parts-preserved
loop-parts-preserved c =
    let l = c.loop-parts in
    let x = inputs_of c.args.plan.now c.args.rules.now c.args.node_table.now c.args.state_table.now in
    let d = c.advance-next.result in
    let f = 254 - (l._parts + 1) in
    let e : suc f ≡ 254 - l._parts = omega arith in record {
      same =
          sym (more-iteration f l.rec d.session x d.answer c.advance-next.ensures (c.in_ok-progress.was ∙ ap Ok c.in-More.is))
          ∙ (ap (λ (n : ℕ). finished_in n l.rec x) e ∙ l.invariant.same);
    }

pub returns-in-Finished : goal.returns-in-Finished
returns-in-Finished c =
    let l = c.loop-parts in
    let x = inputs_of c.args.plan.now c.args.rules.now c.args.node_table.now c.args.state_table.now in
    let d = c.advance-next.result in
    let f = 254 - (l._parts + 1) in
    let e : suc f ≡ 254 - l._parts = omega arith in
    c.read.ensures
    ∙ (sym (finished-iteration f l.rec d.session x d.answer c.advance-next.ensures (c.in_ok-progress.was ∙ ap Ok c.in-Finished.is))
    ∙ (ap (λ (n : ℕ). finished_in n l.rec x) e ∙ l.invariant.same))

pub returns-in_err-progress : goal.returns-in_err-progress
returns-in_err-progress c =
    let l = c.loop-parts in
    let x = inputs_of c.args.plan.now c.args.rules.now c.args.node_table.now c.args.state_table.now in
    let d = c.advance-next.result in
    let f = 254 - (l._parts + 1) in
    let e : suc f ≡ 254 - l._parts = omega arith in
    refused-iteration f l.rec d.session x d.answer c.advance-next.ensures _ c.in_err-progress.was
    c.from_residual.result c.from_residual.ensures.1
    ∙ (ap (λ (n : ℕ). finished_in n l.rec x) e ∙ l.invariant.same)

pub returns : goal.returns
unfolding finished_in
returns c =
    let l = c.loop-parts in
    let x = inputs_of c.args.plan.now c.args.rules.now c.args.node_table.now c.args.state_table.now in
    let e : 0 ≡ 254 - l._parts = omega arith in
    c.read-2.ensures ∙ (ap (λ (n : ℕ). finished_in n l.rec x) e ∙ l.invariant.same)
