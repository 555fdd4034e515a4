use Rattle.std.proofs.Common.{ℕ, sym, ap, ◌∙◌, Result, Ok}
use Rattle.formats.specs.declared.refusals.Refusal.{Refusal}
use Rattle.session.specs.declared.answers.Progress.{Progress}
use Rattle.session.specs.Answers.{advance_answer}
use Rattle.screens.specs.ScreenCalls.{deals, turn_answer}
use Rattle.screens.specs.in_place.OnStructs.{deal_answer}
use Rattle.screens.proofs.in_place.DealtLaws.{deal-handed-on, turn-accepted}
use Rattle.screens.proofs.in_place.deal_answer.Goals as goal

pub returns-in_err-progress : goal.returns-in_err-progress
unfolding turn_answer advance_answer
returns-in_err-progress c =
    let i = c.args.i in
    deal-handed-on _ _ c.from_residual.ensures.1
    ∙ ap (λ (a : Result Progress Refusal). turn_answer i (advance_answer a)) (sym c.in_err-progress.was)

pub returns : goal.returns
unfolding deal_answer
returns c =
    let i = c.args.i in
    let p = c.in_ok-progress.progress in
    ap (λ (k : ℕ). deals k (advance_answer (Ok p))) c.one_past-next.ensures.0
    ∙ turn-accepted i p
    ∙ ap (λ (a : Result Progress Refusal). turn_answer i (advance_answer a)) (sym c.in_ok-progress.was)
