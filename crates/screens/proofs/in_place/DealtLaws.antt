-- The answer of a deal, from that of the advance of the screen served.
--     deal-handed-on   what `?` returns of a refused advance
--     turn-accepted    an accepted one: how it goes on, and the screen to try first next
use Rattle.std.proofs.Common.{ℕ, ◌≡◌, refl, ap, Result, Ok, Err}
use Rattle.std.specs.Prelude.{IsErrAnd}
use Rattle.formats.specs.Refusals.{refusal_number}
use Rattle.formats.specs.declared.refusals.Refusal.{Refusal}
use Rattle.model.specs.Calls.{refused}
use Rattle.session.specs.declared.answers.Progress.{Progress}
use Rattle.session.specs.declared.answers.Progress.TheVariants.{More, Finished}
use Rattle.session.specs.Answers.{advance_answer}
use Rattle.screens.specs.ScreenCalls.{one, deals, one_past, turn_answer}
use Rattle.screens.specs.declared.in_place.Dealt.{Dealt}
use Rattle.screens.specs.in_place.OnStructs.{deal_answer}

pub deal-handed-on : (a : Result Dealt Refusal) (r : Refusal) → IsErrAnd a (λ e. e ≡ r)
    → deal_answer a ≡ one (refused (refusal_number r))
unfolding deal_answer
deal-handed-on (Ok d) r h = absurd h
deal-handed-on (Err e) r h = ap (λ (s : Refusal). one (refused (refusal_number s))) h

pub turn-accepted : (i : ℕ) (p : Progress) → deals (one_past i) (advance_answer (Ok p)) ≡ turn_answer i (advance_answer (Ok p))
unfolding turn_answer advance_answer
turn-accepted i More = refl
turn-accepted i Finished = refl
