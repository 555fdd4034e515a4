use Rattle.std.proofs.Common.{ap, sym, subst, ◌∙◌, ℕ, List}
use Rattle.std.specs.Prelude.{Result}
use Rattle.formats.specs.declared.refusals.Refusal.{Refusal}
use Rattle.session.specs.declared.answers.Outcome.{Outcome}
use Rattle.session.specs.Answers.{read_answer}
use Rattle.whatif.specs.Text.{Put}
use Rattle.whatif.specs.Line.{refused_line, line_of}
use Rattle.whatif.proofs.line.put_line.Goals as goal

pub returns-in-Ok-clause-put : goal.returns-in-Ok-clause-put
unfolding line_of read_answer
returns-in-Ok-clause-put c =
    subst (λ (t : List ℕ). Put c.args.out.now c.args.at t c.put_outcome.new.out c.put_outcome.result)
    (sym (ap (λ (r : Result Outcome Refusal). line_of (read_answer r)) c.in-Ok.is)) c.put_outcome.ensures.put

pub returns-in-Err-clause-put : goal.returns-in-Err-clause-put
unfolding line_of read_answer
returns-in-Err-clause-put c =
    subst (λ (t : List ℕ). Put c.args.out.now c.args.at t c.put_refused.new.out c.put_refused.result)
    (ap refused_line c.number.ensures ∙ sym (ap (λ (r : Result Outcome Refusal). line_of (read_answer r)) c.in-Err.is))
    c.put_refused.ensures.put
