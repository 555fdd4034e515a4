-- `session::advance::next_step` meets its contract. Each return cites the law of its answer.
use Rattle.std.proofs.Common.{ap, not}
use mathlib.Core.Path.{◌≡◌}
use mathlib.Core.Bool.{◌&&◌}
use Rattle.formats.specs.Inputs.{Inputs}
use Rattle.model.specs.Calls.{advance, is_running}
use Rattle.session.specs.declared.state.Session.{Session}
use Rattle.session.specs.Records.{phase_of, whole, valid}
use Rattle.formats.specs.Inputs.{inputs_of}
use Rattle.session.proofs.CallLaws.{allowed-by}
use Rattle.session.proofs.AdvanceLaws.{advance-1, advance-limits, advance-17, next-args, handle-args, advance-18}
use Rattle.session.proofs.AdvanceLaws.{step-found}
use Rattle.session.proofs.StepLaws.{refused-found}
use Rattle.formats.specs.declared.refusals.Refusal.TheVariants.{SessionState, LentLength, LentValue}
use borrow.Author.Rules.{rules}
use Rattle.session.proofs.advance.next_step.Statement.{statement}
use Rattle.session.proofs.advance.next_step.Tie as tie

abbrev of : tie.After-allowed → Session
of a =
    let b = a.args in whole b.h b.nodes.now b.labels.now b.roots.now b.states.now

abbrev lent : tie.After-allowed → Inputs
lent a = let b = a.args in inputs_of b.plan.now b.rules.now b.node_table.now b.state_table.now

may : (a : tie.After-allowed) → a.allowed.result ≡ (valid (of a) && is_running (phase_of (of a).head.phase))
may a = allowed-by is_running (of a) _ _ a.may_advance-may.ensures a.allowed.ensures

returns : tie.Need-returns-then-not-allowed
returns c =
    refused-found (of c.before.before) (advance (lent c.before.before)) SessionState _ c.refused_step.ensures
    (advance-1 (of c.before.before) c.requires (lent c.before.before) _ (may c.before.before) (ap not c.if-not-allowed.true))

rule-buffers-fit-requires : tie.Need-rule_buffers_fit-requires
rule-buffers-fit-requires c κs =
    advance-limits (of c.before.before.before.before) c.requires (lent c.before.before.before.before) _ (may c.before.before.before.before) (ap not c.if-not-allowed.false)

returns-2 : tie.Need-returns-then-not-rule_buffers_fit
returns-2 c =
    refused-found (of c.before.before.before.before.before.before.before) (advance (lent c.before.before.before.before.before.before.before)) LentLength _ c.refused_step-then-not-rule_buffers_fit.ensures
    (advance-17 (of c.before.before.before.before.before.before.before) c.requires (lent c.before.before.before.before.before.before.before) _ (may c.before.before.before.before.before.before.before) (ap not c.if-not-allowed.false) _ c.rule_buffers_fit.ensures (ap not c.if-not-rule_buffers_fit.true))

next-part-requires : tie.Need-next_part-requires
next-part-requires c κs =
    next-args (of c.before.before.before.before.before.before.before.before.before.before) c.requires (lent c.before.before.before.before.before.before.before.before.before.before) _ (may c.before.before.before.before.before.before.before.before.before.before) (ap not c.if-not-allowed.false)

handled-requires : tie.Need-handled-requires
handled-requires c κs =
    handle-args (of c.before.before.before.before.before.before.before.before.before.before.before.before) c.requires (lent c.before.before.before.before.before.before.before.before.before.before.before.before) _ (may c.before.before.before.before.before.before.before.before.before.before.before.before) (ap not c.if-not-allowed.false) _ c.rule_buffers_fit.ensures (ap not c.if-not-rule_buffers_fit.false) _
    c.next_part.ensures.0 c.next_part.ensures.1 c.in-Reached.found.state c.in-Reached.found.links
    c.in-Reached.found.passed c.in-Reached.is

returns-3 : tie.Need-returns-in-Reached
returns-3 c =
    step-found (of c.before.before.before.before.before.before.before.before.before.before.before.before.before) c.requires (lent c.before.before.before.before.before.before.before.before.before.before.before.before.before) _ (may c.before.before.before.before.before.before.before.before.before.before.before.before.before) (ap not c.if-not-allowed.false) _ c.rule_buffers_fit.ensures (ap not c.if-not-rule_buffers_fit.false) _
    c.next_part.ensures.0 c.next_part.ensures.1 c.in-Reached.found.state c.in-Reached.found.links
    c.in-Reached.found.passed c.in-Reached.is _ c.handled.ensures

returns-4 : tie.Need-returns-in-OutOfRange
returns-4 c =
    refused-found (of c.before.before.before.before.before.before.before.before.before.before.before.before.before) (advance (lent c.before.before.before.before.before.before.before.before.before.before.before.before.before)) LentValue _ c.refused_step-in-OutOfRange.ensures
    (advance-18 (of c.before.before.before.before.before.before.before.before.before.before.before.before.before) c.requires (lent c.before.before.before.before.before.before.before.before.before.before.before.before.before) _ (may c.before.before.before.before.before.before.before.before.before.before.before.before.before) (ap not c.if-not-allowed.false) _ c.rule_buffers_fit.ensures (ap not c.if-not-rule_buffers_fit.false) _
    c.next_part.ensures.0 c.next_part.ensures.1 c.in-OutOfRange.is)

pub next_step_spec : {M : Type 1} → statement M
next_step_spec =
    tie.close
    (tie.spec (λ c κs. search rules) (λ c κs. search rules) (λ c κs. search rules) returns (λ c. search rules)
    (λ c. search rules) (λ c. search rules) rule-buffers-fit-requires (λ c κs. search rules) returns-2
    next-part-requires (λ c. search rules) handled-requires returns-3 (λ c. search rules) (λ c κs. search rules)
    returns-4)
