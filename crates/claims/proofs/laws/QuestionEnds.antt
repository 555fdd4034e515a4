-- Questions that are carried to their end: against the call fresh_run, and two of them against one another.
--     fresh-run-ends       on what an accepted Start was given, fresh_run has the fresh answer's state and yes or no
--     fresh-run-agrees     so it does in any form of the calls
--     state-over-ends      the second list on the plan changed by the first, and the second laid over the first
use Prim.Native.Nat.{ℕ}
use mathlib.Core.Path.{◌≡◌, ap₂, ◌∙◌}
use mathlib.Core.List.{List, ◌∷◌}
use native.Mathlib.Omega.{arith}
use Rattle.std.specs.Prelude.{Result, Ok}
use Rattle.formats.specs.Plan.{node_count}
use Rattle.formats.specs.Rules.{label_count}
use Rattle.formats.specs.Checks.{first_no, plan_checks, rule_checks, rule_table_checks, list_checks}
use Rattle.formats.specs.Checks.{fresh_run_checks}
use Rattle.formats.specs.Inputs.{Inputs}
use Rattle.formats.proofs.CheckLaws.{Numbered, numbered-append, first_no-append-zero}
use Rattle.formats.proofs.PlanLaws.{plan-numbered}
use Rattle.formats.proofs.RuleLaws.{rules-numbered}
use Rattle.formats.proofs.InputLaws.{rule-table-passes}
use Rattle.formats.proofs.RefusalLaws.{told-value}
use Rattle.formats.specs.declared.refusals.Refusal.{Refusal}
use Rattle.runs.specs.declared.answer.Verdict.{Verdict}
use Rattle.runs.specs.FreshRun.{verdict, fresh_run, FreshRunDone}
use Rattle.changes.specs.Entries.{entries, nodes_listed, labels_listed, laid_over}
use Rattle.model.specs.Calls.{Call, start, Answer, parts}
use Rattle.model.specs.Refusals.{Stage, refusal}
use Rattle.model.specs.Sound.{Sound}
use Rattle.model.proofs.ModelLaws.{start-list, start-sound}
use Rattle.model.proofs.SoundLaws.{sound-yes}
use Rattle.reference.specs.Reference.{new_reference, stage_of, fresh_answer, asked}
use Rattle.reference.specs.Undisturbed.{reference_at}
use Rattle.reference.specs.Demand3.{Demand3}
use Rattle.reference.specs.Finished.{until_the_end, QuestionsFinish}
use Rattle.reference.proofs.UndisturbedLaws.{agrees-split}
use Rattle.reference.proofs.QuestionTheorem.{passed}
use Rattle.reference.proofs.OverTheorem.{state-over, yes-over}
use Rattle.claims.specs.Histories.{answer_state, answer_yes, ToTheEnd, FreshRunAgrees, StateOver}

-- ---- the fresh run

table-numbered : (p r : List ℕ) → Numbered (rule_table_checks p r)
unfolding rule_table_checks
table-numbered p r =
    numbered-append (plan_checks p) _ (plan-numbered p)
    (numbered-append (rule_checks r) _ (rules-numbered r) (omega arith, tt))

-- no check of fresh_run fails
run-passes : (t : Stage) (x : Inputs) (vs bs : List ℕ) → refusal t (start x vs bs) ≡ 0
    → first_no (fresh_run_checks x.plan x.rules vs bs) ≡ 0
unfolding fresh_run_checks
run-passes t x vs bs e =
    let S : Sound t.sizes x = sound-yes t.sizes x (start-sound t x vs bs e) in
    first_no-append-zero (rule_table_checks x.plan x.rules)
    (list_checks (node_count x.plan) (label_count x.rules) vs bs)
    (table-numbered x.plan x.rules) S.as_built.accepted
    ∙ ap₂ (λ (n k : ℕ). first_no (list_checks n k vs bs)) S.n_is S.k_is
    ∙ start-list t x vs bs e

pub fresh-run-ends : (t : Stage) (x : Inputs) (vs bs : List ℕ) → refusal t (start x vs bs) ≡ 0
    → (r : Result Verdict Refusal) → FreshRunDone x.plan x.rules vs bs r
    → r ≡ Ok (record {
      state = answer_state (fresh_answer (asked x vs bs));
      accepted = answer_yes (fresh_answer (asked x vs bs));
    })
unfolding fresh_run fresh_answer
fresh-run-ends t x vs bs e r d =
    told-value r (first_no (fresh_run_checks x.plan x.rules vs bs)) (verdict x.plan x.rules vs bs) d.result
    (run-passes t x vs bs e)

module _ {R : Type 0} (fresh : R) (Step : R → Call → Answer → R → Type 0) (D : Demand3 fresh Step)
    (Q : QuestionsFinish fresh Step) where
  -- no check refused the Start of a question that was carried to its end
  start-passed : (x : Inputs) (vs bs : List ℕ) (n : ℕ) (ys : List Answer) (E : ToTheEnd fresh Step x vs bs n ys)
      → refusal (stage_of (reference_at new_reference E.cs E.xs)) (start x vs bs) ≡ 0
  start-passed x vs bs n ys E =
      passed (reference_at new_reference E.cs E.xs) x vs bs n
      (agrees-split new_reference E.cs _ E.xs (parts n ∷ ys) E.before (D _ _ E.history)).0

  ends : (x : Inputs) (vs bs : List ℕ) (n : ℕ) (ys : List Answer) → ToTheEnd fresh Step x vs bs n ys
      → ys ≡ until_the_end n (fresh_answer (asked x vs bs))
  ends x vs bs n ys E = Q E.cs E.xs x vs bs n E.ws ys E.before E.advances E.same E.history

  pub fresh-run-agrees : FreshRunAgrees fresh Step
  fresh-run-agrees x vs bs n ys E r d = (
    fresh_answer (asked x vs bs),
    ends x vs bs n ys E,
    fresh-run-ends (stage_of (reference_at new_reference E.cs E.xs)) x vs bs (start-passed x vs bs n ys E) r d,
  )

  pub state-over-ends : StateOver fresh Step
  unfolding fresh_answer
  state-over-ends x y vs bs us ls plan_is rules-are n m ys zs E F =
      let ws : List ℕ = nodes_listed (laid_over (entries vs bs) (entries us ls)) in
      let ms : List ℕ = labels_listed (laid_over (entries vs bs) (entries us ls)) in
      let t : Stage = stage_of (reference_at new_reference F.cs F.xs) in
      let S : Sound t.sizes x = sound-yes t.sizes x (start-sound t x ws ms (start-passed x ws ms m zs F)) in
      let P = (rule-table-passes x.plan x.rules S.as_built.accepted).0 in (
        fresh_answer (asked y us ls),
        fresh_answer (asked x ws ms),
        ends y us ls n ys E,
        ends x ws ms m zs F,
        state-over x y vs bs us ls P plan_is rules-are,
        yes-over x y vs bs us ls P plan_is rules-are,
      )
