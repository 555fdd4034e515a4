-- A question on a changed plan (document 02, S-12).
--     state-over, yes-over    the fresh run with the second list on the plan changed by the first is that with the
--                             second laid over the first on the plan itself
--     question-over           so are the state and the yes or no that Reads return for the two questions
-- Nothing is said of parts, links and nodes passed over: they may differ (parts-differ, Controls).
use Prim.Native.Nat.{ℕ}
use mathlib.Core.Path.{◌≡◌, ap, ap₂, ◌∙◌, subst}
use mathlib.Core.Bool.{Bool, false}
use mathlib.Core.List.{List}
use Rattle.trees.specs.Tree.{Tree}
use Rattle.trees.specs.Automaton.{state, accepts}
use Rattle.trees.specs.Postorder.{tree_of}
use Rattle.trees.specs.Changes.{changed}
use Rattle.formats.specs.Plan.{labels_within, kinds_in}
use Rattle.formats.specs.Rules.{rule_automaton}
use Rattle.formats.specs.Inputs.{Inputs}
use Rattle.formats.specs.Passing.{PlanPasses}
use Rattle.runs.specs.FreshRun.{changed_tree, root_state, root_accepted}
use Rattle.changes.specs.Entries.{Entry, entries, nodes_listed, labels_listed, laid_over}
use Rattle.changes.specs.ChangedPlan.{changed_plan}
use Rattle.changes.proofs.ChangedLaws.{changed-over}
use Rattle.changes.proofs.PlanOver.{labels-changed, kinds-changed}
use Rattle.model.specs.Calls.{Answer, Outcome, outcome, outcome_answer, on_outcome}
use Rattle.reference.specs.Reference.{fresh_answer}
use Rattle.reference.specs.Undisturbed.{EveryOutcomeAfter, OnlyOutcomeAfter}
use Rattle.reference.proofs.UndisturbedLaws.{after_map}
use Rattle.reference.specs.Outcomes.{CleanOutcomes}
use Rattle.reference.specs.Outcomes.{Tells}

told-first : (q : ℕ) (b : Bool) (p l d : ℕ) (o : Outcome) → outcome o ≡ outcome_answer q b p l d → Tells q b o
told-first q b p l d o e = (
  ap (λ (a : Answer). on_outcome (λ (r : Outcome). r.state) 0 a) e,
  ap (λ (a : Answer). on_outcome (λ (r : Outcome). r.yes) false a) e,
)

every_first : (q : ℕ) (b : Bool) (p l d : ℕ) (ys : List Answer) → OnlyOutcomeAfter (outcome_answer q b p l d) ys
    → EveryOutcomeAfter (Tells q b) ys
every_first q b p l d ys only =
    after_map (λ (o : Outcome). outcome o ≡ outcome_answer q b p l d) (Tells q b) (λ o e. told-first q b p l d o e) ys only

-- for an undisturbed question every Read after its finish returns the fresh run's state and yes or no
pub read-tells : (x : Inputs) (vs bs : List ℕ) (n : ℕ) (ys : List Answer) → CleanOutcomes x vs bs n ys
    → EveryOutcomeAfter (Tells (root_state x.plan x.rules vs bs) (root_accepted x.plan x.rules vs bs)) ys
unfolding fresh_answer
read-tells x vs bs n ys C =
    every_first (root_state x.plan x.rules vs bs) (root_accepted x.plan x.rules vs bs) _ _ _ ys C.only

module _ (x y : Inputs) (vs bs us cs : List ℕ) (passes : PlanPasses x.plan) (plan_is : y.plan ≡ changed_plan x.plan vs bs)
    (rules-are : y.rules ≡ x.rules) where
  -- the second list laid over the first
  abbrev pub over : List Entry
  over = laid_over (entries vs bs) (entries us cs)

  tree_over : changed_tree y.plan us cs ≡ changed_tree x.plan (nodes_listed over) (labels_listed over)
  tree_over =
      ap (λ (p : List ℕ). tree_of (kinds_in p) (changed (labels_within p) us cs)) plan_is
      ∙ ap₂ (λ (a b : List ℕ). tree_of b (changed a us cs)) (labels-changed x.plan vs bs passes) (kinds-changed x.plan vs bs passes)
      ∙ ap (tree_of (kinds_in x.plan)) (changed-over (labels_within x.plan) vs bs us cs)

  pub state-over : root_state y.plan y.rules us cs ≡ root_state x.plan x.rules (nodes_listed over) (labels_listed over)
  state-over = ap₂ (λ (r : List ℕ) (t : Tree). state (rule_automaton r) t) rules-are tree_over

  pub yes-over : root_accepted y.plan y.rules us cs ≡ root_accepted x.plan x.rules (nodes_listed over) (labels_listed over)
  yes-over = ap₂ (λ (r : List ℕ) (t : Tree). accepts (rule_automaton r) t) rules-are tree_over

  -- "a question with the second on the plan changed by the first has the state of a question with the second laid over
  -- the first on the plan itself, each on tables built from its own plan and left alone": of what Reads return for the
  -- one and for the other
  pub question-over : (n m : ℕ) (ys zs : List Answer) → CleanOutcomes y us cs n ys
      → CleanOutcomes x (nodes_listed over) (labels_listed over) m zs
      → (q : ℕ) × (b : Bool) × EveryOutcomeAfter (Tells q b) ys × EveryOutcomeAfter (Tells q b) zs
  question-over n m ys zs C D =
      let q = root_state x.plan x.rules (nodes_listed over) (labels_listed over) in
      let b = root_accepted x.plan x.rules (nodes_listed over) (labels_listed over) in (
        q,
        b,
        subst (λ (t : ℕ). EveryOutcomeAfter (Tells t b) ys) state-over
            (subst (λ (t : Bool). EveryOutcomeAfter (Tells (root_state y.plan y.rules us cs) t) ys) yes-over (read-tells y us cs n ys C)),
        read-tells x (nodes_listed over) (labels_listed over) m zs D,
      )
