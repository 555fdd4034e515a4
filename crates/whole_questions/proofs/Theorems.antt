-- What a whole question means: each theorem cites the question's promise.
--     ask-number   on usable tables the number is that of 12 to 14: 17 and 18 never
use Prim.Native.Nat.{ℕ}
use mathlib.Core.Path.{◌≡◌, sym, ap, ◌∙◌}
use mathlib.Core.List.{List}
use native.Mathlib.Decide.{ℕ_discrete}
use Rattle.formats.specs.Plan.{node_count}
use Rattle.formats.specs.Rules.{label_count}
use Rattle.std.specs.Prelude.{Result}
use Rattle.formats.specs.Checks.{first_no, list_checks}
use Rattle.formats.specs.Refusals.{answer_number}
use Rattle.formats.specs.declared.refusals.Refusal.{Refusal}
use Rattle.whole_questions.specs.declared.answers.Asked.{Asked}
use Rattle.whole_questions.specs.Promise.{AskUsable, AskDone}
use Rattle.whole_questions.proofs.AskNumbers.{number-listed}
use Rattle.whole_questions.proofs.AskBuilt.{listed-passes}

module _ (p r node_table state_table vs bs : List ℕ) (a : Result Asked Refusal) (D : AskDone p r node_table state_table vs bs a) where
  pub ask-number : AskUsable p r node_table state_table
      → answer_number a ≡ first_no (list_checks (node_count p) (label_count r) vs bs)
  ask-number U = elim (ℕ_discrete (first_no (list_checks (node_count p) (label_count r) vs bs)) 0) [
    | yes ok ↦ ap answer_number (D.usable U ok) ∙ sym ok
    | no h ↦ (let e = listed-passes p r node_table state_table vs bs U in
        D.number ∙ number-listed p r node_table state_table vs bs (λ z. h (e ∙ z)) ∙ sym e)
  ]
