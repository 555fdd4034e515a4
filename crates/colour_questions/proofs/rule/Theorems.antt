-- What a rule question by colours means (document 02, S-14): each theorem cites the question's promise.
--     ask-number   on tables as built the number is that of 12 to 14: 17, 27 and 18 never
--     ask-fresh    the question's answer is the fresh run's of the changed plan
--     ask-parts    the number of parts is that of the session
-- That each one-sided part's state is the climb's: colour_questions/parts, TrialsBuilt, part-state.
use Prim.Native.Nat.{ℕ}
use mathlib.Core.Path.{◌≡◌, sym, ap, ◌∙◌}
use mathlib.Core.List.{List}
use native.Mathlib.Decide.{ℕ_discrete}
use lib.ListN.{length}
use Rattle.formats.specs.Plan.{node_count}
use Rattle.formats.specs.Rules.{label_count}
use Rattle.std.specs.Prelude.{Result, Ok, Err}
use Rattle.formats.specs.Checks.{first_no, list_checks}
use Rattle.formats.specs.Refusals.{answer_number}
use Rattle.formats.specs.declared.refusals.Refusal.{Refusal}
use Rattle.runs.specs.FreshRun.{root_state}
use Rattle.colour_questions.specs.declared.rule.answers.RuleAsked.{RuleAsked}
use Rattle.colour_questions.specs.rule.Promise.{RuleColoursBuilt, roots_left, RuleAskDone}
use Rattle.colour_questions.proofs.rule.AskNumbers.{number-asked}
use Rattle.colour_questions.proofs.rule.AskBuilt.{asked-list}

abbrev pub state_told : Result RuleAsked Refusal → ℕ
state_told (Ok a) = a.state
state_told (Err e) = 0

abbrev pub parts_told : Result RuleAsked Refusal → ℕ
parts_told (Ok a) = a.parts
parts_told (Err e) = 0

module _ (p r node_table state_table numbers bytes vs bs : List ℕ) (a : Result RuleAsked Refusal)
    (D : RuleAskDone p r node_table state_table numbers bytes vs bs a)
    (B : RuleColoursBuilt p r node_table state_table numbers bytes) where
  pub ask-number : answer_number a ≡ first_no (list_checks (node_count p) (label_count r) vs bs)
  ask-number = elim (ℕ_discrete (first_no (list_checks (node_count p) (label_count r) vs bs)) 0) [
    | yes ok ↦ ap answer_number (D.built B ok).is ∙ sym ok
    | no h ↦ (let e = asked-list p r node_table state_table numbers bytes vs bs B in
        D.number ∙ number-asked p r node_table state_table numbers bytes vs bs (λ z. h (e ∙ z)) ∙ sym e)
  ]

  module _ (ok : first_no (list_checks (node_count p) (label_count r) vs bs) ≡ 0) where
    pub ask-fresh : state_told a ≡ root_state p r vs bs
    ask-fresh = ap state_told (D.built B ok).is

    pub ask-parts : parts_told a ≡ length (roots_left p vs bs)
    ask-parts = ap parts_told (D.built B ok).is
