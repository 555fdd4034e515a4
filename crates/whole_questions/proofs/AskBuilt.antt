-- A whole question on tables as built, and where the state table is any bytes below S.
--     listed-passes   17 passes there: the checks before 18 are 12 to 14
--     ask-usable      the answer is that of the parts by the rule of document 01
--     built-usable    tables as built are such tables
--     ask-built       on them the answer is the fresh run's of the changed plan
use Prim.Native.Nat.{ℕ}
use mathlib.Core.Path.{◌≡◌, refl, sym, ap, ap₂, ◌∙◌}
use mathlib.Core.Bool.{Bool, true}
use mathlib.Core.List.{List, []}
use mathlib.Core.Option.{Option, some}
use native.Mathlib.Omega.{arith}
use lib.ListN.{length}
use Rattle.list_laws.specs.Tests.{all_below, holds}
use Rattle.list_laws.proofs.TestLaws.{same_list-is}
use Rattle.trees.specs.Changes.{changed}
use Rattle.trees.specs.Climb.{and_then}
use Rattle.formats.specs.Plan.{node_count, plan_tree, labels_within}
use Rattle.formats.specs.Rules.{label_count}
use Rattle.formats.specs.Checks.{first_no, list_checks}
use Rattle.formats.specs.Inputs.{Inputs, inputs_of, Sizes, sizes_in, used_state_table, state_table_built}
use Rattle.formats.specs.Passing.{Built}
use Rattle.formats.specs.Built.{AsBuilt}
use Rattle.formats.proofs.PlanLaws.{labels-plan_tree}
use Rattle.formats.proofs.InputLaws.{rule-table-passes}
use Rattle.formats.proofs.InputsLaws.{rules-of}
use Rattle.tables.specs.declared.answers.Reached.{Reached}
use Rattle.tables.specs.Climbs.{reached}
use Rattle.tables.proofs.BuildLaws.{length-built_states}
use Rattle.tables.proofs.CheckAnswers.{begins-room}
use Rattle.runs.specs.FreshRun.{root_state}
use Rattle.changes.specs.Differing.{differing}
use Rattle.questions.specs.ready.Members.{roots}
use Rattle.questions.specs.ready.Parts.{parts_of, last_state, all_links, all_passed}
use Rattle.questions.proofs.ready.ListLaws.{list-members}
use Rattle.questions.specs.PartInputs.{given_of}
use Rattle.questions.proofs.PartInputsLaws.{reads}
use Rattle.questions.proofs.FreshLaws.{rules-inside, sound-below, whole-state, whole-links, whole-over}
use Rattle.questions.proofs.UsableLaws.{lengths, heads, made, settled, roots-are}
use Rattle.whole_questions.specs.Question.{view_lent, handled_from, whole_with, whole_on, whole_lent, listed_checks}
use Rattle.whole_questions.specs.Question.{answered_with, answer_for, ask_answer}
use Rattle.whole_questions.specs.Promise.{AskUsable, roots_left, parts_lent, total_of, ruled_answer, fresh_answer}
use Rattle.whole_questions.proofs.AskChecks.{then-list}
use Rattle.whole_questions.proofs.AskNumbers.{lent_is}
use Rattle.whole_questions.proofs.RuledLaws.{handled-ruled}

module _ (p r node_table state_table vs bs : List ℕ) where
  abbrev x : Inputs
  x = inputs_of p r node_table state_table

  abbrev z : Sizes
  z = sizes_in (inputs_of p r node_table state_table)

  module _ (U : AskUsable p r node_table state_table) where
    -- the number of the checks before 18 is that of 12 to 14
    pub listed-passes : first_no (list_checks (node_count p) (label_count r) vs bs)
        ≡ first_no (listed_checks p r (length node_table) (length state_table) vs bs)
    listed-passes =
        then-list p r (length node_table) (length state_table) vs bs
        (heads p r node_table state_table U.accepted U.links) _ _ _ refl refl refl
        (lengths p r node_table state_table U.accepted U.links U.room)

    module _ (ok : first_no (list_checks (node_count p) (label_count r) vs bs) ≡ 0) where
      built : Built (sizes_in (inputs_of p r node_table state_table)) (inputs_of p r node_table state_table)
      built = made p r node_table state_table U.accepted U.links

      -- ---- the answer

      whole : handled_from (view_lent p r node_table state_table) vs bs [] [] (reached 0 0 0) (roots_left p vs bs)
          ≡ some (total_of (parts_lent p r node_table state_table vs bs))
      unfolding given_of roots parts_of all_below last_state all_links all_passed
      whole =
          let w : ℕ → Bool = λ v. holds v (differing (labels_within p) vs bs) in
          let P = rule-table-passes p r U.accepted in
          handled-ruled (view_lent p r node_table state_table) (given_of z x x vs bs)
          (reads z x vs bs x (settled p r node_table state_table U.accepted U.links vs bs ok U.room U.below))
          (rules-inside r (rules-of z x built)) w (roots_left p vs bs) (list-members w (plan_tree p)) vs bs
          (ap (λ (ls : List ℕ). changed ls vs bs) (sym (labels-plan_tree p P.0)))
          (omega (arith, P.1.states-least)) (roots_left p vs bs) [] refl refl

      on-usable : whole_lent p r node_table state_table vs bs
          ≡ some (whole_with (total_of (parts_lent p r node_table state_table vs bs)) (length (roots_left p vs bs)))
      unfolding whole_on
      on-usable =
          ap (λ (o : Option (List ℕ)). and_then o (λ ms.
          and_then (handled_from (view_lent p r node_table state_table) vs bs [] [] (reached 0 0 0) ms)
          (λ y. some (whole_with y (length ms)))))
          (roots-are p r node_table state_table U.accepted U.links vs bs ok)
          ∙ ap (λ (o : Option Reached). and_then o (λ y. some (whole_with y (length (roots_left p vs bs))))) whole

      pub ask-usable : ask_answer p r node_table state_table vs bs ≡ (0, some (ruled_answer p r node_table state_table vs bs))
      unfolding answer_for
      ask-usable =
          sym (lent_is p r node_table state_table vs bs _ (sym listed-passes ∙ ok) refl)
          ∙ ap (answer_for r 0) on-usable

  -- ---- tables as built

  module _ (B : AsBuilt p r node_table state_table) where
    built-inputs : Built (sizes_in (inputs_of p r node_table state_table)) (inputs_of p r node_table state_table)
    built-inputs = made p r node_table state_table B.accepted B.links

    table-built : state_table_built (sizes_in (inputs_of p r node_table state_table)) (inputs_of p r node_table state_table)
        ≡ true
    unfolding state_table_built
    table-built = same_list-is (used_state_table z x) _ B.states

    pub built-usable : AskUsable p r node_table state_table
    built-usable = record {
      accepted = B.accepted;
      links = B.links;
      room = begins-room _ state_table _ B.states
          (length-built_states p (rule-table-passes p r B.accepted).0 r);
      below = sound-below z x vs bs built-inputs table-built;
    }

    pub ask-built : first_no (list_checks (node_count p) (label_count r) vs bs) ≡ 0
        → ask_answer p r node_table state_table vs bs ≡ (0, some (fresh_answer p r vs bs))
    ask-built ok =
        let parts = length (roots_left p vs bs) in
        let ps = parts_lent p r node_table state_table vs bs in
        ask-usable built-usable ok
        ∙ ap (λ (y : ℕ). (0, some (answered_with r (reached y (all_links ps) (all_passed ps)) parts)))
        (whole-state z x vs bs built-inputs table-built)
        ∙ ap₂ (λ (l d : ℕ). (0, some (answered_with r (reached (root_state p r vs bs) l d) parts)))
        (whole-links z x vs bs built-inputs x) (whole-over z x vs bs built-inputs x)
