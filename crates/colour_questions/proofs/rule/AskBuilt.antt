-- A rule question by colours on tables as built: what holds of usable ones, with the states of the run.
--     built-usable  tables as built are usable
--     asked-list    the checks before 18 are 12 to 14: 17 and 27 pass
--     ask-built     the answer is the fresh run's of the changed plan
use Prim.Native.Nat.{ℕ, ◌*◌, ◌≤◌}
use mathlib.Core.Path.{◌≡◌, refl, ap₂, ◌∙◌, subst}
use mathlib.Core.Bool.{Bool, true}
use mathlib.Core.List.Memᴰ
use mathlib.Core.List.{List, []}
use mathlib.Core.Option.{some}
use native.Mathlib.Omega.{arith}
use lib.ListN.{length}
use Rattle.list_laws.specs.Tests.{holds}
use Rattle.list_laws.proofs.TestLaws.{same_list-is}
use Rattle.trees.specs.Tree.{Tree, size, height}
use Rattle.trees.specs.Climb.{digits}
use Rattle.formats.specs.Plan.{node_count, plan_tree, labels_within}
use Rattle.formats.specs.Rules.{state_count, label_count}
use Rattle.std.specs.Prelude.{Result}
use Rattle.formats.specs.Checks.{first_no, list_checks, state_table_length}
use Rattle.formats.specs.Refusals.{told}
use Rattle.formats.specs.declared.refusals.Refusal.{Refusal}
use Rattle.formats.proofs.RefusalLaws.{told-value}
use Rattle.formats.specs.Inputs.{Inputs, inputs_of, Sizes, sizes_in, used_state_table, state_table_built}
use Rattle.formats.specs.Passing.{Built, PlanPasses}
use Rattle.formats.proofs.PlanLaws.{size-plan_tree}
use Rattle.formats.proofs.InputLaws.{rule-table-passes}
use Rattle.formats.proofs.InputsLaws.{rules-of}
use Rattle.tables.proofs.BuildLaws.{length-built_states}
use Rattle.changes.specs.Differing.{differing}
use Rattle.questions.specs.PartInputs.{given_of}
use Rattle.questions.specs.ready.Members.{roots}
use Rattle.questions.specs.ready.Parts.{Given, parts_of, last_state}
use Rattle.questions.proofs.ready.ListLaws.{list-members}
use Rattle.questions.proofs.FreshLaws.{rules-inside, sound-below, given-run, whole-state, changes, left-same}
use Rattle.questions.proofs.UsableLaws.{made}
use Rattle.runs.specs.FreshRun.{changed_tree, root_state}
use Rattle.colours.specs.Descents.{AllLe}
use Rattle.colours.proofs.Theorems.{links-limit}
use Rattle.colour_questions.specs.parts.OneSided.{one_sided}
use Rattle.colour_questions.specs.parts.Searches.{question_searches}
use Rattle.colour_questions.specs.parts.Trials.{tried_parts, trials_from}
use Rattle.colour_questions.specs.declared.rule.answers.RuleAsked.{RuleAsked}
use Rattle.colour_questions.specs.rule.Question.{asked_checks, rule_ask_answer, answered_with}
use Rattle.colour_questions.specs.rule.Promise.{RuleColoursBuilt, RuleColoursUsable, roots_left, searches_left, RuleColourAnswer}
use Rattle.tables.proofs.CheckAnswers.{begins-room}
use Rattle.colour_questions.proofs.parts.TrialsBuilt.{all-trials}
use Rattle.colour_questions.proofs.rule.AskUsable as usable

module _ (p r node_table state_table numbers bytes vs bs : List ℕ)
    (D : RuleColoursBuilt p r node_table state_table numbers bytes) where
  abbrev t : Tree
  t = plan_tree p

  abbrev x : Inputs
  x = inputs_of p r node_table state_table

  abbrev z : Sizes
  z = sizes_in (inputs_of p r node_table state_table)

  plan-passes : PlanPasses p
  plan-passes = (rule-table-passes p r D.tables.accepted).0

  built : Built (sizes_in (inputs_of p r node_table state_table)) (inputs_of p r node_table state_table)
  built = made p r node_table state_table D.tables.accepted D.tables.links

  table-built : state_table_built (sizes_in (inputs_of p r node_table state_table)) (inputs_of p r node_table state_table)
      ≡ true
  unfolding state_table_built
  table-built = same_list-is (used_state_table z x) _ D.tables.states

  pub built-usable : RuleColoursUsable p r node_table state_table numbers bytes
  built-usable = record {
    accepted = D.tables.accepted;
    links = D.tables.links;
    coloured = D.coloured;
    room = begins-room (state_table_length (node_count p) (state_count r)) state_table _ D.tables.states
        (length-built_states p plan-passes r);
    below = sound-below z x [] [] built table-built;
  }

  -- the number of the checks before 18 is that of 12 to 14
  pub asked-list : first_no (list_checks (node_count p) (label_count r) vs bs)
      ≡ first_no (asked_checks p r (length node_table) (length state_table) (length numbers) (length bytes) vs bs)
  asked-list = usable.asked-list p r node_table state_table numbers bytes vs bs built-usable

  module _ (ok : first_no (list_checks (node_count p) (label_count r) vs bs) ≡ 0) where
    abbrev G : Given
    G = given_of (sizes_in (inputs_of p r node_table state_table)) (inputs_of p r node_table state_table)
        (inputs_of p r node_table state_table) vs bs

    abbrev ms : List ℕ
    ms = roots_left p vs bs

    -- the trials are those of the tree's own colours, and end in the fresh run's state
    record FromRun : Type 0 where
      pub searches : trials_from G (roots_left p vs bs) [] (roots_left p vs bs) ≡ searches_left p r vs bs
      pub state : last_state (tried_parts G (roots_left p vs bs) [] (roots_left p vs bs)) 0 ≡ root_state p r vs bs

    from-run : FromRun
    unfolding given_of roots parts_of question_searches
    from-run =
        let w : ℕ → Bool = λ v. holds v (differing (labels_within p) vs bs) in
        let N = all-trials G (changed_tree p vs bs) (given-run z x vs bs built table-built)
        (rules-inside r (rules-of z x built)) w (changes z x vs bs built w (left-same z x vs bs built)) ms
        (list-members w t) ms [] [] refl refl (λ y k. absurd (Memᴰ.not-nil k))
        (λ y k. absurd (Memᴰ.not-nil k)) refl in
        record { searches = N.searches; state = N.last ∙ whole-state z x vs bs built table-built }

    pub ask-built : (answer : Result RuleAsked Refusal)
        → told answer ≡ rule_ask_answer p r node_table state_table numbers bytes vs bs → RuleColourAnswer p r vs bs answer
    ask-built answer e =
        let U = built-usable in
        let R : FromRun = from-run in
        let small : size t ≤ 65535 = omega (arith, size-plan_tree p plan-passes, plan-passes.most) in
        record {
          is = told-value answer 0 _ (e ∙ usable.ask-usable p r node_table state_table numbers bytes vs bs U ok
              ∙ ap₂ (λ (q : ℕ) (ls : List ℕ). (0, some (answered_with r q ls (length ms)))) R.state R.searches) refl;
          falls = subst (λ (ls : List ℕ). length ls ≤ 60 * one_sided t ms ms) R.searches
              (usable.ask-falls p r node_table state_table numbers bytes vs bs U ok);
          few = links-limit t (searches_left p r vs bs) small (subst (AllLe (3 * digits (height t))) R.searches
              (usable.ask-few p r node_table state_table numbers bytes vs bs U ok));
        }
