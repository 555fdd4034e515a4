-- A rule question by colours where plan, rules, node table and colours are as built and the state table is any bytes below S.
--     asked-list    the checks before 18 are 12 to 14: 17 and 27 pass
--     ask-falls, ask-few   at most 60 drops for each one-sided part, each found by few links
--     ask-usable    the answer is that of the parts' trials, never 18
use Prim.Native.Nat.{ℕ, ◌+◌, ◌*◌, ◌^◌, ◌≤◌, ◌<◌}
use mathlib.Core.Path.{◌≡◌, refl, sym, ap, ◌∙◌}
use mathlib.Core.Bool.{Bool, true}
use mathlib.Core.List.{List, []}
use mathlib.Core.Option.{Option, some}
use native.Mathlib.Omega.{arith}
use lib.ListN.{length, drop, length-drop}
use lib.Seq.{ext_get_or, get_or-take, get_or-drop}
use borrow.Author.Tests.{le-leb, leb-true}
use Rattle.list_laws.specs.Tests.{all_below, holds}
use Rattle.list_laws.proofs.BoolLaws.{and_both}
use Rattle.list_laws.proofs.RowLaws.{stride}
use Rattle.list_laws.proofs.SliceLaws.{length_part}
use Rattle.trees.specs.Tree.{Tree, size, height}
use Rattle.trees.specs.Automaton.{Automaton}
use Rattle.trees.specs.Changes.{changed}
use Rattle.trees.specs.Climb.{and_then, digits}
use Rattle.formats.specs.Plan.{node_count, plan_tree, labels_within}
use Rattle.formats.specs.Rules.{state_count, label_count, rule_automaton}
use Rattle.formats.specs.Checks.{first_no, list_checks, state_table_length}
use Rattle.formats.specs.Inputs.{Inputs, inputs_of, Sizes, sizes_in}
use Rattle.formats.proofs.PlanLaws.{size-plan_tree, labels-plan_tree}
use Rattle.formats.specs.Passing.{PlanPasses, Built}
use Rattle.formats.proofs.InputLaws.{rule-table-passes}
use Rattle.formats.proofs.InputsLaws.{rules-of}
use Rattle.changes.specs.Differing.{differing}
use Rattle.questions.specs.ready.Members.{roots}
use Rattle.questions.specs.ready.Parts.{Given, last_state}
use Rattle.questions.proofs.ready.ListLaws.{list-members}
use Rattle.questions.specs.PartInputs.{given_of}
use Rattle.questions.proofs.PartInputsLaws.{reads}
use Rattle.questions.proofs.FreshLaws.{rules-inside}
use Rattle.questions.proofs.UsableLaws.{lengths, heads, made, settled, roots-are}
use Rattle.colour_tables.specs.ColourCells.{copy_row}
use Rattle.colours.specs.StateSets.{Tried, tried, set_step, set_count, set_copies}
use Rattle.colours.proofs.CopyLaws.{copy-colouring}
use Rattle.colours.proofs.SetLaws.{set_step-below}
use Rattle.colour_tables.specs.rule.Build.{set_numbers_length, set_bytes_length, set_colours_fit, built_set_numbers, built_set_bytes}
use Rattle.colour_tables.proofs.rule.BuildLaws.{length-set_numbers, length-set_bytes}
use Rattle.colour_tables.proofs.rule.ColouredLaws.{coloured-cells, coloured-copies}
use Rattle.colour_questions.specs.parts.OneSided.{one_sided}
use Rattle.colours.specs.Descents.{AllLe}
use Rattle.colour_questions.specs.parts.Part.{ColourView, handled_from}
use Rattle.tables.proofs.CheckAnswers.{begins-room}
use Rattle.colour_questions.proofs.parts.TriesBuilt.{SidesBuilt}
use Rattle.colour_questions.specs.rule.Question.{handled, handled_on, asked_on, lent_colours}
use Rattle.colour_questions.specs.rule.Question.{rule_colours_fit, asked_checks, rule_answer, rule_ask_answer}
use Rattle.colour_questions.specs.rule.Promise.{RuleColoursUsable, roots_left}
use Rattle.colour_questions.specs.rule.Question.{answered_with}
use Rattle.colour_questions.specs.parts.Trials.{tried_parts, trials_from}
use Rattle.colour_questions.proofs.rule.AskChecks.{few-states, then-list}
use Rattle.colour_questions.proofs.rule.AskNumbers.{lent_is}
use Rattle.colour_questions.proofs.rule.PartsUsable.{handled-usable}

module _ (p r node_table state_table numbers bytes vs bs : List ℕ)
    (D : RuleColoursUsable p r node_table state_table numbers bytes) where
  abbrev t : Tree
  t = plan_tree p

  abbrev A : Automaton
  A = rule_automaton r

  plan-passes : PlanPasses p
  plan-passes = (rule-table-passes p r D.accepted).0

  four : state_count r ≤ 4
  four = leb-true (state_count r) 4 D.coloured.few

  -- ---- the checks before 18

  numbers_room : set_numbers_length (node_count p) (state_count r) ≤ length numbers
  numbers_room =
      begins-room _ numbers (built_set_numbers p r) D.coloured.numbers_are
      (length-set_numbers p r plan-passes)

  bytes_room : set_bytes_length (node_count p) (state_count r) ≤ length bytes
  bytes_room = begins-room _ bytes (built_set_bytes p r) D.coloured.bytes_are (length-set_bytes p r
      plan-passes)

  room : set_colours_fit (node_count p) (state_count r) (length numbers) (length bytes) ≡ true
  room =
      and_both _ _ (le-leb _ _ numbers_room) (le-leb _ _ bytes_room)

  fit : rule_colours_fit p r (length node_table) (length state_table) (length numbers) (length bytes) ≡ true
  fit =
      sym (few-states p r (length node_table) (length state_table) (length numbers) (length bytes)
      (heads p r node_table state_table D.accepted D.links) (node_count p) (state_count r) (label_count r)
      refl refl refl (lengths p r node_table state_table D.accepted D.links D.room) four)
      ∙ room

  -- the number of the checks before 18 is that of 12 to 14
  pub asked-list : first_no (list_checks (node_count p) (label_count r) vs bs)
      ≡ first_no (asked_checks p r (length node_table) (length state_table) (length numbers) (length bytes) vs bs)
  asked-list =
      then-list p r (length node_table) (length state_table) (length numbers) (length bytes) vs bs fit
      (state_count r) refl (node_count p) (label_count r) refl refl four

  module _ (ok : first_no (list_checks (node_count p) (label_count r) vs bs) ≡ 0) where
    asked-built : first_no (asked_checks p r (length node_table) (length state_table) (length numbers) (length bytes) vs bs)
        ≡ 0
    asked-built = sym asked-list ∙ ok

    -- ---- the inputs

    abbrev x : Inputs
    x = inputs_of p r node_table state_table

    abbrev z : Sizes
    z = sizes_in (inputs_of p r node_table state_table)

    built : Built (sizes_in (inputs_of p r node_table state_table)) (inputs_of p r node_table state_table)
    built = made p r node_table state_table D.accepted D.links

    abbrev G : Given
    G = given_of (sizes_in (inputs_of p r node_table state_table)) (inputs_of p r node_table state_table)
        (inputs_of p r node_table state_table) vs bs

    abbrev L : ColourView
    L = lent_colours p r node_table state_table numbers bytes

    copies-are : (v : ℕ) → v < size (plan_tree p)
        → copy_row (2 ^ state_count r) (drop (state_table_length (node_count p) (state_count r)) bytes) v
        ≡ set_copies (rule_automaton r) (plan_tree p) v
    copies-are v h =
        let m : ℕ = 2 ^ state_count r in
        let base : ℕ = state_table_length (node_count p) (state_count r) in
        let rest : List ℕ = drop base bytes in
        let hv : v < node_count p = omega (arith, h, size-plan_tree p plan-passes) in
        let long : length (copy_row m rest v) ≡ m =
        length_part rest (v * m) m (omega (arith, stride m v (node_count p) hv, bytes_room, length-drop base bytes)) in
        let own : length (set_copies A t v) ≡ m = (copy-colouring (set_count A) (set_step A t) t (set_step-below A t) v
        ).count
        in
        ext_get_or 0 (copy_row m rest v) (set_copies A t v) (long ∙ sym own) (λ c l.
        get_or-take m (drop (v * m) rest) c 0 (omega (arith, l, long))
        ∙ get_or-drop (v * m) rest c 0
        ∙ get_or-drop base bytes (v * m + c) 0
        ∙ coloured-copies p r numbers bytes D.coloured v c hv (omega (arith, l, long)))

    sides : SidesBuilt (rule_automaton r) (plan_tree p) numbers
        (copy_row (2 ^ state_count r) (drop (state_table_length (node_count p) (state_count r)) bytes))
    sides = record { cells = coloured-cells p r numbers bytes D.coloured; copies = copies-are }

    -- ---- the answer

    record Whole : Type 0 where
      pub found : handled_from (lent_colours p r node_table state_table numbers bytes) vs bs [] [] (tried 0 []) (roots_left p vs bs)
          ≡ some (tried (last_state (tried_parts G (roots_left p vs bs) [] (roots_left p vs bs)) 0)
          (trials_from G (roots_left p vs bs) [] (roots_left p vs bs)))
      pub falls : length (trials_from G (roots_left p vs bs) [] (roots_left p vs bs))
          ≤ 60 * one_sided (plan_tree p) (roots_left p vs bs) (roots_left p vs bs)
      pub few : AllLe (3 * digits (height (plan_tree p))) (trials_from G (roots_left p vs bs) [] (roots_left p vs bs))

    whole : Whole
    unfolding given_of roots all_below last_state
    whole =
        let w : ℕ → Bool = λ v. holds v (differing (labels_within p) vs bs) in
        let N = handled-usable L G
        (reads z x vs bs x (settled p r node_table state_table D.accepted D.links vs bs ok D.room D.below))
        (rules-inside r (rules-of z x built)) four sides w
        (roots_left p vs bs) (list-members w t) vs bs
        (ap (λ (ls : List ℕ). changed ls vs bs) (sym (labels-plan_tree p plan-passes)))
        (omega (arith, (rule-table-passes p r D.accepted).1.states-least)) (roots_left p vs bs) []
        (tried 0 []) refl refl refl in
        record { found = N.found; falls = N.falls; few = N.few }

    pub ask-falls : length (trials_from G (roots_left p vs bs) [] (roots_left p vs bs))
        ≤ 60 * one_sided (plan_tree p) (roots_left p vs bs) (roots_left p vs bs)
    ask-falls = whole.falls

    pub ask-few : AllLe (3 * digits (height (plan_tree p))) (trials_from G (roots_left p vs bs) [] (roots_left p vs bs))
    ask-few = whole.few

    on-usable : asked_on p r node_table state_table numbers bytes vs bs
        ≡ some (handled (tried (last_state (tried_parts G (roots_left p vs bs) [] (roots_left p vs bs)) 0)
        (trials_from G (roots_left p vs bs) [] (roots_left p vs bs))) (length (roots_left p vs bs)))
    unfolding handled_on
    on-usable =
        ap (λ (o : Option (List ℕ)). and_then o (λ ms.
        and_then (handled_from L vs bs [] [] (tried 0 []) ms) (λ y. some (handled y (length ms)))))
        (roots-are p r node_table state_table D.accepted D.links vs bs ok)
        ∙ ap (λ (o : Option Tried). and_then o (λ y. some (handled y (length (roots_left p vs bs))))) whole.found

    pub ask-usable : rule_ask_answer p r node_table state_table numbers bytes vs bs
        ≡ (
          0,
          some (answered_with r (last_state (tried_parts G (roots_left p vs bs) [] (roots_left p vs bs)) 0)
              (trials_from G (roots_left p vs bs) [] (roots_left p vs bs)) (length (roots_left p vs bs))),
        )
    unfolding rule_answer
    ask-usable =
        sym (lent_is p r node_table state_table numbers bytes vs bs _ asked-built refl) ∙ ap (rule_answer r 0) on-usable
