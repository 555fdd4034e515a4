-- Document 02, S-14: rule questions by colours, over sets of states.
--     set-numbers, step_down   sets of states by their numbers, and a step down
--     targets, side-tried      a part with members below one child only: the state its climb gives, by trying target
--                              states in rising order, with at most 60 drops
--     sets-built, sets-refused what the build for a rule table writes, and that a refused one alters nothing
--     sets-27, sets-short      27 after 9, 11 where the tables of colours are too short
--     run-answers              on tables as built a question's answer is the fresh run's of the changed plan, its drops
--                              those of the tree's own trials, at most 60 for each one-sided part, with at most 45
--                              links each
--     sets-never-18            18 never comes on tables as built
--     sets-on-run-states       on any run states below S: what the parts by their trials give on those bytes
--     sets-named, sets-state, sets-cause-of-18   what holds on any tables
--     sets-short-asked, sets-27-asked   17 where the tables of colours are too short for a question, then 27
--     sets-sample              the build accepts the sample's plan and table
--     sets-from-builds, sets-answered   what the two builds leave is as built, and questions on it are answered
-- Colours of any count of states, words and the next drop: Colours. The promises of the calls themselves, on every
-- input, are their contracts (capi_colours/rule_calls).
use Prim.Native.Nat.{ℕ, ◌+◌, ◌*◌, ◌≤◌, ◌<◌}
use mathlib.Core.Path.{◌≡◌, refl, sym, ap, ◌∙◌, subst}
use mathlib.Core.Bool.{Bool, true, false}
use mathlib.Core.List.{List, ◌++◌}
use mathlib.Core.Option.{Option}
use native.Mathlib.Omega.{arith}
use lib.ListN.{length, drop}
use Rattle.std.specs.Prelude.{Result, Ok}
use borrow.Author.Tests.{lt-leb, leb-true}
use Rattle.list_laws.specs.Tests.{all_below, holds}
use Rattle.trees.specs.Tree.{Tree, size}
use Rattle.trees.specs.Automaton.{Automaton}
use Rattle.trees.specs.Postorder.{is_postorder}
use Rattle.trees.specs.Numbering.{depth, ancestor, InSubtree}
use Rattle.trees.specs.Tables.{step_up}
use Rattle.formats.specs.Plan.{node_count, plan_tree, labels_within}
use Rattle.formats.specs.Rules.{state_count, label_count, rule_automaton}
use Rattle.formats.specs.Checks.{first_no, plan_checks, rule_checks, list_checks}
use Rattle.formats.specs.Refusals.{answer_number}
use Rattle.formats.specs.declared.refusals.Refusal.{Refusal}
use Rattle.formats.proofs.CheckLaws.{first_no-yes, first_no-no}
use Rattle.formats.proofs.InputLaws.{rule-table-passes}
use Rattle.formats.proofs.PlanLaws.{labels-part}
use Rattle.changes.specs.Differing.{differing}
use Rattle.runs.specs.FreshRun.{changed_tree}
use Rattle.questions.specs.ready.Parts.{Given, Part, state_of, highest_below}
use Rattle.questions.specs.ready.Members.{roots}
use Rattle.questions.specs.ready.StaysInside.{StaysInside}
use Rattle.questions.proofs.ready.ListLaws.{list-members}
use Rattle.questions.proofs.ready.PartsRun.{Members}
use Rattle.questions.specs.ready.RunGiven.{RunGiven}
use Rattle.questions.proofs.FreshLaws.{rules-inside}
use Rattle.reference.specs.Sample.{plan_a, table_a}
use Rattle.colours.specs.StateSets.{set_of, member, set_step}
use Rattle.colours.proofs.BitLaws.{member-set_of}
use Rattle.colours.proofs.SetLaws.{set_step-down}
use Rattle.colours.proofs.Theorems.{set-targets}
use Rattle.colours.specs.Answers.{SetAnswer}
use Rattle.colour_questions.specs.parts.Searches.{question_searches}
use Rattle.colour_questions.specs.parts.Sides.{SideFound}
use Rattle.colour_questions.proofs.parts.SideLaws.{side-found}
use Rattle.colour_tables.specs.rule.Build.{set_colours_fit, rule_colour_checks, built_set_numbers, built_set_bytes}
use Rattle.colour_tables.proofs.rule.CheckAnswers.{states-refused, room-refused}
use Rattle.colour_questions.specs.declared.rule.answers.RuleAsked.{RuleAsked}
use Rattle.colour_questions.specs.rule.OutOfRange.{RuleColoursOutOfRange}
use Rattle.colour_questions.specs.rule.Question.{rule_colours_fit, asked_checks, rule_ask_checks, rule_ask_number}
use Rattle.colour_questions.specs.rule.Question.{lent_colours, rule_ask_answer}
use Rattle.colour_questions.specs.rule.Promise.{RuleColoursBuilt, RuleColoursUsable, roots_left, state_kept, links_kept}
use Rattle.capi.specs.numbers.Numbers.{bit_of, on_answer}
use Rattle.capi.proofs.table_calls.Theorems.{build-as-built}
use Rattle.capi_colours.specs.rule_calls.RuleExported.{RuleExported, end_of, accepted_of, drops_of, links_of, parts_of}
use Rattle.capi_colours.proofs.rule_calls.BuildTheorems.{rule-build-number, rule-build-writes, rule-build-coloured}
use Rattle.capi_colours.proofs.rule_calls.BuildTheorems.{rule-build-refused}
use Rattle.capi_colours.specs.rule_calls.RuleExported.{RunAnswered}
use Rattle.capi_colours.proofs.rule_calls.Theorems.{rule-descent-answers, rule-descent-built}
use Rattle.claims.specs.CallAnswers.{BuildCall, ColourBuildCall}
use Rattle.claims.specs.ColourAnswers.{RuleColourAnswered, RuleTrialsAnswered}
use Rattle.claims.proofs.ColourLaws.{part-sixty, all-drops}
use Rattle.claims.proofs.laws.ToldLaws.{number-told, value-there}

-- ---- sets of states

-- "sets of states, numbered by adding 2 to the power k for each member k"
set-numbers : (n : ℕ) (p : ℕ → Bool) (k : ℕ) → k < n → member (set_of n p) k ≡ p k
set-numbers = member-set_of

-- "a step down takes a set to the states at the child that lead into it"
step_down : (A : Automaton) (t : Tree) (v T : ℕ) → v + 1 < size t → (s : ℕ) → s < A.states
    → member (set_step A t v T) s ≡ member T (step_up A t v s)
step_down A t v T h s b =
    ap (λ (x : ℕ). member x s) (set_step-down A t v T h) ∙ member-set_of A.states (λ q. member T (step_up A t v q)) s b

-- "where a part has members below one child only, the state its climb gives is found by trying target states in rising
-- order up to it, and the drops add up to at most 60 for each such part"
targets : (A : Automaton) (t : Tree) → ((p a q : ℕ) → A.δ p a q < A.states) → A.states ≤ 4 → (c w k q : ℕ)
    → w < size t → k ≤ depth t w → ancestor t w k ≡ c → q < A.states → SetAnswer A t c w k q
targets = set-targets

side-tried : (G : Given) (u : Tree) → RunGiven G u → StaysInside G.automaton → G.automaton.states ≤ 4
    → (ms : List ℕ) (ps : List Part) (c : ℕ) → c < size G.tree → highest_below ms G.tree c < size G.tree
    → InSubtree G.tree c (highest_below ms G.tree c)
    → state_of ps (highest_below ms G.tree c) < G.automaton.states → SideFound G ms ps c
side-tried = side-found

-- ---- the build for a rule table

module _ (p r numbers bytes : List ℕ) (n : ℕ) (numbers' bytes' : List ℕ)
    (E : ColourBuildCall p r numbers bytes n numbers' bytes') where
  sets-built : n ≡ 0
      → (numbers' ≡ built_set_numbers p r ++ drop (length (built_set_numbers p r)) numbers)
      × (bytes' ≡ built_set_bytes p r ++ drop (length (built_set_bytes p r)) bytes)
  sets-built = rule-build-writes p r numbers bytes n numbers' bytes' E

  sets-refused : (n ≡ 0 → ⊥) → (numbers' ≡ numbers) × (bytes' ≡ bytes)
  sets-refused = rule-build-refused p r numbers bytes n numbers' bytes' E

  module _ (plan : first_no (plan_checks p) ≡ 0) (rules : first_no (rule_checks r) ≡ 0) where
    -- "A rule table with S above 4 gives 27, after 9 in the build"
    sets-27 : 4 < state_count r → n ≡ 27
    sets-27 h =
        rule-build-number p r numbers bytes n numbers' bytes' E
        ∙ sym (states-refused p r (length numbers) (length bytes) plan rules (node_count p) (state_count r) (label_count r)
        refl refl refl h)

    -- "a short one gives 11 in the build"
    sets-short : state_count r ≤ 4 → all_below (label_count r) (labels_within p) ≡ true
        → set_colours_fit (node_count p) (state_count r) (length numbers) (length bytes) ≡ false → n ≡ 11
    sets-short h low short =
        rule-build-number p r numbers bytes n numbers' bytes' E
        ∙ sym (room-refused p r (length numbers) (length bytes) plan rules (node_count p) (state_count r) (label_count r)
        refl refl refl h true
        (sym (ap (all_below (label_count r)) (labels-part p (node_count p) refl) ∙ low)) refl false (sym short) refl)

-- ---- the question: whatif_colour_ask

module _ (p r node_table state_table numbers bytes vs bs : List ℕ) (n s₀ y₀ d₀ k₀ m₀ s₁ y₁ d₁ k₁ m₁ : ℕ)
    (E : RuleExported p r node_table state_table numbers bytes vs bs n s₀ y₀ d₀ k₀ m₀ s₁ y₁ d₁ k₁ m₁) where
  -- ---- on tables as built

  module _ (D : RuleColoursBuilt p r node_table state_table numbers bytes) where
    -- "On tables as built from what is lent" "the same goes top down over sets of states": the fresh run's state and
    -- mark of the changed plan and the session's parts; the drops of the tree's own trials, at most 60 for each part
    -- with members below one child only; the links of their searches, at most 45 each
    pub run-answers : first_no (list_checks (node_count p) (label_count r) vs bs) ≡ 0
        → RuleColourAnswered p r vs bs n s₁ y₁ d₁ k₁ m₁
    unfolding question_searches roots
    run-answers c =
        let W : RunAnswered p r vs bs n s₁ y₁ d₁ k₁ m₁ =
        rule-descent-answers p r node_table state_table numbers bytes vs bs n s₀ y₀ d₀ k₀ m₀ s₁ y₁ d₁ k₁ m₁ E D c in
        let ms : List ℕ = roots_left p vs bs in
        let M : Members (λ x. holds x (differing (labels_within p) vs bs)) (plan_tree p) ms =
        list-members (λ x. holds x (differing (labels_within p) vs bs)) (plan_tree p) in
        let S : StaysInside (rule_automaton r) = rules-inside r (rule-table-passes p r D.tables.accepted).1 in
        let four : state_count r ≤ 4 = leb-true (state_count r) 4 D.coloured.few in
        record {
          accepted = W.accepted;
          state_is = W.state;
          yes_is = W.yes;
          parts_are = W.parts;
          drops_are = W.drops_are
              ∙ all-drops (rule_automaton r) (plan_tree p) (changed_tree p vs bs) S four ms M.rising M.inside ms
              (λ v k. k);
          each = part-sixty (rule_automaton r) (plan_tree p) (changed_tree p vs bs) S four ms M.rising M.inside;
          searched = W.drops_are;
          links_are = W.links_are;
          few = (E.done.built D c).few;
        }

    sets-never-18 : n ≡ 18 → ⊥
    sets-never-18 =
        rule-descent-built p r node_table state_table numbers bytes vs bs n s₀ y₀ d₀ k₀ m₀ s₁ y₁ d₁ k₁ m₁ E D

  -- ---- on any tables

  -- the run states are read (document 01: "stores and counts what this rule gives on those bytes"): where the colours
  -- are as built and the run states any bytes below S, the answer is what the parts by their trials give on those
  -- bytes
  sets-on-run-states : RuleColoursUsable p r node_table state_table numbers bytes
      → first_no (list_checks (node_count p) (label_count r) vs bs) ≡ 0
      → RuleTrialsAnswered p r node_table state_table vs bs n s₁ y₁ d₁ k₁ m₁
  sets-on-run-states U c =
      let i = E.done.usable U c in
      let s = E.number.state_answer ∙ ap (λ (x : Result RuleAsked Refusal). end_of x s₀) i in
      record {
        accepted = E.number.result ∙ ap answer_number i;
        state_is = s;
        yes_is = E.number.yes_answer ∙ ap (λ (x : Result RuleAsked Refusal). accepted_of x y₀) i
            ∙ ap (λ (q : ℕ). bit_of ((rule_automaton r).accepting q)) (sym s);
        parts_are = E.number.parts_answer ∙ ap (λ (x : Result RuleAsked Refusal). parts_of x m₀) i;
        drops_are = E.number.drops_answer ∙ ap (λ (x : Result RuleAsked Refusal). drops_of x d₀) i;
        links_are = E.number.links_answer ∙ ap (λ (x : Result RuleAsked Refusal). links_of x k₀) i;
      }

  -- "For anything left to the program, its name and its properties stand in the contract": the name is `rule_ask_answer`
  sets-named : (n ≡ (rule_ask_answer p r node_table state_table numbers bytes vs bs).0)
      × (s₁ ≡ on_answer (rule_ask_answer p r node_table state_table numbers bytes vs bs).1 (λ a. a.state) s₀)
      × (y₁ ≡ on_answer (rule_ask_answer p r node_table state_table numbers bytes vs bs).1 (λ a. bit_of a.marked) y₀)
      × (d₁ ≡ on_answer (rule_ask_answer p r node_table state_table numbers bytes vs bs).1 (λ a. a.drops) d₀)
      × (k₁ ≡ on_answer (rule_ask_answer p r node_table state_table numbers bytes vs bs).1 (λ a. a.links) k₀)
      × (m₁ ≡ on_answer (rule_ask_answer p r node_table state_table numbers bytes vs bs).1 (λ a. a.parts) m₀)
  sets-named =
      let i = E.done.result in (
        E.number.result ∙ number-told E.answer ∙ ap (λ (t : ℕ × Option RuleAsked). t.0) i,
        E.number.state_answer ∙ ap (λ (t : ℕ × Option RuleAsked). on_answer t.1 (λ a. a.state) s₀) i,
        E.number.yes_answer ∙ ap (λ (t : ℕ × Option RuleAsked). on_answer t.1 (λ a. bit_of a.marked) y₀) i,
        E.number.drops_answer ∙ ap (λ (t : ℕ × Option RuleAsked). on_answer t.1 (λ a. a.drops) d₀) i,
        E.number.links_answer ∙ ap (λ (t : ℕ × Option RuleAsked). on_answer t.1 (λ a. a.links) k₀) i,
        E.number.parts_answer ∙ ap (λ (t : ℕ × Option RuleAsked). on_answer t.1 (λ a. a.parts) m₀) i,
      )

  -- an accepted answer's state is a state, yes is its mark, and its drops are at most 60 for each part
  sets-state : n ≡ 0 → (s₁ < state_count r) × (y₁ ≡ bit_of ((rule_automaton r).accepting s₁)) × (d₁ ≤ m₁ * 60)
      × (k₁ ≤ d₁ * 65535)
  sets-state z =
      let w = value-there E.answer (sym E.number.result ∙ z) in
      let a : RuleAsked = w.0 in
      let K : state_kept r (Ok a) = subst (state_kept r) w.1 E.done.properties in
      let L : links_kept (Ok a) = subst links_kept w.1 E.done.few in
      let s : s₁ ≡ a.state = E.number.state_answer ∙ ap (λ (x : Result RuleAsked Refusal). end_of x s₀) w.1 in
      let d : d₁ ≡ a.drops = E.number.drops_answer ∙ ap (λ (x : Result RuleAsked Refusal). drops_of x d₀) w.1 in
      let k : k₁ ≡ a.links = E.number.links_answer ∙ ap (λ (x : Result RuleAsked Refusal). links_of x k₀) w.1 in
      let m : m₁ ≡ a.parts = E.number.parts_answer ∙ ap (λ (x : Result RuleAsked Refusal). parts_of x m₀) w.1 in (
        rw s K.0,
        E.number.yes_answer ∙ ap (λ (x : Result RuleAsked Refusal). accepted_of x y₀) w.1 ∙ ap bit_of K.1
            ∙ ap (λ (q : ℕ). bit_of ((rule_automaton r).accepting q)) (sym s),
        omega (arith, d, m, L.0),
        omega (arith, d, k, L.1),
      )

  -- "18 means that a value read leads outside the plan, the states or the labels, or a climb doesn't rise.": or that no
  -- target state is found
  sets-cause-of-18 : n ≡ 18 → RuleColoursOutOfRange (lent_colours p r node_table state_table numbers bytes) vs bs
  sets-cause-of-18 e = E.done.out_of_range (sym E.number.result ∙ e)

  -- "a short one gives .. 17 in a question"
  sets-short-asked :
      rule_colours_fit p r (length node_table) (length state_table) (length numbers) (length bytes) ≡ false → n ≡ 17
  unfolding rule_ask_number rule_ask_checks asked_checks
  sets-short-asked short = E.number.result ∙ E.done.number ∙ first_no-no 17 _ _ short

  -- "A rule table with S above 4 gives 27, .. after 17 in a question, which goes on with 12 to 14 and 18"
  sets-27-asked :
      rule_colours_fit p r (length node_table) (length state_table) (length numbers) (length bytes) ≡ true
      → 4 < state_count r → n ≡ 27
  unfolding rule_ask_number rule_ask_checks asked_checks
  sets-27-asked fit h =
      E.number.result ∙ E.done.number ∙ first_no-yes 17 _ _ fit ∙ first_no-no 27 _ _ (lt-leb (state_count r) 4 h)

-- ---- both builds, then questions

-- the sample's plan and table (document 01) are accepted by the build with 112 numbers and 49 bytes, and with no fewer
sets-sample : (first_no (rule_colour_checks plan_a table_a 112 49) ≡ 0)
    × (first_no (rule_colour_checks plan_a table_a 111 49) ≡ 11)
    × (first_no (rule_colour_checks plan_a table_a 112 48) ≡ 11)
unfolding plan_a table_a rule_colour_checks plan_checks rule_checks first_no all_below is_postorder
sets-sample = (refl, refl, refl)

-- what the two builds leave is as built ..
sets-from-builds : (p r x y x' y' numbers bytes numbers' bytes' : List ℕ) → BuildCall p r x y 0 x' y'
    → ColourBuildCall p r numbers bytes 0 numbers' bytes' → RuleColoursBuilt p r x' y' numbers' bytes'
sets-from-builds p r x y x' y' numbers bytes numbers' bytes' E F = record {
  tables = build-as-built p r x y 0 x' y' E refl;
  coloured = rule-build-coloured p r numbers bytes 0 numbers' bytes' F refl;
}

-- .. so that every list that passes 12 to 14 is answered on it
sets-answered : (p r x y x' y' numbers bytes numbers' bytes' : List ℕ) → BuildCall p r x y 0 x' y'
    → ColourBuildCall p r numbers bytes 0 numbers' bytes'
    → (vs bs : List ℕ) (n s₀ y₀ d₀ k₀ m₀ s₁ y₁ d₁ k₁ m₁ : ℕ)
    → RuleExported p r x' y' numbers' bytes' vs bs n s₀ y₀ d₀ k₀ m₀ s₁ y₁ d₁ k₁ m₁
    → first_no (list_checks (node_count p) (label_count r) vs bs) ≡ 0
    → RuleColourAnswered p r vs bs n s₁ y₁ d₁ k₁ m₁
sets-answered p r x y x' y' numbers bytes numbers' bytes' B C vs bs n s₀ y₀ d₀ k₀ m₀ s₁ y₁ d₁ k₁ m₁ E =
    run-answers p r x' y' numbers' bytes' vs bs n s₀ y₀ d₀ k₀ m₀ s₁ y₁ d₁ k₁ m₁ E
    (sets-from-builds p r x y x' y' numbers bytes numbers' bytes' B C)
