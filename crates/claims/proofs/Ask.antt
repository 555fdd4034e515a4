-- Whole questions in one call, outside the session, over the promise of whatif_ask.
--     ask-answers           on tables as built: the fresh run's answer of the changed plan, with the parts, links and
--                           nodes passed over of the tree
--     ask-as-session        and those are what the session answers of the same question: Start's parts, and Read
--     ask-after-build       what a build leaves is as built, so every list that passes 12 to 14 is answered on it
--     ask-never-18          18 never comes on tables as built
--     ask-on-states         on any run states and maps below S: what the parts by the rule give on those bytes
--     ask-named, ask-promised, ask-cause-of-18   what holds on any tables
--     ask-short             17 where a buffer does not fit the headers
--     ask-sample            the sample clearance
-- The numbers 17, 12, 13, 14, 18 and that a refused call alters nothing: Calls.
use Prim.Native.Nat.{ℕ}
use mathlib.Core.Path.{◌≡◌, refl, sym, ap, ap₂, ◌∙◌, subst}
use mathlib.Core.Bool.{true, false}
use mathlib.Core.List.{List, [], ◌∷◌}
use mathlib.Core.Option.{Option}
use lib.ListN.{length}
use Rattle.std.specs.Prelude.{Ok}
use Rattle.formats.specs.Plan.{node_count}
use Rattle.formats.specs.Rules.{label_count, rule_automaton}
use Rattle.formats.specs.Checks.{first_no, list_checks}
use Rattle.formats.specs.Buffers.{limits_fit, buffers_fit, headers_fit, headed_buffers_fit, rule_tables}
use Rattle.formats.specs.Built.{AsBuilt}
use Rattle.formats.specs.Inputs.{inputs_of, Sizes}
use Rattle.formats.proofs.CheckLaws.{first_no-no}
use Rattle.runs.specs.FreshRun.{root_state, root_accepted}
use Rattle.tables.specs.Climbs.{reached}
use Rattle.changes.specs.inner.LastDiffering.{last_differing}
use Rattle.questions.specs.OutOfRange.{PartOutOfRange}
use Rattle.questions.specs.Search.{next_unless, search_in, search, meet_on}
use Rattle.questions.specs.Roots.{insert_rising, rising_of, wanted, with_fork, with_meet, forks_on, roots_on}
use Rattle.questions.specs.RootsAnswers.{roots_fit, roots_given}
use Rattle.model.specs.Calls.{Call, Answer, outcome_answer}
use Rattle.reference.specs.Reference.{asked, fresh_answer}
use Rattle.reference.specs.Undisturbed.{Undisturbed, OnlyOutcomeAfter}
use Rattle.reference.specs.Outcomes.{QuestionAnswered}
use Rattle.reference.specs.Sample.{computing, plan_a, table_a, inputs_a}
use Rattle.whole_questions.specs.declared.answers.Asked.{Asked}
use Rattle.whole_questions.specs.Question.{view_lent, left_lent, handled_from, whole_on}
use Rattle.whole_questions.specs.Question.{listed_checks, ask_checks, ask_number}
use Rattle.whole_questions.specs.Question.{answer_for, ask_answer}
use Rattle.whole_questions.specs.Promise.{AskUsable, roots_left, TotalKept, AskKept}
use Rattle.whole_questions.proofs.AskBuilt.{built-usable}
use Rattle.capi.specs.numbers.Numbers.{bit_of, on_answer}
use Rattle.capi.proofs.table_calls.Theorems.{build-as-built}
use Rattle.capi_ask.specs.WholeExported.{WholeExported}
use Rattle.capi_ask.specs.AskAnswers.{AskAnswered, AskRuled}
use Rattle.capi_ask.proofs.Theorems.{whole_of, whole-answers, whole-ruled, whole-never-18}
use Rattle.claims.specs.CallAnswers.{BuildCall}
use Rattle.claims.specs.AskSample.{ask_a, answered_a, refused_a}
use Rattle.claims.proofs.laws.ToldLaws.{number-told, value-there}

module _ (p r node_table state_table vs bs : List ℕ) (n s₀ y₀ m₀ k₀ d₀ s₁ y₁ m₁ k₁ d₁ : ℕ)
    (E : WholeExported p r node_table state_table vs bs n s₀ y₀ m₀ k₀ d₀ s₁ y₁ m₁ k₁ d₁) where
  -- ---- on tables as built

  module _ (B : AsBuilt p r node_table state_table) where
    -- demand 2: "On tables as built, a finished answer is the automaton's run on the changed plan"; with "the parts, and
    -- as links the moves of its parts' climbs", and "the total over their climbs" (document 02, S-7)
    pub ask-answers : first_no (list_checks (node_count p) (label_count r) vs bs) ≡ 0
        → AskAnswered p r vs bs n s₁ y₁ m₁ k₁ d₁
    ask-answers = whole-answers p r node_table state_table vs bs n s₀ y₀ m₀ k₀ d₀ s₁ y₁ m₁ k₁ d₁ E B

    as_read : first_no (list_checks (node_count p) (label_count r) vs bs) ≡ 0
        → outcome_answer s₁ ((rule_automaton r).accepting s₁) m₁ k₁ d₁
        ≡ fresh_answer (asked (inputs_of p r node_table state_table) vs bs)
    unfolding fresh_answer
    as_read ok =
        let W = ask-answers ok in
        ap (λ (q : ℕ). outcome_answer q ((rule_automaton r).accepting q) m₁ k₁ d₁) W.state_is
        ∙ ap (λ (m : ℕ). outcome_answer (root_state p r vs bs) (root_accepted p r vs bs) m k₁ d₁) W.parts_are
        ∙ ap₂ (λ (k d : ℕ). outcome_answer (root_state p r vs bs) (root_accepted p r vs bs) (length (roots_left p vs bs)) k d)
        W.links_are W.passed_are

    -- of a question that the session's Start accepted with these inputs and this list, and that was undisturbed: the
    -- parts are Start's, and what Read returns once it is finished has this state, yes or no, parts, links and nodes
    -- passed over
    ask-as-session : first_no (list_checks (node_count p) (label_count r) vs bs) ≡ 0 → (z : Sizes) (m : ℕ) (ds : List Call)
        (ys : List Answer) → QuestionAnswered z (inputs_of p r node_table state_table) vs bs m ds ys
        → Undisturbed z (inputs_of p r node_table state_table) ds ys
        → (m ≡ m₁) × OnlyOutcomeAfter (outcome_answer s₁ ((rule_automaton r).accepting s₁) m₁ k₁ d₁) ys
    ask-as-session ok z m ds ys Q U = (
      (Q.outcomes U).parts_are ∙ sym (ask-answers ok).parts_are,
      subst (λ (a : Answer). OnlyOutcomeAfter a ys) (sym (as_read ok)) (Q.outcomes U).only,
    )

    -- "It is never given on tables as built from the plan and rules lent"
    ask-never-18 : n ≡ 18 → ⊥
    ask-never-18 =
        whole-never-18 p r node_table state_table vs bs n s₀ y₀ m₀ k₀ d₀ s₁ y₁ m₁ k₁ d₁ E
        (built-usable p r node_table state_table vs bs B)

  -- ---- on tables whose run states and maps are any bytes below S

  -- "an advance goes on as always and stores and counts what this rule gives on those bytes": so does the whole question
  ask-on-states : AskUsable p r node_table state_table → first_no (list_checks (node_count p) (label_count r) vs bs) ≡ 0
      → AskRuled p r node_table state_table vs bs n s₁ y₁ m₁ k₁ d₁
  ask-on-states = whole-ruled p r node_table state_table vs bs n s₀ y₀ m₀ k₀ d₀ s₁ y₁ m₁ k₁ d₁ E

  -- ---- on any tables

  -- "For anything left to the program, its name and its properties stand in the contract": the name is `ask_answer`
  ask-named : (n ≡ (ask_answer p r node_table state_table vs bs).0)
      × (s₁ ≡ on_answer (ask_answer p r node_table state_table vs bs).1 (λ a. a.state) s₀)
      × (y₁ ≡ on_answer (ask_answer p r node_table state_table vs bs).1 (λ a. bit_of a.marked) y₀)
      × (m₁ ≡ on_answer (ask_answer p r node_table state_table vs bs).1 (λ a. a.parts) m₀)
      × (k₁ ≡ on_answer (ask_answer p r node_table state_table vs bs).1 (λ a. a.links) k₀)
      × (d₁ ≡ on_answer (ask_answer p r node_table state_table vs bs).1 (λ a. a.passed) d₀)
  ask-named =
      let i = E.done.result in (
        E.number.result ∙ number-told E.answer ∙ ap (λ (t : ℕ × Option Asked). t.0) i,
        E.number.state_answer ∙ ap (λ (t : ℕ × Option Asked). on_answer t.1 (λ a. a.state) s₀) i,
        E.number.yes_answer ∙ ap (λ (t : ℕ × Option Asked). on_answer t.1 (λ a. bit_of a.marked) y₀) i,
        E.number.parts_answer ∙ ap (λ (t : ℕ × Option Asked). on_answer t.1 (λ a. a.parts) m₀) i,
        E.number.links_answer ∙ ap (λ (t : ℕ × Option Asked). on_answer t.1 (λ a. a.links) k₀) i,
        E.number.passed_answer ∙ ap (λ (t : ℕ × Option Asked). on_answer t.1 (λ a. a.passed) d₀) i,
      )

  -- an accepted answer's state is a state and yes its mark; its parts are at most 4m - 2, and each adds the links of one
  -- climb, which passes over no fewer nodes and no more than the greatest depth in the table
  ask-promised : n ≡ 0 → (y₁ ≡ bit_of ((rule_automaton r).accepting s₁))
      × TotalKept (view_lent p r node_table state_table) (length (left_lent p vs bs)) m₁ (reached s₁ k₁ d₁)
  ask-promised e =
      let w = value-there E.answer (sym E.number.result ∙ e) in
      let K : AskKept p r node_table state_table vs bs (Ok w.0) =
      subst (AskKept p r node_table state_table vs bs) w.1 E.done.properties in
      let v = whole_of p r node_table state_table vs bs n s₀ y₀ m₀ k₀ d₀ s₁ y₁ m₁ k₁ d₁ E (Ok w.0) w.1 in (
        v.2 ∙ ap bit_of K.0 ∙ ap (λ (q : ℕ). bit_of ((rule_automaton r).accepting q)) (sym v.1),
        rw (v.1, v.3, v.4, v.5) K.1,
      )

  -- "18 means that a value read leads outside the plan, the states or the labels, or a climb doesn't rise."
  ask-cause-of-18 : n ≡ 18 → PartOutOfRange (view_lent p r node_table state_table) [] vs bs
  ask-cause-of-18 e = E.done.out_of_range (sym E.number.result ∙ e)

  -- "A branch question takes N, S and K from the lent headers: 17, also for a header cut short or a number outside its
  -- limits": as there
  ask-short : headed_buffers_fit rule_tables p r (length node_table) (length state_table) ≡ false → n ≡ 17
  unfolding ask_number ask_checks listed_checks
  ask-short short = E.number.result ∙ E.done.number ∙ first_no-no 17 _ _ short

-- ---- a build, then questions

ask-after-build : (p r x y x' y' : List ℕ) → BuildCall p r x y 0 x' y'
    → (vs bs : List ℕ) (n s₀ y₀ m₀ k₀ d₀ s₁ y₁ m₁ k₁ d₁ : ℕ)
    → WholeExported p r x' y' vs bs n s₀ y₀ m₀ k₀ d₀ s₁ y₁ m₁ k₁ d₁
    → first_no (list_checks (node_count p) (label_count r) vs bs) ≡ 0 → AskAnswered p r vs bs n s₁ y₁ m₁ k₁ d₁
ask-after-build p r x y x' y' C vs bs n s₀ y₀ m₀ k₀ d₀ s₁ y₁ m₁ k₁ d₁ E =
    ask-answers p r x' y' vs bs n s₀ y₀ m₀ k₀ d₀ s₁ y₁ m₁ k₁ d₁ E (build-as-built p r x y 0 x' y' C refl)

-- ---- "Sample clearance, to be proved as one table": on plan A with table A and their tables, in the order of Read

ask-sample :
    ask_a [] [] ∷ ask_a (0 ∷ []) (0 ∷ []) ∷ ask_a (0 ∷ 2 ∷ []) (0 ∷ 0 ∷ []) ∷ ask_a (0 ∷ 3 ∷ []) (0 ∷ 1 ∷ [])
    ∷ ask_a (4 ∷ []) (0 ∷ []) ∷ ask_a (6 ∷ []) (0 ∷ []) ∷ ask_a (7 ∷ []) (0 ∷ []) ∷ ask_a (0 ∷ []) (2 ∷ [])
    ∷ ask_a (0 ∷ 0 ∷ []) (0 ∷ 1 ∷ []) ∷ []
    ≡ answered_a 1 true 1 0 0 ∷ answered_a 0 false 2 1 1 ∷ answered_a 1 true 3 0 0 ∷ answered_a 0 false 5 0 0
    ∷ answered_a 0 false 2 1 1 ∷ answered_a 1 true 1 0 0 ∷ refused_a 13 ∷ refused_a 14 ∷ answered_a 1 true 1 0 0 ∷ []
unfolding computing plan_a table_a inputs_a limits_fit buffers_fit headers_fit headed_buffers_fit last_differing
    next_unless search_in search meet_on insert_rising rising_of wanted with_fork with_meet forks_on roots_on roots_fit roots_given
    handled_from whole_on listed_checks ask_checks ask_number answer_for ask_answer
ask-sample = refl
