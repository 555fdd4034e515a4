-- Branch tables and branch questions (document 01; document 02, S-7 and S-9), over the promises of the exported calls.
--     build-writes, build-as-built   whatif_branch_build: the tables of the definitions, and behind them what was there
--     build-cells, build-sample      which they are, node by node; a plan and a branch table that are accepted
--     check-exactly, check-no        whatif_branch_check: yes exactly where the tables are what the build writes
--     answers, below-upper, with-upper   demand 2: on tables as built the word automaton's answer, of either reading on
--                                    its own word, with the links of the climb and the nodes passed over
--     empty-word, one-letter         the same node twice
--     not_below, not-in-plan         16 where the lower node is not at or below the upper, 13 where one is no node
--     never-18                       18 never comes on tables as built
--     few-links, few-passed          the ceilings on tables as built
--     answers-named, answers-lent, lent-16, cause-of-18, usable-never-18   what holds on any tables
-- The numbers, and that a refused call alters nothing: Calls. Questions by colours: Colours.
use Prim.Native.Nat.{ℕ, ◌+◌, ◌*◌, ◌≤◌, ◌<◌}
use mathlib.Core.Path.{◌≡◌, refl, sym, ap, ◌∙◌, subst}
use mathlib.Core.Bool.{Bool, true, false}
use mathlib.Core.List.{List, ◌∷◌, ◌++◌}
use mathlib.Core.Logic.{◌↔◌}
use mathlib.Core.Option.{some}
use native.Mathlib.Omega.{arith}
use lib.ListN.{length, get_or, take, drop}
use Rattle.std.specs.Prelude.{Result, Ok}
use Rattle.trees.specs.Tree.{Tree, size, height, label_at}
use Rattle.trees.specs.Automaton.{word_run}
use Rattle.trees.specs.Numbering.{ancestor, word, lower_word, AtOrBelow}
use Rattle.trees.specs.Climb.{digits}
use Rattle.trees.specs.Tables.{branch_state, branch_map}
use Rattle.trees.specs.Postorder.{is_postorder}
use Rattle.list_laws.specs.Tests.{all_below}
use Rattle.trees.proofs.TableRows.{branch_table-state, branch_table-map}
use Rattle.trees.proofs.WordLaws.{word_below, lower_word-same}
use Rattle.trees.proofs.HeightLaws.{height-limit}
use Rattle.trees.proofs.Digits.{digits-limit}
use Rattle.formats.specs.Plan.{node_count, plan_tree}
use Rattle.formats.specs.Rules.{state_count, branch_automaton}
use Rattle.formats.specs.Checks.{first_no, plan_checks, branch_checks, branch_table_checks, branch_build_checks}
use Rattle.formats.specs.Built.{built_node_table, built_branch_table, BranchBuilt}
use Rattle.formats.specs.Buffers.{headed_buffers_fit, branch_tables}
use Rattle.formats.specs.Refusals.{answer_number}
use Rattle.formats.specs.declared.refusals.Refusal.{Refusal}
use Rattle.formats.proofs.InputLaws.{branch-table-passes}
use Rattle.tables.specs.node_tables.Cells.{is_in_subtree_on}
use Rattle.tables.specs.node_tables.NodeCells.{NodeCells}
use Rattle.tables.specs.StateCells.{state_cell, map_cell}
use Rattle.branches.specs.declared.answers.Reading.{Reading}
use Rattle.branches.specs.declared.answers.Reading.TheVariants.{WithUpper, BelowUpper}
use Rattle.branches.specs.declared.answers.Branched.{Branched}
use Rattle.branches.specs.OutOfRange.{BranchOutOfRange}
use Rattle.branches.specs.Question.{ask_answer}
use Rattle.branches.specs.Promise.{BranchKept, AnswerKept, BranchUsable, links_told, passed_told}
use Rattle.branches.proofs.AskBuilt.{size_is, fits-built, built-links}
use Rattle.branches.proofs.AskChecks.{ask-13-upper, ask-13-lower}
use Rattle.branches.proofs.AskRange.{built-usable}
use Rattle.branches.proofs.AskTheorem as ask-theorem
use Rattle.branches.proofs.BranchTheorems as branch-theorems
use Rattle.questions.specs.ready.Parts.{moves_of, climb_moves}
use Rattle.reference.specs.Sample.{plan_a}
use Rattle.capi.specs.numbers.Numbers.{bit_of, yes_of}
use Rattle.capi.specs.branch_calls.BranchExported.{AskExported, end_of, accepted_of, links_of, passed_of}
use Rattle.capi.proofs.numbers.BuildExportedLaws.{exported-lists}
use Rattle.capi.proofs.branch_calls.Ties.{branch-build-as-built, branch-check-exactly, branch-check-number}
use Rattle.capi.proofs.branch_calls.Ties.{WordTold, branch-told, branch-apart}
use Rattle.capi_branch_upper.proofs.Ties.{branch-upper-told}
use Rattle.claims.specs.CallAnswers.{BranchBuildCall, BranchCheckCall}
use Rattle.claims.specs.BranchAnswers.{BranchAnswered, BranchAnsweredOn, branch_table_a}
use Rattle.claims.proofs.laws.ToldLaws.{value-there}

-- ---- the build

module _ (p r node_table state_table : List ℕ) (n : ℕ) (node_table' state_table' : List ℕ)
    (E : BranchBuildCall p r node_table state_table n node_table' state_table') where
  -- "For a branch table the state byte is the state after the node's label on the word from the root, and the map goes
  -- from the state after the jump's label to the state after the node's." "The excess of a longer buffer is untouched."
  build-writes : n ≡ 0
      → (node_table' ≡ built_node_table p ++ drop (length (built_node_table p)) node_table)
      × (state_table' ≡ built_branch_table p r ++ drop (length (built_branch_table p r)) state_table)
  build-writes =
      exported-lists _ (built_node_table p) (built_branch_table p r) node_table state_table n node_table' state_table' E

  build-as-built : n ≡ 0 → BranchBuilt p r node_table' state_table'
  build-as-built = branch-build-as-built p r node_table state_table n node_table' state_table' E

  build-cells : n ≡ 0 → NodeCells (plan_tree p) node_table'
      × ((v : ℕ) → v < node_count p
      → (state_cell (state_count r) state_table' v ≡ branch_state (branch_automaton r) (plan_tree p) v)
      × ((q : ℕ) → q < state_count r
      → map_cell (state_count r) state_table' v q ≡ branch_map (branch_automaton r) (plan_tree p) v q))
  build-cells e =
      let B = build-as-built e in
      let z : size (plan_tree p) ≡ node_count p = size_is p r node_table' state_table' B in
      let states = ap (λ (m : ℕ). take (m * (state_count r + 1)) state_table') z ∙ B.states in (
        built-links p r node_table' state_table' B,
        λ v h. (
          branch_table-state (branch_automaton r) (plan_tree p) state_table' states v (omega (arith, z)),
          λ q l. (let i : v * (state_count r + 1) + (1 + q) ≡ v * (state_count r + 1) + 1 + q = omega arith in
              ap (λ (j : ℕ). get_or state_table' j 0) i
              ∙ branch_table-map (branch_automaton r) (plan_tree p) state_table' states v (omega (arith, z)) q l),
        ),
      )

-- the sample's plan (document 01) with a branch table is accepted with 28 numbers and 21 bytes, and with no fewer
build-sample : (first_no (branch_build_checks plan_a branch_table_a 28 21) ≡ 0)
    × (first_no (branch_build_checks plan_a branch_table_a 27 21) ≡ 11)
    × (first_no (branch_build_checks plan_a branch_table_a 28 20) ≡ 11)
unfolding plan_a branch_table_a branch_build_checks branch_table_checks plan_checks branch_checks first_no all_below is_postorder
build-sample = (refl, refl, refl)

-- ---- the full check

module _ (p r node_table state_table : List ℕ) (n yes₀ yes₁ : ℕ)
    (E : BranchCheckCall p r node_table state_table n yes₀ yes₁) where
  -- "a full check of lent tables, whose yes holds exactly when they are what the build writes"
  check-exactly : ((n ≡ 0) × (yes₁ ≡ 1)) ↔ BranchBuilt p r node_table state_table
  check-exactly = branch-check-exactly p r node_table state_table n yes₀ yes₁ E

  check-no : n ≡ 0 → (BranchBuilt p r node_table state_table → ⊥) → yes₁ ≡ 0
  check-no z h =
      E.number.yes_answer
      ∙ ap (λ (a : Result Bool Refusal). yes_of a yes₀)
      (branch-theorems.no-check p r node_table state_table E.answer E.done
      (sym (branch-check-number p r node_table state_table n yes₀ yes₁ E) ∙ z) h)

-- ---- the question: BelowUpper is whatif_branch, WithUpper whatif_branch_with_upper

module _ (reading : Reading) (p r node_table state_table : List ℕ) (u l n s₀ y₀ k₀ d₀ s₁ y₁ k₁ d₁ : ℕ)
    (E : AskExported reading p r node_table state_table u l n s₀ y₀ k₀ d₀ s₁ y₁ k₁ d₁) where
  answered : n ≡ 0 → (b : Branched) × (E.answer ≡ Ok b)
  answered z = value-there E.answer (sym E.number.result ∙ z)

  -- ---- on any tables

  -- "For anything left to the program, its name and its properties stand in the contract": the name is `ask_answer`
  answers-named : (n ≡ answer_number (ask_answer reading p r node_table state_table u l))
      × (s₁ ≡ end_of (ask_answer reading p r node_table state_table u l) s₀)
      × (y₁ ≡ accepted_of (ask_answer reading p r node_table state_table u l) y₀)
      × (k₁ ≡ links_of (ask_answer reading p r node_table state_table u l) k₀)
      × (d₁ ≡ passed_of (ask_answer reading p r node_table state_table u l) d₀)
  answers-named =
      let i = E.done.result in (
        E.number.result ∙ ap answer_number i,
        E.number.state_answer ∙ ap (λ (x : Result Branched Refusal). end_of x s₀) i,
        E.number.yes_answer ∙ ap (λ (x : Result Branched Refusal). accepted_of x y₀) i,
        E.number.links_answer ∙ ap (λ (x : Result Branched Refusal). links_of x k₀) i,
        E.number.passed_answer ∙ ap (λ (x : Result Branched Refusal). passed_of x d₀) i,
      )

  -- an accepted answer's state is a state, yes is its mark, its links are those "of the climb from the lower node to
  -- the upper's depth" by the table that was passed in, and it passed over "the depth of its start less the depth of
  -- its end"
  answers-lent : n ≡ 0 → BranchAnsweredOn p r node_table u l s₁ y₁ k₁ d₁
  answers-lent z =
      let w = answered z in
      let b : Branched = w.0 in
      let K : BranchKept p r node_table u l b = subst (AnswerKept p r node_table u l) w.1 E.done.properties in
      let s : s₁ ≡ b.state = E.number.state_answer ∙ ap (λ (x : Result Branched Refusal). end_of x s₀) w.1 in
      let k : k₁ ≡ b.links = E.number.links_answer ∙ ap (λ (x : Result Branched Refusal). links_of x k₀) w.1 in
      let d : d₁ ≡ b.passed = E.number.passed_answer ∙ ap (λ (x : Result Branched Refusal). passed_of x d₀) w.1 in
      record {
        state_below = rw s K.state_below;
        yes_is = E.number.yes_answer ∙ ap (λ (x : Result Branched Refusal). accepted_of x y₀) w.1 ∙ ap bit_of K.mark
            ∙ ap (λ (q : ℕ). bit_of ((branch_automaton r).accepting q)) (sym s);
        moves = K.moves;
        climbed = K.climbed;
        links_are = k ∙ K.links_are;
        links_most = rw k K.links_most;
        passed_are = d ∙ K.passed_is;
        links_passed = omega (arith, k, d, K.links_passed);
      }

  -- "lower node at or below upper? 16", by the size that was passed in
  pub lent-16 : headed_buffers_fit branch_tables p r (length node_table) (length state_table) ≡ true → u < node_count p
      → l < node_count p → (n ≡ 16) ↔ (is_in_subtree_on node_table u l ≡ false)
  lent-16 f hu hl =
      let w = E.done.not_below f hu hl in
      (λ e. w.0 (sym E.number.result ∙ e), λ e. E.number.result ∙ w.1 e)

  -- "18 means that a value read leads outside the plan, the states or the labels, or a climb doesn't rise."
  cause-of-18 : n ≡ 18 → BranchOutOfRange p r node_table state_table
  cause-of-18 e = E.done.out_of_range (sym E.number.result ∙ e)

  -- the numbers as built and every map byte below S leave no cause
  usable-never-18 : BranchUsable p r node_table state_table → n ≡ 18 → ⊥
  usable-never-18 U e = E.done.usable U (sym E.number.result ∙ e)

  -- ---- on tables as built

  module _ (B : BranchBuilt p r node_table state_table) where
    -- "It is never given on tables as built from the plan and rules lent"
    never-18 : n ≡ 18 → ⊥
    never-18 = usable-never-18 (built-usable p r node_table state_table B)

    -- the links: at most three for each binary digit of the plan's height, so at most 45
    few-links : n ≡ 0 → (k₁ ≤ 3 * digits (height (plan_tree p))) × (k₁ ≤ 45)
    few-links z =
        let w = answered z in
        let k : k₁ ≡ links_told E.answer =
        E.number.links_answer ∙ ap (λ (x : Result Branched Refusal). links_of x k₀) w.1 ∙ sym (ap links_told w.1) in
        let f : k₁ ≤ 3 * digits (height (plan_tree p)) = rw k (E.done.few B) in
        let h : size (plan_tree p) ≤ 65535 =
        omega (arith, size_is p r node_table state_table B, (branch-table-passes p r B.accepted).0.most) in
        (f, omega (arith, f, digits-limit (height (plan_tree p)) (height-limit (plan_tree p) h)))

    -- and the nodes passed over are no more than the plan is high
    few-passed : n ≡ 0 → d₁ ≤ height (plan_tree p)
    few-passed z =
        let w = answered z in
        let d : d₁ ≡ passed_told E.answer =
        E.number.passed_answer ∙ ap (λ (x : Result Branched Refusal). passed_of x d₀) w.1 ∙ sym (ap passed_told w.1) in
        rw d (E.done.passed_most B)

    -- "nodes below N? 13"
    pub not-in-plan : (node_count p ≤ u → n ≡ 13) × (node_count p ≤ l → n ≡ 13)
    not-in-plan =
        let f = fits-built p r node_table state_table B in (
          λ h. E.number.result
              ∙ ap answer_number (E.done.result ∙ sym (ask-13-upper reading p r node_table state_table u l f h)),
          λ h. E.number.result
              ∙ ap answer_number (E.done.result ∙ sym (ask-13-lower reading p r node_table state_table u l f h)),
        )

    module _ (hu : u < node_count p) (hl : l < node_count p) where
      -- "build and put a branch question (it tells state, yes or no, and the links of the climb from the lower node to
      -- the upper's depth)"; document 02, S-7: "Question and branch answers carry the total over their climbs"
      pub answers : AtOrBelow (plan_tree p) u l → BranchAnswered reading p r u l n s₁ y₁ k₁ d₁
      unfolding climb_moves
      answers A =
          let W : WordTold reading p r node_table state_table u l n s₀ y₀ k₀ d₀ s₁ y₁ k₁ d₁ E =
          branch-told reading p r node_table state_table u l n s₀ y₀ k₀ d₀ s₁ y₁ k₁ d₁ E B hu hl A in
          let m : climb_moves (plan_tree p) l u ≡ W.moves = ap moves_of W.climbed in
          record {
            accepted = W.accepted;
            state_is = W.state;
            yes_is = W.yes;
            climbed = W.climbed ∙ ap some (sym m);
            links_are = W.links_are ∙ ap length (sym m);
            passed_are = W.passed_are;
          }

      -- "lower node at or below upper? 16"
      not_below : (AtOrBelow (plan_tree p) u l → ⊥) → n ≡ 16
      not_below =
          branch-apart reading p r node_table state_table u l n s₀ y₀ k₀ d₀ s₁ y₁ k₁ d₁ E B hu hl

-- ---- the two readings

-- "a branch answer is the word automaton's"; "Demand 2 holds for each on its own word."; "The plain call now reads
-- the word from below the upper node"
below-upper : (p r node_table state_table : List ℕ) (u l n s₀ y₀ k₀ d₀ s₁ y₁ k₁ d₁ : ℕ)
    → AskExported BelowUpper p r node_table state_table u l n s₀ y₀ k₀ d₀ s₁ y₁ k₁ d₁
    → BranchBuilt p r node_table state_table → u < node_count p → l < node_count p → AtOrBelow (plan_tree p) u l
    → (n ≡ 0) × (s₁ ≡ word_run (branch_automaton r) 0 (lower_word (plan_tree p) u l))
    × (y₁ ≡ bit_of ((branch_automaton r).accepting s₁))
below-upper p r a b u l n s₀ y₀ k₀ d₀ s₁ y₁ k₁ d₁ E B hu hl A =
    let W = branch-told BelowUpper p r a b u l n s₀ y₀ k₀ d₀ s₁ y₁ k₁ d₁ E B hu hl A in
    (W.accepted, W.state, W.yes)

-- "The old reading stays under a name of its own": "The word runs from the upper node to the lower, both included"
with-upper : (p r node_table state_table : List ℕ) (u l n s₀ y₀ k₀ d₀ s₁ y₁ k₁ d₁ : ℕ)
    → AskExported WithUpper p r node_table state_table u l n s₀ y₀ k₀ d₀ s₁ y₁ k₁ d₁
    → BranchBuilt p r node_table state_table → u < node_count p → l < node_count p → AtOrBelow (plan_tree p) u l
    → (n ≡ 0) × (s₁ ≡ word_run (branch_automaton r) 0 (word (plan_tree p) u l))
    × (y₁ ≡ bit_of ((branch_automaton r).accepting s₁))
with-upper p r a b u l n s₀ y₀ k₀ d₀ s₁ y₁ k₁ d₁ E B hu hl A =
    let W = branch-upper-told p r a b u l n s₀ y₀ k₀ d₀ s₁ y₁ k₁ d₁ E B hu hl A in
    (W.accepted, W.state, W.yes)

-- the two words differ by the upper node's label
two-words : (t : Tree) (u v : ℕ) → v < size t → AtOrBelow t u v → word t u v ≡ label_at t u ∷ lower_word t u v
two-words = word_below

module _ (p r node_table state_table : List ℕ) (u n s₀ y₀ k₀ d₀ s₁ y₁ k₁ d₁ : ℕ)
    (B : BranchBuilt p r node_table state_table) (h : u < node_count p) where
  self : AtOrBelow (plan_tree p) u u
  unfolding ancestor
  self = (0, omega arith, refl)

  -- "the same node twice is the empty word, and the mark of state 0 decides": no link, and no node passed over
  empty-word : AskExported BelowUpper p r node_table state_table u u n s₀ y₀ k₀ d₀ s₁ y₁ k₁ d₁
      → (n ≡ 0) × (s₁ ≡ 0) × (y₁ ≡ bit_of ((branch_automaton r).accepting 0)) × (k₁ ≡ 0) × (d₁ ≡ 0)
  empty-word E =
      let i = E.done.result ∙ ask-theorem.empty-word p r node_table state_table B u h in (
        E.number.result ∙ ap answer_number i,
        E.number.state_answer ∙ ap (λ (x : Result Branched Refusal). end_of x s₀) i,
        E.number.yes_answer ∙ ap (λ (x : Result Branched Refusal). accepted_of x y₀) i,
        E.number.links_answer ∙ ap (λ (x : Result Branched Refusal). links_of x k₀) i,
        E.number.passed_answer ∙ ap (λ (x : Result Branched Refusal). passed_of x d₀) i,
      )

  -- "the same node twice is a word of one letter"
  one-letter : AskExported WithUpper p r node_table state_table u u n s₀ y₀ k₀ d₀ s₁ y₁ k₁ d₁
      → (n ≡ 0) × (s₁ ≡ (branch_automaton r).step 0 (label_at (plan_tree p) u))
      × (y₁ ≡ bit_of ((branch_automaton r).accepting s₁))
  one-letter E =
      let W = with-upper p r node_table state_table u u n s₀ y₀ k₀ d₀ s₁ y₁ k₁ d₁ E B h h self in
      let i : u < size (plan_tree p) = omega (arith, size_is p r node_table state_table B) in (
        W.0,
        W.1
            ∙ ap (word_run (branch_automaton r) 0) (two-words (plan_tree p) u u i self
            ∙ ap (λ (w : List ℕ). label_at (plan_tree p) u ∷ w) (lower_word-same (plan_tree p) u)),
        W.2,
      )
