-- The promise of a branch question on tables as built.
--     ask-built    the word automaton's answer where the lower node is at or below the upper
--     ask-apart    16 where it is not, so 18 never
--     ask-few      few links
--     ask-passed   no more nodes passed over than the plan is high
--     ask-done     the whole promise, for any function that answers as ask_answer does
--     empty-word   the same node twice, from below it: state 0, its mark, no links and no node passed over
use Prim.Native.Nat.{ℕ, ◌+◌, ◌-◌, ◌*◌, ◌≤◌, ◌<◌}
use mathlib.Core.Path.{◌≡◌, refl, sym, ap, ap₂, ◌∙◌, subst}
use mathlib.Core.Bool.{Bool, true, false}
use mathlib.Core.List.{List}
use mathlib.Core.Option.{Option, some}
use native.Mathlib.Omega.{arith}
use lib.ListN.{length, get_or}
use borrow.Author.Tests.{lt-ltb}
use Rattle.trees.specs.Tree.{Tree, size, height, label_at}
use Rattle.trees.specs.Automaton.{WordAutomaton, word_run}
use Rattle.trees.specs.Numbering.{sub, depth, ancestor, labels_down, lower_word, AtOrBelow}
use Rattle.trees.specs.Climb.{Move, and_then, climb, move_count, digits}
use Rattle.trees.specs.Passed.{passed_by}
use Rattle.trees.proofs.WordLaws.{word_below}
use Rattle.trees.proofs.HeightLaws.{depth-height}
use Rattle.trees.proofs.IntervalLaws.{ancestor-interval, interval-ancestor, above_at}
use Rattle.trees.proofs.MoveCount.{move_count-done, move_count-bound}
use Rattle.list_laws.proofs.Choice.{le-or}
use Rattle.trees.proofs.ClimbLaws.{climb-done}
use Rattle.trees.proofs.TreeClimbs.{Climbed, climb-tree}
use Rattle.formats.specs.Plan.{node_count, labels_within, plan_tree}
use Rattle.formats.specs.Rules.{state_count, label_count, branch_steps, branch_automaton}
use Rattle.std.specs.Prelude.{Result, Ok, Err}
use Rattle.formats.specs.Built.{BranchBuilt}
use Rattle.formats.specs.Refusals.{answer_number}
use Rattle.formats.specs.declared.refusals.Refusal.{Refusal}
use Rattle.formats.specs.declared.refusals.Refusal.TheVariants.{NotBelow}
use Rattle.formats.specs.Buffers.{headed_buffers_fit, branch_tables}
use Rattle.tables.specs.node_tables.Cells.{depth_cell, cell_forest}
use Rattle.tables.specs.node_tables.Cells.{is_in_subtree_on}
use Rattle.tables.specs.declared.answers.Reached.{Reached}
use Rattle.tables.specs.Climbs.{reached}
use Rattle.tables.specs.Replays.{state_move, carry_down, replay_on}
use Rattle.branches.specs.declared.answers.Reading.{Reading}
use Rattle.branches.specs.declared.answers.Reading.TheVariants.{WithUpper, BelowUpper}
use Rattle.branches.specs.declared.answers.Branched.{Branched}
use Rattle.branches.specs.Question.{first_state, branched, branch_on}
use Rattle.branches.specs.Question.{branch_answer, ask_number, ask_answer}
use Rattle.branches.specs.OutOfRange.{BranchOutOfRange}
use Rattle.branches.specs.Promise.{word_of, word_answer, AnswerKept, links_told, passed_told, AskDone}
use Rattle.branches.proofs.FinishLaws.{in-subtree-is, is-in-subtree}
use Rattle.branches.proofs.AskBuilt.{size_is, fits-built, built-links, built-climb, built-passed, built-label}
use Rattle.branches.proofs.AskBuilt.{table-passes, label_below, built-step}
use Rattle.branches.proofs.AskChecks.{ask-number, ask-13-upper, ask-13-lower, ask-16, ask-on, ask-not-below}
use Rattle.branches.proofs.AskClimb.{down-built}
use Rattle.branches.proofs.AskRange.{ask-out-of-range, usable-in-range}
use Rattle.branches.proofs.AskKept.{ask-kept}

-- a value that is there is handed on
on_some : {X Y : Type 0} (o : Option X) (x : X) (f : X → Option Y) → o ≡ some x → and_then o f ≡ f x
on_some o x f e = ap (λ (y : Option _). and_then y f) e

-- the state that the word below u starts in
abbrev first_on : Reading → WordAutomaton → Tree → ℕ → ℕ
first_on WithUpper B t u = B.step 0 (label_at t u)
first_on BelowUpper B t u = 0

-- from there on both readings go through the labels below u
word-down : (reading : Reading) (B : WordAutomaton) (t : Tree) (u v : ℕ) → v < size t → AtOrBelow t u v
    → word_run B 0 (word_of reading t u v) ≡ word_run B (first_on reading B t u) (labels_down t v (depth t v - depth t u))
unfolding lower_word
word-down WithUpper B t u v h a = ap (word_run B 0) (word_below t u v h a)
word-down BelowUpper B t u v h a = refl

module _ (reading : Reading) (p r node_table state_table : List ℕ) (D : BranchBuilt p r node_table state_table) (u l : ℕ)
    (hu : u < node_count p) (hl : l < node_count p) where
  abbrev t : Tree
  t = plan_tree p

  abbrev B : WordAutomaton
  B = branch_automaton r

  upper_in : u < size t
  upper_in = omega (arith, size_is p r node_table state_table D)

  lower_in : l < size t
  lower_in = omega (arith, size_is p r node_table state_table D)

  -- ---- the answer

  abbrev first : ℕ
  first = first_on reading B t u

  first-built : first_state reading p r u ≡ some first
  unfolding first_state
  first-built = go reading
    where
      go : (w : Reading) → first_state w p r u ≡ some (first_on w B t u)
      go WithUpper =
          rw (
            lt-ltb (get_or (labels_within p) u 0) (label_count r) (label_below p r node_table state_table D u),
            built-label p r node_table state_table D u,
            lt-ltb (B.step 0 (label_at t u)) (state_count r) (built-step p r node_table state_table D 0 (label_at t u)),
          )
      go BelowUpper = refl

  first_below : first < state_count r
  first_below = go reading
    where
      go : (w : Reading) → first_on w B t u < state_count r
      go WithUpper = built-step p r node_table state_table D 0 (label_at t u)
      go BelowUpper = omega (arith, (table-passes p r node_table state_table D).states-least)

  module _ (A : AtOrBelow (plan_tree p) u l) where
    above : AtOrBelow t u l
    above = A

    above-is : (depth t u ≤ depth t l) × (ancestor t l (depth t l - depth t u) ≡ u)
    above-is = above_at t u l lower_in above

    climbed : Climbed t l (depth t u)
    climbed = climb-tree t l (depth t u) lower_in above-is.0

    climb-built : climb (cell_forest (node_count p) node_table) l (depth_cell node_table u) ≡ some climbed.moves
    climb-built =
        ap (climb (cell_forest (node_count p) node_table) l) ((built-links p r node_table state_table D).depths u upper_in)
        ∙ built-climb p r node_table state_table D l (depth t u) lower_in ∙ climbed.found

    down : carry_down (state_move (state_count r) (label_count r) (labels_within p) (branch_steps r) state_table) climbed.moves first
        ≡ some (word_run B 0 (word_of reading t u l))
    down =
        down-built p r node_table state_table D l (depth t u) first climbed.moves lower_in first_below above-is.0 climbed.found
        ∙ ap some (sym (word-down reading B t u l lower_in above))

    abbrev result : Reached → Option Branched
    result x = some (branched B x.state x.links x.passed)

    abbrev counted : List Move → ℕ → Option Reached
    counted ms x = some (reached x (length ms) (passed_by (cell_forest (node_count p) node_table) l ms))

    passed-built : passed_by (cell_forest (node_count p) node_table) l climbed.moves ≡ depth t l - depth t u
    passed-built =
        built-passed p r node_table state_table D l (depth t u) climbed.moves lower_in above-is.0
        (built-climb p r node_table state_table D l (depth t u) lower_in ∙ climbed.found)

    branch-on-built : branch_on reading p r node_table state_table u l
        ≡ some (branched B (word_run B 0 (word_of reading t u l)) (move_count (depth t l) (depth t u)) (depth t l - depth t u))
    unfolding branch_on replay_on
    branch-on-built =
        on_some (first_state reading p r u) first
        (λ q. and_then (replay_on (node_count p) (state_count r) (label_count r) (labels_within p) (branch_steps r) node_table state_table l
        (depth_cell node_table u) q) result) first-built
        ∙ ap (λ (o : Option Reached). and_then o result)
        (on_some (climb (cell_forest (node_count p) node_table) l (depth_cell node_table u)) climbed.moves
        (λ ms. and_then (carry_down (state_move (state_count r) (label_count r) (labels_within p) (branch_steps r) state_table) ms first) (counted ms))
        climb-built
        ∙ ap (λ (o : Option ℕ). and_then o (counted climbed.moves)) down)
        ∙ ap₂ (λ (n d : ℕ). some (branched B (word_run B 0 (word_of reading t u l)) n d)) climbed.count passed-built

    below-built : is_in_subtree_on node_table u l ≡ true
    below-built =
        let w = ancestor-interval t u l above.0 lower_in above.1 above.2 in
        is-in-subtree node_table u l w.0 (rw ((built-links p r node_table state_table D).sizes u upper_in) w.1)

    pub ask-built : ask_answer reading p r node_table state_table u l ≡ word_answer reading p r u l
    unfolding word_answer branch_answer
    ask-built =
        ask-on reading p r node_table state_table u l (fits-built p r node_table state_table D) hu hl below-built ∙ ap (branch_answer 0) branch-on-built

  -- ---- 16

  -- what the given size says is so
  subtree-above : is_in_subtree_on node_table u l ≡ true → AtOrBelow (plan_tree p) u l
  subtree-above e =
      let w = in-subtree-is node_table u l e in
      let i : u < l + size (sub t u) = rw (← (built-links p r node_table state_table D).sizes u upper_in) w.1 in
      interval-ancestor t u l upper_in lower_in (w.0, i)

  pub ask-apart : (AtOrBelow (plan_tree p) u l → ⊥) → ask_answer reading p r node_table state_table u l ≡ Err NotBelow
  ask-apart never = sym (ask-16 reading p r node_table state_table u l (fits-built p r node_table state_table D) hu hl (go (is_in_subtree_on node_table u l) refl))
    where
      go : (b : Bool) → is_in_subtree_on node_table u l ≡ b → b ≡ false
      go true e = absurd (never (subtree-above e))
      go false e = refl

  -- ---- few links

  moves-few : move_count (depth (plan_tree p) l) (depth (plan_tree p) u) ≤ 3 * digits (height (plan_tree p))
  moves-few =
      le-or (depth t l) (depth t u)
      (λ h. omega (arith, move_count-done (depth t l) (depth t u) h))
      (λ h. move_count-bound (depth t l) (depth t u) (height t) (omega arith) (depth-height t l lower_in))

  below-few : (b : Bool) → is_in_subtree_on node_table u l ≡ b
      → links_told (ask_answer reading p r node_table state_table u l) ≤ 3 * digits (height (plan_tree p))
  unfolding word_answer
  below-few true e = rw (ask-built (subtree-above e)) moves-few
  below-few false e = rw (← ask-16 reading p r node_table state_table u l (fits-built p r node_table state_table D) hu hl e) (omega arith)

  below-passed : (b : Bool) → is_in_subtree_on node_table u l ≡ b
      → passed_told (ask_answer reading p r node_table state_table u l) ≤ height (plan_tree p)
  unfolding word_answer
  below-passed true e = rw (ask-built (subtree-above e)) (omega (arith, depth-height t l lower_in))
  below-passed false e = rw (← ask-16 reading p r node_table state_table u l (fits-built p r node_table state_table D) hu hl e) (omega arith)

module _ (reading : Reading) (p r node_table state_table : List ℕ) (u l : ℕ) where
  -- the links returned: none where it is refused
  pub ask-few : BranchBuilt p r node_table state_table
      → links_told (ask_answer reading p r node_table state_table u l) ≤ 3 * digits (height (plan_tree p))
  ask-few D =
      let f = fits-built p r node_table state_table D in
      le-or (node_count p) u
      (λ h. rw (← ask-13-upper reading p r node_table state_table u l f h) (omega arith))
      (λ hu. le-or (node_count p) l
      (λ h. rw (← ask-13-lower reading p r node_table state_table u l f h) (omega arith))
      (λ hl. below-few reading p r node_table state_table D u l hu hl (is_in_subtree_on node_table u l) refl))

  pub ask-passed : BranchBuilt p r node_table state_table
      → passed_told (ask_answer reading p r node_table state_table u l) ≤ height (plan_tree p)
  ask-passed D =
      let f = fits-built p r node_table state_table D in
      le-or (node_count p) u
      (λ h. rw (← ask-13-upper reading p r node_table state_table u l f h) (omega arith))
      (λ hu. le-or (node_count p) l
      (λ h. rw (← ask-13-lower reading p r node_table state_table u l f h) (omega arith))
      (λ hl. below-passed reading p r node_table state_table D u l hu hl (is_in_subtree_on node_table u l) refl))

  pub ask-done : (answer : Result Branched Refusal) → answer ≡ ask_answer reading p r node_table state_table u l
      → AskDone reading p r node_table state_table u l answer
  ask-done answer e =
      let number : answer_number answer ≡ ask_number reading p r node_table state_table u l =
      ap answer_number e ∙ ask-number reading p r node_table state_table u l in
      let cause : answer_number answer ≡ 18 → BranchOutOfRange p r node_table state_table =
      λ i. ask-out-of-range p r node_table state_table reading u l (sym number ∙ i) in
      record {
        result = e;
        number = number;
        properties = subst (AnswerKept p r node_table u l) (sym e) (ask-kept reading p r node_table state_table u l);
        not_below = λ f hu hl. rw e (ask-not-below reading p r node_table state_table u l f hu hl);
        out_of_range = cause;
        usable = λ U i. usable-in-range p r node_table state_table U (cause i);
        built = λ D hu hl A. e ∙ ask-built reading p r node_table state_table D u l hu hl A;
        apart = λ D hu hl never. e ∙ ask-apart reading p r node_table state_table D u l hu hl never;
        few = λ D. subst (λ (a : Result Branched Refusal). links_told a ≤ 3 * digits (height (plan_tree p))) (sym e) (ask-few D);
        passed_most = λ D. subst (λ (a : Result Branched Refusal). passed_told a ≤ height (plan_tree p)) (sym e) (ask-passed D);
      }

-- ---- the empty word

-- "the same node twice is the empty word, and the mark of state 0 decides", for any tables: where 17, 13 and 16 pass
pub empty-word-lent : (p r node_table state_table : List ℕ) (u : ℕ)
    → headed_buffers_fit branch_tables p r (length node_table) (length state_table) ≡ true → u < node_count p
    → is_in_subtree_on node_table u u ≡ true
    → ask_answer BelowUpper p r node_table state_table u u ≡ Ok (branched (branch_automaton r) 0 0 0)
unfolding branch_on first_state branch_answer replay_on
empty-word-lent p r node_table state_table u f h i =
    ask-on BelowUpper p r node_table state_table u u f h h i
    ∙ ap (branch_answer 0)
    (ap (λ (o : Option (List Move)). and_then (and_then o (λ ms.
    and_then (carry_down (state_move (state_count r) (label_count r) (labels_within p) (branch_steps r) state_table) ms 0) (λ x.
    some (reached x (length ms) (passed_by (cell_forest (node_count p) node_table) u ms)))))
    (λ x. some (branched (branch_automaton r) x.state x.links x.passed)))
    (climb-done (cell_forest (node_count p) node_table) u (depth_cell node_table u) (omega arith))
    ∙ (let e : depth_cell node_table u - depth_cell node_table u ≡ 0 = omega arith in
    ap (λ (d : ℕ). some (branched (branch_automaton r) 0 0 d)) e))

pub empty-word : (p r node_table state_table : List ℕ) → BranchBuilt p r node_table state_table → (u : ℕ) → u < node_count p
    → ask_answer BelowUpper p r node_table state_table u u ≡ Ok (branched (branch_automaton r) 0 0 0)
unfolding ancestor
empty-word p r node_table state_table D u h =
    empty-word-lent p r node_table state_table u (fits-built p r node_table state_table D) h
    (below-built BelowUpper p r node_table state_table D u u h h (0, omega arith, refl))
