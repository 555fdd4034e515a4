-- What holds of a branch answer for any inputs: a state below S, its mark, the links of the climb and the nodes that it
-- passed over.
--     first_below    the first state is a state
--     branch_kept    of the named result
--     ask-kept       of the answer
use Prim.Native.Nat.{ℕ, zero, suc, ◌<◌}
use mathlib.Core.Path.{◌≡◌, refl, subst}
use mathlib.Core.Bool.{Bool, true, false, ◌&&◌}
use mathlib.Core.List.{List}
use mathlib.Core.Option.{Option, none, some, some-injective}
use native.Mathlib.Omega.{arith}
use lib.Dec.{ltb}
use lib.ListN.{length, get_or}
use borrow.Author.Tests.{ltb-true}
use Rattle.trees.specs.Climb.{and_then}
use Rattle.trees.proofs.MoveLaws.{none-some, cond-some, both}
use Rattle.trees.proofs.ClimbLaws.{climb-most}
use Rattle.trees.proofs.PassedLaws.{links_passed}
use Rattle.formats.specs.Plan.{node_count, labels_within}
use Rattle.formats.specs.Rules.{state_count, label_count, branch_steps, branch_automaton}
use Rattle.formats.specs.Buffers.{headed_buffers_fit, branch_tables}
use Rattle.formats.proofs.BufferLaws.{headed-are}
use Rattle.tables.specs.node_tables.Cells.{depth_cell, cell_forest}
use Rattle.tables.specs.declared.answers.Reached.{Reached}
use Rattle.tables.specs.Replays.{replay_on}
use Rattle.tables.proofs.ReplayLaws.{down-below}
use Rattle.branches.specs.declared.answers.Reading.{Reading}
use Rattle.branches.specs.declared.answers.Reading.TheVariants.{WithUpper, BelowUpper}
use Rattle.branches.specs.declared.answers.Branched.{Branched}
use Rattle.branches.specs.Question.{first_state, branched, branch_on}
use Rattle.branches.specs.Question.{branch_answer, ask_number, ask_answer}
use Rattle.branches.specs.Promise.{BranchKept, AnswerKept}
use Rattle.branches.proofs.AskParts.{replayed}
use Rattle.branches.proofs.AskChecks.{ask-17}

module _ (reading : Reading) (p r node_table state_table : List ℕ) (u l : ℕ) where
  abbrev s : ℕ
  s = state_count r

  abbrev replays : ℕ → Option Reached
  replays q = replay_on (node_count p) s (label_count r) (labels_within p) (branch_steps r) node_table state_table l (depth_cell node_table u) q

  abbrev Kept : Branched → Type 0
  Kept b = BranchKept p r node_table u l b

  pub first_below : (w : Reading) (q : ℕ) → 0 < state_count r → first_state w p r u ≡ some q → q < state_count r
  unfolding first_state
  first_below WithUpper q z e =
      let a : ℕ = get_or (labels_within p) u 0 in
      let x : ℕ = (branch_automaton r).step 0 a in
      let c = cond-some (ltb a (label_count r) && ltb x s) (some x) e in
      subst (λ (y : ℕ). y < s) (some-injective x q c.1) (ltb-true x s (both (ltb a (label_count r)) (ltb x s) c.0).1)
  first_below BelowUpper q z e = subst (λ (y : ℕ). y < s) (some-injective 0 q e) z

  pub branch_kept : 0 < state_count r → (b : Branched) → branch_on reading p r node_table state_table u l ≡ some b
      → BranchKept p r node_table u l b
  unfolding branch_on
  branch_kept z b e = started (first_state reading p r u) refl e
    where
      told : (q : ℕ) → q < s → (o : Option Reached) → replays q ≡ o
          → and_then o (λ x. some (branched (branch_automaton r) x.state x.links x.passed)) ≡ some b → Kept b
      told q h none f i = absurd (none-some i)
      told q h (some x) f i =
          let w = replayed (node_count p) s (label_count r) (labels_within p) (branch_steps r) node_table state_table l (depth_cell node_table u) q x f in
          subst Kept (some-injective (branched (branch_automaton r) x.state x.links x.passed) b i) (record {
            state_below = down-below s (label_count r) (labels_within p) (branch_steps r) state_table w.moves q x.state h w.down;
            mark = refl;
            moves = w.moves;
            climbed = w.climbed;
            links_are = w.links;
            links_most = omega (arith, w.links, climb-most (cell_forest (node_count p) node_table) l (depth_cell node_table u) w.moves w.climbed);
            passed_is = w.passed;
            links_passed = omega (
              arith,
              w.links,
              w.passed,
              links_passed (cell_forest (node_count p) node_table) l (depth_cell node_table u) w.moves w.climbed,
            );
          })

      started : (o : Option ℕ) → first_state reading p r u ≡ o
          → and_then o (λ q. and_then (replays q) (λ x.
          some (branched (branch_automaton r) x.state x.links x.passed))) ≡ some b → Kept b
      started none f i = absurd (none-some i)
      started (some q) f i = told q (first_below reading q z f) (replays q) refl i

  pub ask-kept : AnswerKept p r node_table u l (ask_answer reading p r node_table state_table u l)
  unfolding ask_answer branch_answer
  ask-kept = go (headed_buffers_fit branch_tables p r (length node_table) (length state_table)) refl
    where
      answer : 0 < state_count r → (n : ℕ) (o : Option Branched) → branch_on reading p r node_table state_table u l ≡ o
          → AnswerKept p r node_table u l (branch_answer n o)
      answer z zero none e = tt
      answer z zero (some b) e = branch_kept z b e
      answer z (suc n) o e = tt

      go : (b : Bool) → headed_buffers_fit branch_tables p r (length node_table) (length state_table) ≡ b
          → AnswerKept p r node_table u l (ask_answer reading p r node_table state_table u l)
      go true f =
          answer (omega (arith, (headed-are branch_tables p r (length node_table) (length state_table) f).headers.in-limits.states))
          (ask_number reading p r node_table state_table u l) (branch_on reading p r node_table state_table u l) refl
      go false f = subst (AnswerKept p r node_table u l) (ask-17 reading p r node_table state_table u l f) tt
