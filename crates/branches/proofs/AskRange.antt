-- Where a branch question gives 18: a value leads outside the plan, the states or the labels, or the climb does not rise.
--     move-none, down-none, climb-none, first-none   a move, the moves of a climb, the climb, the upper node's label
--     branch-out-of-range                        the named result
--     ask-out-of-range                           the answer
--     usable-in-range                    numbers as built and maps of states lead nowhere outside: there 18 has no cause
--     bytes-usable, built-usable         so where all bytes are below S, and so on tables as built
--     built-in-range                     tables as built lead nowhere outside
use Prim.Native.Nat.{ℕ, ◌+◌, ◌*◌, ◌<◌}
use mathlib.Core.Path.{◌≡◌, refl, sym, ap, subst}
use mathlib.Core.Bool.{Bool, true, false, cond, ◌&&◌}
use mathlib.Core.List.{List, [], ◌∷◌}
use mathlib.Core.Logic.{◌⊎◌, inl, inr}
use mathlib.Core.Option.{Option, none, some}
use native.Mathlib.Omega.{arith}
use lib.Dec.{ltb}
use lib.ListN.{length, get_or}
use lib.Seq.{get_or-take, take_all}
use borrow.Author.Tests.{ltb-true, ltb-false}
use Rattle.trees.specs.Climb.{Forest, Move, via_jump, to_parent, target, next_move, and_then, climb, carry}
use Rattle.trees.specs.Passed.{passed_by}
use Rattle.trees.specs.LinkOutOfRange.{LinkOutOfRange}
use Rattle.trees.proofs.MoveLaws.{none-some, next-starts, next-inside}
use Rattle.trees.proofs.ClimbLaws.{Split, climb-cons}
use Rattle.trees.proofs.LinkRangeLaws.{carried_none}
use Rattle.list_laws.proofs.RowLaws.{stride}
use Rattle.trees.proofs.BranchMapLaws.{branch_map-below}
use Rattle.list_laws.specs.Tests.{all_below}
use Rattle.formats.specs.Plan.{node_count, labels_within, plan_tree}
use Rattle.formats.specs.Rules.{state_count, label_count, branch_steps, branch_automaton}
use Rattle.formats.specs.Checks.{check, first_no, branch_table_checks, state_table_length}
use Rattle.formats.specs.Built.{built_node_table, built_branch_table, node_table_part, state_table_part, BranchBuilt}
use Rattle.formats.specs.Buffers.{headed_buffers_fit, branch_tables}
use Rattle.list_laws.proofs.TestLaws.{all_below-all}
use Rattle.formats.proofs.BufferLaws.{headed-are}
use Rattle.formats.proofs.InputLaws.{branch-table-passes}
use Rattle.tables.specs.node_tables.Cells.{depth_cell, cell_forest, is_in_subtree_on}
use Rattle.tables.proofs.node_tables.RangeLaws.{cell-links-in-range}
use Rattle.tables.specs.declared.answers.Reached.{Reached}
use Rattle.tables.specs.Climbs.{below, reached}
use Rattle.tables.specs.Replays.{state_move, carry_down, replay_on}
use Rattle.tables.proofs.LookupLaws.{below_none}
use Rattle.tables.proofs.ReplayLaws.{down-below}
use Rattle.tables.specs.StateCells.{map_cell}
use Rattle.branches.specs.declared.answers.Reading.{Reading}
use Rattle.branches.specs.declared.answers.Reading.TheVariants.{WithUpper, BelowUpper}
use Rattle.branches.specs.declared.answers.Branched.{Branched}
use Rattle.branches.specs.Question.{first_state, branched, branch_on}
use Rattle.branches.specs.Question.{is_some, ask_checks, ask_number}
use Rattle.branches.specs.OutOfRange.{BranchOutOfRange, link, map, step, label}
use Rattle.branches.specs.Promise.{BranchUsable}
use Rattle.branches.proofs.AskKept.{first_below}
use Rattle.branches.proofs.BranchInputs.{length-built_steps}
use Rattle.branches.proofs.AskBuilt.{size_is, built-links, label_below, built-step, built-map}

module _ (p r node_table state_table : List ℕ) where
  abbrev Lost : Type 0
  Lost = BranchOutOfRange p r node_table state_table

  abbrev F : Forest
  F = cell_forest (node_count p) node_table

  abbrev act : Move → ℕ → Option ℕ
  act = state_move (state_count r) (label_count r) (labels_within p) (branch_steps r) state_table

  -- ---- a move

  label-none : (v q : ℕ) → v < node_count p → q < state_count r → act (to_parent v) q ≡ none → Lost
  unfolding state_move
  label-none v q h i = go (ltb (get_or (labels_within p) v 0) (label_count r)) refl
    where
      a : ℕ
      a = get_or (labels_within p) v 0

      go : (b : Bool) → ltb a (label_count r) ≡ b → cond b (below (state_count r) ((branch_automaton r).step q a)) none ≡ none → Lost
      go true b e = step q a i (ltb-true a (label_count r) b) (below_none (state_count r) ((branch_automaton r).step q a) e)
      go false b e = label v h (ltb-false a (label_count r) b)

  jump-none : (v q : ℕ) → v < node_count p → q < state_count r → act (via_jump v) q ≡ none → Lost
  unfolding state_move
  jump-none v q h i e = map v q h i (below_none (state_count r) (map_cell (state_count r) state_table v q) e)

  move-none : (v t q : ℕ) (m : Move) → v < node_count p → q < state_count r → next_move F v t ≡ some m → act m q ≡ none → Lost
  move-none v t q m h i n e = go (next-starts F v t m n)
    where
      go : (m ≡ via_jump v) ⊎ (m ≡ to_parent v) → Lost
      go (inl z) = jump-none v q h i (subst (λ (j : Move). act j q ≡ none) z e)
      go (inr z) = label-none v q h i (subst (λ (j : Move). act j q ≡ none) z e)

  -- ---- the moves of a climb, from the last to the first

  down-none : (v t q : ℕ) (ms : List Move) → v < node_count p → q < state_count r → climb F v t ≡ some ms → carry_down act ms q ≡ none
      → Lost
  down-none v t q [] h i c e = absurd (none-some (sym e))
  down-none v t q (m ∷ ms) h i c e =
      let w = climb-cons F v t m ms c in
      go w (carry_down act ms q) refl e (down-none (target F m) t q ms (next-inside F v t m w.next) i w.more)
    where
      go : Split F v t m ms → (o : Option ℕ) → carry_down act ms q ≡ o → and_then o (act m) ≡ none
          → (carry_down act ms q ≡ none → Lost) → Lost
      go w none d f ih = ih d
      go w (some x) d f ih =
          move-none v t x m h (down-below (state_count r) (label_count r) (labels_within p) (branch_steps r) state_table ms q x i d) w.next f

  -- a climb that is not found
  climb-none : (v t : ℕ) → v < node_count p → climb F v t ≡ none → Lost
  climb-none v t h e =
      elim (carried_none F (λ m (x : ℕ). some x) (λ x. Unit {0}) (λ m x y i j. tt) t v 0 h tt
      (ap (λ (o : Option (List Move)). and_then o (λ ms. carry (λ m (x : ℕ). some x) ms 0)) e)) [
        | inl s ↦ link s
        | inr f ↦ absurd (none-some (sym f.nothing))
      ]

  -- ---- the upper node's label

  first-none : (reading : Reading) (u : ℕ) → u < node_count p → 0 < state_count r → first_state reading p r u ≡ none → Lost
  unfolding first_state
  first-none BelowUpper u h z = λ e. absurd (none-some (sym e))
  first-none WithUpper u h z = go (ltb a (label_count r)) (ltb ((branch_automaton r).step 0 a) (state_count r)) refl refl
    where
      a : ℕ
      a = get_or (labels_within p) u 0

      go : (b c : Bool) → ltb a (label_count r) ≡ b → ltb ((branch_automaton r).step 0 a) (state_count r) ≡ c
          → cond (b && c) (some ((branch_automaton r).step 0 a)) none ≡ none → Lost
      go true true i j e = absurd (none-some (sym e))
      go true false i j e = step 0 a z (ltb-true a (label_count r) i) (ltb-false ((branch_automaton r).step 0 a) (state_count r) j)
      go false c i j e = label u h (ltb-false a (label_count r) i)

  -- ---- the question

  module _ (reading : Reading) (u l : ℕ) (hu : u < node_count p) (hl : l < node_count p) (z : 0 < state_count r) where
    -- as branch_on has it
    abbrev told : Reached → Option Branched
    told x = some (branched (branch_automaton r) x.state x.links x.passed)

    abbrev replays : ℕ → Option Reached
    replays q = replay_on (node_count p) (state_count r) (label_count r) (labels_within p) (branch_steps r) node_table state_table l
        (depth_cell node_table u) q

    replay-none : (q : ℕ) → q < state_count r → replays q ≡ none → Lost
    unfolding replay_on
    replay-none q h = go (climb F l (depth_cell node_table u)) refl
      where
        found : (ms : List Move) → climb F l (depth_cell node_table u) ≡ some ms → (o : Option ℕ) → carry_down act ms q ≡ o
            → and_then o (λ x. some (reached x (length ms) (passed_by F l ms))) ≡ none → Lost
        found ms c none d e = down-none l (depth_cell node_table u) q ms hl h c d
        found ms c (some x) d e = absurd (none-some (sym e))

        go : (o : Option (List Move)) → climb F l (depth_cell node_table u) ≡ o
            → and_then o (λ ms. and_then (carry_down act ms q) (λ x. some (reached x (length ms) (passed_by F l ms)))) ≡ none → Lost
        go none c e = climb-none l (depth_cell node_table u) hl c
        go (some ms) c e = found ms c (carry_down act ms q) refl e

    branch-out-of-range : branch_on reading p r node_table state_table u l ≡ none → Lost
    unfolding branch_on
    branch-out-of-range = go (first_state reading p r u) refl
      where
        ended : (q : ℕ) → q < state_count r → (o : Option Reached) → replays q ≡ o → and_then o told ≡ none → Lost
        ended q h none d e = replay-none q h d
        ended q h (some x) d e = absurd (none-some (sym e))

        go : (o : Option ℕ) → first_state reading p r u ≡ o → and_then o (λ q. and_then (replays q) told) ≡ none → Lost
        go none f e = first-none reading u hu z f
        go (some q) f e = ended q (first_below reading p r node_table state_table u l reading q z f) (replays q) refl e

  -- 18 comes only after 17, 13 and 16
  pub ask-out-of-range : (reading : Reading) (u l : ℕ) → ask_number reading p r node_table state_table u l ≡ 18 → Lost
  unfolding ask_number ask_checks first_no
  ask-out-of-range reading u l =
      go (headed_buffers_fit branch_tables p r (length node_table) (length state_table)) refl (ltb u (node_count p)) refl
      (ltb l (node_count p)) refl (is_in_subtree_on node_table u l)
      (branch_on reading p r node_table state_table u l) refl
    where
      go : (f : Bool) → headed_buffers_fit branch_tables p r (length node_table) (length state_table) ≡ f → (a : Bool)
          → ltb u (node_count p) ≡ a → (b : Bool) → ltb l (node_count p) ≡ b
          → (c : Bool) (o : _) → branch_on reading p r node_table state_table u l ≡ o
          → first_no (check 17 f ∷ check 13 (a && b) ∷ check 16 c ∷ check 18 (is_some o) ∷ []) ≡ 18 → Lost
      go true f true a true b true none o e =
          branch-out-of-range reading u l (ltb-true u (node_count p) a) (ltb-true l (node_count p) b)
          (omega (arith, (headed-are branch_tables p r (length node_table) (length state_table) f).headers.in-limits.states)) o
      go true f true a true b true (some x) o e = absurd (omega (arith, e))
      go true f true a true b false o i e = absurd (omega (arith, e))
      go true f true a false b c o i e = absurd (omega (arith, e))
      go true f false a b q c o i e = absurd (omega (arith, e))
      go false f a p b q c o i e = absurd (omega (arith, e))

-- ---- numbers as built, and maps of states

module _ (p r node_table state_table : List ℕ) (U : BranchUsable p r node_table state_table) where
  -- the branch table that the build writes beside these numbers
  abbrev written : List ℕ
  written = built_branch_table p r

  D : BranchBuilt p r node_table written
  D =
      let pass = (branch-table-passes p r U.accepted).0 in
      record {
        accepted = U.accepted;
        links = U.links;
        states = take_all (state_table_length (node_count p) (state_count r)) written (omega (arith, length-built_steps p r pass));
      }

  pub usable-in-range : BranchOutOfRange p r node_table state_table → ⊥
  usable-in-range (link s) =
      cell-links-in-range (plan_tree p) node_table (built-links p r node_table written D)
      (subst (λ (n : ℕ). LinkOutOfRange (cell_forest n node_table)) (sym (size_is p r node_table written D)) s)
  usable-in-range (map v q h i e) = omega (arith, U.below v q h i)
  usable-in-range (step q a h i e) = omega (arith, built-step p r node_table written D q a)
  usable-in-range (label v h e) = omega (arith, label_below p r node_table written D v)

-- so where every byte of the state table's used part is below S
pub bytes-usable : (p r node_table state_table : List ℕ) → first_no (branch_table_checks p r) ≡ 0
    → node_table_part (node_count p) node_table ≡ built_node_table p
    → all_below (state_count r) (state_table_part (node_count p) (state_count r) state_table) ≡ true
    → BranchUsable p r node_table state_table
bytes-usable p r node_table state_table pass links below = record {
  accepted = pass;
  links = links;
  below = λ v q h i.
      let least = (branch-table-passes p r pass).1.states-least in
      let i : v * (state_count r + 1) + (1 + q) < node_count p * (state_count r + 1) =
      omega (arith, stride (state_count r + 1) v (node_count p) h) in
      rw (get_or-take (state_table_length (node_count p) (state_count r)) state_table (v * (state_count r + 1) + (1 + q)) 0 i) at
      (all_below-all (state_count r) (state_table_part (node_count p) (state_count r) state_table) below (omega (arith, least))
      (v * (state_count r + 1) + (1 + q)));
}

-- ---- tables as built

module _ (p r node_table state_table : List ℕ) (D : BranchBuilt p r node_table state_table) where
  pub built-usable : BranchUsable p r node_table state_table
  built-usable = record {
    accepted = D.accepted;
    links = D.links;
    below = λ v q h i.
        omega (
          arith,
          built-map p r node_table state_table D v q (omega (arith, size_is p r node_table state_table D)) i,
          branch_map-below (branch_automaton r) (plan_tree p) (built-step p r node_table state_table D) v q i,
        );
  }

  pub built-in-range : BranchOutOfRange p r node_table state_table → ⊥
  built-in-range = usable-in-range p r node_table state_table built-usable
