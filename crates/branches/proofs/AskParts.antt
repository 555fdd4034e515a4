-- The answer of a branch question by its climb.
--     replay-state                what a climb ends in is a state
--     first_runs                  the first state is read from the runs of labels and steps
--     Handed, handed, replay-is   what is handed on is the caller's input
use Prim.Native.Nat.{ℕ, ◌+◌, ◌-◌, ◌*◌, ◌<◌}
use mathlib.Core.Path.{◌≡◌, refl, sym, ap, ◌∙◌}
use mathlib.Core.List.{List}
use mathlib.Core.Option.{Option, none, some, some-injective}
use lib.ListN.{length, take, drop}
use Rattle.trees.specs.Climb.{Move, and_then, climb}
use Rattle.trees.specs.Passed.{passed_by}
use Rattle.trees.proofs.MoveLaws.{none-some}
use Rattle.formats.specs.Plan.{node_count, labels_within}
use Rattle.formats.specs.Rules.{state_count, label_count, branch_length, branch_steps, branch_marks}
use Rattle.formats.proofs.PlanLaws.{labels-part}
use Rattle.formats.proofs.BranchLaws.{steps-part, branch-marks-part-exact}
use Rattle.tables.specs.node_tables.Cells.{depth_cell, cell_forest}
use Rattle.tables.specs.declared.answers.Reached.{Reached}
use Rattle.tables.specs.Climbs.{reached}
use Rattle.tables.specs.Replays.{state_move, carry_down, replay_on}
use Rattle.tables.proofs.ReplayLaws.{down-below}
use Rattle.branches.specs.declared.answers.Reading.{Reading}
use Rattle.branches.specs.declared.answers.Reading.TheVariants.{WithUpper, BelowUpper}
use Rattle.branches.specs.Question.{first_state}
use Rattle.branches.specs.inner.Finish.{first_of}

module _ (n s k : ℕ) (ls st node_table state_table : List ℕ) (l to q : ℕ) where
  -- a climb that ends in x, with its moves
  pub record Replayed (x : Reached) : Type 0 where
    pub moves : List Move
    pub climbed : climb (cell_forest n node_table) l to ≡ some moves
    pub down : carry_down (state_move s k ls st state_table) moves q ≡ some x.state
    pub links : x.links ≡ length moves
    pub passed : x.passed ≡ passed_by (cell_forest n node_table) l moves

  pub replayed : (x : Reached) → replay_on n s k ls st node_table state_table l to q ≡ some x → Replayed x
  unfolding replay_on
  replayed x = go (climb (cell_forest n node_table) l to) refl
    where
      found : (ms : List Move) → climb (cell_forest n node_table) l to ≡ some ms → (o : Option ℕ)
          → carry_down (state_move s k ls st state_table) ms q ≡ o
          → and_then o (λ y. some (reached y (length ms) (passed_by (cell_forest n node_table) l ms))) ≡ some x → Replayed x
      found ms c none d e = absurd (none-some e)
      found ms c (some y) d e =
          let z : reached y (length ms) (passed_by (cell_forest n node_table) l ms) ≡ x = some-injective _ x e in
          record {
            moves = ms;
            climbed = c;
            down = d ∙ ap (λ (w : Reached). some w.state) z;
            links = sym (ap (λ (w : Reached). w.links) z);
            passed = sym (ap (λ (w : Reached). w.passed) z);
          }

      go : (o : Option (List Move)) → climb (cell_forest n node_table) l to ≡ o
          → and_then o (λ ms. and_then (carry_down (state_move s k ls st state_table) ms q) (λ y.
          some (reached y (length ms) (passed_by (cell_forest n node_table) l ms)))) ≡ some x → Replayed x
      go none c e = absurd (none-some e)
      go (some ms) c e = found ms c (carry_down (state_move s k ls st state_table) ms q) refl e

  pub replay-state : q < s → (x : Reached) → replay_on n s k ls st node_table state_table l to q ≡ some x → x.state < s
  replay-state h x e = let w = replayed x e in down-below s k ls st state_table w.moves q x.state h w.down

-- the first state is read from the runs of labels and steps
pub first_runs : (reading : Reading) (p r : List ℕ) (u : ℕ)
    → first_state reading p r u ≡ first_of reading (state_count r) (label_count r) (labels_within p) (branch_steps r) u
unfolding first_state first_of
first_runs WithUpper p r u = refl
first_runs BelowUpper p r u = refl

-- ---- from what is handed on

-- the header numbers, the depth and the runs are those of the inputs
pub record Handed (p r node_table : List ℕ) (u n s k to : ℕ) (ls st mk : List ℕ) : Type 0 where
  pub nodes : n ≡ node_count p
  pub states : s ≡ state_count r
  pub labels : k ≡ label_count r
  pub depth : to ≡ depth_cell node_table u
  pub label-run : ls ≡ labels_within p
  pub step_run : st ≡ branch_steps r
  pub mark-run : mk ≡ branch_marks r

pub handed : (p r node_table : List ℕ) (u n s k to : ℕ) → n ≡ node_count p → s ≡ state_count r → k ≡ label_count r
    → to ≡ depth_cell node_table u → length r ≡ branch_length (state_count r) (label_count r)
    → Handed p r node_table u n s k to (take (12 + n - 12) (drop 12 p)) (take (16 + s * k - 16) (drop 16 r))
    (take (length r - (16 + s * k)) (drop (16 + s * k) r))
handed p r node_table u n s k to a b c d e = record {
  nodes = a;
  states = b;
  labels = c;
  depth = d;
  label-run = labels-part p n a;
  step_run = steps-part r s k b c;
  mark-run = branch-marks-part-exact r s k e b c;
}

module _ (reading : Reading) (p r node_table state_table : List ℕ) (u l n s k to : ℕ) (ls st mk : List ℕ)
    (H : Handed p r node_table u n s k to ls st mk) where
  pub replay-is : (q : ℕ) → replay_on n s k ls st node_table state_table l to q
      ≡ replay_on (node_count p) (state_count r) (label_count r) (labels_within p) (branch_steps r) node_table state_table l
      (depth_cell node_table u) q
  replay-is q = rw (H.nodes, H.states, H.labels, H.depth, H.label-run, H.step_run)

  pub first-is : first_of reading s k ls st u ≡ first_state reading p r u
  first-is = rw (H.states, H.labels, H.label-run, H.step_run) (sym (first_runs reading p r u))
