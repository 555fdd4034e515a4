-- The iterations of the loop that writes the state bytes of a branch table, from the root down.
--     given-parent, lent-root, given-label   the cells and labels that the loops read, of a tree so given
--     states-start, states-iteration            no state byte written, and one more, for any states f; states-kept: it was
--         there already
--     step_fits, step_is, step-iteration        a node's iteration: its reads are inside their lists, and its state is
--         the automaton's
--     root-inside, root_is, root-iteration      the root's iteration
--     step-above, fits-above                    what is known from a node on, at the iteration of the node before it
use Prim.Native.Nat.{ℕ, ◌+◌, ◌-◌, ◌*◌, ◌≤◌, ◌<◌}
use mathlib.Core.Path.{◌≡◌, refl, sym, ap, ◌∙◌}
use mathlib.Core.List.{List}
use native.Mathlib.Decide.{ℕ_discrete}
use native.Mathlib.Omega.{arith}
use lib.ListN.{length, get_or, set}
use lib.Seq.{get_or-set_same, get_or-set_other}
use Rattle.trees.specs.Tree.{Tree, size, label_at}
use Rattle.trees.specs.Automaton.{WordAutomaton}
use Rattle.trees.specs.Numbering.{parent}
use Rattle.trees.specs.Tables.{branch_state}
use Rattle.trees.proofs.NodeLaws.{up, size-pos, length-labels}
use Rattle.list_laws.proofs.RowLaws.{stride, cell_in, cells-apart}
use Rattle.trees.proofs.BranchMapLaws.{branch_state-root, branch_state-down, branch_state-below}
use Rattle.formats.specs.Checks.{state_table_length}
use Rattle.tables.specs.node_tables.Cells.{parent_cell}
use Rattle.tables.specs.StateCells.{state_cell}
use Rattle.branches.specs.inner.BranchGiven.{BranchGiven, BranchArgs, StatesFrom, Stepped}

-- ---- the inputs

module _ (B : WordAutomaton) (t : Tree) (ls node_table st : List ℕ) (s k n : ℕ) (L : BranchGiven B t ls node_table st s k n) where
  pub given-pos : 0 < n
  given-pos = omega (arith, size-pos t, L.count)

  pub given-labels : length ls ≡ n
  given-labels = ap length (sym L.labels) ∙ length-labels t ∙ L.count

  pub given-label : (v : ℕ) → label_at t v ≡ get_or ls v 0
  given-label v = ap (λ (l : List ℕ). get_or l v 0) L.labels

  pub given-parent : (v : ℕ) → v < n → parent_cell node_table v ≡ parent t v
  given-parent v h = L.links.parents v (omega (arith, L.count))

  pub given_below : ((j : ℕ) → get_or st j 0 < s) → (q a : ℕ) → B.step q a < B.states
  given_below below q a = rw (L.step q a, L.states) (below (q * k + a))

-- ---- state bytes, for any states

pub states-start : (s : ℕ) (f : ℕ → ℕ) (n : ℕ) (b : List ℕ) → StatesFrom s f n n b b
states-start s f n b = record { cells = λ v l h. absurd (omega arith); kept = λ j a. refl }

pub states-iteration : (s : ℕ) (f : ℕ → ℕ) (n v : ℕ) (b₀ b : List ℕ) (y : ℕ) → StatesFrom s f n (v + 1) b₀ b → v < n
    → v * (s + 1) < length b → y ≡ f v → StatesFrom s f n v b₀ (set b (v * (s + 1)) y)
states-iteration s f n v b₀ b y S h room e = record {
  cells = λ u l q. elim (ℕ_discrete u v) [
    | yes z ↦ rw z (get_or-set_same b (v * (s + 1)) y 0 room ∙ e)
    | no z ↦ get_or-set_other b (v * (s + 1)) (u * (s + 1)) y 0
        (λ p. cells-apart (s + 1) u v 0 0 (omega arith) (omega arith) z (omega arith))
        ∙ S.cells u (omega arith) q
  ];
  kept = λ j a. get_or-set_other b (v * (s + 1)) j y 0 (a v h) ∙ S.kept j a;
}

-- a state byte that was there already
pub states-kept : (s : ℕ) (f : ℕ → ℕ) (n v : ℕ) (b₀ b : List ℕ) → StatesFrom s f n (v + 1) b₀ b → state_cell s b v ≡ f v
    → StatesFrom s f n v b₀ b
states-kept s f n v b₀ b S e = record {
  cells = λ u l q. elim (ℕ_discrete u v) [ yes z ↦ rw z e | no z ↦ S.cells u (omega arith) q ];
  kept = S.kept;
}

-- ---- the automaton's

-- the place of a step
pub step-at : (s k l q a : ℕ) → q < s → a < k → s * k ≤ l → q * k + a < l
step-at s k l q a h g room = omega (arith, stride k q s h)

-- the state byte of a node is inside a buffer that has room for the table
pub state_in : (s n v m : ℕ) → v < n → state_table_length n s ≤ m → v * (s + 1) < m
state_in s n v m h room = omega (arith, cell_in (s + 1) n v 0 m h (omega arith) room)

pub record StepFits (ls node_table st : List ℕ) (s k v : ℕ) (b : List ℕ) : Type 0 where
  pub up : parent_cell node_table v * (s + 1) < length b
  pub inside : state_cell s b (parent_cell node_table v) * k + get_or ls v 0 < length st
  pub here : v * (s + 1) < length b

module _ (ls node_table st : List ℕ) (s k n m : ℕ) (A : BranchArgs ls node_table st s k n m) where
  pub args-pos : 0 < n
  args-pos = given-pos A.automaton A.tree ls node_table st s k n A.lent

  pub args-labels : length ls ≡ n
  args-labels = given-labels A.automaton A.tree ls node_table st s k n A.lent

  pub args-parent : (v : ℕ) → v + 1 < n → (v < parent_cell node_table v) × (parent_cell node_table v < n)
  args-parent v h =
      let t : Tree = A.tree in
      let L : BranchGiven A.automaton t ls node_table st s k n = A.lent in
      let g : v + 1 < size t = omega (arith, L.count) in
      rw (given-parent A.automaton t ls node_table st s k n L v (omega arith))
      ((up t v g).above, omega (arith, L.count, (up t v g).below))

  -- what a node's iteration reads and writes is inside
  pub step_fits : (v : ℕ) (b₀ b : List ℕ) → Stepped ls node_table st s k n (v + 1) b₀ b → v + 1 < n
      → state_table_length n s ≤ length b
      → StepFits ls node_table st s k v b
  step_fits v b₀ b S h room =
      let B : WordAutomaton = A.automaton in
      let t : Tree = A.tree in
      let L : BranchGiven B t ls node_table st s k n = A.lent in
      let p = args-parent v h in
      let e : state_cell s b (parent_cell node_table v) ≡ branch_state B t (parent_cell node_table v) =
      (S B t L).cells (parent_cell node_table v) (omega arith) p.1 in
      let l : branch_state B t (parent_cell node_table v) < B.states =
      branch_state-below B t (given_below B t ls node_table st s k n L A.steps_below) (parent_cell node_table v) in
      record {
        up = state_in s n (parent_cell node_table v) (length b) p.1 room;
        inside = step-at s k (length st) (state_cell s b (parent_cell node_table v)) (get_or ls v 0)
            (omega (arith, L.states)) (A.labels_below v) A.steps_room;
        here = state_in s n v (length b) (omega arith) room;
      }

  -- what is known from node v on, at the iteration of the node before it
  pub step-above : (v : ℕ) (b₀ b : List ℕ) → 0 < v → Stepped ls node_table st s k n v b₀ b
      → Stepped ls node_table st s k n (v - 1 + 1) b₀ b
  step-above v b₀ b h S = let e : v - 1 + 1 ≡ v = omega arith in rw e S

  pub fits-above : (v : ℕ) (b₀ b : List ℕ) → 0 < v → Stepped ls node_table st s k n v b₀ b → v < n
      → state_table_length n s ≤ length b
      → StepFits ls node_table st s k (v - 1) b
  fits-above v b₀ b h S l room = step_fits (v - 1) b₀ b (step-above v b₀ b h S) (omega arith) room

  pub root-inside : (v : ℕ) → 0 * k + get_or ls v 0 < length st
  root-inside v = step-at s k (length st) 0 (get_or ls v 0) (omega (arith, A.steps_below 0)) (A.labels_below v)
      A.steps_room

  -- the state that a node's iteration reads, and the root's
  pub step_is : (v : ℕ) (b₀ b : List ℕ) → Stepped ls node_table st s k n (v + 1) b₀ b → v + 1 < n
      → (B : WordAutomaton) (t : Tree) → BranchGiven B t ls node_table st s k n
      → get_or st (state_cell s b (parent_cell node_table v) * k + get_or ls v 0) 0 ≡ branch_state B t v
  step_is v b₀ b S h B t L =
      let p = args-parent v h in
      let e : state_cell s b (parent_cell node_table v) ≡ branch_state B t (parent t v) =
      (S B t L).cells (parent_cell node_table v) (omega arith) p.1
      ∙ ap (branch_state B t) (given-parent B t ls node_table st s k n L v (omega arith)) in
      sym (L.step (state_cell s b (parent_cell node_table v)) (get_or ls v 0))
      ∙ rw (e, ← given-label B t ls node_table st s k n L v) (sym (branch_state-down B t v (omega (arith, L.count))))

  pub root_is : (v : ℕ) → v + 1 ≡ n → (B : WordAutomaton) (t : Tree) → BranchGiven B t ls node_table st s k n
      → get_or st (0 * k + get_or ls v 0) 0 ≡ branch_state B t v
  root_is v e B t L =
      sym (L.step 0 (get_or ls v 0))
      ∙ ap (B.step 0) (sym (given-label B t ls node_table st s k n L v))
      ∙ sym (branch_state-root B t v (e ∙ sym L.count))

  pub step-iteration : (v : ℕ) (b₀ b : List ℕ) → Stepped ls node_table st s k n (v + 1) b₀ b → v + 1 < n → v * (s + 1) < length b
      → Stepped ls node_table st s k n v b₀
      (set b (v * (s + 1)) (get_or st (state_cell s b (parent_cell node_table v) * k + get_or ls v 0) 0))
  step-iteration v b₀ b S h room B t L =
      states-iteration s (branch_state B t) n v b₀ b _ (S B t L) (omega arith) room (step_is v b₀ b S h B t L)

  pub root-iteration : (v : ℕ) (b : List ℕ) → v + 1 ≡ n → v * (s + 1) < length b
      → Stepped ls node_table st s k n v b (set b (v * (s + 1)) (get_or st (0 * k + get_or ls v 0) 0))
  root-iteration v b e room B t L =
      states-iteration s (branch_state B t) n v b b _ (rw e (states-start s (branch_state B t) n b)) (omega arith) room
      (root_is v e B t L)
