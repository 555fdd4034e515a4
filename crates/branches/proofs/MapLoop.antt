-- The iterations of the loop that writes the maps of a branch table, from the root down.
--     map_below            the automaton's maps lead to states
--     node_map-near, -far   a node's map by its test
--     node_map-is           where the maps above a node are the automaton's, what follows from them is its map
--     node-args            what the node's iteration reads is inside
--     map-above            what is known from a node on, at the iteration of the node before it
--     map-iteration, map-root   the iterations
use Prim.Native.Nat.{ℕ, ◌+◌, ◌-◌, ◌*◌, ◌≤◌, ◌<◌}
use mathlib.Core.Path.{◌≡◌, sym, ap, ap₂, ◌∙◌}
use mathlib.Core.List.{List}
use native.Mathlib.Decide.{ℕ_discrete}
use native.Mathlib.Omega.{arith}
use lib.ListN.{length, get_or}
use borrow.Author.Tests.{eq-eqb, ne_eqb}
use Rattle.trees.specs.Tree.{Tree, size}
use Rattle.trees.specs.Automaton.{WordAutomaton}
use Rattle.trees.specs.Numbering.{parent}
use Rattle.trees.specs.Jumps.{jump}
use Rattle.trees.specs.Tables.{branch_map}
use Rattle.trees.proofs.NodeLaws.{up}
use Rattle.trees.proofs.JumpLaws.{jump_in, jump_above}
use Rattle.list_laws.proofs.RowLaws.{stride}
use Rattle.trees.proofs.BranchMapLaws.{branch_map-root, branch_map-near, branch_map-far, branch_map-below}
use Rattle.formats.specs.Checks.{state_table_length}
use Rattle.tables.specs.node_tables.Cells.{parent_cell, jump_cell}
use Rattle.tables.specs.StateCells.{map_cell}
use Rattle.tables.specs.inner.Rows.{RowIn, Rowed}
use Rattle.tables.specs.inner.MapTable.{MapsWritten}
use Rattle.tables.proofs.MapTableLaws.{row-ext, written_start, written-iteration}
use Rattle.branches.specs.inner.BranchGiven.{BranchGiven, BranchArgs}
use Rattle.branches.specs.inner.Maps.{step_cell, node_map, NodeArgs, Mapped}
use Rattle.branches.proofs.StepLoop.{given-label, given-parent, given_below, args-labels, args-parent, step-at}

-- ---- a node's map by its test

module _ (ls node_table st : List ℕ) (s k : ℕ) (b : List ℕ) (v q : ℕ) where
  pub node_map-near : jump_cell node_table v ≡ parent_cell node_table v
      → node_map ls node_table st s k b v q ≡ get_or st (get_or ls v 0 + q * k) 0
  unfolding node_map
  node_map-near e = rw (eq-eqb (jump_cell node_table v) (parent_cell node_table v) e)

  pub node_map-far : (jump_cell node_table v ≡ parent_cell node_table v → ⊥)
      → node_map ls node_table st s k b v q
      ≡ step_cell s b (parent_cell node_table v) (jump_cell node_table (parent_cell node_table v)) st k (get_or ls v 0) q
  unfolding node_map
  node_map-far e = rw (ne_eqb (jump_cell node_table v) (parent_cell node_table v) e)

-- ---- the automaton's maps

-- those of the nodes from i on
abbrev pub MapsAre : WordAutomaton → Tree → ℕ → ℕ → ℕ → List ℕ → Type 0
MapsAre B t s n i b = (v q : ℕ) → i ≤ v → v < n → q < s → map_cell s b v q ≡ branch_map B t v q

module _ (B : WordAutomaton) (t : Tree) (ls node_table st : List ℕ) (s k n : ℕ) (L : BranchGiven B t ls node_table st s k n)
    (below : (j : ℕ) → get_or st j 0 < s) where
  pub map_below : (v q : ℕ) → q < s → branch_map B t v q < s
  map_below v q h =
      let l : q < B.states = omega (arith, L.states) in
      omega (arith, L.states, branch_map-below B t (given_below B t ls node_table st s k n L below) v q l)

  module _ (v : ℕ) (h : v + 1 < n) where
    given_inside : v + 1 < size t
    given_inside = omega (arith, L.count)

    parent_is : parent_cell node_table v ≡ parent t v
    parent_is = given-parent B t ls node_table st s k n L v (omega arith)

    parent_above : v < parent_cell node_table v
    parent_above = rw parent_is (up t v given_inside).above

    parent_in : parent_cell node_table v < n
    parent_in = rw parent_is (omega (arith, L.count, (up t v given_inside).below))

    far-is : jump_cell node_table (parent_cell node_table v) ≡ jump t (parent t v)
    far-is = ap (jump_cell node_table) parent_is ∙ L.links.jumps (parent t v) (up t v given_inside).below

    pub far-above : v < jump_cell node_table (parent_cell node_table v)
    far-above = rw far-is
        (omega (arith, (up t v given_inside).above, jump_above t (parent t v) (up t v given_inside).below))

    pub far-in : jump_cell node_table (parent_cell node_table v) < n
    far-in = rw far-is (omega (arith, L.count, jump_in t (parent t v) (up t v given_inside).below))

    here-is : jump_cell node_table v ≡ jump t v
    here-is = L.links.jumps v (omega (arith, L.count))

    module _ (b : List ℕ) (M : MapsAre B t s n (v + 1) b) where
      pub far-map : (q : ℕ) → q < s
          → map_cell s b (jump_cell node_table (parent_cell node_table v)) q ≡ branch_map B t (jump t (parent t v)) q
      far-map q l =
          M (jump_cell node_table (parent_cell node_table v)) q (omega (arith, far-above)) far-in l
          ∙ ap (λ (u : ℕ). branch_map B t u q) far-is

      pub parent-map : (q : ℕ) → q < s → map_cell s b (parent_cell node_table v) q ≡ branch_map B t (parent t v) q
      parent-map q l =
          M (parent_cell node_table v) q (omega (arith, parent_above)) parent_in l
          ∙ ap (λ (u : ℕ). branch_map B t u q) parent_is

      pub node_map-is : (q : ℕ) → q < s → node_map ls node_table st s k b v q ≡ branch_map B t v q
      node_map-is q l = elim (ℕ_discrete (jump_cell node_table v) (parent_cell node_table v)) [
        | yes e ↦ (let z : get_or ls v 0 + q * k ≡ q * k + get_or ls v 0 = omega arith in
            node_map-near ls node_table st s k b v q e ∙ ap (λ (i : ℕ). get_or st i 0) z
            ∙ sym (L.step q (get_or ls v 0)) ∙ ap (B.step q) (sym (given-label B t ls node_table st s k n L v))
            ∙ sym (branch_map-near B t v q given_inside (sym here-is ∙ e ∙ parent_is)))
        | no e ↦ (let x : ℕ = branch_map B t (jump t (parent t v)) q in
            let y : map_cell s b (parent_cell node_table v)
            (map_cell s b (jump_cell node_table (parent_cell node_table v)) q) ≡ branch_map B t (parent t v) x =
            ap (map_cell s b (parent_cell node_table v)) (far-map q l) ∙ parent-map x (map_below (jump t (parent t v)) q l) in
            node_map-far ls node_table st s k b v q e
            ∙ sym (L.step (map_cell s b (parent_cell node_table v) (map_cell s b (jump_cell node_table (parent_cell node_table v)) q))
            (get_or ls v 0))
            ∙ ap₂ B.step y (sym (given-label B t ls node_table st s k n L v))
            ∙ sym (branch_map-far B t v q given_inside (λ z. e (here-is ∙ z ∙ sym parent_is))))
      ]

-- ---- the iterations

-- a node's row is inside a buffer that has room for the table
pub row_in : (s n v m : ℕ) → v < n → state_table_length n s ≤ m → RowIn m s v
row_in s n v m h room = omega (arith, stride (s + 1) v n h)

module _ (ls node_table st : List ℕ) (s k n m : ℕ) (A : BranchArgs ls node_table st s k n m) where
  -- what a node's iteration reads is inside, by any maps above it that are the automaton's
  pub node-args : (v : ℕ) (b : List ℕ) → MapsAre A.automaton A.tree s n (v + 1) b → v + 1 < n
      → state_table_length n s ≤ length b
      → NodeArgs ls node_table st s k b v
  node-args v b M h room =
      let B : WordAutomaton = A.automaton in
      let t : Tree = A.tree in
      let L : BranchGiven B t ls node_table st s k n = A.lent in
      let p = args-parent ls node_table st s k n m A v h in
      let j : v < jump_cell node_table (parent_cell node_table v) = far-above B t ls node_table st s k n L A.steps_below v h in
      let i : jump_cell node_table (parent_cell node_table v) < n = far-in B t ls node_table st s k n L A.steps_below v h in
      let u : ℕ = parent t v in
      record {
        label = omega (arith, args-labels ls node_table st s k n m A);
        links = omega (arith, A.node_table_room);
        parent_links = omega (arith, A.node_table_room);
        near = λ q l. omega (arith, step-at s k (length st) q (get_or ls v 0) l (A.labels_below v) A.steps_room);
        far = record {
          room = row_in s n v (length b) (omega arith) room;
          near_room = row_in s n (parent_cell node_table v) (length b) p.1 room;
          far_room = row_in s n (jump_cell node_table (parent_cell node_table v)) (length b) i room;
          near_other = λ e. omega arith;
          far_other = λ e. omega arith;
          far_below = λ q l. rw (far-map B t ls node_table st s k n L A.steps_below v h b M q l)
              (map_below B t ls node_table st s k n L A.steps_below (jump t u) q l);
          inside = λ q l. rw (parent-map B t ls node_table st s k n L A.steps_below v h b M q l)
              (step-at s k (length st) (branch_map B t u q) (get_or ls v 0)
              (map_below B t ls node_table st s k n L A.steps_below u q l) (A.labels_below v) A.steps_room);
        };
      }

  -- what is known from node v on, at the iteration of the node before it
  pub map-above : (v : ℕ) (b₀ b : List ℕ) → 0 < v → Mapped ls node_table st s k n v b₀ b
      → Mapped ls node_table st s k n (v - 1 + 1) b₀ b
  map-above v b₀ b h S = let e : v - 1 + 1 ≡ v = omega arith in rw e S

  pub map-args : (v : ℕ) (b₀ b : List ℕ) → Mapped ls node_table st s k n (v + 1) b₀ b → v + 1 < n → state_table_length n s ≤ length b
      → NodeArgs ls node_table st s k b v
  map-args v b₀ b S h room = node-args v b (S A.automaton A.tree A.lent).maps h room

  pub map-iteration : (v : ℕ) (b₀ b b₁ : List ℕ) → Mapped ls node_table st s k n (v + 1) b₀ b → v + 1 < n
      → Rowed s (node_map ls node_table st s k b v) v b b₁ → Mapped ls node_table st s k n v b₀ b₁
  map-iteration v b₀ b b₁ S h r B t L =
      let M : MapsWritten s n (branch_map B t) (v + 1) b₀ b = S B t L in
      written-iteration s n (branch_map B t) v b₀ b b₁ (omega arith) M
      (row-ext s (node_map ls node_table st s k b v) (branch_map B t v) v s b b₁ r
      (node_map-is B t ls node_table st s k n L A.steps_below v h b M.maps))

  pub map-root : (v : ℕ) (b b₁ : List ℕ) → v + 1 ≡ n → Rowed s (λ q. q) v b b₁ → Mapped ls node_table st s k n v b b₁
  map-root v b b₁ e r B t L =
      written-iteration s n (branch_map B t) v b b b₁ (omega arith) (rw e (written_start s n (branch_map B t) b))
      (row-ext s (λ q. q) (branch_map B t v) v s b b₁ r (λ q l. sym (branch_map-root B t v q (e ∙ sym L.count))))
