-- Tables by equations between neighbouring nodes: they leave one table only, the built one.
--     leaf-local, inner-local      a state byte by its equation, where the states below are the run's
--     step_local, near-local, far-local  a map by its equation, where the maps above are those to the jumps
--     local-unique                 a table that satisfies the equations node by node is the built one
--     built-local-states, built-local-maps  and the built one satisfies them
use Prim.Native.Nat.{ℕ, zero, suc, ◌+◌, ◌-◌, ◌*◌, ◌≤◌, ◌<◌}
use mathlib.Core.Path.{◌≡◌, sym, ap, ap₂, ◌∙◌}
use mathlib.Core.List.{List}
use native.Mathlib.Decide.{dec_lt, ℕ_discrete}
use native.Mathlib.Omega.{arith}
use lib.ListN.{length, take}
use borrow.Author.Tests.{eq-eqb, ne_eqb}
use Rattle.trees.specs.Tree.{Tree, size, kind_at, label_at}
use Rattle.trees.specs.Automaton.{Automaton, state}
use Rattle.trees.specs.Numbering.{sub, parent}
use Rattle.trees.specs.Jumps.{jump}
use Rattle.trees.specs.Tables.{step_up, state_map, state_table_of}
use Rattle.trees.proofs.NodeLaws.{up}
use Rattle.trees.proofs.JumpLaws.{jump_in, jump_above}
use Rattle.trees.proofs.TableRows.{state_table_of-state}
use Rattle.trees.proofs.RunLaws.{Children, children, state-leaf, state-inner}
use Rattle.trees.proofs.MapLaws.{left-sibling-in, right-sibling-in, step_up-right, step_up-left, step_up-below}
use Rattle.trees.proofs.MapLaws.{state_map-root, state_map-near, state_map-far, state_map-below}
use Rattle.tables.specs.StateCells.{state_cell, map_cell}
use Rattle.table_checks.specs.inner.LocalTables.{step_cells, LocalStates, LocalMaps}
use Rattle.tables.proofs.TableTestLaws.{cells-table, table-maps as cells-maps}

-- ---- states: those of the nodes below i are the run's

abbrev pub StatesTo : Automaton → Tree → List ℕ → ℕ → Type 0
StatesTo A t b i = (v : ℕ) → v < i → state_cell A.states b v ≡ state A (sub t v)

module _ (A : Automaton) (t : Tree) (b : List ℕ) (v : ℕ) (h : v < size t) where
  pub leaf-local : kind_at t v ≡ 0 → A.ι (label_at t v) ≡ state A (sub t v)
  leaf-local e = sym (state-leaf A t v h e)

  pub inner-local : (kind_at t v ≡ 0 → ⊥) → StatesTo A t b v
      → A.δ (state_cell A.states b (v - 1 - size (sub t (v - 1)))) (label_at t v) (state_cell A.states b (v - 1))
      ≡ state A (sub t v)
  inner-local e to =
      let C : Children t v = children t v h e in
      ap₂ (λ (p q : ℕ). A.δ p (label_at t v) q) (to (v - 1 - size (sub t (v - 1))) C.left_in)
      (to (v - 1) (omega (arith, C.pos)))
      ∙ sym (state-inner A t v h e)

states-to : (A : Automaton) (t : Tree) (b : List ℕ) → LocalStates A t b → (i : ℕ) → i ≤ size t → StatesTo A t b i
states-to A t b loc zero l v h = absurd (omega arith)
states-to A t b loc (suc i) l v h = go (states-to A t b loc i (omega arith))
  where
    go : StatesTo A t b i → state_cell A.states b v ≡ state A (sub t v)
    go to = elim (ℕ_discrete v i) [
      | yes e ↦ rw e (elim (ℕ_discrete (kind_at t i) 0) [
        | yes z ↦ loc.at_leaf i (omega arith) z ∙ leaf-local A t b i (omega arith) z
        | no z ↦ loc.at_inner i (omega arith) z ∙ inner-local A t b i (omega arith) z to
      ])
      | no e ↦ to v (omega arith)
    ]

-- ---- maps: those of the nodes from i on lead to the jumps

abbrev pub MapsFrom : Automaton → Tree → List ℕ → ℕ → Type 0
MapsFrom A t b i = (v : ℕ) → i ≤ v → v < size t → (q : ℕ) → q < A.states → map_cell A.states b v q ≡ state_map A t v q

module _ (A : Automaton) (t : Tree) (b : List ℕ) (to : StatesTo A t b (size t)) (v : ℕ) (h : v + 1 < size t) where
  pub step_right : (q : ℕ) → v + 1 ≡ parent t v
      → A.δ (state_cell A.states b (v - size (sub t v))) (label_at t (parent t v)) q ≡ step_up A t v q
  step_right q e =
      ap (λ (x : ℕ). A.δ x (label_at t (parent t v)) q) (to (v - size (sub t v)) (left-sibling-in t v h e))
      ∙ sym (step_up-right A t v h q e)

  pub step_left : (q : ℕ) → (v + 1 ≡ parent t v → ⊥)
      → A.δ q (label_at t (parent t v)) (state_cell A.states b (parent t v - 1)) ≡ step_up A t v q
  step_left q e =
      ap (λ (x : ℕ). A.δ q (label_at t (parent t v)) x) (to (parent t v - 1) (right-sibling-in t v h e))
      ∙ sym (step_up-left A t v h q e)

  pub step_local : (q : ℕ) → step_cells A t b v q ≡ step_up A t v q
  unfolding step_cells
  step_local q = elim (ℕ_discrete (v + 1) (parent t v)) [
    | yes e ↦ rw (eq-eqb (v + 1) (parent t v) e) (step_right q e)
    | no e ↦ rw (ne_eqb (v + 1) (parent t v) e) (step_left q e)
  ]

  module _ (below : (p a q : ℕ) → A.δ p a q < A.states) (from : MapsFrom A t b (v + 1)) where
    pub far-local : (q : ℕ) → (jump t v ≡ parent t v → ⊥) → q < A.states
        → map_cell A.states b (jump t (parent t v)) (map_cell A.states b (parent t v) (step_up A t v q))
        ≡ state_map A t v q
    far-local q ne l =
        let p : ℕ = parent t v in
        let above : v < p = (up t v h).above in
        let hp : p < size t = (up t v h).below in
        let x : step_up A t v q < A.states = step_up-below A t below v q l in
        let y : state_map A t p (step_up A t v q) < A.states = state_map-below A t below p (step_up A t v q) x in
        ap (map_cell A.states b (jump t p)) (from p (omega arith) hp (step_up A t v q) x)
        ∙ from (jump t p) (omega (arith, jump_above t p hp)) (jump_in t p hp) (state_map A t p (step_up A t v q)) y
        ∙ sym (state_map-far A t v q h ne)

module _ (A : Automaton) (t : Tree) (b : List ℕ) (below : (p a q : ℕ) → A.δ p a q < A.states)
    (loc : LocalStates A t b) (maps : LocalMaps A t b) where
  to_end : StatesTo A t b (size t)
  to_end = states-to A t b loc (size t) (omega arith)

  -- the maps of all nodes but the first i
  maps-from : (n i : ℕ) → n + i ≡ size t → MapsFrom A t b i
  maps-from zero i e v l h q z = absurd (omega arith)
  maps-from (suc n) i e v l h q z = go (maps-from n (i + 1) (omega arith))
    where
      go : MapsFrom A t b (i + 1) → map_cell A.states b v q ≡ state_map A t v q
      go from = elim (dec_lt i v) [
        | yes m ↦ from v (omega arith) h q z
        | no m ↦ elim (ℕ_discrete (v + 1) (size t)) [
          | yes r ↦ maps.at_root v q r z ∙ sym (state_map-root A t v q r)
          | no r ↦ (let k : v + 1 < size t = omega arith in
              let from2 : MapsFrom A t b (v + 1) = λ u a. from u (omega arith) in
              elim (ℕ_discrete (jump t v) (parent t v)) [
                | yes j ↦ maps.near v q k j z ∙ step_local A t b to_end v k q ∙ sym (state_map-near A t v q k j)
                | no j ↦ maps.far v q k j z
                    ∙ ap (λ (x : ℕ). map_cell A.states b (jump t (parent t v)) (map_cell A.states b (parent t v) x))
                    (step_local A t b to_end v k q)
                    ∙ far-local A t b to_end v k below from2 q j z
              ])
        ]
      ]

-- ---- a table by its cells

module _ (A : Automaton) (t : Tree) (b : List ℕ) where
  pub table-of-cells : size t * (A.states + 1) ≤ length b → StatesTo A t b (size t) → MapsFrom A t b 0
      → take (size t * (A.states + 1)) b ≡ state_table_of A t
  unfolding state_table_of
  table-of-cells room to from =
      cells-table A.states (size t) (λ v. state A (sub t v)) (state_map A t) b room to (λ v h. from v (omega arith) h)

  module _ (e : take (size t * (A.states + 1)) b ≡ state_table_of A t) where
    pub table-states : StatesTo A t b (size t)
    table-states v h = state_table_of-state A t b e v h

    pub table-maps : MapsFrom A t b 0
    unfolding state_table_of
    table-maps v l h = cells-maps A.states (size t) (λ u. state A (sub t u)) (state_map A t) b e v h

-- a table that satisfies the equations node by node is the built one
pub local-unique : (A : Automaton) (t : Tree) (b : List ℕ) → ((p a q : ℕ) → A.δ p a q < A.states)
    → size t * (A.states + 1) ≤ length b → LocalStates A t b → LocalMaps A t b
    → take (size t * (A.states + 1)) b ≡ state_table_of A t
local-unique A t b below room loc maps =
    table-of-cells A t b room (to_end A t b below loc maps) (maps-from A t b below loc maps (size t) 0 (omega arith))

-- and the built one satisfies them
module _ (A : Automaton) (t : Tree) (b : List ℕ) (e : take (size t * (A.states + 1)) b ≡ state_table_of A t) where
  pub built-local-states : LocalStates A t b
  built-local-states =
      let to : StatesTo A t b (size t) = table-states A t b e in
      record {
        at_leaf = λ v h z. to v h ∙ sym (leaf-local A t b v h z);
        at_inner = λ v h z. to v h ∙ sym (inner-local A t b v h z (λ u l. to u (omega arith)));
      }

  pub built-local-maps : ((p a q : ℕ) → A.δ p a q < A.states) → LocalMaps A t b
  built-local-maps below =
      let to : StatesTo A t b (size t) = table-states A t b e in
      let from : MapsFrom A t b 0 = table-maps A t b e in
      record {
        at_root = λ v q r l. from v (omega arith) (omega arith) q l ∙ state_map-root A t v q r;
        near = λ v q h j l. from v (omega arith) (omega arith) q l ∙ state_map-near A t v q h j
            ∙ sym (step_local A t b to v h q);
        far = λ v q h j l. from v (omega arith) (omega arith) q l
            ∙ sym (ap (λ (x : ℕ). map_cell A.states b (jump t (parent t v)) (map_cell A.states b (parent t v) x))
            (step_local A t b to v h q)
            ∙ far-local A t b to v h below (λ u a. from u (omega arith)) q j l);
      }
