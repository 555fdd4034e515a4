-- Both tables by pairs: all tests together are the test for the built tables.
--     right-step, left_step          the entries that a pair reads are the steps to the parent
--     tabled-states, tabled-maps, local-tabled   the tests of states and maps are the equations between neighbours
--     both-built, built-both         all tests pass exactly where both tables are the built ones
use Prim.Native.Nat.{ℕ, ◌+◌, ◌-◌, ◌*◌, ◌≤◌, ◌<◌}
use mathlib.Core.Path.{◌≡◌, sym, ap, ap₂, ◌∙◌, subst}
use mathlib.Core.List.{List}
use mathlib.Core.Logic.{◌⊎◌, inl, inr}
use native.Mathlib.Omega.{arith}
use lib.ListN.{length, get_or, take}
use borrow.Author.Tests.{eq-eqb, ne_eqb}
use Rattle.trees.specs.Tree.{Tree, kinds_of, labels_of, size, label_at}
use Rattle.trees.specs.Automaton.{Automaton}
use Rattle.trees.specs.Numbering.{sub, parent}
use Rattle.trees.specs.Jumps.{jump}
use Rattle.trees.specs.Tables.{node_table_of, state_table_of}
use Rattle.trees.proofs.NodeLaws.{Inner, inner, Up, up, size-pos}
use Rattle.trees.proofs.JumpLaws.{jump_in}
use Rattle.trees.proofs.MapLaws.{parent-inner}
use Rattle.formats.specs.Rules.{tree_automaton}
use Rattle.tables.specs.node_tables.Cells.{jump_cell}
use Rattle.tables.specs.node_tables.NodeCells.{NodeCells}
use Rattle.trees.proofs.PostorderLaws.{size_of, kind-of}
use Rattle.tables.proofs.node_tables.UpLoop.{child-is}
use Rattle.tables.proofs.node_tables.CellLaws.{link-cells, cells-link}
use Rattle.tables.specs.StateCells.{state_cell, map_cell}
use Rattle.tables.specs.inner.Compare.{near_entry}
use Rattle.tables.specs.inner.MapPairs.{row_of, col_of}
use Rattle.tables.specs.inner.States.{inner_state}
use Rattle.tables.specs.node_tables.inner.UpPass.{left_of}
use Rattle.table_checks.specs.inner.LocalTables.{step_cells, LocalStates, LocalMaps}
use Rattle.table_checks.proofs.LocalLaws.{local-unique, built-local-states, built-local-maps}
use Rattle.table_checks.specs.inner.PairNodes.{within}
use Rattle.table_checks.proofs.PairNodeLaws.{within_in, Pair, NodePairs, pairs-cells, cells-pairs}
use Rattle.table_checks.proofs.PairStateLaws.{Rows}

-- a table of states whose every leaf, pair and root passes
pub record StatePairs (ks ls node_table lv inn : List ℕ) (s k : ℕ) (b : List ℕ) : Type 0 where
  pub leaves : (v : ℕ) → v < length ks → get_or ks v 0 ≡ 0 → state_cell s b v ≡ get_or lv (get_or ls v 0) 0
  pub states : (v : ℕ) → v < length ks → (get_or ks v 0 ≡ 0 → ⊥)
      → state_cell s b v ≡ inner_state node_table b inn s k v (get_or ls v 0)
  pub rows : (v : ℕ) → v < length ks → (get_or ks v 0 ≡ 0 → ⊥)
      → Rows node_table inn s (length ks) b v (left_of node_table v) (row_of ls node_table b s k v) (col_of ls b s v) (k * s)
  pub root : (v q : ℕ) → v + 1 ≡ length ks → q < s → map_cell s b v q ≡ q

module _ (s k : ℕ) (lv inn mk : List ℕ) (t : Tree) (ks ls node_table b : List ℕ) (ek : kinds_of t ≡ ks)
    (el : labels_of t ≡ ls)
    (L : NodeCells t node_table) where
  A : Automaton
  A = tree_automaton s k lv inn mk

  z : length ks ≡ size t
  z = size_of t ks ek

  label : (v : ℕ) → get_or ls v 0 ≡ label_at t v
  label v = ap (λ (l : List ℕ). get_or l v 0) (sym el)

  -- ---- one inner node
  module _ (p : ℕ) (hp : p < size t) (I : Inner t p) where
    right_in : p - 1 + 1 < size t
    right_in = omega (arith, I.at)

    left_in : I.left + 1 < size t
    left_in = omega (arith, I.at)

    left_is : left_of node_table p ≡ I.left
    left_is = omega (arith, L.sizes (p - 1) (omega arith), I.at)

    left_far : I.left + 1 ≡ p → ⊥
    left_far e = omega (arith, I.at, size-pos (sub t (p - 1)))

    right-step : (q : ℕ) → near_entry inn (row_of ls node_table b s k p) 1 q ≡ step_cells A t b (p - 1) q
    unfolding step_cells A
    right-step q =
        let e : p - 1 + 1 ≡ p = omega (arith, I.at) in
        let f : left_of node_table p ≡ p - 1 - size (sub t (p - 1)) = ap (λ (x : ℕ). p - 1 - x)
        (L.sizes (p - 1) (omega arith)) in
        let i : row_of ls node_table b s k p + q * 1 ≡ row_of ls node_table b s k p + q = omega arith in
        rw (I.right-up, eq-eqb (p - 1 + 1) p e, i, f, label p)

    left_step : (q : ℕ) → near_entry inn (col_of ls b s p) (k * s) q ≡ step_cells A t b I.left q
    unfolding step_cells A
    left_step q =
        let i : col_of ls b s p + q * (k * s) ≡ (q * k + get_or ls p 0) * s + state_cell s b (p - 1) = omega arith in
        rw (I.left_up, ne_eqb (I.left + 1) p left_far, i, label p)

    inner-is : inner_state node_table b inn s k p (get_or ls p 0)
        ≡ A.δ (state_cell s b (p - 1 - size (sub t (p - 1)))) (label_at t p) (state_cell s b (p - 1))
    unfolding A
    inner-is =
        let f : left_of node_table p ≡ p - 1 - size (sub t (p - 1)) = ap (λ (x : ℕ). p - 1 - x)
        (L.sizes (p - 1) (omega arith)) in
        rw (f, label p)

    -- both children jump to the same node
    right-jump : jump t (p - 1) ≡ jump_cell node_table (p - 1)
    right-jump = sym (L.jumps (p - 1) (omega arith))

    left-jump : (get_or ks p 0 ≡ 0 → ⊥) → jump t I.left ≡ jump_cell node_table (p - 1)
    left-jump k =
        let q : Pair (length ks) node_table p = (cells-pairs t ks node_table ek L).pairs p (omega (arith, z)) k in
        sym (L.jumps I.left (omega arith)) ∙ ap (jump_cell node_table) (sym left_is) ∙ q.left-jump
        ∙ sym q.right-jump

    jump-is : within (length ks) (jump_cell node_table p) ≡ jump t p
    jump-is =
        let e : jump_cell node_table p ≡ jump t p = L.jumps p hp in
        within_in (length ks) (jump_cell node_table p) (omega (arith, z, jump_in t p hp)) ∙ e

  inner-kind : (v : ℕ) → (get_or ks v 0 ≡ 0 → ⊥) → get_or (kinds_of t) v 0 ≡ 0 → ⊥
  inner-kind v k e = k (sym (kind-of t ks v ek) ∙ e)

  -- ---- the tests are the local equations

  module _ (T : StatePairs ks ls node_table lv inn s k b) where
    tabled-states : LocalStates A t b
    unfolding A
    tabled-states = record {
      at_leaf = λ v h e. T.leaves v (omega (arith, z)) (sym (kind-of t ks v ek) ∙ e)
          ∙ ap (λ (a : ℕ). get_or lv a 0) (label v);
      at_inner = λ v h e. T.states v (omega (arith, z)) (λ y. e (kind-of t ks v ek ∙ y))
          ∙ inner-is v h (inner t v h e);
    }

    -- node v is one of its parent's two children
    module _ (v : ℕ) (h : v + 1 < size t) where
      U : Up t v (parent t v)
      U = up t v h

      I : Inner t (parent t v)
      I = parent-inner t v h

      kind : get_or ks (parent t v) 0 ≡ 0 → ⊥
      kind e = omega (arith, U.inside, kind-of t ks (parent t v) ek)

      R : Rows node_table inn s (length ks) b (parent t v) (left_of node_table (parent t v))
          (row_of ls node_table b s k (parent t v))
          (col_of ls b s (parent t v)) (k * s)
      R = T.rows (parent t v) (omega (arith, z, U.below)) kind

      is-child : (v ≡ parent t v - 1) ⊎ (v ≡ I.left)
      is-child = child-is t (parent t v) I v U

      same-jump : jump t v ≡ jump_cell node_table (parent t v - 1)
      same-jump = elim is-child [
        | inl c ↦ ap (jump t) c ∙ right-jump (parent t v) U.below I
        | inr c ↦ ap (jump t) c ∙ left-jump (parent t v) U.below I kind
      ]

      near-map : (q : ℕ) → jump t v ≡ parent t v → q < s → map_cell s b v q ≡ step_cells A t b v q
      near-map q j l =
          let n : jump_cell node_table (parent t v - 1) ≡ parent t v = sym same-jump ∙ j in
          elim is-child [
            | inl c ↦ subst (λ (u : ℕ). map_cell s b u q ≡ step_cells A t b u q) (sym c)
                (R.near-right n q l ∙ right-step (parent t v) U.below I q)
            | inr c ↦ subst (λ (u : ℕ). map_cell s b u q ≡ step_cells A t b u q) (sym c)
                (ap (λ (u : ℕ). map_cell s b u q) (sym (left_is (parent t v) U.below I)) ∙ R.near-left n q l
                ∙ left_step (parent t v) U.below I q)
          ]

      far-map : (q : ℕ) → (jump t v ≡ parent t v → ⊥) → q < s
          → map_cell s b v q ≡ map_cell s b (jump t (parent t v)) (map_cell s b (parent t v) (step_cells A t b v q))
      far-map q j l =
          let n : jump_cell node_table (parent t v - 1) ≡ parent t v → ⊥ = λ e. j (same-jump ∙ e) in
          let f : ℕ → ℕ → ℕ = λ u x. map_cell s b u (map_cell s b (parent t v) x) in
          let w : within (length ks) (jump_cell node_table (parent t v)) ≡ jump t (parent t v) = jump-is (parent t v)
          U.below I in
          elim is-child [
            | inl c ↦ subst (λ (u : ℕ). map_cell s b u q ≡ f (jump t (parent t v)) (step_cells A t b u q)) (sym c)
                (R.far-right n q l ∙ ap₂ f w (right-step (parent t v) U.below I q))
            | inr c ↦ subst (λ (u : ℕ). map_cell s b u q ≡ f (jump t (parent t v)) (step_cells A t b u q)) (sym c)
                (ap (λ (u : ℕ). map_cell s b u q) (sym (left_is (parent t v) U.below I)) ∙ R.far-left n q l
                ∙ ap₂ f w (left_step (parent t v) U.below I q))
          ]

    tabled-maps : LocalMaps A t b
    unfolding A
    tabled-maps = record {
      at_root = λ v q e l. T.root v q (e ∙ sym z) l;
      near = λ v q h j l. near-map v h q j l;
      far = λ v q h j l. far-map v h q j l;
    }

  module _ (S : LocalStates A t b) (M : LocalMaps A t b) where
    local-rows : (p : ℕ) → p < length ks → (get_or ks p 0 ≡ 0 → ⊥)
        → Rows node_table inn s (length ks) b p (left_of node_table p) (row_of ls node_table b s k p) (col_of ls b s p)
        (k * s)
    unfolding A
    local-rows p h k =
        let hp : p < size t = omega (arith, z) in
        let I : Inner t p = inner t p hp (inner-kind p k) in
        let f : ℕ → ℕ → ℕ = λ u x. map_cell s b u (map_cell s b p x) in
        let w : within (length ks) (jump_cell node_table p) ≡ jump t p = jump-is p hp I in
        record {
          near-right = λ e q l. M.near (p - 1) q (right_in p hp I) (right-jump p hp I ∙ e ∙ sym I.right-up) l
              ∙ sym (right-step p hp I q);
          near-left = λ e q l. ap (λ (u : ℕ). map_cell s b u q) (left_is p hp I)
              ∙ M.near I.left q (left_in p hp I) (left-jump p hp I k ∙ e ∙ sym I.left_up) l
              ∙ sym (left_step p hp I q);
          far-right = λ e q l. M.far (p - 1) q (right_in p hp I) (λ y. e (sym (right-jump p hp I) ∙ y ∙ I.right-up)) l
              ∙ ap (λ (x : ℕ). map_cell s b (jump t x) (map_cell s b x (step_cells A t b (p - 1) q))) I.right-up
              ∙ sym (ap₂ f w (right-step p hp I q));
          far-left = λ e q l. ap (λ (u : ℕ). map_cell s b u q) (left_is p hp I)
              ∙ M.far I.left q (left_in p hp I) (λ y. e (sym (left-jump p hp I k) ∙ y ∙ I.left_up)) l
              ∙ ap (λ (x : ℕ). map_cell s b (jump t x) (map_cell s b x (step_cells A t b I.left q))) I.left_up
              ∙ sym (ap₂ f w (left_step p hp I q));
        }

    local-tabled : StatePairs ks ls node_table lv inn s k b
    unfolding A
    local-tabled = record {
      leaves = λ v h e. S.at_leaf v (omega (arith, z)) (kind-of t ks v ek ∙ e)
          ∙ ap (λ (a : ℕ). get_or lv a 0) (sym (label v));
      states = λ v h e. S.at_inner v (omega (arith, z)) (inner-kind v e)
          ∙ sym (inner-is v (omega (arith, z)) (inner t v (omega (arith, z)) (inner-kind v e)));
      rows = local-rows;
      root = λ v q e l. M.at_root v q (e ∙ z) l;
    }

-- ---- both tables

module _ (s k : ℕ) (lv inn mk : List ℕ) (t : Tree) (ks ls node_table b : List ℕ) (ek : kinds_of t ≡ ks)
    (el : labels_of t ≡ ls)
    (below : (j : ℕ) → get_or inn j 0 < s) where
  pub both-built : length ks * 4 ≤ length node_table → length ks * (s + 1) ≤ length b → NodePairs ks node_table
      → StatePairs ks ls node_table lv inn s k b
      → (take (length ks * 4) node_table ≡ node_table_of t)
      × (take (length ks * (s + 1)) b ≡ state_table_of (tree_automaton s k lv inn mk) t)
  unfolding A
  both-built lroom room L T =
      let C : NodeCells t node_table = pairs-cells ks node_table L t ek in
      let z : length ks ≡ size t = size_of t ks ek in
      let r : size t * (s + 1) ≤ length b = subst (λ (n : ℕ). n * (s + 1) ≤ length b) z room in (
        cells-link t (length ks) node_table z lroom C,
        rw z (local-unique (tree_automaton s k lv inn mk) t b (λ p a q. below ((p * k + a) * s + q)) r
            (tabled-states s k lv inn mk t ks ls node_table b ek el C T)
            (tabled-maps s k lv inn mk t ks ls node_table b ek el C T)),
      )

  pub built-both : take (length ks * 4) node_table ≡ node_table_of t
      → take (length ks * (s + 1)) b ≡ state_table_of (tree_automaton s k lv inn mk) t
      → NodePairs ks node_table × StatePairs ks ls node_table lv inn s k b
  unfolding A
  built-both e f =
      let z : length ks ≡ size t = size_of t ks ek in
      let C : NodeCells t node_table = link-cells t (length ks) node_table z e in
      let g : take (size t * (s + 1)) b ≡ state_table_of (tree_automaton s k lv inn mk) t = rw z at f in (
        cells-pairs t ks node_table ek C,
        local-tabled s k lv inn mk t ks ls node_table b ek el C
            (built-local-states (tree_automaton s k lv inn mk) t b g)
            (built-local-maps (tree_automaton s k lv inn mk) t b g (λ p a q. below ((p * k + a) * s + q))),
      )
