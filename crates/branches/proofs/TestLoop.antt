-- The iterations of the loops that compare the caller's table with a branch table's build, from the root down.
--     root-state-same, state-same         a state byte that is what the build would write is the automaton's
--     root-state-differs, state-differs   where it is not, the table is not the built one
--     all-states                          at the end all are
--     root-map-same, map_same, root-map-differs, map-differs, all-maps   the same of the maps
-- What the build would write at a node is known from the build's own iterations (StepLoop, MapLoop).
use Prim.Native.Nat.{ℕ, ◌+◌, ◌*◌, ◌<◌}
use mathlib.Core.Path.{◌≡◌, sym, ◌∙◌}
use mathlib.Core.Bool.{true, false}
use mathlib.Core.List.{List}
use native.Mathlib.Omega.{arith}
use lib.ListN.{get_or}
use Rattle.trees.specs.Tables.{branch_state, branch_map}
use Rattle.trees.proofs.BranchMapLaws.{branch_map-root}
use Rattle.tables.specs.node_tables.Cells.{parent_cell}
use Rattle.tables.specs.StateCells.{state_cell}
use Rattle.tables.specs.inner.Compare.{row_equals}
use Rattle.tables.proofs.CompareLaws.{row_equals-ext}
use Rattle.tables.proofs.MapTableLaws.{kept_row}
use Rattle.tables.proofs.TableTestLaws.{states-same-yes, states-same-no, maps-same-yes, maps-same-no}
use Rattle.branches.specs.inner.BranchGiven.{BranchArgs, Stepped}
use Rattle.branches.specs.inner.Maps.{node_map, Mapped}
use Rattle.branches.specs.inner.BranchTests.{StepsTested, MapsTested}
use Rattle.branches.proofs.StepLoop.{states-start, states-kept, step_is, root_is}
use Rattle.branches.proofs.MapLoop.{node_map-is, map-iteration, map-root}

module _ (ls node_table st : List ℕ) (s k n m : ℕ) (A : BranchArgs ls node_table st s k n m) (b : List ℕ) where
  -- ---- state bytes

  module _ (v : ℕ) (e : v + 1 ≡ n) where
    pub root-state-same : state_cell s b v ≡ get_or st (0 * k + get_or ls v 0) 0 → Stepped ls node_table st s k n v b b
    root-state-same z B t L =
        states-kept s (branch_state B t) n v b b (rw e (states-start s (branch_state B t) n b))
        (z ∙ root_is ls node_table st s k n m A v e B t L)

    pub root-state-differs : (state_cell s b v ≡ get_or st (0 * k + get_or ls v 0) 0 → ⊥)
        → StepsTested ls node_table st s k n b false
    root-state-differs z B t L =
        sym (states-same-no s n (branch_state B t) b v (omega arith)
        (λ y. z (y ∙ sym (root_is ls node_table st s k n m A v e B t L))))

  module _ (v : ℕ) (h : v + 1 < n) (S : Stepped ls node_table st s k n (v + 1) b b) where
    pub state-same : state_cell s b v ≡ get_or st (state_cell s b (parent_cell node_table v) * k + get_or ls v 0) 0
        → Stepped ls node_table st s k n v b b
    state-same z B t L = states-kept s (branch_state B t) n v b b (S B t L)
        (z ∙ step_is ls node_table st s k n m A v b b S h B t L)

    pub state-differs : (state_cell s b v ≡ get_or st (state_cell s b (parent_cell node_table v) * k + get_or ls v 0) 0 → ⊥)
        → StepsTested ls node_table st s k n b false
    state-differs z B t L =
        sym (states-same-no s n (branch_state B t) b v (omega arith)
        (λ y. z (y ∙ sym (step_is ls node_table st s k n m A v b b S h B t L))))

  pub all-states : Stepped ls node_table st s k n 0 b b → StepsTested ls node_table st s k n b true
  all-states S B t L = sym (states-same-yes s n (branch_state B t) b (λ v h. (S B t L).cells v (omega arith) h))

  -- ---- maps

  module _ (v : ℕ) (e : v + 1 ≡ n) where
    pub root-map-same : row_equals s b v (λ q. q) ≡ true → Mapped ls node_table st s k n v b b
    root-map-same z = map-root ls node_table st s k n m A v b b e (kept_row s b v (λ q. q) z)

    pub root-map-differs : row_equals s b v (λ q. q) ≡ false → MapsTested ls node_table st s k n b false
    root-map-differs z B t L =
        sym (maps-same-no s n (branch_map B t) b v (omega arith)
        (row_equals-ext s b v (branch_map B t v) (λ q. q) (λ q l. branch_map-root B t v q (e ∙ sym L.count)) ∙ z))

  module _ (v : ℕ) (h : v + 1 < n) (S : Mapped ls node_table st s k n (v + 1) b b) where
    pub map_same : row_equals s b v (node_map ls node_table st s k b v) ≡ true → Mapped ls node_table st s k n v b b
    map_same z = map-iteration ls node_table st s k n m A v b b b S h (kept_row s b v (node_map ls node_table st s k b v) z)

    pub map-differs : row_equals s b v (node_map ls node_table st s k b v) ≡ false → MapsTested ls node_table st s k n b false
    map-differs z B t L =
        sym (maps-same-no s n (branch_map B t) b v (omega arith)
        (row_equals-ext s b v (branch_map B t v) (node_map ls node_table st s k b v)
        (λ q l. sym (node_map-is B t ls node_table st s k n L A.steps_below v h b (S B t L).maps q l)) ∙ z))

  pub all-maps : Mapped ls node_table st s k n 0 b b → MapsTested ls node_table st s k n b true
  all-maps S B t L = sym (maps-same-yes s n (branch_map B t) b (λ v h q l. (S B t L).maps v q (omega arith) h l))
