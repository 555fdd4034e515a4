-- A step down over sets of states, as the code has it, is the tree's own.
--     near-is   the state at the parent that is read is the one that follows
--     down_is   so the set that is computed is the step's
use Prim.Native.Nat.{ℕ, ◌+◌, ◌-◌, ◌*◌, ◌<◌}
use mathlib.Core.Path.{◌≡◌, sym, ap, ◌∙◌}
use mathlib.Core.List.{List}
use native.Mathlib.Decide.{ℕ_discrete}
use native.Mathlib.Omega.{arith}
use borrow.Author.Tests.{eq-eqb, ne_eqb}
use lib.ListN.{get_or}
use Rattle.trees.specs.Tree.{Tree, size, label_at, labels_of}
use Rattle.trees.specs.Automaton.{state}
use Rattle.trees.specs.Numbering.{sub, parent}
use Rattle.trees.specs.Tables.{step_up}
use Rattle.trees.proofs.NodeLaws.{up}
use Rattle.trees.proofs.MapLaws.{step_up-right, step_up-left}
use Rattle.formats.specs.Rules.{tree_automaton}
use Rattle.tables.specs.node_tables.Cells.{parent_cell, size_cell}
use Rattle.tables.specs.StateCells.{state_cell}
use Rattle.tables.specs.inner.Maps.{near_value}
use Rattle.colours.specs.StateSets.{member, set_step}
use Rattle.colours.proofs.SetLaws.{set_step-root, set_step-down}
use Rattle.colour_tables.specs.set_states.Down.{down_set}
use Rattle.colour_tables.proofs.set_states.DownLaws.{set_of-ext}

-- node v's parent and size, and the run's states of all nodes
module _ (s k : ℕ) (lv inn mk : List ℕ) (t : Tree) (ls b st : List ℕ) (v : ℕ) (labels : labels_of t ≡ ls)
    (up_is : v + 1 < size t → parent_cell b v ≡ parent t v) (size_is : v < size t → size_cell b v ≡ size (sub t v))
    (states : (u : ℕ) → u < size t → state_cell s st u ≡ state (tree_automaton s k lv inn mk) (sub t u)) where
  near-is : v + 1 < size t → (q : ℕ) → near_value ls b inn s k st v q ≡ step_up (tree_automaton s k lv inn mk) t v q
  unfolding near_value
  near-is h q =
      rw (up_is h, ← labels)
      (elim (ℕ_discrete (v + 1) (parent t v)) [
        | yes c ↦ rw (
          eq-eqb (v + 1) (parent t v) c,
          size_is (omega arith),
          states (v - size (sub t v)) (omega arith),
        ) (
            let x : ℕ = state (tree_automaton s k lv inn mk) (sub t (v - size (sub t v))) in
            let a : ℕ = label_at t (parent t v) in
            let i : (x * k + a) * s + q * 1 ≡ (x * k + a) * s + q = omega arith in
            ap (λ (j : ℕ). get_or inn j 0) i ∙ sym (step_up-right (tree_automaton s k lv inn mk) t v h q c))
        | no c ↦ rw (ne_eqb (v + 1) (parent t v) c, states (parent t v - 1) (omega (arith, (up t v h).below))) (
            let x : ℕ = state (tree_automaton s k lv inn mk) (sub t (parent t v - 1)) in
            let a : ℕ = label_at t (parent t v) in
            let i : a * s + x + q * (k * s) ≡ (q * k + a) * s + x = omega arith in
            ap (λ (j : ℕ). get_or inn j 0) i ∙ sym (step_up-left (tree_automaton s k lv inn mk) t v h q c))
      ])

  pub down_is : v < size t → (T : ℕ)
      → down_set ls b inn st (size t) s k v T ≡ set_step (tree_automaton s k lv inn mk) t v T
  unfolding down_set
  down_is h T = elim (ℕ_discrete (v + 1) (size t)) [
    | yes e ↦ rw (eq-eqb (v + 1) (size t) e) (sym (set_step-root (tree_automaton s k lv inn mk) t v T e))
    | no e ↦ (let l : v + 1 < size t = omega arith in
        rw (ne_eqb (v + 1) (size t) e)
        (set_of-ext s (λ x. member T (near_value ls b inn s k st v x))
        (λ x. member T (step_up (tree_automaton s k lv inn mk) t v x)) (λ x i. ap (member T) (near-is l x))
        ∙ sym (set_step-down (tree_automaton s k lv inn mk) t v T l)))
  ]
