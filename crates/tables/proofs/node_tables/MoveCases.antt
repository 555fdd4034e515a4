-- The ways out of one move of a climb.
--     outside               the jump leads outside the forest
--     by_jump, no_jump      it is taken, and rises or not
--     to-parent, no-parent  it leads above the asked depth, and the parent rises or not
--     below-no, below-yes   whether a node is below another
-- Each takes what the code has read: j the jump, d its depth, p the parent.
use Prim.Native.Nat.{ℕ, ◌-◌, ◌+◌, ◌≤◌, ◌<◌}
use mathlib.Core.Path.{◌≡◌, sym, ◌∙◌}
use mathlib.Core.Bool.{true, false}
use mathlib.Core.List.{List}
use native.Mathlib.Omega.{arith}
use lib.Dec.{ltb}
use borrow.Author.Tests.{lt-ltb, le-ltb, le-leb, lt-leb}
use Rattle.trees.specs.Numbering.{is_in_subtree}
use Rattle.trees.specs.Climb.{Forest, next_move}
use Rattle.list_laws.proofs.Choice.{le-or}
use Rattle.tables.specs.node_tables.Cells.{size_cell, is_in_subtree_on}
use Rattle.tables.specs.declared.node_tables.moves.NextMove.TheVariants.{Jump, Parent, Stuck}
use Rattle.tables.specs.node_tables.inner.MoveAnswers.{next_move_of, rises_to}

module _ (F : Forest) (v to j : ℕ) (ej : j ≡ F.jump v) where
  pub outside : F.nodes ≤ j → Stuck ≡ next_move_of F (next_move F v to)
  unfolding next_move_of next_move
  outside h = rw (← ej, le-ltb j F.nodes h)

  module _ (h : j < F.nodes) (d : ℕ) (ed : d ≡ F.depth j) where
    module _ (l : to ≤ d) where
      pub by_jump : rises_to F v j ≡ true → Jump j ≡ next_move_of F (next_move F v to)
      unfolding next_move_of next_move
      by_jump r = rw (← ej, lt-ltb j F.nodes h, ← ed, le-leb to d l, ← ej, r, ← ej)

      pub no_jump : rises_to F v j ≡ false → Stuck ≡ next_move_of F (next_move F v to)
      unfolding next_move_of next_move
      no_jump r = rw (← ej, lt-ltb j F.nodes h, ← ed, le-leb to d l, ← ej, r)

    module _ (l : d < to) (p : ℕ) (ep : p ≡ F.parent v) where
      pub to-parent : rises_to F v p ≡ true → Parent p ≡ next_move_of F (next_move F v to)
      unfolding next_move_of next_move
      to-parent r = rw (← ej, lt-ltb j F.nodes h, ← ed, lt-leb to d l, ← ep, r, ← ep)

      pub no-parent : rises_to F v p ≡ false → Stuck ≡ next_move_of F (next_move F v to)
      unfolding next_move_of next_move
      no-parent r = rw (← ej, lt-ltb j F.nodes h, ← ed, lt-leb to d l, ← ep, r)

-- ---- is_below, by the order of the two nodes

pub below-no : (node_table : List ℕ) (c v : ℕ) → c < v → false ≡ is_in_subtree_on node_table c v
unfolding is_in_subtree
below-no node_table c v h = rw (lt-leb v c h)

pub below-yes : (node_table : List ℕ) (c v s : ℕ) → s ≡ size_cell node_table c → v ≤ c → ltb (c - v) s ≡ is_in_subtree_on node_table c v
unfolding is_in_subtree
below-yes node_table c v s e h =
    rw (le-leb v c h, ← e)
    (le-or (v + s) c
    (λ l. le-ltb (c - v) s (omega arith) ∙ sym (le-ltb c (v + s) l))
    (λ l. lt-ltb (c - v) s (omega arith) ∙ sym (lt-ltb c (v + s) l)))
