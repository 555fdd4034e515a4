-- Check 16, and the first state of a branch question.
--     in-subtree-is, is-in-subtree                       what it says, and back
--     first-no-label, first-label, first-start           the first state, in each reading
use Prim.Native.Nat.{ℕ, ◌+◌, ◌*◌, ◌≤◌, ◌<◌}
use mathlib.Core.Path.{◌≡◌, ap}
use mathlib.Core.Bool.{true}
use mathlib.Core.List.{List}
use native.Mathlib.Omega.{arith}
use lib.Dec.{leb, ltb}
use lib.ListN.{get_or}
use borrow.Author.Tests.{leb-true, le-leb, ltb-true, lt-ltb, le-ltb}
use Rattle.trees.specs.Numbering.{is_in_subtree}
use Rattle.list_laws.proofs.BoolLaws.{and_both, and_left, and_right}
use Rattle.tables.specs.node_tables.Cells.{size_cell}
use Rattle.tables.specs.node_tables.Cells.{is_in_subtree_on}
use Rattle.branches.specs.declared.answers.Reading.TheVariants.{WithUpper, BelowUpper}
use Rattle.branches.specs.inner.Finish.{first_of, numbered}

-- ---- check 16

module _ (node_table : List ℕ) (u l : ℕ) where
  pub in-subtree-is : is_in_subtree_on node_table u l ≡ true → (l ≤ u) × (u < l + size_cell node_table u)
  unfolding is_in_subtree
  in-subtree-is e = (
    leb-true l u (and_left (leb l u) (ltb u (l + size_cell node_table u)) e),
    ltb-true u (l + size_cell node_table u) (and_right (leb l u) (ltb u (l + size_cell node_table u)) e),
  )

  pub is-in-subtree : l ≤ u → u < l + size_cell node_table u → is_in_subtree_on node_table u l ≡ true
  unfolding is_in_subtree
  is-in-subtree h i = and_both (leb l u) (ltb u (l + size_cell node_table u)) (le-leb l u h) (lt-ltb u (l + size_cell node_table u) i)

-- ---- the first state

module _ (s k : ℕ) (ls st : List ℕ) (u : ℕ) where
  abbrev label : ℕ
  label = get_or ls u 0

  -- a function reads the steps of state 0 from the start
  at-start : get_or st (0 * k + label) 0 ≡ get_or st label 0
  at-start = let e : 0 * k + label ≡ label = omega arith in ap (λ (i : ℕ). get_or st i 0) e

  pub first-no-label : k ≤ label → first_of WithUpper s k ls st u ≡ numbered s s
  unfolding first_of
  first-no-label h = rw (le-ltb label k h, le-ltb s s (omega arith))

  pub first-label : label < k → first_of WithUpper s k ls st u ≡ numbered s (get_or st label 0)
  unfolding first_of
  first-label h = rw (at-start, lt-ltb label k h)

  pub first-start : 0 < s → first_of BelowUpper s k ls st u ≡ numbered s 0
  unfolding first_of
  first-start h = rw (lt-ltb 0 s h)
