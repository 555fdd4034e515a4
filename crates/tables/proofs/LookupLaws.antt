-- The lookups of a climb, by what is read.
--     below-yes, below-no, below-state     a number is a state, or is not; what `below` gives is one
--     state-place                          the index of a node's state is inside the bytes
--     rule-outside, rule-at                a rule for a number that is no label, and for a label
--     sibling-left .. sibling-none         the other child, by the tests of the code
use Prim.Native.Nat.{ℕ, ◌+◌, ◌-◌, ◌*◌, ◌≤◌, ◌<◌}
use mathlib.Core.Path.{◌≡◌, sym}
use mathlib.Core.Option.{Option, none, some, some-injective}
use native.Mathlib.Omega.{arith}
use lib.ListN.{get_or}
use borrow.Author.Tests.{lt-ltb, le-ltb, le-leb, lt-leb, eq-eqb, ne_eqb}
use Rattle.trees.proofs.MoveLaws.{none-some}
use Rattle.list_laws.proofs.Choice.{by-lt}
use Rattle.list_laws.proofs.RowLaws.{stride}
use Rattle.tables.specs.node_tables.Cells.{size_cell}
use Rattle.tables.specs.Climbs.{View, below, rule_on, sibling_on}

pub below-yes : (s q : ℕ) → q < s → below s q ≡ some q
unfolding below
below-yes s q h = rw (lt-ltb q s h)

pub below-no : (s q : ℕ) → s ≤ q → below s q ≡ none
unfolding below
below-no s q h = rw (le-ltb q s h)

-- what `below` gives is a state, and the number itself
pub below-state : (s q x : ℕ) → below s q ≡ some x → (q < s) × (q ≡ x)
unfolding below
below-state s q x e =
    by-lt (λ (o : Option ℕ). o ≡ some x → (q < s) × (q ≡ x)) q s
    (λ h i. (h, some-injective q x i))
    (λ h i. absurd (none-some i))
    e

pub below_none : (s q : ℕ) → below s q ≡ none → s ≤ q
unfolding below
below_none s q e =
    by-lt (λ (o : Option ℕ). o ≡ none → s ≤ q) q s (λ h i. absurd (none-some (sym i))) (λ h i. h) e

-- ---- rules

-- the state of a node is inside the bytes
pub state-place : (n s v m : ℕ) → v < n → n * (s + 1) ≤ m → v * (s + 1) < m
state-place n s v m hv hm = omega (arith, stride (s + 1) v n hv)

module _ (X : View) (p a q : ℕ) where
  pub rule-outside : X.k ≤ a → rule_on X p a q ≡ none
  unfolding rule_on
  rule-outside h = rw (le-ltb a X.k h)

  pub rule-at : a < X.k → rule_on X p a q ≡ below X.s (get_or X.inner ((p * X.k + a) * X.s + q) 0)
  unfolding rule_on
  rule-at h = rw (lt-ltb a X.k h)

-- ---- siblings

module _ (X : View) (v p : ℕ) where
  pub sibling-left : v + 1 ≡ p → size_cell X.node_table v ≤ v → sibling_on X v p ≡ some (v - size_cell X.node_table v)
  unfolding sibling_on
  sibling-left e h = rw (eq-eqb (v + 1) p e, le-leb (size_cell X.node_table v) v h)

  pub sibling-outside : v + 1 ≡ p → v < size_cell X.node_table v → sibling_on X v p ≡ none
  unfolding sibling_on
  sibling-outside e h = rw (eq-eqb (v + 1) p e, lt-leb (size_cell X.node_table v) v h)

  pub sibling-right : ¬ (v + 1 ≡ p) → 0 < p → sibling_on X v p ≡ some (p - 1)
  unfolding sibling_on
  sibling-right e h = rw (ne_eqb (v + 1) p e, lt-ltb 0 p h)

  pub sibling-none : ¬ (v + 1 ≡ p) → p ≡ 0 → sibling_on X v p ≡ none
  unfolding sibling_on
  sibling-none e h = rw (ne_eqb (v + 1) p e, le-ltb 0 p (omega arith))
