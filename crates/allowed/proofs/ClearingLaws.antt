-- The states that clear, from the root down: what a pass over the nodes uses.
--     clears-root               at the root the accepting ones
--     clears-right, clears-left at a child those that lead to one of its parent's
--     set-root, set-right, set-left   the same as sets in numbers
use Prim.Native.Nat.{ℕ, ◌+◌, ◌-◌, ◌<◌}
use mathlib.Core.Path.{◌≡◌, sym, ap, ◌∙◌}
use Rattle.trees.specs.Tree.{Tree, size, kind_at, label_at}
use Rattle.trees.specs.Automaton.{Automaton, state}
use Rattle.trees.specs.Numbering.{sub}
use Rattle.state_sets.specs.StateSets.{set_of, member}
use Rattle.state_sets.proofs.SetLaws.{set_of-ext, member-set_of}
use Rattle.allowed.specs.Clearing.{clears, clearing_set}
use Rattle.allowed.specs.inner.Inputs.{left_child}
use Rattle.allowed.proofs.GivenLaws.{given-root, given-right, given-left}

-- ---- state by state

module _ (A : Automaton) (t : Tree) where
  pub clears-root : (v q : ℕ) → v + 1 ≡ size t → clears A t v q ≡ A.accepting q
  unfolding clears
  clears-root v q e = ap A.accepting (given-root A t v q e)

  module _ (v : ℕ) (h : v < size t) (c : kind_at t v ≡ 0 → ⊥) where
    pub clears-right : (q : ℕ) → clears A t (v - 1) q
        ≡ clears A t v (A.δ (state A (sub t (left_child t v))) (label_at t v) q)
    unfolding clears
    clears-right q = ap A.accepting (given-right A t v h c q)

    pub clears-left : (q : ℕ) → clears A t (left_child t v) q
        ≡ clears A t v (A.δ q (label_at t v) (state A (sub t (v - 1))))
    unfolding clears
    clears-left q = ap A.accepting (given-left A t v h c q)

-- ---- as sets in numbers

module _ (A : Automaton) (t : Tree) where
  pub set-root : (v : ℕ) → v + 1 ≡ size t → clearing_set A t v ≡ set_of A.states A.accepting
  unfolding clearing_set
  set-root v e = set_of-ext A.states _ _ (λ q _. clears-root A t v q e)

  pub set-member : (v q : ℕ) → q < A.states → member (clearing_set A t v) q ≡ clears A t v q
  unfolding clearing_set
  set-member v q h = member-set_of A.states (clears A t v) q h

  module _ (next : (p a q : ℕ) → A.δ p a q < A.states) (v : ℕ) (h : v < size t) (c : kind_at t v ≡ 0 → ⊥) where
    pub set-right : clearing_set A t (v - 1)
        ≡ set_of A.states (λ q. member (clearing_set A t v) (A.δ (state A (sub t (left_child t v))) (label_at t v) q))
    unfolding clearing_set
    set-right = set_of-ext A.states _ _ (λ q _. clears-right A t v h c q
        ∙ sym (set-member v (A.δ (state A (sub t (left_child t v))) (label_at t v) q)
        (next (state A (sub t (left_child t v))) (label_at t v) q)))

    pub set-left : clearing_set A t (left_child t v)
        ≡ set_of A.states (λ q. member (clearing_set A t v) (A.δ q (label_at t v) (state A (sub t (v - 1)))))
    unfolding clearing_set
    set-left = set_of-ext A.states _ _ (λ q _. clears-left A t v h c q
        ∙ sym (set-member v (A.δ q (label_at t v) (state A (sub t (v - 1))))
        (next q (label_at t v) (state A (sub t (v - 1))))))
