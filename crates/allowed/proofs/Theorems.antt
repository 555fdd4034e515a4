-- Which labels each node may take, and which of its states clear the plan: the main theorems, on trees.
--     allowed-by-state   a label is allowed exactly where the state that it gives the node clears
--     allowed-by-set     the same by the node's set of clearing states: what the pass over the nodes computes
--     mask-bit           bit a of node v's number is 1 exactly where the plan with v relabelled to a is cleared
--     own-label          the bit of a node's own label is the verdict of the plan as it is
--     set-bit            bit q of node v's set is 1 exactly where the plan is cleared with state q put in at v
--     own-state          the bit of a node's own state is the verdict of the plan as it is
--     set-is-the-run     a subtree's state is in the set exactly where the plan with that subtree put in is cleared
--     mask-by-set        bit a of a node's number is the bit, in its set, of the state that it gets with label a
use Prim.Native.Nat.{ℕ, ◌<◌}
use mathlib.Core.Path.{◌≡◌, sym, ap, ◌∙◌}
use mathlib.Core.List.{[], ◌∷◌}
use lib.ListN.{get_or}
use Rattle.list_laws.proofs.RowLaws.{get_d_tabulate}
use Rattle.trees.specs.Tree.{Tree, leaf, node, size, kinds_of, labels_of, label_at}
use Rattle.trees.specs.Automaton.{Automaton, state, accepts}
use Rattle.trees.specs.Numbering.{sub}
use Rattle.trees.specs.Postorder.{tree_of}
use Rattle.trees.specs.Changes.{changed}
use Rattle.trees.proofs.RunLaws.{state_below}
use Rattle.state_sets.specs.StateSets.{set_of, member}
use Rattle.state_sets.proofs.SetLaws.{set_of-ext, member-set_of}
use Rattle.allowed.specs.Allowed.{one_changed, is_allowed, allowed_set, allowed_sets}
use Rattle.allowed.specs.Clearing.{state_given, clears, clearing_set, clearing_sets, replaced, label_state, state_with}
use Rattle.allowed.proofs.GivenLaws.{given-own, given-replaced}
use Rattle.allowed.proofs.ChangedLaws.{one-root, state-own}
use Rattle.allowed.proofs.ClearingLaws.{set-member}

module _ (A : Automaton) (t : Tree) where
  pub allowed-by-state : (v a : ℕ) → v < size t → is_allowed A t v a ≡ clears A t v (state_with A t v a)
  unfolding is_allowed clears
  allowed-by-state v a h = ap A.accepting (one-root A t v a h)

  -- ---- the masks, in the definition's own words

  pub mask-bit : (k v a : ℕ) → v < size t → a < k → member (get_or (allowed_sets A k t) v 0) a
      ≡ accepts A (tree_of (kinds_of t) (changed (labels_of t) (v ∷ []) (a ∷ [])))
  unfolding allowed_sets allowed_set is_allowed one_changed
  mask-bit k v a h l =
      ap (λ (x : ℕ). member x a) (get_d_tabulate (size t) (allowed_set A k t) v h) ∙ member-set_of k (is_allowed A t v) a l

  pub own-label : (v : ℕ) → v < size t → is_allowed A t v (label_at t v) ≡ accepts A t
  unfolding is_allowed
  own-label v h =
      ap A.accepting (one-root A t v (label_at t v) h ∙ ap (state_given A t v) (state-own A t v h) ∙ given-own A t v h)

  -- ---- the sets of states

  pub set-bit : (v q : ℕ) → v < size t → q < A.states
      → member (get_or (clearing_sets A t) v 0) q ≡ A.accepting (state_given A t v q)
  unfolding clearing_sets clears
  set-bit v q h l =
      ap (λ (x : ℕ). member x q) (get_d_tabulate (size t) (clearing_set A t) v h) ∙ set-member A t v q l

  pub own-state : (v : ℕ) → v < size t → clears A t v (state A (sub t v)) ≡ accepts A t
  unfolding clears
  own-state v h = ap A.accepting (given-own A t v h)

  module _ (init : (a : ℕ) → A.ι a < A.states) (next : (p a q : ℕ) → A.δ p a q < A.states) where
    pub set-is-the-run : (v : ℕ) (u : Tree) → v < size t
        → member (get_or (clearing_sets A t) v 0) (state A u) ≡ accepts A (replaced t v u)
    set-is-the-run v u h =
        set-bit v (state A u) h (state_below A init next u) ∙ sym (ap A.accepting (given-replaced A t v u h))

    pub label-state-below : (v a : ℕ) → state_with A t v a < A.states
    unfolding state_with
    label-state-below v a = go (sub t v)
      where
        go : (s : Tree) → label_state A a s < A.states
        go (leaf b) = init a
        go (node l b r) = next (state A l) a (state A r)

    pub allowed-by-set : (k v : ℕ) → v < size t
        → allowed_set A k t v ≡ set_of k (λ a. member (clearing_set A t v) (state_with A t v a))
    unfolding allowed_set
    allowed-by-set k v h = set_of-ext k _ _ (λ a _. allowed-by-state v a h
        ∙ sym (set-member A t v (state_with A t v a) (label-state-below v a)))

    pub mask-by-set : (k v a : ℕ) → v < size t → a < k
        → member (get_or (allowed_sets A k t) v 0) a ≡ member (get_or (clearing_sets A t) v 0) (state_with A t v a)
    unfolding allowed_sets clearing_sets
    mask-by-set k v a h l =
        ap (λ (x : ℕ). member x a) (get_d_tabulate (size t) (allowed_set A k t) v h ∙ allowed-by-set k v h)
        ∙ member-set_of k (λ b. member (clearing_set A t v) (state_with A t v b)) a l
        ∙ sym (ap (λ (x : ℕ). member x (state_with A t v a)) (get_d_tabulate (size t) (clearing_set A t) v h))
