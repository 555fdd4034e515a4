-- The laws of runs, sizes and changed labels, by node number.
--     label-sub                a node's label is the root label of its subtree
--     run_at                   each node's state in the run is the state of its subtree
--     state-leaf, state-inner  the state at a node from its label and its children's states; so size-leaf, size-inner
--     state_below              states are below `states` where the automaton's values are
--     changed-length           a change list changes no number of labels
--
-- An inner node v has the right child v - 1 and the left child v - 1 - size (sub t (v - 1)).
use Prim.Native.Nat.{ℕ, ◌+◌, ◌-◌, ◌<◌}
use mathlib.Core.Path.{◌≡◌, refl, sym, ap, ◌∙◌}
use mathlib.Core.List.{List, [], ◌∷◌}
use mathlib.Core.Bool.{Bool, true, false, cond}
use native.Mathlib.Decide.{ℕ_discrete}
use native.Mathlib.Omega.{arith}
use lib.ListN.{length, set, length-set}
use lib.Dec.{ltb}
use Rattle.trees.specs.Tree.{Tree, leaf, node, size, kinds_of, kind_at, label_at}
use Rattle.trees.specs.Automaton.{Automaton, root_label, run, state}
use Rattle.trees.specs.Numbering.{split, sub}
use Rattle.trees.specs.Changes.{changed}
use Rattle.trees.proofs.NodeLaws.{Inner, inner, sub-leaf}

-- ---- the run of a subtree

pub size-run : (A : Automaton) (t : Tree) → size (run A t) ≡ size t
size-run A (leaf a) = refl
size-run A (node l a r) = omega (arith, size-run A l, size-run A r)

pub kinds-run : (A : Automaton) (t : Tree) → kinds_of (run A t) ≡ kinds_of t
kinds-run A (leaf a) = refl
kinds-run A (node l a r) = rw (kinds-run A l, kinds-run A r)

-- a function commutes with a choice by where a node is
through : {X Y : Type 0} (g : X → Y) (m n v : ℕ) (x : X) (f : ℕ → X) (y : X) (x' : Y) (f' : ℕ → Y) → x' ≡ g x
    → ((j : ℕ) → f' j ≡ g (f j)) → split m n v x' f' (g y) ≡ g (split m n v x f y)
unfolding split
through g m n v x f y x' f' e d = rw (e, d (v - m)) (go (ltb v m) (ltb v (m + n)))
  where
    go : (b c : Bool) → cond b (g x) (cond c (g (f (v - m))) (g y)) ≡ g (cond b x (cond c (f (v - m)) y))
    go true c = refl
    go false true = refl
    go false false = refl

pub sub-run : (A : Automaton) (t : Tree) (v : ℕ) → sub (run A t) v ≡ run A (sub t v)
unfolding sub
sub-run A (leaf a) v = refl
sub-run A (node l a r) v =
    rw (size-run A l, size-run A r)
    (through (run A) (size l) (size r) v (sub l v) (λ j. sub r j) (node l a r) (sub (run A l) v) (λ j. sub (run A r) j)
    (sub-run A l v) (λ j. sub-run A r j))

pub label-sub : (t : Tree) (v : ℕ) → v < size t → root_label (sub t v) ≡ label_at t v
label-sub t v h = elim (ℕ_discrete (kind_at t v) 0) [
  | yes e ↦ ap root_label (sub-leaf t v h e)
  | no e ↦ ap root_label (inner t v h e).is
]

pub run_at : (A : Automaton) (t : Tree) (v : ℕ) → v < size t → label_at (run A t) v ≡ state A (sub t v)
run_at A t v h = sym (label-sub (run A t) v (omega (arith, size-run A t))) ∙ ap root_label (sub-run A t v)

-- ---- a leaf and an inner node

pub left_is : (t : Tree) (v : ℕ) (I : Inner t v) → v - 1 - size (sub t (v - 1)) ≡ I.left
left_is t v I = omega (arith, I.at)

-- the children of an inner node are nodes before it
pub record Children (t : Tree) (v : ℕ) : Type 0 where
  pub pos : 0 < v
  pub right-size : size (sub t (v - 1)) < v
  pub left_in : v - 1 - size (sub t (v - 1)) < v
  pub is : sub t v ≡ node (sub t (v - 1 - size (sub t (v - 1)))) (label_at t v) (sub t (v - 1))

pub children : (t : Tree) (v : ℕ) → v < size t → (kind_at t v ≡ 0 → ⊥) → Children t v
children t v h e =
    let I : Inner t v = inner t v h e in
    record {
      pos = omega (arith, I.at);
      right-size = omega (arith, I.at);
      left_in = omega (arith, I.at);
      is = I.is ∙ ap (λ (u : ℕ). node (sub t u) (label_at t v) (sub t (v - 1))) (sym (left_is t v I));
    }

module _ (t : Tree) (v : ℕ) (h : v < size t) where
  pub size-leaf : kind_at t v ≡ 0 → size (sub t v) ≡ 1
  size-leaf e = ap size (sub-leaf t v h e)

  pub size-inner : (kind_at t v ≡ 0 → ⊥)
      → size (sub t v) ≡ size (sub t (v - 1 - size (sub t (v - 1)))) + size (sub t (v - 1)) + 1
  size-inner e = ap size (children t v h e).is

module _ (A : Automaton) (t : Tree) (v : ℕ) (h : v < size t) where
  pub state-leaf : kind_at t v ≡ 0 → state A (sub t v) ≡ A.ι (label_at t v)
  state-leaf e = ap (state A) (sub-leaf t v h e)

  pub state-inner : (kind_at t v ≡ 0 → ⊥)
      → state A (sub t v)
      ≡ A.δ (state A (sub t (v - 1 - size (sub t (v - 1))))) (label_at t v) (state A (sub t (v - 1)))
  state-inner e = ap (state A) (children t v h e).is

pub state_below : (A : Automaton) → ((a : ℕ) → A.ι a < A.states) → ((p a q : ℕ) → A.δ p a q < A.states) → (t : Tree)
    → state A t < A.states
state_below A leaves inners (leaf a) = leaves a
state_below A leaves inners (node l a r) = inners _ a _

-- ---- changed labels

pub changed-length : (ls vs bs : List ℕ) → length (changed ls vs bs) ≡ length ls
unfolding changed
changed-length ls [] bs = refl
changed-length ls (v ∷ vs) [] = refl
changed-length ls (v ∷ vs) (b ∷ bs) = changed-length (set ls v b) vs bs ∙ length-set ls v b
