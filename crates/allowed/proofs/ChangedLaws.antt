-- A tree with one label changed: the state of its root is that of the label's state put in at the node.
--     one-is-labelled   a list of one change is the label put in its place
--     one-root          its root's state
--     state-own         a node's own label gives it the run's state
use Prim.Native.Nat.{ℕ, suc, ◌+◌, ◌<◌}
use mathlib.Core.Path.{◌≡◌, refl, sym, ap, ap₂, ◌∙◌}
use mathlib.Core.List.{List, [], ◌∷◌, ◌++◌}
use native.Mathlib.Omega.{arith}
use lib.ListN.{length, set}
use lib.Seq.{set-append_left, set_at}
use Rattle.trees.specs.Tree.{Tree, leaf, node, size, kinds_of, labels_of, label_at}
use Rattle.trees.specs.Automaton.{Automaton, root_label, state}
use Rattle.trees.specs.Numbering.{split, sub}
use Rattle.trees.specs.Postorder.{tree_of}
use Rattle.trees.specs.Changes.{changed}
use Rattle.trees.proofs.NodeLaws.{Place, in_l, in_r, top, place, split-left, split-right, split-top, length-labels}
use Rattle.trees.proofs.PostorderLaws.{tree_of-is}
use Rattle.trees.proofs.RunLaws.{label-sub}
use Rattle.allowed.specs.Allowed.{one_changed}
use Rattle.allowed.specs.Clearing.{state_given, label_state, state_with}
use Rattle.allowed.proofs.GivenLaws.{sub-left, sub-right, sub-top, in_left, in_right, in_top}

-- a store behind a list in front
set-behind : (xs ys : List ℕ) (j a : ℕ) → set (xs ++ ys) (length xs + j) a ≡ xs ++ set ys j a
set-behind [] ys j a = let e : 0 + j ≡ j = omega arith in ap (λ (i : ℕ). set ys i a) e
set-behind (x ∷ xs) ys j a =
    let e : suc (length xs) + j ≡ suc (length xs + j) = omega arith in
    ap (λ (i : ℕ). set (x ∷ (xs ++ ys)) i a) e ∙ ap (λ (l : List ℕ). x ∷ l) (set-behind xs ys j a)

-- the tree with label a at node v
labelled : Tree → ℕ → ℕ → Tree
labelled (leaf b) v a = leaf a
labelled (node l b r) v a =
    split (size l) (size r) v (node (labelled l v a) b r) (λ j. node l b (labelled r j a)) (node l a r)

module _ (l : Tree) (b : ℕ) (r : Tree) (v a : ℕ) where
  labelled-left : v < size l → labelled (node l b r) v a ≡ node (labelled l v a) b r
  unfolding labelled
  labelled-left h = split-left _ _ v _ _ _ h

  labelled-right : (j : ℕ) → v ≡ size l + j → j < size r → labelled (node l b r) v a ≡ node l b (labelled r j a)
  unfolding labelled
  labelled-right j e h = split-right _ _ v _ _ _ j e h

  labelled-top : v ≡ size l + size r → labelled (node l b r) v a ≡ node l a r
  unfolding labelled
  labelled-top e = split-top _ _ v _ _ _ e

labelled-kinds : (t : Tree) (v a : ℕ) → v < size t → kinds_of (labelled t v a) ≡ kinds_of t
unfolding labelled
labelled-kinds (leaf b) v a h = refl
labelled-kinds (node l b r) v a h = go (place l b r v h) (labelled-kinds l v a) (λ j. labelled-kinds r j a)
  where
    go : Place l r v → (v < size l → kinds_of (labelled l v a) ≡ kinds_of l)
        → ((j : ℕ) → j < size r → kinds_of (labelled r j a) ≡ kinds_of r)
        → kinds_of (labelled (node l b r) v a) ≡ kinds_of (node l b r)
    go (in_l p) f g =
        ap kinds_of (labelled-left l b r v a p) ∙ ap (λ (x : List ℕ). x ++ (kinds_of r ++ (1 ∷ []))) (f p)
    go (in_r j e p) f g =
        ap kinds_of (labelled-right l b r v a j e p) ∙ ap (λ (x : List ℕ). kinds_of l ++ (x ++ (1 ∷ []))) (g j p)
    go (top e) f g = ap kinds_of (labelled-top l b r v a e)

labelled-labels : (t : Tree) (v a : ℕ) → v < size t → labels_of (labelled t v a) ≡ set (labels_of t) v a
unfolding labelled
labelled-labels (leaf b) v a h = let e : 0 ≡ v = omega arith in ap (λ (i : ℕ). set (b ∷ []) i a) e
labelled-labels (node l b r) v a h = go (place l b r v h) (labelled-labels l v a) (λ j. labelled-labels r j a)
  where
    go : Place l r v → (v < size l → labels_of (labelled l v a) ≡ set (labels_of l) v a)
        → ((j : ℕ) → j < size r → labels_of (labelled r j a) ≡ set (labels_of r) j a)
        → labels_of (labelled (node l b r) v a) ≡ set (labels_of (node l b r)) v a
    go (in_l p) f g =
        ap labels_of (labelled-left l b r v a p) ∙ ap (λ (x : List ℕ). x ++ (labels_of r ++ (b ∷ []))) (f p)
        ∙ sym (set-append_left (labels_of l) (labels_of r ++ (b ∷ [])) v a (omega (arith, length-labels l)))
    go (in_r j e p) f g =
        let i : v ≡ length (labels_of l) + j = omega (arith, length-labels l) in
        ap labels_of (labelled-right l b r v a j e p) ∙ ap (λ (x : List ℕ). labels_of l ++ (x ++ (b ∷ []))) (g j p)
        ∙ ap (λ (x : List ℕ). labels_of l ++ x)
        (sym (set-append_left (labels_of r) (b ∷ []) j a (omega (arith, length-labels r))))
        ∙ sym (ap (λ (k : ℕ). set (labels_of (node l b r)) k a) i
        ∙ set-behind (labels_of l) (labels_of r ++ (b ∷ [])) j a)
    go (top e) f g =
        let i : v ≡ length (labels_of l) + size r = omega (arith, length-labels l) in
        ap labels_of (labelled-top l b r v a e)
        ∙ ap (λ (x : List ℕ). labels_of l ++ x) (sym (set_at (labels_of r) b [] a (size r) (length-labels r)))
        ∙ sym (ap (λ (k : ℕ). set (labels_of (node l b r)) k a) i
        ∙ set-behind (labels_of l) (labels_of r ++ (b ∷ [])) (size r) a)

one-is-labelled : (t : Tree) (v a : ℕ) → v < size t → one_changed t v a ≡ labelled t v a
unfolding one_changed changed
one-is-labelled t v a h =
    ap₂ tree_of (sym (labelled-kinds t v a h)) (sym (labelled-labels t v a h)) ∙ tree_of-is (labelled t v a)

module _ (A : Automaton) where
  labelled-state : (t : Tree) (v a : ℕ) → v < size t → state A (labelled t v a) ≡ state_given A t v (state_with A t v a)
  unfolding labelled state_given state_with sub
  labelled-state (leaf b) v a h = refl
  labelled-state (node l b r) v a h = go (place l b r v h) (labelled-state l v a) (λ j. labelled-state r j a)
    where
      go : Place l r v → (v < size l → state A (labelled l v a) ≡ state_given A l v (label_state A a (sub l v)))
          → ((j : ℕ) → j < size r → state A (labelled r j a) ≡ state_given A r j (label_state A a (sub r j)))
          → state A (labelled (node l b r) v a) ≡ state_given A (node l b r) v (label_state A a (sub (node l b r) v))
      go (in_l p) f g =
          ap (state A) (labelled-left l b r v a p) ∙ ap (λ (x : ℕ). A.δ x b (state A r)) (f p)
          ∙ sym (ap (λ (s : Tree). state_given A (node l b r) v (label_state A a s)) (sub-left l b r v p)
          ∙ in_left l b r v A (label_state A a (sub l v)) p)
      go (in_r j e p) f g =
          ap (state A) (labelled-right l b r v a j e p) ∙ ap (A.δ (state A l) b) (g j p)
          ∙ sym (ap (λ (s : Tree). state_given A (node l b r) v (label_state A a s)) (sub-right l b r v j e p)
          ∙ in_right l b r v A (label_state A a (sub r j)) j e p)
      go (top e) f g =
          ap (state A) (labelled-top l b r v a e)
          ∙ sym (in_top l b r v A (label_state A a (sub (node l b r) v)) e
          ∙ ap (label_state A a) (sub-top l b r v e))

  -- "the plan with node v alone relabelled": the state of its root
  pub one-root : (t : Tree) (v a : ℕ) → v < size t → state A (one_changed t v a) ≡ state_given A t v (state_with A t v a)
  one-root t v a h = ap (state A) (one-is-labelled t v a h) ∙ labelled-state t v a h

  root-own : (t : Tree) → label_state A (root_label t) t ≡ state A t
  root-own (leaf a) = refl
  root-own (node l a r) = refl

  pub state-own : (t : Tree) (v : ℕ) → v < size t → state_with A t v (label_at t v) ≡ state A (sub t v)
  unfolding state_with
  state-own t v h =
      ap (λ (a : ℕ). label_state A a (sub t v)) (sym (label-sub t v h)) ∙ root-own (sub t v)
