-- Post-order and trees: what ties the stack reading to trees.
--     fold            a bottom-up reading of a tree
--     read-tree       on a tree's post-order the stack machine puts that tree's reading on the stack
--     tree-of         kinds that pass the test are those of a tree with any labels of that number
--     postorder-unique  and of one only
--     tree_of-is       the tree that is read back from a tree's post-order
--     leaf-at .. end-at  the test, node by node: what a loop over the kinds uses
--     size_of, kind-of   the size of a tree with given kinds, and the kind of one of its nodes
--     some-tree, some_node  kinds that pass the test have a tree, and so a node
use Prim.Native.Nat.{ℕ, zero, suc, ◌+◌, ◌-◌, ◌≤◌, ◌<◌}
use mathlib.Core.Path.{◌≡◌, refl, sym, ap, ap₂, ◌∙◌, subst}
use mathlib.Core.List.{List, [], ◌∷◌, ◌++◌, append_assoc, append-nil}
use mathlib.Core.Option.{Option, none, some}
use native.Mathlib.Omega.{arith}
use native.Mathlib.Numerals.{add-one}
use lib.ListN.{length, get_or, drop, drop_of_length-le}
use lib.Seq.{drop-cons}
use lib.Dec.{eqb}
use borrow.Author.Tests.{eqb-true, eq-eqb}
use mathlib.Core.Bool.{Bool, true, false}
use Rattle.trees.specs.Tree.{Tree, leaf, node, kinds_of, labels_of, size}
use Rattle.trees.specs.Automaton.{Automaton, state}
use Rattle.trees.specs.Postorder.{waiting, is_single, is_postorder, read, last_completed, tree_of}
use Rattle.trees.proofs.NodeLaws.{length-kinds, size-pos}

-- a bottom-up reading of a tree; the state of an automaton is one, the tree itself another
abbrev pub fold : {X : Type 0} → (ℕ → X) → (X → ℕ → X → X) → Tree → X
fold lf nd (leaf a) = lf a
fold lf nd (node l a r) = nd (fold lf nd l) a (fold lf nd r)

pub state-fold : (A : Automaton) (t : Tree) → fold A.ι A.δ t ≡ state A t
state-fold A (leaf a) = refl
state-fold A (node l a r) = ap₂ (λ (p q : ℕ). A.δ p a q) (state-fold A l) (state-fold A r)

pub waiting-tree : (t : Tree) (ks : List ℕ) (w : ℕ) → waiting (kinds_of t ++ ks) w ≡ waiting ks (suc w)
waiting-tree (leaf a) ks w = refl
waiting-tree (node l a r) ks w =
    rw (append_assoc, append_assoc) (waiting-tree l (kinds_of r ++ (1 ∷ [] ++ ks)) w ∙ waiting-tree r (1 ∷ [] ++ ks) (suc w))

module _ {X : Type 0} (lf : ℕ → X) (nd : X → ℕ → X → X) where
  pub read-tree : (t : Tree) (ks ls : List ℕ) (st : List X)
      → read lf nd (kinds_of t ++ ks) (labels_of t ++ ls) st ≡ read lf nd ks ls (fold lf nd t ∷ st)
  read-tree (leaf a) ks ls st = refl
  read-tree (node l a r) ks ls st =
      simp append_assoc
      (read-tree l (kinds_of r ++ (1 ∷ [] ++ ks)) (labels_of r ++ (a ∷ [] ++ ls)) st
      ∙ read-tree r (1 ∷ [] ++ ks) (a ∷ [] ++ ls) (fold lf nd l ∷ st))

  -- the machine on a whole tree
  pub read_whole : (t : Tree) → read lf nd (kinds_of t) (labels_of t) [] ≡ some (fold lf nd t ∷ [])
  read_whole t = ap₂ (λ (ks ls : List ℕ). read lf nd ks ls []) (sym (append-nil (kinds_of t))) (sym (append-nil (labels_of t))) ∙ read-tree t [] [] []

pub fold-id : (t : Tree) → fold leaf node t ≡ t
fold-id (leaf a) = refl
fold-id (node l a r) = ap₂ (λ (x y : Tree). node x a y) (fold-id l) (fold-id r)

-- one post-order, one tree
pub postorder-unique : (t u : Tree) → kinds_of t ≡ kinds_of u → labels_of t ≡ labels_of u → t ≡ u
postorder-unique t u p q =
    let e : some (fold leaf node t ∷ []) ≡ some (fold leaf node u ∷ []) = sym (read_whole leaf node t)
    ∙ ap₂ (λ (ks ls : List ℕ). read leaf node ks ls []) p q ∙ read_whole leaf node u in
    sym (fold-id t) ∙ (cc) ∙ fold-id u

-- the post-order of a stack of trees, the last completed first
abbrev pub forest_kinds : List Tree → List ℕ
forest_kinds [] = []
forest_kinds (t ∷ st) = forest_kinds st ++ kinds_of t

abbrev pub forest_labels : List Tree → List ℕ
forest_labels [] = []
forest_labels (t ∷ st) = forest_labels st ++ labels_of t

none-some : {X : Type 0} {x : X} → none ≡ some x → ⊥
none-some h = let z : ◌≡◌ {A = ℕ} 0 1 = cc in omega arith

abbrev Grown : List Tree → List ℕ → List ℕ → ℕ → Type 0
Grown st ks ls m = (s : List Tree) × (length s ≡ m) × (forest_kinds s ≡ forest_kinds st ++ ks) × (forest_labels s ≡ forest_labels st ++ ls)

grow : (ks ls : List ℕ) (st : List Tree) (m : ℕ) → length ls ≡ length ks → waiting ks (length st) ≡ some m → Grown st ks ls m
grow [] [] st m e h = (st, cc, sym (append-nil _), sym (append-nil _))
grow [] (a ∷ ls) st m e h = absurd (omega arith)
grow (k ∷ ks) [] st m e h = absurd (omega arith)
grow (zero ∷ ks) (a ∷ ls) st m e h =
    let g : Grown (leaf a ∷ st) ks ls m = grow ks ls (leaf a ∷ st) m (omega arith) h in
    (g.0, g.1, g.2 ∙ simp append_assoc, g.3 ∙ simp append_assoc)
grow (suc zero ∷ ks) (a ∷ ls) [] m e h = absurd (none-some h)
grow (suc zero ∷ ks) (a ∷ ls) (r ∷ []) m e h = absurd (none-some h)
grow (suc zero ∷ ks) (a ∷ ls) (r ∷ l ∷ st) m e h =
    let g : Grown (node l a r ∷ st) ks ls m = grow ks ls (node l a r ∷ st) m (omega arith) h in
    (g.0, g.1, g.2 ∙ simp append_assoc, g.3 ∙ simp append_assoc)
grow (suc (suc k) ∷ ks) (a ∷ ls) st m e h = absurd (none-some h)

-- the one tree on a stack of one
one : (s : List Tree) → length s ≡ 1 → (t : Tree) × (s ≡ t ∷ [])
one [] e = absurd (omega arith)
one (t ∷ []) e = (t, refl)
one (t ∷ u ∷ s) e = absurd (omega arith)

-- kinds that pass the test, with labels of that number, are the post-order of a tree
pub tree-of : (ks ls : List ℕ) → length ls ≡ length ks → waiting ks 0 ≡ some 1 → (t : Tree) × (kinds_of t ≡ ks) × (labels_of t ≡ ls)
tree-of ks ls e h =
    let g : Grown [] ks ls 1 = grow ks ls [] 1 e h in
    let o : (t : Tree) × (g.0 ≡ t ∷ []) = one g.0 g.1 in
    (o.0, sym (ap forest_kinds o.1) ∙ g.2, sym (ap forest_labels o.1) ∙ g.3)

-- the test passes exactly where there is a tree
pub postorder-tree : (ks ls : List ℕ) → length ls ≡ length ks → is_postorder ks ≡ true → (t : Tree) × (kinds_of t ≡ ks) × (labels_of t ≡ ls)
unfolding is_postorder
postorder-tree ks ls e h = tree-of ks ls e (is_one (waiting ks 0) h)
  where
    is_one : (o : Option ℕ) → is_single o ≡ true → o ≡ some 1
    is_one none q = let z : ◌≡◌ {A = ℕ} 0 1 = cc in absurd (omega arith)
    is_one (some w) q = ap some (eqb-true w 1 q)

pub tree-postorder : (t : Tree) → is_postorder (kinds_of t) ≡ true
unfolding is_postorder
tree-postorder t = ap (λ (l : List ℕ). is_single (waiting l 0)) (sym (append-nil (kinds_of t))) ∙ ap is_single (waiting-tree t [] 0)

-- reading a tree's post-order gives the tree back
pub tree_of-is : (t : Tree) → tree_of (kinds_of t) (labels_of t) ≡ t
unfolding tree_of
tree_of-is t = ap last_completed (read_whole leaf node t) ∙ fold-id t

-- so what passes the test is the post-order of the tree that is read
pub tree_of-kinds : (ks ls : List ℕ) → length ls ≡ length ks → is_postorder ks ≡ true → kinds_of (tree_of ks ls) ≡ ks
tree_of-kinds ks ls e h =
    let T : (t : Tree) × (kinds_of t ≡ ks) × (labels_of t ≡ ls) = postorder-tree ks ls e h in
    ap kinds_of (ap₂ tree_of (sym T.1) (sym T.2) ∙ tree_of-is T.0) ∙ T.1

pub tree_of-labels : (ks ls : List ℕ) → length ls ≡ length ks → is_postorder ks ≡ true → labels_of (tree_of ks ls) ≡ ls
tree_of-labels ks ls e h =
    let T : (t : Tree) × (kinds_of t ≡ ks) × (labels_of t ≡ ls) = postorder-tree ks ls e h in
    ap labels_of (ap₂ tree_of (sym T.1) (sym T.2) ∙ tree_of-is T.0) ∙ T.2

pub tree_of-size : (ks ls : List ℕ) → length ls ≡ length ks → is_postorder ks ≡ true → size (tree_of ks ls) ≡ length ks
tree_of-size ks ls e h = sym (length-kinds (tree_of ks ls)) ∙ ap length (tree_of-kinds ks ls e h)

-- ---- the test, node by node: what a loop over the kinds uses

step-leaf : (k w : ℕ) (ks : List ℕ) → k ≡ 0 → waiting (k ∷ ks) w ≡ waiting ks (suc w)
step-leaf zero w ks e = refl
step-leaf (suc k) w ks e = absurd (omega arith)

step-inner : (k w : ℕ) (ks : List ℕ) → k ≡ 1 → waiting (k ∷ ks) (suc (suc w)) ≡ waiting ks (suc w)
step-inner zero w ks e = absurd (omega arith)
step-inner (suc zero) w ks e = refl
step-inner (suc (suc k)) w ks e = absurd (omega arith)

step-short : (k w : ℕ) (ks : List ℕ) → k ≡ 1 → w < 2 → waiting (k ∷ ks) w ≡ none
step-short zero w ks e h = absurd (omega arith)
step-short (suc zero) zero ks e h = refl
step-short (suc zero) (suc zero) ks e h = refl
step-short (suc zero) (suc (suc w)) ks e h = absurd (omega arith)
step-short (suc (suc k)) w ks e h = absurd (omega arith)

step_other : (k w : ℕ) (ks : List ℕ) → (k ≡ 0 → ⊥) → (k ≡ 1 → ⊥) → waiting (k ∷ ks) w ≡ none
step_other zero w ks n0 n1 = absurd (n0 refl)
step_other (suc zero) w ks n0 n1 = absurd (n1 refl)
step_other (suc (suc k)) w ks n0 n1 = refl

module _ (ks : List ℕ) (i : ℕ) (h : i < length ks) where
  pub leaf-at : (w : ℕ) → get_or ks i 0 ≡ 0 → waiting (drop i ks) w ≡ waiting (drop (i + 1) ks) (w + 1)
  leaf-at w e = rw (add-one, add-one w, drop-cons ks i 0) (step-leaf (get_or ks i 0) w (drop (suc i) ks) e)

  pub inner-at : (w : ℕ) → get_or ks i 0 ≡ 1 → 2 ≤ w → waiting (drop i ks) w ≡ waiting (drop (i + 1) ks) (w - 1)
  inner-at zero e l = absurd (omega arith)
  inner-at (suc zero) e l = absurd (omega arith)
  inner-at (suc (suc w)) e l =
      let f : suc (suc w) - 1 ≡ suc w = omega arith in
      rw (f, add-one, drop-cons ks i 0) (step-inner (get_or ks i 0) w (drop (suc i) ks) e)

  pub short-at : (w : ℕ) → get_or ks i 0 ≡ 1 → w < 2 → waiting (drop i ks) w ≡ none
  short-at w e l = rw (drop-cons ks i 0) (step-short (get_or ks i 0) w (drop (suc i) ks) e l)

  pub other_at : (w : ℕ) → (get_or ks i 0 ≡ 0 → ⊥) → (get_or ks i 0 ≡ 1 → ⊥) → waiting (drop i ks) w ≡ none
  other_at w n0 n1 = rw (drop-cons ks i 0) (step_other (get_or ks i 0) w (drop (suc i) ks) n0 n1)

pub end-at : (ks : List ℕ) (i w : ℕ) → length ks ≤ i → waiting (drop i ks) w ≡ some w
end-at ks i w h = rw (drop_of_length-le ks h)

-- ---- trees with given kinds

pub size_of : (t : Tree) (ks : List ℕ) → kinds_of t ≡ ks → length ks ≡ size t
size_of t ks e = ap length (sym e) ∙ length-kinds t

-- the kind of node i, of the tree or of the list
pub kind-of : (t : Tree) (ks : List ℕ) (i : ℕ) → kinds_of t ≡ ks → get_or (kinds_of t) i 0 ≡ get_or ks i 0
kind-of t ks i e = ap (λ (l : List ℕ). get_or l i 0) e

pub some-tree : (ks : List ℕ) → is_postorder ks ≡ true → (t : Tree) × (kinds_of t ≡ ks)
some-tree ks h = let T : (t : Tree) × (kinds_of t ≡ ks) × (labels_of t ≡ ks) = postorder-tree ks ks refl h in (T.0, T.1)

pub some_node : (ks : List ℕ) → is_postorder ks ≡ true → 0 < length ks
some_node ks h =
    let T : (t : Tree) × (kinds_of t ≡ ks) = some-tree ks h in omega (arith, size_of T.0 ks T.1, size-pos T.0)
