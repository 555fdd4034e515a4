-- The laws of weights: they depend on the letters of their own nodes only, and they are linear.
--     weighed-same       letters that agree on the nodes of a tree weigh it alike
--     weighed-sum        a sum of weights is weighed term by term
--     weighed-times      so is a multiple
--     weighed-open       one node more opened is the sum over its labels
--     weighed-closed     with one label at each node, the weight of the state
--     weighed-below      only states below S count
use Prim.Native.Nat.{ℕ, ◌+◌, ◌*◌, ◌-◌, ◌≤◌, ◌<◌}
use mathlib.Core.Path.{◌≡◌, refl, sym, ap, ap₂, ◌∙◌, fun_ext}
use mathlib.Core.Bool.{Bool, true, false, cond}
use native.Mathlib.Omega.{arith}
use mathlib.Core.List.{List, [], ◌∷◌, ◌++◌}
use lib.ListN.{length, get_or}
use lib.Seq.{ext_get_or}
use Rattle.list_laws.proofs.AppendLaws.{at_left, at-middle, at_right}
use Rattle.trees.specs.Tree.{Tree, leaf, node, size, kinds_of, labels_of, label_at}
use Rattle.trees.specs.Automaton.{Automaton, state}
use Rattle.trees.proofs.NodeLaws.{Place, in_l, in_r, top, place, length-labels}
use Rattle.trees.proofs.PostorderLaws.{postorder-unique}
use Rattle.choices.specs.assignments.Sums.{sum_to, LabelSum, open_sum}
use Rattle.choices.specs.assignments.inner.Weights.{weighed}
use Rattle.choices.proofs.assignments.SumLaws.{sum-ext, sum-swap, sum-times}

-- two ways to choose labels agree on the n nodes from lo on
abbrev pub Alike : LabelSum → LabelSum → ℕ → ℕ → Type 0
Alike ch dh lo n = (v : ℕ) → lo ≤ v → v < lo + n → (f : ℕ → ℕ) → ch v f ≡ dh v f

abbrev pub Linear : LabelSum → Type 0
Linear ch = (v n : ℕ) (f : ℕ → ℕ → ℕ) → ch v (λ b. sum_to n (λ a. f a b)) ≡ sum_to n (λ a. ch v (f a))

abbrev pub Scales : LabelSum → Type 0
Scales ch = (v m : ℕ) (f : ℕ → ℕ) → ch v (λ b. f b * m) ≡ ch v f * m

pub open-linear : (k : ℕ) (w : ℕ → Bool) (ls : List ℕ) → Linear (open_sum k w ls)
unfolding open_sum
open-linear k w ls v n f = go (w v)
  where
    go : (b : Bool) → cond b (sum_to k (λ b. sum_to n (λ a. f a b))) (sum_to n (λ a. f a (get_or ls v 0)))
        ≡ sum_to n (λ a. cond b (sum_to k (f a)) (f a (get_or ls v 0)))
    go true = sum-swap k n (λ b a. f a b)
    go false = refl

pub open-scales : (k : ℕ) (w : ℕ → Bool) (ls : List ℕ) → Scales (open_sum k w ls)
unfolding open_sum
open-scales k w ls v m f = go (w v)
  where
    go : (b : Bool) → cond b (sum_to k (λ b. f b * m)) (f (get_or ls v 0) * m) ≡ cond b (sum_to k f) (f (get_or ls v 0)) * m
    go true = sum-times k f m
    go false = refl

module _ (A : Automaton) where
  pub weighed-same : (ch dh : LabelSum) (t : Tree) (lo : ℕ) (g : ℕ → ℕ) → Alike ch dh lo (size t) → weighed A ch t lo g
      ≡ weighed A dh t lo g
  unfolding weighed
  weighed-same ch dh (leaf a) lo g s = s lo (omega arith) (omega arith) (λ b. g (A.ι b))
  weighed-same ch dh (node l a r) lo g s =
      weighed-same ch dh l lo (λ p. weighed A ch r (lo + size l)
      (λ q. ch (lo + size l + size r) (λ b. g (A.δ p b q))))
      (λ v h i f. s v (omega arith) (omega arith) f)
      ∙ ap (weighed A dh l lo) (fun_ext λ p.
      weighed-same ch dh r (lo + size l) (λ q. ch (lo + size l + size r) (λ b. g (A.δ p b q)))
      (λ v h i f. s v (omega arith) (omega arith) f)
      ∙ ap (weighed A dh r (lo + size l))
      (fun_ext λ q. s (lo + size l + size r) (omega arith) (omega arith) (λ b. g (A.δ p b q))))

  module _ (ch : LabelSum) (linear : Linear ch) where
    pub weighed-sum : (t : Tree) (lo n : ℕ) (f : ℕ → ℕ → ℕ) → weighed A ch t lo (λ c. sum_to n (λ a. f a c))
        ≡ sum_to n (λ a. weighed A ch t lo (f a))
    unfolding weighed
    weighed-sum (leaf a) lo n f = linear lo n (λ a b. f a (A.ι b))
    weighed-sum (node l a r) lo n f =
        ap (weighed A ch l lo) (fun_ext λ p.
        ap (weighed A ch r (lo + size l)) (fun_ext λ q. linear (lo + size l + size r) n (λ a b. f a (A.δ p b q)))
        ∙ weighed-sum r (lo + size l) n (λ a q. ch (lo + size l + size r) (λ b. f a (A.δ p b q))))
        ∙ weighed-sum l lo n (λ a p. weighed A ch r (lo + size l)
        (λ q. ch (lo + size l + size r) (λ b. f a (A.δ p b q))))

  module _ (ch : LabelSum) (scales : Scales ch) where
    pub weighed-times : (t : Tree) (lo m : ℕ) (f : ℕ → ℕ) → weighed A ch t lo (λ c. f c * m) ≡ weighed A ch t lo f * m
    unfolding weighed
    weighed-times (leaf a) lo m f = scales lo m (λ b. f (A.ι b))
    weighed-times (node l a r) lo m f =
        ap (weighed A ch l lo) (fun_ext λ p.
        ap (weighed A ch r (lo + size l)) (fun_ext λ q. scales (lo + size l + size r) m (λ b. f (A.δ p b q)))
        ∙ weighed-times r (lo + size l) m (λ q. ch (lo + size l + size r) (λ b. f (A.δ p b q))))
        ∙ weighed-times l lo m (λ p. weighed A ch r (lo + size l)
        (λ q. ch (lo + size l + size r) (λ b. f (A.δ p b q))))

  -- node v opened: ch sums over k labels there, and choice a is cha a
  module _ (k : ℕ) (ch : LabelSum) (cha : ℕ → LabelSum) (linear : Linear ch) (v : ℕ)
      (there : (f : ℕ → ℕ) → ch v f ≡ sum_to k (λ a. cha a v f))
      (elsewhere : (a u : ℕ) → (u ≡ v → ⊥) → (f : ℕ → ℕ) → ch u f ≡ cha a u f) where
    away : (a : ℕ) (t : Tree) (lo : ℕ) (g : ℕ → ℕ) → (lo ≤ v → v < lo + size t → ⊥) → weighed A ch t lo g
        ≡ weighed A (cha a) t lo g
    away a t lo g n = weighed-same ch (cha a) t lo g (λ u h i f. elsewhere a u (λ e. n (omega arith) (omega arith)) f)

    pub weighed-open : (t : Tree) (lo : ℕ) (g : ℕ → ℕ) → lo ≤ v → v < lo + size t → weighed A ch t lo g
        ≡ sum_to k (λ a. weighed A (cha a) t lo g)
    unfolding weighed
    weighed-open (leaf a) lo g h i =
        let e : lo ≡ v = omega arith in
        rw e (there (λ b. g (A.ι b)))
    weighed-open (node l a r) lo g h i =
        go (place l a r (v - lo) (omega arith)) (weighed-open l lo) (weighed-open r (lo + size l))
      where
        m : ℕ
        m = lo + size l

        top-at : ℕ
        top-at = lo + size l + size r

        go : Place l r (v - lo)
            → ((g : ℕ → ℕ) → lo ≤ v → v < lo + size l → weighed A ch l lo g ≡ sum_to k (λ a. weighed A (cha a) l lo g))
            → ((g : ℕ → ℕ) → lo + size l ≤ v → v < lo + size l + size r
            → weighed A ch r (lo + size l) g ≡ sum_to k (λ a. weighed A (cha a) r (lo + size l) g))
            → weighed A ch l lo (λ p. weighed A ch r m (λ q. ch top-at (λ b. g (A.δ p b q))))
            ≡ sum_to k (λ a. weighed A (cha a) l lo
            (λ p. weighed A (cha a) r m (λ q. cha a top-at (λ b. g (A.δ p b q)))))
        go (in_l x) L R =
            L _ (omega arith) (omega arith)
            ∙ sum-ext k _ _ (λ a _. ap (weighed A (cha a) l lo) (fun_ext λ p.
            away a r m _ (λ y z. omega arith)
            ∙ ap (weighed A (cha a) r m) (fun_ext λ q. elsewhere a top-at (λ z. omega arith) _)))
        go (in_r j e x) L R =
            ap (weighed A ch l lo) (fun_ext λ p. R (λ q. ch top-at (λ b. g (A.δ p b q))) (omega arith) (omega arith))
            ∙ weighed-sum ch linear l lo k (λ a p. weighed A (cha a) r m (λ q. ch top-at (λ b. g (A.δ p b q))))
            ∙ sum-ext k _ _ (λ a _. away a l lo _ (λ y z. omega arith)
            ∙ ap (weighed A (cha a) l lo) (fun_ext λ p.
            ap (weighed A (cha a) r m) (fun_ext λ q. elsewhere a top-at (λ z. omega arith) _)))
        go (top e) L R =
            let t : top-at ≡ v = omega arith in
            ap (weighed A ch l lo) (fun_ext λ p.
            ap (weighed A ch r m) (fun_ext λ q. (rw t (there (λ b. g (A.δ p b q)))))
            ∙ weighed-sum ch linear r m k (λ a q. cha a top-at (λ b. g (A.δ p b q))))
            ∙ weighed-sum ch linear l lo k (λ a p. weighed A ch r m (λ q. cha a top-at (λ b. g (A.δ p b q))))
            ∙ sum-ext k _ _ (λ a _. away a l lo _ (λ y z. omega arith)
            ∙ ap (weighed A (cha a) l lo) (fun_ext λ p. away a r m _ (λ y z. omega arith)))

-- ---- one label at each node

-- the tree of t's shape with label lab v at node v
unfoldable pub relabelled : (ℕ → ℕ) → Tree → ℕ → Tree
relabelled lab (leaf a) lo = leaf (lab lo)
relabelled lab (node l a r) lo = node (relabelled lab l lo) (lab (lo + size l + size r))
    (relabelled lab r (lo + size l))

pub relabelled-kinds : (lab : ℕ → ℕ) (t : Tree) (lo : ℕ) → kinds_of (relabelled lab t lo) ≡ kinds_of t
unfolding relabelled
relabelled-kinds lab (leaf a) lo = refl
relabelled-kinds lab (node l a r) lo =
    ap₂ (λ (x y : List ℕ). x ++ (y ++ (1 ∷ []))) (relabelled-kinds lab l lo) (relabelled-kinds lab r (lo + size l))

pub relabelled-size : (lab : ℕ → ℕ) (t : Tree) (lo : ℕ) → size (relabelled lab t lo) ≡ size t
unfolding relabelled
relabelled-size lab (leaf a) lo = refl
relabelled-size lab (node l a r) lo = ap₂ (λ (x y : ℕ). x + y + 1) (relabelled-size lab l lo)
    (relabelled-size lab r (lo + size l))

pub relabelled-at : (lab : ℕ → ℕ) (t : Tree) (lo j : ℕ) → j < size t → label_at (relabelled lab t lo) j ≡ lab (lo + j)
unfolding relabelled
relabelled-at lab (leaf a) lo j h =
    let e : j ≡ 0 = omega arith in
    let f : lo ≡ lo + j = omega arith in
    ap (λ (i : ℕ). get_or (lab lo ∷ []) i 0) e ∙ ap lab f
relabelled-at lab (node l a r) lo j h = go (place l a r j h) (relabelled-at lab l lo j)
    (λ i. relabelled-at lab r (lo + size l) i)
  where
    ll : length (labels_of (relabelled lab l lo)) ≡ size l
    ll = length-labels (relabelled lab l lo) ∙ relabelled-size lab l lo

    lr : length (labels_of (relabelled lab r (lo + size l))) ≡ size r
    lr = length-labels (relabelled lab r (lo + size l)) ∙ relabelled-size lab r (lo + size l)

    go : Place l r j → (j < size l → label_at (relabelled lab l lo) j ≡ lab (lo + j))
        → ((i : ℕ) → i < size r → label_at (relabelled lab r (lo + size l)) i ≡ lab (lo + size l + i))
        → get_or (labels_of (relabelled lab l lo) ++
        (labels_of (relabelled lab r (lo + size l)) ++ (lab (lo + size l + size r) ∷ []))) j 0 ≡ lab (lo + j)
    go (in_l x) L R = at_left 0 (labels_of (relabelled lab l lo)) (labels_of (relabelled lab r (lo + size l)))
        (lab (lo + size l + size r) ∷ []) j (omega (arith, ll)) ∙ L x
    go (in_r i e x) L R =
        at-middle 0 (labels_of (relabelled lab l lo)) (labels_of (relabelled lab r (lo + size l)))
        (lab (lo + size l + size r) ∷ []) j i (omega (arith, ll)) (omega (arith, lr)) ∙ R i x
        ∙ (let q : lo + size l + i ≡ lo + j = omega arith in ap lab q)
    go (top e) L R = at_right 0 (labels_of (relabelled lab l lo)) (labels_of (relabelled lab r (lo + size l)))
        (lab (lo + size l + size r) ∷ []) j 0 (omega (arith, ll, lr))
        ∙ (let q : lo + size l + size r ≡ lo + j = omega arith in ap lab q)

pub relabelled-self : (lab : ℕ → ℕ) (t : Tree) (lo : ℕ) → ((j : ℕ) → j < size t → lab (lo + j) ≡ label_at t j)
    → relabelled lab t lo ≡ t
relabelled-self lab t lo e =
    postorder-unique (relabelled lab t lo) t (relabelled-kinds lab t lo)
    (ext_get_or 0 _ _ (length-labels (relabelled lab t lo) ∙ relabelled-size lab t lo ∙ sym (length-labels t))
    (λ i h. let l : i < size t = omega (arith, length-labels (relabelled lab t lo), relabelled-size lab t lo) in
    relabelled-at lab t lo i l ∙ e i l))

pub weighed-closed : (A : Automaton) (ch : LabelSum) (lab : ℕ → ℕ) (t : Tree) (lo : ℕ) (g : ℕ → ℕ)
    → ((v : ℕ) → lo ≤ v → v < lo + size t → (f : ℕ → ℕ) → ch v f ≡ f (lab v)) → weighed A ch t lo g
    ≡ g (state A (relabelled lab t lo))
unfolding weighed relabelled
weighed-closed A ch lab (leaf a) lo g s = s lo (omega arith) (omega arith) (λ b. g (A.ι b))
weighed-closed A ch lab (node l a r) lo g s =
    weighed-closed A ch lab l lo
    (λ p. weighed A ch r (lo + size l) (λ q. ch (lo + size l + size r) (λ b. g (A.δ p b q))))
    (λ v h i f. s v (omega arith) (omega arith) f)
    ∙ weighed-closed A ch lab r (lo + size l)
    (λ q. ch (lo + size l + size r) (λ b. g (A.δ (state A (relabelled lab l lo)) b q)))
    (λ v h i f. s v (omega arith) (omega arith) f)
    ∙ s (lo + size l + size r) (omega arith) (omega arith) _

-- ---- only states below S count

pub weighed-below : (A : Automaton) → ((a : ℕ) → A.ι a < A.states) → ((p a q : ℕ) → A.δ p a q < A.states)
    → (ch : LabelSum)
    → (t : Tree) (lo : ℕ) (f g : ℕ → ℕ) → ((c : ℕ) → c < A.states → f c ≡ g c) → weighed A ch t lo f
    ≡ weighed A ch t lo g
unfolding weighed
weighed-below A i n ch (leaf a) lo f g e = ap (ch lo) (fun_ext λ b. e (A.ι b) (i b))
weighed-below A i n ch (node l a r) lo f g e =
    ap (weighed A ch l lo) (fun_ext λ p. ap (weighed A ch r (lo + size l)) (fun_ext λ q.
    ap (ch (lo + size l + size r)) (fun_ext λ b. e (A.δ p b q) (n p b q))))
