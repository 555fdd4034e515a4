-- The cost of a state is the least number of changes over all relabellings, and the witness has it.
--     same_shape       trees of the same kinds, node by node
--     cost-least       no relabelling that ends in state s has fewer differences than the cost of s
--     cost-attained    below far the witness ends in state s, is permitted, and differs in so many labels
use Prim.Native.Nat.{ℕ, ◌+◌, ◌≤◌, ◌<◌}
use mathlib.Core.Path.{◌≡◌, refl, sym, ap, ap₂, ◌∙◌, subst}
use mathlib.Core.Bool.{Bool, true, false, cond, ◌&&◌, ◌||◌}
use mathlib.Core.List.{List, [], ◌∷◌, ◌++◌}
use native.Mathlib.Omega.{arith}
use lib.Dec.{eqb, ltb}
use lib.ListN.{length}
use lib.Seq.{ext_get_or}
use borrow.Author.Tests.{eqb-true, eq-eqb, ltb-true, lt-ltb}
use Rattle.list_laws.proofs.BoolLaws.{and_left, and_right, and_both, true-false}
use Rattle.trees.specs.Tree.{Tree, leaf, node, size, kinds_of, labels_of, label_at}
use Rattle.trees.specs.Automaton.{Automaton, state}
use Rattle.trees.proofs.NodeLaws.{length-labels, length-kinds}
use Rattle.trees.proofs.PostorderLaws.{postorder-unique}
use Rattle.trees.proofs.RunLaws.{state_below}
use Rattle.questions.specs.ready.StaysInside.{StaysInside}
use Rattle.choices.proofs.assignments.WeighLaws.{relabelled, relabelled-kinds, relabelled-size, relabelled-at}
use Rattle.fewest.specs.Relabelling.{differ, differences, may_take, permitted}
use Rattle.fewest.specs.Least.{place_of_least}
use Rattle.fewest.specs.inner.Cost.{Problem, change_cost, leaf_cost, inner_cost, least_label, least_right, least_left}
use Rattle.fewest.specs.inner.Cost.{cost}
use Rattle.fewest.specs.inner.Cost.{left_choice, right_choice, label_choice, witness}
use Rattle.fewest.proofs.costs.LeastLaws.{least-le, Found, least-found}
use Rattle.fewest.proofs.costs.ListLaws.{differences-append, permitted-append}

-- ---- the same shape

pub data Same : Tree → Tree → Type 0 where
  leaves : {a b : ℕ} → Same (leaf a) (leaf b)
  nodes : {l m r s : Tree} {a b : ℕ} → Same l m → Same r s → Same (node l a r) (node m b s)

same-relabelled : (lab : ℕ → ℕ) (t : Tree) (lo : ℕ) → Same t (relabelled lab t lo)
unfolding relabelled
same-relabelled lab (leaf a) lo = leaves
same-relabelled lab (node l a r) lo = nodes (same-relabelled lab l lo) (same-relabelled lab r (lo + size l))

pub same_shape : (t u : Tree) → kinds_of u ≡ kinds_of t → Same t u
same_shape t u e = subst (Same t) is (same-relabelled (label_at u) t 0)
  where
    w : Tree
    w = relabelled (label_at u) t 0

    count : size u ≡ size t
    count = sym (length-kinds u) ∙ ap length e ∙ length-kinds t

    is : relabelled (label_at u) t 0 ≡ u
    is = postorder-unique (relabelled (label_at u) t 0) u (relabelled-kinds (label_at u) t 0 ∙ sym e)
        (ext_get_or 0 (labels_of (relabelled (label_at u) t 0)) (labels_of u)
        (length-labels (relabelled (label_at u) t 0) ∙ relabelled-size (label_at u) t 0 ∙ sym count ∙ sym (length-labels u))
        (λ i h. relabelled-at (label_at u) t 0 i (omega (arith, length-labels (relabelled (label_at u) t 0), relabelled-size (label_at u) t 0))
        ∙ (let z : 0 + i ≡ i = omega arith in ap (label_at u) z)))

pub same-kinds : (t u : Tree) → Same t u → kinds_of u ≡ kinds_of t
same-kinds (leaf a) (leaf b) leaves = refl
same-kinds (leaf a) (node m b s) x = elim x [ ]
same-kinds (node l a r) (leaf b) x = elim x [ ]
same-kinds (node l a r) (node m b s) (nodes p q) =
    ap₂ (λ (x y : List ℕ). x ++ (y ++ (1 ∷ []))) (same-kinds l m p) (same-kinds r s q)

pub same_length : (t u : Tree) → Same t u → length (labels_of t) ≡ length (labels_of u)
same_length t u p =
    length-labels t ∙ sym (length-kinds t) ∙ sym (ap length (same-kinds t u p)) ∙ length-kinds u ∙ sym (length-labels u)

-- ---- differences and permissions of a tree of two parts

module _ (l r m s : Tree) (a b : ℕ) (p : Same l m) (q : Same r s) where
  pub node-differences : differences (labels_of (node l a r)) (labels_of (node m b s))
      ≡ differences (labels_of l) (labels_of m) + differences (labels_of r) (labels_of s) + differ a b
  unfolding differences
  node-differences =
      differences-append (labels_of l) (labels_of m) (labels_of r ++ (a ∷ [])) (labels_of s ++ (b ∷ [])) (same_length l m p)
      ∙ ap (λ (x : ℕ). differences (labels_of l) (labels_of m) + x)
      (differences-append (labels_of r) (labels_of s) (a ∷ []) (b ∷ []) (same_length r s q))
      ∙ omega arith

  pub node-permitted : (k : ℕ) (may : ℕ → ℕ → Bool) (lo : ℕ)
      → permitted k may lo (labels_of (node l a r)) (labels_of (node m b s))
      ≡ (permitted k may lo (labels_of l) (labels_of m)
      && (permitted k may (lo + size l) (labels_of r) (labels_of s) && (may_take k may (lo + size l + size r) a b && true)))
  unfolding permitted
  node-permitted k may lo =
      permitted-append k may lo (labels_of l) (labels_of m) (labels_of r ++ (a ∷ [])) (labels_of s ++ (b ∷ [])) (same_length l m p)
      ∙ ap (λ (n : ℕ). permitted k may lo (labels_of l) (labels_of m)
      && permitted k may (lo + n) (labels_of r ++ (a ∷ [])) (labels_of s ++ (b ∷ []))) (length-labels l)
      ∙ ap (λ (x : Bool). permitted k may lo (labels_of l) (labels_of m) && x)
      (permitted-append k may (lo + size l) (labels_of r) (labels_of s) (a ∷ []) (b ∷ []) (same_length r s q)
      ∙ ap (λ (n : ℕ). permitted k may (lo + size l) (labels_of r) (labels_of s)
      && permitted k may (lo + size l + n) (a ∷ []) (b ∷ [])) (length-labels r))

-- ---- a choice of label and its cost

module _ (P : Problem) where
  -- a permitted label costs what it differs
  change-permitted : (v a b : ℕ) → may_take P.labels P.may v a b ≡ true → change_cost P v a b ≡ differ a b
  change-permitted v a b h = go (eqb a b) (P.may v b) (and_right (ltb b P.labels) (eqb a b || P.may v b) h)
    where
      go : (c d : Bool) → (c || d) ≡ true → cond c 0 (cond d 1 P.far) ≡ cond c 0 1
      go true d e = refl
      go false true e = refl
      go false false e = absurd (true-false (sym e))

  -- and a label that costs less than far is permitted
  change-below : (v a b : ℕ) → b < P.labels → change_cost P v a b < P.far → may_take P.labels P.may v a b ≡ true
  change-below v a b l h = and_both (ltb b P.labels) (eqb a b || P.may v b) (lt-ltb b P.labels l) (go (eqb a b) (P.may v b) h)
    where
      go : (c d : Bool) → cond c 0 (cond d 1 P.far) < P.far → (c || d) ≡ true
      go true d e = refl
      go false true e = refl
      go false false e = absurd (omega arith)

  -- a choice that costs less than far is made
  chosen : (c : Bool) (x : ℕ) → cond c x P.far < P.far → (c ≡ true) × (cond c x P.far ≡ x)
  chosen true x h = (refl, refl)
  chosen false x h = absurd (omega arith)

  -- ---- no relabelling is cheaper

  -- an inner node costs no more than by the children's states p, q and the label b
  inner-least : (v a : ℕ) (f g : ℕ → ℕ) (p b q : ℕ) → p < P.automaton.states → b < P.labels → q < P.automaton.states
      → least_left P v a (P.automaton.δ p b q) f g ≤ f p + g q + change_cost P v a b
  unfolding inner_cost
  inner-least v a f g p b q hp hb hq =
      let s : ℕ = P.automaton.δ p b q in
      let e : inner_cost P v a s (f p) p (g q) q b ≡ f p + g q + change_cost P v a b =
      ap (λ (c : Bool). cond c (f p + g q + change_cost P v a b) P.far) (eq-eqb s s refl) in
      omega (
        arith,
        least-le P.far P.automaton.states (λ p. least_right P v a s (f p) p g) p hp,
        least-le P.far P.automaton.states (λ q. least_label P v a s (f p) p (g q) q) q hq,
        least-le P.far P.labels (inner_cost P v a s (f p) p (g q) q) b hb,
        e,
      )

  pub cost-least : StaysInside P.automaton → (t u : Tree) → Same t u → (lo : ℕ)
      → permitted P.labels P.may lo (labels_of t) (labels_of u) ≡ true
      → cost P t lo (state P.automaton u) ≤ differences (labels_of t) (labels_of u)
  unfolding cost leaf_cost permitted differences
  cost-least S (leaf a) (leaf b) leaves lo h =
      let A : Automaton = P.automaton in
      let m : may_take P.labels P.may lo a b ≡ true = and_left (may_take P.labels P.may lo a b) true h in
      let l : b < P.labels = ltb-true b P.labels (and_left (ltb b P.labels) (eqb a b || P.may lo b) m) in
      let f = least-le P.far P.labels (leaf_cost P lo a (P.automaton.ι b)) b l in
      let e : leaf_cost P lo a (P.automaton.ι b) b ≡ differ a b =
      ap (λ (c : Bool). cond c (change_cost P lo a b) P.far) (eq-eqb (P.automaton.ι b) (P.automaton.ι b) refl)
      ∙ change-permitted lo a b m in
      omega (arith, f, e)
  cost-least S (leaf a) (node m b s) x lo h = elim x [ ]
  cost-least S (node l a r) (leaf b) x lo h = elim x [ ]
  cost-least S (node l a r) (node m b s) (nodes x y) lo h =
      go (cost-least S l m x lo) (cost-least S r s y (lo + size l)) (sym (node-permitted l r m s a b x y P.labels P.may lo) ∙ h)
    where
      go : (permitted P.labels P.may lo (labels_of l) (labels_of m) ≡ true
          → cost P l lo (state P.automaton m) ≤ differences (labels_of l) (labels_of m))
          → (permitted P.labels P.may (lo + size l) (labels_of r) (labels_of s) ≡ true
          → cost P r (lo + size l) (state P.automaton s) ≤ differences (labels_of r) (labels_of s))
          → (permitted P.labels P.may lo (labels_of l) (labels_of m)
          && (permitted P.labels P.may (lo + size l) (labels_of r) (labels_of s)
          && (may_take P.labels P.may (lo + size l + size r) a b && true))) ≡ true
          → least_left P (lo + size l + size r) a (P.automaton.δ (state P.automaton m) b (state P.automaton s))
          (λ p. cost P l lo p) (λ q. cost P r (lo + size l) q)
          ≤ differences (labels_of (node l a r)) (labels_of (node m b s))
      go L R g =
          let g1 = and_right (permitted P.labels P.may lo (labels_of l) (labels_of m)) _ g in
          let g2 = and_right (permitted P.labels P.may (lo + size l) (labels_of r) (labels_of s)) _ g1 in
          let may : may_take P.labels P.may (lo + size l + size r) a b ≡ true =
          and_left (may_take P.labels P.may (lo + size l + size r) a b) true g2 in
          let hb : b < P.labels = ltb-true b P.labels (and_left (ltb b P.labels) (eqb a b || P.may (lo + size l + size r) b) may) in
          let least = inner-least (lo + size l + size r) a (λ p. cost P l lo p) (λ q. cost P r (lo + size l) q)
          (state P.automaton m) b (state P.automaton s)
          (state_below P.automaton S.init S.next m) hb (state_below P.automaton S.init S.next s) in
          omega (
            arith,
            least,
            L (and_left (permitted P.labels P.may lo (labels_of l) (labels_of m)) _ g),
            R (and_left (permitted P.labels P.may (lo + size l) (labels_of r) (labels_of s)) _ g1),
            change-permitted (lo + size l + size r) a b may,
            node-differences l r m s a b x y,
          )

  -- ---- the witness has it

  pub record Attained (t : Tree) (lo s : ℕ) (u : Tree) : Type 0 where
    pub shape : Same t u
    pub allowed : permitted P.labels P.may lo (labels_of t) (labels_of u) ≡ true
    pub ends : state P.automaton u ≡ s
    pub number : differences (labels_of t) (labels_of u) ≡ cost P t lo s

  -- the choice at an inner node, by the costs f and g of its children
  pub record InnerFound (v a s : ℕ) (f g : ℕ → ℕ) (p q b : ℕ) : Type 0 where
    pub left_in : p < P.automaton.states
    pub right_in : q < P.automaton.states
    pub label_in : b < P.labels
    pub leads : P.automaton.δ p b q ≡ s
    pub sum : f p + g q + change_cost P v a b ≡ least_left P v a s f g

  pub inner-found : (v a s : ℕ) (f g : ℕ → ℕ) (p q b : ℕ) → p ≡ left_choice P v a s f g → q ≡ right_choice P v a s (f p) p g
      → b ≡ label_choice P v a s (f p) p (g q) q → least_left P v a s f g < P.far → InnerFound v a s f g p q b
  unfolding inner_cost
  inner-found v a s f g p q b ep eq eb h =
      let F : Found P.far P.automaton.states (λ p. least_right P v a s (f p) p g) p =
      subst (Found P.far P.automaton.states (λ p. least_right P v a s (f p) p g)) (sym ep)
      (least-found P.far P.automaton.states (λ p. least_right P v a s (f p) p g) h) in
      let hf : least_right P v a s (f p) p g < P.far = omega (arith, F.is) in
      let G : Found P.far P.automaton.states (λ q. least_label P v a s (f p) p (g q) q) q =
      subst (Found P.far P.automaton.states (λ q. least_label P v a s (f p) p (g q) q)) (sym eq)
      (least-found P.far P.automaton.states (λ q. least_label P v a s (f p) p (g q) q) hf) in
      let hg : least_label P v a s (f p) p (g q) q < P.far = omega (arith, G.is) in
      let H : Found P.far P.labels (inner_cost P v a s (f p) p (g q) q) b =
      subst (Found P.far P.labels (inner_cost P v a s (f p) p (g q) q)) (sym eb)
      (least-found P.far P.labels (inner_cost P v a s (f p) p (g q) q) hg) in
      let C = chosen (eqb (P.automaton.δ p b q) s) (f p + g q + change_cost P v a b) (omega (arith, H.is)) in
      record {
        left_in = F.below;
        right_in = G.below;
        label_in = H.below;
        leads = eqb-true (P.automaton.δ p b q) s C.0;
        sum = omega (arith, F.is, G.is, H.is, C.1);
      }

  attained-node : (l r m n : Tree) (a lo s p q b : ℕ) → Attained l lo p m → Attained r (lo + size l) q n
      → InnerFound (lo + size l + size r) a s (λ p. cost P l lo p) (λ q. cost P r (lo + size l) q) p q b
      → may_take P.labels P.may (lo + size l + size r) a b ≡ true
      → Attained (node l a r) lo s (node m b n)
  unfolding cost
  attained-node l r m n a lo s p q b L R I may = record {
    shape = nodes L.shape R.shape;
    allowed = node-permitted l r m n a b L.shape R.shape P.labels P.may lo
        ∙ and_both (permitted P.labels P.may lo (labels_of l) (labels_of m)) _ L.allowed
        (and_both (permitted P.labels P.may (lo + size l) (labels_of r) (labels_of n)) _ R.allowed
        (and_both (may_take P.labels P.may (lo + size l + size r) a b) true may refl));
    ends = ap₂ (λ (x y : ℕ). P.automaton.δ x b y) L.ends R.ends ∙ I.leads;
    number = node-differences l r m n a b L.shape R.shape
        ∙ omega (arith, L.number, R.number, change-permitted (lo + size l + size r) a b may, I.sum);
  }

  pub cost-attained : (t : Tree) (lo s : ℕ) → cost P t lo s < P.far → Attained t lo s (witness P t lo s)
  unfolding cost witness leaf_cost permitted differences
  cost-attained (leaf a) lo s h =
      let F = least-found P.far P.labels (leaf_cost P lo a s) h in
      let b : ℕ = place_of_least P.far P.labels (leaf_cost P lo a s) in
      let C = chosen (eqb (P.automaton.ι b) s) (change_cost P lo a b) (omega (arith, F.is)) in
      let may : may_take P.labels P.may lo a b ≡ true = change-below lo a b F.below (omega (arith, F.is, C.1)) in
      record {
        shape = leaves;
        allowed = and_both (may_take P.labels P.may lo a b) true may refl;
        ends = eqb-true (P.automaton.ι b) s C.0;
        number = omega (arith, change-permitted lo a b may, C.1, F.is);
      }
  cost-attained (node l a r) lo s h =
      let v : ℕ = lo + size l + size r in
      let p : ℕ = left_choice P v a s (λ p. cost P l lo p) (λ q. cost P r (lo + size l) q) in
      let q : ℕ = right_choice P v a s (cost P l lo p) p (λ q. cost P r (lo + size l) q) in
      let b : ℕ = label_choice P v a s (cost P l lo p) p (cost P r (lo + size l) q) q in
      let I : InnerFound v a s (λ p. cost P l lo p) (λ q. cost P r (lo + size l) q) p q b =
      inner-found v a s (λ p. cost P l lo p) (λ q. cost P r (lo + size l) q) p q b refl refl refl h in
      attained-node l r (witness P l lo p) (witness P r (lo + size l) q) a lo s p q b
      (cost-attained l lo p (omega (arith, I.sum))) (cost-attained r (lo + size l) q (omega (arith, I.sum))) I
      (change-below v a b I.label_in (omega (arith, I.sum)))
