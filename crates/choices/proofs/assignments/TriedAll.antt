-- The counts by trying all are weights of the tree, and add up to K to the power m.
--     counted-weight    a count is the weight of its state
--     counted-sum       all counts add up to k ^ m
use Prim.Native.Nat.{ℕ, zero, suc, ◌+◌, ◌*◌, ◌^◌, ◌<◌}
use mathlib.Core.Path.{◌≡◌, refl, sym, ap, ap₂, ◌∙◌, fun_ext}
use mathlib.Core.Bool.{Bool, true, false, cond, not, ◌||◌}
use mathlib.Core.List.{List, [], ◌∷◌, ◌++◌, map}
use native.Mathlib.Omega.{arith}
use native.Mathlib.Nat.{pow-zero, pow-succ'}
use lib.Dec.{eqb, ltb}
use lib.ListN.{length, get_or, set, length-set}
use lib.Seq.{ext_get_or, get_or-set_same, get_or-set_other}
use borrow.Author.Tests.{eq-eqb, ne_eqb, ltb-true, not-true}
use Rattle.trees.specs.Tree.{Tree, size, kinds_of, labels_of}
use Rattle.trees.specs.Automaton.{Automaton, state}
use Rattle.trees.specs.Postorder.{tree_of}
use Rattle.trees.specs.Changes.{changed}
use Rattle.trees.proofs.MoveLaws.{both}
use Rattle.trees.proofs.NodeLaws.{length-labels}
use Rattle.trees.proofs.PostorderLaws.{tree_of-is}
use Rattle.trees.proofs.RunLaws.{state_below}
use Rattle.list_laws.specs.Tests.{all_below, holds, distinct}
use Rattle.choices.specs.assignments.Assignments.{gathered, assignments, how_many, counted}
use Rattle.choices.specs.assignments.Sums.{sum_to, open_sum, one}
use Rattle.choices.specs.assignments.inner.Weights.{weighed}
use Rattle.choices.proofs.assignments.SumLaws.{sum-ext, sum-swap, sum-const, sum_one}
use Rattle.choices.proofs.assignments.WeighLaws.{open-linear, weighed-open, weighed-closed, relabelled}
use Rattle.choices.proofs.assignments.WeighLaws.{relabelled-kinds, relabelled-size, relabelled-at}

-- ---- trying all, label by label

-- the sum of f over the labels ls with any labels below k at the nodes vs
unfoldable pub over_all : ℕ → List ℕ → List ℕ → (List ℕ → ℕ) → ℕ
over_all k ls [] f = f ls
over_all k ls (v ∷ vs) f = sum_to k (λ a. over_all k (set ls v a) vs f)

many-append : {X : Type 0} (p : X → Bool) (xs ys : List X) → how_many p (xs ++ ys) ≡ how_many p xs + how_many p ys
unfolding how_many
many-append p [] ys = omega arith
many-append p (x ∷ xs) ys = omega (arith, many-append p xs ys)

many-map : {X Y : Type 0} (p : Y → Bool) (f : X → Y) (xs : List X) → how_many p (map f xs) ≡ how_many (λ x. p (f x)) xs
unfolding how_many
many-map p f [] = refl
many-map p f (x ∷ xs) = ap (λ (n : ℕ). cond (p (f x)) 1 0 + n) (many-map p f xs)

many-gathered : {X : Type 0} (p : X → Bool) (n : ℕ) (f : ℕ → List X) → how_many p (gathered n f)
    ≡ sum_to n (λ a. how_many p (f a))
unfolding how_many gathered sum_to
many-gathered p zero f = refl
many-gathered p (suc n) f = many-append p (gathered n f) (f n)
    ∙ ap (λ (x : ℕ). x + how_many p (f n)) (many-gathered p n f)

many-tried : (k : ℕ) (vs ls : List ℕ) (p : List ℕ → Bool)
    → how_many (λ bs. p (changed ls vs bs)) (assignments k (length vs)) ≡ over_all k ls vs (λ l. cond (p l) 1 0)
unfolding assignments over_all changed how_many
many-tried k [] ls p = omega arith
many-tried k (v ∷ vs) ls p =
    many-gathered (λ bs. p (changed ls (v ∷ vs) bs)) k (λ a. map (λ bs. a ∷ bs) (assignments k (length vs)))
    ∙ sum-ext k _ _ (λ a _. many-map (λ bs. p (changed ls (v ∷ vs) bs)) (λ bs. a ∷ bs) (assignments k (length vs))
    ∙ many-tried k vs (set ls v a) p)

-- ---- sums of all

all-sum : (k n : ℕ) (vs ls : List ℕ) (f : ℕ → List ℕ → ℕ)
    → sum_to n (λ s. over_all k ls vs (f s)) ≡ over_all k ls vs (λ l. sum_to n (λ s. f s l))
unfolding over_all
all-sum k n [] ls f = refl
all-sum k n (v ∷ vs) ls f =
    sum-swap n k (λ s a. over_all k (set ls v a) vs (f s)) ∙ sum-ext k _ _ (λ a _. all-sum k n vs (set ls v a) f)

pub all_one : (k : ℕ) (vs ls : List ℕ) → over_all k ls vs (λ l. 1) ≡ k ^ length vs
unfolding over_all
all_one k [] ls = sym (pow-zero k)
all_one k (v ∷ vs) ls =
    sum-ext k _ _ (λ a _. all_one k vs (set ls v a)) ∙ sum-const k (k ^ length vs) ∙ sym (pow-succ' k (length vs))

module _ (A : Automaton) (init : (a : ℕ) → A.ι a < A.states) (next : (p a q : ℕ) → A.δ p a q < A.states) where
  -- "their sum is K to the power m"
  pub counted-sum : (k : ℕ) (t : Tree) (vs : List ℕ) → sum_to A.states (counted A k t vs) ≡ k ^ length vs
  unfolding counted
  counted-sum k t vs =
      sum-ext A.states _ _ (λ s _. many-tried k vs (labels_of t) (λ l. eqb (state A (tree_of (kinds_of t) l)) s))
      ∙ all-sum k A.states vs (labels_of t) (λ s l. one s (state A (tree_of (kinds_of t) l)))
      ∙ ap (over_all k (labels_of t) vs) (fun_ext λ l.
      sum-ext A.states _ (λ s. one s (state A (tree_of (kinds_of t) l)) * 1) (λ s _. omega arith)
      ∙ sum_one A.states (state A (tree_of (kinds_of t) l)) (λ s. 1)
      (state_below A init next (tree_of (kinds_of t) l)))
      ∙ all_one k vs (labels_of t)

-- ---- up the tree

or-not : (a b : Bool) → a ≡ false → (a || b) ≡ b
or-not true b e = let z : ◌≡◌ {A = ℕ} 0 1 = cc in absurd (omega arith)
or-not false b e = refl

or_yes : (a b : Bool) → a ≡ true → (a || b) ≡ true
or_yes true b e = refl
or_yes false b e = let z : ◌≡◌ {A = ℕ} 0 1 = cc in absurd (omega arith)

module _ (A : Automaton) (k : ℕ) (t : Tree) (g : ℕ → ℕ) where
  tried-none : (ls : List ℕ) → length ls ≡ size t → g (state A (tree_of (kinds_of t) ls))
      ≡ weighed A (open_sum k (λ v. holds v []) ls) t 0 g
  unfolding open_sum holds
  tried-none ls h =
      let u : Tree = relabelled (λ v. get_or ls v 0) t 0 in
      let n : size (relabelled (λ v. get_or ls v 0) t 0) ≡ size t = relabelled-size (λ v. get_or ls v 0) t 0 in
      let e : labels_of u ≡ ls =
      ext_get_or 0 _ _ (length-labels u ∙ n ∙ sym h)
      (λ i l. relabelled-at (λ v. get_or ls v 0) t 0 i (omega (arith, length-labels u))
      ∙ (let z : 0 + i ≡ i = omega arith in ap (λ (x : ℕ). get_or ls x 0) z)) in
      ap g (ap (state A) (ap₂ tree_of (sym (relabelled-kinds (λ v. get_or ls v 0) t 0)) (sym e) ∙ tree_of-is u))
      ∙ sym (weighed-closed A _ (λ v. get_or ls v 0) t 0 g (λ v _ _ f. refl))

  there : (v : ℕ) (vs ls : List ℕ) → v < size t → length ls ≡ size t → holds v vs ≡ false → (f : ℕ → ℕ)
      → open_sum k (λ u. holds u (v ∷ vs)) ls v f ≡ sum_to k (λ a. open_sum k (λ u. holds u vs) (set ls v a) v f)
  unfolding open_sum holds
  there v vs ls hv h n f =
      let y : (eqb v v || holds v vs) ≡ true = or_yes (eqb v v) (holds v vs) (eq-eqb v v refl) in
      rw (y, n) (sum-ext k f _ (λ a _. ap f (sym (get_or-set_same ls v a 0 (omega arith)))))

  elsewhere : (v : ℕ) (vs ls : List ℕ) (a u : ℕ) → (u ≡ v → ⊥) → (f : ℕ → ℕ)
      → open_sum k (λ u. holds u (v ∷ vs)) ls u f ≡ open_sum k (λ u. holds u vs) (set ls v a) u f
  unfolding open_sum holds
  elsewhere v vs ls a u n f =
      let y : (eqb u v || holds u vs) ≡ holds u vs = or-not (eqb u v) (holds u vs) (ne_eqb u v n) in
      rw (y, get_or-set_other ls v u a 0 n)

  pub tried-all : (vs ls : List ℕ) → length ls ≡ size t → all_below (size t) vs ≡ true → distinct vs ≡ true
      → over_all k ls vs (λ l. g (state A (tree_of (kinds_of t) l))) ≡ weighed A (open_sum k (λ v. holds v vs) ls) t 0 g
  unfolding over_all all_below distinct
  tried-all [] ls h b d = tried-none ls h
  tried-all (v ∷ vs) ls h b d =
      let hb = both (ltb v (size t)) (all_below (size t) vs) b in
      let hd = both (not (holds v vs)) (distinct vs) d in
      let hv : v < size t = ltb-true v (size t) hb.0 in
      sum-ext k _ _ (λ a _. tried-all vs (set ls v a) (length-set ls v a ∙ h) hb.1 hd.1)
      ∙ sym (weighed-open A k (open_sum k (λ u. holds u (v ∷ vs)) ls) (λ a. open_sum k (λ u. holds u vs) (set ls v a))
      (open-linear k (λ u. holds u (v ∷ vs)) ls) v (there v vs ls hv h (not-true (holds v vs) hd.0))
      (elsewhere v vs ls) t 0 g (omega arith) (omega arith))

-- the count of state s, for different nodes of the tree
pub counted-weight : (A : Automaton) (k : ℕ) (t : Tree) (vs : List ℕ) (s : ℕ) → all_below (size t) vs ≡ true
    → distinct vs ≡ true
    → counted A k t vs s ≡ weighed A (open_sum k (λ v. holds v vs) (labels_of t)) t 0 (one s)
unfolding counted
counted-weight A k t vs s b d =
    many-tried k vs (labels_of t) (λ l. eqb (state A (tree_of (kinds_of t) l)) s)
    ∙ tried-all A k t (one s) vs (labels_of t) (length-labels t) b d
