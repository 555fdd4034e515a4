-- On numbers as built the computed roots are exactly the ready set.
--     holds-yes, yes-holds    the test whether a list holds a number
--     roots-built             roots_on gives the rising list of the ready set
use Rattle.std.proofs.Common.{◌≡◌, ℕ, ◌+◌, ◌-◌, ◌<◌, Bool, true, false, ◌||◌, eqb, ◌⊎◌, List, [], ◌∷◌, sym, refl, ap, ◌∙◌, subst, inl, inr, arith, eq-eqb, eqb-true}
use mathlib.Core.List.{Memᴰ}
use mathlib.Core.Option.{some}
use Rattle.trees.specs.Tree.{Tree, size}
use Rattle.trees.specs.Numbering.{sub, InSubtree}
use Rattle.trees.proofs.NodeLaws.{size-pos, Inner, inner, sub-size}
use Rattle.list_laws.specs.Tests.{holds}
use Rattle.tables.specs.node_tables.NodeCells.{NodeCells}
use Rattle.questions.specs.ready.Ready.{Meet, left_child, right_child}
use Rattle.questions.specs.ready.Members.{Rising, ready_list, roots}
use Rattle.questions.proofs.ready.UnderLaws.{left_in}
use Rattle.questions.proofs.ready.BelowLaws.{true-false}
use Rattle.questions.proofs.ready.ClosedForm.{Forks, Member, m-listed, m-root, m-forks, m-left, m-right, fork-meet, parted}
use Rattle.questions.proofs.ready.ListLaws.{list-member, member-list, list-rising, rising-unique}
use Rattle.questions.specs.Roots.{wanted, from_first, roots_on}
use Rattle.questions.proofs.InsertLaws.{rising-old, rising-new, member-rising, all-rising, Next, Between, next-first, next-second}
use Rattle.questions.proofs.InsertLaws.{next-rising, next-between}
use Rattle.questions.proofs.ForksBuilt.{Of, Added, forks-built}

pub holds-yes : (x : ℕ) (l : List ℕ) → holds x l ≡ true → Memᴰ x l
unfolding holds
holds-yes x [] e = absurd (true-false true refl (sym e))
holds-yes x (y ∷ l) e = go (eqb x y) refl e (holds-yes x l)
  where
    go : (b : Bool) → eqb x y ≡ b → (b || holds x l) ≡ true → (holds x l ≡ true → Memᴰ x l) → Memᴰ x (y ∷ l)
    go true q f ih = mathlib.Core.List.Memᴰ.head (eqb-true x y q)
    go false q f ih = mathlib.Core.List.Memᴰ.tail (ih f)

pub yes-holds : (x : ℕ) (l : List ℕ) → Memᴰ x l → holds x l ≡ true
unfolding holds
yes-holds x [] m = absurd (mathlib.Core.List.Memᴰ.not-nil m)
yes-holds x (y ∷ l) m = elim (mathlib.Core.List.Memᴰ.cases_cons m) [
  | inl e ↦ rw (eq-eqb x y e)
  | inr k ↦ go (eqb x y) (yes-holds x l k)
]
  where
    go : (b : Bool) → holds x l ≡ true → (b || holds x l) ≡ true
    go true e = refl
    go false e = e

module _ (t : Tree) (node_table : List ℕ) (L : NodeCells t node_table) (vs : List ℕ) (small : (x : ℕ) → Memᴰ x vs → x < size t) where
  W : List ℕ
  W = wanted (size t) vs

  abbrev listed : ℕ → Bool
  listed x = holds x vs

  in-wanted : (x : ℕ) → Memᴰ x vs → Memᴰ x (wanted (size t) vs)
  unfolding wanted
  in-wanted x m = rising-new vs ((size t - 1) ∷ []) x m

  root-wanted : (x : ℕ) → x + 1 ≡ size t → Memᴰ x (wanted (size t) vs)
  unfolding wanted
  root-wanted x e = rising-old vs ((size t - 1) ∷ []) x (mathlib.Core.List.Memᴰ.head (omega arith))

  wanted-is : (x : ℕ) → Memᴰ x (wanted (size t) vs) → Memᴰ x vs ⊎ (x + 1 ≡ size t)
  unfolding wanted
  wanted-is x m = elim (member-rising vs ((size t - 1) ∷ []) x m) [
    | inl k ↦ inl k
    | inr k ↦ elim (mathlib.Core.List.Memᴰ.cases_cons k) [ inl e ↦ inr (omega (arith, size-pos t)) | inr z ↦ absurd (mathlib.Core.List.Memᴰ.not-nil z) ]
  ]

  wanted-small : (x : ℕ) → Memᴰ x (wanted (size t) vs) → x < size t
  wanted-small x m = elim (wanted-is x m) [ inl k ↦ small x k | inr e ↦ omega arith ]

  wanted-rises : Rising 0 (wanted (size t) vs)
  unfolding wanted
  wanted-rises = all-rising vs ((size t - 1) ∷ []) (omega arith, tt)

  wanted-member : (x : ℕ) → Memᴰ x (wanted (size t) vs) → Member listed t x
  wanted-member x m = elim (wanted-is x m) [ inl k ↦ m-listed (small x k) (yes-holds x vs k) | inr e ↦ m-root e ]

  -- a wanted node below another is listed
  below-listed : (x y : ℕ) → Memᴰ x (wanted (size t) vs) → x < y → y < size t → holds x vs ≡ true
  below-listed x y m l h = elim (wanted-is x m) [ inl k ↦ yes-holds x vs k | inr e ↦ absurd (omega arith) ]

  -- ---- with the list cut into its first and the rest

  module _ (a : ℕ) (bs : List ℕ) (cut : wanted (size t) vs ≡ a ∷ bs) (k : List ℕ) (A : Added t a bs (a ∷ []) k) where
    of-wanted : (x : ℕ) → Memᴰ x (a ∷ bs) → Memᴰ x (wanted (size t) vs)
    of-wanted x m = subst (λ (l : List ℕ). Memᴰ x l) (sym cut) m

    to-wanted : (x : ℕ) → Memᴰ x (wanted (size t) vs) → Memᴰ x (a ∷ bs)
    to-wanted x m = subst (λ (l : List ℕ). Memᴰ x l) cut m

    rises : Rising 0 (a ∷ bs)
    rises = subst (λ (l : List ℕ). Rising 0 l) cut wanted-rises

    all_in : (x : ℕ) → Memᴰ x (a ∷ bs) → Memᴰ x k
    all_in x m = elim (mathlib.Core.List.Memᴰ.cases_cons m) [ inl e ↦ A.old x (mathlib.Core.List.Memᴰ.head e) | inr z ↦ A.listed x z ]

    forks-next : (u v m : ℕ) → Next a bs u v → Meet t u v m → (m ≡ v → ⊥) → Forks listed t m
    forks-next u v m n mm ne =
        let lt : u < v = next-rising rises.1 n in
        let mu : Memᴰ u (wanted (size t) vs) = of-wanted u (next-first n) in
        let mv : Memᴰ v (wanted (size t) vs) = of-wanted v (mathlib.Core.List.Memᴰ.tail (next-second n)) in
        let hv : v < m = omega (arith, mm.second) in
        let P = parted t u v m (wanted-small u mu) (wanted-small v mv) mm (λ e. omega (arith, mm.second)) ne in
        elim P.1 [
          | inl s ↦ record {
            inside = mm.inside;
            inner = P.0;
            left = (u, wanted-small u mu, s.0, below-listed u m mu (omega arith) mm.inside);
            right = (v, wanted-small v mv, s.1, below-listed v m mv hv mm.inside);
          }
          | inr s ↦ absurd (let i : Inner t m = inner t m mm.inside (λ e. omega (arith, P.0)) in omega (arith, i.at, s.0, s.1))
        ]

    of-member : (m x : ℕ) → Forks listed t m → Of t m x → Member listed t x
    of-member m x f (inl e) = subst (Member listed t) (sym e) (m-forks f)
    of-member m x f (inr (inl e)) = subst (Member listed t) (sym e) (m-right f)
    of-member m x f (inr (inr e)) = subst (Member listed t) (sym e) (m-left f)

    sound : (x : ℕ) → Memᴰ x k → Member listed t x
    sound x m = elim (A.only x m) [
      | inl z ↦ elim (mathlib.Core.List.Memᴰ.cases_cons z) [
        | inl e ↦ wanted-member x (of-wanted x (mathlib.Core.List.Memᴰ.head e))
        | inr y ↦ absurd (mathlib.Core.List.Memᴰ.not-nil y)
      ]
      | inr z ↦ elim z [
        | inl y ↦ wanted-member x (of-wanted x (mathlib.Core.List.Memᴰ.tail y))
        | inr f ↦ of-member f.2 x (forks-next f.0 f.1 f.2 f.3 f.4 f.5) f.6
      ]
    ]

    -- a forking node is the lowest common ancestor of two neighbours
    fork-in : (m x : ℕ) → Forks listed t m → Of t m x → Memᴰ x k
    fork-in m x f o =
        let i : Inner t m = inner t m f.inside (λ e. omega (arith, f.inner)) in
        let l : ℕ = left_child t m in
        let B : Between a bs (l + 1 - size (sub t l)) l (right_child m) =
        next-between bs a (l + 1 - size (sub t l)) l (right_child m) rises.1
        f.left.0 (to-wanted f.left.0 (in-wanted f.left.0 (holds-yes f.left.0 vs f.left.3)))
        (omega (arith, f.left.2)) (omega (arith, f.left.2))
        f.right.0 (to-wanted f.right.0 (in-wanted f.right.0 (holds-yes f.right.0 vs f.right.3)))
        (omega (arith, f.right.2, i.at)) (omega (arith, f.right.2)) in
        let u : ℕ = B.0 in
        let v : ℕ = B.1 in
        let hl : l < m = left_in t m f.inside f.inner in
        let pu : InSubtree t l u = (B.4, omega (arith, B.3, sub-size t l (omega (arith, f.inside)))) in
        let pv : InSubtree t (right_child m) v = (B.6, omega (arith, B.5, i.at)) in
        let mm : Meet t u v m = fork-meet t m u v f.inside f.inner (omega (arith, B.4, f.inside)) (omega (arith, B.6, f.inside, i.at)) pu pv in
        A.forked u v m x B.2 (λ e. omega (arith, B.6, f.inside, i.at)) mm (λ e. omega (arith, B.6, i.at)) o

    complete : {x : ℕ} → Member listed t x → Memᴰ x k
    complete (m-listed {v = x} h e) = all_in x (to-wanted x (in-wanted x (holds-yes x vs e)))
    complete (m-root {v = x} e) = all_in x (to-wanted x (root-wanted x e))
    complete (m-forks {v = x} f) = fork-in x x f (inl refl)
    complete (m-left {v = m} f) = fork-in m (left_child t m) f (inr (inr refl))
    complete (m-right {v = m} f) = fork-in m (right_child m) f (inr (inl refl))

    found : k ≡ roots t vs
    unfolding roots
    found =
        rising-unique k (ready_list (λ v. holds v vs) t) 0 (A.rising (omega arith, tt)) (list-rising (λ v. holds v vs) t)
        (λ v m. member-list (λ v. holds v vs) t (sound v m)) (λ v m. complete (list-member (λ v. holds v vs) t m))

  pub roots-built : roots_on (size t) node_table vs ≡ some (roots t vs)
  unfolding roots_on
  roots-built = go (wanted (size t) vs) refl
    where
      go : (l : List ℕ) → wanted (size t) vs ≡ l → from_first (size t) node_table l ≡ some (roots t vs)
      go [] e = absurd (mathlib.Core.List.Memᴰ.not-nil (subst (λ (z : List ℕ). Memᴰ (size t - 1) z) e (root-wanted (size t - 1) (omega (arith, size-pos t)))))
      go (a ∷ bs) e =
          let r : Rising 0 (a ∷ bs) = subst (λ (z : List ℕ). Rising 0 z) e wanted-rises in
          let K = forks-built t node_table L bs a (a ∷ []) r.1
          (λ x m. wanted-small x (subst (λ (z : List ℕ). Memᴰ x z) (sym e) (mathlib.Core.List.Memᴰ.tail m))) in
          K.1 ∙ ap some (found a bs e K.0 K.2)
