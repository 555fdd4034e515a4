-- Every listed node is among the roots of the parts, for any numbers.
--     fork-keeps, meet-keeps    what a fork and a meeting are added to stays
--     forks-keep                all iterations keep what is there, and add every wanted node
--     given-listed              so the roots that are given have every listed node
use Rattle.std.proofs.Common.{◌≡◌, ℕ, ◌-◌, Bool, true, false, cond, ◌&&◌, eqb, ltb, leb, ◌⊎◌, List, [], ◌∷◌, sym, ◌∙◌, subst, inl, inr, arith}
use mathlib.Core.List.Memᴰ
use mathlib.Core.List.{Memᴰ}
use mathlib.Core.Option.{Option, some, some-injective}
use native.Mathlib.Decide.{ℕ_discrete}
use Rattle.trees.proofs.MoveLaws.{cond-some}
use Rattle.tables.specs.node_tables.Cells.{size_cell}
use Rattle.questions.specs.Search.{meet_on}
use Rattle.questions.specs.Roots.{insert_rising, wanted, with_fork, with_meet, forks_on, from_first, roots_on}
use Rattle.questions.specs.RootsAnswers.{roots_given}
use Rattle.questions.specs.Rising.{RisesTo}
use Rattle.questions.proofs.InsertLaws.{insert-old, insert-new, rising-new}
use Rattle.questions.proofs.PlaceLaws.{to_below, wanted-to}
use Rattle.questions.proofs.RootsLaws.{and-then-some, forked, forks-end, forks-root, forks-onward}
use Rattle.questions.proofs.FitLaws.{given-fits}

module _ (n : ℕ) (node_table : List ℕ) (v : ℕ) where
  fork-keeps : (x : ℕ) (l k : List ℕ) → with_fork node_table x l ≡ some k → Memᴰ v l → Memᴰ v k
  unfolding with_fork forked
  fork-keeps x l k e m =
      let t = cond-some (ltb 0 x && leb (size_cell node_table (x - 1)) (x - 1)) (some (forked node_table x l)) e in
      subst (λ (j : List ℕ). Memᴰ v j) (some-injective (forked node_table x l) k t.1)
      (insert-old x v _ (insert-old (x - 1) v _ (insert-old (x - 1 - size_cell node_table (x - 1)) v l m)))

  meet-keeps : (a b : ℕ) (l k : List ℕ) → with_meet n node_table a b l ≡ some k → Memᴰ v l → Memᴰ v k
  unfolding with_meet
  meet-keeps a b l k e m =
      let t = and-then-some (meet_on n node_table a b) (λ x. cond (eqb x b) (some l) (with_fork node_table x l)) e in
      either (eqb t.0 b) (with_fork node_table t.0 l) (λ q. fork-keeps t.0 l k q m) t.2
    where
      either : (c : Bool) (o : Option (List ℕ)) → (o ≡ some k → Memᴰ v k) → cond c (some l) o ≡ some k → Memᴰ v k
      either true o f e = subst (λ (j : List ℕ). Memᴰ v j) (some-injective l k e) m
      either false o f e = f e

  -- the root is the last
  none_after : (b : ℕ) (bs : List ℕ) → RisesTo (n - 1) (b ∷ bs) → b ≡ n - 1 → Memᴰ v bs → ⊥
  none_after b [] t q m = Memᴰ.not-nil m
  none_after b (d ∷ bs) t q m = omega (arith, t.0, (to_below (n - 1) (d ∷ bs) t.1).0)

  goes_on : (b : ℕ) (bs : List ℕ) → RisesTo (n - 1) (b ∷ bs) → (b ≡ n - 1 → ⊥) → RisesTo (n - 1) bs
  goes_on b [] t q = absurd (q t)
  goes_on b (d ∷ bs) t q = t.1

  pub forks-keep : (bs : List ℕ) (a : ℕ) (l k : List ℕ) → RisesTo (n - 1) bs → forks_on n node_table a bs l ≡ some k
      → Memᴰ v l ⊎ Memᴰ v bs → Memᴰ v k
  forks-keep [] a l k t e m = absurd t
  forks-keep (b ∷ bs) a l k t e m = elim (ℕ_discrete b (n - 1)) [
    | yes q ↦ subst (λ (j : List ℕ). Memᴰ v j)
        (some-injective (insert_rising b l) k (sym (forks-root n node_table a b bs l q) ∙ e))
        (elim m [
          | inl i ↦ insert-old b v l i
          | inr i ↦ elim (Memᴰ.cases_cons i) [
            | inl z ↦ subst (λ (j : ℕ). Memᴰ j (insert_rising b l)) (sym z) (insert-new b l)
            | inr z ↦ absurd (none_after b bs t q z)
          ]
        ])
    | no q ↦
        let s = and-then-some (with_meet n node_table a b l) (λ j. forks_on n node_table b bs (insert_rising b j))
        (sym (forks-onward n node_table a b bs l q) ∙ e) in
        forks-keep bs b (insert_rising b s.0) k (goes_on b bs t q) s.2
        (elim m [
          | inl i ↦ inl (insert-old b v s.0 (meet-keeps a b l s.0 s.1 i))
          | inr i ↦ elim (Memᴰ.cases_cons i) [
            | inl z ↦ inl (subst (λ (j : ℕ). Memᴰ j (insert_rising b s.0)) (sym z) (insert-new b s.0))
            | inr z ↦ inr z
          ]
        ])
  ]

  first-keeps : (ws l : List ℕ) → RisesTo (n - 1) ws → from_first n node_table ws ≡ some l → Memᴰ v ws → Memᴰ v l
  first-keeps [] l t e m = absurd t
  first-keeps (w ∷ []) l t e m =
      subst (λ (j : List ℕ). Memᴰ v j) (some-injective (w ∷ []) l (sym (forks-end n node_table w (w ∷ [])) ∙ e)) m
  first-keeps (w ∷ d ∷ ws) l t e m = forks-keep (d ∷ ws) w (w ∷ []) l t.1 e
      (elim (Memᴰ.cases_cons m) [ inl z ↦ inl (Memᴰ.head z) | inr z ↦ inr z ])

-- "the listed nodes and the root"
pub given-listed : (n : ℕ) (node_table vs l : List ℕ) → roots_given n node_table vs ≡ some l → (v : ℕ) → Memᴰ v vs → Memᴰ v l
unfolding roots_on wanted
given-listed n node_table vs l e v m =
    let t = given-fits n node_table vs l e in
    first-keeps n node_table v (wanted n vs) l (wanted-to n vs t.0.below) t.1 (rising-new vs ((n - 1) ∷ []) v m)
