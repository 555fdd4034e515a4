-- The counts of a root read only some of the inputs: on these alone they are those on all.
--     root-ok-same, root-links-same, root-count-same
use Prim.Native.Nat.{ℕ, zero, suc, ◌+◌, ◌-◌, ◌*◌}
use mathlib.Core.Path.{◌≡◌, refl, sym, ap, ap₂}
use mathlib.Core.Bool.{Bool, true, cond, ◌&&◌}
use mathlib.Core.List.{List}
use lib.Dec.{eqb}
use lib.ListN.{get_or}
use Rattle.tables.specs.node_tables.Cells.{depth_cell}
use Rattle.tables.specs.Climbs.{View}
use Rattle.questions.specs.inner.PartArgs.{path_of}
use Rattle.questions.proofs.PartViews.{climb-same}
use Rattle.choices.specs.assignments.Sums.{one}
use Rattle.choices.proofs.assignments.SumLaws.{sum-ext}
use Rattle.choices.specs.node_counts.Join.{ways_to}
use Rattle.choices.specs.part_steps.Carry.{state_in, links_in, is_reached, arrives_at, all_arrive}
use Rattle.choices.specs.part_steps.Side.{count_in, side_ok, side_links, side_count}
use Rattle.choices.specs.part_steps.Fork.{fork_ok, fork_links, fork_count}
use Rattle.choices.specs.part_steps.Root.{root_ok, root_links, root_count}

module _ (X : View) where
  arrive_same : (h t q : ℕ) → arrives_at (path_of X) h t q ≡ arrives_at X h t q
  unfolding arrives_at
  arrive_same h t q = ap state_in (sym (climb-same X h t q))

  all_same : (h t m : ℕ) → all_arrive (path_of X) h t m ≡ all_arrive X h t m
  unfolding all_arrive
  all_same h t zero = refl
  all_same h t (suc m) =
      ap₂ (λ (a b : Bool). a && b) (all_same h t m) (ap is_reached (sym (climb-same X h t m)))

  side-ok-same : (es : List ℕ) (t c i j : ℕ) → side_ok (path_of X) es t c i j ≡ side_ok X es t c i j
  unfolding side_ok
  side-ok-same es t c zero j = refl
  side-ok-same es t c (suc i) zero = all_same (get_or es i 0) t X.s
  side-ok-same es t c (suc i) (suc j) = refl

  side-links-same : (es : List ℕ) (t i j : ℕ) → side_links (path_of X) es t i j ≡ side_links X es t i j
  unfolding side_links
  side-links-same es t zero j = refl
  side-links-same es t (suc i) zero = ap links_in (sym (climb-same X (get_or es i 0) t (X.s - 1)))
  side-links-same es t (suc i) (suc j) = refl

  side-count-same : (es cs : List ℕ) (t c i j p : ℕ)
      → side_count (path_of X) es cs t c i j p ≡ side_count X es cs t c i j p
  unfolding side_count
  side-count-same es cs t c zero j p = refl
  side-count-same es cs t c (suc i) zero p =
      sum-ext X.s (λ q. count_in cs i q * one p (arrives_at (path_of X) (get_or es i 0) t q))
      (λ q. count_in cs i q * one p (arrives_at X (get_or es i 0) t q))
      (λ q h. ap (λ (x : ℕ). count_in cs i q * one p x) (arrive_same (get_or es i 0) t q))
  side-count-same es cs t c (suc i) (suc j) p = refl

  module _ (es : List ℕ) (t l r i j : ℕ) where
    fork-ok-same : fork_ok (path_of X) es t l r i j ≡ fork_ok X es t l r i j
    unfolding fork_ok
    fork-ok-same = ap₂ (λ (a b : Bool). a && b) (side-ok-same es t l i j) (side-ok-same es t r j i)

    fork-links-same : fork_links (path_of X) es t i j ≡ fork_links X es t i j
    unfolding fork_links
    fork-links-same = ap₂ (λ (a b : ℕ). a + b) (side-links-same es t i j) (side-links-same es t j i)

    fork-count-same : (cs : List ℕ) (b e c : ℕ)
        → fork_count (path_of X) es cs t l r i j b e c ≡ fork_count X es cs t l r i j b e c
    unfolding fork_count
    fork-count-same cs b e c =
        sum-ext X.s _ _ (λ p h.
        ap₂ (λ (x y : ℕ). x * y) (side-count-same es cs t l i j p)
        (sum-ext X.s _ _ (λ q g.
        ap (λ (x : ℕ). x * ways_to X.inner X.s X.k b e p q c) (side-count-same es cs t r j i q))))

  module _ (ks es : List ℕ) (v l i j : ℕ) where
    abbrev t : ℕ
    t = depth_cell X.node_table v + 1

    pub root-ok-same : root_ok (path_of X) ks es v l i j ≡ root_ok X ks es v l i j
    unfolding root_ok
    root-ok-same = ap (cond (eqb (get_or ks v 0) 0) true) (fork-ok-same es t l (v - 1) i j)

    pub root-links-same : root_links (path_of X) ks es v i j ≡ root_links X ks es v i j
    unfolding root_links
    root-links-same = ap (cond (eqb (get_or ks v 0) 0) 0) (fork-links-same es t l (v - 1) i j)

    pub root-count-same : (lv cs : List ℕ) (b e c : ℕ)
        → root_count (path_of X) ks lv es cs v l i j b e c ≡ root_count X ks lv es cs v l i j b e c
    unfolding root_count
    root-count-same lv cs b e c =
        ap (cond (eqb (get_or ks v 0) 0) (ways_to lv 1 X.k b e 0 0 c)) (fork-count-same es t l (v - 1) i j cs b e c)
