-- On numbers as built and bytes below S: the counts at a child of a part's root.
--     side-ok, side-links     a child comes to its counts, by the links of its climb
--     climbed-at, climbed-below   where the climb from the highest root below it takes each state
use Prim.Native.Nat.{ℕ, ◌-◌, ◌≤◌, ◌<◌}
use mathlib.Core.Path.{◌≡◌, refl, sym, ap, ap₂, ◌∙◌, subst}
use mathlib.Core.Bool.{Bool, true, false, cond}
use mathlib.Core.List.Memᴰ
use mathlib.Core.List.{List, ◌∷◌, ◌++◌, Memᴰ}
use native.Mathlib.Omega.{arith}
use lib.ListN.{get_or}
use borrow.Author.Tests.{lt-ltb}
use Rattle.trees.specs.Tree.{size}
use Rattle.trees.specs.Numbering.{depth}
use Rattle.trees.proofs.IntervalLaws.{interval-ancestor, above_at}
use Rattle.tables.specs.StateCells.{state_cell}
use Rattle.tables.specs.Climbs.{View, climb_on}
use Rattle.questions.specs.ready.Parts.{Given, any_below, highest_below, climbed_links}
use Rattle.questions.proofs.ready.BelowLaws.{some_below}
use Rattle.questions.proofs.ready.HighestLaws.{Highest}
use Rattle.questions.proofs.ready.PartsRun.{Members}
use Rattle.questions.specs.Promises.{Reads}
use Rattle.choices.specs.assignments.PartCounts.{climbed_to}
use Rattle.choices.specs.part_steps.Carry.{links_in, arrives_at, all_arrive}
use Rattle.choices.specs.part_steps.Side.{side_ok, side_links}
use Rattle.choices.specs.question_counts.PartOn.{place_on}
use Rattle.choices.proofs.question_counts.RootPlaces.{Place, place_none, place-some}
use Rattle.choices.proofs.question_counts.ClimbsBuilt.{arrives, arrives-below, all-arrive, climb-links}

module _ (X : View) (G : Given) (R : Reads X G) (w : ℕ → Bool) (ms : List ℕ) (M : Members w G.tree ms)
    (es : List ℕ) (v : ℕ) (rest : List ℕ) (cut : es ++ (v ∷ rest) ≡ ms) where
  pub v-member : Memᴰ v ms
  v-member = subst (λ (l : List ℕ). Memᴰ v l) cut (Memᴰ.append_right es (Memᴰ.head refl))

  pub v-inside : v < size G.tree
  v-inside = M.inside v v-member

  module _ (c T : ℕ) (l : c < v) (e : T ≡ depth G.tree c) where
    pub run_is : state_cell X.s X.state_table c ≡ G.run_state c
    run_is = sym (R.run c)

    pub run_below : state_cell X.s X.state_table c < X.s
    run_below = omega (arith, run_is, R.run_below c (omega (arith, v-inside)))

    pub no_place : any_below ms G.tree c ≡ false → place_on X es c ≡ 0
    no_place a = place_none X G R w ms M es v rest cut c l a

    module _ (a : any_below ms G.tree c ≡ true) where
      pub the-place : Place es (place_on X es c) (highest_below ms G.tree c)
      the-place = place-some X G R w ms M es v rest cut c l a

      highest : Highest G.tree (λ x. Memᴰ x ms) c (highest_below ms G.tree c)
      highest = some_below G.tree c ms M.rising a

      hh : highest_below ms G.tree c < size G.tree
      hh = M.inside (highest_below ms G.tree c) highest.member

      deeper : depth G.tree c ≤ depth G.tree (highest_below ms G.tree c)
      deeper =
          (above_at G.tree c (highest_below ms G.tree c) hh
          (interval-ancestor G.tree c (highest_below ms G.tree c) (omega (arith, v-inside)) hh highest.below)).0

      pub climbed-at : (q : ℕ) → q < X.s → arrives_at X (get_or es the-place.at 0) T q ≡ climbed_to G ms c q
      climbed-at q h =
          ap (λ (z : ℕ). arrives_at X z T q) the-place.node
          ∙ arrives X G R (highest_below ms G.tree c) c T hh e deeper q h

      pub climbed-below : (q : ℕ) → q < X.s → arrives_at X (get_or es the-place.at 0) T q < X.s
      climbed-below q h =
          subst (λ (z : ℕ). arrives_at X z T q < X.s) (sym the-place.node)
          (arrives-below X G R (highest_below ms G.tree c) c T hh e deeper q h)

      all-climb : all_arrive X (get_or es the-place.at 0) T X.s ≡ true
      all-climb =
          ap (λ (z : ℕ). all_arrive X z T X.s) the-place.node
          ∙ all-arrive X G R (highest_below ms G.tree c) c T hh e deeper X.s (omega arith)

      climbs-by : links_in (climb_on X (get_or es the-place.at 0) T (X.s - 1)) ≡ climbed_links G.tree ms c
      unfolding climbed_links
      climbs-by =
          ap (λ (z : ℕ). links_in (climb_on X z T (X.s - 1))) the-place.node
          ∙ climb-links X G R (highest_below ms G.tree c) c T hh e deeper

    module _ (d : ℕ) (m : d < v) where
      pub side-ok : side_ok X es T c (place_on X es c) (place_on X es d) ≡ true
      unfolding side_ok
      side-ok = go (any_below ms G.tree c) (any_below ms G.tree d) refl refl
        where
          go : (b f : Bool) → any_below ms G.tree c ≡ b → any_below ms G.tree d ≡ f
              → side_ok X es T c (place_on X es c) (place_on X es d) ≡ true
          go false f p q =
              ap (λ (i : ℕ). side_ok X es T c i (place_on X es d)) (no_place p)
              ∙ lt-ltb (state_cell X.s X.state_table c) X.s run_below
          go true false p q =
              ap₂ (λ (i j : ℕ). side_ok X es T c i j) (the-place p).is (place_none X G R w ms M es v rest cut d m q)
              ∙ all-climb p
          go true true p q =
              ap₂ (λ (i j : ℕ). side_ok X es T c i j) (the-place p).is
              (place-some X G R w ms M es v rest cut d m q).is

      pub side-links : side_links X es T (place_on X es c) (place_on X es d)
          ≡ cond (any_below ms G.tree c) (cond (any_below ms G.tree d) 0 (climbed_links G.tree ms c)) 0
      unfolding side_links
      side-links = go (any_below ms G.tree c) (any_below ms G.tree d) refl refl
        where
          go : (b f : Bool) → any_below ms G.tree c ≡ b → any_below ms G.tree d ≡ f
              → side_links X es T (place_on X es c) (place_on X es d)
              ≡ cond b (cond f 0 (climbed_links G.tree ms c)) 0
          go false f p q = ap (λ (i : ℕ). side_links X es T i (place_on X es d)) (no_place p)
          go true false p q =
              ap₂ (λ (i j : ℕ). side_links X es T i j) (the-place p).is (place_none X G R w ms M es v rest cut d m q)
              ∙ climbs-by p
          go true true p q =
              ap₂ (λ (i j : ℕ). side_links X es T i j) (the-place p).is
              (place-some X G R w ms M es v rest cut d m q).is
