-- A part by the tests of the code.
--     fork-left, fork-right, fork_rule, fork-made   an inner node: its two sides, and its rule
--     part-leaf, part-first, part-outside, part-fork   by the root's kind and children
use Prim.Native.Nat.{ℕ, ◌+◌, ◌-◌, ◌*◌, ◌^◌, ◌≤◌, ◌<◌}
use mathlib.Core.Path.{◌≡◌, sym, ap, ap₂, ◌∙◌, subst}
use mathlib.Core.List.{List, ◌++◌}
use mathlib.Core.Option.{Option, none, some}
use native.Mathlib.Decide.{ℕ_discrete}
use native.Mathlib.Omega.{arith}
use lib.ListN.{length, get_or, length-append}
use borrow.Author.Tests.{lt-ltb, le-ltb, le-leb, lt-leb, eq-eqb, ne_eqb}
use Rattle.std.specs.Prelude.{Option as Given, Some, None}
use Rattle.trees.specs.Changes.{changed}
use Rattle.trees.specs.Climb.{and_then}
use Rattle.tables.specs.node_tables.Cells.{size_cell}
use Rattle.tables.specs.Climbs.{View, below, rule_on}
use Rattle.tables.specs.inner.PathViews.{rules_view}
use Rattle.tables.proofs.LookupLaws.{below-yes, below-no}
use Rattle.questions.specs.Part.{Found, found_below, label_on}
use Rattle.questions.specs.inner.Scans.{last_in, found_of}
use Rattle.questions.proofs.ScanLaws.{found-scan}
use Rattle.colours.specs.Descents.{sum}
use Rattle.colours.specs.StateSets.{Tried, tried}
use Rattle.colour_questions.specs.declared.target_states.trials.Trial.{Trial}
use Rattle.colour_questions.specs.target_states.Trials.{trial, trial_of, Few, FewIn}
use Rattle.colour_questions.proofs.target_states.TrialLoop.{sum-append}
use Rattle.colour_questions.specs.parts.Part.{ColourView, Sides, sides_of, side_tried, join_tried, fork_tried}
use Rattle.colour_questions.specs.parts.Part.{leaf_tried, part_tried}
use Rattle.colour_questions.specs.parts.inner.Args.{Untried, SideDone, PartDone}
use Rattle.colour_questions.proofs.parts.TrialLaws.{trial-none, Is, trial-some}

lost-part : (s : ℕ) (o : Option Tried) → o ≡ none → PartDone s o None
unfolding trial_of
lost-part s o e = record { result = ap trial_of (sym e); bounds = tt }

-- ---- an inner node

module _ (Y : Sides) (k : ℕ) (inner node_table es qs : List ℕ) (v l a i j : ℕ) (same : length es ≡ length qs)
    (is-i : i ≡ last_in l (size_cell node_table l) es) (is-j : j ≡ last_in (v - 1) (size_cell node_table (v - 1)) es) where
  abbrev f : Option Found
  f = found_of es qs i

  abbrev g : Option Found
  g = found_of es qs j

  abbrev X : View
  X = rules_view Y.s k inner

  fork_by : fork_tried Y k inner node_table es qs v l a
      ≡ join_tried (rules_view Y.s k inner) a (side_tried Y l (found_of es qs i) (found_of es qs j))
      (side_tried Y (v - 1) (found_of es qs j) (found_of es qs i))
  unfolding fork_tried
  fork_by =
      let p : found_below node_table l es qs ≡ f = found-scan node_table l es qs same ∙ ap (found_of es qs) (sym is-i) in
      let q : found_below node_table (v - 1) es qs ≡ g = found-scan node_table (v - 1) es qs same
      ∙ ap (found_of es qs) (sym is-j) in
      ap₂ (λ (x y : Option Found). join_tried X a (side_tried Y l x y) (side_tried Y (v - 1) y x)) p q

  module _ (x : Given Trial) (D : SideDone Y.s i j (side_tried Y l (found_of es qs i) (found_of es qs j)) x) where
    pub fork-left : x ≡ None → PartDone Y.s (fork_tried Y k inner node_table es qs v l a) None
    unfolding join_tried
    fork-left z =
        let n = trial-none (side_tried Y l f g) (sym z ∙ D.result) in
        lost-part Y.s _ (fork_by ∙ ap (λ (o : Option Tried). join_tried X a o (side_tried Y (v - 1) g f)) n)

    module _ (p b c : ℕ) (z : x ≡ Some (trial p b c)) (y : Given Trial)
        (E : SideDone Y.s j i (side_tried Y (v - 1) (found_of es qs j) (found_of es qs i)) y) where
      left : Is (side_tried Y l (found_of es qs i) (found_of es qs j)) p b c
      left = trial-some (side_tried Y l f g) p b c (sym z ∙ D.result)

      pub left_few : Few Y.s 60 p b c
      left_few = subst (FewIn Y.s 60) z D.bounds.all

      pub fork-right : y ≡ None → PartDone Y.s (fork_tried Y k inner node_table es qs v l a) None
      unfolding join_tried
      fork-right w =
          let n = trial-none (side_tried Y (v - 1) g f) (sym w ∙ E.result) in
          lost-part Y.s _ (fork_by ∙ ap₂ (λ (o u : Option Tried). join_tried X a o u) left.is n)

      module _ (t d e : ℕ) (w : y ≡ Some (trial t d e)) where
        pub right_few : Few Y.s 60 t d e
        right_few = subst (FewIn Y.s 60) w E.bounds.all

        module _ (q : ℕ) (R : below Y.s q ≡ rule_on (rules_view Y.s k inner) p a t) where
          right : Is (side_tried Y (v - 1) (found_of es qs j) (found_of es qs i)) t d e
          right = trial-some (side_tried Y (v - 1) g f) t d e (sym w ∙ E.result)

          abbrev both : List ℕ
          both = left.found.searches ++ right.found.searches

          by-rule : (o : Option ℕ) → below Y.s q ≡ o
              → fork_tried Y k inner node_table es qs v l a
              ≡ and_then o (λ p. some (tried p (left.found.searches ++ right.found.searches)))
          unfolding join_tried
          by-rule o h =
              fork_by
              ∙ ap₂ (λ (u t : Option Tried). join_tried X a u t) left.is right.is
              ∙ ap (λ (c : Option ℕ). and_then c (λ p. some (tried p both)))
              (ap₂ (λ (m n : ℕ). rule_on X m a n) (sym left.state) (sym right.state) ∙ sym R ∙ h)

          pub fork_rule : Y.s ≤ q → PartDone Y.s (fork_tried Y k inner node_table es qs v l a) None
          fork_rule h = lost-part Y.s _ (by-rule none (below-no Y.s q h))

          -- one side alone is tried
          pub fork-falls : b + d ≤ 60
          fork-falls = elim (ℕ_discrete i 0) [
            | yes n ↦ (let u : b ≡ 0 = subst Untried z (D.bounds.run n) in omega (arith, right_few.falls))
            | no n ↦ (let u : d ≡ 0 = subst Untried w (E.bounds.both n) in omega (arith, left_few.falls))
          ]

          pub fork-few : c + e ≤ (b + d) * 65535
          fork-few = omega (arith, left_few.few, right_few.few)

          pub fork-made : q < Y.s → PartDone Y.s (fork_tried Y k inner node_table es qs v l a) (Some (trial q (b + d) (c + e)))
          unfolding trial_of
          fork-made h = record {
            result = sym (ap trial_of (by-rule (some q) (below-yes Y.s q h)) ∙ ap₂ (λ (m n : ℕ). Some (trial q m n)) number total);
            bounds = record { state = h; falls = fork-falls; few = fork-few };
          }
            where
              number : length (left.found.searches ++ right.found.searches) ≡ b + d
              number = length-append left.found.searches right.found.searches
                  ∙ ap₂ (λ (m n : ℕ). m + n) (sym left.number) (sym right.number)

              total : sum (left.found.searches ++ right.found.searches) ≡ c + e
              total = sum-append left.found.searches right.found.searches
                  ∙ ap₂ (λ (m n : ℕ). m + n) (sym left.total) (sym right.total)

-- ---- by the root's kind and children

module _ (L : ColourView) (es qs vs bs : List ℕ) (v a : ℕ) (is-a : a ≡ get_or (changed L.view.labels vs bs) v 0) where
  abbrev W : View
  W = L.view

  abbrev l : ℕ
  l = v - 1 - size_cell L.view.node_table (v - 1)

  pub part-leaf : (r : Given Trial) → get_or L.view.kinds v 0 ≡ 0
      → r ≡ trial_of (leaf_tried L.view.s L.view.k L.view.leaves a) → FewIn L.view.s 60 r
      → PartDone L.view.s (part_tried L es qs vs bs v) r
  unfolding part_tried label_on
  part-leaf r h e B = record {
    result = e ∙ ap trial_of (rw (eq-eqb (get_or W.kinds v 0) 0 h, sym is-a));
    bounds = B;
  }

  module _ (h : ¬ (get_or L.view.kinds v 0 ≡ 0)) where
    pub part-first : v ≡ 0 → PartDone L.view.s (part_tried L es qs vs bs v) None
    unfolding part_tried
    part-first z = lost-part W.s _ (rw (ne_eqb (get_or W.kinds v 0) 0 h, le-ltb 0 v (omega arith)))

    module _ (i : ¬ (v ≡ 0)) where
      pub part-outside : v - 1 < size_cell L.view.node_table (v - 1)
          → PartDone L.view.s (part_tried L es qs vs bs v) None
      unfolding part_tried
      part-outside z =
          lost-part W.s _
          (rw (
            ne_eqb (get_or W.kinds v 0) 0 h,
            lt-ltb 0 v (omega arith),
            lt-leb (size_cell W.node_table (v - 1)) (v - 1) z,
          ))

      pub part-fork : (m z : ℕ) (r : Given Trial) → m ≡ 2 ^ L.view.s → z ≡ size_cell L.view.node_table (v - 1) → z ≤ v - 1
          → PartDone L.view.s (fork_tried (sides_of L.view.n L.view.s m L.view.state_table L.numbers L.copies)
          L.view.k L.view.inner L.view.node_table es qs v (v - 1 - z) a) r
          → PartDone L.view.s (part_tried L es qs vs bs v) r
      unfolding part_tried label_on
      part-fork m z r e y n D = record {
        result = D.result ∙ ap trial_of (sym go);
        bounds = D.bounds;
      }
        where
          go : part_tried L es qs vs bs v
              ≡ fork_tried (sides_of L.view.n L.view.s m L.view.state_table L.numbers L.copies) L.view.k
              L.view.inner L.view.node_table es qs v (v - 1 - z) a
          go = rw (
            ne_eqb (get_or W.kinds v 0) 0 h,
            lt-ltb 0 v (omega arith),
            le-leb (size_cell W.node_table (v - 1)) (v - 1) (omega arith),
            sym is-a,
            sym e,
            sym y,
          )
