-- The state at a child, by the tests of the code.
--     side-run, side-own, side-outside, side-found
use Prim.Native.Nat.{ℕ, ◌-◌, ◌≤◌, ◌<◌}
use mathlib.Core.Path.{◌≡◌, sym, ap, ◌∙◌}
use mathlib.Core.List.{List}
use mathlib.Core.Option.{Option, some}
use lib.ListN.{get_or}
use Rattle.std.specs.Prelude.{Option as Given, None}
use Rattle.trees.specs.Climb.{and_then}
use Rattle.tables.specs.Climbs.{below, run_on}
use Rattle.tables.specs.inner.PathViews.{states_view}
use Rattle.tables.proofs.LookupLaws.{below-yes, below-no}
use Rattle.questions.specs.Part.{Found, found}
use Rattle.questions.specs.inner.Scans.{found_of}
use Rattle.questions.proofs.PartLaws.{place_none, place_found}
use Rattle.colours.specs.StateSets.{Tried, try_from}
use Rattle.colour_questions.specs.declared.target_states.trials.Trial.{Trial}
use Rattle.colour_questions.specs.target_states.Trials.{trial_of, TargetsDone}
use Rattle.colour_questions.specs.parts.Part.{Sides, untried, colour_from, side_tried}
use Rattle.colour_questions.specs.parts.inner.Args.{SideDone}
use Rattle.colour_questions.proofs.parts.TrialLaws.{Still, untried-few, targets-few}

module _ (Y : Sides) (c : ℕ) (es qs : List ℕ) (own other : ℕ) where
  abbrev side : Option Tried
  side = side_tried Y c (found_of es qs own) (found_of es qs other)

  still-side : (r : Given Trial) → r ≡ trial_of side → Still Y.s r → SideDone Y.s own other side r
  still-side r e S = record {
    result = e;
    bounds = record { all = S.all; run = λ _. S.none-fell; both = λ _. S.none-fell };
  }

  pub side-run : (x : ℕ) (r : Given Trial) → own ≡ 0 → below Y.s x ≡ run_on (states_view Y.s Y.state_table) c
      → r ≡ trial_of (untried (below Y.s x))
      → SideDone Y.s own other (side_tried Y c (found_of es qs own) (found_of es qs other)) r
  unfolding side_tried
  side-run x r h b e =
      still-side r
      (e ∙ ap (λ (o : Option ℕ). trial_of (untried o)) b
      ∙ ap (λ (o : Option Found). trial_of (side_tried Y c o (found_of es qs other))) (sym (place_none own es qs h)))
      (untried-few Y.s x r e)

  module _ (h : ¬ (own ≡ 0)) where
    abbrev root : Found
    root = found (get_or es (own - 1) 0) (get_or qs (own - 1) 0)

    pub side-own : (r : Given Trial) → ¬ (other ≡ 0) → r ≡ trial_of (untried (below Y.s (get_or qs (own - 1) 0)))
        → SideDone Y.s own other (side_tried Y c (found_of es qs own) (found_of es qs other)) r
    unfolding side_tried
    side-own r i e =
        still-side r
        (e ∙ sym (ap (λ (o : Option Found). trial_of (side_tried Y c o (found_of es qs other))) (place_found own es qs h)
        ∙ ap (λ (o : Option Found). trial_of (side_tried Y c (some root) o)) (place_found other es qs i)))
        (untried-few Y.s (get_or qs (own - 1) 0) r e)

    module _ (i : other ≡ 0) where
      alone : trial_of (colour_from Y c root) ≡ trial_of side
      unfolding side_tried
      alone =
          sym (ap (λ (o : Option Found). trial_of (side_tried Y c o (found_of es qs other))) (place_found own es qs h)
          ∙ ap (λ (o : Option Found). trial_of (side_tried Y c (some root) o)) (place_none other es qs i))

      pub side-outside : Y.s ≤ get_or qs (own - 1) 0
          → SideDone Y.s own other (side_tried Y c (found_of es qs own) (found_of es qs other)) None
      unfolding colour_from trial_of
      side-outside l =
          still-side None
          (ap (λ (o : Option ℕ). trial_of (and_then o (λ q. try_from Y.table Y.copies c (get_or es (own - 1) 0) q Y.s 0)))
          (sym (below-no Y.s (get_or qs (own - 1) 0) l))
          ∙ alone)
          (record { all = tt; none-fell = tt })

      pub side-found : (r : Given Trial) → Y.s ≤ 4 → get_or qs (own - 1) 0 < Y.s
          → TargetsDone Y.s Y.table Y.copies c (get_or es (own - 1) 0) (get_or qs (own - 1) 0) r
          → SideDone Y.s own other (side_tried Y c (found_of es qs own) (found_of es qs other)) r
      unfolding colour_from
      side-found r few l D = record {
        result = D.result
            ∙ ap (λ (o : Option ℕ). trial_of (and_then o (λ q. try_from Y.table Y.copies c (get_or es (own - 1) 0) q
            Y.s 0)))
            (sym (below-yes Y.s (get_or qs (own - 1) 0) l))
            ∙ alone;
        bounds = record {
          all = targets-few Y.s Y.table Y.copies c (get_or es (own - 1) 0) (get_or qs (own - 1) 0) r few D;
          run = λ z. absurd (h z);
          both = λ z. absurd (z i);
        };
      }
