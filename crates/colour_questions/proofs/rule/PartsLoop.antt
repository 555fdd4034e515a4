-- All parts, one at a time: the rest still to do gives what all of them give.
--     going_start, part-args, going-lost, going_next, going_done
use Prim.Native.Nat.{ℕ, ◌+◌, ◌*◌, ◌≤◌, ◌<◌}
use mathlib.Core.Path.{◌≡◌, refl, sym, ap, ap₂, ◌∙◌, subst}
use mathlib.Core.List.{List, [], ◌∷◌, ◌++◌}
use mathlib.Core.Option.{Option, none, some}
use native.Mathlib.Omega.{arith}
use native.Mathlib.Numerals.{add-one}
use lib.ListN.{length, get_or, take, drop, set, replicate, drop_of_length-le, length-append, length-set}
use lib.Seq.{length-take-le, take-suc, take-suc-set, drop-cons}
use Rattle.std.specs.Prelude.{Option as Given, Some, None}
use Rattle.trees.specs.Climb.{and_then}
use Rattle.colours.specs.Descents.{sum}
use Rattle.colours.specs.StateSets.{Tried, tried}
use Rattle.colour_questions.specs.declared.target_states.trials.Trial.{Trial}
use Rattle.colour_questions.specs.target_states.Trials.{trial, trial_of, Few, FewIn}
use Rattle.colour_questions.proofs.target_states.TrialLoop.{sum-append}
use Rattle.colour_questions.specs.parts.Part.{ColourView, part_tried, handled_from}
use Rattle.colour_questions.specs.parts.inner.Args.{colour_view, PartArgs, PartDone}
use Rattle.colour_questions.proofs.parts.TrialLaws.{trial-none, Is, trial-some}
use Rattle.colour_questions.specs.rule.inner.Args.{AllArgs, AllDone}

module _ (n s k m : ℕ) (ls ks lv inn node_table state_table numbers copies vs bs ms : List ℕ) where
  abbrev L : ColourView
  L = colour_view n s k ls ks lv inn node_table state_table numbers copies

  pub record Going (states : List ℕ) (last drops links i : ℕ) : Type 0 where
    pub args : AllArgs n s k m ls ks lv inn node_table state_table numbers copies vs bs ms
    pub upto : i ≤ length ms
    pub long : length states ≡ 254
    pub searches : List ℕ
    pub number : length searches ≡ drops
    pub total : sum searches ≡ links
    pub low : 0 < i → last < s
    pub falls : drops ≤ i * 60
    pub few : links ≤ drops * 65535
    pub rest : handled_from (colour_view n s k ls ks lv inn node_table state_table numbers copies) vs bs [] [] (tried 0 [])
        ms
        ≡ handled_from (colour_view n s k ls ks lv inn node_table state_table numbers copies) vs bs (take i ms) (take i
        states)
        (tried last searches) (drop i ms)

  pub going_start : AllArgs n s k m ls ks lv inn node_table state_table numbers copies vs bs ms
      → Going (replicate 254 0) 0 0 0 0
  going_start A = record {
    args = A;
    upto = omega arith;
    long = refl;
    searches = [];
    number = refl;
    total = refl;
    low = λ h. absurd (omega arith);
    falls = omega arith;
    few = omega arith;
    rest = refl;
  }

  module _ (states : List ℕ) (last drops links i : ℕ) (G : Going states last drops links i) where
    pub going_done : length ms ≤ i
        → AllDone (colour_view n s k ls ks lv inn node_table state_table numbers copies) vs bs ms (Some (trial last drops links))
    unfolding handled_from trial_of
    going_done h =
        let e : drop i ms ≡ [] = drop_of_length-le ms {i = i} h in
        record {
          result = sym (ap trial_of (G.rest
              ∙ ap (handled_from L vs bs (take i ms) (take i states) (tried last G.searches)) e)
              ∙ ap₂ (λ (a b : ℕ). Some (trial last a b)) G.number G.total);
          bounds = λ z. record {
            state = G.low (omega arith);
            falls = omega (arith, G.falls, G.upto);
            few = G.few;
          };
        }

    module _ (h : i < length ms) where
      abbrev v : ℕ
      v = get_or ms i 0

      pub earlier-length : length (take i ms) ≡ i
      earlier-length = length-take-le i ms (omega arith)

      pub states_length : length (take i states) ≡ i
      states_length = length-take-le i states (omega (arith, G.long, G.args.few))

      pub next-args : PartArgs n s k m ls ks lv inn node_table state_table numbers copies (take i ms) (take i states) vs
          bs
          (get_or ms i 0)
      next-args = record {
        reads = G.args.reads;
        at = G.args.nodes i h;
        same = earlier-length ∙ sym states_length;
        many = omega (arith, earlier-length, G.args.few);
      }

      remaining : drop i ms ≡ v ∷ drop (i + 1) ms
      remaining = drop-cons ms i 0 h ∙ ap (λ (x : ℕ). v ∷ drop x ms) (sym (add-one i))

      module _ (t : Given Trial)
          (D : PartDone s (part_tried (colour_view n s k ls ks lv inn node_table state_table numbers copies) (take i ms)
          (take i states) vs bs (get_or ms i 0)) t) where
        turn : (o : Option Tried) → part_tried L (take i ms) (take i states) vs bs v ≡ o
            → handled_from L vs bs [] [] (tried 0 []) ms
            ≡ and_then o (λ p.
            handled_from L vs bs (take i ms ++ (v ∷ [])) (take i states ++ (p.state ∷ []))
            (tried p.state (G.searches ++ p.searches)) (drop (i + 1) ms))
        unfolding handled_from
        turn o e =
            G.rest
            ∙ ap (handled_from L vs bs (take i ms) (take i states) (tried last G.searches)) remaining
            ∙ ap (λ (x : Option Tried). and_then x (λ p.
            handled_from L vs bs (take i ms ++ (v ∷ [])) (take i states ++ (p.state ∷ []))
            (tried p.state (G.searches ++ p.searches)) (drop (i + 1) ms))) e

        pub going-lost : t ≡ None
            → AllDone (colour_view n s k ls ks lv inn node_table state_table numbers copies) vs bs ms None
        unfolding trial_of
        going-lost f = record {
          result = ap trial_of (sym (turn none (trial-none _ (sym f ∙ D.result))));
          bounds = λ _. tt;
        }

        module _ (q d l : ℕ) (f : t ≡ Some (trial q d l)) where
          I : Is (part_tried L (take i ms) (take i states) vs bs v) q d l
          I = trial-some _ q d l (sym f ∙ D.result)

          B : Few s 60 q d l
          B = subst (FewIn s 60) f D.bounds

          pub next-falls : drops + d ≤ (i + 1) * 60
          next-falls = omega (arith, G.falls, B.falls)

          pub next-few : links + l ≤ (drops + d) * 65535
          next-few = omega (arith, G.few, B.few)

          pub going_next : Going (set states i q) q (drops + d) (links + l) (i + 1)
          going_next = record {
            args = G.args;
            upto = omega arith;
            long = length-set states i q ∙ G.long;
            searches = G.searches ++ I.found.searches;
            number = length-append G.searches I.found.searches
                ∙ ap₂ (λ (a b : ℕ). a + b) G.number (sym I.number);
            total = sum-append G.searches I.found.searches
                ∙ ap₂ (λ (a b : ℕ). a + b) G.total (sym I.total);
            low = λ _. B.state;
            falls = next-falls;
            few = next-few;
            rest = turn (some I.found) I.is ∙ sym (same q I.found.state I.state);
          }
            where
              more : take (i + 1) ms ≡ take i ms ++ (get_or ms i 0 ∷ [])
              more = ap (λ (x : ℕ). take x ms) (add-one i) ∙ take-suc ms i 0 h

              same : (q x : ℕ) → q ≡ x
                  → handled_from L vs bs (take (i + 1) ms) (take (i + 1) (set states i q))
                  (tried q (G.searches ++ I.found.searches)) (drop (i + 1) ms)
                  ≡ handled_from L vs bs (take i ms ++ (v ∷ [])) (take i states ++ (x ∷ []))
                  (tried x (G.searches ++ I.found.searches)) (drop (i + 1) ms)
              same q x e =
                  ap₂ (λ (a b : List ℕ). handled_from L vs bs a b (tried q (G.searches ++ I.found.searches)) (drop (i
                  + 1) ms))
                  more
                  (ap (λ (y : ℕ). take y (set states i q)) (add-one i)
                  ∙ take-suc-set states i q (omega (arith, G.long, G.args.few)))
                  ∙ ap (λ (y : ℕ). handled_from L vs bs (take i ms ++ (v ∷ [])) (take i states ++ (y ∷ []))
                  (tried y (G.searches ++ I.found.searches)) (drop (i + 1) ms)) e
