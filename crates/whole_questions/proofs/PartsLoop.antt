-- All parts, one at a time: the rest still to do gives what all of them give.
--     climbed-none, climbed-some   an answer tells what it was made from
--     Going                     the invariant
--     going_done                after the last part
--     states_length             the states handed on are those of the parts before
--     going-lost, going_next    a part without a result, and one more part
use Prim.Native.Nat.{ℕ, ◌+◌, ◌*◌, ◌≤◌, ◌<◌}
use mathlib.Core.Path.{◌≡◌, refl, sym, ap, ap₂, ◌∙◌}
use mathlib.Core.Bool.{true}
use mathlib.Core.List.{List, [], ◌∷◌, ◌++◌}
use mathlib.Core.Option.{Option, none, some}
use native.Mathlib.Omega.{arith}
use native.Mathlib.Numerals.{add-one}
use lib.ListN.{length, get_or, take, drop, set, drop_of_length-le, length-set}
use lib.Seq.{length-take-le, take-suc, take-suc-set, drop-cons}
use borrow.Author.Tests.{le-leb}
use Rattle.trees.specs.Climb.{and_then}
use Rattle.tables.specs.declared.answers.Climbed.{Climbed}
use Rattle.tables.specs.declared.answers.Climbed.TheVariants.{Reached as To, OutOfRange}
use Rattle.tables.specs.declared.answers.Reached.{Reached}
use Rattle.tables.specs.Climbs.{View, reached, climbed_of}
use Rattle.questions.specs.Part.{part_on}
use Rattle.questions.specs.PartAnswers.{asked_fits, part_given, view_in}
use Rattle.questions.specs.Promises.{PartDone}
use Rattle.questions.proofs.PartFits.{asked-end, given_yes}
use Rattle.whole_questions.specs.Question.{totalled, handled_from}
use Rattle.whole_questions.specs.inner.Args.{AllArgs}

-- ---- an answer tells what it was made from

pub climbed-none : (o : Option Reached) → OutOfRange ≡ climbed_of o → o ≡ none
unfolding climbed_of
climbed-none none e = refl
climbed-none (some x) e = absurd (let z : ◌≡◌ {A = ℕ} 0 1 = cc in omega arith)

pub climbed-some : (o : Option Reached) (x : Reached) → To x ≡ climbed_of o → o ≡ some x
unfolding climbed_of
climbed-some none x e = absurd (let z : ◌≡◌ {A = ℕ} 0 1 = cc in omega arith)
climbed-some (some y) x e = cc

module _ (n s k : ℕ) (p r node_table state_table ms vs bs : List ℕ) where
  abbrev X : View
  X = view_in n s k p r node_table state_table

  pub record Going (states : List ℕ) (last links passed i : ℕ) : Type 0 where
    pub args : AllArgs n s k p r node_table state_table ms vs bs
    pub upto : i ≤ length ms
    pub long : length states ≡ 254
    pub few-links : links ≤ i * 65535
    pub few-passed : passed ≤ i * 65535
    pub rest : handled_from (view_in n s k p r node_table state_table) vs bs [] [] (reached 0 0 0) ms
        ≡ handled_from (view_in n s k p r node_table state_table) vs bs (take i ms) (take i states)
        (reached last links passed) (drop i ms)

  module _ (states : List ℕ) (last links passed i : ℕ) (G : Going states last links passed i) where
    pub going_done : length ms ≤ i
        → To (reached last links passed)
        ≡ climbed_of (handled_from (view_in n s k p r node_table state_table) vs bs [] [] (reached 0 0 0) ms)
    unfolding handled_from climbed_of
    going_done h =
        let e : drop i ms ≡ [] = drop_of_length-le ms {i = i} h in
        sym (ap climbed_of (G.rest
        ∙ ap (handled_from X vs bs (take i ms) (take i states) (reached last links passed)) e))

    module _ (h : i < length ms) where
      abbrev v : ℕ
      v = get_or ms i 0

      pub states_length : length (take i states) ≡ i
      states_length = length-take-le i states (omega (arith, G.long, G.args.few))

      asked : asked_fits n ms (take i states) vs bs ≡ true
      asked =
          let l = states_length in
          asked-end n ms (take i states) vs bs (omega (arith, l)) (omega (arith, G.args.few))
          (rw l (G.args.nodes i h)) G.args.same_list
          ∙ le-leb (length vs) 65535 (omega (arith, G.args.many_list))

      -- the part that is asked for
      given : part_given n s k p r node_table state_table ms (take i states) vs bs
          ≡ part_on X (take i ms) (take i states) vs bs v
      given =
          given_yes n s k p r node_table state_table ms (take i states) vs bs G.args.limits G.args.lengths asked
          ∙ ap (λ (j : ℕ). part_on X (take j ms) (take i states) vs bs (get_or ms j 0)) states_length

      remaining : drop i ms ≡ v ∷ drop (i + 1) ms
      remaining = drop-cons ms i 0 h ∙ ap (λ (x : ℕ). v ∷ drop x ms) (sym (add-one i))

      turn : (o : Option Reached) → part_on X (take i ms) (take i states) vs bs v ≡ o
          → handled_from X vs bs [] [] (reached 0 0 0) ms
          ≡ and_then o (λ y. handled_from X vs bs (take i ms ++ (v ∷ [])) (take i states ++ (y.state ∷ []))
          (totalled (reached last links passed) y) (drop (i + 1) ms))
      unfolding handled_from
      turn o e =
          G.rest
          ∙ ap (handled_from X vs bs (take i ms) (take i states) (reached last links passed)) remaining
          ∙ ap (λ (z : Option Reached). and_then z (λ y.
          handled_from X vs bs (take i ms ++ (v ∷ [])) (take i states ++ (y.state ∷ []))
          (totalled (reached last links passed) y) (drop (i + 1) ms))) e

      module _ (t : Climbed) (D : PartDone n s k p r node_table state_table ms (take i states) vs bs t) where
        pub going-lost : t ≡ OutOfRange
            → OutOfRange ≡ climbed_of (handled_from (view_in n s k p r node_table state_table) vs bs [] [] (reached 0 0 0) ms)
        unfolding climbed_of
        going-lost e = ap climbed_of (sym (turn none (sym given ∙ climbed-none _ (sym e ∙ D.result))))

        module _ (x : Reached) (e : t ≡ To x) where
          found : part_given n s k p r node_table state_table ms (take i states) vs bs ≡ some x
          found = climbed-some _ x (sym e ∙ D.result)

          pub next-links : links + x.links ≤ (i + 1) * 65535
          next-links = omega (arith, G.few-links, D.links_most x found)

          pub next-passed : passed + x.passed ≤ (i + 1) * 65535
          next-passed = omega (arith, G.few-passed, D.passed_most x found)

          pub going_next : Going (set states i x.state) x.state (links + x.links) (passed + x.passed) (i + 1)
          going_next = record {
            args = G.args;
            upto = omega arith;
            long = length-set states i x.state ∙ G.long;
            few-links = next-links;
            few-passed = next-passed;
            rest = turn (some x) (sym given ∙ found) ∙ sym same;
          }
            where
              more : take (i + 1) ms ≡ take i ms ++ (get_or ms i 0 ∷ [])
              more = ap (λ (j : ℕ). take j ms) (add-one i) ∙ take-suc ms i 0 h

              same : handled_from X vs bs (take (i + 1) ms) (take (i + 1) (set states i x.state))
                  (reached x.state (links + x.links) (passed + x.passed)) (drop (i + 1) ms)
                  ≡ handled_from X vs bs (take i ms ++ (v ∷ [])) (take i states ++ (x.state ∷ []))
                  (reached x.state (links + x.links) (passed + x.passed)) (drop (i + 1) ms)
              same =
                  ap₂ (λ (a b : List ℕ). handled_from X vs bs a b
                  (reached x.state (links + x.links) (passed + x.passed)) (drop (i + 1) ms)) more
                  (ap (λ (j : ℕ). take j (set states i x.state)) (add-one i)
                  ∙ take-suc-set states i x.state (omega (arith, G.long, G.args.few)))
