-- On bytes below S, too, the counts of the root add up to K to the power m, so that none is cut off.
--     total-parts    the counts of a part add up to what they would be with a single state, for any run states and
--                    maps: its total depends on the labels alone
--     rule-sum       at the plan's root that is K to the power m
--     rule-exact     so the counts returned are those of the rule, and nothing is cut off
use Prim.Native.Nat.{ℕ, ◌-◌, ◌*◌, ◌^◌, ◌≤◌, ◌<◌}
use mathlib.Core.Path.{◌≡◌, refl, sym, ap, ap₂, ◌∙◌}
use mathlib.Core.Bool.{Bool, true, false, cond}
use mathlib.Core.List.{List, [], ◌∷◌, ◌++◌}
use native.Mathlib.Decide.{dec_lt}
use native.Mathlib.Omega.{arith}
use native.Mathlib.Nat.{mul_comm}
use lib.Dec.{eqb}
use lib.ListN.{length, get_or}
use Rattle.trees.specs.Tree.{size, kind_at, labels_of}
use Rattle.trees.specs.Automaton.{Automaton}
use Rattle.trees.specs.Numbering.{sub}
use Rattle.trees.proofs.MapLaws.{state_map-below}
use Rattle.trees.proofs.NodeLaws.{size-pos}
use Rattle.trees.proofs.RunLaws.{state_below}
use Rattle.list_laws.specs.Tests.{all_below, distinct}
use Rattle.list_laws.proofs.RowLaws.{get_d_tabulate}
use Rattle.tables.specs.Climbs.{View}
use Rattle.questions.specs.ready.Ready.{left_child, right_child}
use Rattle.questions.specs.ready.Members.{roots}
use Rattle.questions.specs.ready.Parts.{Given, any_below, highest_below}
use Rattle.questions.specs.ready.StaysInside.{StaysInside}
use Rattle.questions.specs.ready.RunGiven.{RunGiven}
use Rattle.questions.specs.RootsAnswers.{roots_fit}
use Rattle.questions.specs.Promises.{Reads}
use Rattle.questions.proofs.FitLaws.{fit-facts}
use Rattle.choices.specs.assignments.Assignments.{counted}
use Rattle.choices.specs.assignments.Sums.{sum_to, open_sum, one}
use Rattle.choices.specs.assignments.PartCounts.{Tally, counts_of, count_for, climbed_to, applied_count, inner_count, part_count}
use Rattle.choices.specs.assignments.PartCounts.{part_tally, tallies_from, tallies}
use Rattle.choices.proofs.assignments.SumLaws.{sum-ext, sum-swap, sum-times, sum_one, sum-most, sum-zero}
use Rattle.choices.proofs.assignments.Theorems.{sum-is-the-power, parts-are-tried}
use Rattle.choices.specs.node_counts.Capped.{count_limit}
use Rattle.choices.specs.question_counts.CountOn.{open_in, count_of}
use Rattle.choices.proofs.question_counts.BuiltCounts.{tallies-none}
use Rattle.choices.proofs.question_counts.RuleCounts.{rule-counts}

-- ---- a single state

abbrev pub single : Automaton
single = record { states = 1; ι = λ a. 0; δ = λ p a q. 0; accepting = λ q. false }

abbrev pub alone : Given → Given
alone G = record { tree = G.tree; automaton = single; labels = G.labels; run_state = λ v. 0; map_state = λ v q. 0 }

one-term : (f : ℕ → ℕ) → sum_to 1 f ≡ f 0
unfolding sum_to
one-term f = omega arith

-- a factor that is the same for all states comes out
module _ (n : ℕ) where
  common : (a : ℕ → ℕ) (f : ℕ → ℕ → ℕ) (m : ℕ) (h : ℕ) → ((q : ℕ) → sum_to h (λ s. f s q) ≡ m)
      → sum_to h (λ s. sum_to n (λ q. a q * f s q)) ≡ sum_to n a * m
  common a f m h e =
      sum-swap h n (λ s q. a q * f s q)
      ∙ sum-ext n _ (λ q. a q * m) (λ q _.
      sum-ext h _ (λ s. f s q * a q) (λ s _. mul_comm (a q) (f s q))
      ∙ sum-times h (λ s. f s q) (a q)
      ∙ mul_comm (sum_to h (λ s. f s q)) (a q)
      ∙ ap (λ (z : ℕ). a q * z) (e q))
      ∙ sum-times n a m

-- ---- the labels of a node, over all states

module _ (G : Given) (S : StaysInside G.automaton) (k : ℕ) (w : ℕ → Bool) where
  abbrev n : ℕ
  n = G.automaton.states

  labels : ℕ → ℕ
  labels v = open_sum k w G.labels v (λ b. 1)

  each-one : (c : ℕ) → c < G.automaton.states → sum_to G.automaton.states (λ s. one s c) ≡ 1
  each-one c h = sum-ext n _ (λ s. one s c * 1) (λ s _. omega arith) ∙ sum_one n c (λ s. 1) h

  over-states : (v : ℕ) (g : ℕ → ℕ) → ((b : ℕ) → g b < G.automaton.states)
      → sum_to G.automaton.states (λ s. open_sum k w G.labels v (λ b. one s (g b))) ≡ labels v
  unfolding open_sum labels
  over-states v g h = go (w v)
    where
      go : (b : Bool)
          → sum_to G.automaton.states (λ s. cond b (sum_to k (λ b. one s (g b))) (one s (g (get_or G.labels v 0))))
          ≡ cond b (sum_to k (λ b. 1)) 1
      go true =
          sum-swap n k (λ s b. one s (g b)) ∙ sum-ext k _ (λ b. 1) (λ b _. each-one (g b) (h b))
      go false = each-one (g (get_or G.labels v 0)) (h (get_or G.labels v 0))

  all-applied : (v p q : ℕ) → sum_to G.automaton.states (λ s. applied_count G k w v s p q) ≡ labels v
  unfolding applied_count
  all-applied v p q = over-states v (λ b. G.automaton.δ p b q) (λ b. S.next p b q)

  alone-applied : (v p q : ℕ) → applied_count (alone G) k w v 0 p q ≡ labels v
  unfolding applied_count open_sum labels
  alone-applied v p q = refl

  -- ---- one part

  module _ (ms : List ℕ) (ts us : List Tally) (v : ℕ)
      (before : (x : ℕ) → sum_to G.automaton.states (λ s. count_for ts x s) ≡ count_for us x 0) where
    abbrev app : ℕ → ℕ → ℕ → ℕ
    app s p q = applied_count G k w v s p q

    abbrev sole : ℕ → ℕ → ℕ
    sole p q = applied_count (alone G) k w v 0 p q

    both-total : (l r : ℕ)
        → sum_to n (λ s. sum_to n (λ p. count_for ts l p * sum_to n (λ q. count_for ts r q * app s p q)))
        ≡ sum_to 1 (λ p. count_for us l p * sum_to 1 (λ q. count_for us r q * sole p q))
    both-total l r =
        common n (count_for ts l) (λ s p. sum_to n (λ q. count_for ts r q * app s p q)) (sum_to n (count_for ts r) * labels v) n
        (λ p. common n (count_for ts r) (λ s q. app s p q) (labels v) n (λ q. all-applied v p q))
        ∙ ap₂ (λ (x y : ℕ). x * (y * labels v)) (before l) (before r)
        ∙ sym (one-term (λ p. count_for us l p * sum_to 1 (λ q. count_for us r q * sole p q))
        ∙ ap (λ (z : ℕ). count_for us l 0 * z) (one-term (λ q. count_for us r q * sole 0 q)
        ∙ ap (λ (z : ℕ). count_for us r 0 * z) (alone-applied v 0 0)))

    -- x and y give the two states that are applied, of the climbed child and of the other
    side-total : (h : ℕ) (x y : ℕ → ℕ) (x' y' : ℕ → ℕ)
        → sum_to n (λ s. sum_to n (λ q. count_for ts h q * app s (x q) (y q)))
        ≡ sum_to 1 (λ q. count_for us h q * sole (x' q) (y' q))
    side-total h x y x' y' =
        common n (count_for ts h) (λ s q. app s (x q) (y q)) (labels v) n (λ q. all-applied v (x q) (y q))
        ∙ ap (λ (z : ℕ). z * labels v) (before h)
        ∙ sym (one-term (λ q. count_for us h q * sole (x' q) (y' q))
        ∙ ap (λ (z : ℕ). count_for us h 0 * z) (alone-applied v (x' 0) (y' 0)))

    total-inner : (l r : ℕ) → sum_to G.automaton.states (λ s. inner_count G k w ms ts v l r s)
        ≡ inner_count (alone G) k w ms us v l r 0
    unfolding inner_count
    total-inner l r = go (any_below ms G.tree l) (any_below ms G.tree r)
      where
        go : (a b : Bool)
            → sum_to n (λ s. cond a
            (cond b
            (sum_to n (λ p. count_for ts l p * sum_to n (λ q. count_for ts r q * app s p q)))
            (sum_to n (λ q. count_for ts (highest_below ms G.tree l) q * app s (climbed_to G ms l q) (G.run_state r))))
            (cond b
            (sum_to n (λ q. count_for ts (highest_below ms G.tree r) q * app s (G.run_state l) (climbed_to G ms r q)))
            (app s (G.run_state l) (G.run_state r))))
            ≡ cond a
            (cond b
            (sum_to 1 (λ p. count_for us l p * sum_to 1 (λ q. count_for us r q * sole p q)))
            (sum_to 1 (λ q. count_for us (highest_below ms G.tree l) q * sole (climbed_to (alone G) ms l q) 0)))
            (cond b
            (sum_to 1 (λ q. count_for us (highest_below ms G.tree r) q * sole 0 (climbed_to (alone G) ms r q)))
            (sole 0 0))
        go true true = both-total l r
        go true false =
            side-total (highest_below ms G.tree l) (climbed_to G ms l) (λ q. G.run_state r)
            (climbed_to (alone G) ms l) (λ q. 0)
        go false true =
            side-total (highest_below ms G.tree r) (λ q. G.run_state l) (climbed_to G ms r) (λ q. 0)
            (climbed_to (alone G) ms r)
        go false false = all-applied v (G.run_state l) (G.run_state r) ∙ sym (alone-applied v 0 0)

    pub total-part : sum_to G.automaton.states (part_count G k w ms ts v) ≡ part_count (alone G) k w ms us v 0
    unfolding part_count open_sum labels
    total-part = go (eqb (kind_at G.tree v) 0)
      where
        go : (b : Bool)
            → sum_to G.automaton.states (λ s. cond b (open_sum k w G.labels v (λ b. one s (G.automaton.ι b)))
            (inner_count G k w ms ts v (left_child G.tree v) (right_child v) s))
            ≡ cond b (open_sum k w G.labels v (λ b. 1))
            (inner_count (alone G) k w ms us v (left_child G.tree v) (right_child v) 0)
        go true = over-states v (λ b. G.automaton.ι b) (λ b. S.init b)
        go false = total-inner (left_child G.tree v) (right_child v)

  -- ---- all parts

  abbrev Paired : List Tally → List Tally → Type 0
  Paired [] [] = Unit {0}
  Paired [] (u ∷ us) = ⊥
  Paired (t ∷ ts) [] = ⊥
  Paired (t ∷ ts) (u ∷ us) =
      (t.node ≡ u.node)
      × ((sum_to G.automaton.states (λ s. get_or t.counts s 0) ≡ get_or u.counts 0 0) × Paired ts us)

  paired_at : (ts us : List Tally) → Paired ts us → (x : ℕ)
      → sum_to G.automaton.states (λ s. count_for ts x s) ≡ count_for us x 0
  unfolding counts_of
  paired_at [] [] P x = sum-zero n
  paired_at [] (u ∷ us) P x = absurd P
  paired_at (t ∷ ts) [] P x = absurd P
  paired_at (t ∷ ts) (u ∷ us) P x = rw P.0 (go (eqb u.node x) (paired_at ts us P.1.1 x))
    where
      go : (b : Bool) → sum_to G.automaton.states (λ s. count_for ts x s) ≡ count_for us x 0
          → sum_to G.automaton.states (λ s. get_or (cond b t.counts (counts_of ts x)) s 0)
          ≡ get_or (cond b u.counts (counts_of us x)) 0 0
      go true e = P.1.0
      go false e = e

  paired-more : (ts us : List Tally) (t u : Tally) → Paired ts us → t.node ≡ u.node
      → sum_to G.automaton.states (λ s. get_or t.counts s 0) ≡ get_or u.counts 0 0
      → Paired (ts ++ (t ∷ [])) (us ++ (u ∷ []))
  paired-more [] [] t u P e f = (e, (f, tt))
  paired-more [] (y ∷ us) t u P e f = absurd P
  paired-more (x ∷ ts) [] t u P e f = absurd P
  paired-more (x ∷ ts) (y ∷ us) t u P e f = (P.0, (P.1.0, paired-more ts us t u P.1.1 e f))

  all-paired : (ms ts' : List ℕ) (ts us : List Tally) → Paired ts us
      → Paired (tallies_from G k w ms ts ts') (tallies_from (alone G) k w ms us ts')
  unfolding tallies_from part_tally
  all-paired ms [] ts us P = P
  all-paired ms (v ∷ rest) ts us P =
      all-paired ms rest (ts ++ (part_tally G k w ms ts v ∷ [])) (us ++ (part_tally (alone G) k w ms us v ∷ []))
      (paired-more ts us (part_tally G k w ms ts v) (part_tally (alone G) k w ms us v) P refl
      (sum-ext n _ (part_count G k w ms ts v) (λ s h. get_d_tabulate n (part_count G k w ms ts v) s h)
      ∙ total-part ms ts us v (paired_at ts us P)
      ∙ sym (get_d_tabulate 1 (part_count (alone G) k w ms us v) 0 (omega arith))))

  pub total-parts : (ms : List ℕ) (v : ℕ)
      → sum_to G.automaton.states (λ s. count_for (tallies G k w ms) v s) ≡ count_for (tallies (alone G) k w ms) v 0
  unfolding tallies
  total-parts ms v = paired_at (tallies G k w ms) (tallies (alone G) k w ms) (all-paired ms ms [] [] tt) v

-- ---- the plan's root

inside-single : StaysInside single
inside-single = record { init = λ a. omega arith; next = λ p a q. omega arith }

alone-run : (G : Given) → G.labels ≡ labels_of G.tree → RunGiven (alone G) G.tree
alone-run G plain = record {
  labels = plain;
  states = λ v h. omega (arith, state_below single inside-single.init inside-single.next (sub G.tree v));
  maps = λ v q h l. omega (arith, state_map-below single G.tree inside-single.next v q l);
}

module _ (X : View) (G : Given) (R : Reads X G) (plain : G.labels ≡ labels_of G.tree) (few : X.s ≤ 16) (vs : List ℕ)
    (fits : roots_fit X.n (length X.node_table) vs ≡ true) (different : distinct vs ≡ true) where
  stays : StaysInside G.automaton
  stays = record {
    init = λ a. omega (arith, R.states, R.leaf_below a);
    next = λ p a q. omega (arith, R.states, R.inner_below p a q);
  }

  inside-plan : all_below (size G.tree) vs ≡ true
  inside-plan =
      ap (λ (n : ℕ). all_below n vs) (sym R.count) ∙ (fit-facts X.n (length X.node_table) vs fits).below

  abbrev told : ℕ → ℕ
  told c = count_for (tallies G X.k (open_in vs) (roots G.tree vs)) (size G.tree - 1) c

  -- "their sum is K to the power m", on these bytes too
  pub rule-sum : sum_to X.s (λ c. count_for (tallies G X.k (open_in vs) (roots G.tree vs)) (size G.tree - 1) c)
      ≡ X.k ^ length vs
  rule-sum =
      ap (λ (n : ℕ). sum_to n told) (sym R.states)
      ∙ total-parts G stays X.k (open_in vs) (roots G.tree vs) (size G.tree - 1)
      ∙ parts-are-tried (alone G) (alone-run G plain) inside-single X.k vs inside-plan different
      (size G.tree - 1) 0 (omega (arith, size-pos G.tree)) (omega arith)
      ∙ sym (one-term (counted single X.k G.tree vs))
      ∙ sum-is-the-power single inside-single X.k G.tree vs

  pub rule-exact : X.k ^ length vs ≤ count_limit → (c : ℕ) → c < 16
      → count_of X vs (roots G.tree vs) c
      ≡ count_for (tallies G X.k (open_in vs) (roots G.tree vs)) (size G.tree - 1) c
  rule-exact fit c h =
      rule-counts X G R plain few vs fits c h
      ∙ elim (dec_lt c X.s) [
        | yes l ↦ omega (arith, sum-most X.s told c l, rule-sum)
        | no l ↦ omega (
          arith,
          tallies-none G X.k (open_in vs) (roots G.tree vs) (size G.tree - 1) c (omega (arith, R.states)),
        )
      ]
