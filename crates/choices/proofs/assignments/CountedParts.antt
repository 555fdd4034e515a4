-- S-10: worked out part by part on the run's own bytes, the counts are those of trying all.
--     part-counts       the counts of one part, if those before it are right
--     tallies-right     so all are: not only the plan's root
--     counts-by-parts   at the root they are the counts by trying all
use Prim.Native.Nat.{ℕ, ◌+◌, ◌*◌, ◌<◌}
use mathlib.Core.Path.{◌≡◌, refl, sym, ap, ◌∙◌, subst}
use mathlib.Core.Bool.{Bool, true, false, cond}
use mathlib.Core.List.Memᴰ
use mathlib.Core.List.{List, [], ◌∷◌, ◌++◌, append_assoc, append-nil, Memᴰ}
use mathlib.Core.Logic.{◌⊎◌, inl, inr}
use native.Mathlib.Decide.{ℕ_discrete}
use native.Mathlib.Omega.{arith}
use lib.ListN.{get_or}
use borrow.Author.Tests.{eq-eqb, ne_eqb}
use Rattle.trees.specs.Tree.{size, kind_at, label_at}
use Rattle.list_laws.proofs.RowLaws.{get_d_tabulate}
use Rattle.list_laws.specs.Tests.{all_below, holds, distinct}
use Rattle.questions.specs.ready.Ready.{left_child, right_child}
use Rattle.questions.specs.ready.Members.{Rising}
use Rattle.questions.specs.ready.Parts.{Given, any_below, highest_below}
use Rattle.questions.proofs.ready.UnderLaws.{left_in, right_in}
use Rattle.questions.proofs.ready.HighestLaws.{Highest}
use Rattle.questions.proofs.ready.ClosedForm.{kind-one}
use Rattle.questions.proofs.ready.BelowLaws.{some_below}
use Rattle.questions.specs.ready.StaysInside.{StaysInside}
use Rattle.questions.proofs.ready.PartsRun.{Members, rising-first, rising-not}
use Rattle.questions.specs.ready.RunGiven.{RunGiven}
use Rattle.choices.specs.assignments.Assignments.{counted}
use Rattle.choices.specs.assignments.Sums.{sum_to, LabelSum, open_sum, one}
use Rattle.choices.specs.assignments.inner.Weights.{weighed, weighed_at}
use Rattle.choices.specs.assignments.PartCounts.{Tally, tallied, counts_of, count_for, climbed_to, applied_count}
use Rattle.choices.specs.assignments.PartCounts.{inner_count, part_count, part_tally}
use Rattle.choices.specs.assignments.PartCounts.{tallies_from, tallies}
use Rattle.choices.proofs.assignments.SumLaws.{sum-ext}
use Rattle.choices.proofs.assignments.WeighLaws.{open-linear, open-scales}
use Rattle.choices.proofs.assignments.TriedAll.{counted-weight}
use Rattle.choices.proofs.assignments.PartWeights.{at_root, at_leaf, part-both, part_none, part_left, part_right}
use Rattle.choices.proofs.assignments.Vectors.{by-counts}

-- ---- lists of parts

pub tallied-more : (ts : List Tally) (p : Tally) → tallied (ts ++ (p ∷ [])) ≡ tallied ts ++ (p.node ∷ [])
tallied-more [] p = refl
tallied-more (q ∷ ts) p = ap (λ (l : List ℕ). q.node ∷ l) (tallied-more ts p)

pub counts_kept : (ts : List Tally) (p : Tally) (x : ℕ) → Memᴰ x (tallied ts) → counts_of (ts ++ (p ∷ [])) x
    ≡ counts_of ts x
unfolding counts_of
counts_kept [] p x m = absurd (Memᴰ.not-nil m)
counts_kept (q ∷ ts) p x m = elim (ℕ_discrete q.node x) [
  | yes e ↦ rw (eq-eqb q.node x e)
  | no n ↦ rw (ne_eqb q.node x n)
      (elim (Memᴰ.cases_cons m) [ inl e ↦ absurd (n (sym e)) | inr k ↦ counts_kept ts p x k ])
]

pub counts-new : (ts : List Tally) (p : Tally) (x : ℕ) → p.node ≡ x → (Memᴰ x (tallied ts) → ⊥)
    → counts_of (ts ++ (p ∷ [])) x ≡ p.counts
unfolding counts_of
counts-new [] p x e n = rw (eq-eqb p.node x e)
counts-new (q ∷ ts) p x e n =
    rw (ne_eqb q.node x (λ z. n (Memᴰ.head (sym z)))) (counts-new ts p x e (λ m. n (Memᴰ.tail m)))

module _ (G : Given) (R : RunGiven G G.tree) (S : StaysInside G.automaton) (k : ℕ) (w : ℕ → Bool) (ms : List ℕ)
    (M : Members w G.tree ms) where
  abbrev ch : LabelSum
  ch = open_sum k w G.labels

  shut : (v : ℕ) → w v ≡ false → (f : ℕ → ℕ) → ch v f ≡ f (label_at G.tree v)
  unfolding open_sum
  shut v e f = rw e (ap (λ (l : List ℕ). f (get_or l v 0)) R.labels)

  abbrev weight : ℕ → (ℕ → ℕ) → ℕ
  weight v g = weighed_at G.automaton ch G.tree v g

  abbrev counts : (v : ℕ) (g : ℕ → ℕ) → weight v g ≡ sum_to G.automaton.states (λ s. weight v (one s) * g s)
  counts v g =
      by-counts G.automaton S.init S.next ch (open-linear k w G.labels) (open-scales k w G.labels)
      G.tree v g

  -- the part of root x is right
  abbrev Right : List Tally → ℕ → Type 0
  Right ts x = (s : ℕ) → s < G.automaton.states → count_for ts x s ≡ weight x (one s)

  module _ (ts : List Tally) (v : ℕ) (mv : Memᴰ v ms) (before : (x : ℕ) → Memᴰ x ms → x < v → Right ts x)
    where
      hv : v < size G.tree
      hv = M.inside v mv

      -- a weight by the counts that were worked out
      by_part : (x : ℕ) → Memᴰ x ms → x < v → (g : ℕ → ℕ) → sum_to G.automaton.states (λ q. count_for ts x q * g q)
          ≡ weight x g
      by_part x m l g = sum-ext G.automaton.states _ _ (λ q h. ap (λ (n : ℕ). n * g q) (before x m l q h))
          ∙ sym (counts x g)

      highest : (c : ℕ) → any_below ms G.tree c ≡ true
          → Highest G.tree (λ x. Memᴰ x ms) c (highest_below ms G.tree c)
      highest c e = some_below G.tree c ms M.rising e

      own-sides : kind_at G.tree v ≡ 1 → any_below ms G.tree (left_child G.tree v) ≡ true
          → any_below ms G.tree (right_child v) ≡ true
          → Memᴰ (left_child G.tree v) ms × Memᴰ (right_child v) ms
      own-sides i a b =
          M.closed.has_children v _ _ mv (highest (left_child G.tree v) a).member
          (highest (right_child v) b).member
          (record {
            inside = hv;
            inner = i;
            left = (highest (left_child G.tree v) a).below;
            right = (highest
                (right_child v) b).below;
          })

      inner-right : kind_at G.tree v ≡ 1 → (s : ℕ) → inner_count G k w ms ts v (left_child G.tree v) (right_child v) s
          ≡ weight v (one s)
      unfolding inner_count applied_count
      inner-right i s = go (any_below ms G.tree (left_child G.tree v)) (any_below ms G.tree (right_child v))
          refl refl
        where
          hl : left_child G.tree v < v
          hl = left_in G.tree v hv i

          hr : right_child v < v
          hr = right_in G.tree v hv i

          go : (b c : Bool) → any_below ms G.tree (left_child G.tree v) ≡ b → any_below ms G.tree (right_child v)
              ≡ c
              → cond b
              (cond c
              (sum_to G.automaton.states (λ p. count_for ts (left_child G.tree v) p
              * sum_to G.automaton.states
              (λ q. count_for ts (right_child v) q * ch v (λ b. one s (G.automaton.δ p b q)))))
              (sum_to G.automaton.states (λ q. count_for ts (highest_below ms G.tree (left_child G.tree v)) q
              * ch v (λ b. one s (G.automaton.δ (climbed_to G ms (left_child G.tree v) q) b
              (G.run_state (right_child v)))))))
              (cond c
              (sum_to G.automaton.states (λ q. count_for ts (highest_below ms G.tree (right_child v)) q
              * ch v (λ b. one s (G.automaton.δ (G.run_state (left_child G.tree v)) b
              (climbed_to G ms (right_child v) q)))))
              (ch v (λ b. one s (G.automaton.δ (G.run_state (left_child G.tree v)) b
              (G.run_state (right_child v))))))
              ≡ weight v (one s)
          go true true p q =
              let m = own-sides i p q in
              sum-ext G.automaton.states _ _ (λ x _. ap (λ (n : ℕ). count_for ts (left_child G.tree v) x * n)
              (by_part (right_child v) m.1 hr (λ y. ch v (λ b. one s (G.automaton.δ x b y)))))
              ∙ by_part (left_child G.tree v) m.0 hl
              (λ x. weight (right_child v) (λ y. ch v (λ b. one s (G.automaton.δ x b y))))
              ∙ sym (part-both G G.tree R S ch w shut ms M v hv i (one s))
          go true false p q =
              let H = highest (left_child G.tree v) p in
              by_part (highest_below ms G.tree (left_child G.tree v)) H.member (omega (arith, H.below, hl)) _
              ∙ sym (part_left G G.tree R S ch w shut ms M v hv i (one s) p q)
          go false true p q =
              let H = highest (right_child v) q in
              by_part (highest_below ms G.tree (right_child v)) H.member (omega (arith, H.below, hr)) _
              ∙ sym (part_right G G.tree R S ch w shut ms M v hv i (one s) p q)
          go false false p q = sym (part_none G G.tree R S ch w shut ms M v hv i (one s) p q)

      pub part-counts : (s : ℕ) → part_count G k w ms ts v s ≡ weight v (one s)
      unfolding part_count
      part-counts s = elim (ℕ_discrete (kind_at G.tree v) 0) [
        | yes e ↦ rw (eq-eqb (kind_at G.tree v) 0 e) (sym (at_leaf G.automaton ch G.tree v (one s) hv e))
        | no n ↦ rw (ne_eqb (kind_at G.tree v) 0 n) (inner-right (kind-one G.tree v hv n) s)
      ]

  -- ---- all parts

  all_right : (done rest : List ℕ) (ts : List Tally) → done ++ rest ≡ ms → tallied ts ≡ done
      → ((x : ℕ) → Memᴰ x done → Right ts x) → (x : ℕ) → Memᴰ x ms → Right (tallies_from G k w ms ts rest) x
  unfolding tallies_from part_tally
  all_right done [] ts e n r x m =
      r x (subst (λ (l : List ℕ). Memᴰ x l) (sym (sym (append-nil done) ∙ e)) m)
  all_right done (v ∷ rest) ts e n r x m =
      all_right (done ++ (v ∷ [])) rest (ts ++ (part_tally G k w ms ts v ∷ [])) (append_assoc done (v ∷ []) rest ∙ e)
      (tallied-more ts (part_tally G k w ms ts v) ∙ ap (λ (l : List ℕ). l ++ (v ∷ [])) n)
      (λ y k. later y (Memᴰ.append_cases done k)) x m
    where
      member : Memᴰ v ms
      member = subst (λ (l : List ℕ). Memᴰ v l) e (Memᴰ.append_right done (Memᴰ.head refl))

      earlier : (y : ℕ) → Memᴰ y ms → y < v → Memᴰ y done
      earlier y k l =
          rising-first done v rest 0 y (subst (λ (z : List ℕ). Rising 0 z) (sym e) M.rising)
          (subst (λ (z : List ℕ). Memᴰ y z) (sym e) k) l

      later : (y : ℕ) → Memᴰ y done ⊎ Memᴰ y (v ∷ []) → Right (ts ++ (part_tally G k w ms ts v ∷ [])) y
      later y (inl m) s h =
          ap (λ (l : List ℕ). get_or l s 0)
          (counts_kept ts (part_tally G k w ms ts v) y (subst (λ (z : List ℕ). Memᴰ y z) (sym n) m))
          ∙ r y m s h
      later y (inr m) s h =
          let q : y ≡ v = Memᴰ.eq_of_singleton m in
          rw q (ap (λ (l : List ℕ). get_or l s 0) (counts-new ts (part_tally G k w ms ts v) v refl
          (λ z. rising-not done v rest 0 (subst (λ (l : List ℕ). Rising 0 l) (sym e) M.rising)
          (subst (λ (l : List ℕ). Memᴰ v l) n z)))
          ∙ get_d_tabulate G.automaton.states (part_count G k w ms ts v) s h
          ∙ part-counts ts v member (λ y k l. r y (earlier y k l)) s)

  pub tallies-right : (x : ℕ) → Memᴰ x ms → Right (tallies G k w ms) x
  unfolding tallies
  tallies-right x m = all_right [] ms [] refl refl (λ y k. absurd (Memᴰ.not-nil k)) x m

-- "the counts are those of the definition by trying all"
module _ (G : Given) (R : RunGiven G G.tree) (S : StaysInside G.automaton) (k : ℕ) (vs ms : List ℕ)
    (M : Members (λ v. holds v vs) G.tree ms) (inside : all_below (size G.tree) vs ≡ true)
    (different : distinct vs ≡ true) where
  pub counts-by-parts : (v s : ℕ) → v + 1 ≡ size G.tree → s < G.automaton.states
      → count_for (tallies G k (λ v. holds v vs) ms) v s ≡ counted G.automaton k G.tree vs s
  counts-by-parts v s e h =
      tallies-right G R S k (λ v. holds v vs) ms M v (M.closed.has_root v e) s h
      ∙ at_root G.automaton (open_sum k (λ v. holds v vs) G.labels) G.tree v (one s) e
      ∙ ap (λ (l : List ℕ). weighed G.automaton (open_sum k (λ v. holds v vs) l) G.tree 0 (one s)) R.labels
      ∙ sym (counted-weight G.automaton k G.tree vs s inside different)
