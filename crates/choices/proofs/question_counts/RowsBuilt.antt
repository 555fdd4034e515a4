-- All parts, on numbers as built and bytes below S.
--     all-ok         no part leads outside
--     all-links      the links of all are the question's
--     none_above     no count at states from S on
--     all-rows       the counts of each are the rule's, cut off at the limit
use Prim.Native.Nat.{ℕ, zero, suc, ◌+◌, ◌*◌, ◌≤◌, ◌<◌}
use mathlib.Core.Path.{◌≡◌, refl, sym, ap, ap₂, ◌∙◌, subst}
use mathlib.Core.Bool.{Bool, true, false, cond, ◌&&◌}
use mathlib.Core.List.{List, [], ◌∷◌, ◌++◌, append_assoc, append-nil, Memᴰ}
use native.Mathlib.Decide.{dec_lt}
use native.Mathlib.Omega.{arith}
use lib.Dec.{eqb}
use lib.ListN.{length, get_or, length-append, get_or-append, get_or-eq_default}
use lib.Seq.{get_or-append-add, get_or-append_seam}
use borrow.Author.Tests.{ne_eqb}
use Rattle.trees.specs.Tree.{kind_at, labels_of}
use Rattle.list_laws.specs.Rows.{tabulate}
use Rattle.list_laws.proofs.RowLaws.{get_d_tabulate, length-tabulate}
use Rattle.tables.specs.Climbs.{View}
use Rattle.questions.specs.ready.Ready.{left_child, right_child}
use Rattle.questions.specs.ready.Members.{Rising}
use Rattle.questions.specs.ready.Parts.{Given, any_below, highest_below, sum_of, part_links}
use Rattle.questions.proofs.ready.PartsRun.{Members, rising-not}
use Rattle.questions.specs.Promises.{Reads}
use Rattle.choices.specs.assignments.Sums.{sum_to, open_sum, one}
use Rattle.choices.specs.assignments.PartCounts.{Tally, tallied, count_for, climbed_to, applied_count, inner_count}
use Rattle.choices.specs.assignments.PartCounts.{part_count, part_tally, tallies_from}
use Rattle.choices.proofs.assignments.SumLaws.{sum-ext, sum-zero}
use Rattle.choices.proofs.assignments.CountedParts.{tallied-more, counts_kept, counts-new}
use Rattle.choices.specs.node_counts.Capped.{capped}
use Rattle.choices.specs.part_steps.Side.{count_in}
use Rattle.choices.specs.question_counts.PartOn.{part_count_on}
use Rattle.choices.specs.question_counts.PartsOn.{parts_ok, links_from, row_on, rows_from}
use Rattle.choices.proofs.question_counts.CountsBuilt.{RowsAre, part-ok, part-links, part-count}

entry : (l : List ℕ) (i : ℕ) → i < length l → Memᴰ (get_or l i 0) l
entry [] i h = absurd (omega arith)
entry (x ∷ l) zero h = Memᴰ.head refl
entry (x ∷ l) (suc i) h = Memᴰ.tail (entry l i (omega arith))

module _ (X : View) (G : Given) (R : Reads X G) (plain : G.labels ≡ labels_of G.tree) (few : X.s ≤ 16)
    (w : ℕ → Bool) (ms : List ℕ) (M : Members w G.tree ms) where
  pub all-ok : (es rest : List ℕ) → es ++ rest ≡ ms → parts_ok X w es rest ≡ true
  unfolding parts_ok
  all-ok es [] e = refl
  all-ok es (v ∷ rest) e =
      ap₂ (λ (a b : Bool). a && b) (part-ok X G R plain few w ms M es v rest e)
      (all-ok (es ++ (v ∷ [])) rest (append_assoc es (v ∷ []) rest ∙ e))

  pub all-links : (es rest : List ℕ) → es ++ rest ≡ ms → links_from X es rest ≡ sum_of (part_links G.tree ms) rest
  unfolding links_from sum_of
  all-links es [] e = refl
  all-links es (v ∷ rest) e =
      ap₂ (λ (a b : ℕ). a + b) (part-links X G R plain few w ms M es v rest e)
      (all-links (es ++ (v ∷ [])) rest (append_assoc es (v ∷ []) rest ∙ e))

  -- ---- states from S on

  module _ (c : ℕ) (high : X.s ≤ c) where
    not-one : (x : ℕ) → x < X.s → one c x ≡ 0
    not-one x h = rw (ne_eqb x c (λ e. omega arith))

    no_label : (v : ℕ) (f : ℕ → ℕ) → ((b : ℕ) → f b < X.s) → open_sum X.k w G.labels v (λ b. one c (f b)) ≡ 0
    unfolding open_sum
    no_label v f h = go (w v)
      where
        go : (b : Bool) → cond b (sum_to X.k (λ b. one c (f b))) (one c (f (get_or G.labels v 0))) ≡ 0
        go true = sum-ext X.k _ (λ b. 0) (λ b _. not-one (f b) (h b)) ∙ sum-zero X.k
        go false = not-one (f (get_or G.labels v 0)) (h (get_or G.labels v 0))

    no_step : (v p q : ℕ) → applied_count G X.k w v c p q ≡ 0
    unfolding applied_count
    no_step v p q = no_label v (λ b. G.automaton.δ p b q) (λ b. R.inner_below p b q)

    no-sum : (n : ℕ) (a f : ℕ → ℕ) → ((q : ℕ) → f q ≡ 0) → sum_to n (λ q. a q * f q) ≡ 0
    no-sum n a f h =
        sum-ext n _ (λ q. 0) (λ q _. ap (λ (z : ℕ). a q * z) (h q) ∙ (let e : a q * 0 ≡ 0 = omega arith in e))
        ∙ sum-zero n

    module _ (ts : List Tally) (v : ℕ) where
      no_inner : (l r : ℕ) → inner_count G X.k w ms ts v l r c ≡ 0
      unfolding inner_count
      no_inner l r = go (any_below ms G.tree l) (any_below ms G.tree r)
        where
          S : ℕ
          S = G.automaton.states

          go : (a b : Bool) → cond a
              (cond b
              (sum_to G.automaton.states (λ p. count_for ts l p
              * sum_to G.automaton.states (λ q. count_for ts r q * applied_count G X.k w v c p q)))
              (sum_to G.automaton.states (λ q. count_for ts (highest_below ms G.tree l) q
              * applied_count G X.k w v c (climbed_to G ms l q) (G.run_state r))))
              (cond b
              (sum_to G.automaton.states (λ q. count_for ts (highest_below ms G.tree r) q
              * applied_count G X.k w v c (G.run_state l) (climbed_to G ms r q)))
              (applied_count G X.k w v c (G.run_state l) (G.run_state r)))
              ≡ 0
          go true true =
              no-sum G.automaton.states (count_for ts l)
              (λ p. sum_to G.automaton.states (λ q. count_for ts r q * applied_count G X.k w v c p q))
              (λ p. no-sum G.automaton.states (count_for ts r) (λ q. applied_count G X.k w v c p q)
              (λ q. no_step v p q))
          go true false =
              no-sum G.automaton.states (count_for ts (highest_below ms G.tree l))
              (λ q. applied_count G X.k w v c (climbed_to G ms l q) (G.run_state r)) (λ q. no_step v _ _)
          go false true =
              no-sum G.automaton.states (count_for ts (highest_below ms G.tree r))
              (λ q. applied_count G X.k w v c (G.run_state l) (climbed_to G ms r q)) (λ q. no_step v _ _)
          go false false = no_step v (G.run_state l) (G.run_state r)

      pub none_above : part_count G X.k w ms ts v c ≡ 0
      unfolding part_count
      none_above = go (eqb (kind_at G.tree v) 0)
        where
          go : (b : Bool) → cond b (open_sum X.k w G.labels v (λ b. one c (G.automaton.ι b)))
              (inner_count G X.k w ms ts v (left_child G.tree v) (right_child v) c) ≡ 0
          go true = no_label v (λ b. G.automaton.ι b) (λ b. R.leaf_below b)
          go false = no_inner (left_child G.tree v) (right_child v)

  -- ---- one part more

  module _ (es : List ℕ) (v : ℕ) (rest : List ℕ) (cut : es ++ (v ∷ rest) ≡ ms) (cs : List ℕ) (ts : List Tally)
      (same : tallied ts ≡ es) (wide : length cs ≡ length es * 16) (rows : RowsAre es cs ts) where
    abbrev new : Tally
    new = part_tally G X.k w ms ts v

    abbrev more : List Tally
    more = ts ++ (part_tally G X.k w ms ts v ∷ [])

    -- the part's own counts, by state
    own_row : (q : ℕ) → get_or (tabulate G.automaton.states (part_count G X.k w ms ts v)) q 0
        ≡ part_count G X.k w ms ts v q
    own_row q = elim (dec_lt q G.automaton.states) [
      | yes h ↦ get_d_tabulate G.automaton.states (part_count G X.k w ms ts v) q h
      | no h ↦ get_or-eq_default (tabulate G.automaton.states (part_count G X.k w ms ts v)) 0 {n = q}
          (omega (arith, length-tabulate G.automaton.states (part_count G X.k w ms ts v)))
          ∙ sym (none_above q (omega (arith, R.states)) ts v)
    ]

    not-before : Memᴰ v (tallied ts) → ⊥
    not-before m =
        rising-not es v rest 0 (subst (λ (l : List ℕ). Rising 0 l) (sym cut) M.rising)
        (subst (λ (l : List ℕ). Memᴰ v l) same m)

    new-count : (q : ℕ) → count_for more v q ≡ part_count G X.k w ms ts v q
    unfolding part_tally
    new-count q = ap (λ (l : List ℕ). get_or l q 0) (counts-new ts new v refl not-before) ∙ own_row q

    old : (i : ℕ) → i < length es → (q : ℕ) → q < 16
        → count_in (cs ++ row_on X w es cs v) i q ≡ capped (count_for more (get_or (es ++ (v ∷ [])) i 0) q)
    old i h q g =
        get_or-append cs (row_on X w es cs v) 0 (i * 16 + q) (omega arith)
        ∙ rows i h q g
        ∙ ap capped (sym (ap (λ (x : ℕ). count_for more x q) (get_or-append es (v ∷ []) 0 i h)
        ∙ ap (λ (l : List ℕ). get_or l q 0) (counts_kept ts new (get_or es i 0)
        (subst (λ (l : List ℕ). Memᴰ (get_or es i 0) l) (sym same) (entry es i h)))))

    latest : (q : ℕ) → q < 16 → count_in (cs ++ row_on X w es cs v) (length es) q
        ≡ capped (count_for more (get_or (es ++ (v ∷ [])) (length es) 0) q)
    unfolding row_on
    latest q g =
        let at : length es * 16 + q ≡ length cs + q = omega arith in
        ap (λ (j : ℕ). get_or (cs ++ row_on X w es cs v) j 0) at
        ∙ get_or-append-add cs (row_on X w es cs v) q 0
        ∙ get_d_tabulate 16 (λ c. capped (part_count_on X w es cs v c)) q g
        ∙ part-count X G R plain few w ms M es v rest cut cs ts rows q
        ∙ ap capped (sym (ap (λ (x : ℕ). count_for more x q) (get_or-append_seam es v [] 0) ∙ new-count q))

    pub rows_more : RowsAre (es ++ (v ∷ [])) (cs ++ row_on X w es cs v) more
    rows_more i h q g = elim (dec_lt i (length es)) [
      | yes l ↦ old i l q g
      | no l ↦ (let e : length es ≡ i = omega (arith, length-append es (v ∷ [])) in
          subst (λ (j : ℕ).
          count_in (cs ++ row_on X w es cs v) j q ≡ capped (count_for more (get_or (es ++ (v ∷ [])) j 0) q)) e
          (latest q g))
    ]

    pub wide-more : length (cs ++ row_on X w es cs v) ≡ length (es ++ (v ∷ [])) * 16
    unfolding row_on
    wide-more =
        omega (
          arith,
          length-append cs (row_on X w es cs v),
          length-append es (v ∷ []),
          length-tabulate 16 (λ c. capped (part_count_on X w es cs v c)),
        )

  pub all-rows : (es rest cs : List ℕ) (ts : List Tally) → es ++ rest ≡ ms → tallied ts ≡ es
      → length cs ≡ length es * 16 → RowsAre es cs ts
      → RowsAre ms (rows_from X w es cs rest) (tallies_from G X.k w ms ts rest)
  unfolding rows_from tallies_from part_tally
  all-rows es [] cs ts e n l r = subst (λ (z : List ℕ). RowsAre z cs ts) (sym (append-nil es) ∙ e) r
  all-rows es (v ∷ rest) cs ts e n l r =
      all-rows (es ++ (v ∷ [])) rest (cs ++ row_on X w es cs v) (ts ++ (part_tally G X.k w ms ts v ∷ []))
      (append_assoc es (v ∷ []) rest ∙ e)
      (tallied-more ts (part_tally G X.k w ms ts v) ∙ ap (λ (z : List ℕ). z ++ (v ∷ [])) n)
      (wide-more es v rest e cs ts n l r) (rows_more es v rest e cs ts n l r)
