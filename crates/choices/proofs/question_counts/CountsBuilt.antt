-- On numbers as built and bytes below S a part's counts are those of the rule on these bytes, cut off at the limit.
--     part-ok        a part never leads outside
--     part-links     its links are the question's
--     part-count     its counts are choices/assignments' `part_count`
use Prim.Native.Nat.{ℕ, ◌+◌, ◌-◌, ◌*◌, ◌≤◌, ◌<◌}
use mathlib.Core.Path.{◌≡◌, refl, sym, ap, ap₂, ◌∙◌}
use mathlib.Core.Bool.{Bool, true, false, cond, ◌&&◌}
use mathlib.Core.List.{List, ◌∷◌, ◌++◌, Memᴰ}
use native.Mathlib.Decide.{ℕ_discrete}
use native.Mathlib.Omega.{arith}
use lib.Dec.{leb}
use lib.ListN.{length, get_or}
use borrow.Author.Tests.{lt-ltb, le-leb, eq-eqb, ne_eqb}
use Rattle.trees.specs.Tree.{size, kind_at, labels_of}
use Rattle.trees.specs.Numbering.{sub, depth}
use Rattle.trees.proofs.NodeLaws.{Inner, inner, up}
use Rattle.tables.specs.node_tables.Cells.{depth_cell, size_cell}
use Rattle.tables.specs.Climbs.{View}
use Rattle.questions.specs.ready.Ready.{left_child, right_child}
use Rattle.questions.specs.ready.Parts.{Given, any_below, highest_below, climbed_links, inner_links, part_links}
use Rattle.questions.proofs.ready.BelowLaws.{some_below}
use Rattle.questions.proofs.ready.ClosedForm.{kind-one}
use Rattle.questions.proofs.ready.HighestLaws.{Highest}
use Rattle.questions.proofs.ready.PartsRun.{Members}
use Rattle.questions.proofs.ready.UnderLaws.{under-self, left_in, right_in, left-parent, right-parent}
use Rattle.questions.specs.Promises.{Reads}
use Rattle.choices.specs.assignments.Sums.{sum_to, open_sum, one}
use Rattle.choices.specs.assignments.PartCounts.{Tally, count_for, climbed_to, applied_count, inner_count, part_count}
use Rattle.choices.proofs.assignments.SumLaws.{sum-ext}
use Rattle.choices.specs.node_counts.Capped.{capped}
use Rattle.choices.specs.node_counts.Join.{led_to, ways_to}
use Rattle.choices.specs.part_steps.Side.{count_in}
use Rattle.choices.specs.part_steps.Fork.{fork_ok, fork_links, fork_count}
use Rattle.choices.specs.part_steps.Root.{root_links, root_count}
use Rattle.choices.proofs.part_steps.ForkSums.{fork-both, fork-left, fork-right, fork-none, ways-open, ways-own}
use Rattle.choices.proofs.part_steps.CappedSums.{capped-sum, capped-product}
use Rattle.choices.specs.question_counts.PartOn.{first_label, end_label, left_on, place_on, part_ok_on, part_links_on}
use Rattle.choices.specs.question_counts.PartOn.{part_count_on}
use Rattle.choices.proofs.question_counts.RootPlaces.{Place}
use Rattle.choices.proofs.question_counts.SidesBuilt as sides

-- the counts cs, 16 for each of the roots es, are those of the parts ts
abbrev pub RowsAre : List ℕ → List ℕ → List Tally → Type 0
RowsAre es cs ts =
    (i : ℕ) → i < length es → (q : ℕ) → q < 16 → count_in cs i q ≡ capped (count_for ts (get_or es i 0) q)

module _ (X : View) (G : Given) (R : Reads X G) (plain : G.labels ≡ labels_of G.tree) (few : X.s ≤ 16)
    (w : ℕ → Bool) (ms : List ℕ) (M : Members w G.tree ms) (es : List ℕ) (v : ℕ) (rest : List ℕ)
    (cut : es ++ (v ∷ rest) ≡ ms) where
  hv : v < size G.tree
  hv = sides.v-inside X G R w ms M es v rest cut

  label_is : get_or X.labels v 0 ≡ get_or G.labels v 0
  label_is = ap (λ (l : List ℕ). get_or l v 0) (R.labels ∙ sym plain)

  kind-is : get_or X.kinds v 0 ≡ kind_at G.tree v
  kind-is = ap (λ (l : List ℕ). get_or l v 0) R.kinds

  -- ---- the node's labels

  label-ok : leb (end_label X w v) X.k ≡ true
  unfolding end_label
  label-ok = go (w v)
    where
      go : (b : Bool) → leb (cond b X.k (get_or X.labels v 0 + 1)) X.k ≡ true
      go true = le-leb X.k X.k (omega arith)
      go false =
          le-leb (get_or X.labels v 0 + 1) X.k
          (omega (arith, R.label_below v, ap (λ (l : List ℕ). get_or l v 0) R.labels))

  ways-are : (f : List ℕ) (s p q c : ℕ) (g : ℕ → ℕ) → ((b : ℕ) → led_to f s X.k p q b ≡ g b)
      → ways_to f s X.k (first_label X w v) (end_label X w v) p q c
      ≡ open_sum X.k w G.labels v (λ b. one c (g b))
  unfolding first_label end_label open_sum
  ways-are f s p q c g e = go (w v)
    where
      go : (b : Bool)
          → ways_to f s X.k (cond b 0 (get_or X.labels v 0)) (cond b X.k (get_or X.labels v 0 + 1)) p q c
          ≡ cond b (sum_to X.k (λ b. one c (g b))) (one c (g (get_or G.labels v 0)))
      go true = ways-open f s X.k p q c ∙ sum-ext X.k _ _ (λ b _. ap (λ (z : ℕ). one c z) (e b))
      go false =
          ways-own f s X.k p q c (get_or X.labels v 0)
          ∙ ap (λ (z : ℕ). one c z) (e (get_or X.labels v 0) ∙ ap g label_is)

  leaf_count : (c : ℕ) → ways_to X.leaves 1 X.k (first_label X w v) (end_label X w v) 0 0 c
      ≡ open_sum X.k w G.labels v (λ b. one c (G.automaton.ι b))
  leaf_count c =
      ways-are X.leaves 1 0 0 c (λ b. G.automaton.ι b)
      (λ b. let i : (0 * X.k + b) * 1 + 0 ≡ b = omega arith in
      ap (λ (j : ℕ). get_or X.leaves j 0) i ∙ sym (R.leaf b))

  applied : (p q c : ℕ) → ways_to X.inner X.s X.k (first_label X w v) (end_label X w v) p q c
      ≡ applied_count G X.k w v c p q
  unfolding applied_count
  applied p q c = ways-are X.inner X.s p q c (λ b. G.automaton.δ p b q) (λ b. sym (R.inner p b q))

  -- ---- an inner root

  module _ (k : kind_at G.tree v ≡ 1) where
    abbrev l : ℕ
    l = left_child G.tree v

    abbrev r : ℕ
    r = v - 1

    abbrev T : ℕ
    T = depth_cell X.node_table v + 1

    hl : left_child G.tree v < v
    hl = left_in G.tree v hv k

    hr : v - 1 < v
    hr = right_in G.tree v hv k

    deep-left : depth_cell X.node_table v + 1 ≡ depth G.tree (left_child G.tree v)
    deep-left =
        let e = left-parent G.tree v hv k in
        let u = up G.tree (left_child G.tree v) (omega (arith, hl, hv)) in
        omega (arith, R.cells.depths v hv, u.deeper, ap (depth G.tree) e)

    deep-right : depth_cell X.node_table v + 1 ≡ depth G.tree (v - 1)
    deep-right =
        let e = right-parent G.tree v hv k in
        let u = up G.tree (right_child v) (omega (arith, hr, hv)) in
        omega (arith, R.cells.depths v hv, u.deeper, ap (depth G.tree) e)

    fork-ok : fork_ok X es T l r (place_on X es l) (place_on X es r) ≡ true
    unfolding fork_ok
    fork-ok =
        ap₂ (λ (a b : Bool). a && b) (sides.side-ok X G R w ms M es v rest cut l T hl deep-left r hr)
        (sides.side-ok X G R w ms M es v rest cut r T hr deep-right l hl)

    fork-links : fork_links X es T (place_on X es l) (place_on X es r) ≡ inner_links G.tree ms l r
    unfolding fork_links inner_links
    fork-links =
        ap₂ (λ (a b : ℕ). a + b) (sides.side-links X G R w ms M es v rest cut l T hl deep-left r hr)
        (sides.side-links X G R w ms M es v rest cut r T hr deep-right l hl)
        ∙ go (any_below ms G.tree l) (any_below ms G.tree r)
      where
        go : (a b : Bool)
            → cond a (cond b 0 (climbed_links G.tree ms (left_child G.tree v))) 0
            + cond b (cond a 0 (climbed_links G.tree ms (v - 1))) 0
            ≡ cond a (cond b 0 (climbed_links G.tree ms (left_child G.tree v)))
            (cond b (climbed_links G.tree ms (v - 1)) 0)
        go true true = refl
        go true false = omega arith
        go false true = omega arith
        go false false = refl

    module _ (cs : List ℕ) (ts : List Tally) (rows : RowsAre es cs ts) (c : ℕ) where
      -- the counts of the highest root below a child
      row_of : (x : ℕ) (P : Place es (place_on X es x) (highest_below ms G.tree x)) (q : ℕ) → q < X.s
          → capped (count_in cs P.at q) ≡ capped (count_for ts (highest_below ms G.tree x) q)
      row_of x P q h =
          let e = rows P.at P.inside q (omega arith) in
          let f = ap (λ (z : ℕ). capped (count_for ts z q)) P.node in
          omega (arith, e, f)

      -- a child that is a member is the highest below itself
      self : (x : ℕ) → Memᴰ x ms → any_below ms G.tree x ≡ true → highest_below ms G.tree x ≡ x
      self x m a =
          let H : Highest G.tree (λ y. Memᴰ y ms) x (highest_below ms G.tree x) =
          some_below G.tree x ms M.rising a in
          omega (arith, H.below, H.greatest x m (under-self G.tree x))

      own : any_below ms G.tree (left_child G.tree v) ≡ true → any_below ms G.tree (v - 1) ≡ true
          → Memᴰ (left_child G.tree v) ms × Memᴰ (v - 1) ms
      own p q =
          let L = some_below G.tree (left_child G.tree v) ms M.rising p in
          let N = some_below G.tree (v - 1) ms M.rising q in
          M.closed.has_children v _ _ (sides.v-member X G R w ms M es v rest cut) L.member N.member
          (record { inside = hv; inner = k; left = L.below; right = N.below })

      abbrev ways : ℕ → ℕ → ℕ
      ways p q = ways_to X.inner X.s X.k (first_label X w v) (end_label X w v) p q c

      abbrev fork : ℕ → ℕ → ℕ
      fork i j = capped (fork_count X es cs T l r i j (first_label X w v) (end_label X w v) c)

      abbrev step : ℕ → ℕ → ℕ
      step p q = applied_count G X.k w v c p q

      both-count : any_below ms G.tree l ≡ true → any_below ms G.tree r ≡ true
          → fork (place_on X es l) (place_on X es r)
          ≡ capped (sum_to X.s (λ p. count_for ts l p * sum_to X.s (λ q. count_for ts r q * step p q)))
      both-count p q =
          let P = sides.the-place X G R w ms M es v rest cut l T hl deep-left p in
          let Q = sides.the-place X G R w ms M es v rest cut r T hr deep-right q in
          let m = own p q in
          ap₂ fork P.is Q.is
          ∙ ap capped (fork-both X es cs T l r (first_label X w v) (end_label X w v) c P.at Q.at)
          ∙ capped-sum X.s _ _ (λ x hx. capped-product _ _ _ _
          (row_of l P x hx ∙ ap (λ (z : ℕ). capped (count_for ts z x)) (self l m.0 p))
          (capped-sum X.s _ _ (λ y hy. capped-product _ _ _ _
          (row_of r Q y hy ∙ ap (λ (z : ℕ). capped (count_for ts z y)) (self r m.1 q))
          (ap capped (applied x y c)))))

      left-count : any_below ms G.tree l ≡ true → any_below ms G.tree r ≡ false
          → fork (place_on X es l) (place_on X es r)
          ≡ capped (sum_to X.s (λ q. count_for ts (highest_below ms G.tree l) q
          * step (climbed_to G ms l q) (G.run_state r)))
      left-count p q =
          let P = sides.the-place X G R w ms M es v rest cut l T hl deep-left p in
          ap₂ fork P.is (sides.no_place X G R w ms M es v rest cut r T hr deep-right q)
          ∙ ap capped (fork-left X es cs T l r (first_label X w v) (end_label X w v) c P.at
          (sides.climbed-below X G R w ms M es v rest cut l T hl deep-left p)
          (sides.run_below X G R w ms M es v rest cut r T hr deep-right))
          ∙ capped-sum X.s _ _ (λ x hx. capped-product _ _ _ _ (row_of l P x hx)
          (ap capped (ap₂ ways (sides.climbed-at X G R w ms M es v rest cut l T hl deep-left p x hx)
          (sides.run_is X G R w ms M es v rest cut r T hr deep-right)
          ∙ applied (climbed_to G ms l x) (G.run_state r) c)))

      right-count : any_below ms G.tree l ≡ false → any_below ms G.tree r ≡ true
          → fork (place_on X es l) (place_on X es r)
          ≡ capped (sum_to X.s (λ q. count_for ts (highest_below ms G.tree r) q
          * step (G.run_state l) (climbed_to G ms r q)))
      right-count p q =
          let Q = sides.the-place X G R w ms M es v rest cut r T hr deep-right q in
          ap₂ fork (sides.no_place X G R w ms M es v rest cut l T hl deep-left p) Q.is
          ∙ ap capped (fork-right X es cs T l r (first_label X w v) (end_label X w v) c Q.at
          (sides.climbed-below X G R w ms M es v rest cut r T hr deep-right q)
          (sides.run_below X G R w ms M es v rest cut l T hl deep-left))
          ∙ capped-sum X.s _ _ (λ x hx. capped-product _ _ _ _ (row_of r Q x hx)
          (ap capped (ap₂ ways (sides.run_is X G R w ms M es v rest cut l T hl deep-left)
          (sides.climbed-at X G R w ms M es v rest cut r T hr deep-right q x hx)
          ∙ applied (G.run_state l) (climbed_to G ms r x) c)))

      none-count : any_below ms G.tree l ≡ false → any_below ms G.tree r ≡ false
          → fork (place_on X es l) (place_on X es r) ≡ capped (step (G.run_state l) (G.run_state r))
      none-count p q =
          ap₂ fork (sides.no_place X G R w ms M es v rest cut l T hl deep-left p)
          (sides.no_place X G R w ms M es v rest cut r T hr deep-right q)
          ∙ ap capped (fork-none X es cs T l r (first_label X w v) (end_label X w v) c
          (sides.run_below X G R w ms M es v rest cut l T hl deep-left)
          (sides.run_below X G R w ms M es v rest cut r T hr deep-right)
          ∙ ap₂ ways (sides.run_is X G R w ms M es v rest cut l T hl deep-left)
          (sides.run_is X G R w ms M es v rest cut r T hr deep-right)
          ∙ applied (G.run_state l) (G.run_state r) c)

      -- the four kinds of part, with n states
      abbrev kinds : ℕ → Bool → Bool → ℕ
      kinds n a b =
          cond a
          (cond b
          (sum_to n (λ p. count_for ts l p * sum_to n (λ q. count_for ts r q * step p q)))
          (sum_to n (λ q. count_for ts (highest_below ms G.tree l) q * step (climbed_to G ms l q) (G.run_state r))))
          (cond b
          (sum_to n (λ q. count_for ts (highest_below ms G.tree r) q * step (G.run_state l) (climbed_to G ms r q)))
          (step (G.run_state l) (G.run_state r)))

      fork-count : fork (place_on X es l) (place_on X es r) ≡ capped (inner_count G X.k w ms ts v l (right_child v) c)
      unfolding inner_count
      fork-count =
          go (any_below ms G.tree l) (any_below ms G.tree r) refl refl
          ∙ ap (λ (n : ℕ). capped (kinds n (any_below ms G.tree l) (any_below ms G.tree r))) (sym R.states)
        where
          go : (a b : Bool) → any_below ms G.tree (left_child G.tree v) ≡ a → any_below ms G.tree (v - 1) ≡ b
              → fork (place_on X es l) (place_on X es r) ≡ capped (kinds X.s a b)
          go true true p q = both-count p q
          go true false p q = left-count p q
          go false true p q = right-count p q
          go false false p q = none-count p q

  -- ---- any root

  left_is : (kind_at G.tree v ≡ 0 → ⊥) → left_on X v ≡ left_child G.tree v
  left_is n =
      ap (λ (z : ℕ). v - 1 - z) (R.cells.sizes (v - 1) (omega (arith, hv)))

  pub part-ok : part_ok_on X w es v ≡ true
  unfolding part_ok_on
  part-ok = ap₂ (λ (a b : Bool). a && b) label-ok (elim (ℕ_discrete (kind_at G.tree v) 0) [
    | yes z ↦ rw (kind-is, eq-eqb (kind_at G.tree v) 0 z)
    | no n ↦ (let i : Inner G.tree v = inner G.tree v hv n in
        let s : size_cell X.node_table (v - 1) ≡ size (sub G.tree (v - 1)) =
        R.cells.sizes (v - 1) (omega (arith, hv)) in
        rw (kind-is, ne_eqb (kind_at G.tree v) 0 n)
        (ap₂ (λ (a b : Bool). a && b)
        (ap₂ (λ (a b : Bool). a && b) (lt-ltb 0 v (omega (arith, i.at)))
        (le-leb (size_cell X.node_table (v - 1)) (v - 1) (omega (arith, i.at, s))))
        (ap (λ (z : ℕ). fork_ok X es (depth_cell X.node_table v + 1) z (v - 1) (place_on X es z) (place_on X es (v - 1)))
        (left_is n)
        ∙ fork-ok (kind-one G.tree v hv n))))
  ])

  pub part-links : part_links_on X es v ≡ part_links G.tree ms v
  unfolding part_links_on root_links part_links
  part-links = elim (ℕ_discrete (kind_at G.tree v) 0) [
    | yes z ↦ rw (kind-is, eq-eqb (kind_at G.tree v) 0 z)
    | no n ↦ rw (kind-is, ne_eqb (kind_at G.tree v) 0 n)
        (ap (λ (z : ℕ). fork_links X es (depth_cell X.node_table v + 1) (place_on X es z) (place_on X es (v - 1)))
        (left_is n)
        ∙ fork-links (kind-one G.tree v hv n))
  ]

  pub part-count : (cs : List ℕ) (ts : List Tally) → RowsAre es cs ts → (c : ℕ)
      → capped (part_count_on X w es cs v c) ≡ capped (part_count G X.k w ms ts v c)
  unfolding part_count_on root_count part_count
  part-count cs ts rows c = elim (ℕ_discrete (kind_at G.tree v) 0) [
    | yes z ↦ rw (kind-is, eq-eqb (kind_at G.tree v) 0 z) (ap capped (leaf_count c))
    | no n ↦ rw (kind-is, ne_eqb (kind_at G.tree v) 0 n)
        (ap (λ (z : ℕ). capped (fork_count X es cs (depth_cell X.node_table v + 1) z (v - 1) (place_on X es z)
        (place_on X es (v - 1)) (first_label X w v) (end_label X w v) c)) (left_is n)
        ∙ fork-count (kind-one G.tree v hv n) cs ts rows c)
  ]
