-- The search finds the state of every plan, by a line of no more height than the plan's.
--     Done               the state over lines i, j with label a is found, by a line one higher at most than the higher of the two
--     leaves-done, labels-done, joined, all_done    what each loop of the search leaves
--     reached-kept       what holds of all that is found
--     reached-most       at most 256 lines
--     reaches            every plan's state is found, by a line of no more height
use Prim.Native.Nat.{ℕ, zero, suc, ◌+◌, ◌≤◌, ◌<◌, max}
use mathlib.Core.Path.{◌≡◌, refl, sym, ap₂, ◌∙◌, subst}
use native.Mathlib.Decide.{ℕ_discrete, dec_lt}
use native.Mathlib.Omega.{arith}
use lib.ListN.{length}
use borrow.Author.Tests.{lt-ltb, le-ltb}
use Rattle.trees.specs.Tree.{Tree, height}
use Rattle.trees.specs.Automaton.{Automaton, state}
use Rattle.products.specs.Plans.{PlanOf}
use Rattle.products.specs.agreement.Lines.{leaf_line, inner_line}
use Rattle.products.specs.agreement.Search.{Found, nothing, added, state_at, over_leaves, over_labels, both_orders}
use Rattle.products.specs.agreement.Search.{over_found, searched, reached}
use Rattle.products.proofs.agreement.ClosedRuns.{Stable, runs-in}
use Rattle.products.proofs.agreement.FoundLaws.{height_at, Has, Under, Grows, grows_self, grows-on, has_on, has-higher}
use Rattle.products.proofs.agreement.FoundLaws.{Kept, kept-none, most-lines, Tried, tried}

module _ (A : Automaton) (k : ℕ) (small-leaf : (a : ℕ) → A.ι a < 256) (small-step : (p a q : ℕ) → A.δ p a q < 256) where
  -- ---- leaves

  pub record Leaves (F G : Found) (a r : ℕ) : Type 0 where
    pub kept : Kept A k G
    pub grows : Grows F G
    pub under : Under G 0
    pub done : (b : ℕ) → a ≤ b → b < a + r → Has G (A.ι b) 0

  leaves-done : (r a : ℕ) (F : Found) → Kept A k F → Under F 0 → a + r ≤ k → Leaves F (over_leaves A.ι a r F) a r
  unfolding over_leaves height
  leaves-done zero a F K U h = record { kept = K; grows = grows_self F; under = U; done = λ b l m. absurd (omega arith) }
  leaves-done (suc r) a F K U h =
      let T : Tried A k F (added (leaf_line a) (A.ι a) F) (A.ι a) 0 =
      tried A k F K (leaf_line a) (A.ι a) 0 refl U (omega arith) (small-leaf a) refl in
      let L = leaves-done r (suc a) (added (leaf_line a) (A.ι a) F) T.kept T.under (omega arith) in
      record {
        kept = L.kept;
        grows = grows-on T.grows L.grows;
        under = L.under;
        done = λ b l m. elim (ℕ_discrete b a) [
          | yes q ↦ subst (λ (z : ℕ). Has (over_leaves A.ι (suc a) r (added (leaf_line a) (A.ι a) F)) (A.ι z) 0) (sym q)
              (has_on L.grows T.has)
          | no q ↦ L.done b (omega arith) (omega arith)
        ];
      }

  -- ---- inner nodes

  -- one more than the higher of lines i and j
  abbrev pub over : Found → ℕ → ℕ → ℕ
  over F i j = suc (max (height_at F i) (height_at F j))

  abbrev pub Done : Found → ℕ → ℕ → ℕ → Type 0
  Done F i j a = Has F (A.δ (state_at F i) a (state_at F j)) (over F i j)

  over-on : {F G : Found} → Grows F G → (i j : ℕ) → i < length F.lines → j < length F.lines → over G i j ≡ over F i j
  over-on g i j hi hj = ap₂ (λ (x y : ℕ). suc (max x y)) (g.heights i hi) (g.heights j hj)

  step-on : {F G : Found} → Grows F G → (i j a : ℕ) → i < length F.lines → j < length F.lines
      → A.δ (state_at G i) a (state_at G j) ≡ A.δ (state_at F i) a (state_at F j)
  step-on g i j a hi hj = ap₂ (λ (x y : ℕ). A.δ x a y) (g.stays i hi) (g.stays j hj)

  done_on : {F G : Found} → Grows F G → (i j a : ℕ) → i < length F.lines → j < length F.lines → Done F i j a
      → Done G i j a
  done_on {F} {G} g i j a hi hj d =
      subst (λ (c : ℕ). Has G c (over G i j)) (sym (step-on g i j a hi hj))
      (subst (Has G (A.δ (state_at F i) a (state_at F j))) (sym (over-on g i j hi hj)) (has_on g d))

  -- labels a up to a + r over lines i, j
  pub record Labels (F G : Found) (i j a r h : ℕ) : Type 0 where
    pub kept : Kept A k G
    pub grows : Grows F G
    pub under : Under G h
    pub done : (b : ℕ) → a ≤ b → b < a + r → Done G i j b

  labels-done : (r a : ℕ) (F : Found) → Kept A k F → (i j p q h : ℕ) → i < length F.lines → j < length F.lines
      → p ≡ state_at F i → q ≡ state_at F j → over F i j ≡ h → Under F h → a + r ≤ k
      → Labels F (over_labels A.δ i j p q a r F) i j a r h
  unfolding over_labels height
  labels-done zero a F K i j p q h hi hj e f t U m =
      record { kept = K; grows = grows_self F; under = U; done = λ b l m. absurd (omega arith) }
  labels-done (suc r) a F K i j p q h hi hj e f t U m =
      let c : ℕ = A.δ p a q in
      let T : Tried A k F (added (inner_line a i j) c F) c h =
      tried A k F K (inner_line a i j) c h t U (omega arith, (hi, hj)) (small-step p a q)
      (ap₂ (λ (x y : ℕ). A.δ x a y) (e ∙ K.right i hi) (f ∙ K.right j hj)) in
      let G : Found = added (inner_line a i j) c F in
      let L = labels-done r (suc a) G T.kept i j p q h (omega (arith, T.grows.longer)) (omega (arith, T.grows.longer))
      (e ∙ sym (T.grows.stays i hi)) (f ∙ sym (T.grows.stays j hj)) (over-on T.grows i j hi hj ∙ t) T.under
      (omega arith) in
      let H : Found = over_labels A.δ i j p q (suc a) r G in
      let Z : Grows F H = grows-on T.grows L.grows in
      record {
        kept = L.kept;
        grows = Z;
        under = L.under;
        done = λ b l n. elim (ℕ_discrete b a) [
          | yes z ↦ subst (Done H i j) (sym z)
              (subst (λ (d : ℕ). Has H d (over H i j)) (ap₂ (λ (x y : ℕ). A.δ x a y) (e ∙ sym (Z.stays i hi)) (f ∙ sym
              (Z.stays j hj)))
              (subst (Has H c) (sym (over-on Z i j hi hj ∙ t)) (has_on L.grows T.has)))
          | no z ↦ L.done b (omega arith) (omega arith)
        ];
      }

  -- lines j up to j + r, at either side of line n
  pub record Joined (F G : Found) (n j r : ℕ) : Type 0 where
    pub kept : Kept A k G
    pub grows : Grows F G
    pub under : Under G (suc (height_at F n))
    pub at_left : (i b : ℕ) → j ≤ i → i < j + r → b < k → Done G n i b
    pub at_right : (i b : ℕ) → j ≤ i → i < j + r → b < k → Done G i n b

  joined : (r j : ℕ) (F : Found) → Kept A k F → (n : ℕ) → n < length F.lines → Under F (suc (height_at F n)) → j + r ≤ suc n
      → Joined F (over_found A.δ k n j r F) n j r
  unfolding over_found both_orders
  joined zero j F K n hn U h = record {
    kept = K;
    grows = grows_self F;
    under = U;
    at_left = λ i b l m q. absurd (omega arith);
    at_right = λ i b l m q. absurd (omega arith);
  }
  joined (suc r) j F K n hn U h =
      let low : height_at F j ≤ height_at F n = K.rising j n (omega arith) hn in
      let G : Found = over_labels A.δ n j (state_at F n) (state_at F j) 0 k F in
      let L : Labels F G n j 0 k (suc (height_at F n)) =
      labels-done k 0 F K n j (state_at F n) (state_at F j) (suc (height_at F n)) hn (omega arith) refl refl (omega arith) U
      (omega arith) in
      let H : Found = over_labels A.δ j n (state_at F j) (state_at F n) 0 k G in
      let hj : j < length F.lines = omega arith in
      let R : Labels G H j n 0 k (suc (height_at F n)) =
      labels-done k 0 G L.kept j n (state_at F j) (state_at F n) (suc (height_at F n)) (omega (arith, L.grows.longer))
      (omega (arith, L.grows.longer)) (sym (L.grows.stays j hj)) (sym (L.grows.stays n hn))
      (omega (arith, L.grows.heights j hj, L.grows.heights n hn)) L.under (omega arith) in
      let M : Grows F H = grows-on L.grows R.grows in
      let e : height_at H n ≡ height_at F n = M.heights n hn in
      let J = joined r (suc j) H R.kept n (omega (arith, M.longer))
      (subst (λ (x : ℕ). Under H (suc x)) (sym e) R.under) (omega arith) in
      record {
        kept = J.kept;
        grows = grows-on M J.grows;
        under = subst (λ (x : ℕ). Under (over_found A.δ k n (suc j) r H) (suc x)) e J.under;
        at_left = λ i b l m q. elim (ℕ_discrete i j) [
          | yes e ↦ subst (λ (z : ℕ). Done (over_found A.δ k n (suc j) r H) n z b) (sym e)
              (done_on (grows-on R.grows J.grows) n j b (omega (arith, L.grows.longer)) (omega
              (arith, L.grows.longer))
              (L.done b (omega arith) (omega arith)))
          | no e ↦ J.at_left i b (omega arith) (omega arith) q
        ];
        at_right = λ i b l m q. elim (ℕ_discrete i j) [
          | yes e ↦ subst (λ (z : ℕ). Done (over_found A.δ k n (suc j) r H) z n b) (sym e)
              (done_on J.grows j n b (omega (arith, M.longer)) (omega (arith, M.longer))
              (R.done b (omega arith) (omega arith)))
          | no e ↦ J.at_right i b (omega arith) (omega arith) q
        ];
      }

  -- ---- all lines

  -- every two lines below n are done
  abbrev pub Below : Found → ℕ → Type 0
  Below F n = (i j a : ℕ) → i < n → j < n → a < k → Done F i j a

  pub record All (F G : Found) : Type 0 where
    pub kept : Kept A k G
    pub grows : Grows F G
    pub done : Below G (length G.lines)

  below_next : (F : Found) (n : ℕ) → Below F n → n ≤ length F.lines → (G : Found) → Joined F G n 0 (suc n)
      → Below G (suc n)
  below_next F n B h G J i j a hi hj ha = elim (ℕ_discrete i n) [
    | yes e ↦ subst (λ (z : ℕ). Done G z j a) (sym e) (J.at_left j a (omega arith) (omega arith) ha)
    | no e ↦ elim (ℕ_discrete j n) [
      | yes q ↦ subst (λ (z : ℕ). Done G i z a) (sym q) (J.at_right i a (omega arith) (omega arith) ha)
      | no q ↦ done_on J.grows i j a (omega arith) (omega arith) (B i j a (omega arith) (omega arith) ha)
    ]
  ]

  -- no line found is more than one higher than the next to be joined
  abbrev pub Near : Found → ℕ → Type 0
  Near F n = n < length F.lines → Under F (suc (height_at F n))

  near_next : (F G : Found) (n : ℕ) → n < length F.lines → Joined F G n 0 (suc n) → Near G (suc n)
  near_next F G n h J m i l =
      omega (arith, J.under i l, J.kept.rising n (suc n) (omega arith) m, J.grows.heights n h)

  all_done : (f n : ℕ) (F : Found) → Kept A k F → Below F n → Near F n → n ≤ length F.lines → 256 ≤ f + n
      → All F (searched A.δ k f n F)
  unfolding searched
  all_done zero n F K B N h l = record {
    kept = K;
    grows = grows_self F;
    done = let e : n ≡ length F.lines = omega (arith, most-lines A k F K) in subst (Below F) e B;
  }
  all_done (suc f) n F K B N h l = elim (dec_lt n (length F.lines)) [
    | yes m ↦ (let G : Found = over_found A.δ k n 0 (suc n) F in
        let J : Joined F G n 0 (suc n) = joined (suc n) 0 F K n m (N m) (omega arith) in
        let R = all_done f (suc n) G J.kept (below_next F n B h G J) (near_next F G n m J) (omega
        (arith, J.grows.longer)) (omega arith) in
        rw (lt-ltb n (length F.lines) m) (record {
          kept = R.kept;
          grows = grows-on J.grows
              R.grows;
          done = R.done;
        }))
    | no m ↦ (let e : n ≡ length F.lines = omega arith in
        rw (le-ltb n (length F.lines) (omega arith)) (record {
          kept = K;
          grows = grows_self F;
          done = subst
              (Below F) e B;
        }))
  ]

  -- ---- all that is found

  reached-all : All nothing (reached A k) × ((a : ℕ) → a < k → Has (reached A k) (A.ι a) 0)
  unfolding reached
  reached-all =
      let L : Leaves nothing (over_leaves A.ι 0 k nothing) 0 k =
      leaves-done k 0 nothing (kept-none A k) (λ i h. absurd (omega arith)) (omega arith) in
      let R = all_done 256 0 (over_leaves A.ι 0 k nothing) L.kept (λ i j a hi hj ha. absurd (omega arith))
      (λ h i l. omega (arith, L.under i l)) (omega arith) (omega arith) in (
        record { kept = R.kept; grows = grows-on L.grows R.grows; done = R.done },
        λ a h. has_on R.grows (L.done a (omega arith) (omega arith)),
      )

  pub reached-kept : Kept A k (reached A k)
  reached-kept = reached-all.0.kept

  pub reached-most : length (reached A k).lines ≤ 256
  reached-most = most-lines A k (reached A k) reached-kept

  reached-stable : Stable A k (Has (reached A k))
  reached-stable = record {
    has-leaves = reached-all.1;
    has-steps = λ p g a q h P ha Q.
        subst (λ (c : ℕ). Has (reached A k) c (suc (max g h))) (ap₂ (λ (x y : ℕ). A.δ x a y) P.is Q.is)
        (has-higher (omega (arith, P.low, Q.low)) (reached-all.0.done P.line Q.line a P.inside Q.inside ha));
  }

  pub reaches : (t : Tree) → PlanOf k t → Has (reached A k) (state A t) (height t)
  reaches t e = runs-in A k (Has (reached A k)) reached-stable t e
