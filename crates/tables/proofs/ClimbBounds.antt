-- How far a climb goes, in any forest, and what state it carries.
--     count, count_most, count_less     how many nodes below n have a property; fewer have a stronger one
--     climb-few                         a climb has no more moves than the forest has nodes: it meets none twice
--     rule-state, move-state            what a rule or a move gives is a state
--     Bounded, climb-bounded            the climb of a part gives a state, by no more links than there are nodes, and passes over no
--                                       fewer nodes than it has links and no more than the table's depths allow
use Prim.Native.Nat.{ℕ, zero, suc, ◌+◌, ◌*◌, ◌≤◌, ◌<◌}
use mathlib.Core.Path.{◌≡◌, refl, sym, ap, ◌∙◌, subst}
use mathlib.Core.Bool.{Bool, true, false, cond}
use mathlib.Core.List.{List, [], ◌∷◌}
use mathlib.Core.Option.{Option, none, some, some-injective}
use native.Mathlib.Omega.{arith}
use native.Mathlib.Nat.{le_refl}
use native.Mathlib.Decide.{ℕ_discrete}
use lib.Dec.{ltb, eqb}
use lib.ListN.{length, get_or}
use borrow.Author.Tests.{ltb-true, lt-ltb, le-ltb}
use Rattle.trees.specs.Climb.{Forest, Move, via_jump, to_parent, target, and_then, climb, carry}
use Rattle.trees.specs.Passed.{passed_by}
use Rattle.list_laws.proofs.Choice.{by-test}
use Rattle.trees.proofs.MoveLaws.{none-some, next-inside, next-rises}
use Rattle.trees.proofs.ClimbLaws.{climb-cons}
use Rattle.trees.proofs.PassedLaws as passed-laws
use Rattle.trees.proofs.PassedLaws.{passed_most}
use Rattle.list_laws.proofs.BoolLaws.{true-false}
use Rattle.tables.specs.node_tables.Cells.{parent_cell, depth_cell, cell_forest}
use Rattle.tables.specs.Climbs.{View, below, run_on, rule_on, sibling_on}
use Rattle.tables.specs.declared.answers.Reached.{Reached}
use Rattle.tables.specs.Climbs.{parent_on, move_on, reached, climb_on}
use Rattle.tables.proofs.LookupLaws.{below-state}

-- ---- how many nodes have a property

abbrev count : (ℕ → Bool) → ℕ → ℕ
count P zero = 0
count P (suc n) = cond (P n) (suc (count P n)) (count P n)

count_most : (P : ℕ → Bool) (n : ℕ) → count P n ≤ n
count_most P zero = le_refl 0
count_most P (suc n) =
    by-test (λ (x : ℕ). x ≤ suc n) {x = suc (count P n)} {y = count P n} (P n)
    (λ _. omega (arith, count_most P n)) (λ _. omega (arith, count_most P n))

one_more : (p q : Bool) (a b : ℕ) → (p ≡ true → q ≡ true) → a ≤ b → cond p (suc a) a ≤ cond q (suc b) b
one_more true true a b s h = omega arith
one_more true false a b s h = absurd (true-false (sym (s refl)))
one_more false true a b s h = omega arith
one_more false false a b s h = h

module _ (P Q : ℕ → Bool) (s : (u : ℕ) → P u ≡ true → Q u ≡ true) where
  count-le : (n : ℕ) → count P n ≤ count Q n
  count-le zero = le_refl 0
  count-le (suc n) = one_more (P n) (Q n) (count P n) (count Q n) (s n) (count-le n)

  count_less : (v n : ℕ) → v < n → P v ≡ false → Q v ≡ true → count P n < count Q n
  count_less v zero h p q = absurd (omega arith)
  count_less v (suc n) h p q = elim (ℕ_discrete v n) [
    | yes e ↦ rw (ap P (sym e) ∙ p, ap Q (sym e) ∙ q) (omega (arith, count-le n))
    | no e ↦ last (P n) (Q n) (s n) (count_less v n (omega arith) p q)
  ]
    where
      last : (a b : Bool) → (a ≡ true → b ≡ true) → count P n < count Q n
          → cond a (suc (count P n)) (count P n) < cond b (suc (count Q n)) (count Q n)
      last true true i l = omega arith
      last true false i l = absurd (true-false (sym (i refl)))
      last false true i l = omega arith
      last false false i l = l

-- ---- the moves of a climb

module _ (F : Forest) where
  -- the nodes that are less deep than v
  abbrev above : ℕ → ℕ → Bool
  above v u = ltb (F.depth u) (F.depth v)

  moves-few : (w t : ℕ) (ms : List Move) → climb F w t ≡ some ms → length ms ≤ count (above w) F.nodes
  moves-few w t [] e = omega arith
  moves-few w t (m ∷ ms) e =
      let c = climb-cons F w t m ms e in
      let u : ℕ = target F m in
      let r : F.depth u < F.depth w = next-rises F w t m c.next in
      let fewer : count (above u) F.nodes < count (above w) F.nodes =
      count_less (above u) (above w)
      (λ x h. lt-ltb (F.depth x) (F.depth w) (omega (arith, ltb-true (F.depth x) (F.depth u) h)))
      u F.nodes (next-inside F w t m c.next) (le-ltb (F.depth u) (F.depth u) (le_refl _))
      (lt-ltb (F.depth u) (F.depth w) r) in
      omega (arith, moves-few u t ms c.more)

  pub climb-few : (w t : ℕ) (ms : List Move) → climb F w t ≡ some ms → length ms ≤ F.nodes
  climb-few w t ms e = omega (arith, moves-few w t ms e, count_most (above w) F.nodes)

-- ---- the state carried

module _ (X : View) where
  pub rule-state : (p a q y : ℕ) → rule_on X p a q ≡ some y → y < X.s
  unfolding rule_on
  rule-state p a q y e =
      by-test (λ (o : Option ℕ). o ≡ some y → y < X.s)
      {x = below X.s (get_or X.inner ((p * X.k + a) * X.s + q) 0)} {y = none} (ltb a X.k)
      (λ _ i.
      let b = below-state X.s (get_or X.inner ((p * X.k + a) * X.s + q) 0) y i in
      omega (arith, b.0, b.1))
      (λ _ i. absurd (none-some i))
      e

  -- what the sibling's run state x makes of q
  abbrev apply : ℕ → ℕ → ℕ → ℕ → Option ℕ
  apply v p q x = cond (eqb (v + 1) p) (rule_on X x (get_or X.labels p 0) q) (rule_on X q (get_or X.labels p 0) x)

  parent-state : (v p q y : ℕ) → parent_on X v p q ≡ some y → y < X.s
  unfolding parent_on
  parent-state v p q y e = beside (sibling_on X v p) e
    where
      with-run : (o : Option ℕ) → and_then o (apply v p q) ≡ some y → y < X.s
      with-run none i = absurd (none-some i)
      with-run (some x) i =
          by-test (λ (o : Option ℕ). o ≡ some y → y < X.s)
          {x = rule_on X x (get_or X.labels p 0) q} {y = rule_on X q (get_or X.labels p 0) x} (eqb (v + 1) p)
          (λ _ j. rule-state x (get_or X.labels p 0) q y j)
          (λ _ j. rule-state q (get_or X.labels p 0) x y j)
          i

      beside : (o : Option ℕ) → and_then o (λ u. and_then (run_on X u) (apply v p q)) ≡ some y → y < X.s
      beside none i = absurd (none-some i)
      beside (some u) i = with-run (run_on X u) i

  pub move-state : (m : Move) (q y : ℕ) → move_on X m q ≡ some y → y < X.s
  unfolding move_on
  move-state (via_jump v) q y e = let b = below-state X.s _ y e in omega (arith, b.0, b.1)
  move-state (to_parent v) q y e = parent-state v (parent_cell X.node_table v) q y e

  carry-state : (ms : List Move) (q y : ℕ) → q < X.s → carry (move_on X) ms q ≡ some y → y < X.s
  carry-state [] q y h e = omega (arith, some-injective q y e)
  carry-state (m ∷ ms) q y h e = go (move_on X m q) refl e (λ x. carry-state ms x y)
    where
      go : (o : Option ℕ) → move_on X m q ≡ o → and_then o (carry (move_on X) ms) ≡ some y
          → ((x : ℕ) → x < X.s → carry (move_on X) ms x ≡ some y → y < X.s) → y < X.s
      go none a i f = absurd (none-some i)
      go (some x) a i f = f x (move-state m q x a) i

  pub record Bounded (x : Reached) : Type 0 where
    pub state : x.state < X.s
    pub links : x.links ≤ X.n
    pub links_passed : x.links ≤ x.passed
    -- any bound m on the table's depths: 65,535 in 16-bit numbers
    pub passed : (m : ℕ) → ((v : ℕ) → depth_cell X.node_table v ≤ m) → x.passed ≤ m

  pub climb-bounded : (h t q : ℕ) (x : Reached) → q < X.s → climb_on X h t q ≡ some x → Bounded x
  unfolding climb_on
  climb-bounded h t q x l e = climbed (climb (cell_forest X.n X.node_table) h t) refl e
    where
      F : Forest
      F = cell_forest X.n X.node_table

      carried : (ms : List Move) → climb (cell_forest X.n X.node_table) h t ≡ some ms → (o : Option ℕ)
          → carry (move_on X) ms q ≡ o
          → and_then o (λ y. some (reached y (length ms) (passed_by (cell_forest X.n X.node_table) h ms))) ≡ some x
          → Bounded x
      carried ms c none a i = absurd (none-some i)
      carried ms c (some y) a i =
          subst Bounded (some-injective (reached y (length ms) (passed_by F h ms)) x i)
          (record {
            state = carry-state ms q y l a;
            links = climb-few F h t ms c;
            links_passed = passed-laws.links_passed F h t ms c;
            passed = λ m b. omega (arith, passed_most F h ms, b h);
          })

      climbed : (o : Option (List Move)) → climb (cell_forest X.n X.node_table) h t ≡ o
          → and_then o (λ ms.
          and_then (carry (move_on X) ms q) (λ y.
          some (reached y (length ms) (passed_by (cell_forest X.n X.node_table) h ms)))) ≡ some x → Bounded x
      climbed none c i = absurd (none-some i)
      climbed (some ms) c i = carried ms c (carry (move_on X) ms q) refl i
