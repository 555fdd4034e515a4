-- Where a part gives nothing: a value leads outside the plan, the states or the labels, or a climb does not rise.
--     rule-none, move-none, climb-none   a rule, a move, a climb
--     found_inside                       a root that is found is a node, with a state
--     side-none, join-none               at a child, and by the rule
--     part-out-of-range                        a part
use Rattle.std.proofs.Common.{◌≡◌, ℕ, ◌+◌, ◌-◌, ◌*◌, ◌<◌, ◌≤◌, Bool, true, false, cond, ◌&&◌, eqb, ltb, leb, ◌⊎◌, List, [], ◌∷◌, length, get_or, sym, refl, ◌∙◌, subst, inl, inr, arith, ltb-false, ltb-true, eqb-true, leb-false, leb-true}
use mathlib.Core.Option.{Option, none, some, some-injective}
use borrow.Author.Tests.{eqb-false}
use Rattle.trees.specs.Numbering.{is_in_subtree}
use Rattle.trees.specs.Climb.{Forest, Move, via_jump, to_parent, target, and_then, climb, carry}
use Rattle.trees.specs.Passed.{passed_by}
use Rattle.trees.proofs.MoveLaws.{none-some, next-inside, next-starts}
use Rattle.trees.proofs.LinkRangeLaws.{Failed, carried_none}
use Rattle.list_laws.specs.Tests.{all_below}
use Rattle.list_laws.proofs.BoolLaws.{and_left, and_right}
use Rattle.tables.specs.node_tables.Cells.{parent_cell, depth_cell, size_cell, cell_forest, is_in_subtree_on}
use Rattle.tables.specs.node_tables.OutOfRange.{Childless, link, childless}
use Rattle.tables.specs.StateCells.{state_cell}
use Rattle.tables.specs.declared.answers.Reached.{Reached}
use Rattle.tables.specs.Climbs.{View, below, run_on, rule_on, sibling_on, parent_on, move_on, reached, climb_on}
use Rattle.tables.proofs.LookupLaws.{below-state, below_none}
use Rattle.tables.proofs.ClimbBounds.{move-state}
use Rattle.questions.specs.Part.{Found, found, last_found, found_below, label_on, climb_from, run_reached, own_reached}
use Rattle.questions.specs.Part.{join_on, leaf_on, fork_on, part_on}
use Rattle.questions.specs.inner.Scans.{side_on}
use Rattle.questions.specs.OutOfRange.{PartOutOfRange, links, children, run, map, leaf, rule, handled, label, changed}
use Rattle.questions.proofs.PartBounds.{inner-sides, side-bounded}
use Rattle.questions.proofs.RootsRange.{fork-test}

-- a last step that always gives something takes nothing away
last_some : {X Y Z : Type 0} (o : Option X) (f : X → Option Y) (g : X → Y → Z)
    → and_then o (λ x. and_then (f x) (λ y. some (g x y))) ≡ none → and_then o f ≡ none
last_some none f g e = refl
last_some {Y = Y} (some x) f g e = go (f x) e
  where
    go : (o : Option Y) → and_then o (λ y. some (g x y)) ≡ none → o ≡ none
    go none i = refl
    go (some y) i = absurd (none-some (sym i))

module _ (X : View) (qs vs bs : List ℕ) where
  abbrev Lost : Type 0
  Lost = PartOutOfRange X qs vs bs

  abbrev F : Forest
  F = cell_forest X.n X.node_table

  -- ---- a rule

  rule-none : (p a q : ℕ) → p < X.s → q < X.s → rule_on X p a q ≡ none → (X.k ≤ a) ⊎ Lost
  unfolding rule_on
  rule-none p a q hp hq = go (ltb a X.k) refl
    where
      go : (b : Bool) → ltb a X.k ≡ b → cond b (below X.s (get_or X.inner ((p * X.k + a) * X.s + q) 0)) none ≡ none
          → (X.k ≤ a) ⊎ Lost
      go true t e = inr (rule p a q hp (ltb-true a X.k t) hq (below_none X.s _ e))
      go false t e = inl (ltb-false a X.k t)

  run_none : (v : ℕ) → v < X.n → run_on X v ≡ none → Lost
  unfolding run_on
  run_none v h e = run v h (below_none X.s (state_cell X.s X.state_table v) e)

  run-state : (v x : ℕ) → run_on X v ≡ some x → x < X.s
  unfolding run_on
  run-state v x e = let b = below-state X.s (state_cell X.s X.state_table v) x e in omega (arith, b.0, b.1)

  -- ---- a move to the parent

  module _ (v : ℕ) (inside : v < X.n) (deeper : 0 < depth_cell X.node_table v)
      (above : parent_cell X.node_table v < X.n) where
    abbrev p : ℕ
    p = parent_cell X.node_table v

    sibling-none : sibling_on X v p ≡ none → Lost
    unfolding sibling_on
    sibling-none = go (eqb (v + 1) p) (leb (size_cell X.node_table v) v) (ltb 0 p) refl refl refl
      where
        bare : Childless X.node_table p → Lost
        bare c = links (childless v p inside deeper (inl refl) c)

        go : (a b c : Bool) → eqb (v + 1) p ≡ a → leb (size_cell X.node_table v) v ≡ b → ltb 0 p ≡ c
            → cond a (cond b (some (v - size_cell X.node_table v)) none) (cond c (some (p - 1)) none) ≡ none → Lost
        go true true c f g h e = absurd (none-some (sym e))
        go true false c f g h e =
            let z : v ≡ p - 1 = omega (arith, eqb-true (v + 1) p f) in
            bare (inr (subst (λ (i : ℕ). i < size_cell X.node_table i) z (leb-false (size_cell X.node_table v) v g)))
        go false b true f g h e = absurd (none-some (sym e))
        go false b false f g h e = bare (inl (let z = ltb-false 0 p h in omega arith))

    sibling-inside : (u : ℕ) → sibling_on X v p ≡ some u → u < X.n
    unfolding sibling_on
    sibling-inside u = go (eqb (v + 1) p) (leb (size_cell X.node_table v) v) (ltb 0 p) refl
      where
        go : (a b c : Bool) → ltb 0 p ≡ c
            → cond a (cond b (some (v - size_cell X.node_table v)) none) (cond c (some (p - 1)) none) ≡ some u → u < X.n
        go true true c h e = omega (arith, inside, some-injective (v - size_cell X.node_table v) u e)
        go true false c h e = absurd (none-some e)
        go false b true h e = omega (arith, above, some-injective (p - 1) u e)
        go false b false h e = absurd (none-some e)

    by-label : (X.k ≤ get_or X.labels p 0) ⊎ Lost → Lost
    by-label (inl h) = label p above h
    by-label (inr l) = l

    parent-none : (q : ℕ) → q < X.s → parent_on X v p q ≡ none → Lost
    unfolding parent_on
    parent-none q hq = beside (sibling_on X v p) refl
      where
        ruled : (x : ℕ) → x < X.s → (b : Bool)
            → cond b (rule_on X x (get_or X.labels p 0) q) (rule_on X q (get_or X.labels p 0) x) ≡ none → Lost
        ruled x hx true e = by-label (rule-none x (get_or X.labels p 0) q hx hq e)
        ruled x hx false e = by-label (rule-none q (get_or X.labels p 0) x hq hx e)

        with-run : (u : ℕ) → u < X.n → (o : Option ℕ) → run_on X u ≡ o
            → and_then o (λ x.
            cond (eqb (v + 1) p) (rule_on X x (get_or X.labels p 0) q) (rule_on X q (get_or X.labels p 0) x)) ≡ none → Lost
        with-run u hu none r e = run_none u hu r
        with-run u hu (some x) r e = ruled x (run-state u x r) (eqb (v + 1) p) e

        beside : (o : Option ℕ) → sibling_on X v p ≡ o
            → and_then o (λ u. and_then (run_on X u) (λ x.
            cond (eqb (v + 1) p) (rule_on X x (get_or X.labels p 0) q) (rule_on X q (get_or X.labels p 0) x))) ≡ none → Lost
        beside none s e = sibling-none s
        beside (some u) s e = with-run u (sibling-inside u s) (run_on X u) refl e

  -- ---- a climb

  abbrev keeps : (m : Move) (x y : ℕ) → x < X.s → move_on X m x ≡ some y → y < X.s
  keeps m x y h e = move-state X m x y e

  move-none : (t : ℕ) → Failed F (move_on X) (λ q. q < X.s) keeps t → Lost
  unfolding move_on
  move-none t f = go f.move (next-starts F f.node t f.move f.next) (next-inside F f.node t f.move f.next) f.nothing
    where
      go : (m : Move) → (m ≡ via_jump f.node) ⊎ (m ≡ to_parent f.node) → target F m < X.n
          → move_on X m f.value ≡ none → Lost
      go m (inl e) h i =
          map f.node f.value f.inside f.good
          (below_none X.s _ (subst (λ (x : Move). move_on X x f.value ≡ none) e i))
      go m (inr e) h i =
          parent-none f.node f.inside (omega (arith, f.deeper)) (subst (λ (x : Move). target F x < X.n) e h) f.value f.good
          (subst (λ (x : Move). move_on X x f.value ≡ none) e i)

  pub climb-none : (h t q : ℕ) → h < X.n → q < X.s → climb_on X h t q ≡ none → Lost
  unfolding climb_on
  climb-none h t q hh hq e =
      elim (carried_none F (move_on X) (λ x. x < X.s) keeps t h q hh hq
      (last_some (climb F h t) (λ ms. carry (move_on X) ms q) (λ ms x. reached x (length ms) (passed_by F h ms)) e)) [
        | inl s ↦ links (link s)
        | inr f ↦ move-none t f
      ]

  -- ---- the roots before

  -- a root that is found at or below c
  record Inside (c : ℕ) (f : Found) : Type 0 where
    node : f.node ≤ c
    state : f.state < X.s

  found_inside : (c : ℕ) (es rs : List ℕ) (o : Option Found) → all_below X.s rs ≡ true
      → ((f : Found) → o ≡ some f → Inside c f) → (f : Found) → last_found X.node_table c es rs o ≡ some f → Inside c f
  unfolding last_found all_below is_in_subtree
  found_inside c [] rs o b i f e = i f e
  found_inside c (e ∷ es) [] o b i f q = i f q
  found_inside c (e ∷ es) (r ∷ rs) o b i f q =
      found_inside c es rs (cond (is_in_subtree_on X.node_table c e) (some (found e r)) o) (and_right (ltb r X.s) (all_below X.s rs) b)
      (λ g. go (is_in_subtree_on X.node_table c e) refl g) f q
    where
      go : (t : Bool) → is_in_subtree_on X.node_table c e ≡ t → (g : Found) → cond t (some (found e r)) o ≡ some g → Inside c g
      go true t g j =
          subst (Inside c) (some-injective (found e r) g j)
          (record {
            node = leb-true e c (and_left (leb e c) (ltb c (e + size_cell X.node_table c)) t);
            state = ltb-true r X.s (and_left (ltb r X.s) (all_below X.s rs) b);
          })
      go false t g j = i g j

  -- ---- at a child

  module _ (es : List ℕ) (good : all_below X.s qs ≡ true) where
    first-inside : (c : ℕ) (f : Found) → found_below X.node_table c es qs ≡ some f → Inside c f
    first-inside c f e = found_inside c es qs none good (λ g i. absurd (none-some i)) f e

    still-none : (q : ℕ) → q < X.s → and_then (below X.s q) (λ x. some (reached x 0 0)) ≡ none → Lost
    still-none q h e = go (below X.s q) refl e
      where
        go : (o : Option ℕ) → below X.s q ≡ o → and_then o (λ x. some (reached x 0 0)) ≡ none → Lost
        go none b i = absurd (omega (arith, h, below_none X.s q b))
        go (some x) b i = absurd (none-some (sym i))

    reached-none : (c : ℕ) → c < X.n → run_reached X c ≡ none → Lost
    unfolding run_reached
    reached-none c h e = go (run_on X c) refl e
      where
        go : (o : Option ℕ) → run_on X c ≡ o → and_then o (λ x. some (reached x 0 0)) ≡ none → Lost
        go none r i = run_none c h r
        go (some x) r i = absurd (none-some (sym i))

    from-none : (t c : ℕ) (f : Found) → c < X.n → Inside c f → climb_from X t f ≡ none → Lost
    unfolding climb_from
    from-none t c f h I e = go (below X.s f.state) refl e
      where
        go : (o : Option ℕ) → below X.s f.state ≡ o → and_then o (λ q. climb_on X f.node t q) ≡ none → Lost
        go none b i = absurd (omega (arith, I.state, below_none X.s f.state b))
        go (some q) b i =
            let s = below-state X.s f.state q b in
            climb-none f.node t q (omega (arith, I.node)) (omega (arith, s.0, s.1)) i

    side-none : (t c : ℕ) (f g : Option Found) → c < X.n → ((x : Found) → f ≡ some x → Inside c x) → side_on X t c f g ≡ none → Lost
    unfolding side_on own_reached
    side-none t c none g h I e = reached-none c h e
    side-none t c (some f) none h I e = from-none t c f h (I f refl) e
    side-none t c (some f) (some g) h I e = still-none f.state (I f refl).state e

    -- ---- an inner node

    join-none : (a : ℕ) (x y : Option Reached) → (x ≡ none → Lost) → (y ≡ none → Lost) → (X.k ≤ a → Lost)
        → ((l : Reached) → x ≡ some l → l.state < X.s) → ((r : Reached) → y ≡ some r → r.state < X.s)
        → join_on X a x y ≡ none → Lost
    unfolding join_on
    join-none a none y f g w i j e = f refl
    join-none a (some l) none f g w i j e = g refl
    join-none a (some l) (some r) f g w i j e = go (rule_on X l.state a r.state) refl e
      where
        by-rule : (X.k ≤ a) ⊎ Lost → Lost
        by-rule (inl h) = w h
        by-rule (inr h) = h

        go : (o : Option ℕ) → rule_on X l.state a r.state ≡ o
            → and_then o (λ q. some (reached q (l.links + r.links) (l.passed + r.passed))) ≡ none → Lost
        go none b h = by-rule (rule-none l.state a r.state (i l refl) (j r refl) b)
        go (some q) b h = absurd (none-some (sym h))

    fork-none : (v l : ℕ) → v < X.n → l < X.n → 0 < v → fork_on X es qs v l (label_on X vs bs v) ≡ none → Lost
    unfolding fork_on
    fork-none v l hv hl z e =
        let t = depth_cell X.node_table v + 1 in
        let f = found_below X.node_table l es qs in
        let g = found_below X.node_table (v - 1) es qs in
        join-none (label_on X vs bs v) (side_on X t l f g) (side_on X t (v - 1) g f)
        (side-none t l f g hl (first-inside l))
        (side-none t (v - 1) g f (omega arith) (first-inside (v - 1)))
        (changed v hv)
        (λ x i. (side-bounded X t l f g x i).state)
        (λ x i. (side-bounded X t (v - 1) g f x i).state)
        (sym (inner-sides X t l (v - 1) (label_on X vs bs v) f g) ∙ e)

  -- ---- a part

  leaf-none : (v : ℕ) → v < X.n → leaf_on X (label_on X vs bs v) ≡ none → Lost
  unfolding leaf_on
  leaf-none v h = go (ltb (label_on X vs bs v) X.k) refl
    where
      a : ℕ
      a = label_on X vs bs v

      read : (o : Option ℕ) → below X.s (get_or X.leaves a 0) ≡ o → a < X.k → and_then o (λ q. some (reached q 0 0)) ≡ none → Lost
      read none b l i = leaf a l (below_none X.s _ b)
      read (some q) b l i = absurd (none-some (sym i))

      go : (t : Bool) → ltb a X.k ≡ t
          → cond t (and_then (below X.s (get_or X.leaves a 0)) (λ q. some (reached q 0 0))) none ≡ none → Lost
      go true t e = read (below X.s (get_or X.leaves a 0)) refl (ltb-true a X.k t) e
      go false t e = changed v h (ltb-false a X.k t)

  pub part-out-of-range : (es : List ℕ) (v : ℕ) → v < X.n → part_on X es qs vs bs v ≡ none → Lost
  unfolding part_on
  part-out-of-range es v h = by_kind (eqb (get_or X.kinds v 0) 0) refl (ltb 0 v && leb (size_cell X.node_table (v - 1)) (v - 1)) refl
    where
      l : ℕ
      l = v - 1 - size_cell X.node_table (v - 1)

      with-states : (b : Bool) → all_below X.s qs ≡ b → 0 < v → fork_on X es qs v l (label_on X vs bs v) ≡ none → Lost
      with-states true q z e = fork-none es q v l h (omega arith) z e
      with-states false q z e = handled q

      by_kind : (b : Bool) → eqb (get_or X.kinds v 0) 0 ≡ b → (c : Bool)
          → (ltb 0 v && leb (size_cell X.node_table (v - 1)) (v - 1)) ≡ c
          → cond b (leaf_on X (label_on X vs bs v)) (cond c (fork_on X es qs v l (label_on X vs bs v)) none) ≡ none → Lost
      by_kind true q c t e = leaf-none v h e
      by_kind false q true t e =
          with-states (all_below X.s qs) refl (ltb-true 0 v (and_left (ltb 0 v) (leb (size_cell X.node_table (v - 1)) (v - 1)) t)) e
      by_kind false q false t e = children v h (eqb-false (get_or X.kinds v 0) 0 q) (fork-test X.node_table v t)
