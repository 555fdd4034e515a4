-- Where a rule question by colours gives nothing, for any inputs.
--     tried-state     a target state that is found is one of those tried
--     part_none       a part: a value leads outside the plan, the states or the labels, or no target state is found
--     handled-none    all parts
use Prim.Native.Nat.{ℕ, zero, suc, ◌+◌, ◌-◌, ◌*◌, ◌^◌, ◌≤◌, ◌<◌}
use mathlib.Core.Path.{◌≡◌, refl, sym, ap, subst}
use mathlib.Core.Bool.{Bool, true, false, cond, ◌&&◌}
use mathlib.Core.List.{List, [], ◌∷◌, ◌++◌}
use mathlib.Core.Logic.{◌⊎◌, inl, inr}
use mathlib.Core.Option.{Option, none, some, some-injective}
use native.Mathlib.Omega.{arith}
use lib.Dec.{leb, ltb, eqb}
use lib.ListN.{length, get_or, drop, length-take}
use borrow.Author.Tests.{ltb-true, ltb-false, leb-true, eqb-false}
use Rattle.list_laws.specs.Tests.{all_below}
use Rattle.list_laws.proofs.BoolLaws.{and_left, and_right}
use Rattle.trees.specs.Numbering.{is_in_subtree}
use Rattle.trees.specs.Climb.{and_then}
use Rattle.trees.proofs.MoveLaws.{none-some}
use Rattle.tables.specs.node_tables.Cells.{size_cell, is_in_subtree_on}
use Rattle.tables.specs.StateCells.{state_cell}
use Rattle.tables.specs.Climbs.{View, below, run_on, rule_on}
use Rattle.tables.specs.inner.PathViews.{rules_view, states_view}
use Rattle.tables.proofs.LookupLaws.{below-state, below_none}
use Rattle.questions.specs.Part.{Found, found, last_found, found_below, label_on}
use Rattle.questions.specs.OutOfRange.{children, run, leaf, rule, changed}
use Rattle.questions.proofs.RootsRange.{fork-test}
use Rattle.questions.proofs.PartListLaws.{below_more}
use Rattle.colours.specs.Descents.{ColourTable, Descent, descend}
use Rattle.colours.specs.StateSets.{member, Tried, tried, target_colour, set_at, after_trial, try_one, try_from}
use Rattle.colour_questions.specs.parts.Part.{ColourView, sides_in, untried, colour_from, side_tried, join_tried, fork_tried}
use Rattle.colour_questions.specs.parts.Part.{leaf_tried, part_tried, handled_from}
use Rattle.colour_questions.specs.rule.OutOfRange.{RuleColoursOutOfRange, part, colour, target, unheld}
use Rattle.colour_questions.proofs.rule.StateLaws.{untried-state, part-state}
use Rattle.colour_questions.proofs.rule.TriesRange.{TriesFail, stops, uncoloured, unheld_by, tries-none}

-- ---- the target states tried

module _ (T : ColourTable) (rows : ℕ → List ℕ) (c w q : ℕ) where
  one_state : (x n : ℕ) (later : Option Tried) (r : Tried) → x < n → ((y : Tried) → later ≡ some y → y.state < n)
      → try_one T rows c w q x later ≡ some r → r.state < n
  unfolding try_one
  one_state x n later r h ih e = go (ltb (target_colour rows c x) (length (rows c))) e
    where
      after : (ls : List ℕ) (o : Option Tried) → later ≡ o → after_trial ls o ≡ some r → r.state < n
      after ls none z i = absurd (none-some i)
      after ls (some y) z i =
          let s : y.state ≡ r.state = ap (λ (a : Tried). a.state) (some-injective (tried y.state (ls ++ y.searches)) r i) in
          omega (arith, ih y z)

      by : (d : Descent) (b : Bool) → cond b (some (tried x d.searches)) (after_trial d.searches later) ≡ some r
          → r.state < n
      by d true i =
          let s : x ≡ r.state = ap (λ (a : Tried). a.state) (some-injective (tried x d.searches) r i) in
          omega arith
      by d false i = after d.searches later refl i

      ends : (o : Option Descent)
          → and_then o (λ d. cond (member (set_at rows w d) q) (some (tried x d.searches)) (after_trial d.searches
          later)) ≡ some r
          → r.state < n
      ends none i = absurd (none-some i)
      ends (some d) i = by d (member (set_at rows w d) q) i

      go : (b : Bool)
          → cond b (and_then (descend T (target_colour rows c x) (some c) w (target_colour rows c x)) (λ d.
          cond (member (set_at rows w d) q) (some (tried x d.searches)) (after_trial d.searches later))) none
          ≡ some r
          → r.state < n
      go true i = ends (descend T (target_colour rows c x) (some c) w (target_colour rows c x)) i
      go false i = absurd (none-some i)

  pub tried-state : (f x : ℕ) (r : Tried) → try_from T rows c w q f x ≡ some r → r.state < x + f
  unfolding try_from
  tried-state zero x r e = absurd (none-some e)
  tried-state (suc f) x r e =
      one_state x (x + suc f) (try_from T rows c w q f (suc x)) r (omega arith)
      (λ y z. omega (arith, tried-state f (suc x) y z)) e

module _ (L : ColourView) (vs bs : List ℕ) where
  abbrev X : View
  X = L.view

  abbrev Lost : Type 0
  Lost = RuleColoursOutOfRange L vs bs

  -- ---- the roots before

  record Inside (c : ℕ) (f : Found) : Type 0 where
    node : f.node ≤ c
    state : f.state < X.s

  found_inside : (c : ℕ) (es rs : List ℕ) (o : Option Found) → all_below X.s rs ≡ true
      → ((f : Found) → o ≡ some f → Inside c f) → (f : Found) → last_found X.node_table c es rs o ≡ some f → Inside c f
  unfolding last_found all_below is_in_subtree
  found_inside c [] rs o b i f e = i f e
  found_inside c (e ∷ es) [] o b i f q = i f q
  found_inside c (e ∷ es) (r ∷ rs) o b i f q =
      found_inside c es rs (cond (is_in_subtree_on X.node_table c e) (some (found e r)) o) (and_right (ltb r X.s)
      (all_below X.s rs) b)
      (λ g. go (is_in_subtree_on X.node_table c e) refl g) f q
    where
      go : (t : Bool) → is_in_subtree_on X.node_table c e ≡ t → (g : Found) → cond t (some (found e r)) o ≡ some g
          → Inside c g
      go true t g j =
          subst (Inside c) (some-injective (found e r) g j)
          (record {
            node = leb-true e c (and_left (leb e c) (ltb c (e + size_cell X.node_table c)) t);
            state = ltb-true r X.s (and_left (ltb r X.s) (all_below X.s rs) b);
          })
      go false t g j = i g j

  -- ---- at a child

  still-none : (o : Option ℕ) → untried o ≡ none → o ≡ none
  still-none none e = refl
  still-none (some q) e = absurd (none-some (sym e))

  run_none : (c : ℕ) → c < X.n → run_on (states_view X.s X.state_table) c ≡ none → Lost
  unfolding run_on
  run_none c h e = part (run c h (below_none X.s (state_cell X.s X.state_table c) e))

  trials-none : (c w q : ℕ) → c < X.n → w < X.n → q < X.s
      → try_from (sides_in L).table (sides_in L).copies c w q X.s 0 ≡ none → Lost
  trials-none c w q hc hw hq e =
      let rows : ℕ → List ℕ = (sides_in L).copies in
      let few : length (rows c) ≤ 2 ^ X.s = omega (arith, length-take (2 ^ X.s) (drop (c * 2 ^ X.s) L.copies)) in
      by (tries-none X.n (2 ^ X.s) (sides_in L).table rows c w q (λ a. refl) hw few X.s 0 e)
    where
      by : TriesFail X.n (2 ^ X.s) (sides_in L).table (sides_in L).copies c w q 0 X.s → Lost
      by (stops z) = colour z
      by (uncoloured y a b l) = target c y hc (omega arith) l
      by (unheld_by g) = unheld c w q hc hw hq (λ x h. g x (omega arith) (omega arith))

  side-none : (c : ℕ) (f g : Option Found) → c < X.n → ((x : Found) → f ≡ some x → Inside c x)
      → side_tried (sides_in L) c f g ≡ none → Lost
  unfolding side_tried colour_from
  side-none c none g h I e = run_none c h (still-none (run_on (states_view X.s X.state_table) c) e)
  side-none c (some f) none h I e = go (below X.s f.state) refl e
    where
      go : (o : Option ℕ) → below X.s f.state ≡ o
          → and_then o (λ q. try_from (sides_in L).table (sides_in L).copies c f.node q X.s 0) ≡ none → Lost
      go none b i = absurd (omega (arith, (I f refl).state, below_none X.s f.state b))
      go (some q) b i =
          let s = below-state X.s f.state q b in
          trials-none c f.node q h (omega (arith, (I f refl).node)) (omega (arith, s.0, s.1)) i
  side-none c (some f) (some g) h I e =
      absurd (omega (arith, (I f refl).state, below_none X.s f.state (still-none (below X.s f.state) e)))

  side-state : (c : ℕ) (f g : Option Found) (x : Tried) → side_tried (sides_in L) c f g ≡ some x → x.state < X.s
  unfolding side_tried colour_from run_on
  side-state c none g x e = untried-state X.s _ x e
  side-state c (some f) none x e = go (below X.s f.state) e
    where
      go : (o : Option ℕ) → and_then o (λ q. try_from (sides_in L).table (sides_in L).copies c f.node q X.s 0)
          ≡ some x
          → x.state < X.s
      go none i = absurd (none-some i)
      go (some q) i = omega (arith, tried-state (sides_in L).table (sides_in L).copies c f.node q X.s 0 x i)
  side-state c (some f) (some g) x e = untried-state X.s f.state x e

  -- ---- an inner node

  rule-none : (m a n : ℕ) → m < X.s → n < X.s → rule_on (rules_view X.s X.k X.inner) m a n ≡ none
      → (X.k ≤ a) ⊎ Lost
  unfolding rule_on
  rule-none m a n hm hn = go (ltb a X.k) refl
    where
      go : (b : Bool) → ltb a X.k ≡ b → cond b (below X.s (get_or X.inner ((m * X.k + a) * X.s + n) 0)) none
          ≡ none
          → (X.k ≤ a) ⊎ Lost
      go true t e = inr (part (rule m a n hm (ltb-true a X.k t) hn (below_none X.s _ e)))
      go false t e = inl (ltb-false a X.k t)

  join-none : (a : ℕ) (x y : Option Tried) → (x ≡ none → Lost) → (y ≡ none → Lost) → (X.k ≤ a → Lost)
      → ((l : Tried) → x ≡ some l → l.state < X.s) → ((r : Tried) → y ≡ some r → r.state < X.s)
      → join_tried (rules_view X.s X.k X.inner) a x y ≡ none → Lost
  unfolding join_tried
  join-none a none y f g w i j e = f refl
  join-none a (some l) none f g w i j e = g refl
  join-none a (some l) (some r) f g w i j e = go (rule_on (rules_view X.s X.k X.inner) l.state a r.state)
      refl e
    where
      by-rule : (X.k ≤ a) ⊎ Lost → Lost
      by-rule (inl h) = w h
      by-rule (inr h) = h

      go : (o : Option ℕ) → rule_on (rules_view X.s X.k X.inner) l.state a r.state ≡ o
          → and_then o (λ q. some (tried q (l.searches ++ r.searches))) ≡ none → Lost
      go none b h = by-rule (rule-none l.state a r.state (i l refl) (j r refl) b)
      go (some q) b h = absurd (none-some (sym h))

  -- ---- a part

  module _ (es qs : List ℕ) (good : all_below X.s qs ≡ true) where
    first-inside : (c : ℕ) (f : Found) → found_below X.node_table c es qs ≡ some f → Inside c f
    first-inside c f e = found_inside c es qs none good (λ g i. absurd (none-some i)) f e

    fork-none : (v l : ℕ) → v < X.n → l < X.n → 0 < v
        → fork_tried (sides_in L) X.k X.inner X.node_table es qs v l (label_on X vs bs v) ≡ none → Lost
    unfolding fork_tried
    fork-none v l hv hl z e =
        let f = found_below X.node_table l es qs in
        let g = found_below X.node_table (v - 1) es qs in
        join-none (label_on X vs bs v) (side_tried (sides_in L) l f g) (side_tried (sides_in L) (v - 1) g f)
        (side-none l f g hl (first-inside l))
        (side-none (v - 1) g f (omega arith) (first-inside (v - 1)))
        (λ h. part (changed v hv h))
        (side-state l f g)
        (side-state (v - 1) g f)
        e

    leaf-none : (v : ℕ) → v < X.n → leaf_tried X.s X.k X.leaves (label_on X vs bs v) ≡ none → Lost
    unfolding leaf_tried
    leaf-none v h = go (ltb (label_on X vs bs v) X.k) refl
      where
        a : ℕ
        a = label_on X vs bs v

        go : (t : Bool) → ltb (label_on X vs bs v) X.k ≡ t
            → cond t (untried (below X.s (get_or X.leaves (label_on X vs bs v) 0))) none ≡ none → Lost
        go true t e =
            part (leaf a (ltb-true a X.k t)
            (below_none X.s _ (still-none (below X.s (get_or X.leaves a 0)) e)))
        go false t e = part (changed v h (ltb-false a X.k t))

    pub part_none : (v : ℕ) → v < X.n → part_tried L es qs vs bs v ≡ none → Lost
    unfolding part_tried
    part_none v h =
        by_kind (eqb (get_or X.kinds v 0) 0) refl (ltb 0 v && leb (size_cell X.node_table (v - 1)) (v - 1)) refl
      where
        l : ℕ
        l = v - 1 - size_cell X.node_table (v - 1)

        by_kind : (b : Bool) → eqb (get_or X.kinds v 0) 0 ≡ b → (c : Bool)
            → (ltb 0 v && leb (size_cell X.node_table (v - 1)) (v - 1)) ≡ c
            → cond b (leaf_tried X.s X.k X.leaves (label_on X vs bs v))
            (cond c (fork_tried (sides_in L) X.k X.inner X.node_table es qs v l (label_on X vs bs v)) none)
            ≡ none → Lost
        by_kind true q c t e = leaf-none v h e
        by_kind false q true t e =
            fork-none v l h (omega arith)
            (ltb-true 0 v (and_left (ltb 0 v) (leb (size_cell X.node_table (v - 1)) (v - 1)) t)) e
        by_kind false q false t e =
            part (children v h (eqb-false (get_or X.kinds v 0) 0 q) (fork-test X.node_table v t))

  -- ---- all parts

  pub handled-none : (ms es qs : List ℕ) (r : Tried) → all_below X.s qs ≡ true
      → ((i : ℕ) → i < length ms → get_or ms i 0 < X.n) → handled_from L vs bs es qs r ms ≡ none → Lost
  unfolding handled_from
  handled-none [] es qs r b h e = absurd (none-some (sym e))
  handled-none (v ∷ ms) es qs r b h e =
      go (part_tried L es qs vs bs v) refl e (λ a c d. handled-none ms a c d)
    where
      go : (o : Option Tried) → part_tried L es qs vs bs v ≡ o
          → and_then o (λ p. handled_from L vs bs (es ++ (v ∷ [])) (qs ++ (p.state ∷ []))
          (tried p.state (r.searches ++ p.searches)) ms) ≡ none
          → ((a c : List ℕ) (d : Tried) → all_below X.s c ≡ true → ((i : ℕ) → i < length ms → get_or ms i 0 < X.n)
          → handled_from L vs bs a c d ms ≡ none → Lost)
          → Lost
      go none q i ih = part_none es qs b v (h 0 (omega arith)) q
      go (some p) q i ih =
          ih (es ++ (v ∷ [])) (qs ++ (p.state ∷ [])) (tried p.state (r.searches ++ p.searches))
          (below_more X.s qs p.state b (part-state L es qs vs bs v p q)) (λ j k. h (suc j) (omega arith)) i
