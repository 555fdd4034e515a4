-- On numbers as built and bytes below S a part is what the rule of "Parts of a question" gives on those bytes.
--     found-built           the root found below a child is the highest member below it
--     part-built            part_on gives the rule's state and links and the nodes passed over, and never 18
use Rattle.std.proofs.Common.{◌≡◌, ℕ, suc, ◌+◌, ◌-◌, ◌<◌, ◌≤◌, Bool, true, false, cond, ◌||◌, ◌⊎◌, List, [], ◌∷◌, ◌++◌, get_or, sym, refl, ap, ◌∙◌, subst, ap₂, inl, inr, arith, lt-ltb, eq-eqb, ne_eqb, le-leb}
use mathlib.Core.List.{Memᴰ}
use mathlib.Core.Option.{Option, none, some}
use native.Mathlib.Decide.{ℕ_discrete}
use borrow.Author.Tests.{lt-leb}
use Rattle.trees.specs.Tree.{Tree, size, kind_at, labels_of}
use Rattle.trees.specs.Changes.{changed}
use Rattle.trees.specs.Numbering.{sub, depth, is_in_subtree}
use Rattle.trees.proofs.NodeLaws.{Inner, inner, up}
use Rattle.trees.proofs.IntervalLaws.{interval-ancestor, above_at}
use Rattle.tables.specs.node_tables.Cells.{depth_cell, size_cell}
use Rattle.tables.specs.node_tables.Cells.{is_in_subtree_on}
use Rattle.tables.specs.declared.answers.Reached.{Reached}
use Rattle.tables.specs.Climbs.{View, reached}
use Rattle.questions.specs.ready.Ready.{left_child, right_child}
use Rattle.questions.specs.ready.Members.{Rising}
use Rattle.questions.specs.ready.Parts.{Given, any_below, last_below, highest_below, climbed_links, inner_links}
use Rattle.questions.specs.ready.Parts.{climbed_passed, inner_passed, part_passed}
use Rattle.questions.specs.ready.Parts.{part_links, Part, nodes_of, states_of, state_of, climbed_state, inner_state, part_state}
use Rattle.questions.proofs.ready.BelowLaws.{some_below, true-false, rising-above}
use Rattle.questions.proofs.ready.ClosedForm.{kind-one}
use Rattle.questions.proofs.ready.HighestLaws.{Highest}
use Rattle.questions.proofs.ready.PartsRun.{Members}
use Rattle.questions.proofs.ready.UnderLaws.{under-self, left_in, right_in, left-parent, right-parent}
use Rattle.questions.specs.Part.{Found, found, last_found, found_below, label_on, climb_from, run_reached, own_reached}
use Rattle.questions.specs.Part.{join_on, inner_on, leaf_on, fork_on, part_on}
use Rattle.questions.specs.Promises.{Reads}
use Rattle.questions.proofs.MeetBuilt.{below-is}
use Rattle.questions.proofs.ClimbBuilt.{is_below, rule-built, run-built, climb-built}

-- ---- the root found below a node

module _ (t : Tree) (c : ℕ) where
  -- what is found, from what was found before
  abbrev Finding : List Part → Option Found → Option Found → Type 0
  Finding ps f o =
      ((any_below (nodes_of ps) t c ≡ false) × (o ≡ f))
      ⊎ ((any_below (nodes_of ps) t c ≡ true) × ((d : ℕ)
      → o ≡ some (found (last_below (nodes_of ps) t c d) (state_of ps (last_below (nodes_of ps) t c d)))))

  last-any : (ms : List ℕ) (d e : ℕ) → any_below ms t c ≡ true → last_below ms t c d ≡ last_below ms t c e
  unfolding any_below last_below
  last-any [] d e q = absurd (true-false true refl (sym q))
  last-any (v ∷ ms) d e q = go (is_in_subtree c (size (sub t c)) v) q (λ x y z. last-any ms x y z)
    where
      go : (b : Bool) → (b || any_below ms t c) ≡ true → ((x y : ℕ) → any_below ms t c ≡ true → last_below ms t c x ≡ last_below ms t c y)
          → last_below ms t c (cond b v d) ≡ last_below ms t c (cond b v e)
      go true z f = refl
      go false z f = f d e z

  last_none : (ms : List ℕ) (d : ℕ) → any_below ms t c ≡ false → last_below ms t c d ≡ d
  unfolding any_below last_below
  last_none [] d q = refl
  last_none (v ∷ ms) d q = go (is_in_subtree c (size (sub t c)) v) q (λ x z. last_none ms x z)
    where
      go : (b : Bool) → (b || any_below ms t c) ≡ false → ((x : ℕ) → any_below ms t c ≡ false → last_below ms t c x ≡ x)
          → last_below ms t c (cond b v d) ≡ d
      go true z f = absurd (true-false true refl z)
      go false z f = f d z

  last-in : (ms : List ℕ) (d : ℕ) → any_below ms t c ≡ true → Memᴰ (last_below ms t c d) ms
  unfolding any_below last_below
  last-in [] d q = absurd (true-false true refl (sym q))
  last-in (v ∷ ms) d q = go (is_in_subtree c (size (sub t c)) v) (any_below ms t c) refl q (λ x z. last-in ms x z) (λ x z. last_none ms x z)
    where
      go : (b a : Bool) → any_below ms t c ≡ a → (b || a) ≡ true → ((x : ℕ) → any_below ms t c ≡ true → Memᴰ (last_below ms t c x) ms)
          → ((x : ℕ) → any_below ms t c ≡ false → last_below ms t c x ≡ x) → Memᴰ (last_below ms t c (cond b v d)) (v ∷ ms)
      go true true e z f g = mathlib.Core.List.Memᴰ.tail (f v e)
      go true false e z f g = mathlib.Core.List.Memᴰ.head (g v e)
      go false true e z f g = mathlib.Core.List.Memᴰ.tail (f d e)
      go false false e z f g = absurd (true-false true refl (sym z))

  -- the states of other parts are as before
  state-other : (p : Part) (ps : List Part) (x : ℕ) → (x ≡ p.node → ⊥) → state_of (p ∷ ps) x ≡ state_of ps x
  unfolding state_of
  state-other p ps x n = rw (ne_eqb p.node x (λ e. n (sym e)))

  state-first : (p : Part) (ps : List Part) → state_of (p ∷ ps) p.node ≡ p.state
  unfolding state_of
  state-first p ps = rw (eq-eqb p.node p.node refl)

  module _ (node_table : List ℕ) (same : (v : ℕ) → is_in_subtree_on node_table c v ≡ is_in_subtree c (size (sub t c)) v) where
    finds : (ps : List Part) (lo : ℕ) (f : Option Found) → Rising lo (nodes_of ps) → Finding ps f (last_found node_table c (nodes_of ps) (states_of ps) f)
    unfolding last_found any_below last_below
    finds [] lo f r = inl (refl, refl)
    finds (p ∷ ps) lo f r =
        rw (same p.node)
        (go (is_in_subtree c (size (sub t c)) p.node) (finds ps (suc p.node) (some (found p.node p.state)) r.1)
        (finds ps (suc p.node) f r.1))
      where
        -- a later root is not this one
        later : (d : ℕ) → any_below (nodes_of ps) t c ≡ true → last_below (nodes_of ps) t c d ≡ p.node → ⊥
        later d a e = omega (arith, rising-above (nodes_of ps) (suc p.node) (last_below (nodes_of ps) t c d) r.1 (last-in (nodes_of ps) d a))

        lift : (o : Option Found) (d : ℕ) → any_below (nodes_of ps) t c ≡ true
            → o ≡ some (found (last_below (nodes_of ps) t c d) (state_of ps (last_below (nodes_of ps) t c d)))
            → o ≡ some (found (last_below (nodes_of ps) t c d) (state_of (p ∷ ps) (last_below (nodes_of ps) t c d)))
        lift o d a e =
            e ∙ ap (λ (z : ℕ). some (found (last_below (nodes_of ps) t c d) z)) (sym (state-other p ps (last_below (nodes_of ps) t c d) (later d a)))

        go : (b : Bool)
            → Finding ps (some (found p.node p.state)) (last_found node_table c (nodes_of ps) (states_of ps) (some (found p.node p.state)))
            → Finding ps f (last_found node_table c (nodes_of ps) (states_of ps) f)
            → (((b || any_below (nodes_of ps) t c) ≡ false)
            × (last_found node_table c (nodes_of ps) (states_of ps) (cond b (some (found p.node p.state)) f) ≡ f))
            ⊎ (((b || any_below (nodes_of ps) t c) ≡ true)
            × ((d : ℕ) → last_found node_table c (nodes_of ps) (states_of ps) (cond b (some (found p.node p.state)) f)
            ≡ some (found (last_below (nodes_of ps) t c (cond b p.node d)) (state_of (p ∷ ps) (last_below (nodes_of ps) t c (cond b p.node d))))))
        go true (inl x) y = inr (
          refl,
          λ d. x.1
              ∙ ap₂ (λ (z w : ℕ). some (found z w)) (sym (last_none (nodes_of ps) p.node x.0))
              (sym (ap (state_of (p ∷ ps)) (last_none (nodes_of ps) p.node x.0) ∙ state-first p ps)),
        )
        go true (inr x) y = inr (refl, λ d. lift _ p.node x.0 (x.1 p.node))
        go false x (inl y) = inl y
        go false x (inr y) = inr (y.0, λ d. lift _ d y.0 (y.1 d))

-- ---- roots from v on are not below a child of v

module _ (t : Tree) (c : ℕ) where
  over : (x : ℕ) → c < x → is_in_subtree c (size (sub t c)) x ≡ false
  unfolding is_in_subtree
  over x h = rw (lt-leb x c h)

  all-over : (ys : List ℕ) (lo : ℕ) → c < lo → Rising lo ys → any_below ys t c ≡ false
  unfolding any_below
  all-over [] lo h r = refl
  all-over (y ∷ ys) lo h r = rw (over y (omega (arith, r.0))) (all-over ys (suc y) (omega (arith, r.0)) r.1)

  any_append : (xs ys : List ℕ) → any_below ys t c ≡ false → any_below (xs ++ ys) t c ≡ any_below xs t c
  unfolding any_below
  any_append [] ys e = e
  any_append (x ∷ xs) ys e = ap (λ (b : Bool). is_in_subtree c (size (sub t c)) x || b) (any_append xs ys e)

  last-append : (xs ys : List ℕ) (d : ℕ) → any_below ys t c ≡ false → last_below (xs ++ ys) t c d ≡ last_below xs t c d
  unfolding last_below
  last-append [] ys d e = last_none t c ys d e
  last-append (x ∷ xs) ys d e = last-append xs ys (cond (is_in_subtree c (size (sub t c)) x) x d) e

rising-rest : (xs : List ℕ) (v : ℕ) (ys : List ℕ) (lo : ℕ) → Rising lo (xs ++ (v ∷ ys)) → Rising v (v ∷ ys)
rising-rest [] v ys lo r = (omega arith, r.1)
rising-rest (x ∷ xs) v ys lo r = rising-rest xs v ys (suc x) r.1

rising-front : (xs ys : List ℕ) (lo : ℕ) → Rising lo (xs ++ ys) → Rising lo xs
rising-front [] ys lo r = tt
rising-front (x ∷ xs) ys lo r = (r.0, rising-front xs ys (suc x) r.1)

-- ---- the part of the next root

module _ (X : View) (G : Given) (R : Reads X G) (w : ℕ → Bool) (ms : List ℕ) (M : Members w G.tree ms) (ps : List Part) (v : ℕ)
    (rest : List ℕ) (cut : nodes_of ps ++ (v ∷ rest) ≡ ms) (small : (x : ℕ) → state_of ps x < X.s) where
  rises : Rising 0 (nodes_of ps ++ (v ∷ rest))
  rises = subst (λ (l : List ℕ). Rising 0 l) (sym cut) M.rising

  v-member : Memᴰ v ms
  v-member = subst (λ (l : List ℕ). Memᴰ v l) cut (mathlib.Core.List.Memᴰ.append_right (nodes_of ps) (mathlib.Core.List.Memᴰ.head refl))

  hv : v < size G.tree
  hv = M.inside v v-member

  -- ---- a child c of v

  module _ (c : ℕ) (l : c < v) where
    beyond : any_below (v ∷ rest) G.tree c ≡ false
    beyond = all-over G.tree c (v ∷ rest) v l (rising-rest (nodes_of ps) v rest 0 rises)

    any-is : any_below ms G.tree c ≡ any_below (nodes_of ps) G.tree c
    any-is = ap (λ (z : List ℕ). any_below z G.tree c) (sym cut) ∙ any_append G.tree c (nodes_of ps) (v ∷ rest) beyond

    highest-is : highest_below ms G.tree c ≡ last_below (nodes_of ps) G.tree c c
    highest-is = ap (λ (z : List ℕ). last_below z G.tree c c) (sym cut) ∙ last-append G.tree c (nodes_of ps) (v ∷ rest) c beyond

    finding : Finding G.tree c ps none (found_below X.node_table c (nodes_of ps) (states_of ps))
    finding =
        finds G.tree c X.node_table (λ x. below-is G.tree X.node_table R.cells c x (omega (arith, hv))) ps 0 none
        (rising-front (nodes_of ps) (v ∷ rest) 0 rises)

    pub found_none : any_below ms G.tree c ≡ false → found_below X.node_table c (nodes_of ps) (states_of ps) ≡ none
    found_none e = go finding
      where
        go : Finding G.tree c ps none (found_below X.node_table c (nodes_of ps) (states_of ps))
            → found_below X.node_table c (nodes_of ps) (states_of ps) ≡ none
        go (inl x) = x.1
        go (inr x) = absurd (true-false true refl (sym x.0 ∙ sym any-is ∙ e))

    pub found-built : any_below ms G.tree c ≡ true
        → found_below X.node_table c (nodes_of ps) (states_of ps) ≡ some (found (highest_below ms G.tree c) (state_of ps (highest_below ms G.tree c)))
    found-built e = go finding
      where
        go : Finding G.tree c ps none (found_below X.node_table c (nodes_of ps) (states_of ps))
            → found_below X.node_table c (nodes_of ps) (states_of ps) ≡ some (found (highest_below ms G.tree c) (state_of ps (highest_below ms G.tree c)))
        go (inl x) = absurd (true-false true refl (sym (sym x.0 ∙ sym any-is ∙ e)))
        go (inr x) = x.1 c ∙ ap (λ (h : ℕ). some (found h (state_of ps h))) (sym highest-is)

    run-side : run_reached X c ≡ some (reached (G.run_state c) 0 0)
    unfolding run_reached
    run-side = rw (run-built X G R c (omega (arith, hv)))

    own-side : (h : ℕ) → own_reached X (found h (state_of ps h)) ≡ some (reached (state_of ps h) 0 0)
    unfolding own_reached
    own-side h = rw (is_below X.s (state_of ps h) (small h))

    climbed-side : (T : ℕ) → T ≡ depth G.tree c → any_below ms G.tree c ≡ true
        → climb_from X T (found (highest_below ms G.tree c) (state_of ps (highest_below ms G.tree c)))
        ≡ some (reached (climbed_state G ms ps c) (climbed_links G.tree ms c) (climbed_passed G.tree ms c))
    unfolding climb_from climbed_state climbed_links climbed_passed
    climbed-side T e a =
        let h : ℕ = highest_below ms G.tree c in
        let H : Highest G.tree (λ x. Memᴰ x ms) c h = some_below G.tree c ms M.rising a in
        let hh : h < size G.tree = M.inside h H.member in
        let d : depth G.tree c ≤ depth G.tree h = (above_at G.tree c h hh (interval-ancestor G.tree c h (omega (arith, hv)) hh H.below)).0 in
        rw (e, is_below X.s (state_of ps h) (small h)) (climb-built X G R h c (state_of ps h) hh d (small h)).0

    -- a child that is a member is the highest below itself
    self-highest : Memᴰ c ms → any_below ms G.tree c ≡ true → highest_below ms G.tree c ≡ c
    self-highest m a =
        let H : Highest G.tree (λ x. Memᴰ x ms) c (highest_below ms G.tree c) = some_below G.tree c ms M.rising a in
        omega (arith, H.below, H.greatest c m (under-self G.tree c))

  joined : (a x n i y m j : ℕ) → a < X.k
      → join_on X a (some (reached x n i)) (some (reached y m j)) ≡ some (reached (G.automaton.δ x a y) (n + m) (i + j))
  unfolding join_on
  joined a x n i y m j h = rw (rule-built X G R x a y h)

  -- ---- an inner root

  module _ (k : kind_at G.tree v ≡ 1) where
    hl : left_child G.tree v < v
    hl = left_in G.tree v hv k

    hr : right_child v < v
    hr = right_in G.tree v hv k

    depth-left-is : depth_cell X.node_table v + 1 ≡ depth G.tree (left_child G.tree v)
    depth-left-is =
        let e = left-parent G.tree v hv k in
        let u = up G.tree (left_child G.tree v) (omega (arith, hl, hv)) in
        omega (arith, R.cells.depths v hv, u.deeper, ap (depth G.tree) e)

    depth-right-is : depth_cell X.node_table v + 1 ≡ depth G.tree (right_child v)
    depth-right-is =
        let e = right-parent G.tree v hv k in
        let u = up G.tree (right_child v) (omega (arith, hr, hv)) in
        omega (arith, R.cells.depths v hv, u.deeper, ap (depth G.tree) e)

    abbrev out : ℕ → ℕ → ℕ → Option Reached
    out q n i = some (reached q n i)

    fork-built : (a : ℕ) → a ≡ get_or G.labels v 0 → fork_on X (nodes_of ps) (states_of ps) v (left_child G.tree v) a
        ≡ out (inner_state G ms ps v (left_child G.tree v) (right_child v)) (inner_links G.tree ms (left_child G.tree v) (right_child v))
        (inner_passed G.tree ms (left_child G.tree v) (right_child v))
    unfolding fork_on inner_state inner_links inner_passed inner_on
    fork-built a ea = rw ea (go (any_below ms G.tree l) (any_below ms G.tree r) refl refl)
      where
        l : ℕ
        l = left_child G.tree v

        r : ℕ
        r = right_child v

        b : ℕ
        b = get_or G.labels v 0

        hb : get_or G.labels v 0 < X.k
        hb = R.changed_below v

        T : ℕ
        T = depth_cell X.node_table v + 1

        own : any_below ms G.tree (left_child G.tree v) ≡ true → any_below ms G.tree (right_child v) ≡ true
            → Memᴰ (left_child G.tree v) ms × Memᴰ (right_child v) ms
        own p q =
            let L = some_below G.tree (left_child G.tree v) ms M.rising p in
            let N = some_below G.tree (right_child v) ms M.rising q in
            M.closed.has_children v _ _ v-member L.member N.member (record { inside = hv; inner = k; left = L.below; right = N.below })

        plus_none : (n : ℕ) → n + 0 ≡ n
        plus_none n = omega arith

        none-plus : (n : ℕ) → 0 + n ≡ n
        none-plus n = omega arith

        no-links : (x n i : ℕ) → out x (n + 0) (i + 0) ≡ out x n i
        no-links x n i = ap₂ (λ (y z : ℕ). some (reached x y z)) (plus_none n) (plus_none i)

        own-links : (x n i : ℕ) → out x (0 + n) (0 + i) ≡ out x n i
        own-links x n i = ap₂ (λ (y z : ℕ). some (reached x y z)) (none-plus n) (none-plus i)

        go : (c d : Bool) → any_below ms G.tree (left_child G.tree v) ≡ c → any_below ms G.tree (right_child v) ≡ d
            → inner_on X (depth_cell X.node_table v + 1) (left_child G.tree v) (v - 1) (get_or G.labels v 0)
            (found_below X.node_table (left_child G.tree v) (nodes_of ps) (states_of ps)) (found_below X.node_table (v - 1) (nodes_of ps) (states_of ps))
            ≡ out
            (cond c (cond d (G.automaton.δ (state_of ps l) b (state_of ps r)) (G.automaton.δ (climbed_state G ms ps l) b (G.run_state r)))
            (cond d (G.automaton.δ (G.run_state l) b (climbed_state G ms ps r)) (G.automaton.δ (G.run_state l) b (G.run_state r))))
            (cond c (cond d 0 (climbed_links G.tree ms l)) (cond d (climbed_links G.tree ms r) 0))
            (cond c (cond d 0 (climbed_passed G.tree ms l)) (cond d (climbed_passed G.tree ms r) 0))
        go true true p q =
            let m = own p q in
            rw (found-built l hl p, found-built r hr q, self-highest l hl m.0 p, self-highest r hr m.1 q, own-side l hl l, own-side r hr r)
            (joined b (state_of ps l) 0 0 (state_of ps r) 0 0 hb)
        go true false p q =
            rw (found-built l hl p, found_none r hr q, climbed-side l hl T depth-left-is p, run-side r hr)
            (joined b (climbed_state G ms ps l) (climbed_links G.tree ms l) (climbed_passed G.tree ms l) (G.run_state r) 0 0 hb
            ∙ no-links _ _ _)
        go false true p q =
            rw (found_none l hl p, found-built r hr q, run-side l hl, climbed-side r hr T depth-right-is q)
            (joined b (G.run_state l) 0 0 (climbed_state G ms ps r) (climbed_links G.tree ms r) (climbed_passed G.tree ms r) hb
            ∙ own-links _ _ _)
        go false false p q =
            rw (found_none l hl p, found_none r hr q, run-side l hl, run-side r hr) (joined b (G.run_state l) 0 0 (G.run_state r) 0 0 hb)

  -- ---- any root

  pub part-built : (vs bs : List ℕ) → G.labels ≡ changed (labels_of G.tree) vs bs
      → part_on X (nodes_of ps) (states_of ps) vs bs v
      ≡ some (reached (part_state G ms ps v) (part_links G.tree ms v) (part_passed G.tree ms v))
  unfolding part_on part_state part_links part_passed label_on leaf_on
  part-built vs bs e =
      let kind : get_or X.kinds v 0 ≡ kind_at G.tree v = ap (λ (l : List ℕ). get_or l v 0) R.kinds in
      let lab : get_or (changed X.labels vs bs) v 0 ≡ get_or G.labels v 0 =
      ap (λ (l : List ℕ). get_or (changed l vs bs) v 0) R.labels ∙ ap (λ (l : List ℕ). get_or l v 0) (sym e) in
      elim (ℕ_discrete (kind_at G.tree v) 0) [
        | yes z ↦ rw (
          kind,
          eq-eqb (kind_at G.tree v) 0 z,
          lab,
          lt-ltb (get_or G.labels v 0) X.k (R.changed_below v),
          ← R.leaf (get_or G.labels v 0),
          is_below X.s (G.automaton.ι (get_or G.labels v 0)) (R.leaf_below (get_or G.labels v 0)),
        )
        | no n ↦ (let i : Inner G.tree v = inner G.tree v hv n in
            let s : size_cell X.node_table (v - 1) ≡ size (sub G.tree (v - 1)) = R.cells.sizes (v - 1) (omega (arith, hv)) in
            rw (
              kind,
              ne_eqb (kind_at G.tree v) 0 n,
              s,
              lt-ltb 0 v (omega (arith, i.at)),
              le-leb (size (sub G.tree (v - 1)))
                  (v - 1) (omega (arith, i.at)),
            )
            (fork-built (kind-one G.tree v hv n) (get_or (changed X.labels vs bs) v 0) lab))
      ]
