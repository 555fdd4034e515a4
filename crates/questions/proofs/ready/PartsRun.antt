-- Worked out one by one on the run's own bytes, the parts give the changed run.
--     nodes-more, state-kept, state-new   one more part
--     climb-walk         a climb carries a state as the walk does
--     part_right         the part of a member has the changed run's state at its root, if those before it have
--     parts-right        so all have: not only the plan's root
--     Members            what is used of the list of members
use Rattle.std.proofs.Common.{◌≡◌, ℕ, suc, ◌+◌, ◌-◌, ◌<◌, ◌≤◌, Bool, true, false, cond, ◌⊎◌, List, [], ◌∷◌, ◌++◌, get_or, sym, refl, ap, ◌∙◌, subst, ap₂, inl, inr, append_assoc, append-nil, arith, eq-eqb, ne_eqb}
use mathlib.Core.List.{Memᴰ}
use mathlib.Core.Option.{some, some-injective}
use native.Mathlib.Decide.{ℕ_discrete}
use Rattle.trees.specs.Tree.{Tree, size, kind_at, label_at}
use Rattle.trees.specs.Automaton.{state}
use Rattle.trees.specs.Numbering.{sub, parent, depth}
use Rattle.trees.specs.Jumps.{jump}
use Rattle.trees.specs.Climb.{Move, via_jump, to_parent, carry, walk}
use Rattle.trees.specs.Tables.{step_up, state_map}
use Rattle.trees.proofs.TreeClimbs.{climb-tree}
use Rattle.trees.proofs.CarryLaws.{carry-walk}
use Rattle.trees.proofs.MapLaws.{step_up-right, step_up-left, step_up-below, left-sibling-in, right-sibling-in}
use Rattle.trees.proofs.RunLaws.{state-leaf, state-inner, state_below}
use Rattle.trees.proofs.IntervalLaws.{interval-ancestor, above_at}
use Rattle.questions.specs.ready.StaysInside.{StaysInside}
use Rattle.questions.specs.ready.RunGiven.{RunGiven}
use Rattle.questions.specs.ready.Ready.{left_child, right_child, Closed}
use Rattle.questions.specs.ready.Members.{Rising}
use Rattle.questions.specs.ready.Parts.{Given, any_below, highest_below, move_state, move_states, climb_moves, Part, nodes_of}
use Rattle.questions.specs.ready.Parts.{state_of, climbed_state, inner_state, part_state, part_of, parts_from, parts_of}
use Rattle.questions.proofs.ready.UnderLaws.{left_in, right_in}
use Rattle.questions.proofs.ready.HighestLaws.{Highest}
use Rattle.questions.proofs.ready.ClosedForm.{kind-one}
use Rattle.questions.proofs.ready.SameTrees.{same_count, same_kind, same_size}
use Rattle.questions.proofs.ready.BelowLaws.{none_below, some_below, rising-above}
use Rattle.questions.proofs.ready.ChangedRun.{Changes, unchanged-state, changed-walk}

-- the list ms of members: rising, within the tree, and with what is asked of the ready set
pub record Members (w : ℕ → Bool) (t : Tree) (ms : List ℕ) : Type 0 where
  pub rising : Rising 0 ms
  pub inside : (v : ℕ) → Memᴰ v ms → v < size t
  pub closed : Closed w t (λ v. Memᴰ v ms)

-- ---- lists of parts

pub nodes-more : (ps : List Part) (p : Part) → nodes_of (ps ++ (p ∷ [])) ≡ nodes_of ps ++ (p.node ∷ [])
nodes-more [] p = refl
nodes-more (q ∷ ps) p = ap (λ (l : List ℕ). q.node ∷ l) (nodes-more ps p)

pub state-kept : (ps : List Part) (p : Part) (x : ℕ) → Memᴰ x (nodes_of ps) → state_of (ps ++ (p ∷ [])) x ≡ state_of ps x
unfolding state_of
state-kept [] p x m = absurd (mathlib.Core.List.Memᴰ.not-nil m)
state-kept (q ∷ ps) p x m = elim (ℕ_discrete q.node x) [
  | yes e ↦ rw (eq-eqb q.node x e)
  | no n ↦ rw (ne_eqb q.node x n) (elim (mathlib.Core.List.Memᴰ.cases_cons m) [ inl e ↦ absurd (n (sym e)) | inr k ↦ state-kept ps p x k ])
]

pub state-new : (ps : List Part) (p : Part) (x : ℕ) → p.node ≡ x → (Memᴰ x (nodes_of ps) → ⊥) → state_of (ps ++ (p ∷ [])) x ≡ p.state
unfolding state_of
state-new [] p x e n = rw (eq-eqb p.node x e)
state-new (q ∷ ps) p x e n =
    rw (ne_eqb q.node x (λ z. n (mathlib.Core.List.Memᴰ.head (sym z)))) (state-new ps p x e (λ m. n (mathlib.Core.List.Memᴰ.tail m)))

-- in a rising list, what is below v comes before it, and v occurs once
pub rising-first : (done : List ℕ) (v : ℕ) (rest : List ℕ) (lo x : ℕ) → Rising lo (done ++ (v ∷ rest))
    → Memᴰ x (done ++ (v ∷ rest)) → x < v → Memᴰ x done
rising-first [] v rest lo x r m l = elim (mathlib.Core.List.Memᴰ.cases_cons m) [
  | inl e ↦ absurd (omega arith)
  | inr k ↦ absurd (omega (arith, rising-above rest (suc v) x r.1 k))
]
rising-first (d ∷ done) v rest lo x r m l = elim (mathlib.Core.List.Memᴰ.cases_cons m) [
  | inl e ↦ mathlib.Core.List.Memᴰ.head e
  | inr k ↦ mathlib.Core.List.Memᴰ.tail (rising-first done v rest (suc d) x r.1 k l)
]

pub rising-not : (done : List ℕ) (v : ℕ) (rest : List ℕ) (lo : ℕ) → Rising lo (done ++ (v ∷ rest)) → Memᴰ v done → ⊥
rising-not [] v rest lo r m = mathlib.Core.List.Memᴰ.not-nil m
rising-not (d ∷ done) v rest lo r m = elim (mathlib.Core.List.Memᴰ.cases_cons m) [
  | inl e ↦ omega (arith, rising-above (done ++ (v ∷ rest)) (suc d) v r.1 (mathlib.Core.List.Memᴰ.append_right done (mathlib.Core.List.Memᴰ.head refl)))
  | inr k ↦ rising-not done v rest (suc d) r.1 k
]

module _ (G : Given) (u : Tree) (R : RunGiven G u) (S : StaysInside G.automaton) where
  carry-states : (ms : List Move) (q : ℕ) → carry (λ m x. some (move_state G m x)) ms q ≡ some (move_states G ms q)
  carry-states [] q = refl
  carry-states (m ∷ ms) q = carry-states ms (move_state G m q)

  by-parent : (v q : ℕ) → v + 1 < size G.tree → move_state G (to_parent v) q ≡ step_up G.automaton G.tree v q
  unfolding move_state
  by-parent v q h = elim (ℕ_discrete (v + 1) (parent G.tree v)) [
    | yes e ↦ rw (eq-eqb (v + 1) (parent G.tree v) e)
        (ap (λ (x : ℕ). G.automaton.δ x (label_at G.tree (parent G.tree v)) q)
        (R.states (v - size (sub G.tree v)) (left-sibling-in G.tree v h e))
        ∙ sym (step_up-right G.automaton G.tree v h q e))
    | no e ↦ rw (ne_eqb (v + 1) (parent G.tree v) e)
        (ap (λ (x : ℕ). G.automaton.δ q (label_at G.tree (parent G.tree v)) x)
        (R.states (parent G.tree v - 1) (right-sibling-in G.tree v h e))
        ∙ sym (step_up-left G.automaton G.tree v h q e))
  ]

  by_jump : (v q : ℕ) → v + 1 < size G.tree → q < G.automaton.states
      → move_state G (via_jump v) q ≡ walk (step_up G.automaton G.tree) G.tree v (depth G.tree v - depth G.tree (jump G.tree v)) q
  unfolding move_state state_map
  by_jump v q h l = R.maps v q (omega arith) l

  pub climb-walk : (h c q : ℕ) → h < size G.tree → depth G.tree c ≤ depth G.tree h → q < G.automaton.states
      → move_states G (climb_moves G.tree h c) q
      ≡ walk (step_up G.automaton G.tree) G.tree h (depth G.tree h - depth G.tree c) q
  unfolding climb_moves
  climb-walk h c q hh l hq =
      let T = climb-tree G.tree h (depth G.tree c) hh l in
      rw T.found
      (some-injective _ _
      (sym (carry-states T.moves q)
      ∙ carry-walk (λ (x : ℕ). x < G.automaton.states) (step_up G.automaton G.tree) (λ m x. some (move_state G m x)) G.tree
      (λ v x hv px. ap some (by-parent v x hv)) (λ v x hv px. ap some (by_jump v x hv px))
      (λ v x hv px. step_up-below G.automaton G.tree S.next v x px)
      h (depth G.tree c) T.moves q hh l T.found hq))

  -- ---- one part

  module _ (w : ℕ → Bool) (ch : Changes w G.tree u) (ms : List ℕ) (M : Members w G.tree ms) (ps : List Part) (v : ℕ)
      (mv : Memᴰ v ms)
      (before : (x : ℕ) → Memᴰ x ms → x < v → state_of ps x ≡ state G.automaton (sub u x)) where
    hv : v < size G.tree
    hv = M.inside v mv

    changed_below : (x : ℕ) → state G.automaton (sub u x) < G.automaton.states
    changed_below x = state_below G.automaton S.init S.next (sub u x)

    -- no member below child c
    run-side : (c : ℕ) → c < size G.tree → any_below ms G.tree c ≡ false → G.run_state c ≡ state G.automaton (sub u c)
    run-side c hc e =
        R.states c hc
        ∙ unchanged-state G.automaton w G.tree u ch c hc (λ x hx p q. none_below G.tree c ms e x (M.closed.has_listed x hx q) p)

    -- members below child c
    climbed-side : (c : ℕ) → c < v → any_below ms G.tree c ≡ true → climbed_state G ms ps c ≡ state G.automaton (sub u c)
    unfolding climbed_state
    climbed-side c hc e =
        let H : Highest G.tree (λ x. Memᴰ x ms) c (highest_below ms G.tree c) = some_below G.tree c ms M.rising e in
        let h : ℕ = highest_below ms G.tree c in
        let q : state_of ps h ≡ state G.automaton (sub u h) = before h H.member (omega (arith, H.below)) in
        let d : depth G.tree c ≤ depth G.tree h =
        (above_at G.tree c h (M.inside h H.member)
        (interval-ancestor G.tree c h (omega (arith, hv)) (M.inside h H.member) H.below)).0 in
        ap (move_states G (climb_moves G.tree h c)) q
        ∙ climb-walk h c (state G.automaton (sub u h)) (M.inside h H.member) d (changed_below h)
        ∙ changed-walk G.automaton w G.tree u ch (λ x. Memᴰ x ms) M.closed M.inside c h (omega (arith, hv)) H

    -- both children are members where members are below both
    own-sides : kind_at G.tree v ≡ 1 → any_below ms G.tree (left_child G.tree v) ≡ true → any_below ms G.tree (right_child v) ≡ true
        → Memᴰ (left_child G.tree v) ms × Memᴰ (right_child v) ms
    own-sides k a b =
        let L = some_below G.tree (left_child G.tree v) ms M.rising a in
        let N = some_below G.tree (right_child v) ms M.rising b in
        M.closed.has_children v _ _ mv L.member N.member (record { inside = hv; inner = k; left = L.below; right = N.below })

    inner-right : kind_at G.tree v ≡ 1 → inner_state G ms ps v (left_child G.tree v) (right_child v) ≡ state G.automaton (sub u v)
    unfolding inner_state
    inner-right k = go (any_below ms G.tree l) (any_below ms G.tree r) refl refl
      where
        l : ℕ
        l = left_child G.tree v

        r : ℕ
        r = right_child v

        hl : left_child G.tree v < v
        hl = left_in G.tree v hv k

        hr : right_child v < v
        hr = right_in G.tree v hv k

        a : ℕ
        a = get_or G.labels v 0

        whole : (x y : ℕ) → x ≡ state G.automaton (sub u (left_child G.tree v)) → y ≡ state G.automaton (sub u (right_child v))
            → G.automaton.δ x (get_or G.labels v 0) y ≡ state G.automaton (sub u v)
        whole x y e f =
            let n : v < size u = omega (arith, hv, same_count G.tree u ch.kinds) in
            let s : size (sub G.tree (v - 1)) ≡ size (sub u (v - 1)) = same_size G.tree u ch.kinds (v - 1) (omega (arith, hv)) in
            let b : get_or G.labels v 0 ≡ label_at u v = ap (λ (z : List ℕ). get_or z v 0) R.labels in
            ap₂ (λ (p q : ℕ). G.automaton.δ p (get_or G.labels v 0) q) e f
            ∙ ap₂ (λ (z b : ℕ). G.automaton.δ (state G.automaton (sub u (v - 1 - z))) b (state G.automaton (sub u (v - 1)))) s b
            ∙ sym (state-inner G.automaton u v n (λ z. omega (arith, same_kind G.tree u ch.kinds v)))

        go : (b c : Bool) → any_below ms G.tree (left_child G.tree v) ≡ b → any_below ms G.tree (right_child v) ≡ c
            → cond b (cond c (G.automaton.δ (state_of ps l) a (state_of ps r)) (G.automaton.δ (climbed_state G ms ps l) a (G.run_state r)))
            (cond c (G.automaton.δ (G.run_state l) a (climbed_state G ms ps r)) (G.automaton.δ (G.run_state l) a (G.run_state r)))
            ≡ state G.automaton (sub u v)
        go true true p q =
            let m = own-sides k p q in
            whole (state_of ps l) (state_of ps r) (before l m.0 hl) (before r m.1 hr)
        go true false p q = whole (climbed_state G ms ps l) (G.run_state r) (climbed-side l hl p) (run-side r (omega (arith, hv, hr)) q)
        go false true p q = whole (G.run_state l) (climbed_state G ms ps r) (run-side l (omega (arith, hv, hl)) p) (climbed-side r hr q)
        go false false p q = whole (G.run_state l) (G.run_state r) (run-side l (omega (arith, hv, hl)) p) (run-side r (omega (arith, hv, hr)) q)

    pub part_right : part_state G ms ps v ≡ state G.automaton (sub u v)
    unfolding part_state
    part_right = elim (ℕ_discrete (kind_at G.tree v) 0) [
      | yes e ↦ rw (eq-eqb (kind_at G.tree v) 0 e)
          (ap (λ (z : List ℕ). G.automaton.ι (get_or z v 0)) R.labels
          ∙ sym (state-leaf G.automaton u v (omega (arith, hv, same_count G.tree u ch.kinds)) (sym (same_kind G.tree u ch.kinds v) ∙ e)))
      | no n ↦ rw (ne_eqb (kind_at G.tree v) 0 n) (inner-right (kind-one G.tree v hv n))
    ]

  -- ---- all parts

  module _ (w : ℕ → Bool) (ch : Changes w G.tree u) (ms : List ℕ) (M : Members w G.tree ms) where
    abbrev Right : List Part → ℕ → Type 0
    Right ps x = state_of ps x ≡ state G.automaton (sub u x)

    all_right : (done rest : List ℕ) (ps : List Part) → done ++ rest ≡ ms → nodes_of ps ≡ done
        → ((x : ℕ) → Memᴰ x done → Right ps x) → (x : ℕ) → Memᴰ x ms → Right (parts_from G ms ps rest) x
    unfolding parts_from part_of
    all_right done [] ps e n r x m =
        r x (subst (λ (l : List ℕ). Memᴰ x l) (sym (sym (append-nil done) ∙ e)) m)
    all_right done (v ∷ rest) ps e n r x m =
        all_right (done ++ (v ∷ [])) rest (ps ++ (part_of G ms ps v ∷ [])) (append_assoc done (v ∷ []) rest ∙ e)
        (nodes-more ps (part_of G ms ps v) ∙ ap (λ (l : List ℕ). l ++ (v ∷ [])) n)
        (λ y k. later y (mathlib.Core.List.Memᴰ.append_cases done k)) x m
      where
        member : Memᴰ v ms
        member = subst (λ (l : List ℕ). Memᴰ v l) e (mathlib.Core.List.Memᴰ.append_right done (mathlib.Core.List.Memᴰ.head refl))

        earlier : (y : ℕ) → Memᴰ y ms → y < v → Memᴰ y done
        earlier y k l =
            rising-first done v rest 0 y (subst (λ (z : List ℕ). Rising 0 z) (sym e) M.rising)
            (subst (λ (z : List ℕ). Memᴰ y z) (sym e) k) l

        right-v : part_state G ms ps v ≡ state G.automaton (sub u v)
        right-v = part_right w ch ms M ps v member (λ y k l. r y (earlier y k l))

        later : (y : ℕ) → Memᴰ y done ⊎ Memᴰ y (v ∷ []) → Right (ps ++ (part_of G ms ps v ∷ [])) y
        later y (inl k) = state-kept ps (part_of G ms ps v) y (subst (λ (z : List ℕ). Memᴰ y z) (sym n) k) ∙ r y k
        later y (inr k) =
            let q : y ≡ v = mathlib.Core.List.Memᴰ.eq_of_singleton k in
            rw q (state-new ps (part_of G ms ps v) v refl
            (λ z. rising-not done v rest 0 (subst (λ (l : List ℕ). Rising 0 l) (sym e) M.rising) (subst (λ (l : List ℕ). Memᴰ v l) n z))
            ∙ right-v)

    pub parts-right : (x : ℕ) → Memᴰ x ms → state_of (parts_of G ms) x ≡ state G.automaton (sub u x)
    unfolding parts_of
    parts-right x m = all_right [] ms [] refl refl (λ y k. absurd (mathlib.Core.List.Memᴰ.not-nil k)) x m
