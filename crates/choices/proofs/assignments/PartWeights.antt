-- Weights by parts: what a part's weight is, from those of the members below.
--     at_leaf, at_inner    the weight at a node, from its children's
--     closed-weight        no open node under c: the weight of the run's state
--     climbed-weight       the weight at c is that at the highest member below c, after the walk from there to c
--     part_none, part-both, part_left, part_right    the four kinds of part, with document 01's climb
use Prim.Native.Nat.{ℕ, zero, suc, ◌+◌, ◌-◌, ◌≤◌, ◌<◌}
use mathlib.Core.Path.{◌≡◌, refl, sym, ap, ap₂, ◌∙◌, fun_ext}
use mathlib.Core.Bool.{Bool, true, false}
use mathlib.Core.List.{List, Memᴰ}
use mathlib.Core.Logic.{inl, inr}
use native.Mathlib.Decide.{ℕ_discrete}
use native.Mathlib.Omega.{arith}
use Rattle.trees.specs.Tree.{Tree, size, kind_at, label_at}
use Rattle.trees.specs.Automaton.{Automaton, state}
use Rattle.trees.specs.Numbering.{sub, parent, depth, ancestor, InSubtree}
use Rattle.trees.specs.Climb.{walk}
use Rattle.trees.specs.Tables.{step_up}
use Rattle.trees.proofs.NodeLaws.{Up, up, sub-leaf, sub-size, sub-root}
use Rattle.trees.proofs.IntervalLaws.{interval-ancestor, above_at}
use Rattle.trees.proofs.WalkLaws.{walk-add}
use Rattle.trees.proofs.MapLaws.{step_up-right, step_up-left}
use Rattle.trees.proofs.RunLaws.{Children, children, state-leaf, state-inner}
use Rattle.questions.specs.ready.Ready.{left_child, right_child, Closed}
use Rattle.questions.specs.ready.Parts.{Given, any_below, highest_below, move_states, climb_moves}
use Rattle.questions.proofs.ready.UnderLaws.{under-self, left_in, right_in, left-under, right-under}
use Rattle.questions.proofs.ready.HighestLaws.{Highest, is_false}
use Rattle.questions.proofs.ready.HighestWalk.{far, way-proper, way-free, way-left, way-right}
use Rattle.questions.proofs.ready.BelowLaws.{none_below, some_below}
use Rattle.questions.proofs.ready.ClosedForm.{kind-one}
use Rattle.questions.specs.ready.StaysInside.{StaysInside}
use Rattle.questions.proofs.ready.PartsRun.{Members, climb-walk}
use Rattle.questions.specs.ready.RunGiven.{RunGiven}
use Rattle.choices.specs.assignments.Sums.{LabelSum}
use Rattle.choices.specs.assignments.inner.Weights.{weighed, weighed_at}
use Rattle.choices.proofs.assignments.WeighLaws.{weighed-below}

module _ (A : Automaton) (ch : LabelSum) (t : Tree) where
  pub at_root : (v : ℕ) (g : ℕ → ℕ) → v + 1 ≡ size t → weighed_at A ch t v g ≡ weighed A ch t 0 g
  unfolding weighed_at
  at_root v g e =
      let z : v + 1 - size t ≡ 0 = omega arith in
      ap (λ (s : Tree). weighed A ch s (v + 1 - size s) g) (sub-root t v e) ∙ ap (λ (x : ℕ). weighed A ch t x g) z

  pub at_leaf : (v : ℕ) (g : ℕ → ℕ) → v < size t → kind_at t v ≡ 0 → weighed_at A ch t v g ≡ ch v (λ b. g (A.ι b))
  unfolding weighed_at weighed
  at_leaf v g h k =
      let z : v + 1 - 1 ≡ v = omega arith in
      ap (λ (s : Tree). weighed A ch s (v + 1 - size s) g) (sub-leaf t v h k)
      ∙ ap (λ (x : ℕ). ch x (λ b. g (A.ι b))) z

  pub at_inner : (v : ℕ) (g : ℕ → ℕ) → v < size t → (kind_at t v ≡ 0 → ⊥)
      → weighed_at A ch t v g ≡ weighed_at A ch t (left_child t v)
      (λ p. weighed_at A ch t (right_child v) (λ q. ch v (λ b. g (A.δ p b q))))
  unfolding weighed_at weighed
  at_inner v g h k =
      let C : Children t v = children t v h k in
      let x : ℕ = size (sub t (left_child t v)) in
      let y : ℕ = size (sub t (right_child v)) in
      let lo : ℕ = v + 1 - (x + y + 1) in
      let sx : size (sub t (left_child t v)) ≤ left_child t v + 1 = sub-size t (left_child t v)
      (omega (arith, C.left_in)) in
      let e : lo ≡ left_child t v + 1 - x = omega (arith, C.right-size, C.pos) in
      let f : lo + x ≡ v - 1 + 1 - y = omega (arith, C.right-size, C.pos) in
      let i : lo + x + y ≡ v = omega (arith, C.right-size, C.pos) in
      ap (λ (s : Tree). weighed A ch s (v + 1 - size s) g) C.is
      ∙ ap (λ (n : ℕ). weighed A ch (sub t (left_child t v)) n
      (λ p. weighed A ch (sub t (right_child v)) (lo + x) (λ q. ch (lo + x + y) (λ b. g (A.δ p b q))))) e
      ∙ ap₂ (λ (n m : ℕ). weighed A ch (sub t (left_child t v)) (left_child t v + 1 - x)
      (λ p. weighed A ch (sub t (right_child v)) n (λ q. ch m (λ b. g (A.δ p b q))))) f i

  -- ---- nodes that are not open

  module _ (w : ℕ → Bool) (shut : (v : ℕ) → w v ≡ false → (f : ℕ → ℕ) → ch v f ≡ f (label_at t v)) where
    closed_in : (f c : ℕ) → c < f → c < size t → ((v : ℕ) → v < size t → InSubtree t c v → w v ≡ true → ⊥)
        → (g : ℕ → ℕ)
        → weighed_at A ch t c g ≡ g (state A (sub t c))
    closed_in zero c l h n g = absurd (omega arith)
    closed_in (suc f) c l h n g = elim (ℕ_discrete (kind_at t c) 0) [
      | yes k ↦ at_leaf c g h k ∙ shut c (is_false (w c) (n c h (under-self t c))) _
          ∙ ap g (sym (state-leaf A t c h k))
      | no k ↦ (let C : Children t c = children t c h k in
          at_inner c g h k
          ∙ closed_in f (left_child t c) (omega (arith, C.left_in)) (omega (arith, C.left_in))
          (λ v hv p. n v hv (left-under t c h (kind-one t c h k) v p)) _
          ∙ closed_in f (right_child c) (omega (arith, C.pos)) (omega (arith, C.pos))
          (λ v hv p. n v hv (right-under t c h (kind-one t c h k) v p)) _
          ∙ shut c (is_false (w c) (n c h (under-self t c))) _
          ∙ ap g (sym (state-inner A t c h k)))
    ]

    pub closed-weight : (c : ℕ) → c < size t → ((v : ℕ) → v < size t → InSubtree t c v → w v ≡ true → ⊥) → (g : ℕ → ℕ)
        → weighed_at A ch t c g ≡ g (state A (sub t c))
    closed-weight c h n g = closed_in (suc c) c (omega arith) h n g

    -- y is a child of p, which is not open, nor is any node under the other child
    module _ (y : ℕ) (h : y + 1 < size t) (free : w (parent t y) ≡ false) where
      up-y : Up t y (parent t y)
      up-y = up t y h

      inner-p : kind_at t (parent t y) ≡ 0 → ⊥
      inner-p e = omega (arith, up-y.inside)

      step_right : y + 1 ≡ parent t y
          → ((v : ℕ) → v < size t → InSubtree t (left_child t (parent t y)) v → w v ≡ true → ⊥) → (g : ℕ → ℕ)
          → weighed_at A ch t (parent t y) g ≡ weighed_at A ch t y (λ q. g (step_up A t y q))
      step_right e n g =
          let r : right_child (parent t y) ≡ y = omega arith in
          let l : left_child t (parent t y) ≡ y - size (sub t y) = ap (λ (x : ℕ). x - size (sub t x)) r in
          let C : Children t (parent t y) = children t (parent t y) up-y.below inner-p in
          at_inner (parent t y) g up-y.below inner-p
          ∙ closed-weight (left_child t (parent t y)) (omega (arith, C.left_in, up-y.below)) n _
          ∙ ap₂ (λ (x z : ℕ). weighed_at A ch t x (λ q. ch (parent t y) (λ b. g (A.δ (state A (sub t z)) b q)))) r l
          ∙ ap (weighed_at A ch t y) (fun_ext λ q. shut (parent t y) free _ ∙ ap g (sym (step_up-right A t y h q e)))

      step_left : (y + 1 ≡ parent t y → ⊥)
          → ((v : ℕ) → v < size t → InSubtree t (right_child (parent t y)) v → w v ≡ true → ⊥) → (g : ℕ → ℕ)
          → weighed_at A ch t (parent t y) g ≡ weighed_at A ch t y (λ q. g (step_up A t y q))
      step_left e n g =
          let l : left_child t (parent t y) ≡ y = elim up-y.child [ inl c ↦ absurd (e c) | inr c ↦ omega arith ] in
          at_inner (parent t y) g up-y.below inner-p
          ∙ ap (λ (x : ℕ). weighed_at A ch t x
          (λ p. weighed_at A ch t (right_child (parent t y)) (λ q. ch (parent t y) (λ b. g (A.δ p b q))))) l
          ∙ ap (weighed_at A ch t y) (fun_ext λ q.
          closed-weight (right_child (parent t y)) (omega (arith, up-y.below)) n
          (λ x. ch (parent t y) (λ b. g (A.δ q b x)))
          ∙ shut (parent t y) free (λ b. g (A.δ q b (state A (sub t (right_child (parent t y))))))
          ∙ ap g (sym (step_up-left A t y h q e)))

    -- ---- the walk from the highest member below c

    module _ (C : ℕ → Type 0) (closed : Closed w t C) (inside : (v : ℕ) → C v → v < size t) (c h : ℕ)
        (hc : c < size t)
        (H : Highest t C c h) where
      walk_step : (n : ℕ) → n < depth t h - depth t c → (g : ℕ → ℕ)
          → weighed_at A ch t (parent t (ancestor t h n)) g
          ≡ weighed_at A ch t (ancestor t h n) (λ q. g (step_up A t (ancestor t h n) q))
      walk_step n l g =
          let proper : ancestor t h n + 1 < size t = way-proper w t C closed inside c h hc H n l in
          let free : w (parent t (ancestor t h n)) ≡ false = way-free w t C closed inside c h hc H n l in
          elim (ℕ_discrete (ancestor t h n + 1) (parent t (ancestor t h n))) [
            | yes e ↦ step_right (ancestor t h n) proper free e
                (λ v hv q wv. way-left w t C closed inside c h hc H n l v hv e q wv) g
            | no e ↦ step_left (ancestor t h n) proper free e
                (λ v hv q wv. way-right w t C closed inside c h hc H n l v hv e q wv) g
          ]

      walk-in : (n : ℕ) → n ≤ depth t h - depth t c → (g : ℕ → ℕ)
          → weighed_at A ch t (ancestor t h n) g ≡ weighed_at A ch t h (λ q. g (walk (step_up A t) t h n q))
      unfolding walk ancestor
      walk-in zero l g = refl
      walk-in (suc n) l g =
          let e : n + 1 ≡ suc n = omega arith in
          walk_step n (omega arith) g
          ∙ walk-in n (omega arith) (λ q. g (step_up A t (ancestor t h n) q))
          ∙ ap (weighed_at A ch t h) (fun_ext λ q. ap g
          (sym (ap (λ (k : ℕ). walk (step_up A t) t h k q) (sym e) ∙ walk-add (step_up A t) t h n 1 q)))

      pub climbed-weight : (g : ℕ → ℕ) → weighed_at A ch t c g
          ≡ weighed_at A ch t h (λ q. g (walk (step_up A t) t h (depth t h - depth t c) q))
      climbed-weight g = ap (λ (x : ℕ). weighed_at A ch t x g) (sym (far w t C closed inside c h hc H).1)
          ∙ walk-in (depth t h - depth t c) (omega arith) g

-- ---- the four kinds of part, on the run's own bytes

module _ (G : Given) (u : Tree) (R : RunGiven G u) (S : StaysInside G.automaton) (ch : LabelSum) (w : ℕ → Bool)
    (shut : (v : ℕ) → w v ≡ false → (f : ℕ → ℕ) → ch v f ≡ f (label_at G.tree v)) (ms : List ℕ)
    (M : Members w G.tree ms) where
  -- the weight at a node of the plan
  abbrev weight : ℕ → (ℕ → ℕ) → ℕ
  weight v g = weighed_at G.automaton ch G.tree v g

  -- the state that a climb from the highest member below c makes of q
  abbrev climbed : ℕ → ℕ → ℕ
  climbed c q = move_states G (climb_moves G.tree (highest_below ms G.tree c) c) q

  pub run-side : (c : ℕ) → c < size G.tree → any_below ms G.tree c ≡ false → (g : ℕ → ℕ) → weight c g
      ≡ g (G.run_state c)
  run-side c hc e g =
      closed-weight G.automaton ch G.tree w shut c hc
      (λ x hx p q. none_below G.tree c ms e x (M.closed.has_listed x hx q) p) g
      ∙ ap g (sym (R.states c hc))

  pub climbed-side : (c : ℕ) → c < size G.tree → any_below ms G.tree c ≡ true → (g : ℕ → ℕ)
      → weight c g ≡ weight (highest_below ms G.tree c) (λ q. g (climbed c q))
  unfolding weighed_at
  climbed-side c hc e g =
      let H : Highest G.tree (λ x. Memᴰ x ms) c (highest_below ms G.tree c) = some_below G.tree c ms
      M.rising e in
      let h : ℕ = highest_below ms G.tree c in
      let d : depth G.tree c ≤ depth G.tree h =
      (above_at G.tree c h (M.inside h H.member)
      (interval-ancestor G.tree c h hc (M.inside h H.member) H.below)).0 in
      climbed-weight G.automaton ch G.tree w shut (λ x. Memᴰ x ms) M.closed M.inside c h hc H g
      ∙ weighed-below G.automaton S.init S.next ch (sub G.tree h) _ _ _
      (λ q hq. ap g (sym (climb-walk G u R S h c q (M.inside h H.member) d hq)))

  module _ (v : ℕ) (hv : v < size G.tree) (k : kind_at G.tree v ≡ 1) (g : ℕ → ℕ) where
    inner-v : kind_at G.tree v ≡ 0 → ⊥
    inner-v e = omega arith

    -- its own label, open or not, is applied last
    abbrev applied : ℕ → ℕ → ℕ
    applied p q = ch v (λ b. g (G.automaton.δ p b q))

    hl : left_child G.tree v < size G.tree
    hl = omega (arith, left_in G.tree v hv k)

    hr : right_child v < size G.tree
    hr = omega (arith, right_in G.tree v hv k)

    pub part-both : weight v g ≡ weight (left_child G.tree v) (λ p. weight (right_child v) (λ q. applied p q))
    part-both = at_inner G.automaton ch G.tree v g hv inner-v

    pub part_none : any_below ms G.tree (left_child G.tree v) ≡ false → any_below ms G.tree (right_child v)
        ≡ false
        → weight v g ≡ applied (G.run_state (left_child G.tree v)) (G.run_state (right_child v))
    part_none a b = part-both ∙ run-side _ hl a _ ∙ run-side _ hr b _

    pub part_left : any_below ms G.tree (left_child G.tree v) ≡ true → any_below ms G.tree (right_child v)
        ≡ false
        → weight v g ≡ weight (highest_below ms G.tree (left_child G.tree v))
        (λ q. applied (climbed (left_child G.tree v) q) (G.run_state (right_child v)))
    part_left a b =
        part-both ∙ climbed-side _ hl a _
        ∙ ap (weight (highest_below ms G.tree (left_child G.tree v))) (fun_ext λ q. run-side _ hr b _)

    pub part_right : any_below ms G.tree (left_child G.tree v) ≡ false → any_below ms G.tree (right_child v)
        ≡ true
        → weight v g ≡ weight (highest_below ms G.tree (right_child v))
        (λ q. applied (G.run_state (left_child G.tree v)) (climbed (right_child v) q))
    part_right a b = part-both ∙ run-side _ hl a _ ∙ climbed-side _ hr b _
