-- On numbers as built and bytes below S: what one move and one climb read is in range, and they give what the rule gives.
--     move-built     a move from a node below the root
--     climb-built    a climb to the depth of a node above: its state, its links, and the difference of the depths passed over
use Rattle.std.proofs.Common.{◌≡◌, ℕ, ◌+◌, ◌-◌, ◌<◌, ◌≤◌, Bool, true, false, cond, eqb, List, [], ◌∷◌, length, get_or, refl, ap, ◌∙◌, arith, lt-ltb, eq-eqb, ne_eqb, le-leb}
use mathlib.Core.Option.{Option, some}
use native.Mathlib.Decide.{ℕ_discrete}
use Rattle.trees.specs.Tree.{size, label_at}
use Rattle.trees.specs.Numbering.{sub, parent, depth}
use Rattle.trees.specs.Climb.{Move, via_jump, to_parent, and_then, climb, carry}
use Rattle.trees.proofs.MoveLaws.{start}
use Rattle.trees.proofs.ClimbLaws.{Tells, same-climb}
use Rattle.trees.proofs.TreeClimbs.{climb-tree, climb-proper, Proper}
use Rattle.trees.proofs.PassedLaws.{same-passed}
use Rattle.trees.proofs.MapLaws.{right-child-size, left-sibling-in, right-sibling-in, parent-pos}
use Rattle.tables.specs.node_tables.Cells.{size_cell, cell_forest}
use Rattle.tables.specs.Climbs.{View, below, run_on, rule_on, sibling_on, parent_on, move_on, reached, climb_on}
use Rattle.questions.specs.ready.Parts.{Given, move_state, move_states, climb_moves}
use Rattle.questions.specs.Promises.{Reads}

pub is_below : (s q : ℕ) → q < s → below s q ≡ some q
unfolding below
is_below s q h = rw (lt-ltb q s h)

module _ (X : View) (G : Given) (R : Reads X G) where
  pub rule-built : (p a q : ℕ) → a < X.k → rule_on X p a q ≡ some (G.automaton.δ p a q)
  unfolding rule_on
  rule-built p a q h =
      rw (lt-ltb a X.k h, ← R.inner p a q) (is_below X.s (G.automaton.δ p a q) (R.inner_below p a q))

  pub run-built : (v : ℕ) → v < size G.tree → run_on X v ≡ some (G.run_state v)
  unfolding run_on
  run-built v h = rw (← R.run v) (is_below X.s (G.run_state v) (R.run_below v h))

  label_is : (v : ℕ) → get_or X.labels v 0 ≡ label_at G.tree v
  label_is v = ap (λ (l : List ℕ). get_or l v 0) R.labels

  module _ (v q : ℕ) (h : v + 1 < size G.tree) where
    p : ℕ
    p = parent G.tree v

    ruled : (x a y : ℕ) → a ≡ label_at G.tree (parent G.tree v) → rule_on X x a y ≡ some (G.automaton.δ x (label_at G.tree (parent G.tree v)) y)
    ruled x a y e = rw e (rule-built x (label_at G.tree (parent G.tree v)) y (R.label_below (parent G.tree v)))

    to-parent : parent_on X v (parent G.tree v) q ≡ some (move_state G (to_parent v) q)
    unfolding parent_on sibling_on move_state
    to-parent = elim (ℕ_discrete (v + 1) (parent G.tree v)) [
      | yes e ↦ (let s : size_cell X.node_table v ≡ size (sub G.tree v) = R.cells.sizes v (omega arith) in
          rw (
            eq-eqb (v + 1) (parent G.tree v) e,
            s,
            le-leb (size (sub G.tree v)) v (right-child-size G.tree v h e),
            run-built (v - size (sub G.tree v)) (left-sibling-in G.tree v h e),
          )
          (ruled (G.run_state (v - size (sub G.tree v))) (get_or X.labels (parent G.tree v) 0) q (label_is (parent G.tree v))))
      | no n ↦ rw (
        ne_eqb (v + 1) (parent G.tree v) n,
        lt-ltb 0 (parent G.tree v) (parent-pos G.tree v h),
        run-built (parent G.tree v - 1) (right-sibling-in G.tree v h n),
      )
          (ruled q (get_or X.labels (parent G.tree v) 0) (G.run_state (parent G.tree v - 1)) (label_is (parent G.tree v)))
    ]

    pub parent-built : move_on X (to_parent v) q ≡ some (move_state G (to_parent v) q)
    unfolding move_on
    parent-built = rw (R.cells.parents v (omega arith)) to-parent

    pub jump-built : q < X.s → move_on X (via_jump v) q ≡ some (move_state G (via_jump v) q)
    unfolding move_on move_state
    jump-built l = rw (← R.map v q) (is_below X.s (G.map_state v q) (R.map_below v q (omega arith) l))

    pub parent-below : move_state G (to_parent v) q < X.s
    unfolding move_state
    parent-below = go (eqb (v + 1) (parent G.tree v))
      where
        go : (b : Bool) → cond b (G.automaton.δ (G.run_state (v - size (sub G.tree v))) (label_at G.tree (parent G.tree v)) q)
            (G.automaton.δ q (label_at G.tree (parent G.tree v)) (G.run_state (parent G.tree v - 1))) < X.s
        go true = R.inner_below _ _ _
        go false = R.inner_below _ _ _

    pub jump_below : q < X.s → move_state G (via_jump v) q < X.s
    unfolding move_state
    jump_below l = R.map_below v q (omega arith) l

  pub move-built : (m : Move) (q : ℕ) → start m + 1 < size G.tree → q < X.s → move_on X m q ≡ some (move_state G m q)
  move-built (via_jump v) q h l = jump-built v q h l
  move-built (to_parent v) q h l = parent-built v q h

  pub move-below : (m : Move) (q : ℕ) → start m + 1 < size G.tree → q < X.s → move_state G m q < X.s
  move-below (via_jump v) q h l = jump_below v q h l
  move-below (to_parent v) q h l = parent-below v q h

  pub carry-built : (ms : List Move) (q : ℕ) → Proper G.tree ms → q < X.s
      → (carry (move_on X) ms q ≡ some (move_states G ms q)) × (move_states G ms q < X.s)
  carry-built [] q P l = (refl, l)
  carry-built (m ∷ ms) q P l =
      let r = carry-built ms (move_state G m q) P.1 (move-below m q P.0 l) in
      (ap (λ (o : Option ℕ). and_then o (carry (move_on X) ms)) (move-built m q P.0 l) ∙ r.0, r.1)

  pub climb-built : (h c q : ℕ) → h < size G.tree → depth G.tree c ≤ depth G.tree h → q < X.s
      → (climb_on X h (depth G.tree c) q ≡ some (reached (move_states G (climb_moves G.tree h c) q) (length (climb_moves G.tree h c))
      (depth G.tree h - depth G.tree c)))
      × (move_states G (climb_moves G.tree h c) q < X.s)
  unfolding climb_on climb_moves
  climb-built h c q hh l hq =
      let T = climb-tree G.tree h (depth G.tree c) hh l in
      let F = cell_forest X.n X.node_table in
      let tells : Tells F G.tree = λ v hv. (R.cells.parents v hv, R.cells.jumps v hv, R.cells.depths v hv) in
      let e : climb F h (depth G.tree c) ≡ some T.moves =
      same-climb F G.tree R.count tells h (depth G.tree c) hh ∙ T.found in
      let p = same-passed F G.tree R.count tells h (depth G.tree c) T.moves hh l e in
      let r = carry-built T.moves q (climb-proper G.tree h (depth G.tree c) T.moves hh T.found) hq in
      rw (e, r.0, T.found) (ap (λ (z : ℕ). some (reached (move_states G T.moves q) (length T.moves) z)) p, r.1)
