-- The climb of a branch question on tables as built carries a state down through the word.
--     move-parent, move-jump    what a move makes of a state: the word of the labels that it goes over
--     down-built                so the moves of a climb make of it what the whole word makes
use Prim.Native.Nat.{ℕ, ◌+◌, ◌-◌, ◌≤◌, ◌<◌}
use mathlib.Core.Path.{◌≡◌, refl, sym, ap, ◌∙◌, subst}
use mathlib.Core.List.{List, [], ◌∷◌, ◌++◌}
use mathlib.Core.Option.{Option, some, some-injective}
use native.Mathlib.Omega.{arith}
use lib.ListN.{get_or}
use borrow.Author.Tests.{lt-ltb}
use Rattle.trees.specs.Tree.{Tree, size, label_at}
use Rattle.trees.specs.Automaton.{WordAutomaton, word_run}
use Rattle.trees.specs.Numbering.{parent, depth, ancestor, labels_down}
use Rattle.trees.specs.Jumps.{jump, jump_depth}
use Rattle.trees.specs.Climb.{forest_of, Move, via_jump, to_parent, target, and_then, climb}
use Rattle.trees.specs.Tables.{branch_map}
use Rattle.list_laws.proofs.Choice.{le-or}
use Rattle.trees.proofs.NodeLaws.{up, below_root}
use Rattle.trees.proofs.JumpLaws.{jump_depth-le, jump_in, jump-is, depth-jump}
use Rattle.trees.proofs.ClimbLaws.{climb-nil, climb-cons}
use Rattle.trees.proofs.TreeClimbs.{tree-next-jump, tree-next-parent}
use Rattle.trees.proofs.BranchMapLaws.{branch_map-below, word_run-append, word_run-below, labels_down-one, labels_down-add}
use Rattle.formats.specs.Plan.{labels_within, plan_tree}
use Rattle.formats.specs.Rules.{state_count, label_count, branch_steps, branch_automaton}
use Rattle.formats.specs.Built.{BranchBuilt}
use Rattle.tables.specs.Climbs.{below}
use Rattle.tables.specs.Replays.{state_move, carry_down}
use Rattle.tables.proofs.LookupLaws.{below-yes}
use Rattle.branches.proofs.AskBuilt.{built-label, label_below, built-step, built-map}

module _ (p r node_table state_table : List ℕ) (D : BranchBuilt p r node_table state_table) where
  abbrev t : Tree
  t = plan_tree p

  abbrev B : WordAutomaton
  B = branch_automaton r

  abbrev act : Move → ℕ → Option ℕ
  act = state_move (state_count r) (label_count r) (labels_within p) (branch_steps r) state_table

  move-parent : (v q : ℕ) → act (to_parent v) q ≡ some (word_run B q (labels_down t v 1))
  unfolding state_move
  move-parent v q =
      rw (
        lt-ltb (get_or (labels_within p) v 0) (label_count r) (label_below p r node_table state_table D v),
        built-label p r node_table state_table D v,
        labels_down-one t v,
      )
      (below-yes (state_count r) (B.step q (label_at t v)) (built-step p r node_table state_table D q (label_at t v)))

  -- a jump's map is the word of the labels down from the jump
  move-jump : (v q : ℕ) → v < size t → q < state_count r
      → act (via_jump v) q ≡ some (word_run B q (labels_down t v (depth t v - depth t (jump t v))))
  unfolding state_move branch_map
  move-jump v q h l =
      ap (below (state_count r)) (built-map p r node_table state_table D v q h l)
      ∙ below-yes (state_count r) (branch_map B t v q) (branch_map-below B t (built-step p r node_table state_table D) v q l)

  -- one move of n labels, and the rest above it
  one_more : (m : Move) (ms : List Move) (w u n to q : ℕ) → q < state_count r
      → ((x : ℕ) → x < state_count r → act m x ≡ some (word_run B x (labels_down t w n)))
      → u ≡ ancestor t w n → depth t u + n ≡ depth t w → to ≤ depth t u
      → carry_down act ms q ≡ some (word_run B q (labels_down t u (depth t u - to)))
      → carry_down act (m ∷ ms) q ≡ some (word_run B q (labels_down t w (depth t w - to)))
  one_more m ms w u n to q h a e d l c =
      let k : n + (depth t u - to) ≡ depth t w - to = omega arith in
      let j : ℕ = depth t u - to in
      ap (λ (o : Option ℕ). and_then o (act m)) c
      ∙ a (word_run B q (labels_down t u j)) (word_run-below B (built-step p r node_table state_table D) q (labels_down t u j) h)
      ∙ ap some (sym (word_run-append B q (labels_down t u j) (labels_down t w n)))
      ∙ ap (λ (v : ℕ). some (word_run B q (labels_down t v j ++ labels_down t w n))) e
      ∙ ap (λ (x : List ℕ). some (word_run B q x)) (sym (labels_down-add t w n j) ∙ ap (labels_down t w) k)

  pub down-built : (w to q : ℕ) (ms : List Move) → w < size (plan_tree p) → q < state_count r → to ≤ depth (plan_tree p) w
      → climb (forest_of (plan_tree p)) w to ≡ some ms
      → carry_down (state_move (state_count r) (label_count r) (labels_within p) (branch_steps r) state_table) ms q
      ≡ some (word_run (branch_automaton r) q (labels_down (plan_tree p) w (depth (plan_tree p) w - to)))
  unfolding labels_down ancestor
  down-built w to q [] h i l e =
      let z : 0 ≡ depth t w - to = omega (arith, climb-nil (forest_of t) w to e) in
      ap (λ (j : ℕ). some (word_run B q (labels_down t w j))) z
  down-built w to q (m ∷ ms) h i l e =
      let s = climb-cons (forest_of t) w to m ms e in
      let r : w + 1 < size t = below_root t w h (omega (arith, s.deeper)) in
      le-or to (jump_depth (depth t w))
      (λ j.
      let u : ℕ = jump t w in
      let d : depth t u ≡ jump_depth (depth t w) = depth-jump t w h in
      let z : m ≡ via_jump w =
      some-injective m (via_jump w) (sym s.next ∙ tree-next-jump t w to h s.deeper j) in
      let c : climb (forest_of t) u to ≡ some ms =
      subst (λ (k : Move). climb (forest_of t) (target (forest_of t) k) to ≡ some ms) z s.more in
      let b : depth t u ≤ depth t w = omega (arith, jump_depth-le (depth t w)) in
      one_more m ms w u (depth t w - depth t u) to q i
      (λ x y. ap (λ (k : Move). act k x) z ∙ move-jump w x h y)
      (jump-is t w (depth t u) h (sym d)) (omega arith) (omega arith)
      (down-built u to q ms (jump_in t w h) i (omega arith) c))
      (λ j.
      let u : ℕ = parent t w in
      let g = up t w r in
      let z : m ≡ to_parent w =
      some-injective m (to_parent w) (sym s.next ∙ tree-next-parent t w to h s.deeper j) in
      let c : climb (forest_of t) u to ≡ some ms =
      subst (λ (k : Move). climb (forest_of t) (target (forest_of t) k) to ≡ some ms) z s.more in
      one_more m ms w u 1 to q i (λ x y. ap (λ (k : Move). act k x) z ∙ move-parent w x) refl (omega (arith, g.deeper))
      (omega (arith, g.deeper, s.deeper))
      (down-built u to q ms g.below i (omega (arith, g.deeper, s.deeper)) c))
