-- The run over the plan as it is.
--     mark-in, root-marked   the root's state is in the last number that is written
use Prim.Native.Nat.{ℕ, ◌+◌, ◌-◌, ◌*◌, ◌<◌}
use mathlib.Core.Path.{◌≡◌, ap, ◌∙◌}
use mathlib.Core.List.{List, []}
use native.Mathlib.Omega.{arith}
use lib.ListN.{length, get_or}
use Rattle.trees.specs.Tree.{Tree, kinds_of, labels_of, size}
use Rattle.trees.specs.Automaton.{state}
use Rattle.trees.specs.Numbering.{sub}
use Rattle.trees.proofs.NodeLaws.{sub-root, size-pos}
use Rattle.trees.proofs.PostorderLaws.{postorder-tree, size_of}
use Rattle.formats.specs.Rules.{tree_automaton}
use Rattle.allowed.specs.inner.Inputs.{PassArgs}
use Rattle.allowed.specs.inner.masks.Cells.{state_in}
use Rattle.allowed.specs.inner.masks.Up.{UpWritten}
use Rattle.allowed.proofs.StepLaws.{run_below}
use Rattle.allowed.proofs.masks.CellLaws.{state-packed}
use Rattle.fewest.specs.inner.Marked.{RootMarked}

module _ (ks ls lv inn : List ℕ) (s k : ℕ) (G : PassArgs ks ls lv inn s k) (before after : List ℕ)
    (U : UpWritten ks ls lv inn s k (length ks) before after) where
  -- of one tree
  root-state : (mk : List ℕ) (t : Tree) → kinds_of t ≡ ks → labels_of t ≡ ls
      → state_in (get_or after (length ks - 1) 0) ≡ state (tree_automaton s k lv inn mk) t
  root-state mk t x y =
      let n : length ks ≡ size t = size_of t ks x in
      let e : sub t (length ks - 1) ≡ t = sub-root t (length ks - 1) (omega (arith, size-pos t)) in
      let q : state (tree_automaton s k lv inn mk) t < 16 = omega (arith, run_below ks ls lv inn s k G mk t, G.few) in
      ap state_in ((U mk t x y).cells (length ks - 1) (omega (arith, size-pos t))
      ∙ ap (λ (u : Tree). size u + 65536 * state (tree_automaton s k lv inn mk) u + 1048576 * 0) e)
      ∙ state-packed (size t) (state (tree_automaton s k lv inn mk) t) 0 (omega (arith, G.most)) q

  pub mark-in : state_in (get_or after (length ks - 1) 0) < s
  mark-in =
      let T : (t : Tree) × (kinds_of t ≡ ks) × (labels_of t ≡ ls) = postorder-tree ks ls G.count G.postorder in
      omega (arith, root-state [] T.0 T.1 T.2, run_below ks ls lv inn s k G [] T.0)

  pub root-marked : (mk : List ℕ) → RootMarked ks ls lv inn mk s k before (get_or mk (state_in (get_or after (length ks - 1) 0)) 0) after
  root-marked mk = record {
    mark = λ t x y. ap (λ (q : ℕ). get_or mk q 0) (root-state mk t x y);
    kept = λ j h.
        let T : (t : Tree) × (kinds_of t ≡ ks) × (labels_of t ≡ ls) = postorder-tree ks ls G.count G.postorder in
        (U mk T.0 T.1 T.2).kept j h;
  }
