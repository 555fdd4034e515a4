-- The iterations of the pass up for the masks.
--     up_start, up_next    before the first node, and one node more
--     node-args            what an iteration needs
use Prim.Native.Nat.{ℕ, ◌+◌, ◌-◌, ◌*◌, ◌≤◌, ◌<◌}
use mathlib.Core.Path.{◌≡◌, refl, sym, ap, ap₂, ◌∙◌}
use mathlib.Core.List.{List, []}
use native.Mathlib.Decide.{ℕ_discrete}
use native.Mathlib.Omega.{arith}
use lib.ListN.{length, get_or, set}
use lib.Seq.{get_or-set_same, get_or-set_other}
use borrow.Author.Tests.{eq-eqb, ne_eqb}
use Rattle.trees.specs.Tree.{Tree, kinds_of, labels_of, size, kind_at}
use Rattle.trees.specs.Automaton.{state}
use Rattle.trees.specs.Numbering.{sub}
use Rattle.trees.proofs.NodeLaws.{sub-size}
use Rattle.trees.proofs.PostorderLaws.{postorder-tree, size_of, kind-of}
use Rattle.trees.proofs.RunLaws.{Children, children, state-leaf, state-inner, size-leaf, size-inner}
use Rattle.formats.specs.Rules.{tree_automaton}
use Rattle.allowed.specs.inner.masks.Cells.{packed_cell, size_in, state_in}
use Rattle.allowed.specs.inner.masks.Up.{left_within, inner_cell, node_cell, InnerCellArgs, NodeCellArgs}
use Rattle.allowed.specs.inner.masks.Up.{run_cell, UpWritten}
use Rattle.allowed.specs.inner.Inputs.{PassArgs}
use Rattle.allowed.proofs.StepLaws.{rule-args, run_below}
use Rattle.allowed.proofs.masks.CellLaws.{size-packed, state-packed}

-- ---- what a node gets, by its kind

module _ (ks ls lv inn : List ℕ) (s k : ℕ) (b : List ℕ) (v : ℕ) where
  pub leaf-cell : get_or ks v 0 ≡ 0 → 1 + 65536 * get_or lv (get_or ls v 0) 0 ≡ node_cell ks ls lv inn s k b v
  unfolding node_cell
  leaf-cell e = rw (eq-eqb (get_or ks v 0) 0 e) (omega arith)

  pub inner-cell : (get_or ks v 0 ≡ 0 → ⊥) → inner_cell b inn s k v (get_or ls v 0) ≡ node_cell ks ls lv inn s k b v
  unfolding node_cell
  inner-cell e = rw (ne_eqb (get_or ks v 0) 0 e)

-- ---- one node more

pub up_start : (ks ls lv inn : List ℕ) (s k : ℕ) (b : List ℕ) → UpWritten ks ls lv inn s k 0 b b
up_start ks ls lv inn s k b mk t x y = record { cells = λ v h. absurd (omega arith); kept = λ j h. refl }

module _ (ks ls lv inn : List ℕ) (s k : ℕ) (G : PassArgs ks ls lv inn s k) where
  module _ (i : ℕ) (b₀ b : List ℕ) (h : i < length ks) (all : UpWritten ks ls lv inn s k i b₀ b) where
    -- of one tree
    module _ (mk : List ℕ) (t : Tree) (x : kinds_of t ≡ ks) (y : labels_of t ≡ ls) where
      n_is : length ks ≡ size t
      n_is = size_of t ks x

      at : (v : ℕ) → v < i → (size_in (get_or b v 0) ≡ size (sub t v)) × (state_in (get_or b v 0) ≡ state (tree_automaton s k lv inn mk) (sub t v))
      at v l =
          let e : get_or b v 0 ≡ run_cell (tree_automaton s k lv inn mk) t v = (all mk t x y).cells v l in
          let z : size (sub t v) < 65536 = omega (arith, sub-size t v (omega (arith, n_is)), G.most, n_is) in
          let q : state (tree_automaton s k lv inn mk) (sub t v) < 16 = omega (arith, run_below ks ls lv inn s k G mk (sub t v), G.few) in (
            ap size_in e ∙ size-packed (size (sub t v)) (state (tree_automaton s k lv inn mk) (sub t v)) 0 z q,
            ap state_in e ∙ state-packed (size (sub t v)) (state (tree_automaton s k lv inn mk) (sub t v)) 0 z q,
          )

      module _ (c : kind_at t i ≡ 0 → ⊥) where
        kin : Children t i
        kin = children t i (omega (arith, n_is)) c

        right-size : size_in (get_or b (i - 1) 0) ≡ size (sub t (i - 1))
        right-size = (at (i - 1) (omega (arith, kin.pos))).0

        left_is : left_within b i ≡ i - 1 - size (sub t (i - 1))
        left_is = omega (arith, right-size)

        right-state : state_in (get_or b (i - 1) 0) ≡ state (tree_automaton s k lv inn mk) (sub t (i - 1))
        right-state = (at (i - 1) (omega (arith, kin.pos))).1

        left-size : size_in (get_or b (left_within b i) 0) ≡ size (sub t (i - 1 - size (sub t (i - 1))))
        left-size = ap (λ (u : ℕ). size_in (get_or b u 0)) left_is ∙ (at (i - 1 - size (sub t (i - 1))) kin.left_in).0

        left-state : state_in (get_or b (left_within b i) 0) ≡ state (tree_automaton s k lv inn mk) (sub t (i - 1 - size (sub t (i - 1))))
        left-state = ap (λ (u : ℕ). state_in (get_or b u 0)) left_is ∙ (at (i - 1 - size (sub t (i - 1))) kin.left_in).1

        inner-is : inner_cell b inn s k i (get_or ls i 0) ≡ run_cell (tree_automaton s k lv inn mk) t i
        unfolding inner_cell
        inner-is = ap₂ (λ (z q : ℕ). packed_cell z q 0)
            (ap₂ (λ (u w : ℕ). u + w + 1) left-size right-size ∙ sym (size-inner t i (omega (arith, n_is)) c))
            (ap₂ (λ (p q : ℕ). get_or inn ((p * k + get_or ls i 0) * s + q) 0) left-state right-state
            ∙ ap (λ (l : List ℕ). get_or inn ((state (tree_automaton s k lv inn mk) (sub t (i - 1 - size (sub t (i - 1)))) * k + get_or l i 0) * s
            + state (tree_automaton s k lv inn mk) (sub t (i - 1))) 0) (sym y)
            ∙ sym (state-inner (tree_automaton s k lv inn mk) t i (omega (arith, n_is)) c))

        cell-args : i ≤ length b → InnerCellArgs b inn s k i (get_or ls i 0)
        cell-args room = record {
          pos = kin.pos;
          inside = room;
          left_in = omega (arith, right-size, kin.right-size);
          fits = omega (arith, left-size, right-size, size-inner t i (omega (arith, n_is)) c, sub-size t i (omega (arith, n_is)), G.most, n_is);
          rule = rule-args ks ls lv inn s k (state_in (get_or b (left_within b i) 0)) (get_or ls i 0) (state_in (get_or b (i - 1) 0)) G
              (omega (arith, left-state, run_below ks ls lv inn s k G mk (sub t (i - 1 - size (sub t (i - 1)))))) (G.below i)
              (omega (arith, right-state, run_below ks ls lv inn s k G mk (sub t (i - 1))));
          below = λ j. omega (arith, G.inner_below j, G.few);
        }

      node-is : node_cell ks ls lv inn s k b i ≡ run_cell (tree_automaton s k lv inn mk) t i
      unfolding node_cell
      node-is = elim (ℕ_discrete (kind_at t i) 0) [
        | yes e ↦ rw (eq-eqb (get_or ks i 0) 0 (sym (kind-of t ks i x) ∙ e))
            (ap₂ (λ (z q : ℕ). packed_cell z q 0) (sym (size-leaf t i (omega (arith, n_is)) e))
            (ap (λ (l : List ℕ). get_or lv (get_or l i 0) 0) (sym y)
            ∙ sym (state-leaf (tree_automaton s k lv inn mk) t i (omega (arith, n_is)) e)))
        | no e ↦ rw (ne_eqb (get_or ks i 0) 0 (λ z. e (kind-of t ks i x ∙ z))) (inner-is e)
      ]

    pub up_next : length ks ≤ length b → UpWritten ks ls lv inn s k (i + 1) b₀ (set b i (node_cell ks ls lv inn s k b i))
    up_next room mk t x y = record {
      cells = λ v l. elim (ℕ_discrete v i) [
        | yes e ↦ rw e (get_or-set_same b i (node_cell ks ls lv inn s k b i) 0 (omega arith) ∙ node-is mk t x y)
        | no e ↦ get_or-set_other b i v (node_cell ks ls lv inn s k b i) 0 e ∙ (all mk t x y).cells v (omega arith)
      ];
      kept = λ j l. get_or-set_other b i j (node_cell ks ls lv inn s k b i) 0 (omega arith) ∙ (all mk t x y).kept j (omega arith);
    }

    pub node-args : length ks ≤ length b → NodeCellArgs ks ls lv inn s k b i
    node-args room = go (postorder-tree ks ls G.count G.postorder)
      where
        go : ((t : Tree) × (kinds_of t ≡ ks) × (labels_of t ≡ ls)) → NodeCellArgs ks ls lv inn s k b i
        go T = record {
          kind_in = h;
          label_in = omega (arith, G.count);
          leaf_in = omega (arith, G.below i, G.leaf_count);
          leaf_below = λ j. omega (arith, G.leaf_below j, G.few);
          inner = λ z. cell-args [] T.0 T.1 T.2 (λ e. z (sym (kind-of T.0 ks i T.1) ∙ e)) (omega arith);
        }
