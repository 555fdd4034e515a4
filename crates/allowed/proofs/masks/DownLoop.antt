-- The iterations of the pass down for the masks.
--     leaf-labels, inner-labels   the labels that are written are the allowed ones
--     down-next, node-args        one node more, and what its iteration needs
use Prim.Native.Nat.{ℕ, ◌+◌, ◌-◌, ◌*◌, ◌≤◌, ◌<◌}
use mathlib.Core.Path.{◌≡◌, sym, ap, ap₂, ◌∙◌, subst}
use mathlib.Core.List.{List}
use mathlib.Core.Logic.{◌⊎◌, inl, inr}
use native.Mathlib.Decide.{ℕ_discrete}
use native.Mathlib.Omega.{arith}
use lib.ListN.{length, get_or, set, length-set}
use lib.Seq.{get_or-set_same, get_or-set_other}
use borrow.Author.Tests.{eq-eqb, ne_eqb}
use Rattle.trees.specs.Tree.{Tree, kinds_of, labels_of, size, kind_at}
use Rattle.trees.specs.Automaton.{state}
use Rattle.trees.specs.Numbering.{sub, parent}
use Rattle.trees.proofs.NodeLaws.{Inner, inner, Up, up, sub-leaf, size-pos}
use Rattle.trees.proofs.PostorderLaws.{postorder-tree, size_of, kind-of}
use Rattle.trees.proofs.RunLaws.{Children, children}
use Rattle.formats.specs.Rules.{tree_automaton}
use Rattle.state_sets.specs.StateSets.{member}
use Rattle.state_sets.specs.inner.Gather.{gathered_from}
use Rattle.state_sets.proofs.SetLaws.{set_of-ext}
use Rattle.allowed.specs.Allowed.{allowed_set}
use Rattle.allowed.specs.Clearing.{label_state, state_with, clearing_set}
use Rattle.allowed.specs.inner.Inputs.{left_child, PassArgs}
use Rattle.allowed.specs.inner.Sets.{right_set, left_set}
use Rattle.allowed.specs.inner.masks.Cells.{size_in, state_in, set_in}
use Rattle.allowed.specs.inner.masks.Up.{left_within, run_cell}
use Rattle.allowed.specs.inner.masks.Down.{inner_labels, leaf_labels, leaf_down, left_state, right_state, inner_down}
use Rattle.allowed.specs.inner.masks.Down.{node_down, InnerDownArgs, NodeDownArgs, full_cell, DownDone, DownWritten}
use Rattle.allowed.proofs.Theorems.{allowed-by-set}
use Rattle.allowed.proofs.StepLaws as steps
use Rattle.allowed.proofs.StepLaws.{run_below, next-below, leaf-args, set-args}
use Rattle.allowed.proofs.masks.CellLaws.{size-packed, state-packed, set-packed}

-- ---- an iteration, by the node's kind

module _ (ks ls lv inn : List ℕ) (s k : ℕ) (b : List ℕ) (v : ℕ) where
  pub leaf-case : get_or ks v 0 ≡ 0 → leaf_down b lv k v ≡ node_down ks ls lv inn s k b v
  unfolding node_down
  leaf-case e = rw (eq-eqb (get_or ks v 0) 0 e)

  pub inner-case : (get_or ks v 0 ≡ 0 → ⊥) → inner_down b inn s k v (get_or ls v 0) ≡ node_down ks ls lv inn s k b v
  unfolding node_down
  inner-case e = rw (ne_eqb (get_or ks v 0) 0 e)

module _ (ks ls lv inn : List ℕ) (s k : ℕ) (G : PassArgs ks ls lv inn s k) where
  -- ---- one tree

  module _ (mk : List ℕ) (t : Tree) (x : kinds_of t ≡ ks) (y : labels_of t ≡ ls) where
    n_is : length ks ≡ size t
    n_is = size_of t ks x

    size_low : (v : ℕ) → v < size t → size (sub t v) < 65536
    size_low = steps.size_low ks ls lv inn s k G mk t x y

    state-low : (v : ℕ) → state (tree_automaton s k lv inn mk) (sub t v) < 16
    state-low = steps.state-low ks ls lv inn s k G mk t x y

    clearing-low : (v : ℕ) → clearing_set (tree_automaton s k lv inn mk) t v < 65536
    clearing-low = steps.clearing-low ks ls lv inn s k G mk t x y

    -- the labels of a leaf
    leaf-labels : (v : ℕ) → v < size t → kind_at t v ≡ 0
        → leaf_labels lv k (clearing_set (tree_automaton s k lv inn mk) t v) ≡ allowed_set (tree_automaton s k lv inn mk) k t v
    unfolding gathered_from state_with
    leaf-labels v h e =
        set_of-ext k _ _ (λ a _. ap (member (clearing_set (tree_automaton s k lv inn mk) t v))
        (let z : 0 + a * 1 ≡ a = omega arith in ap (λ (j : ℕ). get_or lv j 0) z
        ∙ sym (ap (label_state (tree_automaton s k lv inn mk) a) (sub-leaf t v h e))))
        ∙ sym (allowed-by-set (tree_automaton s k lv inn mk) t G.leaf_below (next-below ks ls lv inn s k G) k v h)

    module _ (v : ℕ) (h : v < size t) (e : kind_at t v ≡ 1) where
      kin : Children t v
      kin = children t v h (λ z. omega arith)

      -- the labels of an inner node
      inner-labels : inner_labels inn s k (state (tree_automaton s k lv inn mk) (sub t (left_child t v)))
          (state (tree_automaton s k lv inn mk) (sub t (v - 1))) (clearing_set (tree_automaton s k lv inn mk) t v)
          ≡ allowed_set (tree_automaton s k lv inn mk) k t v
      unfolding gathered_from state_with
      inner-labels =
          set_of-ext k _ _ (λ a _. ap (member (clearing_set (tree_automaton s k lv inn mk) t v))
          (place (state (tree_automaton s k lv inn mk) (sub t (left_child t v))) a (state (tree_automaton s k lv inn mk) (sub t (v - 1)))
          ∙ sym (ap (label_state (tree_automaton s k lv inn mk) a) kin.is)))
          ∙ sym (allowed-by-set (tree_automaton s k lv inn mk) t G.leaf_below (next-below ks ls lv inn s k G) k v h)
        where
          place : (p a q : ℕ) → get_or inn (p * k * s + q + a * s) 0 ≡ get_or inn ((p * k + a) * s + q) 0
          place p a q = let z : p * k * s + q + a * s ≡ (p * k + a) * s + q = omega arith in ap (λ (j : ℕ). get_or inn j 0) z

    -- ---- one node more

    module _ (i : ℕ) (before b : List ℕ) (T : DownDone (tree_automaton s k lv inn mk) k t (i + 1) before b) (h : i < size t)
        (room : size t ≤ length b) where
      own-set : set_in (get_or b i 0) ≡ clearing_set (tree_automaton s k lv inn mk) t i
      own-set = ap set_in (T.given i (omega arith) (λ r. omega (arith, (up t i r).above)))
          ∙ set-packed (size (sub t i)) (state (tree_automaton s k lv inn mk) (sub t i)) (clearing_set (tree_automaton s k lv inn mk) t i)
          (size_low i h) (state-low i) (clearing-low i)

      leaf-next : kind_at t i ≡ 0 → DownDone (tree_automaton s k lv inn mk) k t i before (leaf_down b lv k i)
      unfolding leaf_down
      leaf-next e =
          let m : ℕ = leaf_labels lv k (set_in (get_or b i 0)) in
          let z : leaf_labels lv k (set_in (get_or b i 0)) ≡ allowed_set (tree_automaton s k lv inn mk) k t i =
          ap (leaf_labels lv k) own-set ∙ leaf-labels i h e in
          record {
            done = λ v l g. elim (ℕ_discrete v i) [
              | yes q ↦ rw q (get_or-set_same b i m 0 (omega arith) ∙ z)
              | no q ↦ get_or-set_other b i v m 0 q ∙ T.done v (omega arith) g
            ];
            given = λ v l g. get_or-set_other b i v m 0 (omega arith)
                ∙ T.given v (omega arith) (λ r. omega (arith, g r, no-parent v r));
            plain = λ v l r g. get_or-set_other b i v m 0 (omega arith) ∙ T.plain v (omega arith) r (omega arith);
            kept = λ j l. get_or-set_other b i j m 0 (omega arith) ∙ T.kept j l;
          }
        where
          no-parent : (v : ℕ) → v + 1 < size t → parent t v ≡ i → ⊥
          no-parent v r q = omega (arith, e, (up t v r).inside, ap (kind_at t) q)

      module _ (e : kind_at t i ≡ 1) where
        I : Inner t i
        I = inner t i h (λ z. omega arith)

        K : Children t i
        K = children t i h (λ z. omega arith)

        left-parent-is : parent t (left_child t i) ≡ i
        left-parent-is =
            let z : left_child t i ≡ I.left = omega (arith, I.at) in ap (parent t) z ∙ I.left_up

        right-cell : get_or b (i - 1) 0 ≡ run_cell (tree_automaton s k lv inn mk) t (i - 1)
        right-cell = T.plain (i - 1) (omega (arith, K.pos)) (omega (arith, K.pos)) (omega (arith, I.right-up))

        left-cell : get_or b (left_child t i) 0 ≡ run_cell (tree_automaton s k lv inn mk) t (left_child t i)
        left-cell = T.plain (left_child t i) (omega (arith, K.left_in)) (omega (arith, K.left_in)) (omega (arith, left-parent-is))

        right-size : size_in (get_or b (i - 1) 0) ≡ size (sub t (i - 1))
        right-size = ap size_in right-cell
            ∙ size-packed (size (sub t (i - 1))) (state (tree_automaton s k lv inn mk) (sub t (i - 1))) 0
            (size_low (i - 1) (omega (arith, K.pos))) (state-low (i - 1))

        pub left_is : left_within b i ≡ left_child t i
        left_is = omega (arith, right-size)

        right-state : right_state b i ≡ state (tree_automaton s k lv inn mk) (sub t (i - 1))
        right-state = ap state_in right-cell
            ∙ state-packed (size (sub t (i - 1))) (state (tree_automaton s k lv inn mk) (sub t (i - 1))) 0
            (size_low (i - 1) (omega (arith, K.pos))) (state-low (i - 1))

        left-cell-in : get_or b (left_within b i) 0 ≡ run_cell (tree_automaton s k lv inn mk) t (left_child t i)
        left-cell-in = ap (λ (u : ℕ). get_or b u 0) left_is ∙ left-cell

        left-state : left_state b i ≡ state (tree_automaton s k lv inn mk) (sub t (left_child t i))
        left-state = ap state_in left-cell-in
            ∙ state-packed (size (sub t (left_child t i))) (state (tree_automaton s k lv inn mk) (sub t (left_child t i))) 0
            (size_low (left_child t i) (omega (arith, K.left_in))) (state-low (left_child t i))

        -- the three numbers that are written
        right_new : get_or b (i - 1) 0 + 1048576 * right_set inn s k (left_state b i) (get_or ls i 0) (set_in (get_or b i 0))
            ≡ full_cell (tree_automaton s k lv inn mk) t (i - 1)
        right_new =
            let z : right_set inn s k (left_state b i) (get_or ls i 0) (set_in (get_or b i 0))
            ≡ clearing_set (tree_automaton s k lv inn mk) t (i - 1) =
            ap₂ (λ (p c : ℕ). right_set inn s k p (get_or ls i 0) c) left-state own-set ∙ steps.right-states ks ls lv inn s k G mk t x y i h (λ z. omega arith) in
            omega (arith, right-cell, z)

        left-new : get_or b (left_within b i) 0 + 1048576 * left_set inn s k (get_or ls i 0) (right_state b i) (set_in (get_or b i 0))
            ≡ full_cell (tree_automaton s k lv inn mk) t (left_child t i)
        left-new =
            let z : left_set inn s k (get_or ls i 0) (right_state b i) (set_in (get_or b i 0))
            ≡ clearing_set (tree_automaton s k lv inn mk) t (left_child t i) =
            ap₂ (λ (q c : ℕ). left_set inn s k (get_or ls i 0) q c) right-state own-set ∙ steps.left-states ks ls lv inn s k G mk t x y i h (λ z. omega arith) in
            omega (arith, left-cell-in, z)

        own_new : inner_labels inn s k (left_state b i) (right_state b i) (set_in (get_or b i 0))
            ≡ allowed_set (tree_automaton s k lv inn mk) k t i
        own_new = ap₂ (λ (p q : ℕ). inner_labels inn s k p q (set_in (get_or b i 0))) left-state right-state
            ∙ ap (inner_labels inn s k (state (tree_automaton s k lv inn mk) (sub t (left_child t i)))
            (state (tree_automaton s k lv inn mk) (sub t (i - 1)))) own-set
            ∙ inner-labels i h e

        after-inner : List ℕ
        after-inner = set (set (set b (i - 1) (full_cell (tree_automaton s k lv inn mk) t (i - 1)))
            (left_child t i) (full_cell (tree_automaton s k lv inn mk) t (left_child t i))) i (allowed_set (tree_automaton s k lv inn mk) k t i)

        cells_are : inner_down b inn s k i (get_or ls i 0) ≡ after-inner
        unfolding inner_down after-inner
        cells_are = rw (right_new, left-new, own_new, left_is)

        apart : (j : ℕ) → (j ≡ i → ⊥) → (j ≡ left_child t i → ⊥) → (j ≡ i - 1 → ⊥) → get_or after-inner j 0 ≡ get_or b j 0
        unfolding after-inner
        apart j n l r =
            get_or-set_other (set (set b (i - 1) (full_cell (tree_automaton s k lv inn mk) t (i - 1))) (left_child t i)
            (full_cell (tree_automaton s k lv inn mk) t (left_child t i))) i j (allowed_set (tree_automaton s k lv inn mk) k t i) 0 n
            ∙ get_or-set_other (set b (i - 1) (full_cell (tree_automaton s k lv inn mk) t (i - 1))) (left_child t i) j
            (full_cell (tree_automaton s k lv inn mk) t (left_child t i)) 0 l
            ∙ get_or-set_other b (i - 1) j (full_cell (tree_automaton s k lv inn mk) t (i - 1)) 0 r

        at_own : get_or after-inner i 0 ≡ allowed_set (tree_automaton s k lv inn mk) k t i
        unfolding after-inner
        at_own = get_or-set_same (set (set b (i - 1) (full_cell (tree_automaton s k lv inn mk) t (i - 1))) (left_child t i)
            (full_cell (tree_automaton s k lv inn mk) t (left_child t i))) i (allowed_set (tree_automaton s k lv inn mk) k t i) 0
            (simp length-set (omega arith))

        at_left : get_or after-inner (left_child t i) 0 ≡ full_cell (tree_automaton s k lv inn mk) t (left_child t i)
        unfolding after-inner
        at_left =
            get_or-set_other (set (set b (i - 1) (full_cell (tree_automaton s k lv inn mk) t (i - 1))) (left_child t i)
            (full_cell (tree_automaton s k lv inn mk) t (left_child t i))) i (left_child t i)
            (allowed_set (tree_automaton s k lv inn mk) k t i) 0 (λ q. omega (arith, K.left_in))
            ∙ get_or-set_same (set b (i - 1) (full_cell (tree_automaton s k lv inn mk) t (i - 1))) (left_child t i)
            (full_cell (tree_automaton s k lv inn mk) t (left_child t i)) 0 (simp length-set (omega (arith, K.left_in)))

        at_right : get_or after-inner (i - 1) 0 ≡ full_cell (tree_automaton s k lv inn mk) t (i - 1)
        unfolding after-inner
        at_right =
            get_or-set_other (set (set b (i - 1) (full_cell (tree_automaton s k lv inn mk) t (i - 1))) (left_child t i)
            (full_cell (tree_automaton s k lv inn mk) t (left_child t i))) i (i - 1)
            (allowed_set (tree_automaton s k lv inn mk) k t i) 0 (λ q. omega (arith, K.pos))
            ∙ get_or-set_other (set b (i - 1) (full_cell (tree_automaton s k lv inn mk) t (i - 1))) (left_child t i) (i - 1)
            (full_cell (tree_automaton s k lv inn mk) t (left_child t i)) 0
            (λ q. omega (arith, K.pos, K.right-size, size-pos (sub t (i - 1))))
            ∙ get_or-set_same b (i - 1) (full_cell (tree_automaton s k lv inn mk) t (i - 1)) 0 (omega arith)

        -- a node whose parent is i is one of its children
        child-is : (v : ℕ) → v + 1 < size t → parent t v ≡ i → (v ≡ i - 1) ⊎ (v ≡ left_child t i)
        child-is v r q =
            let U : Up t v i = subst (Up t v) q (up t v r) in
            elim U.child [ inl c ↦ inl (omega arith) | inr c ↦ inr (omega arith) ]

        not-child : (v : ℕ) → v + 1 < size t → (v ≡ i - 1 → ⊥) → (v ≡ left_child t i → ⊥) → parent t v ≡ i → ⊥
        not-child v r q p z = elim (child-is v r z) [ inl c ↦ q c | inr c ↦ p c ]

        inner-done : DownDone (tree_automaton s k lv inn mk) k t i before after-inner
        inner-done = record {
          done = λ v l g. elim (ℕ_discrete v i) [
            | yes q ↦ rw q at_own
            | no q ↦ apart v q (λ z. omega (arith, K.left_in)) (λ z. omega (arith, K.pos)) ∙ T.done v (omega arith) g
          ];
          given = λ v l g. elim (ℕ_discrete v (i - 1)) [
            | yes q ↦ rw q at_right
            | no q ↦ elim (ℕ_discrete v (left_child t i)) [
              | yes p ↦ rw p at_left
              | no p ↦ apart v (omega arith) p q ∙ T.given v (omega arith)
                  (λ r. omega (arith, g r, not-child v r q p))
            ]
          ];
          plain = λ v l r g. apart v (omega arith) (λ z. omega (arith, left-parent-is, ap (parent t) z))
              (λ z. omega (arith, I.right-up, ap (parent t) z)) ∙ T.plain v (omega arith) r (omega arith);
          kept = λ j l. apart j (omega arith) (λ z. omega (arith, K.left_in)) (λ z. omega (arith, K.pos)) ∙ T.kept j l;
        }

        inner-next : DownDone (tree_automaton s k lv inn mk) k t i before (inner_down b inn s k i (get_or ls i 0))
        inner-next = subst (DownDone (tree_automaton s k lv inn mk) k t i before) (sym cells_are) inner-done

        inner-args : InnerDownArgs b inn s k i (get_or ls i 0)
        inner-args = record {
          pos = K.pos;
          inside = omega arith;
          left_in = omega (arith, right-size, K.right-size);
          right_low = omega (arith, right-cell, size_low (i - 1) (omega (arith, K.pos)), state-low (i - 1));
          left_low = omega (arith, left-cell-in, size_low (left_child t i) (omega (arith, K.left_in)), state-low (left_child t i));
          sets = set-args ks ls lv inn s k G (left_state b i) (get_or ls i 0) (right_state b i)
              (omega (arith, left-state, run_below ks ls lv inn s k G mk (sub t (left_child t i)))) (G.below i)
              (omega (arith, right-state, run_below ks ls lv inn s k G mk (sub t (i - 1))));
        }

      -- an inner node's kind is 1
      inner-kind : (kind_at t i ≡ 0 → ⊥) → kind_at t i ≡ 1
      inner-kind z =
          let J : Inner t i = inner t i h z in
          ap (kind_at t) (sym J.right-up) ∙ (up t (i - 1) (omega (arith, J.at))).inside

      node-next : DownDone (tree_automaton s k lv inn mk) k t i before (node_down ks ls lv inn s k b i)
      unfolding node_down
      node-next = elim (ℕ_discrete (kind_at t i) 0) [
        | yes e ↦ rw (eq-eqb (get_or ks i 0) 0 (sym (kind-of t ks i x) ∙ e)) (leaf-next e)
        | no e ↦ rw (ne_eqb (get_or ks i 0) 0 (λ z. e (kind-of t ks i x ∙ z))) (inner-next (inner-kind e))
      ]

      down-args : NodeDownArgs ks ls lv inn s k b i
      down-args = record {
        kind_in = omega (arith, n_is);
        label_in = omega (arith, n_is, G.count);
        leaf = record { inside = omega arith; labels = leaf-args ks ls lv inn s k G };
        inner = λ z. inner-args (inner-kind (λ q. z (sym (kind-of t ks i x) ∙ q)));
      }

  -- ---- the same, of every tree with these kinds and labels

  module _ (i : ℕ) (b : List ℕ) (h : i < length ks) (room : length ks ≤ length b) where
    pub down-next : (mk before : List ℕ) → DownWritten ks ls lv inn mk s k (i + 1) before b
        → DownWritten ks ls lv inn mk s k i before (node_down ks ls lv inn s k b i)
    down-next mk before D t x y =
        let n : length ks ≡ size t = size_of t ks x in
        node-next mk t x y i before b (D t x y) (omega arith) (omega arith)

    pub node-args : (mk before : List ℕ) → DownWritten ks ls lv inn mk s k (i + 1) before b → NodeDownArgs ks ls lv inn s k b i
    node-args mk before D =
        let T : (t : Tree) × (kinds_of t ≡ ks) × (labels_of t ≡ ls) = postorder-tree ks ls G.count G.postorder in
        let n : length ks ≡ size T.0 = size_of T.0 ks T.1 in
        down-args mk T.0 T.1 T.2 i before b (D T.0 T.1 T.2) (omega arith) (omega arith)
