-- The iterations of the pass down for the clearing states.
--     leaf-case .. inner-set  an iteration by the node's kind
--     down-next, node-args    one node more, and what its iteration needs
--     down-start, down-end    where the pass begins, and where it ends
use Prim.Native.Nat.{ℕ, ◌+◌, ◌-◌, ◌/◌, ◌%◌, ◌≤◌, ◌<◌}
use mathlib.Core.Path.{◌≡◌, sym, ap, ap₂, ◌∙◌, subst}
use mathlib.Core.List.{List}
use native.Mathlib.Decide.{ℕ_discrete}
use native.Mathlib.Omega.{arith}
use lib.ListN.{length, get_or, set, length-set}
use lib.Seq.{get_or-set_same, get_or-set_other}
use borrow.Author.Tests.{eq-eqb, ne_eqb}
use Rattle.trees.specs.Tree.{Tree, kinds_of, labels_of, size, kind_at}
use Rattle.trees.specs.Automaton.{state}
use Rattle.trees.specs.Numbering.{sub}
use Rattle.trees.proofs.PostorderLaws.{postorder-tree, size_of, kind-of}
use Rattle.trees.proofs.RunLaws.{Children, children}
use Rattle.formats.specs.Rules.{tree_automaton}
use Rattle.allowed.specs.Clearing.{clearing_set}
use Rattle.allowed.specs.inner.Inputs.{left_child, PassArgs}
use Rattle.allowed.specs.inner.Sets.{right_set, left_set, marked_set}
use Rattle.allowed.specs.inner.clearing.Cells.{right_first, pair_cell, first_node_in}
use Rattle.allowed.specs.inner.clearing.Up.{UpDone, UpWritten}
use Rattle.allowed.specs.inner.clearing.Down.{leaf_down, leaf_next, pair_at, inner_down, inner_next, node_down, node_next}
use Rattle.allowed.specs.inner.clearing.Down.{InnerDownArgs, NodeDownArgs, DownDone, DownWritten}
use Rattle.allowed.specs.inner.clearing.Down.{SetsWritten}
use Rattle.allowed.proofs.StepLaws as steps
use Rattle.allowed.proofs.StepLaws.{run_below, set-args, marked-states}
use Rattle.allowed.proofs.clearing.FirstLaws.{first-in, first_leaf, first-once, FirstOf, first_of}
use Rattle.allowed.proofs.clearing.UpLoop.{not-kind, first-is}

-- ---- an iteration, by the node's kind

module _ (ks ls inn : List ℕ) (s k : ℕ) (b : List ℕ) (v c : ℕ) where
  pub leaf-case : get_or ks v 0 ≡ 0 → leaf_down b v c ≡ node_down ks ls inn s k b v c
  unfolding node_down
  leaf-case e = rw (eq-eqb (get_or ks v 0) 0 e)

  pub leaf-set : get_or ks v 0 ≡ 0 → leaf_next b v ≡ node_next ks ls inn s k b v c
  unfolding node_next
  leaf-set e = rw (eq-eqb (get_or ks v 0) 0 e)

  pub inner-case : (get_or ks v 0 ≡ 0 → ⊥) → inner_down ks inn s k b v (get_or ls v 0) c ≡ node_down ks ls inn s k b v c
  unfolding node_down
  inner-case e = rw (ne_eqb (get_or ks v 0) 0 e)

  pub inner-set : (get_or ks v 0 ≡ 0 → ⊥) → inner_next ks inn s k b v (get_or ls v 0) c ≡ node_next ks ls inn s k b v c
  unfolding node_next
  inner-set e = rw (ne_eqb (get_or ks v 0) 0 e)

-- what the iteration of an inner node writes and returns, from the first node that was read
module _ (ks inn : List ℕ) (s k : ℕ) (b : List ℕ) (v a c f : ℕ) (e : f ≡ first_node_in ks b (v - 1)) where
  pub inner_made : (l : ℕ) → l ≡ left_set inn s k a (get_or b f 0 / 16 % 16) c
      → set (set b f l) v c ≡ inner_down ks inn s k b v a c
  unfolding inner_down
  inner_made l g = ap (λ (x : ℕ). set (set b f x) v c) g
      ∙ ap (λ (x : ℕ). set (set b x (left_set inn s k a (get_or b x 0 / 16 % 16) c)) v c) e

  pub inner-returned : (r : ℕ) → r ≡ right_set inn s k (get_or b f 0 % 16) a c → r ≡ inner_next ks inn s k b v a c
  unfolding inner_next
  inner-returned r g = g ∙ ap (λ (x : ℕ). right_set inn s k (get_or b x 0 % 16) a c) e

module _ (ks ls lv inn : List ℕ) (s k : ℕ) (G : PassArgs ks ls lv inn s k) where
  -- ---- one tree

  module _ (mk : List ℕ) (t : Tree) (x : kinds_of t ≡ ks) (y : labels_of t ≡ ls) (i c : ℕ) (before b : List ℕ)
      (D : DownDone (tree_automaton s k lv inn mk) t (i + 1) c before b) (h : i < size t) (room : size t ≤ length b) where
    n_is : length ks ≡ size t
    n_is = size_of t ks x

    state-low : (u : ℕ) → state (tree_automaton s k lv inn mk) (sub t u) < 16
    state-low = steps.state-low ks ls lv inn s k G mk t x y

    own : c ≡ clearing_set (tree_automaton s k lv inn mk) t i
    own = let e : i + 1 - 1 ≡ i = omega arith in
        D.current (omega arith) ∙ ap (clearing_set (tree_automaton s k lv inn mk) t) e

    low : c < 65536
    low = omega (arith, own, steps.clearing-low ks ls lv inn s k G mk t x y i)

    -- a node below i + 1 that is not i is below i
    under : (u : ℕ) → u < i + 1 → (u ≡ i → ⊥) → u < i
    under u l n = omega arith

    leaf-done : kind_at t i ≡ 0 → DownDone (tree_automaton s k lv inn mk) t i (leaf_next b i) before (leaf_down b i c)
    leaf-done e = record {
      done = λ v l g. elim (ℕ_discrete v i) [
        | yes q ↦ rw q (get_or-set_same b i c 0 (omega arith) ∙ own)
        | no q ↦ get_or-set_other b i v c 0 q ∙ D.done v (omega arith) g
      ];
      current = λ pos. (let F : FirstOf t i = first_of t i pos h e in
          let z : left_child t F.top ≡ i - 1 = omega (arith, F.first) in
          let w : right_first t F.top < i + 1 = omega (arith, F.first) in
          ap (λ (j : ℕ). get_or b j 0) (sym F.first)
          ∙ D.waiting F.top (omega (arith, F.above)) F.below F.inside w
          ∙ ap (clearing_set (tree_automaton s k lv inn mk) t) z);
      waiting = λ v l g d w. get_or-set_other b i (right_first t v) c 0 (omega arith)
          ∙ D.waiting v (not-i v l (λ q. d (ap (kind_at t) q ∙ e))) g d (omega arith);
      firsts = λ u l g d. get_or-set_other b i u c 0 (omega arith) ∙ D.firsts u (omega arith) g d;
      pairs = λ v l g d. get_or-set_other b i (right_first t v) c 0 (λ q. omega (arith, (first-in t v g d).1))
          ∙ D.pairs v (omega arith) g d;
      kept = λ j l. get_or-set_other b i j c 0 (omega arith) ∙ D.kept j l;
    }
      where
        not-i : (v : ℕ) → i ≤ v → (v ≡ i → ⊥) → i + 1 ≤ v
        not-i v l n = omega arith

    module _ (e : kind_at t i ≡ 0 → ⊥) where
      K : Children t i
      K = children t i h e

      f-is : first_node_in ks b (i - 1) ≡ right_first t i
      f-is = first-is t ks b (i - 1) x (omega (arith, K.pos)) (D.firsts (i - 1) (omega (arith, K.pos)) (omega (arith, K.pos)))
          ∙ omega (arith, K.pos)

      f-in : (0 < right_first t i) × (right_first t i < i)
      f-in = first-in t i h e

      pair_is : pair_at ks b i ≡ pair_cell (tree_automaton s k lv inn mk) t i
      pair_is = ap (λ (j : ℕ). get_or b j 0) f-is ∙ D.pairs i (omega arith) h e

      left-state : pair_at ks b i % 16 ≡ state (tree_automaton s k lv inn mk) (sub t (left_child t i))
      left-state = omega (arith, pair_is, state-low (left_child t i))

      right-state : pair_at ks b i / 16 % 16 ≡ state (tree_automaton s k lv inn mk) (sub t (i - 1))
      right-state = omega (arith, pair_is, state-low (left_child t i), state-low (i - 1))

      left-new : left_set inn s k (get_or ls i 0) (pair_at ks b i / 16 % 16) c
          ≡ clearing_set (tree_automaton s k lv inn mk) t (left_child t i)
      left-new =
          ap₂ (λ (q z : ℕ). left_set inn s k (get_or ls i 0) q z) right-state own
          ∙ steps.left-states ks ls lv inn s k G mk t x y i h e

      right_new : inner_next ks inn s k b i (get_or ls i 0) c ≡ clearing_set (tree_automaton s k lv inn mk) t (i - 1)
      unfolding inner_next
      right_new =
          ap₂ (λ (p z : ℕ). right_set inn s k p (get_or ls i 0) z) left-state own
          ∙ steps.right-states ks ls lv inn s k G mk t x y i h e

      after-inner : List ℕ
      after-inner = set (set b (right_first t i) (clearing_set (tree_automaton s k lv inn mk) t (left_child t i))) i c

      cells_are : inner_down ks inn s k b i (get_or ls i 0) c ≡ after-inner
      unfolding inner_down after-inner
      cells_are = rw (left-new, f-is)

      apart : (j : ℕ) → (j ≡ i → ⊥) → (j ≡ right_first t i → ⊥) → get_or after-inner j 0 ≡ get_or b j 0
      unfolding after-inner
      apart j n r =
          get_or-set_other (set b (right_first t i) (clearing_set (tree_automaton s k lv inn mk) t (left_child t i))) i j c 0 n
          ∙ get_or-set_other b (right_first t i) j (clearing_set (tree_automaton s k lv inn mk) t (left_child t i)) 0 r

      at_own : get_or after-inner i 0 ≡ clearing_set (tree_automaton s k lv inn mk) t i
      unfolding after-inner
      at_own =
          get_or-set_same (set b (right_first t i) (clearing_set (tree_automaton s k lv inn mk) t (left_child t i))) i c 0
          (simp length-set (omega arith))
          ∙ own

      at_first : get_or after-inner (right_first t i) 0 ≡ clearing_set (tree_automaton s k lv inn mk) t (left_child t i)
      unfolding after-inner
      at_first =
          get_or-set_other (set b (right_first t i) (clearing_set (tree_automaton s k lv inn mk) t (left_child t i))) i
          (right_first t i) c 0 (λ q. omega (arith, f-in.1))
          ∙ get_or-set_same b (right_first t i) (clearing_set (tree_automaton s k lv inn mk) t (left_child t i)) 0
          (omega (arith, f-in.1))

      inner-done : DownDone (tree_automaton s k lv inn mk) t i (inner_next ks inn s k b i (get_or ls i 0) c) before after-inner
      inner-done = record {
        done = λ v l g. elim (ℕ_discrete v i) [
          | yes q ↦ rw q at_own
          | no q ↦ apart v q (λ z. omega (arith, f-in.1)) ∙ D.done v (omega arith) g
        ];
        current = λ pos. right_new;
        waiting = λ v l g d w. elim (ℕ_discrete v i) [
          | yes q ↦ rw q at_first
          | no q ↦ apart (right_first t v) (omega arith) (λ z. q (first-once t v i g d h e z))
              ∙ D.waiting v (omega arith) g d (omega arith)
        ];
        firsts = λ u l g d. apart u (omega arith) (λ z. d (ap (kind_at t) z ∙ first_leaf t i h e))
            ∙ D.firsts u (omega arith) g d;
        pairs = λ v l g d. apart (right_first t v) (λ z. omega (arith, (first-in t v g d).1))
            (λ z. omega (arith, first-once t v i g d h e z)) ∙ D.pairs v (omega arith) g d;
        kept = λ j l. apart j (omega arith) (λ z. omega (arith, f-in.1)) ∙ D.kept j l;
      }

      inner-args : InnerDownArgs ks inn s k b i (get_or ls i 0) c
      inner-args = record {
        pos = K.pos;
        inside = omega arith;
        low = low;
        right = record { kind_in = omega (arith, n_is); cell_in = omega arith };
        first_in = omega (arith, f-is, f-in.1);
        sets = set-args ks ls lv inn s k G (pair_at ks b i % 16) (get_or ls i 0) (pair_at ks b i / 16 % 16)
            (omega (arith, left-state, run_below ks ls lv inn s k G mk (sub t (left_child t i)))) (G.below i)
            (omega (arith, right-state, run_below ks ls lv inn s k G mk (sub t (i - 1))));
      }

    node_done : DownDone (tree_automaton s k lv inn mk) t i (node_next ks ls inn s k b i c) before (node_down ks ls inn s k b i c)
    node_done = elim (ℕ_discrete (kind_at t i) 0) [
      | yes e ↦ (let z : get_or ks i 0 ≡ 0 = sym (kind-of t ks i x) ∙ e in
          subst (λ (n : ℕ). DownDone (tree_automaton s k lv inn mk) t i n before (node_down ks ls inn s k b i c))
          (leaf-set ks ls inn s k b i c z)
          (subst (DownDone (tree_automaton s k lv inn mk) t i (leaf_next b i) before) (leaf-case ks ls inn s k b i c z)
          (leaf-done e)))
      | no e ↦ (let z : get_or ks i 0 ≡ 0 → ⊥ = not-kind t ks i x e in
          subst (λ (n : ℕ). DownDone (tree_automaton s k lv inn mk) t i n before (node_down ks ls inn s k b i c))
          (inner-set ks ls inn s k b i c z)
          (subst (DownDone (tree_automaton s k lv inn mk) t i (inner_next ks inn s k b i (get_or ls i 0) c) before)
          (sym (cells_are e) ∙ inner-case ks ls inn s k b i c z) (inner-done e)))
    ]

    down-args : NodeDownArgs ks ls inn s k b i c
    down-args = record {
      kind_in = omega (arith, n_is);
      label_in = omega (arith, n_is, G.count);
      inside = omega arith;
      low = low;
      inner = λ z. inner-args (λ q. z (sym (kind-of t ks i x) ∙ q));
    }

  -- ---- the same, of every tree with these kinds and labels

  module _ (i c : ℕ) (b : List ℕ) (h : i < length ks) (room : length ks ≤ length b) (mk before : List ℕ)
      (D : DownWritten ks ls lv inn mk s k (i + 1) c before b) where
    pub down-next : DownWritten ks ls lv inn mk s k i (node_next ks ls inn s k b i c) before (node_down ks ls inn s k b i c)
    down-next t x y =
        let n : length ks ≡ size t = size_of t ks x in
        node_done mk t x y i c before b (D t x y) (omega arith) (omega arith)

    pub node-args : NodeDownArgs ks ls inn s k b i c
    node-args =
        let T : (t : Tree) × (kinds_of t ≡ ks) × (labels_of t ≡ ls) = postorder-tree ks ls G.count G.postorder in
        let n : length ks ≡ size T.0 = size_of T.0 ks T.1 in
        down-args mk T.0 T.1 T.2 i c before b (D T.0 T.1 T.2) (omega arith) (omega arith)

  -- ---- from the pass up, with the marked states

  pub down-start : (mk b₀ b : List ℕ) → UpWritten ks ls lv inn s k (length ks) b₀ b
      → DownWritten ks ls lv inn mk s k (length ks) (marked_set mk s) b₀ b
  down-start mk b₀ b U t x y =
      let n : length ks ≡ size t = size_of t ks x in
      let W : UpDone (tree_automaton s k lv inn mk) t (length ks) b₀ b = U mk t x y in
      record {
        done = λ v l g. absurd (omega arith);
        current = λ pos. marked-states ks ls lv inn s k G mk t x y (length ks - 1) (omega arith);
        waiting = λ v l g d w. absurd (omega arith);
        firsts = W.firsts;
        pairs = W.pairs;
        kept = W.kept;
      }

-- where it ends
pub down-end : (ks ls lv inn mk : List ℕ) (s k c : ℕ) (before after : List ℕ)
    → DownWritten ks ls lv inn mk s k 0 c before after → SetsWritten ks ls lv inn mk s k before after
down-end ks ls lv inn mk s k c before after D t x y =
    record { sets = λ v h. (D t x y).done v (omega arith) h; kept = (D t x y).kept }
