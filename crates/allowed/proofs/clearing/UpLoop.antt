-- The iterations of the pass up for the clearing states.
--     first-is, state_is     what the buffer says of the nodes that had their iteration
--     up_start, up_next      before the first node, and one node more
--     node-args              what an iteration needs
use Prim.Native.Nat.{ℕ, ◌+◌, ◌-◌, ◌*◌, ◌/◌, ◌≤◌, ◌<◌}
use mathlib.Core.Path.{◌≡◌, refl, sym, ap, ap₂, ◌∙◌, subst}
use mathlib.Core.List.{List, []}
use native.Mathlib.Decide.{ℕ_discrete}
use native.Mathlib.Omega.{arith}
use lib.ListN.{length, get_or, set, length-set}
use lib.Seq.{get_or-set_same, get_or-set_other}
use borrow.Author.Tests.{eq-eqb, ne_eqb}
use Rattle.trees.specs.Tree.{Tree, kinds_of, labels_of, size, kind_at}
use Rattle.trees.specs.Automaton.{state}
use Rattle.trees.specs.Numbering.{sub}
use Rattle.trees.proofs.NodeLaws.{sub-size, size-pos}
use Rattle.trees.proofs.PostorderLaws.{postorder-tree, size_of, kind-of}
use Rattle.trees.proofs.RunLaws.{Children, children, size-leaf, size-inner, state-leaf, state-inner}
use Rattle.formats.specs.Rules.{tree_automaton}
use Rattle.allowed.specs.inner.Inputs.{left_child, PassArgs}
use Rattle.allowed.specs.inner.clearing.Cells.{right_first, first_cell, pair_cell, first_node_in, state_in, StateArgs}
use Rattle.allowed.specs.inner.clearing.Up.{pair_in, inner_up, node_up, InnerUpArgs, NodeUpArgs, UpDone}
use Rattle.allowed.specs.inner.clearing.Up.{UpWritten}
use Rattle.allowed.proofs.StepLaws.{rule-args, run_below}
use Rattle.allowed.proofs.clearing.FirstLaws.{first-in, first_leaf, first-once}

-- ---- by the node's kind

module _ (ks b : List ℕ) (u : ℕ) where
  pub first-of-leaf : get_or ks u 0 ≡ 0 → u ≡ first_node_in ks b u
  unfolding first_node_in
  first-of-leaf e = rw (eq-eqb (get_or ks u 0) 0 e)

  pub first-of-inner : (get_or ks u 0 ≡ 0 → ⊥) → get_or b u 0 ≡ first_node_in ks b u
  unfolding first_node_in
  first-of-inner e = rw (ne_eqb (get_or ks u 0) 0 e)

  module _ (ls lv : List ℕ) where
    pub state-of-leaf : get_or ks u 0 ≡ 0 → get_or lv (get_or ls u 0) 0 ≡ state_in ks ls lv b u
    unfolding state_in
    state-of-leaf e = rw (eq-eqb (get_or ks u 0) 0 e)

    pub state-of-inner : (get_or ks u 0 ≡ 0 → ⊥) → get_or b (first_node_in ks b (u - 1)) 0 / 256 ≡ state_in ks ls lv b u
    unfolding state_in
    state-of-inner e = rw (ne_eqb (get_or ks u 0) 0 e)

module _ (ks ls lv inn : List ℕ) (s k : ℕ) (b : List ℕ) (v : ℕ) where
  pub leaf-case : get_or ks v 0 ≡ 0 → b ≡ node_up ks ls lv inn s k b v
  unfolding node_up
  leaf-case e = rw (eq-eqb (get_or ks v 0) 0 e)

  pub inner-case : (get_or ks v 0 ≡ 0 → ⊥) → inner_up ks ls lv inn s k b v ≡ node_up ks ls lv inn s k b v
  unfolding node_up
  inner-case e = rw (ne_eqb (get_or ks v 0) 0 e)

-- what the iteration of an inner node makes of the values that were read
pub pair_made : (ks ls lv inn : List ℕ) (s k : ℕ) (b : List ℕ) (f v p q to : ℕ) → p ≡ state_in ks ls lv b (f - 1)
    → q ≡ state_in ks ls lv b (v - 1) → to ≡ get_or inn ((p * k + get_or ls v 0) * s + q) 0
    → p + 16 * q + 256 * to ≡ pair_in ks ls lv inn s k b f v
unfolding pair_in
pair_made ks ls lv inn s k b f v p q to e g h =
    ap (λ (z : ℕ). p + 16 * q + 256 * z) h
    ∙ ap₂ (λ (x y : ℕ). x + 16 * y + 256 * get_or inn ((x * k + get_or ls v 0) * s + y) 0) e g

pub up-made : (ks ls lv inn : List ℕ) (s k : ℕ) (b : List ℕ) (v f x g : ℕ) → f ≡ first_node_in ks b (v - 1)
    → x ≡ pair_in ks ls lv inn s k b f v → g ≡ first_node_in ks b (f - 1)
    → set (set b f x) v g ≡ inner_up ks ls lv inn s k b v
unfolding inner_up
up-made ks ls lv inn s k b v f x g e h i =
    ap₂ (λ (y z : ℕ). set (set b f y) v z) h i
    ∙ ap (λ (y : ℕ). set (set b y (pair_in ks ls lv inn s k b y v)) v (first_node_in ks b (y - 1))) e

-- ---- one node more

pub up_start : (ks ls lv inn : List ℕ) (s k : ℕ) (b : List ℕ) → UpWritten ks ls lv inn s k 0 b b
up_start ks ls lv inn s k b mk t x y = record {
  firsts = λ u l h c. absurd (omega arith);
  pairs = λ v l h c. absurd (omega arith);
  kept = λ j h. refl;
}

-- the kind of a node, in the list and in the tree
kind-not : (t : Tree) (ks : List ℕ) (u : ℕ) → kinds_of t ≡ ks → (get_or ks u 0 ≡ 0 → ⊥) → kind_at t u ≡ 0 → ⊥
kind-not t ks u x c e = c (sym (kind-of t ks u x) ∙ e)

pub not-kind : (t : Tree) (ks : List ℕ) (u : ℕ) → kinds_of t ≡ ks → (kind_at t u ≡ 0 → ⊥) → get_or ks u 0 ≡ 0 → ⊥
not-kind t ks u x c e = c (kind-of t ks u x ∙ e)

-- what the buffer says of the first node of a subtree
pub first-is : (t : Tree) (ks b : List ℕ) (u : ℕ) → kinds_of t ≡ ks → u < size t
    → ((kind_at t u ≡ 0 → ⊥) → get_or b u 0 ≡ first_cell t u) → first_node_in ks b u ≡ first_cell t u
first-is t ks b u x h f = elim (ℕ_discrete (kind_at t u) 0) [
  | yes e ↦ sym (first-of-leaf ks b u (sym (kind-of t ks u x) ∙ e)) ∙ omega (arith, size-leaf t u h e)
  | no e ↦ sym (first-of-inner ks b u (not-kind t ks u x e)) ∙ f e
]

module _ (ks ls lv inn : List ℕ) (s k : ℕ) (G : PassArgs ks ls lv inn s k) where
  module _ (i : ℕ) (b₀ b : List ℕ) (h : i < length ks) (all : UpWritten ks ls lv inn s k i b₀ b)
      (room : length ks ≤ length b) where
    -- of one tree
    module _ (mk : List ℕ) (t : Tree) (x : kinds_of t ≡ ks) (y : labels_of t ≡ ls) where
      n_is : length ks ≡ size t
      n_is = size_of t ks x

      state-low : (u : ℕ) → state (tree_automaton s k lv inn mk) (sub t u) < 16
      state-low u = omega (arith, run_below ks ls lv inn s k G mk (sub t u), G.few)

      first-at : (u : ℕ) → u < i → first_node_in ks b u ≡ first_cell t u
      first-at u l = first-is t ks b u x (omega (arith, n_is)) ((all mk t x y).firsts u l (omega (arith, n_is)))

      right-first : (v : ℕ) → v ≤ i → (kind_at t v ≡ 0 → ⊥) → first_node_in ks b (v - 1) ≡ right_first t v
      right-first v l c =
          let pos : 0 < v = (children t v (omega (arith, n_is)) c).pos in
          first-at (v - 1) (omega arith) ∙ omega arith

      state_is : (u : ℕ) → u < i → state_in ks ls lv b u ≡ state (tree_automaton s k lv inn mk) (sub t u)
      state_is u l = elim (ℕ_discrete (kind_at t u) 0) [
        | yes e ↦ sym (state-of-leaf ks b u ls lv (sym (kind-of t ks u x) ∙ e))
            ∙ ap (λ (z : List ℕ). get_or lv (get_or z u 0) 0) (sym y)
            ∙ sym (state-leaf (tree_automaton s k lv inn mk) t u (omega (arith, n_is)) e)
        | no e ↦ sym (state-of-inner ks b u ls lv (not-kind t ks u x e))
            ∙ ap (λ (j : ℕ). get_or b j 0 / 256) (right-first u (omega arith) e)
            ∙ ap (λ (j : ℕ). j / 256) ((all mk t x y).pairs u l (omega (arith, n_is)) e)
            ∙ omega (arith, state-low (left_child t u), state-low (u - 1))
      ]

      state-args : (u : ℕ) → u < i → StateArgs ks ls lv b u
      state-args u l = record {
        kind_in = omega arith;
        label_in = omega (arith, G.count);
        leaf_in = omega (arith, G.below u, G.leaf_count);
        pos = λ c. (children t u (omega (arith, n_is)) (kind-not t ks u x c)).pos;
        first = λ c. (let p : 0 < u = (children t u (omega (arith, n_is)) (kind-not t ks u x c)).pos in
            record { kind_in = omega arith; cell_in = omega arith });
        inside = λ c. omega (
          arith,
          right-first u (omega arith) (kind-not t ks u x c),
          (first-in t u (omega (arith, n_is)) (kind-not t ks u x c)).1,
        );
      }

      module _ (c : kind_at t i ≡ 0 → ⊥) where
        hi : i < size t
        hi = omega (arith, n_is)

        K : Children t i
        K = children t i hi c

        f-is : first_node_in ks b (i - 1) ≡ right_first t i
        f-is = right-first i (omega arith) c

        f-in : (0 < right_first t i) × (right_first t i < i)
        f-in = first-in t i hi c

        left_is : right_first t i - 1 ≡ left_child t i
        left_is = omega arith

        left-state : state_in ks ls lv b (first_node_in ks b (i - 1) - 1) ≡ state (tree_automaton s k lv inn mk) (sub t (left_child t i))
        left-state =
            ap (λ (f : ℕ). state_in ks ls lv b (f - 1)) f-is ∙ ap (state_in ks ls lv b) left_is
            ∙ state_is (left_child t i) K.left_in

        right-state : state_in ks ls lv b (i - 1) ≡ state (tree_automaton s k lv inn mk) (sub t (i - 1))
        right-state = state_is (i - 1) (omega (arith, K.pos))

        pair_is : pair_in ks ls lv inn s k b (first_node_in ks b (i - 1)) i ≡ pair_cell (tree_automaton s k lv inn mk) t i
        unfolding pair_in
        pair_is =
            ap₂ (λ (p q : ℕ). p + 16 * q + 256 * get_or inn ((p * k + get_or ls i 0) * s + q) 0) left-state right-state
            ∙ ap (λ (z : ℕ). state (tree_automaton s k lv inn mk) (sub t (left_child t i))
            + 16 * state (tree_automaton s k lv inn mk) (sub t (i - 1)) + 256 * z)
            (ap (λ (l : List ℕ). get_or inn ((state (tree_automaton s k lv inn mk) (sub t (left_child t i)) * k + get_or l i 0) * s
            + state (tree_automaton s k lv inn mk) (sub t (i - 1))) 0) (sym y)
            ∙ sym (state-inner (tree_automaton s k lv inn mk) t i hi c))

        own_is : first_node_in ks b (first_node_in ks b (i - 1) - 1) ≡ first_cell t i
        own_is =
            ap (λ (f : ℕ). first_node_in ks b (f - 1)) f-is ∙ ap (first_node_in ks b) left_is
            ∙ first-at (left_child t i) K.left_in
            ∙ omega (arith, size-inner t i hi c, sub-size t (left_child t i) (omega (arith, hi, K.left_in)), K.right-size)

        after-inner : List ℕ
        after-inner = set (set b (right_first t i) (pair_cell (tree_automaton s k lv inn mk) t i)) i (first_cell t i)

        cells_are : inner_up ks ls lv inn s k b i ≡ after-inner
        unfolding inner_up after-inner
        cells_are = rw (pair_is, own_is, f-is)

        apart : (j : ℕ) → (j ≡ i → ⊥) → (j ≡ right_first t i → ⊥) → get_or after-inner j 0 ≡ get_or b j 0
        unfolding after-inner
        apart j n r =
            get_or-set_other (set b (right_first t i) (pair_cell (tree_automaton s k lv inn mk) t i)) i j (first_cell t i) 0 n
            ∙ get_or-set_other b (right_first t i) j (pair_cell (tree_automaton s k lv inn mk) t i) 0 r

        at_own : get_or after-inner i 0 ≡ first_cell t i
        unfolding after-inner
        at_own = get_or-set_same (set b (right_first t i) (pair_cell (tree_automaton s k lv inn mk) t i)) i (first_cell t i) 0
            (simp length-set (omega arith))

        at_first : get_or after-inner (right_first t i) 0 ≡ pair_cell (tree_automaton s k lv inn mk) t i
        unfolding after-inner
        at_first =
            get_or-set_other (set b (right_first t i) (pair_cell (tree_automaton s k lv inn mk) t i)) i (right_first t i)
            (first_cell t i) 0 (λ e. omega (arith, f-in.1))
            ∙ get_or-set_same b (right_first t i) (pair_cell (tree_automaton s k lv inn mk) t i) 0 (omega (arith, f-in.1))

        inner-done : UpDone (tree_automaton s k lv inn mk) t (i + 1) b₀ after-inner
        inner-done = record {
          firsts = λ u l hu d. elim (ℕ_discrete u i) [
            | yes e ↦ rw e at_own
            | no e ↦ apart u e (λ z. d (ap (kind_at t) z ∙ first_leaf t i hi c)) ∙ (all mk t x y).firsts u (omega arith) hu d
          ];
          pairs = λ v l hv d. elim (ℕ_discrete v i) [
            | yes e ↦ rw e at_first
            | no e ↦ apart (right_first t v) (λ z. omega (arith, (first-in t v hv d).1))
                (λ z. e (first-once t v i hv d hi c z)) ∙ (all mk t x y).pairs v (omega arith) hv d
          ];
          kept = λ j l. apart j (λ z. omega (arith, hi)) (λ z. omega (arith, hi, f-in.1)) ∙ (all mk t x y).kept j l;
        }

        inner-args : InnerUpArgs ks ls lv inn s k b i
        inner-args = record {
          pos = K.pos;
          inside = omega arith;
          right = record { kind_in = omega arith; cell_in = omega arith };
          first_in = omega (arith, f-is, f-in.1);
          left = record { kind_in = omega (arith, f-is, f-in.1); cell_in = omega (arith, f-is, f-in.1) };
          left_low = omega (arith, own_is, G.most, size-pos (sub t i));
          pair = record {
            first_pos = omega (arith, f-is, f-in.0);
            pos = K.pos;
            label_in = omega (arith, G.count);
            left = state-args (first_node_in ks b (i - 1) - 1) (omega (arith, f-is, f-in.1));
            right = state-args (i - 1) (omega (arith, K.pos));
            left_low = omega (arith, left-state, state-low (left_child t i));
            right_low = omega (arith, right-state, state-low (i - 1));
            rule = rule-args ks ls lv inn s k (state_in ks ls lv b (first_node_in ks b (i - 1) - 1)) (get_or ls i 0)
                (state_in ks ls lv b (i - 1)) G
                (omega (arith, left-state, run_below ks ls lv inn s k G mk (sub t (left_child t i)))) (G.below i)
                (omega (arith, right-state, run_below ks ls lv inn s k G mk (sub t (i - 1))));
            below = λ j. omega (arith, G.inner_below j, G.few);
          };
        }

      node_done : UpDone (tree_automaton s k lv inn mk) t (i + 1) b₀ (node_up ks ls lv inn s k b i)
      node_done = elim (ℕ_discrete (kind_at t i) 0) [
        | yes e ↦ subst (UpDone (tree_automaton s k lv inn mk) t (i + 1) b₀)
            (leaf-case ks ls lv inn s k b i (sym (kind-of t ks i x) ∙ e)) record {
              firsts = λ u l hu d. (all mk t x y).firsts u (not_last u l (λ z. d (ap (kind_at t) z ∙ e))) hu d;
              pairs = λ v l hv d. (all mk t x y).pairs v (not_last v l (λ z. d (ap (kind_at t) z ∙ e))) hv d;
              kept = (all mk t x y).kept;
            }
        | no e ↦ subst (UpDone (tree_automaton s k lv inn mk) t (i + 1) b₀)
            (sym (cells_are e) ∙ inner-case ks ls lv inn s k b i (not-kind t ks i x e)) (inner-done e)
      ]
        where
          not_last : (u : ℕ) → u < i + 1 → (u ≡ i → ⊥) → u < i
          not_last u l n = omega arith

    pub up_next : UpWritten ks ls lv inn s k (i + 1) b₀ (node_up ks ls lv inn s k b i)
    up_next mk t x y = node_done mk t x y

    pub node-args : NodeUpArgs ks ls lv inn s k b i
    node-args =
        let T : (t : Tree) × (kinds_of t ≡ ks) × (labels_of t ≡ ls) = postorder-tree ks ls G.count G.postorder in
        record { kind_in = h; inner = λ c. inner-args [] T.0 T.1 T.2 (kind-not T.0 ks i T.1 c) }
