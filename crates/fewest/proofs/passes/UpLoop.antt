-- The turns of the pass up.
--     parts-costs              the parts of the work space that are handed on are the children's costs
--     up_start, up_next        before the first node, and one node more
--     turn-args                what a turn needs
use Prim.Native.Nat.{ℕ, ◌+◌, ◌-◌, ◌*◌, ◌≤◌, ◌<◌}
use mathlib.Core.Path.{◌≡◌, refl, sym, ap, ap₂, ◌∙◌}
use mathlib.Core.Bool.{Bool, true}
use mathlib.Core.List.{List}
use native.Mathlib.Decide.{ℕ_discrete}
use native.Mathlib.Omega.{arith}
use lib.ListN.{length, get_or, take, drop, length-drop}
use lib.Seq.{get_or-take, get_or-drop, length-take-le}
use borrow.Author.Tests.{eq-eqb, ne_eqb}
use Rattle.list_laws.proofs.RowLaws.{stride}
use Rattle.trees.specs.Tree.{Tree, kinds_of, labels_of, size, kind_at, label_at}
use Rattle.trees.specs.Numbering.{sub}
use Rattle.trees.proofs.NodeLaws.{sub-size}
use Rattle.trees.proofs.PostorderLaws.{postorder-tree, size_of, kind-of}
use Rattle.trees.proofs.RunLaws.{Children, children, size-leaf, size-inner}
use Rattle.state_sets.specs.StateSets.{member}
use Rattle.fewest.specs.Least.{least_to}
use Rattle.fewest.specs.inner.Cost.{leaf_cost, inner_cost}
use Rattle.fewest.proofs.costs.LeastLaws.{least-far, least-ext}
use Rattle.fewest.specs.inner.Rows.{label_cost, labels_cost, leaf_costs, inner_costs, left_cost, CostRow, Relaxed}
use Rattle.fewest.specs.inner.Rows.{leaf_cost as leaf_label_cost}
use Rattle.fewest.specs.Relabelling.{stock_of}
use Rattle.fewest.specs.inner.Problems.{problem_for, cost_at}
use Rattle.fewest.specs.inner.passes.Cells.{size_cell, cost_cell, left_within, inner_size, RowDone}
use Rattle.allowed.specs.inner.Inputs.{PassArgs}
use Rattle.fewest.specs.inner.passes.Up.{node_size, node_costs, InnerTurnArgs, NodeTurnArgs, CostsUp, Up}
use Rattle.fewest.proofs.passes.CostAtLaws.{cost-leaf, cost-inner, cost-far}

-- ---- the children's costs, handed on as parts

abbrev pub part : ℕ → List ℕ → ℕ → List ℕ
part s b at = take (at + s - at) (drop at b)

pub part_at : (s : ℕ) (b : List ℕ) (at p : ℕ) → p < s → get_or (part s b at) p 0 ≡ get_or b (at + p) 0
part_at s b at p h = get_or-take (at + s - at) (drop at b) p 0 (omega arith) ∙ get_or-drop at b p 0

pub part-row : (s : ℕ) (b : List ℕ) (at : ℕ) → at + s ≤ length b → ((j : ℕ) → j < s → get_or b (at + j) 0 ≤ 65536) → CostRow s (part s b at)
part-row s b at room low = record {
  wide = omega (arith, length-take-le (at + s - at) (drop at b) (omega (arith, length-drop at b)));
  low = λ j h. omega (arith, part_at s b at j h, low j h);
}

pub parts-costs : (inn : List ℕ) (s k a : ℕ) (may : ℕ → Bool) (b : List ℕ) (x y j : ℕ)
    → left_cost inn s k a may (part s b x) (part s b y) j ≡ inner_costs inn s k a may (λ p. get_or b (x + p) 0) (λ q. get_or b (y + q) 0) j
parts-costs inn s k a may b x y j =
    least-ext 65536 s _ _ (λ p hp. least-ext 65536 s _ _ (λ q hq.
    ap₂ (λ (c d : ℕ). labels_cost inn s k p q a may (c + d) j) (part_at s b x p hp) (part_at s b y q hq)))

pub relaxed-as : (s : ℕ) (c d : ℕ → ℕ) (before after : List ℕ) → ((j : ℕ) → c j ≡ d j) → Relaxed s c before after → Relaxed s d before after
relaxed-as s c d before after e R = record { wide = R.wide; costs = λ j h. omega (arith, R.costs j h, e j) }

pub costs-low : (inn : List ℕ) (s k a : ℕ) (may : ℕ → Bool) (f g : ℕ → ℕ) (j : ℕ) → inner_costs inn s k a may f g j ≤ 65536
costs-low inn s k a may f g j = least-far 65536 s (λ p. least_to 65536 s (λ q. labels_cost inn s k p q a may (f p + g q) j))

pub leaf-low : (lv : List ℕ) (k a : ℕ) (may : ℕ → Bool) (j : ℕ) → leaf_costs lv k a may j ≤ 65536
leaf-low lv k a may j = least-far 65536 k (leaf_label_cost lv a may j)

-- ---- a turn, by the node's kind

row_as : (s v z z' : ℕ) (c d : ℕ → ℕ) (b after : List ℕ) → z ≡ z' → ((j : ℕ) → c j ≡ d j) → RowDone s v z c b after → RowDone s v z' d b after
row_as s v z z' c d b after e f D =
    record { long = D.long; size = D.size ∙ e; costs = λ j h. D.costs j h ∙ f j; kept = D.kept }

module _ (ks ls lv inn may : List ℕ) (s k : ℕ) (b after : List ℕ) (v : ℕ) where
  pub leaf-turned : get_or ks v 0 ≡ 0 → (m : ℕ) → m ≡ stock_of may v
      → RowDone s v 1 (leaf_costs lv k (get_or ls v 0) (member m)) b after
      → RowDone s v (node_size ks s b v) (node_costs ks ls lv inn may s k b v) b after
  unfolding node_size node_costs
  leaf-turned e m em D =
      row_as s v 1 (node_size ks s b v) (leaf_costs lv k (get_or ls v 0) (member m)) (node_costs ks ls lv inn may s k b v) b after
      (rw (eq-eqb (get_or ks v 0) 0 e))
      (λ j. rw (eq-eqb (get_or ks v 0) 0 e) (ap (λ (x : ℕ). leaf_costs lv k (get_or ls v 0) (member x) j) em)) D

  pub inner-turned : (get_or ks v 0 ≡ 0 → ⊥) → (m : ℕ) → m ≡ stock_of may v
      → RowDone s v (inner_size s b v) (inner_costs inn s k (get_or ls v 0) (member m) (cost_cell s b (left_within s b v)) (cost_cell s b (v - 1))) b after
      → RowDone s v (node_size ks s b v) (node_costs ks ls lv inn may s k b v) b after
  unfolding node_size node_costs
  inner-turned e m em D =
      row_as s v (inner_size s b v) (node_size ks s b v)
      (inner_costs inn s k (get_or ls v 0) (member m) (cost_cell s b (left_within s b v)) (cost_cell s b (v - 1)))
      (node_costs ks ls lv inn may s k b v) b after
      (rw (ne_eqb (get_or ks v 0) 0 e))
      (λ j. rw (ne_eqb (get_or ks v 0) 0 e)
      (ap (λ (x : ℕ). inner_costs inn s k (get_or ls v 0) (member x) (cost_cell s b (left_within s b v)) (cost_cell s b (v - 1)) j) em)) D

-- ---- one node more

pub up_start : (ks ls lv inn may : List ℕ) (s k : ℕ) (b : List ℕ) → Up ks ls lv inn may s k 0 b b
up_start ks ls lv inn may s k b acc t x y =
    record { sizes = λ v h. absurd (omega arith); costs = λ v j h. absurd (omega arith); kept = λ j h. refl }

module _ (ks ls lv inn may : List ℕ) (s k : ℕ) (G : PassArgs ks ls lv inn s k) where
  module _ (i : ℕ) (b₀ b : List ℕ) (h : i < length ks) (all : Up ks ls lv inn may s k i b₀ b) where
    -- of one tree
    module _ (acc : ℕ → Bool) (t : Tree) (x : kinds_of t ≡ ks) (y : labels_of t ≡ ls) where
      U : CostsUp (problem_for s k lv inn (stock_of may) acc) t s i b₀ b
      U = all acc t x y

      n_is : length ks ≡ size t
      n_is = size_of t ks x

      label_is : label_at t i ≡ get_or ls i 0
      label_is = ap (λ (l : List ℕ). get_or l i 0) y

      -- a leaf's costs
      leaf-costs : kind_at t i ≡ 0 → (j : ℕ)
          → leaf_costs lv k (get_or ls i 0) (member (stock_of may i)) j ≡ cost_at (problem_for s k lv inn (stock_of may) acc) t i j
      unfolding leaf_cost leaf_label_cost
      leaf-costs e j =
          sym (cost-leaf (problem_for s k lv inn (stock_of may) acc) t i (omega (arith, n_is)) e j
          ∙ ap (λ (a : ℕ). leaf_costs lv k a (member (stock_of may i)) j) label_is)

      module _ (c : kind_at t i ≡ 0 → ⊥) where
        kin : Children t i
        kin = children t i (omega (arith, n_is)) c

        right-size : size_cell s b (i - 1) ≡ size (sub t (i - 1))
        right-size = U.sizes (i - 1) (omega (arith, kin.pos))

        left_is : left_within s b i ≡ i - 1 - size (sub t (i - 1))
        left_is = ap (λ (z : ℕ). i - 1 - z) right-size

        left-size : size_cell s b (left_within s b i) ≡ size (sub t (i - 1 - size (sub t (i - 1))))
        left-size = ap (size_cell s b) left_is ∙ U.sizes (i - 1 - size (sub t (i - 1))) kin.left_in

        inner-size : inner_size s b i ≡ size (sub t i)
        inner-size = ap₂ (λ (u w : ℕ). u + w + 1) left-size right-size ∙ sym (size-inner t i (omega (arith, n_is)) c)

        left-cost : (p : ℕ) → p < s
            → cost_cell s b (left_within s b i) p ≡ cost_at (problem_for s k lv inn (stock_of may) acc) t (i - 1 - size (sub t (i - 1))) p
        left-cost p l = ap (λ (u : ℕ). cost_cell s b u p) left_is ∙ U.costs (i - 1 - size (sub t (i - 1))) p kin.left_in l

        right-cost : (q : ℕ) → q < s → cost_cell s b (i - 1) q ≡ cost_at (problem_for s k lv inn (stock_of may) acc) t (i - 1) q
        right-cost q l = U.costs (i - 1) q (omega (arith, kin.pos)) l

        inner-costs : (j : ℕ)
            → inner_costs inn s k (get_or ls i 0) (member (stock_of may i)) (cost_cell s b (left_within s b i)) (cost_cell s b (i - 1)) j
            ≡ cost_at (problem_for s k lv inn (stock_of may) acc) t i j
        unfolding inner_cost label_cost
        inner-costs j =
            ap (λ (a : ℕ). inner_costs inn s k a (member (stock_of may i)) (cost_cell s b (left_within s b i)) (cost_cell s b (i - 1)) j) (sym label_is)
            ∙ least-ext 65536 s _ _ (λ p hp. least-ext 65536 s _ _ (λ q hq.
            ap₂ (λ (d e : ℕ). labels_cost inn s k p q (label_at t i) (member (stock_of may i)) (d + e) j) (left-cost p hp) (right-cost q hq)))
            ∙ sym (cost-inner (problem_for s k lv inn (stock_of may) acc) t i (omega (arith, n_is)) c j)

        inner-args : length ks * (s + 1) ≤ length b → InnerTurnArgs b inn s k i
        inner-args room = record {
          few = G.few;
          labels = G.labels;
          inner_count = G.inner_count;
          inner_below = G.inner_below;
          pos = kin.pos;
          left_in = omega (arith, right-size, kin.right-size);
          room = omega (arith, stride (s + 1) i (length ks) h);
          right_room = omega (arith, stride (s + 1) (i - 1) (length ks) (omega arith));
          left_room = omega (arith, stride (s + 1) (left_within s b i) (length ks) (omega arith));
          fits = omega (arith, inner-size, sub-size t i (omega (arith, n_is)), G.most, n_is);
          left_low = λ j l. omega (
            arith,
            left-cost j l,
            cost-far (problem_for s k lv inn (stock_of may) acc) t (i - 1 - size (sub t (i - 1))) j,
          );
          right_low = λ j l. omega (arith, right-cost j l, cost-far (problem_for s k lv inn (stock_of may) acc) t (i - 1) j);
        }

      node-size : node_size ks s b i ≡ size (sub t i)
      unfolding node_size
      node-size = elim (ℕ_discrete (kind_at t i) 0) [
        | yes e ↦ rw (eq-eqb (get_or ks i 0) 0 (sym (kind-of t ks i x) ∙ e)) (sym (size-leaf t i (omega (arith, n_is)) e))
        | no e ↦ rw (ne_eqb (get_or ks i 0) 0 (λ z. e (kind-of t ks i x ∙ z))) (inner-size e)
      ]

      node-costs : (j : ℕ) → node_costs ks ls lv inn may s k b i j ≡ cost_at (problem_for s k lv inn (stock_of may) acc) t i j
      unfolding node_costs
      node-costs j = elim (ℕ_discrete (kind_at t i) 0) [
        | yes e ↦ rw (eq-eqb (get_or ks i 0) 0 (sym (kind-of t ks i x) ∙ e)) (leaf-costs e j)
        | no e ↦ rw (ne_eqb (get_or ks i 0) 0 (λ z. e (kind-of t ks i x ∙ z))) (inner-costs e j)
      ]

    pub up_next : (after : List ℕ) → RowDone s i (node_size ks s b i) (node_costs ks ls lv inn may s k b i) b after
        → Up ks ls lv inn may s k (i + 1) b₀ after
    up_next after D acc t x y = record {
      sizes = λ v l. elim (ℕ_discrete v i) [
        | yes e ↦ rw e (D.size ∙ node-size acc t x y)
        | no e ↦ (let z = stride (s + 1) v i (omega arith) in
            D.kept (v * (s + 1)) (λ p q. omega arith) ∙ (all acc t x y).sizes v (omega arith))
      ];
      costs = λ v j l m. elim (ℕ_discrete v i) [
        | yes e ↦ rw e (D.costs j m ∙ node-costs acc t x y j)
        | no e ↦ (let z = stride (s + 1) v i (omega arith) in
            D.kept (v * (s + 1) + 1 + j) (λ p q. omega arith) ∙ (all acc t x y).costs v j (omega arith) m)
      ];
      kept = λ j l. D.kept j (λ p q. omega arith) ∙ (all acc t x y).kept j (omega arith);
    }

    pub turn-args : ((length may ≡ 0 → ⊥) → length may ≡ length ks) → length ks * (s + 1) ≤ length b
        → NodeTurnArgs ks ls lv inn may s k b i
    turn-args stocks room = go (postorder-tree ks ls G.count G.postorder)
      where
        go : ((t : Tree) × (kinds_of t ≡ ks) × (labels_of t ≡ ls)) → NodeTurnArgs ks ls lv inn may s k b i
        go T = record {
          kind_in = h;
          label_in = omega (arith, G.count);
          label_below = omega (arith, G.below i, G.labels);
          stock = λ z. omega (arith, stocks z);
          leaf = record {
            few = G.few;
            labels = G.labels;
            room = omega (arith, stride (s + 1) i (length ks) h);
            leaf_count = G.leaf_count;
            leaf_below = G.leaf_below;
          };
          inner = λ z. inner-args (λ q. true) T.0 T.1 T.2 (λ e. z (sym (kind-of T.0 ks i T.1) ∙ e)) room;
        }
