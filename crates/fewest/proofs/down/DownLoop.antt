-- The turns of the pass down.
--     leaf-next, inner-next     the turn of a leaf, and of an inner node
--     down-next, turn-args      one node more, and what its turn needs
use Prim.Native.Nat.{ℕ, ◌+◌, ◌-◌, ◌*◌, ◌≤◌, ◌<◌}
use mathlib.Core.Path.{◌≡◌, sym, ap, ap₂, ◌∙◌, subst}
use mathlib.Core.Bool.{Bool, true}
use mathlib.Core.List.{List}
use mathlib.Core.Logic.{inl, inr}
use native.Mathlib.Decide.{ℕ_discrete}
use native.Mathlib.Omega.{arith}
use lib.Dec.{eqb}
use lib.ListN.{length, get_or, set, length-set}
use Rattle.list_laws.proofs.RowLaws.{stride}
use Rattle.trees.specs.Tree.{Tree, kinds_of, labels_of, size, kind_at, label_at}
use Rattle.trees.specs.Automaton.{state}
use Rattle.trees.specs.Numbering.{sub, parent}
use Rattle.trees.proofs.NodeLaws.{Inner, inner, Up, up, size-pos}
use Rattle.trees.proofs.PostorderLaws.{size_of, kind-of}
use Rattle.trees.proofs.RunLaws.{Children, children, state_below}
use Rattle.state_sets.specs.StateSets.{member}
use Rattle.fewest.specs.inner.Cost.{Problem, leaf_cost, least_left, left_choice, right_choice, label_choice, cost}
use Rattle.fewest.specs.inner.Cost.{witness}
use Rattle.fewest.specs.inner.Rows.{leaf_cost as leaf_label_cost}
use Rattle.fewest.specs.Relabelling.{stock_of}
use Rattle.fewest.specs.inner.Problems.{problem_for, cost_at}
use Rattle.fewest.specs.inner.passes.Cells.{size_cell, cost_cell, left_within}
use Rattle.allowed.specs.inner.Inputs.{PassArgs}
use Rattle.fewest.proofs.passes.CostAtLaws.{cost-leaf, cost-inner, cost-far}
use Rattle.fewest.specs.inner.down.Search.{any_of, left_hit}
use Rattle.fewest.specs.inner.down.Down.{own_cost, ChoiceAt, placed, LeafDown, InnerDown, NodeDown, InnerDownArgs}
use Rattle.fewest.specs.inner.down.Down.{NodeDownArgs, Told, Down}
use Rattle.fewest.proofs.down.AnyLaws.{first-place}
use Rattle.fewest.proofs.down.ColumnLaws.{col-same, col-other, col-cost, col-past}
use Rattle.fewest.proofs.down.WayLaws.{found, left_is, right_is, label_is}
use Rattle.fewest.proofs.down.WitnessLaws.{Stands, stands, leaf-label, InnerWay, inner-way, left_way, right_way}
use Rattle.fewest.proofs.down.WitnessLaws.{label_way}

module _ (ks ls lv inn may : List ℕ) (s k : ℕ) (G : PassArgs ks ls lv inn s k) where
  -- ---- one tree

  module _ (acc : ℕ → Bool) (t : Tree) (x : kinds_of t ≡ ks) (y : labels_of t ≡ ls) (g₀ : ℕ)
      (low₀ : cost (problem_for s k lv inn (stock_of may) acc) t 0 g₀ < 65536) where
    abbrev P : Problem
    P = problem_for s k lv inn (stock_of may) acc

    abbrev u : Tree
    u = witness P t 0 g₀

    abbrev τ : ℕ → ℕ
    τ v = state P.automaton (sub u v)

    n_is : length ks ≡ size t
    n_is = size_of t ks x

    node-label : (v : ℕ) → get_or ls v 0 ≡ label_at t v
    node-label v = ap (λ (l : List ℕ). get_or l v 0) (sym y)

    state_in : (v : ℕ) → τ v < s
    state_in v = state_below P.automaton G.leaf_below (λ p a q. G.inner_below _) (sub u v)

    module _ (i : ℕ) (before b : List ℕ) (T : Told P t g₀ s (i + 1) before b) (h : i < size t) (room : size t * (s + 1) ≤ length b) where
      S : Stands P t g₀ low₀ i
      S = stands P t g₀ low₀ i h

      own-state : size_cell s b i ≡ τ i
      own-state = T.told i (omega arith) (λ r. omega (arith, (up t i r).above))

      own-cost : own_cost s b i ≡ cost_at P t i (τ i)
      own-cost = ap (cost_cell s b i) own-state ∙ T.costs i (τ i) h (state_in i)

      own_in : i * (s + 1) < length b
      own_in = omega (arith, stride (s + 1) i (size t) h)

      -- ---- a leaf

      module _ (e : kind_at t i ≡ 0) (after : List ℕ) (D : LeafDown b lv s k i (get_or ls i 0) (member (stock_of may i)) after) where
        leaf-hit : (j : ℕ) → j < k
            → eqb (leaf_label_cost lv (get_or ls i 0) (member (stock_of may i)) (size_cell s b i) j) (own_cost s b i)
            ≡ eqb (leaf_cost P i (label_at t i) (τ i) j) (cost_at P t i (τ i))
        unfolding leaf_cost leaf_label_cost
        leaf-hit j l =
            ap₂ (λ (q c : ℕ). eqb (leaf_label_cost lv (get_or ls i 0) (member (stock_of may i)) q j) c) own-state own-cost
            ∙ ap (λ (a : ℕ). eqb (leaf_label_cost lv a (member (stock_of may i)) (τ i) j) (cost_at P t i (τ i))) (node-label i)

        leaf-is : D.label ≡ label_at u i
        leaf-is =
            first-place 65536 k (leaf_cost P i (label_at t i) (τ i)) (cost_at P t i (τ i)) D.label
            (λ j. eqb (leaf_label_cost lv (get_or ls i 0) (member (stock_of may i)) (size_cell s b i) j) (own_cost s b i)) S.low
            (sym (cost-leaf P t i h e (τ i))) leaf-hit D.first
            ∙ sym (leaf-label P t g₀ low₀ i h S e)

        -- a leaf is nobody's parent
        not-parent : (v : ℕ) → v + 1 < size t → parent t v ≡ i → ⊥
        not-parent v r q = omega (arith, (subst (Up t v) q (up t v r)).inside, e)

        leaf-told : Told P t g₀ s i before (set b (i * (s + 1)) (label_at u i))
        leaf-told = record {
          costs = λ v j l m. col-cost s b i (label_at u i) v j m ∙ T.costs v j l m;
          done = λ v l m. elim (ℕ_discrete v i) [
            | yes q ↦ rw q (col-same s b i (label_at u i) own_in)
            | no q ↦ col-other s b i (label_at u i) v q ∙ T.done v (omega arith) m
          ];
          told = λ v l m. col-other s b i (label_at u i) v (omega arith)
              ∙ T.told v (omega arith) (λ r. omega (arith, m r, not-parent v r));
          plain = λ v l r m. col-other s b i (label_at u i) v (omega arith) ∙ T.plain v (omega arith) r (omega arith);
          kept = λ j l. col-past s b i (label_at u i) j (omega (arith, stride (s + 1) i (size t) h)) ∙ T.kept j l;
        }

        leaf-next : Told P t g₀ s i before after
        leaf-next = subst (Told P t g₀ s i before) (sym (D.is ∙ ap (set b (i * (s + 1))) leaf-is)) leaf-told

      -- ---- an inner node

      module _ (e : kind_at t i ≡ 0 → ⊥) where
        I : Inner t i
        I = inner t i h e

        K : Children t i
        K = children t i h e

        abbrev lc : ℕ
        lc = i - 1 - size (sub t (i - 1))

        W : InnerWay P t g₀ low₀ i
        W = inner-way P t g₀ low₀ i h S e

        right-size : size_cell s b (i - 1) ≡ size (sub t (i - 1))
        right-size = T.plain (i - 1) (omega arith) (omega (arith, K.pos)) (omega (arith, I.right-up))

        left-node : left_within s b i ≡ lc
        left-node = ap (λ (z : ℕ). i - 1 - z) right-size

        left-cost : (p : ℕ) → p < s → get_or b (left_within s b i * (s + 1) + 1 + p) 0 ≡ cost_at P t lc p
        left-cost p l = ap (λ (v : ℕ). cost_cell s b v p) left-node ∙ T.costs lc p (omega (arith, K.left_in)) l

        right-cost : (q : ℕ) → q < s → get_or b ((i - 1) * (s + 1) + 1 + q) 0 ≡ cost_at P t (i - 1) q
        right-cost q l = T.costs (i - 1) q (omega (arith, K.pos)) l

        least : least_left P i (get_or ls i 0) (size_cell s b i) (cost_at P t lc) (cost_at P t (i - 1)) ≡ own_cost s b i
        least =
            ap₂ (λ (a j : ℕ). least_left P i a j (cost_at P t lc) (cost_at P t (i - 1))) (node-label i) own-state
            ∙ sym (cost-inner P t i h e (τ i)) ∙ sym own-cost

        under : own_cost s b i < 65536
        under = omega (arith, own-cost, S.low)

        way : any_of s (left_hit b inn s k (left_within s b i * (s + 1) + 1) ((i - 1) * (s + 1) + 1) (get_or ls i 0) (member (stock_of may i))
            (size_cell s b i) (own_cost s b i)) ≡ true
        way = found s k lv inn (stock_of may) acc i (get_or ls i 0) (size_cell s b i) (own_cost s b i) (cost_at P t lc) (cost_at P t (i - 1))
            least under b (left_within s b i * (s + 1) + 1) ((i - 1) * (s + 1) + 1) left-cost right-cost

        right-same : (a a' j j' p p' : ℕ) → a ≡ a' → j ≡ j' → p ≡ p'
            → right_choice P i a j (cost_at P t lc p) p (cost_at P t (i - 1)) ≡ right_choice P i a' j' (cost_at P t lc p') p' (cost_at P t (i - 1))
        right-same a a' j j' p p' d f q = rw (d, f, q)

        label_same : (a a' j j' p p' q q' : ℕ) → a ≡ a' → j ≡ j' → p ≡ p' → q ≡ q'
            → label_choice P i a j (cost_at P t lc p) p (cost_at P t (i - 1) q) q
            ≡ label_choice P i a' j' (cost_at P t lc p') p' (cost_at P t (i - 1) q') q'
        label_same a a' j j' p p' q q' d f m n = rw (d, f, m, n)

        module _ (p q l : ℕ) (C : ChoiceAt b inn s k i (get_or ls i 0) (member (stock_of may i)) p q l) where
          left-way : p ≡ left_way P t i (τ i)
          left-way =
              left_is s k lv inn (stock_of may) acc i (get_or ls i 0) (size_cell s b i) (own_cost s b i) (cost_at P t lc) (cost_at P t (i - 1))
              least under b (left_within s b i * (s + 1) + 1) ((i - 1) * (s + 1) + 1) left-cost right-cost p q l C
              ∙ ap₂ (λ (a j : ℕ). left_choice P i a j (cost_at P t lc) (cost_at P t (i - 1))) (node-label i) own-state

          right-way : q ≡ right_way P t i (τ i)
          right-way =
              right_is s k lv inn (stock_of may) acc i (get_or ls i 0) (size_cell s b i) (own_cost s b i) (cost_at P t lc) (cost_at P t (i - 1))
              least under b (left_within s b i * (s + 1) + 1) ((i - 1) * (s + 1) + 1) left-cost right-cost p q l C
              ∙ right-same (get_or ls i 0) (label_at t i) (size_cell s b i) (τ i) p (left_way P t i (τ i)) (node-label i) own-state left-way

          label-way : l ≡ label_way P t i (τ i)
          label-way =
              label_is s k lv inn (stock_of may) acc i (get_or ls i 0) (size_cell s b i) (own_cost s b i) (cost_at P t lc) (cost_at P t (i - 1))
              least under b (left_within s b i * (s + 1) + 1) ((i - 1) * (s + 1) + 1) left-cost right-cost p q l C
              ∙ label_same (get_or ls i 0) (label_at t i) (size_cell s b i) (τ i) p (left_way P t i (τ i)) q (right_way P t i (τ i))
              (node-label i) own-state left-way right-way

          placed-is : placed s b i p q l
              ≡ set (set (set b ((i - 1) * (s + 1)) (τ (i - 1))) (lc * (s + 1)) (τ lc)) (i * (s + 1)) (label_at u i)
          unfolding placed
          placed-is = rw (left-node, left-way ∙ sym W.left, right-way ∙ sym W.right, label-way ∙ sym W.label)

        -- the three stores
        B1 : List ℕ
        B1 = set b ((i - 1) * (s + 1)) (τ (i - 1))

        B2 : List ℕ
        B2 = set B1 (lc * (s + 1)) (τ lc)

        B3 : List ℕ
        B3 = set B2 (i * (s + 1)) (label_at u i)

        len1 : length B1 ≡ length b
        unfolding B1
        len1 = length-set b ((i - 1) * (s + 1)) (τ (i - 1))

        len2 : length B2 ≡ length b
        unfolding B2
        len2 = length-set B1 (lc * (s + 1)) (τ lc) ∙ len1

        apart : (v : ℕ) → (v ≡ i → ⊥) → (v ≡ lc → ⊥) → (v ≡ i - 1 → ⊥) → size_cell s B3 v ≡ size_cell s b v
        unfolding B1 B2 B3
        apart v p q r =
            col-other s B2 i (label_at u i) v p ∙ col-other s B1 lc (τ lc) v q ∙ col-other s b (i - 1) (τ (i - 1)) v r

        at_own : size_cell s B3 i ≡ label_at u i
        unfolding B3
        at_own = col-same s B2 i (label_at u i) (omega (arith, len2, own_in))

        at_left : size_cell s B3 lc ≡ τ lc
        unfolding B2 B3
        at_left = col-other s B2 i (label_at u i) lc (λ z. omega (arith, K.left_in))
            ∙ col-same s B1 lc (τ lc) (omega (arith, len1, stride (s + 1) lc (size t) (omega (arith, K.left_in))))

        at_right : size_cell s B3 (i - 1) ≡ τ (i - 1)
        unfolding B1 B2 B3
        at_right = col-other s B2 i (label_at u i) (i - 1) (λ z. omega (arith, K.pos))
            ∙ col-other s B1 lc (τ lc) (i - 1) (λ z. omega (arith, K.pos, K.right-size, size-pos (sub t (i - 1))))
            ∙ col-same s b (i - 1) (τ (i - 1)) (omega (arith, stride (s + 1) (i - 1) (size t) (omega (arith, K.pos))))

        cost-same : (v j : ℕ) → j < s → cost_cell s B3 v j ≡ cost_cell s b v j
        unfolding B1 B2 B3
        cost-same v j m =
            col-cost s B2 i (label_at u i) v j m ∙ col-cost s B1 lc (τ lc) v j m ∙ col-cost s b (i - 1) (τ (i - 1)) v j m

        past : (j : ℕ) → size t * (s + 1) ≤ j → get_or B3 j 0 ≡ get_or b j 0
        unfolding B1 B2 B3
        past j m =
            col-past s B2 i (label_at u i) j (omega (arith, stride (s + 1) i (size t) h))
            ∙ col-past s B1 lc (τ lc) j (omega (arith, stride (s + 1) lc (size t) (omega (arith, K.left_in))))
            ∙ col-past s b (i - 1) (τ (i - 1)) j (omega (arith, stride (s + 1) (i - 1) (size t) (omega (arith, K.pos))))

        left-parent : parent t lc ≡ i
        left-parent = let z : lc ≡ I.left = omega (arith, I.at) in ap (parent t) z ∙ I.left_up

        -- a node whose parent is i is one of its children
        not-child : (v : ℕ) → v + 1 < size t → (v ≡ i - 1 → ⊥) → (v ≡ lc → ⊥) → parent t v ≡ i → ⊥
        not-child v r q p z =
            let U : Up t v i = subst (Up t v) z (up t v r) in
            elim U.child [ inl c ↦ q (omega arith) | inr c ↦ p (omega arith) ]

        inner-told : Told P t g₀ s i before B3
        inner-told = record {
          costs = λ v j l m. cost-same v j m ∙ T.costs v j l m;
          done = λ v l m. elim (ℕ_discrete v i) [
            | yes q ↦ rw q at_own
            | no q ↦ apart v q (λ z. omega (arith, K.left_in)) (λ z. omega (arith, K.pos)) ∙ T.done v (omega arith) m
          ];
          told = λ v l m. elim (ℕ_discrete v (i - 1)) [
            | yes q ↦ rw q at_right
            | no q ↦ elim (ℕ_discrete v lc) [
              | yes p ↦ rw p at_left
              | no p ↦ apart v (omega arith) p q ∙ T.told v (omega arith) (λ r. omega (arith, m r, not-child v r q p))
            ]
          ];
          plain = λ v l r m. apart v (omega arith) (λ z. omega (arith, left-parent, ap (parent t) z))
              (λ z. omega (arith, I.right-up, ap (parent t) z)) ∙ T.plain v (omega arith) r (omega arith);
          kept = λ j l. past j l ∙ T.kept j l;
        }

        inner-next : (after : List ℕ) → InnerDown b inn s k i (get_or ls i 0) (member (stock_of may i)) after → Told P t g₀ s i before after
        unfolding B1 B2 B3
        inner-next after D =
            subst (Told P t g₀ s i before) (sym (D.is ∙ placed-is D.left D.right D.label D.chosen)) inner-told

        inner-args : InnerDownArgs b inn s k i (get_or ls i 0) (member (stock_of may i))
        inner-args = record {
          few = G.few;
          labels = G.labels;
          inner_count = G.inner_count;
          inner_below = G.inner_below;
          pos = K.pos;
          left_in = omega (arith, right-size, K.right-size);
          room = omega (arith, stride (s + 1) i (size t) h);
          right_room = omega (arith, stride (s + 1) (i - 1) (size t) (omega (arith, K.pos)));
          left_room = omega (arith, stride (s + 1) (left_within s b i) (size t) (omega (arith, left-node, K.left_in)));
          left_low = λ j l. omega (arith, left-cost j l, cost-far P t lc j);
          right_low = λ j l. omega (arith, right-cost j l, cost-far P t (i - 1) j);
          state_in = omega (arith, own-state, state_in i);
          under = under;
          found = way;
        }

      node-next : (after : List ℕ) → NodeDown ks ls lv inn may s k b i after → Told P t g₀ s i before after
      node-next after D = elim (ℕ_discrete (kind_at t i) 0) [
        | yes e ↦ leaf-next e after (D.leaf (sym (kind-of t ks i x) ∙ e))
        | no e ↦ inner-next e after (D.inner (λ z. e (kind-of t ks i x ∙ z)))
      ]

      node-args : ((length may ≡ 0 → ⊥) → length may ≡ length ks) → NodeDownArgs ks ls lv inn may s k b i
      node-args stocks = record {
        kind_in = omega (arith, n_is);
        label_in = omega (arith, n_is, G.count);
        label_below = omega (arith, G.below i, G.labels);
        stock = λ z. omega (arith, stocks z, n_is);
        leaf = record {
          leaf = record { few = G.few; labels = G.labels; count = G.leaf_count; below = G.leaf_below };
          few = G.few;
          labels = G.labels;
          room = omega (arith, stride (s + 1) i (size t) h);
          state_in = omega (arith, own-state, state_in i);
        };
        inner = λ z. inner-args (λ q. z (sym (kind-of t ks i x) ∙ q));
      }

  -- ---- the same, of every tree with these kinds and labels

  module _ (i : ℕ) (b : List ℕ) (h : i < length ks) (room : length ks * (s + 1) ≤ length b) where
    pub down-next : (entry after : List ℕ) → Down ks ls lv inn may s k (i + 1) entry b → NodeDown ks ls lv inn may s k b i after
        → Down ks ls lv inn may s k i entry after
    down-next entry after D N acc t g before x y low T =
        let n : length ks ≡ size t = size_of t ks x in
        let m : length ks * (s + 1) ≡ size t * (s + 1) = ap (λ (z : ℕ). z * (s + 1)) n in
        node-next acc t x y g low i before b (D acc t g before x y low T) (omega arith) (omega arith) after N

    pub turn-args : ((length may ≡ 0 → ⊥) → length may ≡ length ks) → (acc : ℕ → Bool) (t : Tree) (g : ℕ) (before : List ℕ)
        → kinds_of t ≡ ks → labels_of t ≡ ls → cost (problem_for s k lv inn (stock_of may) acc) t 0 g < 65536
        → Told (problem_for s k lv inn (stock_of may) acc) t g s (i + 1) before b
        → NodeDownArgs ks ls lv inn may s k b i
    turn-args stocks acc t g before x y low T =
        let n : length ks ≡ size t = size_of t ks x in
        let m : length ks * (s + 1) ≡ size t * (s + 1) = ap (λ (z : ℕ). z * (s + 1)) n in
        node-args acc t x y g low i before b T (omega arith) (omega arith) stocks
