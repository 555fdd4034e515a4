-- The iterations of the loop that writes the run's states.
--     rule-args                   what reading a rule needs
--     rules-below                 the states of a run are below S
--     leaves-step                 one node more as a leaf
--     leaf-states, inner-states   a block's nodes as leaves, and one more inner node
--     states-raise, states-end    leaves passed by, and the end of a block
--     listed-args, listed-states  the same of a listed inner node, after the one before it
--     list-states, inner-args     what the writers need
use Prim.Native.Nat.{ℕ, ◌+◌, ◌-◌, ◌*◌, ◌≤◌, ◌<◌}
use mathlib.Core.Path.{◌≡◌, sym, ap, ◌∙◌, subst}
use mathlib.Core.List.{List, []}
use native.Mathlib.Decide.{ℕ_discrete}
use native.Mathlib.Nat.{mul-le-mul_right}
use native.Mathlib.Omega.{arith}
use lib.ListN.{length, get_or, set}
use lib.Seq.{get_or-set_same, get_or-set_other}
use Rattle.trees.specs.Tree.{Tree, kinds_of, labels_of, size, kind_at}
use Rattle.trees.specs.Automaton.{Automaton, state}
use Rattle.trees.specs.Numbering.{sub}
use Rattle.trees.proofs.PostorderLaws.{postorder-tree, size_of, kind-of}
use Rattle.list_laws.proofs.Choice.{le-or}
use Rattle.list_laws.proofs.RowLaws.{stride, cells-apart}
use Rattle.trees.proofs.RunLaws.{Children, children, state-leaf, state-inner, state_below}
use Rattle.formats.specs.inner.InnerChecks.{RuleArgs}
use Rattle.formats.specs.Rules.{tree_automaton}
use Rattle.formats.proofs.RuleLaws.{rule-in}
use Rattle.tables.specs.node_tables.inner.UpPass.{left_of}
use Rattle.tables.specs.node_tables.inner.InnerNodes.{from, Listed, ListArgs}
use Rattle.tables.proofs.node_tables.InnerNodeLaws.{from_next, kind-most}
use Rattle.tables.specs.node_tables.Cells.{size_cell}
use Rattle.tables.specs.StateCells.{state_cell}
use Rattle.tables.specs.inner.States.{RuleRuns, Runs, RunWrittenTo, RunsTo, Leaves, StateArgs, inner_state}
use Rattle.tables.specs.inner.States.{InnerArgs}

-- ---- rules

pub rule-args : (lv inn : List ℕ) (s k p a q : ℕ) → RuleRuns s k lv inn → p < s → a < k → q < s → RuleArgs inn s k p a q
rule-args lv inn s k p a q ok hp ha hq = record {
  small = omega (arith, stride k p s hp, mul-le-mul_right k ok.few);
  inside = omega (arith, rule-in s k p a q hp ha hq, ok.inner_count);
}

pub rules-below : (s k : ℕ) (lv inn mk : List ℕ) → RuleRuns s k lv inn → (t : Tree) → state
    (tree_automaton s k lv inn mk) t < s
rules-below s k lv inn mk ok t = state_below (tree_automaton s k lv inn mk) ok.leaf_below (λ p a q. ok.inner_below _)
    t

-- ---- one more state

state-cells-apart : (w u v : ℕ) → 0 < w → (u ≡ v → ⊥) → u * w ≡ v * w → ⊥
state-cells-apart w u v pos ne e = cells-apart w u v 0 0 pos pos ne (omega arith)

-- one node more as a leaf
pub leaves-step : (s : ℕ) (lv ls : List ℕ) (b v : ℕ) (st₀ st : List ℕ) → b ≤ v → v * (s + 1) < length st
    → Leaves s lv ls b v st₀ st → Leaves s lv ls b (v + 1) st₀ (set st (v * (s + 1)) (get_or lv (get_or ls v 0) 0))
leaves-step s lv ls b v st₀ st order room L =
    let x : ℕ = get_or lv (get_or ls v 0) 0 in
    record {
      cells = λ u g h. elim (ℕ_discrete u v) [
        | yes p ↦ rw p (get_or-set_same st (v * (s + 1)) x 0 room)
        | no p ↦ get_or-set_other st (v * (s + 1)) (u * (s + 1)) x 0 (state-cells-apart (s + 1) u v (omega arith) p)
            ∙ L.cells u g (omega arith)
      ];
      kept = λ j a. get_or-set_other st (v * (s + 1)) j x 0 (a v order (omega arith))
          ∙ L.kept j (λ u g h. a u g (omega arith));
    }

module _ (A : Automaton) (t : Tree) (i e : ℕ) (b₀ b : List ℕ) (ran : RunWrittenTo A t i e b₀ b) (h : i < size t) where
  state-iteration : (x : ℕ) → size t * (A.states + 1) ≤ length b → x ≡ state A (sub t i) → RunWrittenTo A t (i + 1) e b₀
      (set b (i * (A.states + 1)) x)
  state-iteration x room z = record {
    states = λ v l g. elim (ℕ_discrete v i) [
      | yes p ↦ rw p (get_or-set_same b (i * (A.states + 1)) x 0 (omega (arith, stride (A.states + 1) i (size t) h))
          ∙ z)
      | no p ↦ get_or-set_other b (i * (A.states + 1)) (v * (A.states + 1)) x 0
          (state-cells-apart (A.states + 1) v i (omega arith) p)
          ∙ ran.states v l (λ c. omega (arith, g c))
    ];
    kept = λ j a. get_or-set_other b (i * (A.states + 1)) j x 0 (a i h) ∙ ran.kept j a;
  }

  -- the children's states, where they are
  module _ (node_table : List ℕ) (sizes : (v : ℕ) → v < size t → size_cell node_table v ≡ size (sub t v))
      (c : kind_at t i ≡ 0 → ⊥) (he : i < e)
    where
      kin : Children t i
      kin = children t i h c

      right-size : size_cell node_table (i - 1) ≡ size (sub t (i - 1))
      right-size = sizes (i - 1) (omega (arith, kin.pos))

      left_is : left_of node_table i ≡ i - 1 - size (sub t (i - 1))
      left_is = omega (arith, right-size)

      right-state : state_cell A.states b (i - 1) ≡ state A (sub t (i - 1))
      right-state = ran.states (i - 1) (omega (arith, kin.pos)) (λ z. omega (arith, kin.pos))

      left-state : state_cell A.states b (left_of node_table i) ≡ state A (sub t (i - 1 - size (sub t (i - 1))))
      left-state =
          ap (state_cell A.states b) left_is
          ∙ ran.states (i - 1 - size (sub t (i - 1))) (omega (arith, kin.left_in)) (λ z. kin.left_in)

-- ---- the same, of every tree with these kinds and labels

-- a block's nodes as leaves, after the nodes before it
pub leaf-states : (s k : ℕ) (lv inn ks ls : List ℕ) (i e : ℕ) (b₀ b after : List ℕ) → e ≤ length ks
    → Runs s k lv inn ks ls i b₀ b → Leaves s lv ls i e b after → RunsTo s k lv inn ks ls i e b₀ after
leaf-states s k lv inn ks ls i e b₀ b after inside all L mk t x y =
    let z : length ks ≡ size t = size_of t ks x in
    record {
      states = λ v l g. le-or i v
          (λ n. elim (ℕ_discrete (get_or (kinds_of t) v 0) 0) [
            | yes c ↦ L.cells v n l ∙ ap (λ (w : List ℕ). get_or lv (get_or w v 0) 0) (sym y)
                ∙ sym (state-leaf (tree_automaton s k lv inn mk) t v (omega arith) c)
            | no c ↦ absurd (omega (arith, g c))
          ])
          (λ n. L.kept (v * (s + 1)) (λ u m f. state-cells-apart (s + 1) v u (omega arith) (omega arith))
          ∙ (all mk t x y).states v n);
      kept = λ j a. L.kept j (λ u m f. a u (omega arith)) ∙ (all mk t x y).kept j a;
    }

-- leaves are passed by
pub states-raise : (s k : ℕ) (lv inn ks ls : List ℕ) (lo hi e : ℕ) (b₀ b : List ℕ)
    → ((p : ℕ) → lo ≤ p → p < hi → get_or ks p 0 ≡ 0) → RunsTo s k lv inn ks ls lo e b₀ b
    → RunsTo s k lv inn ks ls hi e b₀ b
states-raise s k lv inn ks ls lo hi e b₀ b leaves all mk t x y =
    let R : RunWrittenTo (tree_automaton s k lv inn mk) t lo e b₀ b = all mk t x y in
    record {
      states = λ v l g. R.states v l (λ c. le-or lo v
          (λ n. absurd (c (kind-of t ks v x ∙ leaves v n (g c)))) (λ n. n));
      kept = R.kept;
    }

pub states-end : (s k : ℕ) (lv inn ks ls : List ℕ) (e : ℕ) (b₀ b : List ℕ) → RunsTo s k lv inn ks ls e e b₀ b
    → Runs s k lv inn ks ls e b₀ b
states-end s k lv inn ks ls e b₀ b all mk t x y =
    let R : RunWrittenTo (tree_automaton s k lv inn mk) t e e b₀ b = all mk t x y in
    record { states = λ v l. R.states v l (λ c. l); kept = R.kept }

module _ (s k : ℕ) (lv inn ks ls : List ℕ) (i e : ℕ) (node_table b₀ b : List ℕ) (all : RunsTo s k lv inn ks ls i e b₀ b)
    (args : StateArgs ks ls node_table lv inn s k (length b)) (h : i < e) (inside : e ≤ length ks)
    (c : get_or ks i 0 ≡ 0 → ⊥) where
  kind-is : (t : Tree) → kinds_of t ≡ ks → kind_at t i ≡ 0 → ⊥
  kind-is t e z = c (ap (λ (x : List ℕ). get_or x i 0) (sym e) ∙ z)

  pub inner-states : RunsTo s k lv inn ks ls (i + 1) e b₀
      (set b (i * (s + 1)) (inner_state node_table b inn s k i (get_or ls i 0)))
  inner-states mk t x y =
      let n : length ks ≡ size t = size_of t ks x in
      let l : i < size t = omega arith in
      let R : RunWrittenTo (tree_automaton s k lv inn mk) t i e b₀ b = all mk t x y in
      let p : state_cell s b (left_of node_table i) ≡ state (tree_automaton s k lv inn mk)
      (sub t (i - 1 - size (sub t (i - 1)))) =
      left-state (tree_automaton s k lv inn mk) t i e b₀ b R l node_table (args.sizes t x) (kind-is t x) h in
      let q : state_cell s b (i - 1) ≡ state (tree_automaton s k lv inn mk) (sub t (i - 1)) =
      right-state (tree_automaton s k lv inn mk) t i e b₀ b R l node_table (args.sizes t x) (kind-is t x) h in
      state-iteration (tree_automaton s k lv inn mk) t i e b₀ b R l (inner_state node_table b inn s k i (get_or ls i 0))
      (subst (λ (m : ℕ). m * (s + 1) ≤ length b) n args.room)
      (rw (p, q, ← y) (sym (state-inner (tree_automaton s k lv inn mk) t i l (kind-is t x))))

  pub inner-args : InnerArgs node_table b inn s k i (get_or ls i 0)
  inner-args = go (postorder-tree ks ls args.count args.postorder)
    where
      go : ((t : Tree) × (kinds_of t ≡ ks) × (labels_of t ≡ ls)) → InnerArgs node_table b inn s k i (get_or ls i 0)
      go T =
          let t : Tree = T.0 in
          let l : i < size t = omega (arith, size_of t ks T.1) in
          let z : kind_at t i ≡ 0 → ⊥ = kind-is t T.1 in
          let R : RunWrittenTo (tree_automaton s k lv inn []) t i e b₀ b = all [] t T.1 T.2 in
          let K : Children t i = children t i l z in
          let r : size_cell node_table (i - 1) ≡ size (sub t (i - 1)) = args.sizes t T.1 (i - 1)
          (omega (arith, K.pos)) in
          let p : state_cell s b (left_of node_table i) ≡ state (tree_automaton s k lv inn [])
          (sub t (i - 1 - size (sub t (i - 1)))) =
          left-state (tree_automaton s k lv inn []) t i e b₀ b R l node_table (args.sizes t T.1) z h in
          let q : state_cell s b (i - 1) ≡ state (tree_automaton s k lv inn []) (sub t (i - 1)) =
          right-state (tree_automaton s k lv inn []) t i e b₀ b R l node_table (args.sizes t T.1) z h in
          record {
            pos = K.pos;
            few = args.rules.few;
            room = omega (arith, args.link_room);
            right = omega (arith, K.right-size);
            left_in = omega (
              arith,
              stride (s + 1) (left_of node_table i) (length ks) (omega (arith, K.left_in)),
              args.room,
            );
            right_in = omega (arith, stride (s + 1) (i - 1) (length ks) (omega arith), args.room);
            rule = rule-args lv inn s k _ (get_or ls i 0) _ args.rules
                (rw p (rules-below s k lv inn [] args.rules (sub t (i - 1 - size (sub t (i - 1))))))
                (args.below i)
                (rw q (rules-below s k lv inn [] args.rules (sub t (i - 1))));
          }

-- a listed inner node of a block: the leaves before it are passed by
module _ (s k : ℕ) (lv inn ks ls : List ℕ) (start e : ℕ) (node_table b₀ b l : List ℕ) (c i m : ℕ)
    (L : Listed ks start e c l) (h : i < c) (all : RunsTo s k lv inn ks ls (from start l i) e b₀ b)
    (same : m ≡ length b) (args : StateArgs ks ls node_table lv inn s k m) (inside : e ≤ length ks) where
  listed-before : RunsTo s k lv inn ks ls (get_or l i 0) e b₀ b
  listed-before = states-raise s k lv inn ks ls (from start l i) (get_or l i 0) e b₀ b (λ p. L.gaps i p h) all

  table-args : StateArgs ks ls node_table lv inn s k (length b)
  table-args = subst (StateArgs ks ls node_table lv inn s k) same args

  pub listed-args : InnerArgs node_table b inn s k (get_or l i 0) (get_or ls (get_or l i 0) 0)
  listed-args =
      inner-args s k lv inn ks ls (get_or l i 0) e node_table b₀ b listed-before table-args (L.ends i h) inside
      (L.inner i h)

  pub listed-states : RunsTo s k lv inn ks ls (from start l (i + 1)) e b₀ (set b (get_or l i 0 * (s + 1))
      (inner_state node_table b inn s k (get_or l i 0) (get_or ls (get_or l i 0) 0)))
  listed-states =
      let v : ℕ = get_or l i 0 in
      subst (λ (x : ℕ). RunsTo s k lv inn ks ls x e b₀ (set b (v * (s + 1))
      (inner_state node_table b inn s k v (get_or ls v 0)))) (sym (from_next start l i))
      (inner-states s k lv inn ks ls v e node_table b₀ b listed-before table-args (L.ends i h) inside (L.inner i h))

-- ---- what a block needs

module _ (ks ls b lv inn : List ℕ) (s k m : ℕ) (args : StateArgs ks ls b lv inn s k m) where
  pub list-states : (from to n : ℕ) → from ≤ to → to ≤ length ks → to ≤ from + n → ListArgs ks from to n
  list-states from to n order inside fits = record {
    order = order;
    inside = inside;
    most = args.most;
    fits = fits;
    kinds = kind-most ks args.postorder;
  }
