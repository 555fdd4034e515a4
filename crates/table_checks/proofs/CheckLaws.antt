-- From blocks of nodes to both tables.
--     kinds-of                         the kinds of a tree
--     block_no, block-told             a block, from its leaves and its listed pairs
--     nodes-none .. nodes-all          one block more
--     row-bytes-below, below-row-bytes every byte of the rows is a state; so it is in a built table
--     below-no, root-node-is-no, root-row-no, nodes-tell   what each exit of the comparison of both tables means
--     room_of                          what the tests of all nodes need
use Prim.Native.Nat.{ℕ, ◌+◌, ◌-◌, ◌*◌, ◌≤◌, ◌<◌}
use mathlib.Core.Path.{◌≡◌, refl, sym, ap, ◌∙◌, subst}
use mathlib.Core.Bool.{Bool, true, false, ◌&&◌}
use mathlib.Core.List.{List}
use native.Mathlib.Decide.{ℕ_discrete, dec_lt}
use native.Mathlib.Omega.{arith}
use lib.Dec.{eqb}
use lib.ListN.{length, get_or, take, length-take}
use lib.Seq.{get_or-take}
use borrow.Author.Tests.{eqb-true, eq-eqb}
use Rattle.trees.specs.Tree.{Tree, kinds_of, labels_of, size}
use Rattle.trees.specs.Numbering.{sub}
use Rattle.trees.specs.Tables.{node_table_of, state_table_of}
use Rattle.trees.specs.Postorder.{is_postorder}
use Rattle.trees.proofs.NodeLaws.{inner, size-pos}
use Rattle.list_laws.proofs.RowLaws.{Cell, cell-split}
use Rattle.trees.proofs.RunLaws.{state_below}
use Rattle.trees.proofs.MapLaws.{state_map-below}
use Rattle.trees.proofs.MoveLaws.{both}
use Rattle.list_laws.specs.Tests.{same_list, all_below}
use Rattle.formats.specs.Rules.{tree_automaton}
use Rattle.list_laws.proofs.BoolLaws.{true-false, and_both}
use Rattle.list_laws.proofs.TestLaws.{at-all_below, all_below-at, same_list-is, same_list-true}
use Rattle.tables.specs.node_tables.Cells.{parent_cell, jump_cell, depth_cell, size_cell}
use Rattle.trees.proofs.PostorderLaws.{size_of, some-tree, kind-of}
use Rattle.tables.specs.StateCells.{state_cell, map_cell}
use Rattle.tables.specs.inner.Compare.{every, row_equals}
use Rattle.tables.specs.inner.States.{RuleRuns, inner_state}
use Rattle.tables.specs.node_tables.inner.UpPass.{left_of}
use Rattle.tables.proofs.CompareLaws.{every-all, every-at, row_equals-map, map-row_equals}
use Rattle.table_checks.proofs.LocalLaws.{table-states, table-maps}
use Rattle.tables.proofs.node_tables.InnerNodeLaws.{kind-most}
use Rattle.table_checks.specs.inner.PairNodes.{pair_nodes, root_node}
use Rattle.tables.specs.inner.MapPairs.{row_of, col_of}
use Rattle.table_checks.specs.inner.PairStates.{rows_match, pair_states, leaf_is, pair_is, TableRoom}
use Rattle.table_checks.specs.inner.Blocks.{inner_node, Listed, Means, Leaves, Nodes, Kinds}
use Rattle.table_checks.specs.inner.Tested.{MatchArgs, TablesTested}
use Rattle.table_checks.proofs.PairNodeLaws.{pair-told, tells-pair, NodePairs}
use Rattle.table_checks.proofs.PairStateLaws.{rows_told, tells-rows}
use Rattle.table_checks.proofs.PairLaws.{StatePairs, both-built, built-both}

-- ---- kinds

pub kinds-of : (ks : List ℕ) → is_postorder ks ≡ true → Kinds ks
kinds-of ks h =
    let T : (t : Tree) × (kinds_of t ≡ ks) = some-tree ks h in
    let z : length ks ≡ size T.0 = size_of T.0 ks T.1 in
    record {
      small = kind-most ks h;
      later = λ j l k. omega (arith, (inner T.0 j (omega arith) (λ e. k (sym (kind-of T.0 ks j T.1) ∙ e))).at);
    }

-- ---- blocks

module _ (ks ls node_table lv inn : List ℕ) (s k : ℕ) (state_table : List ℕ) where
  N : ℕ → ℕ → Type 0
  N b e = Nodes ks ls node_table lv inn s k state_table b e

  pub block_no : (b e : ℕ) → Means false (Leaves ks ls node_table lv s state_table b e)
      → Means false (Nodes ks ls node_table lv inn s k state_table b e)
  block_no b e M = record { yes = λ z. absurd (true-false (sym z)); back = λ n. M.back n.leaves }

  pub block-told : (b e c : ℕ) (l : List ℕ) → Listed (inner_node ks) b e c l
      → Means true (Leaves ks ls node_table lv s state_table b e) → (r : Bool)
      → r ≡ every c (λ i. pair_is ls node_table inn s k (length ks) state_table (get_or l i 0))
      → Means r (Nodes ks ls node_table lv inn s k state_table b e)
  block-told b e c l L M r h =
      let f : ℕ → Bool = λ i. pair_is ls node_table inn s k (length ks) state_table (get_or l i 0) in
      record {
        yes = λ z. record {
          leaves = M.yes refl;
          pairs = λ v g m q. (let i = L.all v g m q in
              subst (λ (x : ℕ). pair_is ls node_table inn s k (length ks) state_table x ≡ true) i.2
              (every-at c f (sym h ∙ z) i.0 i.1));
        };
        back = λ n. h ∙ every-all c f (λ i m. n.pairs (get_or l i 0) (L.from i m) (L.to i m) (L.on i m));
      }

  pub nodes-none : Nodes ks ls node_table lv inn s k state_table 0 0
  nodes-none = record { leaves = λ v g h. absurd (omega arith); pairs = λ v g h. absurd (omega arith) }

  pub nodes-more : (b e : ℕ) → Nodes ks ls node_table lv inn s k state_table 0 b
      → Means true (Nodes ks ls node_table lv inn s k state_table b e)
      → Nodes ks ls node_table lv inn s k state_table 0 e
  nodes-more b e n M =
      let m : Nodes ks ls node_table lv inn s k state_table b e = M.yes refl in
      record {
        leaves = λ v g h q. elim (dec_lt v b) [ yes l ↦ n.leaves v g l q | no l ↦ m.leaves v (omega arith) h q ];
        pairs = λ v g h q. elim (dec_lt v b) [ yes l ↦ n.pairs v g l q | no l ↦ m.pairs v (omega arith) h q ];
      }

  pub nodes-no : (b e : ℕ) → e ≤ length ks → Means false (Nodes ks ls node_table lv inn s k state_table b e)
      → Means false (Nodes ks ls node_table lv inn s k state_table 0 (length ks))
  nodes-no b e l M = record {
    yes = λ z. absurd (true-false (sym z));
    back = λ n. M.back (record {
      leaves = λ v g h. n.leaves v (omega arith) (omega arith);
      pairs = λ v g h. n.pairs v (omega arith) (omega arith);
    });
  }

  pub nodes-all : (b : ℕ) → b ≡ length ks → Nodes ks ls node_table lv inn s k state_table 0 b
      → Means true (Nodes ks ls node_table lv inn s k state_table 0 (length ks))
  nodes-all b e n = record {
    yes = λ z. subst (λ (x : ℕ). Nodes ks ls node_table lv inn s k state_table 0 x) e n;
    back = λ m. refl;
  }

-- ---- the tests of all nodes and the root are those of the laws

record All (ks ls node_table lv inn : List ℕ) (s k : ℕ) (state_table : List ℕ) : Type 0 where
  root-node-is : root_node node_table (length ks - 1) ≡ true
  root-row : row_equals s state_table (length ks - 1) (λ q. q) ≡ true
  nodes : Nodes ks ls node_table lv inn s k state_table 0 (length ks)

module _ (ks ls node_table lv inn : List ℕ) (s k : ℕ) (state_table : List ℕ) where
  root_told : (v : ℕ) → root_node node_table v ≡ true → (parent_cell node_table v ≡ v) × (jump_cell node_table v ≡ v)
      × (depth_cell node_table v ≡ 0)
  unfolding root_node
  root_told v e =
      let m0 = both (eqb (parent_cell node_table v) v) (eqb (jump_cell node_table v) v && eqb (depth_cell node_table v) 0)
      e in
      let m1 = both (eqb (jump_cell node_table v) v) (eqb (depth_cell node_table v) 0) m0.1 in (
        eqb-true (parent_cell node_table v) v m0.0,
        eqb-true (jump_cell node_table v) v m1.0,
        eqb-true
            (depth_cell node_table v) 0 m1.1,
      )

  tells-root : (v : ℕ) → parent_cell node_table v ≡ v → jump_cell node_table v ≡ v → depth_cell node_table v ≡ 0
      → root_node node_table v ≡ true
  unfolding root_node
  tells-root v a b c = rw (
    eq-eqb (parent_cell node_table v) v a,
    eq-eqb (jump_cell node_table v) v b,
    eq-eqb
        (depth_cell node_table v) 0 c,
  )

  leaf-told : (v : ℕ) → leaf_is ls node_table lv s state_table v ≡ true
      → (size_cell node_table v ≡ 1) × (state_cell s state_table v ≡ get_or lv (get_or ls v 0) 0)
  unfolding leaf_is
  leaf-told v e =
      let m = both (eqb (size_cell node_table v) 1) (eqb (state_cell s state_table v) (get_or lv (get_or ls v 0) 0)) e in
      (eqb-true (size_cell node_table v) 1 m.0, eqb-true (state_cell s state_table v) (get_or lv (get_or ls v 0) 0) m.1)

  tells-leaf : (v : ℕ) → size_cell node_table v ≡ 1 → state_cell s state_table v ≡ get_or lv (get_or ls v 0) 0
      → leaf_is ls node_table lv s state_table v ≡ true
  unfolding leaf_is
  tells-leaf v a b = rw (
    eq-eqb (size_cell node_table v) 1 a,
    eq-eqb (state_cell s state_table v)
        (get_or lv (get_or ls v 0) 0) b,
  )

  X : ℕ → Bool
  X v = rows_match node_table inn s (length ks) state_table v (left_of node_table v) (row_of ls node_table state_table s k v)
      (col_of ls state_table s v) (k * s)

  node-told : (v : ℕ) → pair_is ls node_table inn s k (length ks) state_table v ≡ true
      → (pair_nodes (length ks) node_table v ≡ true)
      × (state_cell s state_table v ≡ inner_state node_table state_table inn s k v (get_or ls v 0)) × (X v ≡ true)
  unfolding pair_is pair_states X
  node-told v e =
      let st : Bool = eqb (state_cell s state_table v) (inner_state node_table state_table inn s k v (get_or ls v 0)) in
      let m0 = both (pair_nodes (length ks) node_table v) (st && X v) e in
      let m1 = both st (X v) m0.1 in (
        m0.0,
        eqb-true (state_cell s state_table v) (inner_state node_table state_table inn s k v (get_or ls v 0)) m1.0,
        m1.1,
      )

  tells-node : (v : ℕ) → pair_nodes (length ks) node_table v ≡ true
      → state_cell s state_table v ≡ inner_state node_table state_table inn s k v (get_or ls v 0) → X v ≡ true
      → pair_is ls node_table inn s k (length ks) state_table v ≡ true
  unfolding pair_is pair_states X
  tells-node v a b c =
      rw (a, eq-eqb (state_cell s state_table v) (inner_state node_table state_table inn s k v (get_or ls v 0)) b, c)

  -- the root by any name
  root_is : (P : ℕ → Type 0) → P (length ks - 1) → (v : ℕ) → v + 1 ≡ length ks → P v
  root_is P p v e = let z : length ks - 1 ≡ v = omega arith in subst P z p

  all-linked : All ks ls node_table lv inn s k state_table → NodePairs ks node_table
  all-linked A =
      let r = root_told (length ks - 1) A.root-node-is in
      record {
        leaves = λ v h e. (leaf-told v (A.nodes.leaves v (omega arith) h e)).0;
        pairs = λ v h e. pair-told (length ks) node_table v (node-told v (A.nodes.pairs v (omega arith) h e)).0;
        root-parent = root_is (λ v. parent_cell node_table v ≡ v) r.0;
        root-jump = root_is (λ v. jump_cell node_table v ≡ v) r.1;
        root-depth = root_is (λ v. depth_cell node_table v ≡ 0) r.2;
      }

  all-tabled : All ks ls node_table lv inn s k state_table → StatePairs ks ls node_table lv inn s k state_table
  unfolding X
  all-tabled A = record {
    leaves = λ v h e. (leaf-told v (A.nodes.leaves v (omega arith) h e)).1;
    states = λ v h e. (node-told v (A.nodes.pairs v (omega arith) h e)).1;
    rows = λ v h e. rows_told node_table inn s (length ks) state_table v (left_of node_table v)
        (row_of ls node_table state_table s k v) (col_of ls state_table s v) (k * s)
        (node-told v (A.nodes.pairs v (omega arith) h e)).2;
    root = λ v q e l. root_is (λ u. map_cell s state_table u q ≡ q)
        (row_equals-map s state_table (length ks - 1) (λ x. x) A.root-row q l) v e;
  }

  back-all : 0 < length ks → NodePairs ks node_table → StatePairs ks ls node_table lv inn s k state_table
      → All ks ls node_table lv inn s k state_table
  unfolding X
  back-all pos L T =
      let e : length ks - 1 + 1 ≡ length ks = omega arith in
      record {
        root-node-is = tells-root (length ks - 1) (L.root-parent (length ks - 1) e) (L.root-jump (length ks - 1) e)
            (L.root-depth (length ks - 1) e);
        root-row = map-row_equals s state_table (length ks - 1) (λ x. x) (λ q l. T.root (length ks - 1) q e l);
        nodes = record {
          leaves = λ v g h q. tells-leaf v (L.leaves v h q) (T.leaves v h q);
          pairs = λ v g h q. tells-node v (tells-pair (length ks) node_table v (L.pairs v h q)) (T.states v h q)
              (tells-rows node_table inn s (length ks) state_table v (left_of node_table v)
              (row_of ls node_table state_table s k v) (col_of ls state_table s v) (k * s)
              (T.rows v h q));
        };
      }

-- ---- a built table has states only

module _ (ks lv inn : List ℕ) (s k : ℕ) (mk : List ℕ) (t : Tree) (state_table : List ℕ) (R : RuleRuns s k lv inn)
    (e : take (size t * (s + 1)) state_table ≡ state_table_of (tree_automaton s k lv inn mk) t) where
  cell_below : (v c : ℕ) → v < size t → c < s + 1 → get_or state_table (v * (s + 1) + c) 0 < s
  cell_below v c h l = elim (ℕ_discrete c 0) [
    | yes z ↦ (let i : v * (s + 1) + c ≡ v * (s + 1) = omega arith in
        rw (ap (λ (x : ℕ). get_or state_table x 0) i ∙ table-states (tree_automaton s k lv inn mk) t state_table e v h)
        (state_below (tree_automaton s k lv inn mk) R.leaf_below (λ p a q. R.inner_below ((p * k + a) * s + q))
        (sub t v)))
    | no z ↦ (let i : v * (s + 1) + c ≡ v * (s + 1) + (1 + (c - 1)) = omega arith in
        rw (ap (λ (x : ℕ). get_or state_table x 0) i
        ∙ table-maps (tree_automaton s k lv inn mk) t state_table e v (omega arith) h (c - 1) (omega arith))
        (state_map-below (tree_automaton s k lv inn mk) t (λ p a q. R.inner_below ((p * k + a) * s + q)) v (c - 1)
        (omega arith)))
  ]

  built-below : (j : ℕ) → j < size t * (s + 1) → get_or state_table j 0 < s
  built-below j h =
      let c : Cell (s + 1) (size t) j = cell-split (s + 1) (size t) j h in
      rw c.is (cell_below c.row c.column c.row_in c.column-in)

pub row-bytes-below : (s m : ℕ) (b : List ℕ) → m ≤ length b → ((j : ℕ) → j < m → get_or b j 0 < s)
    → all_below s (take m b) ≡ true
row-bytes-below s m b room f =
    at-all_below s (take m b)
    (λ j h. let l : j < m = omega (arith, length-take m b) in rw (get_or-take m b j 0 l) (f j l))

pub below-row-bytes : (s m : ℕ) (b : List ℕ) → m ≤ length b → all_below s (take m b) ≡ true → (j : ℕ) → j < m
    → get_or b j 0 < s
below-row-bytes s m b room e j h =
    omega (arith, all_below-at s (take m b) j e (omega (arith, length-take m b)), get_or-take m b j 0 h)

-- ---- what the check of both tables means

module _ (ks ls node_table lv inn : List ℕ) (s k : ℕ) (state_table : List ℕ)
    (B : MatchArgs ks ls node_table lv inn s k (length state_table)) where
  told-false : ((mk : List ℕ) (t : Tree) → kinds_of t ≡ ks → labels_of t ≡ ls
      → take (length ks * 4) node_table ≡ node_table_of t
      → take (length ks * (s + 1)) state_table ≡ state_table_of (tree_automaton s k lv inn mk) t → ⊥)
      → TablesTested s k lv inn ks ls node_table state_table false
  told-false f mk t ek el =
      go (same_list (take (length ks * 4) node_table) (node_table_of t))
      (same_list (take (length ks * (s + 1)) state_table) (state_table_of (tree_automaton s k lv inn mk) t)) refl refl
    where
      go : (x y : Bool) → same_list (take (length ks * 4) node_table) (node_table_of t) ≡ x
          → same_list (take (length ks * (s + 1)) state_table) (state_table_of (tree_automaton s k lv inn mk) t) ≡ y
          → false ≡ (x && y)
      go true true d e = absurd (f mk t ek el (same_list-true (take (length ks * 4) node_table) (node_table_of t) d)
          (same_list-true (take (length ks * (s + 1)) state_table) (state_table_of (tree_automaton s k lv inn mk) t) e))
      go true false d e = refl
      go false y d e = refl

  pub below-no : all_below s (take (length ks * (s + 1)) state_table) ≡ false
      → TablesTested s k lv inn ks ls node_table state_table false
  below-no ne = told-false (λ mk t ek el d e.
      let z : length ks ≡ size t = size_of t ks ek in
      let g : take (size t * (s + 1)) state_table ≡ state_table_of (tree_automaton s k lv inn mk) t = rw z at e in
      true-false (sym (row-bytes-below s (length ks * (s + 1)) state_table B.room
      (λ j h. built-below ks lv inn s k mk t state_table B.rules g j (rw z at h))) ∙ ne))

  some_node : 0 < length ks
  some_node =
      let T : (t : Tree) × (kinds_of t ≡ ks) = some-tree ks B.postorder in
      omega (arith, size_of T.0 ks T.1, size-pos T.0)

  built-all : (mk : List ℕ) (t : Tree) → kinds_of t ≡ ks → labels_of t ≡ ls
      → take (length ks * 4) node_table ≡ node_table_of t
      → take (length ks * (s + 1)) state_table ≡ state_table_of (tree_automaton s k lv inn mk) t
      → All ks ls node_table lv inn s k state_table
  built-all mk t ek el d e =
      let q = built-both s k lv inn mk t ks ls node_table state_table ek el B.rules.inner_below d e in
      back-all ks ls node_table lv inn s k state_table some_node q.0 q.1

  pub root-node-is-no : root_node node_table (length ks - 1) ≡ false
      → TablesTested s k lv inn ks ls node_table state_table false
  root-node-is-no ne = told-false (λ mk t ek el d e. true-false (sym (built-all mk t ek el d e).root-node-is ∙ ne))

  pub root-row-no : row_equals s state_table (length ks - 1) (λ q. q) ≡ false
      → TablesTested s k lv inn ks ls node_table state_table false
  root-row-no ne = told-false (λ mk t ek el d e. true-false (sym (built-all mk t ek el d e).root-row ∙ ne))

  pub nodes-tell : root_node node_table (length ks - 1) ≡ true → row_equals s state_table (length ks - 1) (λ q. q) ≡ true
      → (r : Bool)
      → Means r (Nodes ks ls node_table lv inn s k state_table 0 (length ks))
      → TablesTested s k lv inn ks ls node_table state_table r
  nodes-tell x y true M mk t ek el =
      let A : All ks ls node_table lv inn s k state_table = record
      { root-node-is = x; root-row = y; nodes = M.yes refl } in
      let q = both-built s k lv inn mk t ks ls node_table state_table ek el B.rules.inner_below B.link_room
      B.room
      (all-linked ks ls node_table lv inn s k state_table A) (all-tabled ks ls node_table lv inn s k state_table A) in
      sym (and_both (same_list (take (length ks * 4) node_table) (node_table_of t))
      (same_list (take (length ks * (s + 1)) state_table) (state_table_of (tree_automaton s k lv inn mk) t))
      (same_list-is (take (length ks * 4) node_table) (node_table_of t) q.0)
      (same_list-is (take (length ks * (s + 1)) state_table) (state_table_of (tree_automaton s k lv inn mk) t) q.1))
  nodes-tell x y false M mk t ek el =
      told-false (λ mk₂ t₂ ek₂ el₂ d e. true-false (sym (M.back (built-all mk₂ t₂ ek₂ el₂ d e).nodes))) mk t ek el

  pub room_of : all_below s (take (length ks * (s + 1)) state_table) ≡ true
      → TableRoom ls node_table lv inn s k (length ks) state_table
  room_of e = record {
    most = B.most;
    count = B.count;
    below = B.below;
    link_room = B.link_room;
    rules = B.rules;
    some = B.some;
    room = B.room;
    states = below-row-bytes s (length ks * (s + 1)) state_table B.room e;
  }

  pub node-some : 0 < length ks
  node-some = some_node
