-- The node table by pairs: the tests at the parents, all of them, are the test for the tree's own table.
--     within_in                     an index in range is unchanged
--     jump-far, jump-near           the two ways out of pair_by_distances; pair-by-table, pair-past-table: of pair_jump
--     pair-jump                     on a right table the jump by pairs is child_jump of the node table's passes
--     pair-told, tells-pair         what the test of a pair means, as seven equations
--     pairs-cells, cells-pairs      every leaf, pair and the root pass exactly where the table is the tree's
use Prim.Native.Nat.{ℕ, zero, suc, ◌+◌, ◌-◌, ◌≤◌, ◌<◌}
use mathlib.Core.Path.{◌≡◌, sym, ap, ap₂, ◌∙◌, subst}
use mathlib.Core.Bool.{Bool, true, cond, ◌&&◌}
use mathlib.Core.List.{List}
use mathlib.Core.Logic.{inl, inr}
use native.Mathlib.Decide.{ℕ_discrete}
use native.Mathlib.Numerals.{add-one}
use native.Mathlib.Omega.{arith}
use lib.Dec.{eqb}
use lib.ListN.{length, get_or}
use borrow.Author.Tests.{eqb-true, eq-eqb, ne_eqb, lt-ltb, le-ltb}
use Rattle.trees.proofs.MoveLaws.{both}
use Rattle.trees.specs.Tree.{Tree, kinds_of, size}
use Rattle.trees.specs.Numbering.{parent, depth}
use Rattle.trees.specs.Jumps.{jump}
use Rattle.trees.proofs.NodeLaws.{Inner, inner, Up, up, sub-leaf, parent-root, depth-root, size-pos}
use Rattle.trees.proofs.JumpLaws.{jump-root, jump_in, jump_above, depth-jump, jump_depth-le}
use Rattle.tables.specs.node_tables.Cells.{parent_cell, jump_cell, depth_cell, size_cell}
use Rattle.tables.specs.node_tables.NodeCells.{NodeCells, UpCells, UpTo, DownFrom, Parents}
use Rattle.tables.specs.node_tables.inner.UpPass.{left_of, inner_size}
use Rattle.tables.specs.node_tables.inner.DownPass.{child_jump}
use Rattle.tables.specs.node_tables.inner.CheckPass.{inner_matches, up_matches, down_matches}
use Rattle.table_checks.specs.inner.PairNodes.{within, pair_by_distances, pair_jump, both_are, pair_nodes}
use Rattle.tables.specs.node_tables.JumpLengths.{jump_lengths}
use Rattle.tables.proofs.node_tables.UpLoop.{child-is, at_left, new-size, none_yet}
use Rattle.trees.proofs.PostorderLaws.{size_of, kind-of}
use Rattle.tables.proofs.node_tables.DownLoop.{jump-of, depth-of}
use Rattle.tables.proofs.node_tables.CellLaws.{both-passes, up-parents}
use Rattle.tables.proofs.node_tables.CheckLoop.{UpsTo, ups-step, root-from}

pub within_in : (n x : ℕ) → x < n → within n x ≡ x
within_in n x h = rw (lt-ltb x n h)

-- the two distances without a difference
distances : (d e f : ℕ) → e ≤ d → f ≤ e → eqb (d + f) (e + e) ≡ eqb (d - e) (e - f)
distances d e f g h = elim (ℕ_discrete (d - e) (e - f)) [
  | yes z ↦ eq-eqb (d + f) (e + e) (omega arith) ∙ sym (eq-eqb (d - e) (e - f) z)
  | no z ↦ ne_eqb (d + f) (e + e) (omega arith) ∙ sym (ne_eqb (d - e) (e - f) z)
]

-- ---- the jump by pairs, as the code computes it

module _ (n : ℕ) (b : List ℕ) (v j far : ℕ) (e : j ≡ within n (jump_cell b v)) (f : far ≡ within n (jump_cell b j)) where
  by-places : pair_by_distances n b v
      ≡ cond (eqb (depth_cell b v + depth_cell b far) (depth_cell b j + depth_cell b j)) (jump_cell b j) v
  by-places = rw (f, e)

  pub jump-far : depth_cell b v + depth_cell b far ≡ depth_cell b j + depth_cell b j → jump_cell b j ≡ pair_by_distances n b v
  jump-far h = sym (by-places ∙ ap (λ (x : Bool). cond x (jump_cell b j) v) (eq-eqb _ _ h))

  pub jump-near : (depth_cell b v + depth_cell b far ≡ depth_cell b j + depth_cell b j → ⊥) → v ≡ pair_by_distances n b v
  jump-near h = sym (by-places ∙ ap (λ (x : Bool). cond x (jump_cell b j) v) (ne_eqb _ _ h))

module _ (n : ℕ) (b : List ℕ) (v r : ℕ) where
  pub pair-by-table : (j l : ℕ) → j ≡ within n (jump_cell b v) → depth_cell b v < 1023
      → l ≡ get_or jump_lengths (depth_cell b v + 1) 0 → r ≡ cond (eqb l 1) v (jump_cell b j) → r ≡ pair_jump n b v
  pair-by-table j l e h f g =
      let q : depth_cell b v + 1 < 1024 = omega arith in
      g ∙ ap₂ (λ (i x : ℕ). cond (eqb i 1) v (jump_cell b x)) f e ∙ sym (rw (lt-ltb (depth_cell b v + 1) 1024 q))

  pub pair-past-table : 1023 ≤ depth_cell b v → r ≡ pair_by_distances n b v → r ≡ pair_jump n b v
  pair-past-table h e =
      let q : 1024 ≤ depth_cell b v + 1 = omega arith in
      e ∙ sym (rw (le-ltb (depth_cell b v + 1) 1024 q))

-- ---- the jump by pairs, where depths and jumps from node i on are the tree's
module _ (t : Tree) (i : ℕ) (b : List ℕ) (d : DownFrom t i b) (p : ℕ) (hp : i ≤ p) (hs : p < size t) where
  once : jump_cell b p ≡ jump t p
  once = d.jumps p hp hs

  once-in : jump_cell b p < size t
  once-in = omega (arith, once, jump_in t p hs)

  once-above : i ≤ jump_cell b p
  once-above = omega (arith, once, jump_above t p hs)

  twice : jump_cell b (jump_cell b p) ≡ jump t (jump t p)
  twice = ap (jump_cell b) once ∙ d.jumps (jump t p) (omega (arith, jump_above t p hs)) (jump_in t p hs)

  twice_in : jump_cell b (jump_cell b p) < size t
  twice_in = omega (arith, twice, jump_in t (jump t p) (jump_in t p hs))

  falls : depth_cell b (jump_cell b p) ≤ depth_cell b p
  falls =
      omega (
        arith,
        d.depths p hp hs,
        d.depths (jump_cell b p) once-above once-in,
        ap (depth t) once,
        depth-jump t p hs,
        jump_depth-le (depth t p),
      )

  falls_again : depth_cell b (jump_cell b (jump_cell b p)) ≤ depth_cell b (jump_cell b p)
  falls_again =
      omega (
        arith,
        d.depths (jump_cell b p) once-above once-in,
        ap (depth t) once,
        d.depths (jump_cell b (jump_cell b p))
            (omega (arith, twice, jump_above t p hs, jump_above t (jump t p) (jump_in t p hs))) twice_in,
        ap (depth t) twice,
        depth-jump t (jump t p) (jump_in t p hs),
        jump_depth-le (depth t (jump t p)),
      )

  pub pair-jump : pair_jump (size t) b p ≡ child_jump b p
  pair-jump =
      rw (
        within_in (size t) (jump_cell b p) once-in,
        within_in (size t) (jump_cell b (jump_cell b p)) twice_in,
        distances (depth_cell b p) (depth_cell b (jump_cell b p)) (depth_cell b (jump_cell b (jump_cell b p))) falls
            falls_again,
      )

-- ---- what the test of a pair means
pub record Pair (n : ℕ) (b : List ℕ) (v : ℕ) : Type 0 where
  pub size_is : size_cell b v ≡ inner_size b v
  pub right-parent : parent_cell b (v - 1) ≡ v
  pub left-parent : parent_cell b (left_of b v) ≡ v
  pub right-depth : depth_cell b (v - 1) ≡ depth_cell b v + 1
  pub left-depth : depth_cell b (left_of b v) ≡ depth_cell b v + 1
  pub right-jump : jump_cell b (v - 1) ≡ pair_jump n b v
  pub left-jump : jump_cell b (left_of b v) ≡ pair_jump n b v

module _ (n : ℕ) (b : List ℕ) (v : ℕ) where
  both-are : (c : ℕ → ℕ) (r l x : ℕ) → both_are c r l x ≡ true → (c r ≡ x) × (c l ≡ x)
  both-are c r l x e =
      let m = both (eqb (c r) x) (eqb (c l) x) e in (eqb-true (c r) x m.0, eqb-true (c l) x m.1)

  are-both : (c : ℕ → ℕ) (r l x : ℕ) → c r ≡ x → c l ≡ x → both_are c r l x ≡ true
  are-both c r l x e f = rw (eq-eqb (c r) x e, eq-eqb (c l) x f)

  P : Bool
  P = both_are (parent_cell b) (v - 1) (left_of b v) v

  D : Bool
  D = both_are (depth_cell b) (v - 1) (left_of b v) (depth_cell b v + 1)

  J : Bool
  J = both_are (jump_cell b) (v - 1) (left_of b v) (pair_jump n b v)

  pub pair-told : pair_nodes n b v ≡ true → Pair n b v
  unfolding pair_nodes P D J
  pair-told e =
      let m0 = both (eqb (size_cell b v) (inner_size b v)) (P && (D && J)) e in
      let m1 = both P (D && J) m0.1 in
      let m2 = both D J m1.1 in
      let p = both-are (parent_cell b) (v - 1) (left_of b v) v m1.0 in
      let d = both-are (depth_cell b) (v - 1) (left_of b v) (depth_cell b v + 1) m2.0 in
      let j = both-are (jump_cell b) (v - 1) (left_of b v) (pair_jump n b v) m2.1 in
      record {
        size_is = eqb-true (size_cell b v) (inner_size b v) m0.0;
        right-parent = p.0;
        left-parent = p.1;
        right-depth = d.0;
        left-depth = d.1;
        right-jump = j.0;
        left-jump = j.1;
      }

  pub tells-pair : Pair n b v → pair_nodes n b v ≡ true
  unfolding pair_nodes
  tells-pair q =
      rw (
        eq-eqb (size_cell b v) (inner_size b v) q.size_is,
        are-both (parent_cell b) (v - 1) (left_of b v) v q.right-parent q.left-parent,
        are-both (depth_cell b) (v - 1) (left_of b v) (depth_cell b v + 1) q.right-depth q.left-depth,
        are-both (jump_cell b) (v - 1) (left_of b v) (pair_jump n b v) q.right-jump q.left-jump,
      )

-- ---- one node more down
down-one : (t : Tree) (v : ℕ) (b : List ℕ) → v + 1 < size t → parent_cell b v ≡ parent t v → DownFrom t (v + 1) b
    → down_matches b v ≡ true → DownFrom t v b
unfolding down_matches
down-one t v b h e d m =
    let m0 = both (eqb (depth_cell b v) (depth_cell b (parent_cell b v) + 1))
    (eqb (jump_cell b v) (child_jump b (parent_cell b v))) m in
    record {
      depths = λ u l q. elim (ℕ_discrete u v) [
        | yes z ↦ rw z (eqb-true (depth_cell b v) (depth_cell b (parent_cell b v) + 1) m0.0 ∙ depth-of t v b d h e)
        | no z ↦ d.depths u (omega arith) q
      ];
      jumps = λ u l q. elim (ℕ_discrete u v) [
        | yes z ↦ rw z (eqb-true (jump_cell b v) (child_jump b (parent_cell b v)) m0.1 ∙ jump-of t v b d h e)
        | no z ↦ d.jumps u (omega arith) q
      ];
    }

-- ---- all tests hold: the table is the tree's

-- a table whose every leaf, pair and root passes
pub record NodePairs (ks b : List ℕ) : Type 0 where
  pub leaves : (v : ℕ) → v < length ks → get_or ks v 0 ≡ 0 → size_cell b v ≡ 1
  pub pairs : (v : ℕ) → v < length ks → (get_or ks v 0 ≡ 0 → ⊥) → Pair (length ks) b v
  pub root-parent : (v : ℕ) → v + 1 ≡ length ks → parent_cell b v ≡ v
  pub root-jump : (v : ℕ) → v + 1 ≡ length ks → jump_cell b v ≡ v
  pub root-depth : (v : ℕ) → v + 1 ≡ length ks → depth_cell b v ≡ 0

module _ (ks b : List ℕ) (L : NodePairs ks b) where
  matches : (v : ℕ) → v < length ks → up_matches ks b v ≡ true
  unfolding up_matches inner_matches
  matches v h = elim (ℕ_discrete (get_or ks v 0) 0) [
    | yes k ↦ rw (eq-eqb (get_or ks v 0) 0 k) (eq-eqb (size_cell b v) 1 (L.leaves v h k))
    | no k ↦ (let q : Pair (length ks) b v = L.pairs v h k in
        rw (
          ne_eqb (get_or ks v 0) 0 k,
          eq-eqb (size_cell b v) (inner_size b v) q.size_is,
          eq-eqb (parent_cell b (v - 1)) v q.right-parent,
          eq-eqb (parent_cell b (left_of b v)) v q.left-parent,
        ))
  ]

  ups : (i : ℕ) → i ≤ length ks → UpsTo ks i b
  ups zero h = λ t e. none_yet t b
  ups (suc i) h = subst (λ (m : ℕ). UpsTo ks m b) (add-one i)
      (ups-step ks i b (omega arith) (ups i (omega arith)) (matches i (omega arith)))

  up-cells : (t : Tree) → kinds_of t ≡ ks → UpCells t b
  up-cells t e =
      let z : length ks ≡ size t = size_of t ks e in
      let u : UpTo t (length ks) b = ups (length ks) (omega arith) t e in
      record {
        sizes = λ v l. u.sizes v (omega arith);
        parents = λ v l. elim (ℕ_discrete (v + 1) (length ks)) [
          | yes y ↦ L.root-parent v y ∙ sym (parent-root t v (omega arith))
          | no y ↦ u.parents v (omega arith) (omega (arith, (up t v (omega arith)).below))
        ];
      }

  module _ (t : Tree) (e : kinds_of t ≡ ks) where
    z : length ks ≡ size t
    z = size_of t ks e

    ps : Parents t (length ks) b
    ps = up-parents t ks b e (up-cells t e)

    -- node v is a child of its parent, so the parent's pair tests it
    child-cells : (v : ℕ) → v + 1 < size t
        → (depth_cell b v ≡ depth_cell b (parent t v) + 1) × (jump_cell b v ≡ pair_jump (length ks) b (parent t v))
    child-cells v h =
        let U : Up t v (parent t v) = up t v h in
        let hp : parent t v < size t = U.below in
        let k : get_or (kinds_of t) (parent t v) 0 ≡ 0 → ⊥ = λ y. omega (arith, U.inside) in
        let I : Inner t (parent t v) = inner t (parent t v) hp k in
        let q : Pair (length ks) b (parent t v) =
        L.pairs (parent t v) (omega (arith, z)) (λ y. k (kind-of t ks (parent t v) e ∙ y)) in
        let l : left_of b (parent t v) ≡ I.left =
        at_left t (parent t v) b (ups (parent t v) (omega (arith, z)) t e) hp I in
        elim (child-is t (parent t v) I v U) [
          | inl c ↦ (ap (depth_cell b) c ∙ q.right-depth, ap (jump_cell b) c ∙ q.right-jump)
          | inr c ↦ (ap (depth_cell b) (c ∙ sym l) ∙ q.left-depth, ap (jump_cell b) (c ∙ sym l) ∙ q.left-jump)
        ]

    down-matches : (v : ℕ) → v + 1 < size t → DownFrom t (v + 1) b → down_matches b v ≡ true
    unfolding down_matches
    down-matches v h d =
        let c = child-cells v h in
        let U : Up t v (parent t v) = up t v h in
        let j : pair_jump (length ks) b (parent t v) ≡ child_jump b (parent t v) =
        subst (λ (n : ℕ). pair_jump n b (parent t v) ≡ child_jump b (parent t v)) (sym z)
        (pair-jump t (v + 1) b d (parent t v) (omega (arith, U.above)) U.below) in
        let y : parent_cell b v ≡ parent t v = ps.are v (omega (arith, z)) in
        rw (
          y,
          eq-eqb (depth_cell b v) (depth_cell b (parent t v) + 1) c.0,
          eq-eqb (jump_cell b v) (child_jump b (parent t v)) (c.1 ∙ j),
        )

    -- the depths and jumps of all nodes but the first i
    downs : (m i : ℕ) → m + i + 1 ≡ length ks → DownFrom t i b
    downs zero i h = root-from (length ks) i b (omega arith) (L.root-jump i (omega arith))
        (L.root-depth i (omega arith)) t ps
    downs (suc m) i h =
        let d : DownFrom t (i + 1) b = downs m (i + 1) (omega arith) in
        let y : parent_cell b i ≡ parent t i = ps.are i (omega arith) in
        down-one t i b (omega (arith, z)) y d (down-matches i (omega (arith, z)) d)

    pub pairs-cells : NodeCells t b
    pairs-cells =
        both-passes t b (up-cells t e) (downs (length ks - 1) 0 (omega (arith, z, size-pos t)))

-- ---- and back: the tree's table passes every test
module _ (t : Tree) (ks b : List ℕ) (e : kinds_of t ≡ ks) (L : NodeCells t b) where
  z₂ : length ks ≡ size t
  z₂ = size_of t ks e

  all-down : (i : ℕ) → DownFrom t i b
  all-down i = record { depths = λ v l h. L.depths v h; jumps = λ v l h. L.jumps v h }

  all_up : (i : ℕ) → i ≤ size t → UpTo t i b
  all_up i h = record { sizes = λ v l. L.sizes v (omega arith); parents = λ v l q. L.parents v (omega arith) }

  child-depth : (v c : ℕ) → c + 1 < size t → parent t c ≡ v → depth_cell b c ≡ depth_cell b v + 1
  child-depth v c h p =
      let y : parent_cell b c ≡ v = L.parents c (omega arith) ∙ p in
      L.depths c (omega arith) ∙ sym (depth-of t c b (all-down (c + 1)) h (L.parents c (omega arith)))
      ∙ ap (λ (x : ℕ). depth_cell b x + 1) y

  child-jumps : (v c : ℕ) → v < size t → c + 1 < size t → parent t c ≡ v → jump_cell b c ≡ pair_jump (length ks) b v
  child-jumps v c hv h p =
      let y : parent_cell b c ≡ v = L.parents c (omega arith) ∙ p in
      L.jumps c (omega arith) ∙ sym (jump-of t c b (all-down (c + 1)) h (L.parents c (omega arith)))
      ∙ ap (child_jump b) y
      ∙ sym (subst (λ (n : ℕ). pair_jump n b v ≡ child_jump b v) (sym z₂)
      (pair-jump t 0 b (all-down 0) v (omega arith) hv))

  cells-pair : (v : ℕ) → v < size t → Inner t v → Pair (length ks) b v
  cells-pair v h I =
      let l : left_of b v ≡ I.left = at_left t v b (all_up v (omega arith)) h I in
      let a : v - 1 + 1 < size t = omega (arith, I.at) in
      let c : I.left + 1 < size t = omega (arith, I.at) in
      record {
        size_is = L.sizes v h ∙ sym (new-size t v b (all_up v (omega arith)) h I);
        right-parent = L.parents (v - 1) (omega arith) ∙ I.right-up;
        left-parent = ap (parent_cell b) l ∙ L.parents I.left (omega arith) ∙ I.left_up;
        right-depth = child-depth v (v - 1) a I.right-up;
        left-depth = ap (depth_cell b) l ∙ child-depth v I.left c I.left_up;
        right-jump = child-jumps v (v - 1) h a I.right-up;
        left-jump = ap (jump_cell b) l ∙ child-jumps v I.left h c I.left_up;
      }

  pub cells-pairs : NodePairs ks b
  cells-pairs = record {
    leaves = λ v h k. L.sizes v (omega (arith, z₂))
        ∙ ap size (sub-leaf t v (omega (arith, z₂)) (kind-of t ks v e ∙ k));
    pairs = λ v h k. cells-pair v (omega (arith, z₂))
        (inner t v (omega (arith, z₂)) (λ y. k (sym (kind-of t ks v e) ∙ y)));
    root-parent = λ v h. L.parents v (omega (arith, z₂)) ∙ parent-root t v (omega (arith, z₂));
    root-jump = λ v h. L.jumps v (omega (arith, z₂)) ∙ jump-root t v (omega (arith, z₂));
    root-depth = λ v h. L.depths v (omega (arith, z₂)) ∙ depth-root t v (omega (arith, z₂));
  }
