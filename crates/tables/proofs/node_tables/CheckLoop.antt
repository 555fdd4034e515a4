-- The iterations of the full check.
--     up_step, up_right           one node more, where it matches; and it matches where the table is right
--     up-args .. up-tells         the same of every tree with these kinds, as the loop has it
--     down_step, down-right       likewise of the pass down
--     downs-args .. root-depth-no the same of every tree with these parents
use Prim.Native.Nat.{ℕ, ◌+◌, ◌-◌, ◌≤◌, ◌<◌}
use mathlib.Core.Path.{◌≡◌, refl, sym, ap, ◌∙◌, subst}
use mathlib.Core.Bool.{Bool, true, false, ◌&&◌}
use mathlib.Core.List.{List}
use mathlib.Core.Logic.{◌⊎◌, inl, inr}
use native.Mathlib.Decide.{ℕ_discrete}
use native.Mathlib.Omega.{arith}
use lib.Dec.{eqb}
use lib.ListN.{length, get_or}
use borrow.Author.Tests.{eqb-true, eq-eqb, ne_eqb}
use Rattle.trees.specs.Tree.{Tree, kinds_of, size}
use Rattle.trees.specs.Numbering.{parent}
use Rattle.trees.proofs.MoveLaws.{both}
use Rattle.trees.proofs.NodeLaws.{Inner, inner, Up, up, sub-leaf, parent-root, depth-root}
use Rattle.trees.proofs.JumpLaws.{jump-root}
use Rattle.trees.proofs.PostorderLaws.{size_of, kind-of}
use Rattle.tables.specs.node_tables.Cells.{parent_cell, jump_cell, depth_cell, size_cell, NodeTableArgs}
use Rattle.tables.specs.node_tables.NodeCells.{NodeCells, UpCells, UpTo, DownFrom, Parents}
use Rattle.tables.specs.node_tables.inner.UpPass.{left_of, inner_size}
use Rattle.tables.specs.node_tables.inner.DownPass.{child_jump, NodeArgs, DownArgs}
use Rattle.tables.specs.node_tables.inner.CheckPass.{inner_matches, up_matches, down_matches, UpArgs, Tells}
use Rattle.tables.proofs.node_tables.UpLoop.{no-parent, child-is, at_left, new-size, inner_room}
use Rattle.tables.proofs.node_tables.DownLoop.{jump-of, depth-of, args_of}

pub false-true : false ≡ true → ⊥
false-true e = let z : ◌≡◌ {A = ℕ} 0 1 = cc in omega arith

-- ---- the pass up

up-so-far : (t : Tree) (i : ℕ) (b : List ℕ) → NodeCells t b → i ≤ size t → UpTo t i b
up-so-far t i b c h = record { sizes = λ v l. c.sizes v (omega arith); parents = λ v l q. c.parents v (omega arith) }

-- a leaf that matches
leaf-step : (t : Tree) (i : ℕ) (b : List ℕ) → UpTo t i b → i < size t → get_or (kinds_of t) i 0 ≡ 0 → size_cell b i ≡ 1
    → UpTo t (i + 1) b
leaf-step t i b p h k e = record {
  sizes = λ v l. elim (ℕ_discrete v i) [
    | yes z ↦ rw z (e ∙ sym (ap size (sub-leaf t i h k)))
    | no z ↦ p.sizes v (omega arith)
  ];
  parents = λ v l q. p.parents v l (omega (arith, no-parent t i v k l));
}

module _ (t : Tree) (i : ℕ) (b : List ℕ) (p : UpTo t i b) (h : i < size t) (I : Inner t i) where
  inner-step : inner_matches b i ≡ true → UpTo t (i + 1) b
  unfolding inner_matches
  inner-step m =
      let m0 = both (eqb (size_cell b i) (inner_size b i))
      (eqb (parent_cell b (i - 1)) i && eqb (parent_cell b (left_of b i)) i) m in
      let m1 = both (eqb (parent_cell b (i - 1)) i) (eqb (parent_cell b (left_of b i)) i) m0.1 in
      record {
        sizes = λ v l. elim (ℕ_discrete v i) [
          | yes z ↦ rw z (eqb-true (size_cell b i) (inner_size b i) m0.0 ∙ new-size t i b p h I)
          | no z ↦ p.sizes v (omega arith)
        ];
        parents = λ v l q. elim (ℕ_discrete (parent t v) i) [
          | yes z ↦ matched v (eqb-true (parent_cell b (i - 1)) i m1.0)
              (eqb-true (parent_cell b (left_of b i)) i m1.1)
              (child-is t i I v (subst (Up t v) z (up t v l))) ∙ sym z
          | no z ↦ p.parents v l (omega arith)
        ];
      }
    where
      matched : (v : ℕ) → parent_cell b (i - 1) ≡ i → parent_cell b (left_of b i) ≡ i → (v ≡ i - 1) ⊎ (v ≡ I.left)
          → parent_cell b v ≡ i
      matched v r l (inl e) = ap (parent_cell b) e ∙ r
      matched v r l (inr e) = ap (parent_cell b) (e ∙ sym (at_left t i b p h I)) ∙ l

  inner-right : NodeCells t b → inner_matches b i ≡ true
  unfolding inner_matches
  inner-right c =
      let s : size_cell b i ≡ inner_size b i = c.sizes i h ∙ sym (new-size t i b p h I) in
      let r : parent_cell b (i - 1) ≡ i = c.parents (i - 1) (omega arith) ∙ I.right-up in
      let l : parent_cell b (left_of b i) ≡ i =
      ap (parent_cell b) (at_left t i b p h I) ∙ c.parents I.left (omega (arith, I.at)) ∙ I.left_up in
      rw (
        eq-eqb (size_cell b i) (inner_size b i) s,
        eq-eqb (parent_cell b (i - 1)) i r,
        eq-eqb (parent_cell b (left_of b i)) i l,
      )

module _ (t : Tree) (ks : List ℕ) (i : ℕ) (b : List ℕ) (e : kinds_of t ≡ ks) (h : i < size t) where
  up_step : UpTo t i b → up_matches ks b i ≡ true → UpTo t (i + 1) b
  unfolding up_matches
  up_step p m = elim (ℕ_discrete (get_or ks i 0) 0) [
    | yes k ↦ leaf-step t i b p h (kind-of t ks i e ∙ k)
        (eqb-true (size_cell b i) 1 (rw (eq-eqb (get_or ks i 0) 0 k) at m))
    | no k ↦ inner-step t i b p h (inner t i h (λ z. k (sym (kind-of t ks i e) ∙ z)))
        (rw (ne_eqb (get_or ks i 0) 0 k) at m)
  ]

  up_right : NodeCells t b → up_matches ks b i ≡ true
  unfolding up_matches
  up_right c = elim (ℕ_discrete (get_or ks i 0) 0) [
    | yes k ↦ rw (eq-eqb (get_or ks i 0) 0 k)
        (eq-eqb (size_cell b i) 1 (c.sizes i h ∙ ap size (sub-leaf t i h (kind-of t ks i e ∙ k))))
    | no k ↦ rw (ne_eqb (get_or ks i 0) 0 k)
        (inner-right t i b (up-so-far t i b c (omega arith)) h (inner t i h (λ z. k (sym (kind-of t ks i e) ∙ z))) c)
  ]

-- ---- the same of every tree with these kinds

abbrev pub UpsTo : List ℕ → ℕ → List ℕ → Type 0
UpsTo ks i b = (t : Tree) → kinds_of t ≡ ks → UpTo t i b

abbrev pub UpTells : Bool → List ℕ → List ℕ → Type 0
UpTells r ks b = (t : Tree) → kinds_of t ≡ ks → Tells r (UpCells t b) (NodeCells t b)

pub up-args : (ks : List ℕ) (i : ℕ) (b : List ℕ) → NodeTableArgs ks (length b) → i < length ks → UpsTo ks i b → UpArgs ks b i
up-args ks i b args h all = record {
  at = h;
  room = omega (arith, args.room);
  inner = λ k. inner_room ks i (length b) b args refl h k all;
}

module _ (ks : List ℕ) (i : ℕ) (b : List ℕ) (h : i < length ks) where
  pub ups-step : UpsTo ks i b → up_matches ks b i ≡ true → UpsTo ks (i + 1) b
  ups-step all m t e = up_step t ks i b e (omega (arith, size_of t ks e)) (all t e) m

  pub ups-no : up_matches ks b i ≡ false → UpTells false ks b
  ups-no m t e = record {
    yes = λ z. absurd (false-true z);
    no = λ z c. false-true (sym m ∙ up_right t ks i b e (omega (arith, size_of t ks e)) c);
  }

-- after the last node, the root's own parent decides
pub up-tells : (ks : List ℕ) (i : ℕ) (b : List ℕ) (m : ℕ) → length ks ≤ i → UpsTo ks i b → m + 1 ≡ length ks
    → UpTells (eqb (parent_cell b m) m) ks b
up-tells ks i b m h all z t e = record {
  yes = λ q. record {
    sizes = λ v l. (all t e).sizes v (omega (arith, size_of t ks e));
    parents = λ v l. elim (ℕ_discrete v m) [
      | yes y ↦ rw y (eqb-true (parent_cell b m) m q ∙ sym (parent-root t m (omega (arith, size_of t ks e))))
      | no y ↦ (all t e).parents v (omega (arith, size_of t ks e))
          (omega (arith, size_of t ks e, (up t v (omega (arith, size_of t ks e))).below))
    ];
  };
  no = λ q c. false-true (sym q ∙ eq-eqb (parent_cell b m) m
      (c.parents m (omega (arith, size_of t ks e)) ∙ parent-root t m (omega (arith, size_of t ks e))));
}

-- ---- the pass down

module _ (t : Tree) (v : ℕ) (b : List ℕ) (h : v + 1 < size t) (e : parent_cell b v ≡ parent t v) where
  down_step : DownFrom t (v + 1) b → down_matches b v ≡ true → DownFrom t v b
  unfolding down_matches
  down_step d m =
      let m0 = both (eqb (depth_cell b v) (depth_cell b (parent_cell b v) + 1))
      (eqb (jump_cell b v) (child_jump b (parent_cell b v))) m in
      record {
        depths = λ u l q. elim (ℕ_discrete u v) [
          | yes z ↦ rw z (eqb-true (depth_cell b v) (depth_cell b (parent_cell b v) + 1) m0.0 ∙ depth-of t v b d h e)
          | no z ↦ d.depths u (omega arith) q
        ];
        jumps = λ u l q. elim (ℕ_discrete u v) [
          | yes z ↦ rw z (eqb-true (jump_cell b v) (child_jump b (parent_cell b v)) m0.1 ∙ jump-of t v b d h e)
          | no z ↦ d.jumps u (omega arith) q
        ];
      }

  down-right : NodeCells t b → down_matches b v ≡ true
  unfolding down_matches
  down-right c =
      let d : DownFrom t (v + 1) b = record { depths = λ u l q. c.depths u q; jumps = λ u l q. c.jumps u q } in
      let x : depth_cell b v ≡ depth_cell b (parent_cell b v) + 1 =
      c.depths v (omega arith) ∙ sym (depth-of t v b d h e) in
      let y : jump_cell b v ≡ child_jump b (parent_cell b v) = c.jumps v (omega arith) ∙ sym (jump-of t v b d h e) in
      rw (
        eq-eqb (depth_cell b v) (depth_cell b (parent_cell b v) + 1) x,
        eq-eqb (jump_cell b v) (child_jump b (parent_cell b v)) y,
      )

-- ---- the same of every tree with these parents

abbrev pub DownsFrom : ℕ → ℕ → List ℕ → Type 0
DownsFrom n i b = (t : Tree) → Parents t n b → DownFrom t i b

abbrev pub DownTells : Bool → ℕ → List ℕ → Type 0
DownTells r n b = (t : Tree) → Parents t n b → Tells r (DownFrom t 0 b) (NodeCells t b)

module _ (n v : ℕ) (b : List ℕ) (h : v + 1 < n) where
  pub downs-args : DownArgs n b → DownsFrom n (v + 1) b → NodeArgs b v
  downs-args a all =
      let ps : Parents a.tree n b = a.parents in
      args_of a.tree v b (all a.tree ps) (omega (arith, ps.count)) (ps.are v (omega arith))
      (omega (arith, ps.count, a.most)) (omega (arith, ps.count, a.room))

  pub downs-step : DownsFrom n (v + 1) b → down_matches b v ≡ true → DownsFrom n v b
  downs-step all m t ps = down_step t v b (omega (arith, ps.count)) (ps.are v (omega arith)) (all t ps) m

  pub downs-no : down_matches b v ≡ false → DownTells false n b
  downs-no m t ps = record {
    yes = λ z. absurd (false-true z);
    no = λ z c. false-true (sym m ∙ down-right t v b (omega (arith, ps.count)) (ps.are v (omega arith)) c);
  }

-- the root
module _ (n m : ℕ) (b : List ℕ) (z : m + 1 ≡ n) where
  pub root-from : jump_cell b m ≡ m → depth_cell b m ≡ 0 → DownsFrom n m b
  root-from j d t ps = record {
    depths = λ u l q. let e : u ≡ m = omega (arith, ps.count) in
        rw e (d ∙ sym (depth-root t m (omega (arith, ps.count))));
    jumps = λ u l q. let e : u ≡ m = omega (arith, ps.count) in
        rw e (j ∙ sym (jump-root t m (omega (arith, ps.count))));
  }

  pub root-jump-no : (jump_cell b m ≡ m → ⊥) → DownTells false n b
  root-jump-no j t ps = record {
    yes = λ y. absurd (false-true y);
    no = λ y c. j (c.jumps m (omega (arith, ps.count)) ∙ jump-root t m (omega (arith, ps.count)));
  }

  pub root-depth-no : (depth_cell b m ≡ 0 → ⊥) → DownTells false n b
  root-depth-no d t ps = record {
    yes = λ y. absurd (false-true y);
    no = λ y c. d (c.depths m (omega (arith, ps.count)) ∙ depth-root t m (omega (arith, ps.count)));
  }
