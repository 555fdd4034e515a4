-- On numbers as built the search finds the lowest common ancestor.
--     below-is      the test by the given sizes is the subtree's
--     meet-past     the lowest common ancestor is that of a node further up which does not have u below it
--     meet-built    what meet_on returns on numbers as built
--     meet-unique   two nodes have one lowest common ancestor
use Rattle.std.proofs.Common.{◌≡◌, ℕ, zero, suc, ◌+◌, ◌<◌, ◌≤◌, Bool, true, false, ◌&&◌, ltb, leb, List, sym, refl, ap, ◌∙◌, inl, inr, arith, lt-ltb}
use mathlib.Core.Option.{some}
use native.Mathlib.Decide.{ℕ_discrete}
use Rattle.trees.specs.Tree.{Tree, size}
use Rattle.trees.specs.Numbering.{sub, parent, depth, InSubtree, is_in_subtree}
use Rattle.trees.specs.Jumps.{jump}
use Rattle.trees.specs.Climb.{Forest, Move, via_jump, to_parent, target}
use Rattle.trees.specs.Tables.{jump_length}
use Rattle.trees.proofs.NodeLaws.{up}
use Rattle.trees.proofs.JumpLaws.{jump_in, depth-jump}
use Rattle.trees.proofs.MapLaws.{jump-ancestor}
use Rattle.trees.proofs.SkewBinary.{jump_depth-lt}
use Rattle.trees.proofs.IntervalLaws.{ancestor-interval}
use Rattle.tables.specs.node_tables.Cells.{cell_forest}
use Rattle.tables.specs.node_tables.NodeCells.{NodeCells}
use Rattle.tables.specs.node_tables.Cells.{is_in_subtree_on}
use Rattle.questions.specs.ready.Ready.{Meet}
use Rattle.questions.proofs.ready.UnderLaws.{under-trans, under-root, meet-here, meet-up}
use Rattle.questions.proofs.ready.ClosedForm.{comparable}
use Rattle.questions.proofs.ready.BelowLaws.{under-yes, under-no}
use Rattle.questions.specs.Search.{next_unless, search, meet_on}
use Rattle.questions.proofs.SearchLaws.{search-here, search-move}

-- ---- one move of the search, in any forest

module _ (F : Forest) (stop : ℕ → Bool) (v : ℕ) (h : F.jump v < F.nodes) where
  by-parent : stop (F.jump v) ≡ true → F.parent v < F.nodes → F.depth (F.parent v) < F.depth v → next_unless F stop v ≡ some (to_parent v)
  unfolding next_unless
  by-parent e p d =
      rw (lt-ltb (F.jump v) F.nodes h, e, lt-ltb (F.parent v) F.nodes p, lt-ltb (F.depth (F.parent v)) (F.depth v) d)

  by_jump : stop (F.jump v) ≡ false → F.depth (F.jump v) < F.depth v → next_unless F stop v ≡ some (via_jump v)
  unfolding next_unless
  by_jump e d = rw (lt-ltb (F.jump v) F.nodes h, e, lt-ltb (F.jump v) F.nodes h, lt-ltb (F.depth (F.jump v)) (F.depth v) d)

module _ (t : Tree) where
  pub meet-past : (u v j x : ℕ) → u < size t → v < size t → j < size t → InSubtree t j v
      → (InSubtree t j u → ⊥) → Meet t u j x → Meet t u v x
  meet-past u v j x hu hv hj p n m = record {
    inside = m.inside;
    first = m.first;
    second = under-trans t x j v m.inside hj hv m.second p;
    lowest = λ y hy a b. elim (comparable t y j v hy hj hv b p) [
      | inl c ↦ m.lowest y hy a c
      | inr c ↦ absurd (n (under-trans t j y u hj hy hu c a))
    ];
  }

  pub meet-unique : (u v x y : ℕ) → Meet t u v x → Meet t u v y → x ≡ y
  meet-unique u v x y m k =
      let a : InSubtree t x y = k.lowest x m.inside m.first m.second in
      let b : InSubtree t y x = m.lowest y k.inside k.first k.second in
      omega arith

  module _ (node_table : List ℕ) (L : NodeCells t node_table) where
    pub below-is : (c v : ℕ) → c < size t → is_in_subtree_on node_table c v ≡ is_in_subtree c (size (sub t c)) v
    unfolding is_in_subtree
    below-is c v h = ap (λ (s : ℕ). leb v c && ltb c (v + s)) (L.sizes c h)

    module _ (u : ℕ) (hu : u < size t) where
      stops : (x : ℕ) → x < size t → is_in_subtree_on node_table x u ≡ true → InSubtree t x u
      stops x h e = under-yes t x u (sym (below-is x u h) ∙ e)

      goes : (x : ℕ) → x < size t → is_in_subtree_on node_table x u ≡ false → InSubtree t x u → ⊥
      goes x h e = under-no t x u (sym (below-is x u h) ∙ e)

      -- a node that has not u below it is not the root
      proper : (v : ℕ) → v < size t → is_in_subtree_on node_table v u ≡ false → v + 1 < size t
      proper v h e = elim (ℕ_discrete (v + 1) (size t)) [
        | yes z ↦ absurd (goes v h e (under-root t v u z hu))
        | no z ↦ omega arith
      ]

      -- the jump is above, in the tree and of smaller depth
      jump-cell : (v : ℕ) → v < size t → (cell_forest (size t) node_table).jump v < size t
      jump-cell v h = omega (arith, L.jumps v h, jump_in t v h)

      jump-rises : (v : ℕ) → v + 1 < size t → depth t (jump t v) < depth t v
      jump-rises v h = omega (arith, depth-jump t v (omega arith), jump_depth-lt (depth t v) (omega (arith, (up t v h).deeper)))

      jump_over : (v : ℕ) → v < size t → InSubtree t (jump t v) v
      jump_over v h = ancestor-interval t (jump t v) v (jump_length t v) h (omega arith) (sym (jump-ancestor t v h))

      move-parent : (v : ℕ) → v + 1 < size t → is_in_subtree_on node_table ((cell_forest (size t) node_table).jump v) u ≡ true
          → next_unless (cell_forest (size t) node_table) (λ x. is_in_subtree_on node_table x u) v ≡ some (to_parent v)
      move-parent v h e =
          let p = L.parents v (omega arith) in
          by-parent (cell_forest (size t) node_table) (λ x. is_in_subtree_on node_table x u) v (jump-cell v (omega arith)) e
          (omega (arith, p, (up t v h).below))
          (omega (arith, ap (cell_forest (size t) node_table).depth p, L.depths (parent t v) (up t v h).below, L.depths v (omega arith), (up t v h).deeper))

      move-jump : (v : ℕ) → v + 1 < size t → is_in_subtree_on node_table ((cell_forest (size t) node_table).jump v) u ≡ false
          → next_unless (cell_forest (size t) node_table) (λ x. is_in_subtree_on node_table x u) v ≡ some (via_jump v)
      move-jump v h e =
          let j = L.jumps v (omega arith) in
          by_jump (cell_forest (size t) node_table) (λ x. is_in_subtree_on node_table x u) v (jump-cell v (omega arith)) e
          (omega (
            arith,
            ap (cell_forest (size t) node_table).depth j,
            L.depths (jump t v) (jump_in t v (omega arith)),
            L.depths v (omega arith),
            jump-rises v h,
          ))

      -- what the search finds from v on
      abbrev Finds : ℕ → Type 0
      Finds v = (x : ℕ) × (meet_on (size t) node_table u v ≡ some x) × Meet t u v x

      found_here : (v : ℕ) → v < size t → is_in_subtree_on node_table v u ≡ true → Finds v
      unfolding meet_on
      found_here v h e = (v, search-here (cell_forest (size t) node_table) (λ x. is_in_subtree_on node_table x u) v e, meet-here t u v h (stops v h e))

      -- one move to node y, above v and without u below it unless it is v's parent
      moved : (v y : ℕ) (m : Move) → v < size t → y < size t → is_in_subtree_on node_table v u ≡ false
          → next_unless (cell_forest (size t) node_table) (λ x. is_in_subtree_on node_table x u) v ≡ some m → target (cell_forest (size t) node_table) m ≡ y
          → ((x : ℕ) → Meet t u y x → Meet t u v x) → Finds y → Finds v
      unfolding meet_on
      moved v y m hv hy e n q f F = (
        F.0,
        search-move (cell_forest (size t) node_table) (λ x. is_in_subtree_on node_table x u) v m e n
            ∙ ap (search (cell_forest (size t) node_table) (λ x. is_in_subtree_on node_table x u)) q ∙ F.1,
        f F.0 F.2,
      )

      finds-in : (f v : ℕ) → depth t v ≤ f → v < size t → Finds v
      finds-in zero v l h = go (is_in_subtree_on node_table v u) refl
        where
          go : (b : Bool) → is_in_subtree_on node_table v u ≡ b → Finds v
          go true e = found_here v h e
          go false e = absurd (omega (arith, (up t v (proper v h e)).deeper))
      finds-in (suc f) v l h =
          go (is_in_subtree_on node_table v u) (is_in_subtree_on node_table ((cell_forest (size t) node_table).jump v) u) refl refl (λ y. finds-in f y)
        where
          go : (b c : Bool) → is_in_subtree_on node_table v u ≡ b → is_in_subtree_on node_table ((cell_forest (size t) node_table).jump v) u ≡ c
              → ((y : ℕ) → depth t y ≤ f → y < size t → Finds y) → Finds v
          go true c e d ih = found_here v h e
          go false true e d ih =
              let r : v + 1 < size t = proper v h e in
              moved v (parent t v) (to_parent v) h (up t v r).below e (move-parent v r d) (L.parents v h)
              (λ x m. meet-up t u v x hu r (goes v h e) m) (ih (parent t v) (omega (arith, (up t v r).deeper)) (up t v r).below)
          go false false e d ih =
              let r : v + 1 < size t = proper v h e in
              let j = L.jumps v h in
              let g : InSubtree t (jump t v) u → ⊥ = goes (jump t v) (jump_in t v h) (ap (λ (z : ℕ). is_in_subtree_on node_table z u) (sym j) ∙ d) in
              moved v (jump t v) (via_jump v) h (jump_in t v h) e (move-jump v r d) j
              (λ x m. meet-past u v (jump t v) x hu h (jump_in t v h) (jump_over v h) g m)
              (ih (jump t v) (omega (arith, jump-rises v r)) (jump_in t v h))

      pub meet-built : (v : ℕ) → v < size t → (x : ℕ) × (meet_on (size t) node_table u v ≡ some x) × Meet t u v x
      meet-built v h = finds-in (depth t v) v (omega arith) h
