-- Where the roots give nothing: a number leads outside the plan or does not rise.
--     search-none            a search that finds nothing
--     LedTo, search-reached  what a search finds is where it starts, or a link leads there
--     fork-none, meet-none, forks-none   one fork, one meeting, all of them
--     roots-out-of-range           the roots
use Rattle.std.proofs.Common.{◌≡◌, ℕ, zero, suc, ◌+◌, ◌-◌, ◌<◌, ◌≤◌, Bool, true, false, cond, ◌&&◌, eqb, ltb, leb, ◌⊎◌, List, [], ◌∷◌, sym, refl, ap, subst, inl, inr, le_refl, arith, ltb-false, leb-false}
use mathlib.Core.Option.{Option, none, some, some-injective}
use borrow.Author.Tests.{eqb-false}
use Rattle.trees.specs.Climb.{Forest, Move, via_jump, to_parent, target, and_then}
use Rattle.trees.specs.LinkOutOfRange.{LinkOutOfRange}
use Rattle.list_laws.proofs.Choice.{by-test, le-or}
use Rattle.trees.proofs.MoveLaws.{none-some}
use Rattle.trees.proofs.LinkRangeLaws.{next-out-of-range}
use Rattle.list_laws.specs.Tests.{all_below}
use Rattle.tables.specs.node_tables.Cells.{size_cell, cell_forest, is_in_subtree_on}
use Rattle.tables.specs.node_tables.OutOfRange.{Childless, NodeTableOutOfRange, link, childless, apart}
use Rattle.questions.specs.Search.{next_unless, search_in, search, meet_on}
use Rattle.questions.specs.Roots.{insert_rising, wanted, with_fork, with_meet, forks_on, from_first, roots_on}
use Rattle.questions.specs.Rising.{AllBelow}
use Rattle.questions.proofs.PlaceLaws.{to_below, wanted-to}
use Rattle.questions.proofs.SearchLaws.{unless, taken}

-- ---- a search, in any forest

module _ (F : Forest) (stop : ℕ → Bool) where
  unless-is : (v : ℕ) → (unless F stop v ≡ via_jump v) ⊎ (unless F stop v ≡ to_parent v)
  unless-is v =
      by-test (λ (m : Move). (m ≡ via_jump v) ⊎ (m ≡ to_parent v)) (stop (F.jump v)) (λ _. inr refl) (λ _. inl refl)

  unless-out-of-range : (v : ℕ) → v < F.nodes → 0 < F.depth v → next_unless F stop v ≡ none → LinkOutOfRange F
  unfolding next_unless
  unless-out-of-range v h d = next-out-of-range F v h d (unless F stop v) (unless-is v)

  -- a node at the top where the search would go on
  pub record AtTop : Type 0 where
    pub node : ℕ
    pub inside : node < F.nodes
    pub top : F.depth node ≡ 0
    pub goes : stop node ≡ false

  in-none : (f v : ℕ) → v < F.nodes → F.depth v ≤ f → search_in f F stop v ≡ none → LinkOutOfRange F ⊎ AtTop
  unfolding search_in
  in-none zero v h d e = go (stop v) refl e
    where
      go : (b : Bool) → stop v ≡ b → cond b (some v) none ≡ none → LinkOutOfRange F ⊎ AtTop
      go true s e = absurd (none-some (sym e))
      go false s e = inr (record { node = v; inside = h; top = omega arith; goes = s })
  in-none (suc f) v h d e = go (stop v) refl (next_unless F stop v) refl e (λ u. in-none f u)
    where
      go : (b : Bool) → stop v ≡ b → (o : Option Move) → next_unless F stop v ≡ o
          → cond b (some v) (and_then o (λ m. search_in f F stop (target F m))) ≡ none
          → ((u : ℕ) → u < F.nodes → F.depth u ≤ f → search_in f F stop u ≡ none → LinkOutOfRange F ⊎ AtTop) → LinkOutOfRange F ⊎ AtTop
      go true s o n i ih = absurd (none-some (sym i))
      go false s none n i ih = le-or (F.depth v) 0
          (λ z. inr (record { node = v; inside = h; top = omega arith; goes = s }))
          (λ z. inl (unless-out-of-range v h z n))
      go false s (some m) n i ih =
          let t = taken F stop v m n in
          ih (target F m) t.inside (omega (arith, t.rises)) i

  search-none : (v : ℕ) → v < F.nodes → search F stop v ≡ none → LinkOutOfRange F ⊎ AtTop
  unfolding search
  search-none v h e = in-none (F.depth v) v h (le_refl _) e

  -- a link leads to x
  pub record LedTo (x : ℕ) : Type 0 where
    pub node : ℕ
    pub inside : node < F.nodes
    pub deeper : 0 < F.depth node
    pub by : (x ≡ F.parent node) ⊎ (x ≡ F.jump node)

  led : (v : ℕ) (m : Move) → v < F.nodes → next_unless F stop v ≡ some m → LedTo (target F m)
  unfolding next_unless
  led v m h e =
      let t = taken F stop v m e in
      record { node = v; inside = h; deeper = omega (arith, t.rises); by = by-link (next-is e) }
    where
      by-link : (m ≡ via_jump v) ⊎ (m ≡ to_parent v) → (target F m ≡ F.parent v) ⊎ (target F m ≡ F.jump v)
      by-link (inl q) = inr (ap (target F) q)
      by-link (inr q) = inl (ap (target F) q)

      rose : (b : Bool) → cond b (some (unless F stop v)) none ≡ some m → unless F stop v ≡ m
      rose true i = some-injective (unless F stop v) m i
      rose false i = absurd (none-some i)

      is : (b c : Bool) → cond b (cond c (some (unless F stop v)) none) none ≡ some m → unless F stop v ≡ m
      is true c i = rose c i
      is false c i = absurd (none-some i)

      next-is : next_unless F stop v ≡ some m → (m ≡ via_jump v) ⊎ (m ≡ to_parent v)
      next-is i =
          subst (λ (n : Move). (n ≡ via_jump v) ⊎ (n ≡ to_parent v))
          (is (ltb (F.jump v) F.nodes)
          (ltb (target F (unless F stop v)) F.nodes && ltb (F.depth (target F (unless F stop v))) (F.depth v)) i) (unless-is v)

  in-reached : (f v x : ℕ) → v < F.nodes → search_in f F stop v ≡ some x → (x ≡ v) ⊎ LedTo x
  unfolding search_in
  in-reached zero v x h e = go (stop v) e
    where
      go : (b : Bool) → cond b (some v) none ≡ some x → (x ≡ v) ⊎ LedTo x
      go true e = inl (sym (some-injective v x e))
      go false e = absurd (none-some e)
  in-reached (suc f) v x h e = go (stop v) (next_unless F stop v) refl e (λ u. in-reached f u x)
    where
      after : (m : Move) → next_unless F stop v ≡ some m → (x ≡ target F m) ⊎ LedTo x → (x ≡ v) ⊎ LedTo x
      after m n (inl q) = inr (subst LedTo (sym q) (led v m h n))
      after m n (inr l) = inr l

      go : (b : Bool) (o : Option Move) → next_unless F stop v ≡ o
          → cond b (some v) (and_then o (λ m. search_in f F stop (target F m))) ≡ some x
          → ((u : ℕ) → u < F.nodes → search_in f F stop u ≡ some x → (x ≡ u) ⊎ LedTo x) → (x ≡ v) ⊎ LedTo x
      go true o n i ih = inl (sym (some-injective v x i))
      go false none n i ih = absurd (none-some i)
      go false (some m) n i ih = after m n (ih (target F m) (taken F stop v m n).inside i)

  search-reached : (v x : ℕ) → v < F.nodes → search F stop v ≡ some x → (x ≡ v) ⊎ LedTo x
  unfolding search
  search-reached v x h e = in-reached (F.depth v) v x h e

-- ---- the roots

-- the test of an inner node's children fails
pub fork-test : (node_table : List ℕ) (x : ℕ) → (ltb 0 x && leb (size_cell node_table (x - 1)) (x - 1)) ≡ false → Childless node_table x
fork-test node_table x e = go (ltb 0 x) (leb (size_cell node_table (x - 1)) (x - 1)) refl refl e
  where
    go : (a b : Bool) → ltb 0 x ≡ a → leb (size_cell node_table (x - 1)) (x - 1) ≡ b → (a && b) ≡ false → Childless node_table x
    go true true p q i = absurd (let z : ◌≡◌ {A = ℕ} 0 1 = cc in omega arith)
    go true false p q i = inr (leb-false (size_cell node_table (x - 1)) (x - 1) q)
    go false b p q i = inl (let z = ltb-false 0 x p in omega arith)

module _ (n : ℕ) (node_table : List ℕ) where
  abbrev F : Forest
  F = cell_forest n node_table

  fork-none : (x : ℕ) (l : List ℕ) → with_fork node_table x l ≡ none → Childless node_table x
  unfolding with_fork
  fork-none x l e = go (ltb 0 x && leb (size_cell node_table (x - 1)) (x - 1)) refl e
    where
      go : (b : Bool) → (ltb 0 x && leb (size_cell node_table (x - 1)) (x - 1)) ≡ b
          → cond b (some (insert_rising x (insert_rising (x - 1) (insert_rising (x - 1 - size_cell node_table (x - 1)) l)))) none ≡ none
          → Childless node_table x
      go true q i = absurd (none-some (sym i))
      go false q i = fork-test node_table x q

  meet-none : (a b : ℕ) (l : List ℕ) → a < n → b < n → with_meet n node_table a b l ≡ none → NodeTableOutOfRange n node_table
  unfolding with_meet meet_on
  meet-none a b l ha hb e = go (search F (λ x. is_in_subtree_on node_table x a) b) refl e
    where
      lost : LinkOutOfRange F ⊎ AtTop F (λ x. is_in_subtree_on node_table x a) → NodeTableOutOfRange n node_table
      lost (inl s) = link s
      lost (inr t) = apart t.node a t.inside ha t.top t.goes

      bare : (x : ℕ) → Childless node_table x → (x ≡ b → ⊥) → (x ≡ b) ⊎ LedTo F (λ y. is_in_subtree_on node_table y a) x → NodeTableOutOfRange n node_table
      bare x c q (inl z) = absurd (q z)
      bare x c q (inr t) = childless t.node x t.inside t.deeper t.by c

      at : (x : ℕ) → search F (λ y. is_in_subtree_on node_table y a) b ≡ some x → (t : Bool) → eqb x b ≡ t
          → cond t (some l) (with_fork node_table x l) ≡ none → NodeTableOutOfRange n node_table
      at x f true q i = absurd (none-some (sym i))
      at x f false q i = bare x (fork-none x l i) (eqb-false x b q) (search-reached F (λ y. is_in_subtree_on node_table y a) b x hb f)

      go : (o : Option ℕ) → search F (λ x. is_in_subtree_on node_table x a) b ≡ o
          → and_then o (λ x. cond (eqb x b) (some l) (with_fork node_table x l)) ≡ none → NodeTableOutOfRange n node_table
      go none f i = lost (search-none F (λ x. is_in_subtree_on node_table x a) b hb f)
      go (some x) f i = at x f (eqb x b) refl i

  forks-none : (bs : List ℕ) (a : ℕ) (l : List ℕ) → a < n → AllBelow n bs → forks_on n node_table a bs l ≡ none → NodeTableOutOfRange n node_table
  unfolding forks_on
  forks-none [] a l h u e = absurd (none-some (sym e))
  forks-none (b ∷ bs) a l h u e = go (eqb b (n - 1)) (with_meet n node_table a b l) refl e (λ k. forks-none bs b k u.0 u.1)
    where
      go : (t : Bool) (o : Option (List ℕ)) → with_meet n node_table a b l ≡ o
          → cond t (some (insert_rising b l)) (and_then o (λ k. forks_on n node_table b bs (insert_rising b k))) ≡ none
          → ((k : List ℕ) → forks_on n node_table b bs k ≡ none → NodeTableOutOfRange n node_table) → NodeTableOutOfRange n node_table
      go true o m i ih = absurd (none-some (sym i))
      go false none m i ih = meet-none a b l h u.0 m
      go false (some k) m i ih = ih (insert_rising b k) i

  first-none : (ws : List ℕ) → AllBelow n ws → from_first n node_table ws ≡ none → NodeTableOutOfRange n node_table
  first-none [] u e = absurd (none-some (sym e))
  first-none (w ∷ ws) u e = forks-none ws w (w ∷ []) u.0 u.1 e

  pub roots-out-of-range : (vs : List ℕ) → 0 < n → all_below n vs ≡ true → roots_on n node_table vs ≡ none → NodeTableOutOfRange n node_table
  unfolding roots_on
  roots-out-of-range vs h b e =
      let z : n - 1 + 1 ≡ n = omega arith in
      first-none (wanted n vs) (subst (λ (k : ℕ). AllBelow k (wanted n vs)) z (to_below (n - 1) (wanted n vs) (wanted-to n vs b))) e
