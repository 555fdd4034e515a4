-- What the functions of a drop read, and what they return.
--     seen-fell, seen-kept, lowest-fell, lowest-kept   one node's numbers
--     search-inside, search-few a search ends among the nodes, and its links are at most the depth of its start
--     gives-done, gives-outside, gives-stuck, gives-high, gives-fell the answer for the next drop, by the tests on
--       the way
use Prim.Native.Nat.{ℕ, ◌+◌, ◌≤◌, ◌<◌}
use mathlib.Core.Path.{◌≡◌, refl, sym, ap, ◌∙◌}
use mathlib.Core.Bool.{false}
use mathlib.Core.List.{List}
use mathlib.Core.Option.{Option, none, some}
use native.Mathlib.Omega.{arith}
use lib.Dec.{ltb}
use lib.ListN.{length}
use Rattle.std.specs.Prelude.{Option as Given, Some, None}
use borrow.Author.Tests.{lt-ltb, le-ltb}
use Rattle.trees.specs.Climb.{Forest, Move, and_then, climb, climb_end}
use Rattle.trees.proofs.ClimbLaws.{climb-short, climb-inside}
use Rattle.tables.specs.node_tables.Cells.{depth_cell, size_cell, cell_forest}
use Rattle.colours.specs.Descents.{Next, lost, fell, fell_at, fell_by, seen_at, lowest_in, next_from}
use Rattle.colours.proofs.DescentLaws.{next-done, next-search, next-outside}
use Rattle.colour_questions.specs.declared.path_drops.search.Searched.{Searched}
use Rattle.colour_questions.specs.declared.path_drops.drops.Dropping.{Dropping}
use Rattle.colour_questions.specs.declared.path_drops.drops.Dropping.TheVariants.{Done, Lost, Fell}
use Rattle.colour_questions.specs.path_drops.inner.Search.{searching, search_on, searched_of}
use Rattle.colour_questions.specs.path_drops.inner.Drops.{dropping_of, NextDone}

-- ---- one node's numbers

module _ (F : Forest) (lands : ℕ → ℕ) (c v r : ℕ) (e : r ≡ lands v) where
  pub seen-fell : (d : ℕ) → d ≡ F.depth v → r < c → 1 + d ≡ seen_at F lands c v
  seen-fell d q h = rw (lt-ltb (lands v) c (omega arith)) (omega arith)

  pub seen-kept : (d : ℕ) → d ≡ F.depth v → c ≤ r → d ≡ seen_at F lands c v
  seen-kept d q h = rw (le-ltb (lands v) c (omega arith)) (omega arith)

  pub lowest-fell : r < c → v ≡ lowest_in F lands c v
  lowest-fell h = rw (lt-ltb (lands v) c (omega arith))

  pub lowest-kept : (p : ℕ) → p ≡ F.parent v → c ≤ r → p ≡ lowest_in F lands c v
  lowest-kept p q h = rw (le-ltb (lands v) c (omega arith)) q

-- ---- a search

-- the next drop by what a search returns
abbrev fell_on : (ℕ → ℕ) → ℕ → Option Searched → Next
fell_on lands c none = lost
fell_on lands c (some s) = fell_at c lands s.node s.links

fell-search : (F : Forest) (lands : ℕ → ℕ) (c v to : ℕ)
    → fell_by F lands c v (climb F v to) ≡ fell_on lands c (search_on F v to)
unfolding fell_by search_on
fell-search F lands c v to = go (climb F v to)
  where
    go : (o : Option (List Move))
        → fell_by F lands c v o ≡ fell_on lands c (and_then o (λ ms. some (searching (climb_end F v ms) (length ms))))
    go none = refl
    go (some ms) = refl

-- it ends among the nodes, with few links
search-ends : (F : Forest) (v to : ℕ) (s : Searched) → v < F.nodes → search_on F v to ≡ some s
    → (s.node < F.nodes) × (s.links ≤ F.depth v)
unfolding search_on
search-ends F v to s h e = go (climb F v to) refl e
  where
    go : (o : Option (List Move)) → climb F v to ≡ o
        → and_then o (λ ms. some (searching (climb_end F v ms) (length ms))) ≡ some s
        → (s.node < F.nodes) × (s.links ≤ F.depth v)
    go none q i = let z : ◌≡◌ {A = ℕ} 0 1 = cc in absurd (omega arith)
    go (some ms) q i =
        let a : climb_end F v ms ≡ s.node = cc in
        let b : length ms ≡ s.links = cc in
        (omega (arith, climb-inside F v to ms h q), omega (arith, climb-short F v to ms q))

gives-some : (o : Option Searched) (s : Searched) → Some s ≡ searched_of o → o ≡ some s
unfolding searched_of
gives-some none s e = let z : ◌≡◌ {A = ℕ} 0 1 = cc in absurd (omega arith)
gives-some (some r) s e = let p : r ≡ s = cc in ap some p

gives_none : (o : Option Searched) → None ≡ searched_of o → o ≡ none
unfolding searched_of
gives_none none e = refl
gives_none (some r) e = let z : ◌≡◌ {A = ℕ} 0 1 = cc in absurd (omega arith)

-- ---- what is answered

no-fell : (r : Dropping) → (r ≡ Done) → (x d k : ℕ) → r ≡ Fell x d k → ⊥
no-fell r i x d k e = let z : ◌≡◌ {A = ℕ} 0 1 = cc in omega arith

lost-fell : (r : Dropping) → (r ≡ Lost) → (x d k : ℕ) → r ≡ Fell x d k → ⊥
lost-fell r i x d k e = let z : ◌≡◌ {A = ℕ} 0 1 = cc in omega arith

module _ (n : ℕ) (table : List ℕ) (c to l : ℕ) where
  abbrev F : Forest
  F = cell_forest n table

  abbrev lands : ℕ → ℕ
  lands = size_cell table

  nothing : next_from F lands c to l ≡ lost → NextDone n table c to l Lost
  unfolding dropping_of
  nothing e = record { result = ap dropping_of (sym e); few = λ x d k q. absurd (lost-fell Lost refl x d k q) }

  pub gives-done : (s : ℕ) → s ≡ seen_at (cell_forest n table) (size_cell table) c l → s ≤ to
      → NextDone n table c to l Done
  unfolding dropping_of
  gives-done s e h = record {
    result = ap dropping_of (sym (next-done F lands c to l (omega arith)));
    few = λ x d k q. absurd (no-fell Done refl x d k q);
  }

  module _ (s : ℕ) (e : s ≡ seen_at (cell_forest n table) (size_cell table) c l) (h : to < s)
      (v : ℕ) (i : v ≡ lowest_in (cell_forest n table) (size_cell table) c l) where
    pub gives-outside : n ≤ v → NextDone n table c to l Lost
    gives-outside o = nothing (next-outside F lands c to l (omega arith) (omega arith))

    -- by the search from v
    searched : v < n → next_from F lands c to l ≡ fell_on lands c (search_on F v to)
    searched o =
        next-search F lands c to l (omega arith) (omega arith)
        ∙ ap (λ (x : ℕ). fell_by F lands c x (climb F x to)) (sym i) ∙ fell-search F lands c v to

    module _ (o : v < n) (r : Given Searched) (q : r ≡ searched_of (search_on (cell_forest n table) v to)) where
      pub gives-stuck : r ≡ None → NextDone n table c to l Lost
      gives-stuck z = nothing (searched o ∙ ap (fell_on lands c) (gives_none (search_on F v to) (sym z ∙ q)))

      module _ (found : Searched) (z : r ≡ Some found) where
        is_some : search_on F v to ≡ some found
        is_some = gives-some (search_on F v to) found (sym z ∙ q)

        pub gives-node : found.node < n
        gives-node = (search-ends F v to found o is_some).0

        fell-here : next_from F lands c to l ≡ fell_at c lands found.node found.links
        fell-here = searched o ∙ ap (fell_on lands c) is_some

        pub gives-high : (d : ℕ) → d ≡ size_cell table found.node → c ≤ d → NextDone n table c to l Lost
        gives-high d j k = nothing (fell-here ∙ high (le-ltb (lands found.node) c (omega arith)))
          where
            high : ltb (lands found.node) c ≡ false → fell_at c lands found.node found.links ≡ lost
            high w = unfold fell_at in rw w

        pub gives-fell : (d : ℕ) → d ≡ size_cell table found.node → d < c → depth_cell table v ≤ 65535
            → NextDone n table c to l (Fell found.node d found.links)
        unfolding dropping_of fell_at
        gives-fell d j k b =
            let y : fell_at c lands found.node found.links ≡ fell found.node (lands found.node) found.links = rw (lt-ltb (lands found.node) c (omega arith)) in
            record {
              result = ap (λ (x : ℕ). Fell found.node x found.links) j ∙ ap dropping_of (sym (fell-here ∙ y));
              few = λ x y w u.
                  let a : found.node ≡ x = cc in
                  let f : found.links ≡ w = cc in
                  let g = search-ends F v to found o is_some in
                  (omega (arith, g.0), omega (arith, g.1));
            }
