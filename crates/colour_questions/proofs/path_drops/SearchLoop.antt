-- The iterations of a search.
--     search-done, search-move, search-stuck   a search, move by move
--     gives-node, gives-none                     what one move gives
--     Searches                                 the loop's state: what is left gives the whole search's answer
--     searches-start, -turn, -rises, -done, -lost
use Prim.Native.Nat.{ℕ, suc, ◌+◌, ◌≤◌, ◌<◌}
use mathlib.Core.Path.{◌≡◌, refl, sym, ap, ◌∙◌}
use mathlib.Core.List.{List}
use mathlib.Core.Option.{Option, none, some}
use native.Mathlib.Omega.{arith}
use lib.ListN.{length}
use Rattle.std.specs.Prelude.{Some, None}
use Rattle.trees.specs.Climb.{Forest, Move, via_jump, to_parent, target, next_move, and_then, before, climb, climb_end}
use Rattle.trees.proofs.MoveLaws.{next-inside, next-rises}
use Rattle.trees.proofs.ClimbLaws.{climb-done, climb-move, climb-stuck}
use Rattle.tables.specs.declared.node_tables.moves.NextMove.TheVariants.{Jump, Parent, Stuck}
use Rattle.tables.specs.node_tables.inner.MoveAnswers.{next_move_of}
use Rattle.colour_questions.specs.declared.path_drops.search.Searched.{Searched}
use Rattle.colour_questions.specs.path_drops.inner.Search.{next_node, searching, search_on, searched_of}

-- k links before
abbrev pub after : ℕ → Option Searched → Option Searched
after k none = none
after k (some s) = some (searching s.node (k + s.links))

after-zero : (o : Option Searched) → after 0 o ≡ o
after-zero none = refl
after-zero (some s) = let e : 0 + s.links ≡ s.links = omega arith in ap (λ (k : ℕ). some (searching s.node k)) e

after_more : (k : ℕ) (o : Option Searched) → after k (after 1 o) ≡ after (k + 1) o
after_more k none = refl
after_more k (some s) =
    let e : k + (1 + s.links) ≡ k + 1 + s.links = omega arith in ap (λ (j : ℕ). some (searching s.node j)) e

module _ (F : Forest) (v t : ℕ) where
  search-done : F.depth v ≤ t → search_on F v t ≡ some (searching v 0)
  unfolding search_on
  search-done h =
      ap (λ (o : Option (List Move)). and_then o (λ ms. some (searching (climb_end F v ms) (length ms))))
      (climb-done F v t h)

  search-stuck : t < F.depth v → next_move F v t ≡ none → search_on F v t ≡ none
  unfolding search_on
  search-stuck h e =
      ap (λ (o : Option (List Move)). and_then o (λ ms. some (searching (climb_end F v ms) (length ms))))
      (climb-stuck F v t h e)

  search-move : (m : Move) → t < F.depth v → next_move F v t ≡ some m
      → search_on F v t ≡ after 1 (search_on F (target F m) t)
  unfolding search_on
  search-move m h e =
      ap (λ (o : Option (List Move)). and_then o (λ ms. some (searching (climb_end F v ms) (length ms))))
      (climb-move F v t m h e)
      ∙ go (climb F (target F m) t)
    where
      go : (o : Option (List Move))
          → and_then (before m o) (λ ms. some (searching (climb_end F v ms) (length ms)))
          ≡ after 1 (and_then o (λ ms. some (searching (climb_end F (target F m) ms) (length ms))))
      go none = refl
      go (some ms) =
          let k : suc (length ms) ≡ 1 + length ms = omega arith in
          ap (λ (j : ℕ). some (searching (climb_end F (target F m) ms) j)) k

-- ---- one move

-- a node that a move gives is one of the nodes, and there is the move to it
pub record Moved (F : Forest) (v t u : ℕ) : Type 0 where
  pub move : Move
  pub next : next_move F v t ≡ some move
  pub leads : target F move ≡ u

moved : (F : Forest) (v t u : ℕ) → u ≡ next_node F (next_move F v t) → u < F.nodes → Moved F v t u
unfolding next_node
moved F v t u e h = go (next_move F v t) refl e
  where
    go : (o : Option Move) → next_move F v t ≡ o → u ≡ next_node F o → Moved F v t u
    go none q i = absurd (omega arith)
    go (some m) q i = record { move = m; next = q; leads = sym i }

stuck : (F : Forest) (v t u : ℕ) → u ≡ next_node F (next_move F v t) → F.nodes ≤ u → next_move F v t ≡ none
unfolding next_node
stuck F v t u e h = go (next_move F v t) refl e
  where
    go : (o : Option Move) → next_move F v t ≡ o → u ≡ next_node F o → o ≡ none
    go none q i = refl
    go (some m) q i = absurd (omega (arith, next-inside F v t m q))

-- what a move gives
pub gives-jump : (F : Forest) (o : Option Move) (j : ℕ) → Jump j ≡ next_move_of F o → j ≡ next_node F o
unfolding next_move_of next_node
gives-jump F none j e = let z : ◌≡◌ {A = ℕ} 0 1 = cc in absurd (omega arith)
gives-jump F (some (via_jump v)) j e = cc
gives-jump F (some (to_parent v)) j e = let z : ◌≡◌ {A = ℕ} 0 1 = cc in absurd (omega arith)

pub gives-parent : (F : Forest) (o : Option Move) (p : ℕ) → Parent p ≡ next_move_of F o → p ≡ next_node F o
unfolding next_move_of next_node
gives-parent F none p e = let z : ◌≡◌ {A = ℕ} 0 1 = cc in absurd (omega arith)
gives-parent F (some (via_jump v)) p e = let z : ◌≡◌ {A = ℕ} 0 1 = cc in absurd (omega arith)
gives-parent F (some (to_parent v)) p e = cc

pub gives-stuck : (F : Forest) (o : Option Move) → Stuck ≡ next_move_of F o → F.nodes ≡ next_node F o
unfolding next_move_of next_node
gives-stuck F none e = refl
gives-stuck F (some (via_jump v)) e = let z : ◌≡◌ {A = ℕ} 0 1 = cc in absurd (omega arith)
gives-stuck F (some (to_parent v)) e = let z : ◌≡◌ {A = ℕ} 0 1 = cc in absurd (omega arith)

-- ---- the loop

module _ (F : Forest) (from to : ℕ) where
  pub record Searches (v links : ℕ) : Type 0 where
    pub inside : v < F.nodes
    pub few : links + F.depth v ≤ F.depth from
    pub rest : search_on F from to ≡ after links (search_on F v to)

  pub searches-start : from < F.nodes → Searches from 0
  searches-start h = record { inside = h; few = omega arith; rest = sym (after-zero (search_on F from to)) }

  module _ (v links : ℕ) (S : Searches v links) where
    pub searches-done : F.depth v ≤ to → Some (searching v links) ≡ searched_of (search_on F from to)
    unfolding searched_of
    searches-done h =
        let e : links ≡ links + 0 = omega arith in
        ap (λ (k : ℕ). Some (searching v k)) e
        ∙ ap searched_of (sym (S.rest ∙ ap (after links) (search-done F v to h)))

    module _ (deeper : to < F.depth v) (u : ℕ) (e : u ≡ next_node F (next_move F v to)) where
      pub searches-rises : u < F.nodes → F.depth u < F.depth v
      searches-rises h = let w : Moved F v to u =
          moved F v to u e h in rw (← w.leads) (next-rises F v to w.move w.next)

      pub searches-turn : u < F.nodes → Searches u (links + 1)
      searches-turn h =
          let w : Moved F v to u = moved F v to u e h in
          record {
            inside = h;
            few = omega (arith, S.few, searches-rises h);
            rest = S.rest
                ∙ ap (after links) (search-move F v to w.move deeper w.next
                ∙ ap (λ (x : ℕ). after 1 (search_on F x to)) w.leads)
                ∙ after_more links (search_on F u to);
          }

      pub searches-lost : F.nodes ≤ u → None ≡ searched_of (search_on F from to)
      unfolding searched_of
      searches-lost h =
          ap searched_of (sym (S.rest ∙ ap (after links) (search-stuck F v to deeper (stuck F v to u e h))))
