-- The ways out of the functions of the search.
--     jump_outside, parent-taken, jump-taken   next_unless, by what the code has read: j the jump, p the parent
--     Searching, searching-iteration, ..     the loop of meet: node x has still what is looked for from node v on
use Rattle.std.proofs.Common.{◌≡◌, ℕ, ◌<◌, ◌≤◌, Bool, true, false, cond, ◌&&◌, ltb, List, sym, refl, ap, ◌∙◌, arith, le-ltb, lt-ltb}
use mathlib.Core.Option.{Option, none, some}
use Rattle.trees.specs.Climb.{Forest, Move, via_jump, to_parent, target, rising}
use Rattle.tables.specs.node_tables.Cells.{depth_cell, cell_forest}
use Rattle.tables.specs.node_tables.Cells.{is_in_subtree_on}
use Rattle.questions.specs.declared.search.Meeting.TheVariants.{At, Outside}
use Rattle.questions.specs.Search.{next_unless, meet_on}
use Rattle.questions.specs.inner.SearchAnswers.{meeting_of, target_of, rising_meeting}
use Rattle.questions.proofs.SearchLaws.{unless, Taken, taken, search-here, search-move, search-stuck}
use Rattle.questions.proofs.SearchLaws.{search-inside}

-- ---- next_unless

answer-rising : (F : Forest) (v : ℕ) (m : Move) → rising_meeting F v (target F m) ≡ target_of F (rising F v m)
answer-rising F v m = go (ltb (target F m) F.nodes && ltb (F.depth (target F m)) (F.depth v))
  where
    go : (b : Bool) → cond b (At (target F m)) Outside ≡ target_of F (cond b (some m) none)
    go true = refl
    go false = refl

module _ (F : Forest) (stop : ℕ → Bool) (v j : ℕ) (ej : j ≡ F.jump v) where
  pub jump_outside : F.nodes ≤ j → Outside ≡ target_of F (next_unless F stop v)
  unfolding next_unless
  jump_outside h = rw (← ej, le-ltb j F.nodes h)

  module _ (h : j < F.nodes) where
    is_move : (m : Move) → unless F stop v ≡ m → next_unless F stop v ≡ rising F v m
    unfolding next_unless
    is_move m e =
        ap (λ (b : Bool). cond b (rising F v (unless F stop v)) none) (lt-ltb (F.jump v) F.nodes (omega arith))
        ∙ ap (rising F v) e

    pub parent-taken : (p : ℕ) → p ≡ F.parent v → stop j ≡ true
        → rising_meeting F v p ≡ target_of F (next_unless F stop v)
    parent-taken p ep s =
        ap (rising_meeting F v) ep ∙ answer-rising F v (to_parent v)
        ∙ ap (target_of F) (sym (is_move (to_parent v) (rw (← ej, s))))

    pub jump-taken : stop j ≡ false → rising_meeting F v j ≡ target_of F (next_unless F stop v)
    jump-taken s = ap (rising_meeting F v) ej ∙ answer-rising F v (via_jump v)
        ∙ ap (target_of F) (sym (is_move (via_jump v) (rw (← ej, s))))

-- ---- meet

-- an answer that is a node comes from a move to it
answer_at : (F : Forest) (o : Option Move) (y : ℕ) → At y ≡ target_of F o → (m : Move) × (o ≡ some m) × (target F m ≡ y)
answer_at F none y e = let z : ◌≡◌ {A = ℕ} 0 1 = cc in absurd (omega arith)
answer_at F (some m) y e = (m, refl, cc)

answer-outside : (F : Forest) (o : Option Move) → Outside ≡ target_of F o → o ≡ none
answer-outside F none e = refl
answer-outside F (some m) e = let z : ◌≡◌ {A = ℕ} 0 1 = cc in absurd (omega arith)

-- the lowest node that has u below it is the same from x on as from v
pub record Searching (n : ℕ) (node_table : List ℕ) (u v x : ℕ) : Type 0 where
  pub inside : x < n
  pub same : meet_on n node_table u v ≡ meet_on n node_table u x

module _ (n : ℕ) (node_table : List ℕ) (u : ℕ) where
  abbrev pub stop : ℕ → Bool
  stop x = is_in_subtree_on node_table x u

  pub meet-inside : (v x : ℕ) → v < n → meet_on n node_table u v ≡ some x → x < n
  unfolding meet_on
  meet-inside v x h e = search-inside (cell_forest n node_table) stop v x h e

  pub record Iterated (v x y : ℕ) : Type 0 where
    pub searching : Searching n node_table u v y
    pub rises : depth_cell node_table y < depth_cell node_table x

  module _ (v x : ℕ) (S : Searching n node_table u v x) where
    pub searching-iteration : (y : ℕ) → false ≡ is_in_subtree_on node_table x u
        → At y ≡ target_of (cell_forest n node_table) (next_unless (cell_forest n node_table) stop x) → Iterated v x y
    unfolding meet_on
    searching-iteration y h e =
        let F : Forest = cell_forest n node_table in
        let T = answer_at F (next_unless F stop x) y e in
        let a : Taken F stop x T.0 = taken F stop x T.0 T.1 in
        let q : target F T.0 ≡ y = T.2 in
        record {
          searching = record {
            inside = rw q at a.inside;
            same = S.same ∙ search-move F stop x T.0 (sym h) T.1 ∙ ap (meet_on n node_table u) q;
          };
          rises = rw q at a.rises;
        }

    pub searching-stuck : false ≡ is_in_subtree_on node_table x u
        → Outside ≡ target_of (cell_forest n node_table) (next_unless (cell_forest n node_table) stop x)
        → Outside ≡ meeting_of (meet_on n node_table u v)
    unfolding meet_on
    searching-stuck h e =
        let F : Forest = cell_forest n node_table in
        ap meeting_of (sym (S.same ∙ search-stuck F stop x (sym h) (answer-outside F (next_unless F stop x) e)))

    pub searching-done : true ≡ is_in_subtree_on node_table x u → At x ≡ meeting_of (meet_on n node_table u v)
    unfolding meet_on
    searching-done h = ap meeting_of (sym (S.same ∙ search-here (cell_forest n node_table) stop x (sym h)))
