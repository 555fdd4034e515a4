-- Nodes passed over by a climb.
--     climb-falls                 each move rises, in any forest
--     links_passed, passed_most   no fewer than the links, at most the depth of the start
--     climb-passed, passed-height in a tree: the depths' difference, at most the height
--     same-passed                 so in a table that says what a tree says
--     ended-carry, ended-climb    moves that count themselves and report their end: the count is that of the moves,
--                                 the end the climb's
use Prim.Native.Nat.{ℕ, ◌+◌, ◌-◌, ◌≤◌, ◌<◌}
use mathlib.Core.Path.{◌≡◌, refl, sym, ap, ap₂, ◌∙◌}
use mathlib.Core.List.{List, [], ◌∷◌}
use mathlib.Core.Option.{Option, none, some}
use native.Mathlib.Omega.{arith}
use lib.ListN.{length}
use Rattle.trees.specs.Tree.{Tree, size, height}
use Rattle.trees.specs.Numbering.{depth, ancestor}
use Rattle.trees.specs.Climb.{Forest, forest_of, Move, target, and_then, climb, climb_end, carry}
use Rattle.trees.specs.Passed.{passed_by}
use Rattle.trees.proofs.JumpLaws.{ancestor-depth}
use Rattle.trees.proofs.HeightLaws.{depth-height}
use Rattle.trees.proofs.ClimbLaws.{climb-short, climb-inside, Tells, same-climb, same_end}
use Rattle.trees.proofs.TreeClimbs.{climb-ends}
use Rattle.trees.proofs.CarryLaws.{carried}

-- ---- in any forest, so on any table of links

module _ (F : Forest) (w to : ℕ) (ms : List Move) (e : climb F w to ≡ some ms) where
  pub climb-falls : F.depth (climb_end F w ms) + length ms ≤ F.depth w
  climb-falls = omega (arith, climb-short F w to ms e)

  pub links_passed : length ms ≤ passed_by F w ms
  links_passed = omega (arith, climb-falls)

pub passed_most : (F : Forest) (w : ℕ) (ms : List Move) → passed_by F w ms ≤ F.depth w
passed_most F w ms = omega arith

-- ---- in a tree

module _ (t : Tree) (w to : ℕ) (ms : List Move) (h : w < size t) (l : to ≤ depth t w)
    (e : climb (forest_of t) w to ≡ some ms) where
  end-depth : depth t (climb_end (forest_of t) w ms) ≡ to
  end-depth =
      let a : depth t (ancestor t w (depth t w - to)) + (depth t w - to) ≡ depth t w =
      ancestor-depth t w (depth t w - to) h (omega arith) in
      ap (depth t) (climb-ends t w to ms h l e) ∙ omega arith

  pub climb-passed : passed_by (forest_of t) w ms ≡ depth t w - to
  climb-passed = ap (λ (d : ℕ). depth t w - d) end-depth

  pub passed-height : passed_by (forest_of t) w ms ≤ height t
  passed-height = omega (arith, climb-passed, depth-height t w h)

-- a table that says what a tree says
module _ (F : Forest) (t : Tree) (n : F.nodes ≡ size t) (tells : Tells F t) where
  pub same-passed : (w to : ℕ) (ms : List Move) → w < size t → to ≤ depth t w → climb F w to ≡ some ms
      → passed_by F w ms ≡ depth t w - to
  same-passed w to ms h l e =
      let c : climb (forest_of t) w to ≡ some ms = sym (same-climb F t n tells w to h) ∙ e in
      let i : climb_end (forest_of t) w ms < size t = climb-inside (forest_of t) w to ms h c in
      ap₂ (λ (a b : ℕ). a - b) (tells w h).2
      (ap F.depth (same_end F t n tells w to ms h e) ∙ (tells (climb_end (forest_of t) w ms) i).2)
      ∙ climb-passed t w to ms h l c

-- ---- moves that count themselves and report their end

-- told x c v is x after c moves that led to node v; a move of `counted` is one of act that counts itself and reports
-- where it leads
module _ {X C : Type 0} (F : Forest) (told : X → ℕ → ℕ → C) (act : Move → X → Option X) (counted : Move → C → Option C)
    (one : (m : Move) (x : X) (c v : ℕ)
    → counted m (told x c v) ≡ and_then (act m x) (λ y. some (told y (c + 1) (target F m)))) where
  pub ended-carry : (ms : List Move) (x : X) (c v : ℕ)
      → carry counted ms (told x c v) ≡ and_then (carry act ms x) (λ y. some (told y (c + length ms) (climb_end F v ms)))
  ended-carry [] x c v = let e : c ≡ c + 0 = omega arith in ap (λ (k : ℕ). some (told x k v)) e
  ended-carry (m ∷ ms) x c v =
      ap (λ (o : Option C). and_then o (carry counted ms)) (one m x c v)
      ∙ go (act m x) (λ y. ended-carry ms y (c + 1) (target F m))
    where
      go : (o : Option X)
          → ((y : X) → carry counted ms (told y (c + 1) (target F m))
          ≡ and_then (carry act ms y) (λ z. some (told z (c + 1 + length ms) (climb_end F (target F m) ms))))
          → and_then (and_then o (λ y. some (told y (c + 1) (target F m)))) (carry counted ms)
          ≡ and_then (and_then o (carry act ms)) (λ z. some (told z (c + length (m ∷ ms)) (climb_end F v (m ∷ ms))))
      go none h = refl
      go (some y) h =
          let e : c + 1 + length ms ≡ c + length (m ∷ ms) = omega arith in
          h y ∙ ap (λ (k : ℕ). and_then (carry act ms y) (λ z. some (told z k (climb_end F (target F m) ms)))) e

  pub ended-climb : (v t : ℕ) (x : X)
      → and_then (climb F v t) (λ ms. and_then (carry act ms x) (λ y. some (told y (length ms) (climb_end F v ms))))
      ≡ carried F counted v t (told x 0 v)
  ended-climb v t x = go (climb F v t)
    where
      go : (o : Option (List Move))
          → and_then o (λ ms. and_then (carry act ms x) (λ y. some (told y (length ms) (climb_end F v ms))))
          ≡ and_then o (λ ms. carry counted ms (told x 0 v))
      go none = refl
      go (some ms) =
          let e : length ms ≡ 0 + length ms = omega arith in
          ap (λ (c : ℕ). and_then (carry act ms x) (λ y. some (told y c (climb_end F v ms)))) e
          ∙ sym (ended-carry ms x 0 v)
