-- What a climb in a tree makes of a value is what a walk makes of it: the one theorem behind rule tables, where the
-- value is a state carried upward, and branch tables, where it is a map composed on the way.
--     carry-walk    moves that act as their walks do, on every value with P, carry a value as the whole walk does
--     carried-done, carried-move, carried-lost, carried-stuck
--                   climb and carry together, move by move, in any forest
--     counted-carry, counted-climb
--                   moves that also count what they go over: the count is that of the moves
use Prim.Native.Nat.{ℕ, ◌+◌, ◌-◌, ◌≤◌, ◌<◌}
use mathlib.Core.Path.{◌≡◌, refl, sym, ap, ◌∙◌, subst}
use mathlib.Core.List.{List, [], ◌∷◌}
use mathlib.Core.Option.{Option, none, some, some-injective}
use native.Mathlib.Omega.{arith}
use lib.ListN.{length}
use Rattle.trees.specs.Tree.{Tree, size}
use Rattle.trees.specs.Numbering.{parent, depth, ancestor}
use Rattle.trees.specs.Jumps.{jump, jump_depth}
use Rattle.trees.specs.Climb.{Forest, forest_of, Move, via_jump, to_parent, target, next_move}
use Rattle.trees.specs.Climb.{and_then, before, climb, carry, walk}
use Rattle.list_laws.proofs.Choice.{le-or}
use Rattle.trees.proofs.NodeLaws.{up, below_root}
use Rattle.trees.proofs.JumpLaws.{jump_depth-le, jump_in, jump-is, depth-jump}
use Rattle.trees.proofs.ClimbLaws.{climb-done, climb-move, climb-stuck, climb-nil, climb-cons}
use Rattle.trees.proofs.TreeClimbs.{tree-next-jump, tree-next-parent}
use Rattle.trees.proofs.WalkLaws.{walk-add, walk-keeps}

module _ {X : Type 0} (P : X → Type 0) (step : ℕ → X → X) (act : Move → X → Option X) (t : Tree)
    (by-parent : (v : ℕ) (x : X) → v + 1 < size t → P x → act (to_parent v) x ≡ some (step v x))
    (by_jump : (v : ℕ) (x : X) → v + 1 < size t → P x
    → act (via_jump v) x ≡ some (walk step t v (depth t v - depth t (jump t v)) x))
    (keeps : (v : ℕ) (x : X) → v + 1 < size t → P x → P (step v x)) where
  pub walk_kept : (v n : ℕ) (x : X) → v < size t → n ≤ depth t v → P x → P (walk step t v n x)
  walk_kept v n x h l p = walk-keeps step t P keeps v n x h l p

  -- one move of n steps, and the rest
  one_more : (m : Move) (ms : List Move) (w u n to : ℕ) (x : X)
      → act m x ≡ some (walk step t w n x) → u ≡ ancestor t w n → depth t u + n ≡ depth t w → to ≤ depth t u
      → carry act ms (walk step t w n x) ≡ some (walk step t u (depth t u - to) (walk step t w n x))
      → carry act (m ∷ ms) x ≡ some (walk step t w (depth t w - to) x)
  one_more m ms w u n to x a e d l c =
      let k : n + (depth t u - to) ≡ depth t w - to = omega arith in
      ap (λ (o : Option X). and_then o (carry act ms)) a ∙ c
      ∙ ap (λ (v : ℕ). some (walk step t v (depth t u - to) (walk step t w n x))) e
      ∙ ap some (sym (walk-add step t w n (depth t u - to) x) ∙ ap (λ (i : ℕ). walk step t w i x) k)

  pub carry-walk : (w to : ℕ) (ms : List Move) (x : X) → w < size t → to ≤ depth t w
      → climb (forest_of t) w to ≡ some ms → P x
      → carry act ms x ≡ some (walk step t w (depth t w - to) x)
  unfolding walk ancestor
  carry-walk w to [] x h l e p =
      let z : 0 ≡ depth t w - to = omega (arith, climb-nil (forest_of t) w to e) in
      ap (λ (i : ℕ). some (walk step t w i x)) z
  carry-walk w to (m ∷ ms) x h l e p =
      let s = climb-cons (forest_of t) w to m ms e in
      let r : w + 1 < size t = below_root t w h (omega (arith, s.deeper)) in
      le-or to (jump_depth (depth t w))
      (λ j.
      let u : ℕ = jump t w in
      let d : depth t u ≡ jump_depth (depth t w) = depth-jump t w h in
      let q : m ≡ via_jump w =
      some-injective m (via_jump w) (sym s.next ∙ tree-next-jump t w to h s.deeper j) in
      let c : climb (forest_of t) u to ≡ some ms =
      subst (λ (k : Move). climb (forest_of t) (target (forest_of t) k) to ≡ some ms) q s.more in
      let n : ℕ = depth t w - depth t u in
      let b : depth t u ≤ depth t w = omega (arith, jump_depth-le (depth t w)) in
      one_more m ms w u n to x (ap (λ (k : Move). act k x) q ∙ by_jump w x r p)
      (jump-is t w (depth t u) h (sym d)) (omega arith) (omega arith)
      (carry-walk u to ms (walk step t w n x) (jump_in t w h) (omega arith) c (walk_kept w n x h (omega arith) p)))
      (λ j.
      let u : ℕ = parent t w in
      let g = up t w r in
      let q : m ≡ to_parent w =
      some-injective m (to_parent w) (sym s.next ∙ tree-next-parent t w to h s.deeper j) in
      let c : climb (forest_of t) u to ≡ some ms =
      subst (λ (k : Move). climb (forest_of t) (target (forest_of t) k) to ≡ some ms) q s.more in
      one_more m ms w u 1 to x (ap (λ (k : Move). act k x) q ∙ by-parent w x r p) refl (omega (arith, g.deeper))
      (omega (arith, g.deeper, s.deeper))
      (carry-walk u to ms (step w x) g.below (omega (arith, g.deeper, s.deeper)) c (keeps w x r p)))

  pub carry-kept : (w to : ℕ) (x : X) → w < size t → P x → P (walk step t w (depth t w - to) x)
  carry-kept w to x h p = walk_kept w (depth t w - to) x h (omega arith) p

-- ---- climb and carry together, in any forest

abbrev pub carried : {X : Type 0} → Forest → (Move → X → Option X) → ℕ → ℕ → X → Option X
carried F act v t x = and_then (climb F v t) (λ ms. carry act ms x)

module _ {X : Type 0} (F : Forest) (act : Move → X → Option X) (v t : ℕ) (x : X) where
  pub carried-done : F.depth v ≤ t → carried F act v t x ≡ some x
  carried-done h = ap (λ (o : Option (List Move)). and_then o (λ ms. carry act ms x)) (climb-done F v t h)

  pub carried-stuck : t < F.depth v → next_move F v t ≡ none → carried F act v t x ≡ none
  carried-stuck h e = ap (λ (o : Option (List Move)). and_then o (λ ms. carry act ms x)) (climb-stuck F v t h e)

  module _ (m : Move) (h : t < F.depth v) (e : next_move F v t ≡ some m) where
    apart : (o : Option (List Move))
        → and_then (before m o) (λ ms. carry act ms x) ≡ and_then o (λ ms. and_then (act m x) (carry act ms))
    apart none = refl
    apart (some ms) = refl

    first : carried F act v t x ≡ and_then (climb F (target F m) t) (λ ms. and_then (act m x) (carry act ms))
    first =
        ap (λ (o : Option (List Move)). and_then o (λ ms. carry act ms x)) (climb-move F v t m h e)
        ∙ apart (climb F (target F m) t)

    pub carried-move : (y : X) → act m x ≡ some y → carried F act v t x ≡ carried F act (target F m) t y
    carried-move y a =
        first ∙ ap (λ (z : Option X). and_then (climb F (target F m) t) (λ ms. and_then z (carry act ms))) a

    pub carried-lost : act m x ≡ none → carried F act v t x ≡ none
    carried-lost a =
        first ∙ ap (λ (z : Option X). and_then (climb F (target F m) t) (λ ms. and_then z (carry act ms))) a
        ∙ nothing (climb F (target F m) t)
      where
        nothing : (o : Option (List Move)) → and_then {X = List Move} {Y = X} o (λ ms. none) ≡ none
        nothing none = refl
        nothing (some ms) = refl

-- ---- moves that count

-- count x c is x after c moves, and a move of counted is one of act that counts itself
module _ {X C : Type 0} (count : X → ℕ → C) (act : Move → X → Option X) (counted : Move → C → Option C)
    (one : (m : Move) (x : X) (c : ℕ) → counted m (count x c) ≡ and_then (act m x) (λ y. some (count y (c + 1)))) where
  pub counted-carry : (ms : List Move) (x : X) (c : ℕ)
      → carry counted ms (count x c) ≡ and_then (carry act ms x) (λ y. some (count y (c + length ms)))
  counted-carry [] x c = let e : c ≡ c + 0 = omega arith in ap (λ (k : ℕ). some (count x k)) e
  counted-carry (m ∷ ms) x c =
      ap (λ (o : Option C). and_then o (carry counted ms)) (one m x c)
      ∙ go (act m x) (λ y. counted-carry ms y (c + 1))
    where
      go : (o : Option X)
          → ((y : X) → carry counted ms (count y (c + 1))
          ≡ and_then (carry act ms y) (λ z. some (count z (c + 1 + length ms))))
          → and_then (and_then o (λ y. some (count y (c + 1)))) (carry counted ms)
          ≡ and_then (and_then o (carry act ms)) (λ z. some (count z (c + length (m ∷ ms))))
      go none h = refl
      go (some y) h =
          let e : c + 1 + length ms ≡ c + length (m ∷ ms) = omega arith in
          h y ∙ ap (λ (k : ℕ). and_then (carry act ms y) (λ z. some (count z k))) e

  pub counted-climb : (F : Forest) (v t : ℕ) (x : X)
      → and_then (climb F v t) (λ ms. and_then (carry act ms x) (λ y. some (count y (length ms))))
      ≡ carried F counted v t (count x 0)
  counted-climb F v t x = go (climb F v t)
    where
      go : (o : Option (List Move))
          → and_then o (λ ms. and_then (carry act ms x) (λ y. some (count y (length ms))))
          ≡ and_then o (λ ms. carry counted ms (count x 0))
      go none = refl
      go (some ms) =
          let e : length ms ≡ 0 + length ms = omega arith in
          ap (λ (c : ℕ). and_then (carry act ms x) (λ y. some (count y c))) e ∙ sym (counted-carry ms x 0)
