-- What becomes of a colour on the way down a path, for any number of states and any steps.
--     colour-le, drops-le     a colour never rises; each drop lowers it: so there are fewer drops than colours
--     follow-state            the colour reached has the state that the steps lead to
--     colour-add, drops-add   a way in two parts
--     colour-kept             where the colour falls nowhere it stays, with no drop
--     next-drop               at the highest place where it falls it lands on a lower colour, and from there the way
--                             goes on
use Prim.Native.Nat.{ℕ, zero, suc, ◌+◌, ◌-◌, ◌≤◌, ◌<◌}
use mathlib.Core.Path.{◌≡◌, refl, ap, ap₂, ◌∙◌}
use mathlib.Core.Bool.{Bool, true, false}
use native.Mathlib.Omega.{arith}
use lib.Dec.{ltb}
use lib.ListN.{get_or}
use borrow.Author.Tests.{lt-ltb, le-ltb, ltb-false}
use Rattle.trees.specs.Tree.{Tree, size}
use Rattle.trees.specs.Numbering.{parent, depth, ancestor}
use Rattle.list_laws.proofs.Choice.{le-or}
use Rattle.trees.proofs.NodeLaws.{up, below_root}
use Rattle.trees.proofs.MapLaws.{ancestor-parent}
use Rattle.colours.specs.marks.Marks.{bit, marks_in}
use Rattle.colours.proofs.marks.MarkLaws.{bit-zero, marks-suc}
use Rattle.colours.specs.Copies.{copy_in, copy, copy_above, lands_at, falls_at, state_down, colour_down, drops_down}
use Rattle.colours.proofs.CopyLaws.{copy_above-down, lands_at-le, lands_at-state}

-- a fall counts one and lowers by one at least
fall-bit : (x c : ℕ) → x ≤ c → bit (ltb x c) + x ≤ c
fall-bit x c h =
    le-or c x (λ l. rw (le-ltb x c l) (omega arith)) (λ l. rw (lt-ltb x c l) (omega arith))

module _ (n : ℕ) (step : ℕ → ℕ → ℕ) (t : Tree) where
  -- ---- a way in two parts

  pub colour-add : (l a b c : ℕ)
      → colour_down n step t l (a + b) c ≡ colour_down n step t l a (colour_down n step t (ancestor t l a) b c)
  unfolding colour_down ancestor
  colour-add l zero b c = let e : 0 + b ≡ b = omega arith in ap (λ (k : ℕ). colour_down n step t l k c) e
  colour-add l (suc a) b c =
      let e : suc a + b ≡ suc (a + b) = omega arith in
      ap (λ (k : ℕ). colour_down n step t l k c) e
      ∙ ap (λ (x : ℕ). lands_at n step t x l)
      (colour-add (parent t l) a b c
      ∙ ap (λ (u : ℕ). colour_down n step t (parent t l) a (colour_down n step t u b c)) (ancestor-parent t l a))

  pub drops-add : (l a b c : ℕ)
      → drops_down n step t l (a + b) c
      ≡ drops_down n step t l a (colour_down n step t (ancestor t l a) b c) + drops_down n step t (ancestor t l a) b c
  unfolding drops_down ancestor
  drops-add l zero b c =
      let e : 0 + b ≡ b = omega arith in
      ap (λ (k : ℕ). drops_down n step t l k c) e ∙ omega arith
  drops-add l (suc a) b c =
      let e : suc a + b ≡ suc (a + b) = omega arith in
      let u : ancestor t (parent t l) a ≡ ancestor t l (suc a) = ancestor-parent t l a in
      let d : ℕ = colour_down n step t (ancestor t l (suc a)) b c in
      let f : colour_down n step t (parent t l) (a + b) c ≡ colour_down n step t (parent t l) a d =
      colour-add (parent t l) a b c ∙ ap (λ (u : ℕ). colour_down n step t (parent t l) a (colour_down n step t u b c)) u
      in
      let g : drops_down n step t (parent t l) (a + b) c
      ≡ drops_down n step t (parent t l) a d + drops_down n step t (ancestor t l (suc a)) b c =
      drops-add (parent t l) a b c
      ∙ ap (λ (u : ℕ). drops_down n step t (parent t l) a (colour_down n step t u b c) + drops_down n step t u b c) u in
      ap (λ (k : ℕ). drops_down n step t l k c) e
      ∙ ap₂ (λ (x y : ℕ). bit (falls_at n step t x l) + y) f g
      ∙ omega arith

  module _ (keeps : (v q : ℕ) → q < n → step v q < n) where
    -- ---- a colour only falls

    pub colour-le : (l k c : ℕ) → c < n → colour_down n step t l k c ≤ c
    unfolding colour_down
    colour-le l zero c h = omega arith
    colour-le l (suc k) c h =
        let i : colour_down n step t (parent t l) k c ≤ c = colour-le (parent t l) k c h in
        omega (arith, lands_at-le n step t keeps (colour_down n step t (parent t l) k c) l (omega arith))

    pub drops-le : (l k c : ℕ) → c < n → drops_down n step t l k c + colour_down n step t l k c ≤ c
    unfolding drops_down colour_down
    drops-le l zero c h = omega arith
    drops-le l (suc k) c h =
        let d : ℕ = colour_down n step t (parent t l) k c in
        let i : d ≤ c = colour-le (parent t l) k c h in
        omega (
          arith,
          drops-le (parent t l) k c h,
          fall-bit (lands_at n step t d l) d (lands_at-le n step t keeps d l (omega arith)),
        )

    -- ---- it has the state that the steps lead to

    -- k places above l's parent
    above : (l k c : ℕ) → l < size t → k ≤ depth t l
        → (parent t l < size t → k ≤ suc (depth t (parent t l))
        → get_or (copy n step t (parent t l)) (colour_down n step t (parent t l) k c) 0
        ≡ state_down step t (parent t l) k
        (get_or (copy_in n step t (ancestor t (parent t l) k) (suc (depth t (parent t l)) - k)) c 0))
        → get_or (copy_above n step t l) (colour_down n step t (parent t l) k c) 0
        ≡ state_down step t (parent t l) k (get_or (copy_in n step t (ancestor t l (suc k)) (depth t l - k)) c 0)
    unfolding colour_down state_down copy_above ancestor
    above l zero c h w ih =
        let e : depth t l ≡ depth t l - 0 = omega arith in
        ap (λ (k : ℕ). get_or (copy_in n step t (parent t l) k) c 0) e
    above l (suc k) c h w ih =
        let g : l + 1 < size t = below_root t l h (omega arith) in
        let d : depth t l ≡ depth t (parent t l) + 1 = (up t l g).deeper in
        let e : suc (depth t (parent t l)) - suc k ≡ depth t l - suc k = omega arith in
        ap (λ (x : _). get_or x (colour_down n step t (parent t l) (suc k) c) 0) (copy_above-down n step t l g)
        ∙ ih (up t l g).below (omega arith)
        ∙ ap₂ (λ (u j : ℕ). state_down step t (parent t l) (suc k) (get_or (copy_in n step t u j) c 0))
        (ancestor-parent t l (suc k)) e

    pub follow-state : (l k c : ℕ) → l < size t → k ≤ suc (depth t l) → c < n
        → get_or (copy n step t l) (colour_down n step t l k c) 0
        ≡ state_down step t l k (get_or (copy_in n step t (ancestor t l k) (suc (depth t l) - k)) c 0)
    unfolding colour_down state_down copy ancestor
    follow-state l zero c h w b =
        let e : suc (depth t l) ≡ suc (depth t l) - 0 = omega arith in
        ap (λ (k : ℕ). get_or (copy_in n step t l k) c 0) e
    follow-state l (suc k) c h w b =
        let d : ℕ = colour_down n step t (parent t l) k c in
        let e : depth t l - k ≡ suc (depth t l) - suc k = omega arith in
        lands_at-state n step t keeps d l (omega (arith, colour-le (parent t l) k c b))
        ∙ ap (step l) (above l k c h (omega arith) (λ i j. follow-state (parent t l) k c i j b)
        ∙ ap (λ (j : ℕ). state_down step t (parent t l) k (get_or (copy_in n step t (ancestor t l (suc k)) j) c 0)) e)

    -- ---- between drops, and a drop

    -- where it does not fall it stays
    lands-same : (c v : ℕ) → c < n → falls_at n step t c v ≡ false → lands_at n step t c v ≡ c
    lands-same c v h e = omega (arith, ltb-false (lands_at n step t c v) c e, lands_at-le n step t keeps c v h)

    pub colour-kept : (l k c : ℕ) → c < n → marks_in t (falls_at n step t c) l k ≡ 0
        → (colour_down n step t l k c ≡ c) × (drops_down n step t l k c ≡ 0)
    unfolding colour_down drops_down
    colour-kept l zero c h e = (refl, refl)
    colour-kept l (suc k) c h e =
        let s = marks-suc t (falls_at n step t c) l k in
        let z : bit (falls_at n step t c l) ≡ 0 = omega arith in
        let i = colour-kept (parent t l) k c h (omega arith) in
        let f : falls_at n step t c l ≡ false = bit-zero (falls_at n step t c l) z in (
          ap (λ (x : ℕ). lands_at n step t x l) i.0 ∙ lands-same c l h f,
          ap₂ (λ (x y : ℕ). bit (falls_at n step t x l) + y) i.0 i.1 ∙ omega arith,
        )

    pub next-drop : (l k c i : ℕ) → c < n → i < k → falls_at n step t c (ancestor t l i) ≡ true
        → marks_in t (falls_at n step t c) (ancestor t l (suc i)) (k - suc i) ≡ 0
        → (colour_down n step t l k c ≡ colour_down n step t l i (lands_at n step t c (ancestor t l i)))
        × (drops_down n step t l k c ≡ suc (drops_down n step t l i (lands_at n step t c (ancestor t l i))))
    unfolding ancestor
    next-drop l k c i h w f z =
        let x : ℕ = ancestor t l i in
        let r : ℕ = k - suc i in
        let e : k ≡ i + suc r = omega arith in
        let s = colour-kept (ancestor t l (suc i)) r c h z in
        let a : colour_down n step t x (suc r) c ≡ lands_at n step t c x =
        unfold colour_down in ap (λ (y : ℕ). lands_at n step t y x) s.0 in
        let b : drops_down n step t x (suc r) c ≡ 1 =
        unfold drops_down in
        (ap₂ (λ (y : ℕ) (d : ℕ). bit (falls_at n step t y x) + d) s.0 s.1 ∙ ap (λ (y : Bool). bit y + 0) f) in (
          ap (λ (j : ℕ). colour_down n step t l j c) e ∙ colour-add l i (suc r) c ∙ ap (colour_down n step t l i) a,
          ap (λ (j : ℕ). drops_down n step t l j c) e ∙ drops-add l i (suc r) c
              ∙ ap₂ (λ (y d : ℕ). drops_down n step t l i y + d) a b ∙ omega arith,
        )
