-- Climbs, in any forest.
--     climb-done, climb-move, climb-stuck   the equations without a count
--     climb-nil, climb-cons                 what a climb of no moves is, and one of m and more: used in inductions
--     climb-short, climb-low                at most depth-many moves; the end is not below the target depth
--     climb-most                            no more moves than the difference of the depths
--     Agree, same_next, same-climb-of       forests that agree on their nodes climb alike
--     same-climb, same_end                  so does a table that says what a tree says
use Prim.Native.Nat.{ℕ, zero, suc, ◌+◌, ◌-◌, ◌≤◌, ◌<◌}
use mathlib.Core.Path.{◌≡◌, refl, sym, ap, ◌∙◌}
use mathlib.Core.List.{List, [], ◌∷◌}
use mathlib.Core.Logic.{◌⊎◌, inl, inr}
use mathlib.Core.Option.{Option, none, some}
use native.Mathlib.Omega.{arith}
use native.Mathlib.Nat.{le_refl}
use lib.ListN.{length}
use borrow.Author.Tests.{lt-ltb, le-ltb}
use Rattle.trees.specs.Tree.{Tree, size}
use Rattle.trees.specs.Numbering.{parent, depth}
use Rattle.trees.specs.Jumps.{jump}
use Rattle.trees.specs.Climb.{Forest, forest_of, Move, via_jump, to_parent, target, next_move}
use Rattle.trees.specs.Climb.{and_then, before, climb_in, climb, climb_end}
use Rattle.list_laws.proofs.Choice.{le-or}
use Rattle.trees.proofs.MoveLaws.{none-some, next-inside, next-rises, next-starts, next-jump, next-parent}
use Rattle.trees.proofs.MoveLaws.{next-outside, next-jump-flat, next-parent-outside, next-parent-flat}

onward : (o : Option Move) (c d : Move → Option (List Move)) → ((m : Move) → o ≡ some m → c m ≡ d m)
    → and_then o (λ m. before m (c m)) ≡ and_then o (λ m. before m (d m))
onward none c d h = refl
onward (some m) c d h = ap (before m) (h m refl)

module _ (F : Forest) where
  -- ---- the equations without a count

  in-done : (f v t : ℕ) → F.depth v ≤ t → climb_in f F v t ≡ some []
  unfolding climb_in
  in-done zero v t h = refl
  in-done (suc f) v t h = rw (le-ltb t (F.depth v) h)

  in-more : (f v t : ℕ) → t < F.depth v
      → climb_in (suc f) F v t ≡ and_then (next_move F v t) (λ m. before m (climb_in f F (target F m) t))
  unfolding climb_in
  in-more f v t h = rw (lt-ltb t (F.depth v) h)

  -- any count that is large enough gives the same
  same : (f g v t : ℕ) → F.depth v ≤ f → F.depth v ≤ g → climb_in f F v t ≡ climb_in g F v t
  same zero g v t h l = in-done zero v t (omega arith) ∙ sym (in-done g v t (omega arith))
  same (suc f) zero v t h l = in-done (suc f) v t (omega arith) ∙ sym (in-done zero v t (omega arith))
  same (suc f) (suc g) v t h l =
      le-or (F.depth v) t
      (λ p. in-done (suc f) v t p ∙ sym (in-done (suc g) v t p))
      (λ p. in-more f v t p
      ∙ onward (next_move F v t) (λ m. climb_in f F (target F m) t) (λ m. climb_in g F (target F m) t)
      (λ m e. same f g (target F m) t (omega (arith, next-rises F v t m e)) (omega (arith, next-rises F v t m e)))
      ∙ sym (in-more g v t p))

  pub climb-done : (v t : ℕ) → F.depth v ≤ t → climb F v t ≡ some []
  unfolding climb
  climb-done v t h = in-done (F.depth v) v t h

  -- from a node below the target depth
  pub climb-onward : (v t : ℕ) → t < F.depth v
      → climb F v t ≡ and_then (next_move F v t) (λ m. before m (climb F (target F m) t))
  unfolding climb
  climb-onward v t h =
      let s : climb_in (F.depth v) F v t ≡ climb_in (suc (F.depth v)) F v t =
      same (F.depth v) (suc (F.depth v)) v t (le_refl _) (omega arith) in
      s ∙ in-more (F.depth v) v t h
      ∙ onward (next_move F v t) (λ m. climb_in (F.depth v) F (target F m) t)
      (λ m. climb_in (F.depth (target F m)) F (target F m) t)
      (λ m e. same (F.depth v) (F.depth (target F m)) (target F m) t
      (omega (arith, next-rises F v t m e)) (le_refl _))

  pub climb-move : (v t : ℕ) (m : Move) → t < F.depth v → next_move F v t ≡ some m
      → climb F v t ≡ before m (climb F (target F m) t)
  climb-move v t m h e =
      climb-onward v t h ∙ ap (λ (o : Option Move). and_then o (λ m. before m (climb F (target F m) t))) e

  pub climb-stuck : (v t : ℕ) → t < F.depth v → next_move F v t ≡ none → climb F v t ≡ none
  climb-stuck v t h e =
      climb-onward v t h ∙ ap (λ (o : Option Move). and_then o (λ m. before m (climb F (target F m) t))) e

  -- ---- a climb split into its moves

  pub climb-nil : (v t : ℕ) → climb F v t ≡ some [] → F.depth v ≤ t
  climb-nil v t e =
      le-or (F.depth v) t (λ h. h)
      (λ h. absurd (go (next_move F v t) (λ m. climb F (target F m) t) (sym (climb-onward v t h) ∙ e)))
    where
      step : (m : Move) (o : Option (List Move)) → before m o ≡ some [] → ⊥
      step m none q = none-some q
      step m (some ms) q = let z : ◌≡◌ {A = ℕ} 0 1 = cc in omega arith

      go : (o : Option Move) (c : Move → Option (List Move)) → and_then o (λ m. before m (c m)) ≡ some [] → ⊥
      go none c q = none-some q
      go (some m) c q = step m (c m) q

  pub record Split (v t : ℕ) (m : Move) (ms : List Move) : Type 0 where
    pub deeper : t < F.depth v
    pub next : next_move F v t ≡ some m
    pub more : climb F (target F m) t ≡ some ms

  pub climb-cons : (v t : ℕ) (m : Move) (ms : List Move) → climb F v t ≡ some (m ∷ ms) → Split v t m ms
  climb-cons v t m ms e =
      le-or (F.depth v) t
      (λ h. absurd (none-cons (sym (climb-done v t h) ∙ e)))
      (λ h. let g = go (next_move F v t) (λ m. climb F (target F m) t) (sym (climb-onward v t h) ∙ e) in
      record { deeper = h; next = g.0; more = g.1 })
    where
      none-cons : some [] ≡ some (m ∷ ms) → ⊥
      none-cons q = let z : ◌≡◌ {A = ℕ} 0 1 = cc in omega arith

      step : (k : Move) (o : Option (List Move)) → before k o ≡ some (m ∷ ms) → (k ≡ m) × (o ≡ some ms)
      step k none q = absurd (none-some q)
      step k (some ks) q = (cc, cc)

      go : (o : Option Move) (c : Move → Option (List Move)) → and_then o (λ m. before m (c m)) ≡ some (m ∷ ms)
          → (o ≡ some m) × (c m ≡ some ms)
      go none c q = absurd (none-some q)
      go (some k) c q = let s = step k (c k) q in (ap some s.0, ap c (sym s.0) ∙ s.1)

  -- ---- how far, and how many moves

  pub climb-short : (w t : ℕ) (ms : List Move) → climb F w t ≡ some ms
      → length ms + F.depth (climb_end F w ms) ≤ F.depth w
  climb-short w t [] e = omega arith
  climb-short w t (m ∷ ms) e =
      let s = climb-cons w t m ms e in
      omega (arith, climb-short (target F m) t ms s.more, next-rises F w t m s.next)

  pub climb-most : (w t : ℕ) (ms : List Move) → climb F w t ≡ some ms → length ms ≤ F.depth w - t
  climb-most w t [] e = omega arith
  climb-most w t (m ∷ ms) e =
      let s = climb-cons w t m ms e in
      omega (arith, climb-most (target F m) t ms s.more, next-rises F w t m s.next, s.deeper)

  pub climb-low : (w t : ℕ) (ms : List Move) → climb F w t ≡ some ms → F.depth (climb_end F w ms) ≤ t
  climb-low w t [] e = climb-nil w t e
  climb-low w t (m ∷ ms) e = climb-low (target F m) t ms (climb-cons w t m ms e).more

  pub climb-inside : (w t : ℕ) (ms : List Move) → w < F.nodes → climb F w t ≡ some ms → climb_end F w ms < F.nodes
  climb-inside w t [] h e = h
  climb-inside w t (m ∷ ms) h e =
      let s = climb-cons w t m ms e in
      climb-inside (target F m) t ms (next-inside F w t m s.next) s.more

-- ---- forests that agree on their nodes

pub record Agree (F G : Forest) : Type 0 where
  pub nodes : F.nodes ≡ G.nodes
  pub parents : (v : ℕ) → v < F.nodes → F.parent v ≡ G.parent v
  pub jumps : (v : ℕ) → v < F.nodes → F.jump v ≡ G.jump v
  pub depths : (v : ℕ) → v < F.nodes → F.depth v ≡ G.depth v

module _ (F G : Forest) (A : Agree F G) where
  -- what a link leads to has one depth
  same-depth : (u v : ℕ) → u ≡ v → u < F.nodes → F.depth u ≡ G.depth v
  same-depth u v e h = A.depths u h ∙ ap G.depth e

  pub same_next : (v t : ℕ) → v < F.nodes → next_move F v t ≡ next_move G v t
  same_next v t h =
      let n : F.nodes ≡ G.nodes = A.nodes in
      let j : F.jump v ≡ G.jump v = A.jumps v h in
      let p : F.parent v ≡ G.parent v = A.parents v h in
      let d : F.depth v ≡ G.depth v = A.depths v h in
      le-or F.nodes (F.jump v)
      (λ o. next-outside F v t o ∙ sym (next-outside G v t (omega arith)))
      (λ i.
      let k : F.depth (F.jump v) ≡ G.depth (G.jump v) = same-depth (F.jump v) (G.jump v) j i in
      le-or t (F.depth (F.jump v))
      (λ l. le-or (F.depth v) (F.depth (F.jump v))
      (λ r. next-jump-flat F v t l r ∙ sym (next-jump-flat G v t (omega arith) (omega arith)))
      (λ r. next-jump F v t i l r ∙ sym (next-jump G v t (omega arith) (omega arith) (omega arith))))
      (λ l. le-or F.nodes (F.parent v)
      (λ o. next-parent-outside F v t l o ∙ sym (next-parent-outside G v t (omega arith) (omega arith)))
      (λ s.
      let q : F.depth (F.parent v) ≡ G.depth (G.parent v) = same-depth (F.parent v) (G.parent v) p s in
      le-or (F.depth v) (F.depth (F.parent v))
      (λ r. next-parent-flat F v t l r ∙ sym (next-parent-flat G v t (omega arith) (omega arith)))
      (λ r. next-parent F v t i l s r ∙ sym (next-parent G v t (omega arith) (omega arith) (omega arith)
      (omega arith))))))

  pub same_target : (v t : ℕ) (m : Move) → v < F.nodes → next_move F v t ≡ some m → target F m ≡ target G m
  same_target v t m h e = go (next-starts F v t m e)
    where
      go : (m ≡ via_jump v) ⊎ (m ≡ to_parent v) → target F m ≡ target G m
      go (inl q) = ap (target F) q ∙ A.jumps v h ∙ ap (target G) (sym q)
      go (inr q) = ap (target F) q ∙ A.parents v h ∙ ap (target G) (sym q)

  counted : (f w t : ℕ) → w < F.nodes → F.depth w ≤ f → climb F w t ≡ climb G w t
  counted zero w t h l = climb-done F w t (omega arith) ∙ sym (climb-done G w t (omega (arith, A.depths w h)))
  counted (suc f) w t h l =
      le-or (F.depth w) t
      (λ p. climb-done F w t p ∙ sym (climb-done G w t (omega (arith, A.depths w h))))
      (λ p. climb-onward F w t p
      ∙ onward (next_move F w t) (λ m. climb F (target F m) t) (λ m. climb G (target G m) t)
      (λ m e. counted f (target F m) t (next-inside F w t m e) (omega (arith, next-rises F w t m e))
      ∙ ap (λ (u : ℕ). climb G u t) (same_target w t m h e))
      ∙ ap (λ (o : Option Move). and_then o (λ m. before m (climb G (target G m) t))) (same_next w t h)
      ∙ sym (climb-onward G w t (omega (arith, A.depths w h))))

  pub same-climb-of : (w t : ℕ) → w < F.nodes → climb F w t ≡ climb G w t
  same-climb-of w t h = counted (F.depth w) w t h (le_refl _)

  pub same-end-of : (w t : ℕ) (ms : List Move) → w < F.nodes → climb F w t ≡ some ms
      → climb_end F w ms ≡ climb_end G w ms
  same-end-of w t [] h e = refl
  same-end-of w t (m ∷ ms) h e =
      let s = climb-cons F w t m ms e in
      same-end-of (target F m) t ms (next-inside F w t m s.next) s.more
      ∙ ap (λ (u : ℕ). climb_end G u ms) (same_target w t m h s.next)

-- ---- a table that says what a tree says

abbrev pub Tells : Forest → Tree → Type 0
Tells F t = (v : ℕ) → v < size t → (F.parent v ≡ parent t v) × (F.jump v ≡ jump t v) × (F.depth v ≡ depth t v)

module _ (F : Forest) (t : Tree) (n : F.nodes ≡ size t) (tells : Tells F t) where
  pub tree-agrees : Agree F (forest_of t)
  tree-agrees =
      record {
        nodes = n;
        parents = λ v h. (tells v (rw n at h)).0;
        jumps = λ v h. (tells v (rw n at h)).1;
        depths = λ v h. (tells v (rw n at h)).2;
      }

  pub same-climb : (w to : ℕ) → w < size t → climb F w to ≡ climb (forest_of t) w to
  same-climb w to h = same-climb-of F (forest_of t) tree-agrees w to (omega arith)

  pub same_end : (w to : ℕ) (ms : List Move) → w < size t → climb F w to ≡ some ms
      → climb_end F w ms ≡ climb_end (forest_of t) w ms
  same_end w to ms h e = same-end-of F (forest_of t) tree-agrees w to ms (omega arith) e
