-- Tables that agree on their nodes give the same descents; so does any table that agrees with a tree's own colours.
--     fell-inside       a drop is at one of the nodes
--     SameColour        two forests agree on n nodes, and so does what the colour lands on
--     next-same         the next drop is the same
--     descend-agree     and so is the whole descent
use Prim.Native.Nat.{ℕ, zero, suc, ◌+◌, ◌<◌}
use mathlib.Core.Path.{◌≡◌, refl, sym, ap, ap₂, ◌∙◌}
use mathlib.Core.Bool.{Bool, true, false, cond}
use mathlib.Core.List.{List}
use mathlib.Core.Option.{Option, none, some}
use native.Mathlib.Omega.{arith}
use native.Mathlib.Decide.{ℕ_discrete}
use lib.Dec.{ltb}
use lib.ListN.{length}
use borrow.Author.Tests.{ltb-true}
use Rattle.trees.specs.Climb.{Forest, Move, climb, climb_end}
use Rattle.list_laws.proofs.Choice.{le-or}
use Rattle.trees.proofs.ClimbLaws.{Agree, same-climb-of, same-end-of, climb-inside}
use Rattle.colours.specs.marks.Marks.{bit}
use Rattle.colours.specs.Descents.{ColourTable, Place, seen_at, lowest_in, next_from, seen, next_drop}
use Rattle.colours.specs.Descents.{done, lost, fell, fell_at, fell_by, descend}
use Rattle.colours.proofs.DescentLaws.{next-done, next-search, next-outside, fell-lower, descend-next}
use Rattle.colours.proofs.DescentLaws.{same_after}

pub fell-inside : (F : Forest) (lands : ℕ → ℕ) (c to l x d k : ℕ) → next_from F lands c to l ≡ fell x d k → x < F.nodes
unfolding next_from fell_by fell_at
fell-inside F lands c to l x d k e =
    outer (ltb to (seen_at F lands c l)) (ltb (lowest_in F lands c l) F.nodes)
    (climb F (lowest_in F lands c l) to) refl refl e
  where
    v : ℕ
    v = lowest_in F lands c l

    inner : (y j : ℕ) (b : Bool) → cond b (fell y (lands y) j) lost ≡ fell x d k → y ≡ x
    inner y j true i = cc
    inner y j false i = let z : ◌≡◌ {A = ℕ} 0 1 = cc in absurd (omega arith)

    searched : (o : Option (List Move)) → climb F v to ≡ o → v < F.nodes → fell_by F lands c v o ≡ fell x d k
        → x < F.nodes
    searched none q h i = let z : ◌≡◌ {A = ℕ} 0 1 = cc in absurd (omega arith)
    searched (some ms) q h i =
        let y : climb_end F v ms ≡ x = inner (climb_end F v ms) (length ms) (ltb (lands (climb_end F v ms)) c) i in
        omega (arith, climb-inside F v to ms h q)

    outer : (a b : Bool) (o : Option (List Move)) → ltb v F.nodes ≡ b → climb F v to ≡ o
        → cond a (cond b (fell_by F lands c v o) lost) done ≡ fell x d k → x < F.nodes
    outer true true o h q i = searched o q (ltb-true v F.nodes h) i
    outer true false o h q i = let z : ◌≡◌ {A = ℕ} 0 1 = cc in absurd (omega arith)
    outer false b o h q i = let z : ◌≡◌ {A = ℕ} 0 1 = cc in absurd (omega arith)

pub record SameColour (n : ℕ) (F G : Forest) (f g : ℕ → ℕ) : Type 0 where
  pub agree : Agree F G
  pub nodes : F.nodes ≡ n
  pub lands : (v : ℕ) → v < n → f v ≡ g v

module _ (n : ℕ) (F G : Forest) (f g : ℕ → ℕ) (S : SameColour n F G f g) (c : ℕ) where
  pub seen_same : (v : ℕ) → v < n → seen_at F f c v ≡ seen_at G g c v
  seen_same v h =
      ap₂ (λ (x d : ℕ). bit (ltb x c) + d) (S.lands v h) (S.agree.depths v (omega (arith, S.nodes)))

  lowest-same : (l : ℕ) → l < n → lowest_in F f c l ≡ lowest_in G g c l
  lowest-same l h =
      ap₂ (λ (x p : ℕ). cond (ltb x c) l p) (S.lands l h) (S.agree.parents l (omega (arith, S.nodes)))

  at_same : (x k : ℕ) → x < n → fell_at c f x k ≡ fell_at c g x k
  unfolding fell_at
  at_same x k h = ap (λ (y : ℕ). cond (ltb y c) (fell x y k) lost) (S.lands x h)

  by-same : (v to : ℕ) → v < F.nodes → fell_by F f c v (climb F v to) ≡ fell_by G g c v (climb G v to)
  unfolding fell_by
  by-same v to h = go (climb F v to) refl ∙ ap (fell_by G g c v) (same-climb-of F G S.agree v to h)
    where
      go : (o : Option (List Move)) → climb F v to ≡ o → fell_by F f c v o ≡ fell_by G g c v o
      go none q = refl
      go (some ms) q =
          at_same (climb_end F v ms) (length ms) (omega (arith, climb-inside F v to ms h q, S.nodes))
          ∙ ap (λ (x : ℕ). fell_at c g x (length ms)) (same-end-of F G S.agree v to ms h q)

  pub next-same : (to l : ℕ) → l < n → next_from F f c to l ≡ next_from G g c to l
  next-same to l h =
      let s : seen_at F f c l ≡ seen_at G g c l = seen_same l h in
      let w : lowest_in F f c l ≡ lowest_in G g c l = lowest-same l h in
      let m : F.nodes ≡ G.nodes = S.agree.nodes in
      le-or (seen_at F f c l) to
      (λ p. next-done F f c to l p ∙ sym (next-done G g c to l (rw s at p)))
      (λ p. le-or F.nodes (lowest_in F f c l)
      (λ q. next-outside F f c to l p q ∙ sym (next-outside G g c to l (rw s at p) (rw (w, m) at q)))
      (λ q. next-search F f c to l p q ∙ by-same (lowest_in F f c l) to q
      ∙ ap (λ (v : ℕ). fell_by G g c v (climb G v to)) w
      ∙ sym (next-search G g c to l (rw s at p) (rw (w, m) at q))))

-- ---- whole tables

abbrev pub PlaceIn : ℕ → Place → Type 0
PlaceIn n none = Unit {0}
PlaceIn n (some z) = z < n

module _ (n k : ℕ) (T U : ColourTable)
    (S : (c : ℕ) → 0 < c → c < k → SameColour n (T.forest c) (U.forest c) (T.lands c) (U.lands c)) (l : ℕ)
    (hl : l < n) where
  seen-place : (c : ℕ) (z : Place) → 0 < c → c < k → PlaceIn n z → seen T c z ≡ seen U c z
  seen-place c none p b h = refl
  seen-place c (some z) p b h = seen_same n (T.forest c) (U.forest c) (T.lands c) (U.lands c) (S c p b) c z h

  drop-same : (c : ℕ) (z : Place) → 0 < c → c < k → PlaceIn n z → next_drop T c z l ≡ next_drop U c z l
  drop-same c z p b h =
      next-same n (T.forest c) (U.forest c) (T.lands c) (U.lands c) (S c p b) c (seen T c z) l hl
      ∙ ap (λ (to : ℕ). next_from (U.forest c) (U.lands c) c to l) (seen-place c z p b h)

  pub descend-agree : (f : ℕ) (z : Place) (c : ℕ) → c < k → PlaceIn n z → descend T f z l c ≡ descend U f z l c
  unfolding descend
  descend-agree zero z c b h = refl
  descend-agree (suc f) z c b h =
      elim (ℕ_discrete c 0) [
        | yes e ↦ rw e refl
        | no e ↦ (let p : 0 < c = omega arith in
            descend-next T z l f c (next_drop U c z l) p (drop-same c z p b h)
            ∙ same_after T l (next_drop U c z l) c (λ x d. descend T f (some x) l d) (λ x d. descend U f (some x) l d)
            (λ x d j q.
            let o : next_drop T c z l ≡ fell x d j = drop-same c z p b h ∙ q in
            let i : d < c = fell-lower (T.forest c) (T.lands c) c (seen T c z) l x d j o in
            descend-agree f (some x) d (omega arith)
            (omega (arith, fell-inside (T.forest c) (T.lands c) c (seen T c z) l x d j o, (S c p b).nodes)))
            ∙ sym (descend-next U z l f c (next_drop U c z l) p refl))
      ]
