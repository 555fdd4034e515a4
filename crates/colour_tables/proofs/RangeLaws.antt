-- Where a descent gives nothing, on any tables.
--     descend-cause   a value of the tables leads outside, or not upward, or to no fall
--     descend-low     where it ends, the colour is not above the first
use Prim.Native.Nat.{ℕ, zero, suc, ◌+◌, ◌≤◌, ◌<◌}
use mathlib.Core.Path.{◌≡◌, refl, sym, ap, ◌∙◌}
use mathlib.Core.Bool.{Bool, true, false, cond}
use mathlib.Core.List.{List, [], ◌∷◌}
use mathlib.Core.Logic.{◌⊎◌, inl, inr}
use mathlib.Core.Option.{Option, none, some}
use native.Mathlib.Omega.{arith}
use lib.Dec.{ltb}
use lib.ListN.{length}
use borrow.Author.Tests.{ltb-true, ltb-false}
use Rattle.list_laws.proofs.Choice.{le-or}
use Rattle.trees.specs.Climb.{Forest, Move, target, next_move, and_then, climb, climb_end, carry}
use Rattle.trees.specs.LinkOutOfRange.{LinkOutOfRange, parent_outside}
use Rattle.trees.proofs.MoveLaws.{none-some, next-inside, next-starts}
use Rattle.trees.proofs.ClimbLaws.{Split, climb-cons}
use Rattle.trees.proofs.LinkRangeLaws.{carried_none}
use Rattle.colours.specs.marks.Marks.{bit}
use Rattle.colours.specs.Descents.{ColourTable, Place, seen_at, lowest_in, next_from, seen, next_drop}
use Rattle.colours.specs.Descents.{Next, done, lost, fell, fell_at, fell_by, Descent, with_search, after_next, descend}
use Rattle.colours.proofs.DescentLaws.{next-done, next-search, fell-lower}
use Rattle.colour_tables.specs.OutOfRange.{ColourOutOfRange, link, level}

-- ---- one climb

module _ (F : Forest) where
  climb-cause : (v t : ℕ) → v < F.nodes → climb F v t ≡ none → LinkOutOfRange F
  climb-cause v t h e =
      elim (carried_none F (λ m (x : ℕ). some x) (λ x. Unit {0}) (λ m x y p q. tt) t v 0 h tt
      (ap (λ (o : Option (List Move)). and_then o (λ ms. carry (λ m (x : ℕ). some x) ms 0)) e)) [
        | inl s ↦ s
        | inr f ↦ absurd (none-some (sym f.nothing))
      ]

  -- node x is where a link of some node leads
  record Linked (x : ℕ) : Type 0 where
    pub from : ℕ
    pub inside : from < F.nodes
    pub deep : 0 < F.depth from
    pub leads : (x ≡ F.parent from) ⊎ (x ≡ F.jump from)

  -- a climb ends where it began or where a link leads
  ends : (v t : ℕ) (ms : List Move) → v < F.nodes → climb F v t ≡ some ms
      → (climb_end F v ms ≡ v) ⊎ Linked (climb_end F v ms)
  ends v t [] h e = inl refl
  ends v t (m ∷ ms) h e = go (climb-cons F v t m ms e) (ends (target F m) t ms)
    where
      here : (m : Move) → next_move F v t ≡ some m → (target F m ≡ F.parent v) ⊎ (target F m ≡ F.jump v)
      here m n = elim (next-starts F v t m n) [
        | inl q ↦ inr (ap (target F) q)
        | inr q ↦ inl (ap (target F) q)
      ]

      go : Split F v t m ms
          → (target F m < F.nodes → climb F (target F m) t ≡ some ms
          → (climb_end F (target F m) ms ≡ target F m) ⊎ Linked (climb_end F (target F m) ms))
          → (climb_end F (target F m) ms ≡ v) ⊎ Linked (climb_end F (target F m) ms)
      go s ih = elim (ih (next-inside F v t m s.next) s.more) [
        | inl q ↦ inr (record {
          from = v;
          inside = h;
          deep = omega (arith, s.deeper);
          leads = elim (here m s.next) [
            | inl z ↦ inl (q ∙ z)
            | inr z ↦ inr (q ∙ z)
          ];
        })
        | inr q ↦ inr q
      ]

-- ---- the next drop

module _ (n k : ℕ) (T : ColourTable) (sizes : (c : ℕ) → (T.forest c).nodes ≡ n) where
  module _ (c to l : ℕ) (p : 0 < c) (h : c < k) (hl : l < n) where
    abbrev F : Forest
    F = T.forest c

    abbrev lands : ℕ → ℕ
    lands = T.lands c

    abbrev v : ℕ
    v = lowest_in F lands c l

    -- the start of the search: l itself, where the colour falls, or where l's link leads
    first : to < seen_at F lands c l → (lands v < c) ⊎ ((0 < F.depth l) × (v ≡ F.parent l))
    first a = go (ltb (lands l) c) refl a
      where
        go : (b : Bool) → ltb (lands l) c ≡ b → to < bit b + F.depth l
            → (lands (cond b l (F.parent l)) < c) ⊎ ((0 < F.depth l) × (cond b l (F.parent l) ≡ F.parent l))
        go true q a = inl (ltb-true (lands l) c q)
        go false q a = inr (omega arith, refl)

    -- the node found, where the colour does not fall
    found : (x : ℕ) → to < seen_at F lands c l → v < n → (x ≡ v) ⊎ Linked F x → c ≤ lands x → ColourOutOfRange n k T
    found x a i (inl e) w = elim (first a) [
      | inl q ↦ absurd (let z : lands x ≡ lands v = ap lands e in omega arith)
      | inr q ↦ level c l x p h hl q.0 (inl (e ∙ q.1)) w
    ]
    found x a i (inr L) w = level c L.from x p h (omega (arith, L.inside, sizes c)) L.deep L.leads w

    searched : to < seen_at F lands c l → v < n → (o : Option (List Move)) → climb F v to ≡ o
        → fell_by F lands c v o ≡ lost → ColourOutOfRange n k T
    unfolding fell_by fell_at
    searched a i none q e = link c p h (climb-cause F v to (omega (arith, sizes c)) q)
    searched a i (some ms) q e =
        go (ltb (lands (climb_end F v ms)) c) refl e
      where
        go : (b : Bool) → ltb (lands (climb_end F v ms)) c ≡ b
            → cond b (fell (climb_end F v ms) (lands (climb_end F v ms)) (length ms)) lost ≡ lost → ColourOutOfRange n k T
        go true z i = let y : ◌≡◌ {A = ℕ} 0 1 = cc in absurd (omega arith)
        go false z d =
            found (climb_end F v ms) a i (ends F v to ms (omega (arith, sizes c)) q)
            (ltb-false (lands (climb_end F v ms)) c z)

    outside : F.nodes ≤ v → ColourOutOfRange n k T
    outside o = go (ltb (lands l) c) o
      where
        go : (b : Bool) → F.nodes ≤ cond b l (F.parent l) → ColourOutOfRange n k T
        go true i = absurd (omega (arith, sizes c))
        go false i = link c p h (parent_outside l (omega (arith, sizes c)) i)

    next-cause : next_from F lands c to l ≡ lost → ColourOutOfRange n k T
    next-cause e =
        le-or (seen_at F lands c l) to
        (λ a. absurd (let y : ◌≡◌ {A = ℕ} 0 1 = done-lost (sym (next-done F lands c to l a) ∙ e) in omega arith))
        (λ a. le-or F.nodes v
        (λ o. outside o)
        (λ i. searched a (omega (arith, sizes c)) (climb F v to) refl (sym (next-search F lands c to l a i) ∙ e)))
      where
        done-lost : done ≡ lost → ◌≡◌ {A = ℕ} 0 1
        done-lost q = cc

  -- ---- from drop to drop

  module _ (l : ℕ) (hl : l < n) where
    pub descend-cause : (f : ℕ) (z : Place) (c : ℕ) → c < k → descend T f z l c ≡ none → ColourOutOfRange n k T
    unfolding descend
    descend-cause zero z c h e = absurd (none-some (sym e))
    descend-cause (suc f) z zero h e = absurd (none-some (sym e))
    descend-cause (suc f) z (suc c) h e = go (next_drop T (suc c) z l) refl e (descend-cause f)
      where
        kept : (m : ℕ) (o : Option Descent) → with_search m o ≡ none → o ≡ none
        kept m none q = refl
        kept m (some d) q = absurd (none-some (sym q))

        go : (o : Next) → next_drop T (suc c) z l ≡ o → after_next o (suc c) (λ x d. descend T f (some x) l d) ≡ none
            → ((z : Place) (d : ℕ) → d < k → descend T f z l d ≡ none → ColourOutOfRange n k T) → ColourOutOfRange n k T
        go done q i ih = absurd (none-some (sym i))
        go lost q i ih = next-cause (suc c) (seen T (suc c) z) l (omega arith) h hl q
        go (fell x d m) q i ih =
            let w : d < suc c = fell-lower (T.forest (suc c)) (T.lands (suc c)) (suc c)
            (seen T (suc c) z) l x d m q in
            ih (some x) d (omega arith) (kept m (descend T f (some x) l d) i)

-- the colour at the end is not above the first
pub descend-low : (T : ColourTable) (l f : ℕ) (z : Place) (c : ℕ) (d : Descent) → descend T f z l c ≡ some d
    → d.colour ≤ c
unfolding descend
descend-low T l zero z c d e = let y : c ≡ d.colour = cc in omega arith
descend-low T l (suc f) z zero d e = let y : 0 ≡ d.colour = cc in omega arith
descend-low T l (suc f) z (suc c) d e = go (next_drop T (suc c) z l) refl e (descend-low T l f)
  where
    go : (o : Next) → next_drop T (suc c) z l ≡ o → after_next o (suc c) (λ x b. descend T f (some x) l b) ≡ some d
        → ((z : Place) (b : ℕ) (d : Descent) → descend T f z l b ≡ some d → d.colour ≤ b) → d.colour ≤ suc c
    go done q i ih = let y : suc c ≡ d.colour = cc in omega arith
    go lost q i ih = absurd (none-some i)
    go (fell x b m) q i ih =
        let w : b < suc c = fell-lower (T.forest (suc c)) (T.lands (suc c)) (suc c) (seen T (suc c) z) l x b m q in
        rest (descend T f (some x) l b) refl i w
      where
        rest : (o : Option Descent) → descend T f (some x) l b ≡ o → with_search m o ≡ some d → b < suc c
            → d.colour ≤ suc c
        rest none r j w = absurd (none-some j)
        rest (some y) r j w = let s : y.colour ≡ d.colour = cc in omega (arith, ih (some x) b y r)
