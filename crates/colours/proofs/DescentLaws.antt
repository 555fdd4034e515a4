-- Going down from drop to drop.
--     next-.., descend-..          the equations of a drop and of a descent, on any table
--     Left, left-top, left-node    how many places of a path are left: from the top copy, from a node's copy
--     descend-tree                 on a tree's own colours a descent is never stuck; it ends with the colour that the
--                                  way leads to, its drops are the places where the colour falls, and each search is
--                                  a climb of few moves
--     descent-drops                fewer drops than colours
use Prim.Native.Nat.{ℕ, zero, suc, ◌+◌, ◌-◌, ◌*◌, ◌≤◌, ◌<◌}
use mathlib.Core.Path.{◌≡◌, refl, sym, ap, ap₂, ◌∙◌, subst}
use mathlib.Core.Bool.{Bool, true, false, cond}
use mathlib.Core.List.{List, [], ◌∷◌, ◌++◌}
use mathlib.Core.Option.{Option, none, some}
use native.Mathlib.Omega.{arith}
use native.Mathlib.Decide.{ℕ_discrete}
use lib.Dec.{ltb}
use lib.ListN.{length}
use borrow.Author.Tests.{lt-ltb, le-ltb, ltb-true}
use Rattle.trees.specs.Tree.{Tree, size, height}
use Rattle.trees.specs.Numbering.{depth, ancestor}
use Rattle.trees.specs.Climb.{Forest, Move, climb, climb_end, digits}
use Rattle.colours.specs.marks.Marks.{marks_in, marks_at, lowest_at}
use Rattle.colours.proofs.marks.MarkLaws.{marks_at-is, marks-at, lowest-in}
use Rattle.colours.proofs.marks.NextMark.{next-mark, next-mark-few}
use Rattle.colours.specs.marks.NextMarks.{NextMark}
use Rattle.colours.specs.Copies.{lands_at, falls_at, colour_down, drops_down}
use Rattle.colours.specs.Descents.{ColourTable, Place, seen_at, lowest_in, next_from, seen, lowest_of, Next, done}
use Rattle.colours.specs.Descents.{lost, fell, fell_at, fell_by, next_drop}
use Rattle.colours.specs.Descents.{Descent, descent, sum, with_search, after_next, descend, colour_table_of}
use Rattle.colours.proofs.PathLaws.{colour-le, drops-le, colour-kept, next-drop}
use Rattle.colours.specs.Descents.{AllLe}

-- ---- the equations of a descent

module _ (F : Forest) (lands : ℕ → ℕ) (c to l : ℕ) where
  pub next-done : seen_at F lands c l ≤ to → next_from F lands c to l ≡ done
  unfolding next_from
  next-done h = rw (le-ltb to (seen_at F lands c l) h)

  -- the search, where there is a drop
  pub next-search : to < seen_at F lands c l → lowest_in F lands c l < F.nodes
      → next_from F lands c to l ≡ fell_by F lands c (lowest_in F lands c l) (climb F (lowest_in F lands c l) to)
  unfolding next_from
  next-search h i = rw (lt-ltb to (seen_at F lands c l) h, lt-ltb (lowest_in F lands c l) F.nodes i)

  pub next-outside : to < seen_at F lands c l → F.nodes ≤ lowest_in F lands c l → next_from F lands c to l ≡ lost
  unfolding next_from
  next-outside h i = rw (lt-ltb to (seen_at F lands c l) h, le-ltb (lowest_in F lands c l) F.nodes i)

  pub next-fell : (ms : List Move) (x : ℕ) → to < seen_at F lands c l → lowest_in F lands c l < F.nodes
      → climb F (lowest_in F lands c l) to ≡ some ms → climb_end F (lowest_in F lands c l) ms ≡ x → lands x < c
      → next_from F lands c to l ≡ fell x (lands x) (length ms)
  unfolding fell_by fell_at
  next-fell ms x h i e q w = next-search h i ∙ rw (e, q, lt-ltb (lands x) c w)

  -- a drop goes to a lower colour
  pub fell-lower : (x d k : ℕ) → next_from F lands c to l ≡ fell x d k → d < c
  unfolding next_from fell_by fell_at
  fell-lower x d k e =
      outer (ltb to (seen_at F lands c l)) (ltb (lowest_in F lands c l) F.nodes) (climb F (lowest_in F lands c l) to) e
    where
      inner : (y : ℕ) (b : Bool) (j : ℕ) → ltb (lands y) c ≡ b → cond b (fell y (lands y) j) lost ≡ fell x d k → d < c
      inner y true j q i = let z : lands y ≡ d = cc in omega (arith, ltb-true (lands y) c q)
      inner y false j q i = let z : ◌≡◌ {A = ℕ} 0 1 = cc in absurd (omega arith)

      searched : (o : Option (List Move)) → fell_by F lands c (lowest_in F lands c l) o ≡ fell x d k → d < c
      searched none i = let z : ◌≡◌ {A = ℕ} 0 1 = cc in absurd (omega arith)
      searched (some ms) i =
          inner (climb_end F (lowest_in F lands c l) ms) (ltb (lands (climb_end F (lowest_in F lands c l) ms)) c)
          (length ms) refl i

      outer : (a b : Bool) (o : Option (List Move))
          → cond a (cond b (fell_by F lands c (lowest_in F lands c l) o) lost) done ≡ fell x d k → d < c
      outer true true o i = searched o i
      outer true false o i = let z : ◌≡◌ {A = ℕ} 0 1 = cc in absurd (omega arith)
      outer false b o i = let z : ◌≡◌ {A = ℕ} 0 1 = cc in absurd (omega arith)

module _ (T : ColourTable) (z : Place) (l : ℕ) where
  pub descend-lowest : (f : ℕ) → descend T f z l 0 ≡ some (descent 0 [])
  unfolding descend
  descend-lowest zero = refl
  descend-lowest (suc f) = refl

  pub descend-next : (f c : ℕ) (o : Next) → 0 < c → next_drop T c z l ≡ o
      → descend T (suc f) z l c ≡ after_next o c (λ x d. descend T f (some x) l d)
  unfolding descend
  descend-next f zero o h e = absurd (omega arith)
  descend-next f (suc c) o h e = ap (λ (o : Next). after_next o (suc c) (λ x d. descend T f (some x) l d)) e

-- ---- any count that is large enough gives the same

module _ (T : ColourTable) (l : ℕ) where
  same-lowest : (f g c : ℕ) (z : Place) → c ≡ 0 → descend T f z l c ≡ descend T g z l c
  same-lowest f g c z e = rw e (descend-lowest T z l f ∙ sym (descend-lowest T z l g))

  pub same_after : (o : Next) (c : ℕ) (on on' : ℕ → ℕ → Option Descent)
      → ((x d k : ℕ) → o ≡ fell x d k → on x d ≡ on' x d) → after_next o c on ≡ after_next o c on'
  same_after done c on on' h = refl
  same_after lost c on on' h = refl
  same_after (fell x d k) c on on' h = ap (with_search k) (h x d k refl)

  pub descend-same : (f g : ℕ) (z : Place) (c : ℕ) → c ≤ f → c ≤ g → descend T f z l c ≡ descend T g z l c
  descend-same zero g z c a b = same-lowest 0 g c z (omega arith)
  descend-same (suc f) zero z c a b = same-lowest (suc f) 0 c z (omega arith)
  descend-same (suc f) (suc g) z c a b =
      elim (ℕ_discrete c 0) [
        | yes e ↦ same-lowest (suc f) (suc g) c z e
        | no e ↦ descend-next T z l f c (next_drop T c z l) (omega arith) refl
            ∙ same_after (next_drop T c z l) c (λ x d. descend T f (some x) l d) (λ x d. descend T g (some x) l d)
            (λ x d k q.
            let i : d < c = fell-lower (T.forest c) (T.lands c) c (seen T c z) l x d k q in
            descend-same f g (some x) d (omega arith) (omega arith))
            ∙ sym (descend-next T z l g c (next_drop T c z l) (omega arith) refl)
      ]

-- ---- what is left of a path

pub sum-le : (b : ℕ) (xs : List ℕ) → AllLe b xs → sum xs ≤ length xs * b
sum-le b [] h = omega arith
sum-le b (x ∷ xs) h = omega (arith, h.0, sum-le b xs h.1)

pub all-le : (a b : ℕ) (xs : List ℕ) → a ≤ b → AllLe a xs → AllLe b xs
all-le a b [] l h = tt
all-le a b (x ∷ xs) l h = (omega (arith, h.0), all-le a b xs l h.1)

pub all_append : (b : ℕ) (xs ys : List ℕ) → AllLe b xs → AllLe b ys → AllLe b (xs ++ ys)
all_append b [] ys h k = k
all_append b (x ∷ xs) ys h k = (h.0, all_append b xs ys h.1 k)

module _ (t : Tree) where
  abbrev pub marks_by : (ℕ → Bool) → Place → ℕ
  marks_by m none = 0
  marks_by m (some z) = marks_at t m z

  -- the copy z is k places above l: for any marks, those k places have the marked nodes at l or above that are not at
  -- z or above
  abbrev pub Left : Place → ℕ → ℕ → Type 0
  Left z l k = (m : ℕ → Bool) → marks_at t m l ≡ marks_in t m l k + marks_by m z

  pub left-top : (l : ℕ) → Left none l (suc (depth t l))
  unfolding marks_at
  left-top l m = omega arith

  pub left-node : (l k z : ℕ) → l < size t → k ≤ depth t l → ancestor t l k ≡ z → Left (some z) l k
  left-node l k z h w e m =
      marks-at t m l k h w ∙ ap (λ (u : ℕ). marks_in t m l k + marks_at t m u) e

module _ (n : ℕ) (step : ℕ → ℕ → ℕ) (t : Tree) where
  abbrev T : ColourTable
  T = colour_table_of n step t

  seen-is : (c : ℕ) (z : Place) → seen T c z ≡ marks_by t (falls_at n step t c) z
  seen-is c none = refl
  seen-is c (some z) = sym (marks_at-is t (falls_at n step t c) z)

  lowest-is : (c l : ℕ) → lowest_of T c l ≡ lowest_at t (falls_at n step t c) l
  unfolding lowest_at
  lowest-is c l = refl

  pub record Descended (f : ℕ) (z : Place) (l k c : ℕ) : Type 0 where
    pub searches : List ℕ
    pub found : descend (colour_table_of n step t) f z l c ≡ some (descent (colour_down n step t l k c) searches)
    pub falls : length searches ≡ drops_down n step t l k c
    pub few : AllLe (3 * digits (height t)) searches

  module _ (keeps : (v q : ℕ) → q < n → step v q < n) where
    -- no place is left where the colour falls
    ended : (f : ℕ) (z : Place) (l k c : ℕ) → c < n → 0 < c → Left t z l k
        → marks_in t (falls_at n step t c) l k ≡ 0 → Descended (suc f) z l k c
    ended f z l k c h p w e =
        let m = falls_at n step t c in
        let s = colour-kept n step t keeps l k c h e in
        record {
          searches = [];
          found = descend-next T z l f c done p
              (next-done (T.forest c) (T.lands c) c (seen T c z) l
              (omega (arith, seen-is c z, seen-is c (some l), w m)))
              ∙ ap (λ (x : ℕ). some (descent x [])) (sym s.0);
          falls = sym s.1;
          few = tt;
        }

    -- one drop, and the rest
    dropped : (f : ℕ) (z : Place) (l k c : ℕ) → c < n → 0 < c → Left t z l k
        → (h : l < size t) (e : marks_at t (falls_at n step t c) l
        ≡ marks_in t (falls_at n step t c) l k + marks_by t (falls_at n step t c) z)
        (p : 0 < marks_in t (falls_at n step t c) l k)
        → ((i : ℕ) → i ≤ depth t l → lands_at n step t c (ancestor t l i) < c
        → Descended f (some (ancestor t l i)) l i (lands_at n step t c (ancestor t l i)))
        → Descended (suc f) z l k c
    dropped f z l k c b g w h e p rest =
        let m = falls_at n step t c in
        let to : ℕ = marks_by t m z in
        let N : NextMark t m l k to = next-mark t m l k to h e p in
        let x : ℕ = ancestor t l N.at in
        let lt : lands_at n step t c x < c = ltb-true (lands_at n step t c x) c N.marked in
        let R : Descended f (some x) l N.at (lands_at n step t c x) = rest N.at N.inside lt in
        let s = next-drop n step t keeps l k c N.at b N.within N.marked N.highest in
        let i : lowest_of T c l < size t = rw (lowest-is c l) (lowest-in t m l h (omega arith)) in
        let q : climb (T.forest c) (lowest_of T c l) (seen T c z) ≡ some N.moves =
        ap₂ (λ (y d : ℕ). climb (T.forest c) y d) (lowest-is c l) (seen-is c z) ∙ N.found in
        let r : climb_end (T.forest c) (lowest_of T c l) N.moves ≡ x =
        ap (λ (y : ℕ). climb_end (T.forest c) y N.moves) (lowest-is c l) ∙ N.ends in
        record {
          searches = length N.moves ∷ R.searches;
          found = descend-next T z l f c (fell x (lands_at n step t c x) (length N.moves)) g
              (next-fell (T.forest c) (T.lands c) c (seen T c z) l N.moves x
              (omega (arith, seen-is c z, seen-is c (some l))) i q r lt)
              ∙ ap (with_search (length N.moves)) R.found
              ∙ ap (λ (y : ℕ). some (descent y (length N.moves ∷ R.searches))) (sym s.0);
          falls = ap suc R.falls ∙ sym s.1;
          few = (next-mark-few t m l k to h e p, R.few);
        }

    -- the lowest colour never falls
    lowest : (f : ℕ) (z : Place) (l k : ℕ) → 0 < n → Descended f z l k 0
    lowest f z l k h =
        let e : 0 ≡ colour_down n step t l k 0 = omega (arith, colour-le n step t keeps l k 0 h) in
        record {
          searches = [];
          found = descend-lowest T z l f ∙ ap (λ (x : ℕ). some (descent x [])) e;
          falls = omega (arith, drops-le n step t keeps l k 0 h);
          few = tt;
        }

    pub descend-tree : (f : ℕ) (z : Place) (l k c : ℕ) → l < size t → c < n → c ≤ f → Left t z l k
        → Descended f z l k c
    descend-tree zero z l k c h b g w =
        subst (λ (x : ℕ). Descended 0 z l k x) (let e : 0 ≡ c = omega arith in e) (lowest 0 z l k (omega arith))
    descend-tree (suc f) z l k c h b g w =
        elim (ℕ_discrete c 0) [
          | yes e ↦ subst (λ (x : ℕ). Descended (suc f) z l k x) (sym e) (lowest (suc f) z l k (omega arith))
          | no e ↦ elim (ℕ_discrete (marks_in t (falls_at n step t c) l k) 0) [
            | yes i ↦ ended f z l k c b (omega arith) w i
            | no i ↦ dropped f z l k c b (omega arith) w h (w (falls_at n step t c)) (omega arith)
                (λ i j lt. descend-tree f (some (ancestor t l i)) l i (lands_at n step t c (ancestor t l i)) h
                (omega arith) (omega arith) (left-node t l i (ancestor t l i) h j refl))
          ]
        ]

    -- fewer drops than colours
    pub descent-drops : (f : ℕ) (z : Place) (l k c : ℕ) (D : Descended f z l k c) → c < n → length D.searches ≤ n - 1
    descent-drops f z l k c D b = omega (arith, D.falls, drops-le n step t keeps l k c b)
