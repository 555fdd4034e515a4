-- How long a descent is on any table.
--     fell-few       the links of a search are at most the depth of its start
--     descend-few    a descent from colour c has at most c drops, each found by few links
use Prim.Native.Nat.{ℕ, zero, suc, ◌≤◌, ◌<◌}
use mathlib.Core.Path.{◌≡◌, refl, subst}
use mathlib.Core.Bool.{Bool, true, false, cond}
use mathlib.Core.List.{List, [], ◌∷◌}
use mathlib.Core.Option.{Option, none, some, some-injective}
use native.Mathlib.Omega.{arith}
use lib.Dec.{ltb}
use lib.ListN.{length}
use Rattle.trees.specs.Climb.{Forest, Move, climb, climb_end}
use Rattle.trees.proofs.MoveLaws.{none-some}
use Rattle.trees.proofs.ClimbLaws.{climb-most}
use Rattle.colours.specs.Descents.{ColourTable, Place, Next, done, lost, fell, lowest_in, seen_at, fell_at, fell_by}
use Rattle.colours.specs.Descents.{next_from}
use Rattle.colours.specs.Descents.{seen, next_drop, Descent, descent, with_search, after_next, descend}
use Rattle.colours.proofs.DescentLaws.{fell-lower}
use Rattle.colours.specs.Descents.{AllLe}

module _ (F : Forest) (lands : ℕ → ℕ) (c to l b : ℕ) (deep : (v : ℕ) → F.depth v ≤ b) (x d k : ℕ) where
  differ : done ≡ fell x d k → ◌≡◌ {A = ℕ} 0 1
  differ e = cc

  differ-lost : lost ≡ fell x d k → ◌≡◌ {A = ℕ} 0 1
  differ-lost e = cc

  same-links : (y e j : ℕ) → fell y e j ≡ fell x d k → j ≡ k
  same-links y e j q = cc

  by-climb : (v : ℕ) (o : Option (List Move)) → climb F v to ≡ o → fell_by F lands c v o ≡ fell x d k → k ≤ b
  unfolding fell_by fell_at
  by-climb v none e q = absurd (omega (arith, differ-lost q))
  by-climb v (some ms) e q = go (ltb (lands (climb_end F v ms)) c) q
    where
      go : (t : Bool) → cond t (fell (climb_end F v ms) (lands (climb_end F v ms)) (length ms)) lost ≡ fell x d k → k ≤ b
      go true i = omega (arith, same-links _ _ _ i, climb-most F v to ms e, deep v)
      go false i = absurd (omega (arith, differ-lost i))

  pub fell-few : next_from F lands c to l ≡ fell x d k → k ≤ b
  unfolding next_from
  fell-few e = go (ltb to (seen_at F lands c l)) (ltb (lowest_in F lands c l) F.nodes) e
    where
      go : (s i : Bool)
          → cond s (cond i (fell_by F lands c (lowest_in F lands c l) (climb F (lowest_in F lands c l) to)) lost) done
          ≡ fell x d k → k ≤ b
      go true true q = by-climb (lowest_in F lands c l) (climb F (lowest_in F lands c l) to) refl q
      go true false q = absurd (omega (arith, differ-lost q))
      go false i q = absurd (omega (arith, differ q))

pub record Short (b c : ℕ) (d : Descent) : Type 0 where
  pub falls : length d.searches ≤ c
  pub few : AllLe b d.searches

module _ (T : ColourTable) (b l : ℕ) (deep : (c v : ℕ) → (T.forest c).depth v ≤ b) where
  at_once : (c f : ℕ) (d : Descent) → some (descent c []) ≡ some d → Short b f d
  at_once c f d e = subst (Short b f) (some-injective (descent c []) d e) (record {
    falls = omega arith;
    few =
        tt;
  })

  pub descend-few : (f : ℕ) (z : Place) (c : ℕ) (d : Descent) → descend T f z l c ≡ some d → Short b c d
  unfolding descend
  descend-few zero z c d e = at_once c c d e
  descend-few (suc f) z zero d e = at_once 0 0 d e
  descend-few (suc f) z (suc c) d e = go (next_drop T (suc c) z l) refl e (descend-few f)
    where
      go : (o : Next) → next_drop T (suc c) z l ≡ o → after_next o (suc c) (λ x y. descend T f (some x) l y) ≡ some d
          → ((z : Place) (y : ℕ) (d : Descent) → descend T f z l y ≡ some d → Short b y d) → Short b (suc c) d
      go done q i ih = at_once (suc c) (suc c) d i
      go lost q i ih = absurd (none-some i)
      go (fell x y k) q i ih = rest (descend T f (some x) l y) refl i
        where
          low : y < suc c
          low = fell-lower (T.forest (suc c)) (T.lands (suc c)) (suc c) (seen T (suc c) z) l x y k q

          few : k ≤ b
          few = fell-few (T.forest (suc c)) (T.lands (suc c)) (suc c) (seen T (suc c) z) l b (deep (suc c)) x y k q

          rest : (o : Option Descent) → descend T f (some x) l y ≡ o → with_search k o ≡ some d → Short b (suc c) d
          rest none r j = absurd (none-some j)
          rest (some a) r j =
              let S : Short b y a = ih (some x) y a r in
              subst (Short b (suc c)) (some-injective (descent a.colour (k ∷ a.searches)) d j)
              (record { falls = omega (arith, S.falls, low); few = (few, S.few) })
