-- What was found, as the code has it.
--     trial-none, trial-some      from the code's answer back
--     untried-no, untried-yes     a number read as a state
--     untried-few, targets-few    bounds
--     leaf-outside, leaf-at, leaf-few   the part of a leaf
use Prim.Native.Nat.{ℕ, ◌*◌, ◌≤◌, ◌<◌}
use mathlib.Core.Path.{◌≡◌, refl, sym, ap, subst}
use mathlib.Core.Bool.{Bool, true, false, cond}
use mathlib.Core.List.{List}
use mathlib.Core.Option.{Option, none, some}
use native.Mathlib.Omega.{arith}
use lib.Dec.{ltb}
use lib.ListN.{length, get_or}
use borrow.Author.Tests.{lt-ltb, le-ltb}
use Rattle.std.specs.Prelude.{Option as Given, Some, None}
use Rattle.tables.specs.Climbs.{below}
use Rattle.tables.proofs.LookupLaws.{below-yes, below-no, below-state}
use Rattle.colours.specs.Descents.{ColourTable, sum}
use Rattle.colours.specs.StateSets.{Tried}
use Rattle.colour_questions.specs.declared.target_states.trials.Trial.{Trial}
use Rattle.colour_questions.specs.target_states.Trials.{trial, trial_of, FewIn, TargetsDone}
use Rattle.colour_questions.specs.parts.Part.{untried, leaf_tried}
use Rattle.colour_questions.specs.parts.inner.Args.{Untried}

pub trial-none : (o : Option Tried) → None ≡ trial_of o → o ≡ none
unfolding trial_of
trial-none none e = refl
trial-none (some x) e = let z : ◌≡◌ {A = ℕ} 0 1 = cc in absurd (omega arith)

pub record Is (o : Option Tried) (q drops links : ℕ) : Type 0 where
  pub found : Tried
  pub is : o ≡ some found
  pub state : q ≡ found.state
  pub number : drops ≡ length found.searches
  pub total : links ≡ sum found.searches

pub trial-some : (o : Option Tried) (q drops links : ℕ) → Some (trial q drops links) ≡ trial_of o → Is o q drops links
unfolding trial_of
trial-some none q drops links e = let z : ◌≡◌ {A = ℕ} 0 1 = cc in absurd (omega arith)
trial-some (some x) q drops links e =
    let y : trial q drops links ≡ trial x.state (length x.searches) (sum x.searches) = cc in
    let a : q ≡ x.state = ap (λ t. t.state) y in
    let b : drops ≡ length x.searches = ap (λ t. t.drops) y in
    let c : links ≡ sum x.searches = ap (λ t. t.links) y in
    record { found = x; is = refl; state = a; number = b; total = c }

-- ---- a number read as a state

module _ (s q : ℕ) where
  pub untried-no : s ≤ q → None ≡ trial_of (untried (below s q))
  unfolding trial_of
  untried-no h = ap (λ (o : Option ℕ). trial_of (untried o)) (sym (below-no s q h))

  pub untried-yes : q < s → Some (trial q 0 0) ≡ trial_of (untried (below s q))
  unfolding trial_of
  untried-yes h = ap (λ (o : Option ℕ). trial_of (untried o)) (sym (below-yes s q h))

-- ---- bounds

pub record Still (s : ℕ) (r : Given Trial) : Type 0 where
  pub all : FewIn s 60 r
  pub none-fell : Untried r

pub untried-few : (s q : ℕ) (r : Given Trial) → r ≡ trial_of (untried (below s q)) → Still s r
unfolding trial_of
untried-few s q r e = go (below s q) refl e
  where
    go : (o : Option ℕ) → below s q ≡ o → r ≡ trial_of (untried o) → Still s r
    go none b i = subst (Still s) (sym i) (record { all = tt; none-fell = tt })
    go (some x) b i =
        let w = below-state s q x b in
        subst (Still s) (sym i)
        (record {
          all = record { state = omega (arith, w.0, w.1); falls = omega arith; few = omega arith };
          none-fell = refl;
        })

fewer : (s a b : ℕ) (r : Given Trial) → a ≤ b → FewIn s a r → FewIn s b r
fewer s a b None h B = tt
fewer s a b (Some t) h B = record { state = B.state; falls = omega (arith, B.falls); few = B.few }

pub targets-few : (s : ℕ) (T : ColourTable) (rows : ℕ → List ℕ) (c w q : ℕ) (r : Given Trial) → s ≤ 4
    → TargetsDone s T rows c w q r → FewIn s 60 r
targets-few s T rows c w q r h D = fewer s (s * 15) 60 r (omega arith) D.bounds

-- ---- leaves

module _ (s k : ℕ) (lv : List ℕ) (a : ℕ) where
  pub leaf-outside : k ≤ a → None ≡ trial_of (leaf_tried s k lv a)
  unfolding leaf_tried trial_of
  leaf-outside h = rw (le-ltb a k h)

  pub leaf-at : a < k → trial_of (untried (below s (get_or lv a 0))) ≡ trial_of (leaf_tried s k lv a)
  unfolding leaf_tried
  leaf-at h = rw (lt-ltb a k h)

  pub leaf-few : (r : Given Trial) → r ≡ trial_of (leaf_tried s k lv a) → FewIn s 60 r
  unfolding leaf_tried trial_of
  leaf-few r = go (ltb a k)
    where
      go : (b : Bool) → r ≡ trial_of (cond b (untried (below s (get_or lv a 0))) none) → FewIn s 60 r
      go true e = (untried-few s (get_or lv a 0) r e).all
      go false e = subst (FewIn s 60) (sym e) tt
