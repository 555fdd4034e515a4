-- Where no target state is found, on any tables.
--     TriesFail     a descent stops, a copy has no colour for a target state, or no set holds the state
--     tries-none    so
use Prim.Native.Nat.{ℕ, zero, suc, ◌+◌, ◌≤◌, ◌<◌}
use mathlib.Core.Path.{◌≡◌, refl, sym, ◌∙◌, subst}
use mathlib.Core.Bool.{Bool, true, false, cond}
use mathlib.Core.List.{List}
use mathlib.Core.Option.{Option, none, some, some-injective}
use native.Mathlib.Decide.{ℕ_discrete}
use native.Mathlib.Omega.{arith}
use lib.Dec.{ltb}
use lib.ListN.{length}
use borrow.Author.Tests.{ltb-true, ltb-false}
use Rattle.trees.specs.Climb.{and_then}
use Rattle.trees.proofs.MoveLaws.{none-some}
use Rattle.colours.specs.Descents.{ColourTable, Descent, descend}
use Rattle.colours.specs.StateSets.{member, Tried, tried, target_colour, set_at, after_trial, try_one, try_from}
use Rattle.colour_tables.specs.OutOfRange.{ColourOutOfRange}
use Rattle.colour_tables.proofs.RangeLaws.{descend-cause}

module _ (n k : ℕ) (T : ColourTable) (rows : ℕ → List ℕ) (c w q : ℕ) where
  -- the set that target state y leads down to does not hold q
  abbrev Fails : ℕ → Type 0
  Fails y = (d : Descent) → descend T (target_colour rows c y) (some c) w (target_colour rows c y) ≡ some d
      → member (set_at rows w d) q ≡ false

  pub data TriesFail (x f : ℕ) : Type 0 where
    stops : ColourOutOfRange n k T → TriesFail x f
    uncoloured : (y : ℕ) → x ≤ y → y < x + f → length (rows c) ≤ target_colour rows c y → TriesFail x f
    unheld_by : ((y : ℕ) → x ≤ y → y < x + f → (d : Descent)
        → descend T (target_colour rows c y) (some c) w (target_colour rows c y) ≡ some d → member (set_at rows w d) q
        ≡ false)
        → TriesFail x f

  more : (x f : ℕ) → Fails x → TriesFail (suc x) f → TriesFail x (suc f)
  more x f h (stops s) = stops s
  more x f h (uncoloured y a b l) = uncoloured y (omega arith) (omega arith) l
  more x f h (unheld_by g) = unheld_by (λ y a b. elim (ℕ_discrete x y) [
    | yes e ↦ subst Fails e h
    | no e ↦ g y (omega arith) (omega arith)
  ])

  later-none : (ls : List ℕ) (o : Option Tried) → after_trial ls o ≡ none → o ≡ none
  later-none ls none e = refl
  later-none ls (some r) e = absurd (none-some (sym e))

  module _ (sizes : (e : ℕ) → (T.forest e).nodes ≡ n) (hw : w < n) (few : length (rows c) ≤ k) where
    pub tries-none : (f x : ℕ) → try_from T rows c w q f x ≡ none → TriesFail x f
    unfolding try_from try_one
    tries-none zero x e = unheld_by (λ y a b. absurd (omega arith))
    tries-none (suc f) x e = go (ltb (target_colour rows c x) (length (rows c))) refl e (tries-none f (suc x))
      where
        later : Option Tried
        later = try_from T rows c w q f (suc x)

        by : (d : Descent) → descend T (target_colour rows c x) (some c) w (target_colour rows c x) ≡ some d
            → (b : Bool) → member (set_at rows w d) q ≡ b
            → cond b (some (tried x d.searches)) (after_trial d.searches later) ≡ none
            → (try_from T rows c w q f (suc x) ≡ none → TriesFail (suc x) f) → TriesFail x (suc f)
        by d g true m i ih = absurd (none-some (sym i))
        by d g false m i ih =
            more x f (λ y z. subst (λ (a : Descent). member (set_at rows w a) q ≡ false)
            (some-injective d y (sym g ∙ z)) m) (ih (later-none d.searches later i))

        ends : (o : Option Descent) → descend T (target_colour rows c x) (some c) w (target_colour rows c x) ≡ o
            → target_colour rows c x < length (rows c)
            → and_then o (λ d. cond (member (set_at rows w d) q) (some (tried x d.searches)) (after_trial d.searches
            later)) ≡ none
            → (try_from T rows c w q f (suc x) ≡ none → TriesFail (suc x) f) → TriesFail x (suc f)
        ends none g l i ih =
            stops (descend-cause n k T sizes w hw (target_colour rows c x) (some c) (target_colour rows c x) (omega
            (arith, l, few)) g)
        ends (some d) g l i ih = by d g (member (set_at rows w d) q) refl i ih

        go : (b : Bool) → ltb (target_colour rows c x) (length (rows c)) ≡ b
            → cond b (and_then (descend T (target_colour rows c x) (some c) w (target_colour rows c x)) (λ d.
            cond (member (set_at rows w d) q) (some (tried x d.searches)) (after_trial d.searches later))) none
            ≡ none
            → (try_from T rows c w q f (suc x) ≡ none → TriesFail (suc x) f) → TriesFail x (suc f)
        go true t i ih =
            ends (descend T (target_colour rows c x) (some c) w (target_colour rows c x)) refl
            (ltb-true (target_colour rows c x) (length (rows c)) t) i ih
        go false t i ih =
            uncoloured x (omega arith) (omega arith) (ltb-false (target_colour rows c x) (length (rows c)) t)
