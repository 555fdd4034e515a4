-- A list's last places (specs/inner/LastPlaces).
--     PlacesLoop, places-start, places-next, places-done   the loop of `put_places`
--     last-of-all   the first exit of `is_superseded`
use Prim.Native.Nat.{ℕ, ◌+◌, ◌%◌, ◌≤◌, ◌<◌}
use mathlib.Core.Path.{◌≡◌, sym, ap, ◌∙◌, subst}
use mathlib.Core.Bool.{false}
use mathlib.Core.List.{List}
use native.Mathlib.Decide.{ℕ_discrete}
use native.Mathlib.Omega.{arith}
use lib.ListN.{length, get_or, drop, set, length-set, length-drop}
use lib.Seq.{get_or-drop, get_or-set_same, get_or-set_other}
use Rattle.list_laws.specs.Tests.{holds}
use Rattle.list_laws.proofs.TestLaws.{never-holds}
use Rattle.changes.specs.inner.LastPlaces.{LastPlaces}

-- ---- the loop

pub record PlacesLoop (vs last : List ℕ) (i : ℕ) : Type 0 where
  pub most : length vs ≤ 64
  pub upto : i ≤ length vs
  pub places : LastPlaces i vs last

pub places-start : (vs last : List ℕ) → length vs ≤ 64 → length last ≡ 256 → PlacesLoop vs last 0
places-start vs last h w = record {
  most = h;
  upto = omega arith;
  places = record { wide = w; none_behind = λ j l. absurd (omega arith) };
}

module _ (vs last : List ℕ) (i : ℕ) (L : PlacesLoop vs last i) where
  -- of the remainder of the entry at place i it is the last; the others keep theirs
  next-behind : (j : ℕ) → j < i + 1 → j ≤ get_or (set last (get_or vs i 0 % 256) i) (get_or vs j 0 % 256) 0
  next-behind j h = elim (ℕ_discrete (get_or vs j 0 % 256) (get_or vs i 0 % 256)) [
    | yes e ↦ omega (
      arith,
      ap (λ (m : ℕ). get_or (set last (get_or vs i 0 % 256) i) m 0) e
          ∙ get_or-set_same last (get_or vs i 0 % 256) i 0 (omega (arith, L.places.wide)),
    )
    | no e ↦ elim (ℕ_discrete j i) [
      | yes q ↦ absurd (e (ap (λ (m : ℕ). get_or vs m 0 % 256) q))
      | no q ↦ omega (
        arith,
        get_or-set_other last (get_or vs i 0 % 256) (get_or vs j 0 % 256) i 0 e,
        L.places.none_behind j (omega arith),
      )
    ]
  ]

  pub places-next : i < length vs → PlacesLoop vs (set last (get_or vs i 0 % 256) i) (i + 1)
  places-next h = record {
    most = L.most;
    upto = omega arith;
    places = record {
      wide = length-set last (get_or vs i 0 % 256) i ∙ L.places.wide;
      none_behind = next-behind;
    };
  }

  pub places-done : length vs ≤ i → LastPlaces (length vs) vs last
  places-done h =
      let e : i ≡ length vs = omega (arith, L.upto) in subst (λ (n : ℕ). LastPlaces n vs last) e L.places

-- ---- one entry

-- the last of its remainder has no later entry: that one would be behind it
pub last-of-all : (vs last : List ℕ) (i : ℕ) → LastPlaces (length vs) vs last → get_or last (get_or vs i 0 % 256) 0 ≡ i
    → false ≡ holds (get_or vs i 0) (drop (i + 1) vs)
last-of-all vs last i P e =
    sym (never-holds (get_or vs i 0) (drop (i + 1) vs) (λ j h q.
    omega (
      arith,
      P.none_behind (i + 1 + j) (omega (arith, length-drop (i + 1) vs)),
      ap (λ (v : ℕ). get_or last (v % 256) 0) (sym (get_or-drop (i + 1) vs j 0) ∙ q),
      e,
    )))
