-- One step down over sets of states.
--     down-root, down-successors   the row itself at the root, and the preimages below it
--     image-args            what the preimages need
--     set_of-ext             a set by its members
use Prim.Native.Nat.{ℕ, zero, suc, ◌+◌, ◌≤◌, ◌<◌}
use mathlib.Core.Path.{◌≡◌, refl, sym, ap, ◌∙◌}
use mathlib.Core.Bool.{Bool, cond}
use mathlib.Core.List.{List, [], ◌∷◌}
use native.Mathlib.Omega.{arith}
use lib.ListN.{length, get_or, take}
use lib.Seq.{length-take-le, get_or-take}
use borrow.Author.Tests.{eq-eqb, ne_eqb}
use Rattle.list_laws.proofs.Choice.{le-or}
use Rattle.tables.specs.inner.Maps.{near_value}
use Rattle.colours.specs.StateSets.{set_of, member}
use Rattle.colour_tables.specs.states.inner.Rows.{RowOf}
use Rattle.colour_tables.specs.sets.Sets.{ImageArgs, SuccessorsBy}
use Rattle.colour_tables.specs.set_states.StatesAbove.{StatesAboveTo}
use Rattle.colour_tables.specs.set_states.Down.{down_set, DownArgs}

pub set_of-ext : (n : ℕ) (p q : ℕ → Bool) → ((x : ℕ) → x < n → p x ≡ q x) → set_of n p ≡ set_of n q
unfolding set_of
set_of-ext zero p q e = refl
set_of-ext (suc n) p q e = rw (e n (omega arith), set_of-ext n p q (λ x h. e x (omega arith)))

-- past its end a list has 0
past : (l : List ℕ) (x : ℕ) → length l ≤ x → get_or l x 0 ≡ 0
past [] x h = refl
past (y ∷ l) zero h = absurd (omega arith)
past (y ∷ l) (suc x) h = past l x (omega arith)

module _ (row ls b inn st : List ℕ) (n s k count v : ℕ) (A : DownArgs row ls b inn st n s k count v) where
  pub down-root : v + 1 ≡ n → RowOf count (λ c. down_set ls b inn st n s k v (get_or row c 0)) row
  unfolding down_set
  down-root e = record { long = A.long; cells = λ c h. sym (rw (eq-eqb (v + 1) n e)) }

  module _ (e : v + 1 ≡ n → ⊥) (above : List ℕ) (U : StatesAboveTo s (near_value ls b inn s k st v) above) where
    few : s ≤ 4
    few = (A.above e).few

    pub count_is : length (take s above) ≡ s
    count_is = length-take-le s above (omega (arith, U.long, few))

    up_is : (x : ℕ) → x < s → get_or (take s above) x 0 ≡ near_value ls b inn s k st v x
    up_is x h = get_or-take s above x 0 h ∙ U.cells x h

    near_below : (x : ℕ) → near_value ls b inn s k st v x < s
    unfolding near_value
    near_below x = A.inner_below _

    pub image-args : ImageArgs (take s above) × (count ≤ 16)
    image-args = (
      record {
        few = omega (arith, count_is, few);
        below = λ x. le-or s x
            (λ h. (let z : get_or (take s above) x 0 ≡ 0 = past (take s above) x (omega (arith, count_is)) in omega arith))
            (λ h. omega (arith, up_is x h, near_below x, few));
      },
      A.few,
    )

    pub down-successors : (successors : List ℕ) → SuccessorsBy (take s above) row count successors
        → RowOf count (λ c. down_set ls b inn st n s k v (get_or row c 0)) successors
    unfolding down_set
    down-successors successors L = record {
      long = L.long;
      cells = λ c h. L.cells c h
          ∙ ap (λ (m : ℕ). set_of m (λ x. member (get_or row c 0) (get_or (take s above) x 0))) count_is
          ∙ set_of-ext s (λ x. member (get_or row c 0) (get_or (take s above) x 0))
          (λ x. member (get_or row c 0) (near_value ls b inn s k st v x)) (λ x i. ap (member (get_or row c 0)) (up_is x i))
          ∙ sym
          (ap (λ (t : Bool). cond t (get_or row c 0)
          (set_of s (λ x. member (get_or row c 0) (near_value ls b inn s k st v x))))
          (ne_eqb (v + 1) n e));
    }
