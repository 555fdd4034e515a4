-- The laws of the copies at a tree's nodes.
--     top-at, top-colour                    the top copy
--     copy-colouring, copy_above-colouring   each state has one colour
--     copy_above-root, copy_above-down        the copy above a node: the top copy, or its parent's
--     copy-recolour                         a copy from the one above
--     lands_at-state, lands_at-le a colour's state leads to the state of the colour it lands on, which is no higher
use Prim.Native.Nat.{ℕ, zero, suc, ◌+◌, ◌≤◌, ◌<◌}
use mathlib.Core.Path.{◌≡◌, refl, sym, ap, ◌∙◌}
use native.Mathlib.Omega.{arith}
use lib.ListN.{length, get_or}
use Rattle.list_laws.proofs.TestLaws.{at-distinct}
use Rattle.trees.specs.Tree.{Tree, size}
use Rattle.trees.specs.Numbering.{parent, depth}
use Rattle.list_laws.specs.Rows.{tabulate}
use Rattle.trees.proofs.NodeLaws.{up, depth-root}
use Rattle.list_laws.proofs.RowLaws.{length-tabulate, get_d_tabulate}
use Rattle.colours.specs.Colouring.{recolour, place_of, Colouring}
use Rattle.colours.specs.Copies.{top_copy, copy_in, copy, copy_above, lands_at}
use Rattle.colours.proofs.ColouringLaws.{place-of, recolour-colouring, lands-state, lands-le}

pub top-at : (n s : ℕ) → s < n → get_or (top_copy n) s 0 ≡ s
unfolding top_copy
top-at n s h = get_d_tabulate n (λ s. s) s h

pub top-colouring : (n : ℕ) → Colouring n (top_copy n)
unfolding top_copy
top-colouring n =
    let l : length (tabulate n (λ s. s)) ≡ n = length-tabulate n (λ s. s) in
    record {
      count = l;
      below = λ c h. omega (arith, get_d_tabulate n (λ s. s) c h);
      once = at-distinct (tabulate n (λ s. s)) (λ i j a b e. omega (
        arith,
        get_d_tabulate n (λ s. s) i (omega arith),
        get_d_tabulate n (λ s. s) j (omega arith),
      ));
    }

-- in the top copy each state has the colour of its own number
pub top-colour : (n s : ℕ) → s < n → place_of s (top_copy n) ≡ s
top-colour n s h =
    let C : Colouring n (top_copy n) = top-colouring n in
    ap (λ (q : ℕ). place_of q (top_copy n)) (sym (top-at n s h))
    ∙ place-of (top_copy n) s C.once (omega (arith, C.count))

module _ (n : ℕ) (step : ℕ → ℕ → ℕ) (t : Tree) where
  pub copy-recolour : (v : ℕ) → copy n step t v ≡ recolour (step v) (copy_above n step t v)
  unfolding copy copy_above copy_in
  copy-recolour v = refl

  pub copy_above-root : (v : ℕ) → v + 1 ≡ size t → copy_above n step t v ≡ top_copy n
  unfolding copy_above copy_in
  copy_above-root v e = rw (depth-root t v e)

  pub copy_above-down : (v : ℕ) → v + 1 < size t → copy_above n step t v ≡ copy n step t (parent t v)
  unfolding copy_above copy
  copy_above-down v h =
      let d : depth t v ≡ suc (depth t (parent t v)) = omega (arith, (up t v h).deeper) in
      ap (copy_in n step t (parent t v)) d

  module _ (keeps : (v q : ℕ) → q < n → step v q < n) where
    copy_in-colouring : (v k : ℕ) → Colouring n (copy_in n step t v k)
    unfolding copy_in
    copy_in-colouring v zero = top-colouring n
    copy_in-colouring v (suc k) =
        recolour-colouring n (step v) (copy_in n step t (parent t v) k) (keeps v) (copy_in-colouring (parent t v) k)

    pub copy-colouring : (v : ℕ) → Colouring n (copy n step t v)
    unfolding copy
    copy-colouring v = copy_in-colouring v (suc (depth t v))

    pub copy_above-colouring : (v : ℕ) → Colouring n (copy_above n step t v)
    unfolding copy_above
    copy_above-colouring v = copy_in-colouring (parent t v) (depth t v)

    pub lands_at-le : (c v : ℕ) → c < n → lands_at n step t c v ≤ c
    unfolding lands_at
    lands_at-le c v h = lands-le (step v) (copy_above n step t v) c (omega (arith, (copy_above-colouring v).count))

    pub lands_at-state : (c v : ℕ) → c < n
        → get_or (copy n step t v) (lands_at n step t c v) 0 ≡ step v (get_or (copy_above n step t v) c 0)
    unfolding lands_at
    lands_at-state c v h =
        rw (copy-recolour v)
        (lands-state (step v) (copy_above n step t v) c (omega (arith, (copy_above-colouring v).count)))
