-- The copies of the states at the nodes of a tree, and what becomes of a colour on the way down.
--
-- n == the number of states; step v q == the state at node v that state q of the copy above v leads to
-- copy_in n step t v k == v's copy where k steps lead to it from the top copy
-- copy .. v == the copy of node v; copy_above .. v == the one above it: its parent's, or the top copy above the root
-- lands_at .. c v == the colour at v of the state that colour c's state above leads to
-- falls_at .. c v == whether colour c falls at v: a lower colour has that state
-- state_down step t l k q == the state at l that state q leads to from k places above
-- colour_down .. l k c == the colour at l that colour c leads to from k places above
-- drops_down .. l k c == document 02's drops: the places on that way where the colour falls
--
-- For sets of states the top copy is the root's own: their step into the root's copy changes nothing (StateSets).
use Rattle.std.specs.Prelude.{ℕ, zero, suc, ◌+◌, Bool, List, ltb}
use Rattle.trees.specs.Tree.{Tree}
use Rattle.trees.specs.Numbering.{parent, depth}
use Rattle.list_laws.specs.Rows.{tabulate}
use Rattle.colours.specs.marks.Marks.{bit}
use Rattle.colours.specs.Colouring.{recolour, lands}

-- "In the top copy .. state s has colour s+1."
unfoldable pub top_copy : ℕ → List ℕ
top_copy n = tabulate n (λ s. s)

unfoldable pub copy_in : ℕ → (ℕ → ℕ → ℕ) → Tree → ℕ → ℕ → List ℕ
copy_in n step t v zero = top_copy n
copy_in n step t v (suc k) = recolour (step v) (copy_in n step t (parent t v) k)

unfoldable pub copy : ℕ → (ℕ → ℕ → ℕ) → Tree → ℕ → List ℕ
copy n step t v = copy_in n step t v (suc (depth t v))

unfoldable pub copy_above : ℕ → (ℕ → ℕ → ℕ) → Tree → ℕ → List ℕ
copy_above n step t v = copy_in n step t (parent t v) (depth t v)

unfoldable pub lands_at : ℕ → (ℕ → ℕ → ℕ) → Tree → ℕ → ℕ → ℕ
lands_at n step t c v = lands (step v) (copy_above n step t v) c

abbrev pub falls_at : ℕ → (ℕ → ℕ → ℕ) → Tree → ℕ → ℕ → Bool
falls_at n step t c v = ltb (lands_at n step t c v) c

unfoldable pub state_down : (ℕ → ℕ → ℕ) → Tree → ℕ → ℕ → ℕ → ℕ
state_down step t l zero q = q
state_down step t l (suc k) q = step l (state_down step t (parent t l) k q)

unfoldable pub colour_down : ℕ → (ℕ → ℕ → ℕ) → Tree → ℕ → ℕ → ℕ → ℕ
colour_down n step t l zero c = c
colour_down n step t l (suc k) c = lands_at n step t (colour_down n step t (parent t l) k c) l

-- "its drops, the places on the path where the colour falls"
unfoldable pub drops_down : ℕ → (ℕ → ℕ → ℕ) → Tree → ℕ → ℕ → ℕ → ℕ
drops_down n step t l zero c = 0
drops_down n step t l (suc k) c =
    bit (falls_at n step t (colour_down n step t (parent t l) k c) l) + drops_down n step t (parent t l) k c
