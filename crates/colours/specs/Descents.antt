-- From drop to drop down a path, on any table of colours.
--
-- ColourTable == for each colour a forest (parent, jump and depth for each node) and, for each node, the colour it
--   lands on
-- Place == a copy: of a node (some z), or the top copy above the root (none)
-- seen T c z == the number of nodes at z or above where colour c falls, by the table
-- lowest_of T c l == the lowest of them at l or above
-- Next == what comes next on the way to l: no drop (done), a drop at a node to a lower colour found by some links
--   (fell), or nothing (lost): a search that would leave the nodes or not rise, or a colour that would not fall
-- next_from .. to l, next_drop T c z l == the next drop of colour c on the way from the copy z down to node l
-- Descent == the colour at the end, and for each drop the links of the search for it; drops d, links d == their
--   number and sum
-- descend T f z l c == from colour c in the copy z down to the copy of node l, in at most f drops, where f is c at
--   least; none (18) where one is lost. The lowest colour never falls: of its table nothing is read
-- colour_table_of n step t == the table of a tree's own colours
-- AllLe b xs == every number of xs is at most b
--
-- "A next drop is found by 01's jumps and climb among the nodes where that colour falls, depth being their number
-- above, from the lowest left on the path to the highest; the moves are the links".
use Rattle.std.specs.Prelude.{ℕ, zero, suc, ◌+◌, cond, List, [], ◌∷◌, ltb, length, ◌≤◌}
use Rattle.std.proofs.Math.Option.{Option, none, some}
use Rattle.trees.specs.Tree.{Tree}
use Rattle.trees.specs.Climb.{Forest, Move, climb, climb_end}
use Rattle.colours.specs.marks.Marks.{bit, marked_forest}
use Rattle.colours.specs.Copies.{lands_at, falls_at}

pub record ColourTable : Type 0 where
  pub forest : ℕ → Forest
  pub lands : ℕ → ℕ → ℕ

abbrev pub Place : Type 0
Place = Option ℕ

-- ---- the next drop

-- by one colour's forest F and what it lands on
abbrev pub seen_at : Forest → (ℕ → ℕ) → ℕ → ℕ → ℕ
seen_at F lands c v = bit (ltb (lands v) c) + F.depth v

abbrev pub lowest_in : Forest → (ℕ → ℕ) → ℕ → ℕ → ℕ
lowest_in F lands c l = cond (ltb (lands l) c) l (F.parent l)

pub data Next : Type 0 where
  done : Next
  lost : Next
  fell : ℕ → ℕ → ℕ → Next

-- at node x, found by k links
unfoldable pub fell_at : ℕ → (ℕ → ℕ) → ℕ → ℕ → Next
fell_at c lands x k = cond (ltb (lands x) c) (fell x (lands x) k) lost

unfoldable pub fell_by : Forest → (ℕ → ℕ) → ℕ → ℕ → Option (List Move) → Next
fell_by F lands c v none = lost
fell_by F lands c v (some ms) = fell_at c lands (climb_end F v ms) (length ms)

-- to the highest of those that are below the first `to` of them
unfoldable pub next_from : Forest → (ℕ → ℕ) → ℕ → ℕ → ℕ → Next
next_from F lands c to l =
    let searched = fell_by F lands c (lowest_in F lands c l) (climb F (lowest_in F lands c l) to) in
    cond (ltb to (seen_at F lands c l)) (cond (ltb (lowest_in F lands c l) F.nodes) searched lost) done

abbrev pub seen : ColourTable → ℕ → Place → ℕ
seen T c none = 0
seen T c (some z) = seen_at (T.forest c) (T.lands c) c z

abbrev pub lowest_of : ColourTable → ℕ → ℕ → ℕ
lowest_of T c l = lowest_in (T.forest c) (T.lands c) c l

abbrev pub next_drop : ColourTable → ℕ → Place → ℕ → Next
next_drop T c z l = next_from (T.forest c) (T.lands c) c (seen T c z) l

-- ---- from drop to drop

pub record Descent : Type 0 where
  pub colour : ℕ
  pub searches : List ℕ

abbrev pub descent : ℕ → List ℕ → Descent
descent c ls = record { colour = c; searches = ls }

abbrev pub sum : List ℕ → ℕ
sum [] = 0
sum (x ∷ xs) = x + sum xs

abbrev pub drops : Descent → ℕ
drops d = length d.searches

abbrev pub links : Descent → ℕ
links d = sum d.searches

abbrev pub with_search : ℕ → Option Descent → Option Descent
with_search k none = none
with_search k (some d) = some (descent d.colour (k ∷ d.searches))

-- with colour c, and the rest of the way by `on`
abbrev pub after_next : Next → ℕ → (ℕ → ℕ → Option Descent) → Option Descent
after_next done c on = some (descent c [])
after_next lost c on = none
after_next (fell x d k) c on = with_search k (on x d)

unfoldable pub descend : ColourTable → ℕ → Place → ℕ → ℕ → Option Descent
descend T zero z l c = some (descent c [])
descend T (suc f) z l zero = some (descent 0 [])
descend T (suc f) z l (suc c) = after_next (next_drop T (suc c) z l) (suc c) (λ x d. descend T f (some x) l d)

abbrev pub colour_table_of : ℕ → (ℕ → ℕ → ℕ) → Tree → ColourTable
colour_table_of n step t =
    record { forest = λ c. marked_forest t (falls_at n step t c); lands = λ c v. lands_at n step t c v }

abbrev pub AllLe : ℕ → List ℕ → Type 0
AllLe b [] = Unit {0}
AllLe b (x ∷ xs) = (x ≤ b) × AllLe b xs
