-- The nodes of `differing` as the code finds them: in the order of their last entries.
--
-- is_left ls v b vs == whether an entry, v to b, counts, where the nodes vs are listed after it: it is the last for its
--   node, and gives it another label than ls
-- last_differing ls vs bs == the nodes of the entries that count, as listed
-- given_differing ls vs bs == these where the two lists pass 12; none where they do not
-- left_within n xs == the first n numbers of an array; left_nodes xs == the numbers xs, at most 64, in an array of 64
-- pushed t v == one node more; kept_in ls t vs bs == what `differing` still makes of t on its way
-- DifferingDone ls vs bs r == the promise of `differing`, on every input
use Rattle.std.specs.Prelude.{ℕ, ◌+◌, ◌≤◌, ◌<◌, ◌≡◌, Bool, true, cond, not, ◌&&◌, List, [], ◌∷◌, eqb, length, get_or, take, set}
use Rattle.list_laws.specs.Tests.{holds}
use Rattle.formats.specs.Limits.{change_limit}
use Rattle.formats.specs.inner.InnerChecks.{lists_fit}
use Rattle.changes.specs.LayOver.{padded}
use Rattle.changes.specs.Differing.{differing}
use Rattle.changes.specs.inner.LastPlaces.{PlaceArgs}
use Rattle.changes.specs.declared.differing.LeftNodes.{LeftNodes}

abbrev pub is_left : List ℕ → ℕ → ℕ → List ℕ → Bool
is_left ls v b vs = not (holds v vs) && not (eqb b (get_or ls v 0))

unfoldable pub last_differing : List ℕ → List ℕ → List ℕ → List ℕ
last_differing ls [] bs = []
last_differing ls (v ∷ vs) [] = []
last_differing ls (v ∷ vs) (b ∷ bs) = cond (is_left ls v b vs) (v ∷ last_differing ls vs bs) (last_differing ls vs bs)

abbrev pub given_differing : List ℕ → List ℕ → List ℕ → List ℕ
given_differing ls vs bs = cond (lists_fit vs bs) (last_differing ls vs bs) []

abbrev pub left_within : ℕ → List ℕ → LeftNodes
left_within n xs = record { count = n; nodes = xs }

abbrev pub left_nodes : List ℕ → LeftNodes
left_nodes xs = record { count = length xs; nodes = padded xs }

abbrev pub pushed : LeftNodes → ℕ → LeftNodes
pushed t v = record { count = t.count + 1; nodes = set t.nodes t.count v }

unfoldable pub kept_in : List ℕ → LeftNodes → List ℕ → List ℕ → LeftNodes
kept_in ls t [] bs = t
kept_in ls t (v ∷ vs) [] = t
kept_in ls t (v ∷ vs) (b ∷ bs) = kept_in ls (cond (is_left ls v b vs) (pushed t v) t) vs bs

-- there is room for one node more, and place i is inside both lists
pub record KeepArgs (t : LeftNodes) (vs bs last : List ℕ) (i : ℕ) : Type 0 where
  pub wide : length t.nodes ≡ change_limit
  pub room : t.count < change_limit
  pub place : PlaceArgs vs last i
  pub one_length : length vs ≡ length bs

pub record DifferingDone (ls vs bs : List ℕ) (r : LeftNodes) : Type 0 where
  -- on every input: these nodes, then zeros
  pub result : r ≡ left_nodes (given_differing ls vs bs)
  pub few : r.count ≤ change_limit
  -- where the lists pass 12: exactly the nodes that are left in W
  pub same : lists_fit vs bs ≡ true → (v : ℕ) → holds v (take r.count r.nodes) ≡ holds v (differing ls vs bs)
