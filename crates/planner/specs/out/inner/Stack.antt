-- The stack of the loop that writes places, as it is in the plan's buffer, and the contracts of its functions.
--
-- entry_at p i == entry i: number in two bytes, siblings to come, 1 for the first of a list
-- stack_of p d == the first d entries, the last of them on top
-- goes_further p d closing == whether the top is to be written; after_top p d == how many siblings come after the top
-- node_on_top p i, is_later p i == the node of entry i; whether it is not the first of its list
-- after_leaf closing next == the place behind the leaf that ends a list
-- CloseArgs, ListsClosed; NodeArgs, NodeRead; PlaceArgs, NodesPlaced == what a function needs, and what it has done, by
--   the definition of the loop: the same items are still to be written, to the same places
use Rattle.std.specs.Prelude.{ℕ, zero, suc, ◌+◌, ◌-◌, ◌*◌, ◌≤◌, ◌<◌, ◌≡◌, Bool, true, false, cond, not, List, [], ◌∷◌, eqb, length, get_or}
use Rattle.std.proofs.Math.Option.{Option}
use Rattle.planner.specs.inner.OutMachine.{Entry, entry, to_come, closed, outward, Written, placed}

abbrev pub node_on_top : List ℕ → ℕ → ℕ
node_on_top p i = get_or p (i * 4) 0 + 256 * get_or p (i * 4 + 1) 0

abbrev pub is_later : List ℕ → ℕ → Bool
is_later p i = not (eqb (get_or p (i * 4 + 3) 0) 1)

abbrev pub entry_at : List ℕ → ℕ → Entry
entry_at p i = entry (node_on_top p i) (get_or p (i * 4 + 2) 0) (eqb (get_or p (i * 4 + 3) 0) 1)

unfoldable pub stack_of : List ℕ → ℕ → List Entry
stack_of p zero = []
stack_of p (suc i) = entry_at p i ∷ stack_of p i

abbrev pub after_top : List ℕ → ℕ → ℕ
after_top p zero = 0
after_top p (suc i) = get_or p (i * 4 + 2) 0

abbrev pub goes_further : List ℕ → ℕ → Bool → Bool
goes_further p zero closing = false
goes_further p (suc i) true = true
goes_further p (suc i) false = eqb (get_or p (i * 4 + 2) 0) 0

abbrev pub after_leaf : Bool → ℕ → ℕ
after_leaf true next = next
after_leaf false next = next + 1

pub record PushArgs (p : List ℕ) (depth v : ℕ) : Type 0 where
  pub room : depth * 4 + 4 ≤ length p
  pub small : v < 65536

pub record Pushed (depth v after first : ℕ) (p q : List ℕ) : Type 0 where
  pub stack : stack_of q (depth + 1) ≡ entry v after (eqb first 1) ∷ stack_of p depth
  pub same : length q ≡ length p
  pub kept : (j : ℕ) → depth * 4 + 4 ≤ j → get_or q j 0 ≡ get_or p j 0

-- with a continuation for which all the places fit 16 bits
pub record CloseArgs (p ps : List ℕ) (depth next : ℕ) : Type 0 where
  pub room : depth * 4 ≤ length p
  pub then : List Entry → List (Option ℕ)
  pub fits : (placed (closed then (stack_of p depth) false) next ps).items ≤ 65535

pub record ListsClosed (p : List ℕ) (depth next : ℕ) (ps : List ℕ) (depth₁ next₁ : ℕ) (ps₁ : List ℕ) : Type 0 where
  pub rest : (k : List Entry → List (Option ℕ))
      → placed (k (stack_of p depth₁)) next₁ ps₁ ≡ placed (closed k (stack_of p depth) false) next ps
  pub lower : depth₁ ≤ depth
  pub same : length ps₁ ≡ length ps

pub record NodeArgs (p ps : List ℕ) (v c depth next left first : ℕ) : Type 0 where
  pub room : depth * 4 + 4 ≤ length p
  pub small : v < 65536
  pub counts : List ℕ
  pub fits : (placed (outward (c ∷ counts) v left (eqb first 1) (stack_of p depth)) next ps).items ≤ 65535

pub record NodeRead (v c depth next left first : ℕ) (p ps : List ℕ) (depth₁ next₁ left₁ first₁ : ℕ)
    (q qs : List ℕ) : Type 0 where
  pub rest : (cs : List ℕ)
      → placed (outward cs (v + 1) left₁ (eqb first₁ 1) (stack_of q depth₁)) next₁ qs
      ≡ placed (outward (c ∷ cs) v left (eqb first 1) (stack_of p depth)) next ps
  pub deeper : depth₁ ≤ depth + 1
  pub same : length q ≡ length p
  pub kept : (j : ℕ) → depth * 4 + 4 ≤ j → get_or q j 0 ≡ get_or p j 0
  pub same_places : length qs ≡ length ps

pub record PlaceArgs (cs p ps : List ℕ) : Type 0 where
  pub small : length cs ≤ 32767
  pub room : length cs * 4 ≤ length p
  pub fits : (placed (outward cs 0 1 true []) 0 ps).items ≤ 65535

pub record NodesPlaced (cs p ps q qs : List ℕ) : Type 0 where
  pub places : qs ≡ (placed (outward cs 0 1 true []) 0 ps).places
  pub same : length q ≡ length p
  pub kept : (j : ℕ) → length cs * 4 ≤ j → get_or q j 0 ≡ get_or p j 0
