-- The loop from our plan to a planner's file, as a definition: it reads the plan from the right, with one stack, and
-- writes the file from the right (document 02, S-2).
--
-- Held == a node that is read and not yet written: its label, its child count once known, and whether it is the first
--   of its list
-- HomeState == the stack, and the labels and counts written
-- released st ls cs == the top is written, and with the first of a list the node above it, whose list that is
-- with_count i c st == entry i from the top has c children
-- node_item a k == what the loop reads of a node of label a and kind k; read_back ls ks v == of the nodes v - 1 to 0 of
--   these labels and kinds
-- homeward xs k st ls cs == the state at the end. xs: our plan's nodes still to read, from the right, none for a leaf
--   and some a for an inner node of label a; k: how many nodes of the list that is being read are read
--
-- Entries and what is written are never more than n together, so the stack is at the low end of the output and what is
-- written at its high end.
use Rattle.std.specs.Prelude.{ℕ, zero, suc, Bool, true, false, cond, List, [], ◌∷◌, get_or}
use Rattle.std.proofs.Math.Option.{Option, none, some}

pub record Waiting : Type 0 where
  pub label : ℕ
  pub children : ℕ
  pub is_first : Bool

abbrev pub waiting : ℕ → ℕ → Bool → Waiting
waiting a c b = record { label = a; children = c; is_first = b }

pub record HomeState : Type 0 where
  pub stack : List Waiting
  pub labels : List ℕ
  pub counts : List ℕ

abbrev pub home_state : List Waiting → List ℕ → List ℕ → HomeState
home_state st ls cs = record { stack = st; labels = ls; counts = cs }

abbrev pub released : List Waiting → List ℕ → List ℕ → HomeState
released [] ls cs = home_state [] ls cs
released (h ∷ st) ls cs =
    cond h.is_first (released st (h.label ∷ ls) (h.children ∷ cs)) (home_state st (h.label ∷ ls) (h.children ∷ cs))

abbrev pub with_count : ℕ → ℕ → List Waiting → List Waiting
with_count i c [] = []
with_count zero c (h ∷ st) = waiting h.label c h.is_first ∷ st
with_count (suc i) c (h ∷ st) = h ∷ with_count i c st

abbrev pub homeward : List (Option ℕ) → ℕ → List Waiting → List ℕ → List ℕ → HomeState
homeward [] k st ls cs = home_state st ls cs
homeward (none ∷ xs) zero st ls cs =
    let T = released st ls cs in homeward xs 0 T.stack T.labels T.counts
homeward (none ∷ xs) (suc k) st ls cs = homeward xs 0 (with_count (suc k) (suc k) st) ls cs
homeward (some a ∷ xs) zero st ls cs = homeward xs 1 (waiting a 0 true ∷ st) ls cs
homeward (some a ∷ xs) (suc k) st ls cs = homeward xs (suc (suc k)) (waiting a 0 false ∷ st) ls cs

abbrev pub node_item : ℕ → ℕ → Option ℕ
node_item a zero = none
node_item a (suc k) = some a

abbrev pub read_back : List ℕ → List ℕ → ℕ → List (Option ℕ)
read_back ls ks zero = []
read_back ls ks (suc v) = node_item (get_or ls v 0) (get_or ks v 0) ∷ read_back ls ks v
