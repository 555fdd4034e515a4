-- The list of changes, as the loop writes it.
--
-- nodes_to f g v, labels_to f g v == the changes from labels f to labels g at the nodes below v
-- ChangePut a b c v .. == entry c is the change of node v to b where a and b differ; else nothing is altered.
--   ChangeArgs == what it needs
-- Listed f g v before .. == the buffers begin with these changes, and c is their number
-- ListArgs ls W s m n == what the loop needs; m and n are the lengths of the buffers
use Rattle.std.specs.Prelude.{ℕ, ◌+◌, ◌*◌, ◌≤◌, ◌<◌, ◌≡◌, List, ◌++◌, length, get_or, set, drop}
use Rattle.list_laws.specs.Rows.{tabulate}
use Rattle.fewest.specs.Relabelling.{changed_nodes, changed_labels}
use Rattle.fewest.specs.inner.passes.Cells.{size_cell}

unfoldable pub nodes_to : (ℕ → ℕ) → (ℕ → ℕ) → ℕ → List ℕ
nodes_to f g v = changed_nodes 0 (tabulate v f) (tabulate v g)

unfoldable pub labels_to : (ℕ → ℕ) → (ℕ → ℕ) → ℕ → List ℕ
labels_to f g v = changed_labels (tabulate v f) (tabulate v g)

pub record ChangeArgs (m n c v a b : ℕ) : Type 0 where
  pub node_low : v < 65536
  pub label_low : b < 256
  pub nodes_room : (a ≡ b → ⊥) → c < m
  pub labels_room : (a ≡ b → ⊥) → c < n

pub record ChangePut (a b c v : ℕ) (nodes out : List ℕ) (r : ℕ) (nodes' out' : List ℕ) : Type 0 where
  pub same : a ≡ b → (r ≡ c) × (nodes' ≡ nodes) × (out' ≡ out)
  pub other : (a ≡ b → ⊥) → (r ≡ c + 1) × (nodes' ≡ set nodes c v) × (out' ≡ set out c b)

pub record Listed (f g : ℕ → ℕ) (v : ℕ) (nodes out : List ℕ) (c : ℕ) (nodes' out' : List ℕ) : Type 0 where
  pub count : c ≡ length (nodes_to f g v)
  pub nodes_are : nodes' ≡ nodes_to f g v ++ drop c nodes
  pub labels_are : out' ≡ labels_to f g v ++ drop c out

pub record ListArgs (ls W : List ℕ) (s m n : ℕ) : Type 0 where
  pub few : s ≤ 16
  pub most : length ls ≤ 65535
  pub room : length ls * (s + 1) ≤ length W
  pub labels_low : (v : ℕ) → v < length ls → size_cell s W v < 256
  pub nodes_room : length (nodes_to (λ v. get_or ls v 0) (size_cell s W) (length ls)) ≤ m
  pub labels_room : length (nodes_to (λ v. get_or ls v 0) (size_cell s W) (length ls)) ≤ n
