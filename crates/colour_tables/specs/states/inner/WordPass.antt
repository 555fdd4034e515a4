-- The pass for words, as the code has it.
--
-- LedArgs row steps s k a == what the steps of a row's states by label a need
-- step_by st k t v q == the state after state q reads the label of node v of t, by the steps st of k labels
-- WordGiven ls numbers t == labels ls and the parents in the first table are those of tree t
-- WordsFrom s k st t i .. == the nodes from i on have their copies, from byte 0 on, and their colours' landings
-- WordArgs ls st s k numbers bytes == what the pass needs: a tree, states and labels within their limits, and room
use Rattle.std.specs.Prelude.{ℕ, ◌+◌, ◌*◌, ◌≤◌, ◌<◌, ◌≡◌, List, length, get_or}
use Rattle.trees.specs.Tree.{Tree, size, labels_of, label_at}
use Rattle.trees.specs.Numbering.{parent}
use Rattle.tables.specs.node_tables.Cells.{parent_cell}
use Rattle.colour_tables.specs.states.Written.{CopiesFrom}

pub record LedArgs (row steps : List ℕ) (s k a : ℕ) : Type 0 where
  pub few : s ≤ 16
  pub labels : k ≤ 64
  pub label : a < k
  pub inside : (c : ℕ) → c < s → get_or row c 0 * k + a < length steps

abbrev pub step_by : List ℕ → ℕ → Tree → ℕ → ℕ → ℕ
step_by st k t v q = get_or st (q * k + label_at t v) 0

pub record WordGiven (ls numbers : List ℕ) (t : Tree) : Type 0 where
  pub labels : labels_of t ≡ ls
  pub parents : (v : ℕ) → v + 1 < size t → parent_cell numbers v ≡ parent t v

abbrev pub WordsFrom : ℕ → ℕ → List ℕ → Tree → ℕ → List ℕ → List ℕ → List ℕ → List ℕ → Type 0
WordsFrom s k st t i bytes numbers bytes' numbers' =
    CopiesFrom s (step_by st k t) t 0 i bytes numbers bytes' numbers'

pub record WordArgs (ls st : List ℕ) (s k : ℕ) (numbers bytes : List ℕ) : Type 0 where
  pub tree : Tree
  pub given : WordGiven ls numbers tree
  pub most : length ls ≤ 65535
  pub few : s ≤ 16
  pub label_most : k ≤ 64
  pub below : (j : ℕ) → get_or ls j 0 < k
  pub steps_room : s * k ≤ length st
  pub step_below : (j : ℕ) → get_or st j 0 < s
  pub number_room : s * (length ls * 4) ≤ length numbers
  pub byte_room : length ls * s ≤ length bytes
