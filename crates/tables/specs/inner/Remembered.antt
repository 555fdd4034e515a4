-- Moves of a climb as they are remembered, and what the functions of the branch question's climb need.
--
-- kept_moves == how many moves are remembered at a time
-- move_of c == the move that the number c remembers: of node c / 2, by the jump where c is odd
-- remembered codes c == the moves of the first c numbers
-- prefixed ms o == the moves ms and then those of o
-- Noted F v to x == x is the next move from v to depth `to` and where it leads, or says that there is none
-- Noticed .. from to codes x == x describes the climb from node `from` to depth `to`: its first moves, remembered in
--   codes, and the node that they lead to, from which the climb goes on; or x says that there is no climb
-- entry_of s m x r == r is entry x of the map m, no state where x or that entry is none
-- Folded s m f c out == the first c entries of out are f and then the map m
-- NoteArgs, StateArgs, RememberArgs, FoldArgs, ReplayArgs == limits, and runs that are long enough
use Rattle.std.specs.Prelude.{ℕ, zero, suc, ◌+◌, ◌*◌, ◌/◌, ◌%◌, ◌≤◌, ◌<◌, ◌≡◌, true, cond, List, [], ◌∷◌, ◌++◌, ◌⊎◌, eqb, length, get_or}
use Rattle.std.proofs.Math.Option.{Option, none, some}
use Rattle.trees.specs.Climb.{Forest, Move, via_jump, to_parent, target, next_move, and_then, climb, climb_end}
use Rattle.formats.specs.Limits.{node_limit, state_limit}
use Rattle.formats.specs.Checks.{node_table_length, state_table_length}
use Rattle.tables.specs.node_tables.Cells.{depth_cell, cell_forest}
use Rattle.tables.specs.declared.replays.Note.{Note}
use Rattle.tables.specs.declared.replays.Part.{Part}
use Rattle.tables.specs.Climbs.{below}

abbrev pub kept_moves : ℕ
kept_moves = 48

unfoldable pub move_of : ℕ → Move
move_of c = cond (eqb (c % 2) 1) (via_jump (c / 2)) (to_parent (c / 2))

unfoldable pub remembered : List ℕ → ℕ → List Move
remembered codes zero = []
remembered codes (suc c) = remembered codes c ++ (move_of (get_or codes c 0) ∷ [])

abbrev pub prefixed : List Move → Option (List Move) → Option (List Move)
prefixed ms none = none
prefixed ms (some ns) = some (ms ++ ns)

pub record Noted (F : Forest) (v to : ℕ) (x : Note) : Type 0 where
  pub next : cond x.ok (some (move_of x.code)) none ≡ next_move F v to
  pub leads : x.ok ≡ true → x.node ≡ target F (move_of x.code)
  pub from : x.ok ≡ true → x.code / 2 ≡ v

pub record Noticed (n : ℕ) (node_table : List ℕ) (from to : ℕ) (codes : List ℕ) (x : Part) : Type 0 where
  pub long : length codes ≡ kept_moves
  pub count : x.count ≤ kept_moves
  pub inside : x.node < n
  pub nodes : (i : ℕ) → i < x.count → get_or codes i 0 / 2 < n
  pub falls : x.count + depth_cell node_table x.node ≤ depth_cell node_table from
  pub ends : climb_end (cell_forest n node_table) from (remembered codes x.count) ≡ x.node
  pub onward : climb (cell_forest n node_table) from to
      ≡ cond x.ok (prefixed (remembered codes x.count) (climb (cell_forest n node_table) x.node to)) none
  pub far : x.ok ≡ true → (depth_cell node_table x.node ≤ to) ⊎ (kept_moves ≤ x.count)

pub record entry_of (s : ℕ) (m : List ℕ) (x r : ℕ) : Type 0 where
  pub entry : below s r ≡ and_then (below s x) (λ y. below s (get_or m y 0))

pub record Folded (s : ℕ) (m : List ℕ) (f : ℕ → Option ℕ) (c : ℕ) (out : List ℕ) : Type 0 where
  pub long : length out ≡ state_limit
  pub entries : (q : ℕ) → q < c → below s (get_or out q 0) ≡ and_then (f q) (λ y. below s (get_or m y 0))

pub record NoteArgs (n : ℕ) (codes node_table : List ℕ) (from : ℕ) : Type 0 where
  pub long : length codes ≡ kept_moves
  pub at : from < n
  pub most : n ≤ node_limit
  pub room : node_table_length n ≤ length node_table

pub record StateArgs (n s k : ℕ) (ls st state_table : List ℕ) (code q : ℕ) : Type 0 where
  pub node : code / 2 < n
  pub state : q < s
  pub few : s ≤ state_limit
  pub labels_room : n ≤ length ls
  pub steps_room : s * k ≤ length st
  pub state_table_room : state_table_length n s ≤ length state_table

pub record RememberArgs (n s k : ℕ) (codes : List ℕ) (count : ℕ) (ls st state_table : List ℕ) (q : ℕ) : Type 0 where
  pub long : count ≤ length codes
  pub nodes : (i : ℕ) → i < count → get_or codes i 0 / 2 < n
  pub state : q < s
  pub few : s ≤ state_limit
  pub labels_room : n ≤ length ls
  pub steps_room : s * k ≤ length st
  pub state_table_room : state_table_length n s ≤ length state_table

pub record FoldArgs (s : ℕ) (map : List ℕ) : Type 0 where
  pub few : s ≤ state_limit
  pub long : length map ≡ state_limit

pub record ReplayArgs (n s k : ℕ) (ls st node_table state_table : List ℕ) (from q : ℕ) : Type 0 where
  pub at : from < n
  pub state : q < s
  pub most : n ≤ node_limit
  pub few : s ≤ state_limit
  pub labels_room : n ≤ length ls
  pub steps_room : s * k ≤ length st
  pub node_table_room : node_table_length n ≤ length node_table
  pub state_table_room : state_table_length n s ≤ length state_table
