-- Up, the root, down, and the list: what each leaves and needs.
--
-- marked_problem lv inn mk may s k mark == the problem of these runs, where the root is to have a state of that mark
-- LeastDone == the rows are as the pass up leaves them, and r is the root's least cost; LeastArgs == what it needs
-- RootTold == the root is told the first state that costs m; RootTellArgs == what it needs
-- ShowDone == from rows that the pass up left: the list of changes to the relabelling that is shown; ShowGiven == what
--   it needs
-- FewestShown, FewestWritten == the least number, and the list that is shown; WriteArgs == what it needs
use Rattle.std.specs.Prelude.{ℕ, ◌+◌, ◌-◌, ◌*◌, ◌≤◌, ◌≡◌, List, eqb, length, get_or, set}
use Rattle.trees.specs.Tree.{Tree, kinds_of, labels_of, size}
use Rattle.formats.specs.Limits.{change_limit}
use Rattle.fewest.specs.Least.{no_way_out, least_to}
use Rattle.fewest.specs.Relabelling.{changed_nodes, changed_labels, stock_of}
use Rattle.fewest.specs.Fewest.{fewest, cleared_tree}
use Rattle.fewest.specs.inner.Cost.{Problem}
use Rattle.fewest.specs.inner.Problems.{problem_for}
use Rattle.fewest.specs.inner.passes.Up.{Up, UpGiven}
use Rattle.fewest.specs.inner.down.Search.{First}
use Rattle.fewest.specs.inner.down.Root.{root_cost}
use Rattle.fewest.specs.inner.list.Shown.{shown_nodes, shown_labels, over}

abbrev pub marked_problem : List ℕ → List ℕ → List ℕ → List ℕ → ℕ → ℕ → ℕ → Problem
marked_problem lv inn mk may s k mark = problem_for s k lv inn (stock_of may) (λ q. eqb (get_or mk q 0) mark)

pub record LeastArgs (ks ls lv inn mk may : List ℕ) (s k m : ℕ) : Type 0 where
  pub up : UpGiven ks ls lv inn may s k m
  pub marks : length mk ≡ s

abbrev pub root_least : List ℕ → List ℕ → List ℕ → ℕ → ℕ → ℕ
root_least ks mk W s mark = least_to no_way_out s (root_cost W mk ((length ks - 1) * (s + 1) + 1) mark)

pub record LeastDone (ks ls lv inn mk may : List ℕ) (s k mark : ℕ) (before : List ℕ) (r : ℕ) (after : List ℕ) : Type 0 where
  pub up : Up ks ls lv inn may s k (length ks) before after
  pub least : r ≡ root_least ks mk after s mark

pub record RootTellArgs (W mk : List ℕ) (s v : ℕ) : Type 0 where
  pub few : s ≤ 16
  pub marks : length mk ≡ s
  pub room : v * (s + 1) + (s + 1) ≤ length W

pub record RootTold (W mk : List ℕ) (s v mark m : ℕ) (after : List ℕ) : Type 0 where
  pub target : ℕ
  pub first : First s (λ j. eqb (root_cost W mk (v * (s + 1) + 1) mark j) m) target
  pub is : after ≡ set W (v * (s + 1)) target

pub record ShowGiven (ks ls lv inn mk may : List ℕ) (s k mark m : ℕ) (W : List ℕ) (nodes out : ℕ) : Type 0 where
  pub given : LeastArgs ks ls lv inn mk may s k (length W)
  pub first : List ℕ
  pub up : Up ks ls lv inn may s k (length ks) first W
  pub least : m ≡ root_least ks mk W s mark
  pub few : m ≤ change_limit
  pub nodes_room : change_limit ≤ nodes
  pub labels_room : change_limit ≤ out

pub record ListShown (P : Problem) (t : Tree) (s : ℕ) (first nodes out : List ℕ) (r : ℕ) (W' nodes' out' : List ℕ) : Type 0 where
  pub count : r ≡ length (changed_nodes 0 (labels_of t) (labels_of (cleared_tree P t)))
  pub nodes_are : nodes' ≡ over (changed_nodes 0 (labels_of t) (labels_of (cleared_tree P t))) nodes
  pub labels_are : out' ≡ over (changed_labels (labels_of t) (labels_of (cleared_tree P t))) out
  pub kept : (j : ℕ) → size t * (s + 1) ≤ j → get_or W' j 0 ≡ get_or first j 0

abbrev pub ShowDone : List ℕ → List ℕ → List ℕ → List ℕ → List ℕ → List ℕ → ℕ → ℕ → ℕ → List ℕ → List ℕ → List ℕ → ℕ
    → List ℕ → List ℕ → List ℕ → Type 0
ShowDone ks ls lv inn mk may s k mark W nodes out r W' nodes' out' =
    (first : List ℕ) (t : Tree) → kinds_of t ≡ ks → labels_of t ≡ ls → Up ks ls lv inn may s k (length ks) first W
    → ListShown (marked_problem lv inn mk may s k mark) t s first nodes out r W' nodes' out'

pub record WriteArgs (ks ls lv inn mk may : List ℕ) (s k m nodes out : ℕ) : Type 0 where
  pub given : LeastArgs ks ls lv inn mk may s k m
  pub nodes_room : change_limit ≤ nodes
  pub labels_room : change_limit ≤ out

pub record FewestShown (P : Problem) (t : Tree) (s : ℕ) (W nodes out : List ℕ) (r : ℕ) (W' nodes' out' : List ℕ) (least : ℕ) : Type 0 where
  pub least_is : least ≡ fewest P t
  pub count : r ≡ length (shown_nodes P t)
  pub nodes_are : nodes' ≡ over (shown_nodes P t) nodes
  pub labels_are : out' ≡ over (shown_labels P t) out
  pub kept : (j : ℕ) → size t * (s + 1) ≤ j → get_or W' j 0 ≡ get_or W j 0

abbrev pub FewestWritten : List ℕ → List ℕ → List ℕ → List ℕ → List ℕ → List ℕ → ℕ → ℕ → ℕ → List ℕ → List ℕ → List ℕ → ℕ
    → List ℕ → List ℕ → List ℕ → ℕ → Type 0
FewestWritten ks ls lv inn mk may s k mark W nodes out r W' nodes' out' least =
    (t : Tree) → kinds_of t ≡ ks → labels_of t ≡ ls
    → FewestShown (marked_problem lv inn mk may s k mark) t s W nodes out r W' nodes' out' least
