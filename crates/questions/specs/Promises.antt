-- What roots and part promise, on every input.
--
-- RootsAre n m l == what holds of the roots l of m listed nodes on any numbers: they rise to the plan's root, n - 1, and are few
-- rooted_number r, number_for o == document 01's number of an answer: 18 where there is no result, else 0
-- RootsDone n node_table vs r == the promise of roots
-- Reads X G == the inputs X are as G has them: the 16-bit numbers those of the tree, run states and maps any bytes
--   below S
-- Asked .. G ps == a part asked for as "Parts of a question" has it: the roots are the ready set's of any W, ps the parts before
-- PartDone .. r == the promise of part
use Rattle.std.specs.Prelude.{◌≡◌, ℕ, ◌+◌, ◌-◌, ◌*◌, ◌<◌, ◌≤◌, true, cond, List, length, take, slice_index}
use mathlib.Core.List.{Memᴰ}
use Rattle.std.proofs.Math.Option.{Option, none, some}
use Rattle.trees.specs.Tree.{Tree, size, labels_of, kinds_of, label_at}
use Rattle.trees.specs.Changes.{changed}
use Rattle.formats.specs.Limits.{node_limit}
use Rattle.tables.specs.node_tables.NodeCells.{NodeCells}
use Rattle.tables.specs.node_tables.OutOfRange.{NodeTableOutOfRange}
use Rattle.tables.specs.StateCells.{state_cell, map_cell}
use Rattle.tables.specs.declared.answers.Climbed.{Climbed}
use Rattle.tables.specs.declared.answers.Climbed.TheVariants.{Reached as To}
use Rattle.tables.specs.declared.answers.Reached.{Reached}
use Rattle.tables.specs.Climbs.{View, climbed_of, climbed_number, reached}
use Rattle.questions.specs.ready.Members as members
use Rattle.questions.specs.ready.Parts.{Given, Part, nodes_of, states_of, state_of, part_state, part_links, part_passed}
use Rattle.questions.specs.declared.roots.Rooted.{Rooted}
use Rattle.questions.specs.Rising.{RisesTo}
use Rattle.questions.specs.RootsAnswers.{roots_fit, roots_given, rooted_of}
use Rattle.questions.specs.PartAnswers.{part_fits, part_given, view_in}
use Rattle.questions.specs.OutOfRange.{PartOutOfRange}

-- "a value read leads outside the plan, the states or the labels, or a climb doesn't rise": 18
unfoldable pub number_for : {A : Type 0} → Option A → ℕ
number_for none = 18
number_for (some x) = 0

unfoldable pub rooted_number : Rooted → ℕ
rooted_number r = cond r.ok 0 18

-- ---- roots

-- "Ceilings on parts (4m-2, or 1)"
pub record RootsAre (n m : ℕ) (l : List ℕ) : Type 0 where
  pub to : RisesTo (n - 1) l
  pub one : m ≡ 0 → length l ≡ 1
  pub few : 0 < m → length l + 2 ≤ 4 * m

pub record RootsDone (n : ℕ) (node_table vs : List ℕ) (r : Rooted) : Type 0 where
  -- on every input: the named result, or 18
  pub result : r ≡ rooted_of (roots_given n node_table vs)
  pub number : rooted_number r ≡ number_for (roots_given n node_table vs)
  -- 18 on what fits: a number leads outside the plan or does not rise
  pub out_of_range : roots_fit n (length node_table) vs ≡ true → rooted_number r ≡ 18 → NodeTableOutOfRange n node_table
  -- for any numbers: rising to the root, and few
  pub few : (l : List ℕ) → roots_given n node_table vs ≡ some l → RootsAre n (length vs) l
  -- and every listed node is among them
  pub listed : (l : List ℕ) → roots_given n node_table vs ≡ some l → (v : ℕ) → Memᴰ v vs → Memᴰ v l
  -- on numbers as built: exactly the ready set, never 18
  pub built : (t : Tree) → NodeCells t node_table → n ≡ size t → roots_fit n (length node_table) vs ≡ true → r ≡ rooted_of (some (members.roots t vs))

-- ---- part

pub record Reads (X : View) (G : Given) : Type 0 where
  pub count : X.n ≡ size G.tree
  pub labels : X.labels ≡ labels_of G.tree
  pub kinds : X.kinds ≡ kinds_of G.tree
  pub cells : NodeCells G.tree X.node_table
  pub states : G.automaton.states ≡ X.s
  pub leaf : (a : ℕ) → G.automaton.ι a ≡ slice_index X.leaves a
  pub inner : (p a q : ℕ) → G.automaton.δ p a q ≡ slice_index X.inner ((p * X.k + a) * X.s + q)
  pub leaf_below : (a : ℕ) → G.automaton.ι a < X.s
  pub inner_below : (p a q : ℕ) → G.automaton.δ p a q < X.s
  pub label_below : (v : ℕ) → label_at G.tree v < X.k
  pub changed_below : (v : ℕ) → slice_index G.labels v < X.k
  pub run : (v : ℕ) → G.run_state v ≡ state_cell X.s X.state_table v
  pub map : (v q : ℕ) → G.map_state v q ≡ map_cell X.s X.state_table v q
  pub run_below : (v : ℕ) → v < size G.tree → G.run_state v < X.s
  pub map_below : (v q : ℕ) → v < size G.tree → q < X.s → G.map_state v q < X.s

pub record Asked (n s k : ℕ) (plan rules node_table state_table roots states vs bs : List ℕ) (G : Given) (ps : List Part) : Type 0 where
  pub fits : part_fits n s k plan rules node_table state_table roots states vs bs ≡ true
  pub reads : Reads (view_in n s k plan rules node_table state_table) G
  pub labels : G.labels ≡ changed (labels_of G.tree) vs bs
  -- W: not the list, of which nodes may have been left out (document 02, S-5)
  pub listed : List ℕ
  pub ready : roots ≡ members.roots G.tree listed
  pub before : nodes_of ps ≡ take (length states) roots
  pub states_are : states_of ps ≡ states
  pub below : (v : ℕ) → state_of ps v < s

pub record PartDone (n s k : ℕ) (plan rules node_table state_table roots states vs bs : List ℕ) (r : Climbed) : Type 0 where
  -- on every input: the named result, or 18
  pub result : r ≡ climbed_of (part_given n s k plan rules node_table state_table roots states vs bs)
  pub number : climbed_number r ≡ number_for (part_given n s k plan rules node_table state_table roots states vs bs)
  -- 18 on what fits: a value leads outside the plan, the states or the labels, or a link does not rise
  pub out_of_range : part_fits n s k plan rules node_table state_table roots states vs bs ≡ true → climbed_number r ≡ 18
      → PartOutOfRange (view_in n s k plan rules node_table state_table) states vs bs
  -- for any inputs: a state, no more links than a plan has nodes, and at least as many nodes passed over as links; both
  -- fit 16 bits
  pub state_below : (x : Reached) → part_given n s k plan rules node_table state_table roots states vs bs ≡ some x → x.state < s
  pub links_most : (x : Reached) → part_given n s k plan rules node_table state_table roots states vs bs ≡ some x → x.links ≤ node_limit
  pub links_passed : (x : Reached) → part_given n s k plan rules node_table state_table roots states vs bs ≡ some x → x.links ≤ x.passed
  pub passed_most : (x : Reached) → part_given n s k plan rules node_table state_table roots states vs bs ≡ some x → x.passed ≤ node_limit
  -- "run states and maps are any bytes below S": what the rule gives on those bytes, never 18
  pub rule : (G : Given) (ps : List Part) → Asked n s k plan rules node_table state_table roots states vs bs G ps
      → r ≡ To (reached (part_state G roots ps (slice_index roots (length states))) (part_links G.tree roots (slice_index roots (length states)))
      (part_passed G.tree roots (slice_index roots (length states))))
