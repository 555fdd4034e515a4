-- The fewest changes, over the promise of whatif_fewest.
--     fewest-is-least       below 65,536 the number is the least over all permitted relabellings, and one attains it
--     none-does             65,536: no permitted relabelling does it
--     fewest-listed         at most 64: as many nodes, rising, with their labels, permitted, and the changed plan is as
--                           wanted
--     fewest-count          how many are listed: that number, or 0 where it is above 64
--     list-is-the-run       want 1: a fresh run answers the list with yes; want 0: with no (list-loses-the-run)
--     zero-is-clear, clear-is-zero   0 exactly where the plan is as wanted already
--     every-label           no sets given: every node may take every label
--     no-list-is-shorter    no sets given: no list of changes that does it has fewer entries
--     one-is-allowed, allowed-is-one   the allowed labels of the same plan: a way of one change is one of their bits
--     fewest-beyond         past what is listed, and past the work space, nothing is changed
--     fewest-refused        refused: the number is that of the first check that fails, and nothing is changed
-- What the numbers left in the work space are is not told. Demand 1 of the call in the form of all calls: Calls.
use Prim.Native.Nat.{ℕ, ◌+◌, ◌*◌, ◌≤◌, ◌<◌}
use mathlib.Core.Path.{◌≡◌, refl}
use mathlib.Core.Bool.{true, false, cond, not}
use mathlib.Core.List.{List}
use lib.Dec.{leb}
use lib.ListN.{length, get_or, take}
use Rattle.list_laws.specs.Tests.{all_below}
use Rattle.trees.specs.Tree.{Tree, kinds_of, labels_of}
use Rattle.trees.specs.Automaton.{accepts}
use Rattle.trees.specs.Postorder.{tree_of}
use Rattle.trees.specs.Changes.{changed}
use Rattle.formats.specs.Limits.{label_limit, change_limit}
use Rattle.formats.specs.Plan.{node_count, plan_tree}
use Rattle.formats.specs.Rules.{state_count, label_count, rule_automaton}
use Rattle.formats.specs.Checks.{first_no}
use Rattle.formats.proofs.RuleLaws.{RulesPass}
use Rattle.runs.specs.FreshRun.{root_accepted}
use Rattle.state_sets.specs.StateSets.{member}
use Rattle.allowed.specs.Answers.{AllowedDone}
use Rattle.fewest.specs.Least.{no_way_out}
use Rattle.fewest.specs.Fewest.{IsFewest, NoneClears}
use Rattle.fewest.specs.Answers.{wanted_automaton, may_be, fewest_checks, ListTold, FewestTold}
use Rattle.fewest.proofs.Theorems as calls
use Rattle.capi_fewest.proofs.AllowedTheorems as both

-- ---- what is wanted

-- "want 1 clears": the rules' own yes
cleared-is : (r : List ℕ) (want : ℕ) → (want ≡ 0 → ⊥) → (u : Tree)
    → accepts (wanted_automaton r want) u ≡ accepts (rule_automaton r) u
cleared-is = calls.cleared-is

-- "0 loses the clearance": their no
not-cleared-is : (r : List ℕ) → RulesPass r → (u : Tree)
    → accepts (wanted_automaton r 0) u ≡ not (accepts (rule_automaton r) u)
not-cleared-is = calls.not-cleared-is

-- "may_len 0: every node, every label"
every-label : (may : List ℕ) → length may ≡ 0 → (v b : ℕ) → b < label_limit → may_be may v b ≡ true
every-label = calls.every-label

-- ---- an accepted call

module _ (p r may : List ℕ) (want : ℕ) (work nodes labels : List ℕ) (least count : ℕ)
    (work' nodes' labels' : List ℕ) (least' count' : ℕ)
    (T : FewestTold p r may want work nodes labels least count 0 work' nodes' labels' least' count') where
  -- "the minimum over all relabellings, any number of nodes"
  fewest-is-least : least' < no_way_out → IsFewest (wanted_automaton r want) (label_count r) (may_be may) (plan_tree p) least'
  fewest-is-least = (T.told refl).way

  -- "or the proof that none exists"
  none-does : no_way_out ≤ least'
      → (least' ≡ no_way_out) × NoneClears (wanted_automaton r want) (label_count r) (may_be may) (plan_tree p)
  none-does = (T.told refl).no_way

  -- "a list that attains it where it is at most 64"
  fewest-listed : least' ≤ change_limit
      → ListTold (wanted_automaton r want) (label_count r) (may_be may) (plan_tree p) least' (take least' nodes')
      (take least' labels')
  fewest-listed = (T.told refl).listed

  -- "else 0"
  fewest-count : count' ≡ cond (leb least' change_limit) least' 0
  fewest-count = (T.told refl).count

  -- "the list, asked as a question, gets the wanted answer from a fresh run"
  list-is-the-run : (want ≡ 0 → ⊥) → least' ≤ change_limit
      → root_accepted p r (take least' nodes') (take least' labels') ≡ true
  list-is-the-run = calls.list-is-the-run p r may want work nodes labels least count work' nodes' labels' least' count' T

  list-loses-the-run : want ≡ 0 → least' ≤ change_limit
      → root_accepted p r (take least' nodes') (take least' labels') ≡ false
  list-loses-the-run =
      calls.list-loses-the-run p r may want work nodes labels least count work' nodes' labels' least' count' T

  -- 0 exactly where the plan is as wanted already, whatever may be changed
  zero-is-clear : least' ≡ 0 → accepts (wanted_automaton r want) (plan_tree p) ≡ true
  zero-is-clear = calls.zero-is-clear p r may want work nodes labels least count work' nodes' labels' least' count' T

  clear-is-zero : accepts (wanted_automaton r want) (plan_tree p) ≡ true → least' ≡ 0
  clear-is-zero = calls.clear-is-zero p r may want work nodes labels least count work' nodes' labels' least' count' T

  -- of lists of any length, with repeats or without
  no-list-is-shorter : length may ≡ 0 → (vs bs : List ℕ) → all_below (label_count r) bs ≡ true
      → accepts (wanted_automaton r want) (tree_of (kinds_of (plan_tree p)) (changed (labels_of (plan_tree p)) vs bs)) ≡ true
      → least' ≤ length vs
  no-list-is-shorter =
      calls.no-list-is-shorter p r may want work nodes labels least count work' nodes' labels' least' count' T

  -- "the excess": of both lists, and of the work space
  fewest-beyond : ((j : ℕ) → count' ≤ j → get_or nodes' j 0 ≡ get_or nodes j 0)
      × ((j : ℕ) → count' ≤ j → get_or labels' j 0 ≡ get_or labels j 0)
      × ((j : ℕ) → node_count p * (state_count r + 1) ≤ j → get_or work' j 0 ≡ get_or work j 0)
  fewest-beyond = (T.nodes_beyond refl, T.labels_beyond refl, T.work_beyond)

  -- ---- with the allowed labels of the same plan

  module _ (w : want ≡ 0 → ⊥) (masks masks' : List ℕ) (D : AllowedDone p r masks 0 masks') where
    -- the one change that is told is a bit of the masks
    one-is-allowed : least' ≡ 1 → member (get_or masks' (get_or nodes' 0 0) 0) (get_or labels' 0 0) ≡ true
    one-is-allowed = both.one-is-allowed p r may want w work nodes labels least count work' nodes' labels' least' count' T
        masks masks' D

    -- and where a permitted bit is 1, one change or none does it
    allowed-is-one : (v a : ℕ) → v < node_count p → a < label_count r → may_be may v a ≡ true
        → member (get_or masks' v 0) a ≡ true → least' ≤ 1
    allowed-is-one = both.allowed-is-one p r may want w work nodes labels least count work' nodes' labels' least' count' T
        masks masks' D

-- "Refused, everything is as it was."
fewest-refused : (p r may : List ℕ) (want : ℕ) (work nodes labels : List ℕ) (least count n : ℕ)
    (work' nodes' labels' : List ℕ) (least' count' : ℕ)
    → FewestTold p r may want work nodes labels least count n work' nodes' labels' least' count'
    → (n ≡ first_no (fewest_checks p r (length may) (length work) (length nodes) (length labels)))
    × ((n ≡ 0 → ⊥)
    → (work' ≡ work) × (nodes' ≡ nodes) × (labels' ≡ labels) × (least' ≡ least) × (count' ≡ count))
fewest-refused p r may want work nodes labels least count n work' nodes' labels' least' count' T =
    (T.number, T.refused)
