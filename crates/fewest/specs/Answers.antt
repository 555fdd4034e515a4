-- What the call answers, on every input.
--
-- wanted_mark want == the mark of the root's state that is wanted: 0 for want 0 (no longer cleared), else 1 (cleared)
-- wanted_automaton r want == the automaton of rules r with the states of that mark as the accepting ones: for want 1 the
--   rules' own
-- may_be may v b == whether node v may be changed to label b: b is in the set may[v], or `may` is empty
-- may_fits m n == check 17: no sets of labels, or one for each of n nodes
-- fewest_room n s work nodes labels == check 11: room for n (s + 1) numbers of work space, and for 64 changes
-- fewest_checks p r may work nodes labels == 2 to 10, then 17, then 11; the last four are the lengths of the buffers
-- rising lo vs == the numbers vs rise, from lo on: each once
-- ListTold A k may t m vs bs == m changes, of different nodes of t, in rising order, to labels below k, each permitted;
--   the tree so changed is accepted
-- LeastTold A k may t m c ns bs == m is the least number of changed labels over ALL permitted relabellings that are
--   accepted, and 65,536 where none is; c is m, and the first m entries of ns and bs are such changes, where m is at
--   most 64; else c is 0
-- FewestTold == the answer is the number of the first check that fails, 0 where none does. Accepted: the least number
--   and the changes, and beyond them, and beyond the nodes' rows of the work space, all is as it was. Refused,
--   everything is as it was
--
-- No cost, no row and no pass is in it. The numbers left in the nodes' rows of the work space are not told.
use Rattle.std.specs.Prelude.{ℕ, ◌+◌, ◌*◌, ◌≤◌, ◌<◌, ◌≡◌, Bool, true, cond, ◌&&◌, ◌||◌, List, [], ◌∷◌, ◌++◌, leb, eqb, length, get_or, take}
use Rattle.list_laws.specs.Tests.{all_below}
use Rattle.trees.specs.Tree.{Tree, size, kinds_of, labels_of}
use Rattle.trees.specs.Automaton.{Automaton, accepts}
use Rattle.trees.specs.Postorder.{tree_of}
use Rattle.trees.specs.Changes.{changed}
use Rattle.formats.specs.Limits.{change_limit}
use Rattle.formats.specs.Plan.{node_count, plan_tree}
use Rattle.formats.specs.Rules.{state_count, label_count, leaf_states, inner_states, rule_marks}
use Rattle.formats.specs.Checks.{Check, check, first_no, rule_table_checks}
use Rattle.state_sets.specs.StateSets.{member}
use Rattle.fewest.specs.Least.{no_way_out}
use Rattle.fewest.specs.Relabelling.{Relabelling, stock_of}
use Rattle.fewest.specs.Fewest.{IsFewest, NoneClears}

abbrev pub wanted_mark : ℕ → ℕ
wanted_mark want = cond (eqb want 0) 0 1

abbrev pub wanted_automaton : List ℕ → ℕ → Automaton
wanted_automaton r want = record {
  states = state_count r;
  ι = λ a. get_or (leaf_states r) a 0;
  δ = λ p a q. get_or (inner_states r) ((p * label_count r + a) * state_count r + q) 0;
  accepting = λ q. eqb (get_or (rule_marks r) q 0) (wanted_mark want);
}

abbrev pub may_be : List ℕ → ℕ → ℕ → Bool
may_be may v b = member (stock_of may v) b

abbrev pub may_fits : ℕ → ℕ → Bool
may_fits m n = eqb m 0 || eqb m n

abbrev pub fewest_room : ℕ → ℕ → ℕ → ℕ → ℕ → Bool
fewest_room n s work nodes labels = leb (n * (s + 1)) work && (leb change_limit nodes && leb change_limit labels)

unfoldable pub fewest_checks : List ℕ → List ℕ → ℕ → ℕ → ℕ → ℕ → List Check
fewest_checks p r may work nodes labels =
    rule_table_checks p r
    ++ (check 17 (may_fits may (node_count p)) ∷ check 11 (fewest_room (node_count p) (state_count r) work nodes labels) ∷ [])

unfoldable pub rising : ℕ → List ℕ → Bool
rising lo [] = true
rising lo (v ∷ vs) = leb lo v && rising (v + 1) vs

pub record ListTold (A : Automaton) (k : ℕ) (may : ℕ → ℕ → Bool) (t : Tree) (m : ℕ) (vs bs : List ℕ) : Type 0 where
  pub nodes_number : length vs ≡ m
  pub labels_number : length bs ≡ m
  pub nodes_in : all_below (size t) vs ≡ true
  pub nodes_rise : rising 0 vs ≡ true
  pub labels_in : all_below k bs ≡ true
  pub permits : Relabelling k may t (tree_of (kinds_of t) (changed (labels_of t) vs bs))
  pub does : accepts A (tree_of (kinds_of t) (changed (labels_of t) vs bs)) ≡ true

pub record LeastTold (A : Automaton) (k : ℕ) (may : ℕ → ℕ → Bool) (t : Tree) (m c : ℕ) (ns bs : List ℕ) : Type 0 where
  pub way : m < no_way_out → IsFewest A k may t m
  pub no_way : no_way_out ≤ m → (m ≡ no_way_out) × NoneClears A k may t
  pub count : c ≡ cond (leb m change_limit) m 0
  pub listed : m ≤ change_limit → ListTold A k may t m (take m ns) (take m bs)

pub record FewestTold (p r may : List ℕ) (want : ℕ) (work nodes labels : List ℕ) (least count answer : ℕ)
    (work' nodes' labels' : List ℕ) (least' count' : ℕ) : Type 0 where
  pub number : answer ≡ first_no (fewest_checks p r (length may) (length work) (length nodes) (length labels))
  pub told : answer ≡ 0 → LeastTold (wanted_automaton r want) (label_count r) (may_be may) (plan_tree p) least' count' nodes' labels'
  pub nodes_beyond : answer ≡ 0 → (j : ℕ) → count' ≤ j → get_or nodes' j 0 ≡ get_or nodes j 0
  pub labels_beyond : answer ≡ 0 → (j : ℕ) → count' ≤ j → get_or labels' j 0 ≡ get_or labels j 0
  pub work_beyond : (j : ℕ) → node_count p * (state_count r + 1) ≤ j → get_or work' j 0 ≡ get_or work j 0
  pub refused : (answer ≡ 0 → ⊥)
      → (work' ≡ work) × (nodes' ≡ nodes) × (labels' ≡ labels) × (least' ≡ least) × (count' ≡ count)
