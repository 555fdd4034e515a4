-- What the pass over a plan's nodes asks of its arguments, and what it promises.
--
-- PassArgs ks ls vs bs lv inn s k == kinds of a tree and labels below k, a list of changes to labels below k, a rule
--   table's leaf and inner states, all below s
-- PassDone ks ls vs bs lv inn s k q == q is the root's state in the run, for any marks
-- stack_with st w == the states of the trees that wait, w, the last completed first: those before it are in st, from
--   index 1 on
-- read_on .. bs st w == what reading the nodes from w's on, with labels bs, makes of the trees that wait before the
--   iteration of w's node
-- RuleStates ks lv inn s k == a rule table's leaf and inner states, as in PassArgs
-- Stacked ks s st w == the trees that wait before the iteration of w's node, with room for those to come
-- StepArgs, StepDone == what the iteration of one node asks and promises: reading on after it gives what reading on
--   before it gives
-- StretchArgs, StretchDone == the same of the nodes up to the next mark, with the plan's labels
-- SpanArgs, SpanDone == the same of the nodes up to before `to`, with the labels as marked
-- SpanEnd v n to == these nodes end at `to`
-- RunArgs p r vs bs n s k == plan, rules and list that pass their checks, with N, S and K of their headers
--
-- A label or a state past a run's end counts 0, as in crate formats, so that the bounds hold at every index.
use Rattle.std.specs.Prelude.{ℕ, zero, suc, ◌+◌, ◌-◌, ◌*◌, ◌≤◌, ◌<◌, ◌≡◌, true, List, [], ◌∷◌, length, get_or, drop}
use Rattle.std.proofs.Math.Option.{Option, some}
use Rattle.trees.specs.Automaton.{state}
use Rattle.trees.specs.Postorder.{is_postorder, tree_of, waiting, read}
use Rattle.trees.specs.Changes.{changed}
use Rattle.formats.specs.Layout.{plan_head, rules_head}
use Rattle.formats.specs.Limits.{node_limit, state_limit, label_limit}
use Rattle.formats.specs.Plan.{node_count}
use Rattle.formats.specs.Rules.{state_count, label_count, tree_automaton}
use Rattle.formats.specs.Checks.{first_no, fresh_run_checks}
use Rattle.runs.specs.inner.Listed.{marked}
use Rattle.runs.specs.declared.pass.Waiting.{Waiting}

pub record PassArgs (ks ls vs bs lv inn : List ℕ) (s k : ℕ) : Type 0 where
  pub postorder : is_postorder ks ≡ true
  pub most : length ks ≤ node_limit
  pub labelled : length ls ≡ length ks
  pub labels_below : (j : ℕ) → get_or ls j 0 < k
  pub paired : length vs ≡ length bs
  pub changes_below : (j : ℕ) → get_or bs j 0 < k
  pub leaf_count : length lv ≡ k
  pub leaf_below : (j : ℕ) → get_or lv j 0 < s
  pub inner_count : length inn ≡ s * k * s
  pub inner_below : (j : ℕ) → get_or inn j 0 < s
  pub states : s ≤ state_limit
  pub letters : k ≤ label_limit

abbrev pub PassDone : List ℕ → List ℕ → List ℕ → List ℕ → List ℕ → List ℕ → ℕ → ℕ → ℕ → Type 0
PassDone ks ls vs bs lv inn s k q =
    (marks : List ℕ) → q ≡ state (tree_automaton s k lv inn marks) (tree_of ks (changed ls vs bs))

abbrev pub leaf_of : List ℕ → ℕ → ℕ
leaf_of lv a = get_or lv a 0

abbrev pub inner_of : ℕ → ℕ → List ℕ → ℕ → ℕ → ℕ → ℕ
inner_of s k inn p a q = get_or inn ((p * k + a) * s + q) 0

abbrev pub reads : ℕ → ℕ → List ℕ → List ℕ → List ℕ → List ℕ → List ℕ → Option (List ℕ)
reads s k lv inn ks ls st = read (leaf_of lv) (inner_of s k inn) ks ls st

unfoldable pub lower_of : List ℕ → ℕ → List ℕ
lower_of st zero = []
lower_of st (suc w) = get_or st (suc w) 0 ∷ lower_of st w

unfoldable pub stack_of : List ℕ → ℕ → ℕ → List ℕ
stack_of st zero x = []
stack_of st (suc w) x = x ∷ lower_of st w

abbrev pub stack_with : List ℕ → Waiting → List ℕ
stack_with st w = stack_of st w.count w.last

-- the trees that wait before a node's iteration, read on from there over labels bs
abbrev pub read_on : ℕ → ℕ → List ℕ → List ℕ → List ℕ → List ℕ → List ℕ → Waiting → Option (List ℕ)
read_on s k lv inn ks bs st w = reads s k lv inn (drop w.node ks) (drop w.node bs) (stack_with st w)

pub record RuleStates (ks lv inn : List ℕ) (s k : ℕ) : Type 0 where
  pub most : length ks ≤ node_limit
  pub leaf_count : length lv ≡ k
  pub leaf_below : (j : ℕ) → get_or lv j 0 < s
  pub inner_count : length inn ≡ s * k * s
  pub inner_below : (j : ℕ) → get_or inn j 0 < s
  pub states : s ≤ state_limit
  pub letters : k ≤ label_limit

pub record Stacked (ks : List ℕ) (s : ℕ) (st : List ℕ) (w : Waiting) : Type 0 where
  pub here : w.node ≤ length ks
  pub room : length ks + 1 < 2 * length st
  pub few : w.count ≤ w.node
  pub one : waiting (drop w.node ks) w.count ≡ some 1
  pub last_below : w.last < 16
  pub last_state : 0 < w.count → w.last < s
  pub below : (i : ℕ) → 0 < i → i < w.count → get_or st i 0 < s

-- ---- one node

pub record StepArgs (ks : List ℕ) (a k : ℕ) (w : Waiting) : Type 0 where
  pub inside : w.node < length ks
  pub label_below : a < k

pub record StepDone (ks lv inn : List ℕ) (s k a : ℕ) (st : List ℕ) (w : Waiting) (st' : List ℕ) (w' : Waiting) : Type 0 where
  pub next : w'.node ≡ w.node + 1
  pub stacked : Stacked ks s st' w'
  pub size : length st' ≡ length st
  pub same : (bs : List ℕ) → length bs ≡ length ks → a ≡ get_or bs w.node 0
      → read_on s k lv inn ks bs st' w' ≡ read_on s k lv inn ks bs st w

-- ---- those up to the next mark

-- a mark is to come, at the plan's end at the latest
pub record StretchArgs (ks ls cs : List ℕ) (from k : ℕ) (w : Waiting) : Type 0 where
  pub labelled : length ls ≡ length ks
  pub labels_below : (j : ℕ) → get_or ls j 0 < k
  pub first : from ≤ w.node
  pub end : ℕ
  pub ahead : w.node ≤ end
  pub inside : end ≤ length ks
  pub room : end < from + length cs
  pub stop : get_or cs (end - from) 0 ≡ 0

pub record StretchDone (ks ls cs : List ℕ) (from : ℕ) (lv inn : List ℕ) (s k : ℕ) (st : List ℕ) (w : Waiting) (st' : List ℕ) (w' : Waiting)
    : Type 0 where
  pub rising : w.node ≤ w'.node
  pub unlisted : (u : ℕ) → w.node ≤ u → u < w'.node → get_or cs (u - from) 0 ≡ 255
  pub stacked : Stacked ks s st' w'
  pub size : length st' ≡ length st
  pub same : (bs : List ℕ) → length bs ≡ length ks → ((u : ℕ) → w.node ≤ u → u < w'.node → get_or ls u 0 ≡ get_or bs u 0)
      → read_on s k lv inn ks bs st' w' ≡ read_on s k lv inn ks bs st w

-- ---- those whose changes are marked

pub record SpanArgs (ks ls cs : List ℕ) (to k : ℕ) (w : Waiting) : Type 0 where
  pub labelled : length ls ≡ length ks
  pub labels_below : (j : ℕ) → get_or ls j 0 < k
  pub marked_below : (u : ℕ) → w.node ≤ u → u < to → marked (get_or ls u 0) (get_or cs (u - w.node) 0) < k
  pub rising : w.node ≤ to
  pub inside : to ≤ length ks
  pub room : to < w.node + length cs
  pub stop : get_or cs (to - w.node) 0 ≡ 0

pub record SpanDone (ks ls cs : List ℕ) (to : ℕ) (lv inn : List ℕ) (s k : ℕ) (st : List ℕ) (w : Waiting) (st' : List ℕ) (w' : Waiting)
    : Type 0 where
  pub reached : w'.node ≡ to
  pub stacked : Stacked ks s st' w'
  pub size : length st' ≡ length st
  pub same : (bs : List ℕ) → length bs ≡ length ks
      → ((u : ℕ) → w.node ≤ u → u < to → marked (get_or ls u 0) (get_or cs (u - w.node) 0) ≡ get_or bs u 0)
      → read_on s k lv inn ks bs st' w' ≡ read_on s k lv inn ks bs st w

pub record SpanEnd (v n to : ℕ) : Type 0 where
  pub rising : v < to
  pub inside : to ≤ n
  pub few : to ≤ v + 1023

pub record RunArgs (p r vs bs : List ℕ) (n s k : ℕ) : Type 0 where
  pub passed : first_no (fresh_run_checks p r vs bs) ≡ 0
  pub nodes_are : n ≡ node_count p
  pub states_are : s ≡ state_count r
  pub labels_are : k ≡ label_count r
  pub plan_length : length p ≡ plan_head + 2 * n
  pub rules_length : length r ≡ rules_head + k + s * k * s + s
  pub nodes_most : n ≤ node_limit
  pub states_most : s ≤ state_limit
  pub labels_most : k ≤ label_limit
  pub row_most : s * k ≤ 1024
  pub inner_most : s * k * s ≤ 16384
