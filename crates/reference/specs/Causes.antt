-- Whether the inputs of an advance give a cause for 18.
--
-- "18 means that a value read leads outside the plan, the states or the labels, or a climb doesn't rise."
--
-- is_childless b x == by the node table b, a child of node x would lie outside the plan
-- link_faulty n b v == a link of node v leads outside the plan, does not rise, or leads to a node without children
-- is_apart n b v == node v has depth 0, and some node is not in its subtree
-- node_table_cause n b == one of these two holds of one of the n nodes
-- node_cause X vs bs v == a state, a label or the kind of node v is out of range, with the labels as the list changes
--   them
-- rules_cause X == a rule gives a number that is no state
-- cause X vs bs == one of these, in what an advance reads
-- advance_cause z x vs bs == the same of the inputs, excess aside
--
-- The same as data, with the value's position: NodeTableOutOfRange (crate tables) and PartOutOfRange (crate questions);
-- proofs/CauseLaws.
use Rattle.std.specs.Prelude.{ℕ, ◌+◌, ◌-◌, ◌*◌, Bool, not, ◌&&◌, ◌||◌, List, leb, ltb, eqb, get_or}
use Rattle.tables.specs.node_tables.Cells.{parent_cell, jump_cell, depth_cell, size_cell, is_in_subtree_on}
use Rattle.tables.specs.StateCells.{state_cell, map_cell}
use Rattle.tables.specs.Climbs.{View, view_of}
use Rattle.questions.specs.ready.Members.{some_within}
use Rattle.questions.specs.Part.{label_on}
use Rattle.formats.specs.Inputs.{Inputs, Sizes, used_node_table, used_state_table}

unfoldable pub is_childless : List ℕ → ℕ → Bool
is_childless b x = eqb x 0 || ltb (x - 1) (size_cell b (x - 1))

-- at a depth above 0: a link that does not rise, or leads to a node without children
unfoldable pub is_flat : List ℕ → ℕ → Bool
is_flat b v =
    leb (depth_cell b v) (depth_cell b (jump_cell b v))
    || (leb (depth_cell b v) (depth_cell b (parent_cell b v))
    || (is_childless b (parent_cell b v) || is_childless b (jump_cell b v)))

unfoldable pub link_faulty : ℕ → List ℕ → ℕ → Bool
link_faulty n b v = leb n (jump_cell b v) || (leb n (parent_cell b v) || (ltb 0 (depth_cell b v) && is_flat b v))

unfoldable pub is_apart : ℕ → List ℕ → ℕ → Bool
is_apart n b v = eqb (depth_cell b v) 0 && some_within (λ u. not (is_in_subtree_on b v u)) 0 n

unfoldable pub node_table_cause : ℕ → List ℕ → Bool
node_table_cause n b = some_within (λ v. link_faulty n b v || is_apart n b v) 0 n

unfoldable pub node_cause : View → List ℕ → List ℕ → ℕ → Bool
node_cause X vs bs v =
    leb X.s (state_cell X.s X.state_table v)
    || (some_within (λ q. leb X.s (map_cell X.s X.state_table v q)) 0 X.s
    || (leb X.k (get_or X.labels v 0)
    || (leb X.k (label_on X vs bs v)
    || (not (eqb (get_or X.kinds v 0) 0) && is_childless X.node_table v))))

unfoldable pub rules_cause : View → Bool
rules_cause X =
    some_within (λ a. leb X.s (get_or X.leaves a 0)) 0 X.k
    || some_within (λ p.
    some_within (λ a. some_within (λ q. leb X.s (get_or X.inner ((p * X.k + a) * X.s + q) 0)) 0 X.s) 0 X.k) 0 X.s

unfoldable pub cause : View → List ℕ → List ℕ → Bool
cause X vs bs = node_table_cause X.n X.node_table || (some_within (node_cause X vs bs) 0 X.n || rules_cause X)

unfoldable pub advance_cause : Sizes → Inputs → List ℕ → List ℕ → Bool
advance_cause z x vs bs =
    cause (view_of z.n z.s z.k x.plan x.rules (used_node_table z x) (used_state_table z x)) vs bs
