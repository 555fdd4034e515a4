-- What the type of a struct says of its arrays, and what the tests of a struct's parts ask.
--
-- Shaped s == the four arrays have the layout's lengths
-- ListShaped vs bs, PartsShaped h rs qs == two arrays have these lengths; for parts also: the plan has a node, and no more
--   parts are handled than there are
-- loaded_by n s k, loaded_from plan rules == the record after a first Load
-- HeaderArgs plan rules == both headers are whole; Headers plan rules == besides N, S and K are at most their limits
-- sizes_by n s k == these as sizes
use Rattle.std.specs.Prelude.{ℕ, ◌≤◌, ◌≡◌, List, length}
use Rattle.formats.specs.Layout.{plan_head, rules_head}
use Rattle.formats.specs.Limits.{node_limit, state_limit, label_limit, change_limit, part_limit}
use Rattle.formats.specs.Plan.{node_count}
use Rattle.formats.specs.Rules.{state_count, label_count}
use Rattle.formats.specs.Inputs.{Sizes}
use Rattle.model.specs.Model.{Record, loaded_record}
use Rattle.session.specs.declared.state.Head.{Head}
use Rattle.session.specs.declared.state.Session.{Session}

pub record Shaped (s : Session) : Type 0 where
  pub nodes : length s.nodes ≡ change_limit
  pub labels : length s.labels ≡ change_limit
  pub roots : length s.roots ≡ part_limit
  pub states : length s.states ≡ part_limit

pub record ListShaped (vs bs : List ℕ) : Type 0 where
  pub nodes : length vs ≡ change_limit
  pub labels : length bs ≡ change_limit

pub record PartsShaped (h : Head) (rs qs : List ℕ) : Type 0 where
  pub roots : length rs ≡ part_limit
  pub states : length qs ≡ part_limit
  pub some_node : 1 ≤ h.sizes.n
  pub counted : h.handled ≤ h.parts

abbrev pub sizes_by : ℕ → ℕ → ℕ → Sizes
sizes_by n s k = record { n = n; s = s; k = k }

-- the record after a first Load of N, S and K, and of a plan and rules
abbrev pub loaded_by : ℕ → ℕ → ℕ → Record
loaded_by n s k = loaded_record (sizes_by n s k)

abbrev pub loaded_from : List ℕ → List ℕ → Record
loaded_from plan rules = loaded_by (node_count plan) (state_count rules) (label_count rules)

pub record HeaderArgs (plan rules : List ℕ) : Type 0 where
  pub plan_head : plan_head ≤ length plan
  pub rules_head : rules_head ≤ length rules

-- both headers are whole, and N, S and K fit the record
pub record Headers (plan rules : List ℕ) : Type 0 where
  pub plan_head : plan_head ≤ length plan
  pub rules_head : rules_head ≤ length rules
  pub nodes_most : node_count plan ≤ node_limit
  pub states_most : state_count rules ≤ state_limit
  pub labels_most : label_count rules ≤ label_limit
