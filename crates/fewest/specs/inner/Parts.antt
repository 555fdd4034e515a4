-- What the call's parts need.
--
-- parts_problem r may mark == the problem of rules r, where a state of that mark is wanted
-- PlanArgs p r may n s k work nodes labels == plan, rules and buffers pass, and n, s and k are their headers'
use Rattle.std.specs.Prelude.{ℕ, ◌+◌, ◌*◌, ◌≤◌, ◌≡◌, List, length}
use Rattle.formats.specs.Limits.{change_limit}
use Rattle.formats.specs.Rules.{state_count, label_count, leaf_states, inner_states, rule_marks}
use Rattle.allowed.specs.inner.Inputs.{CallArgs}
use Rattle.fewest.specs.inner.Cost.{Problem}
use Rattle.fewest.specs.inner.list.Written.{marked_problem}

abbrev pub parts_problem : List ℕ → List ℕ → ℕ → Problem
parts_problem r may mark = marked_problem (leaf_states r) (inner_states r) (rule_marks r) may (state_count r) (label_count r) mark

pub record PlanArgs (p r may : List ℕ) (n s k work nodes labels : ℕ) : Type 0 where
  pub call : CallArgs p r n s k n
  pub stocks : (length may ≡ 0 → ⊥) → length may ≡ n
  pub room : n * (s + 1) ≤ work
  pub nodes_room : change_limit ≤ nodes
  pub labels_room : change_limit ≤ labels
