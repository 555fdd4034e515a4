-- What the two calls answer, on every input.
--
-- node_room_checks p r m == 2 to 10, then 11: room for a number a node; m is the length of the buffer
-- AllowedDone p r before n after == the promise of the masks: n is the number of the first check that fails, 0 where
--   none does; accepted, the buffer begins with the allowed labels of the plan's nodes; refused, it is as it was
-- ClearingDone p r before n after == the promise of the clearing states, in the same form
use Rattle.std.specs.Prelude.{ℕ, ◌≡◌, List, [], ◌∷◌, ◌++◌, leb, length, drop}
use Rattle.formats.specs.Plan.{node_count, plan_tree}
use Rattle.formats.specs.Rules.{label_count, rule_automaton}
use Rattle.formats.specs.Checks.{Check, check, first_no, rule_table_checks}
use Rattle.allowed.specs.Allowed.{allowed_sets}
use Rattle.allowed.specs.Clearing.{clearing_sets}

unfoldable pub node_room_checks : List ℕ → List ℕ → ℕ → List Check
node_room_checks p r m = rule_table_checks p r ++ (check 11 (leb (node_count p) m) ∷ [])

-- the allowed labels of plan p's nodes under rules r, and behind them what was there
abbrev pub allowed_over : List ℕ → List ℕ → List ℕ → List ℕ
allowed_over p r before = allowed_sets (rule_automaton r) (label_count r) (plan_tree p) ++ drop (node_count p) before

pub record AllowedDone (p r before : List ℕ) (n : ℕ) (after : List ℕ) : Type 0 where
  pub number : n ≡ first_no (node_room_checks p r (length before))
  pub written : n ≡ 0 → after ≡ allowed_over p r before
  pub kept : (n ≡ 0 → ⊥) → after ≡ before

-- the clearing states of plan p's nodes under rules r, and behind them what was there
abbrev pub clearing_over : List ℕ → List ℕ → List ℕ → List ℕ
clearing_over p r before = clearing_sets (rule_automaton r) (plan_tree p) ++ drop (node_count p) before

pub record ClearingDone (p r before : List ℕ) (n : ℕ) (after : List ℕ) : Type 0 where
  pub number : n ≡ first_no (node_room_checks p r (length before))
  pub written : n ≡ 0 → after ≡ clearing_over p r before
  pub kept : (n ≡ 0 → ⊥) → after ≡ before
