-- Check 17: whether the buffers of a call fit N, S and K.
--
-- limits_fit n s k == n, s and k are within the limits of document 01
-- buffers_fit n s exact plan table node_table bytes == of these lengths, the plan's is that of n nodes, the table's is `exact`, and those of
--   the two table buffers are at least what n nodes and s states need; `exact` is rule_length s k or branch_length s k
-- TableKind == how long a table's header is, and how long a table of s states and k labels; rule_tables, branch_tables == the two kinds
-- headers_fit header p r == plan p and table r have their headers whole, that of r being `header` bytes long, with N, S and K in
--   their limits
-- headed_buffers_fit kind p r node_table bytes == check 17 where N, S and K are those of the headers; node_table and bytes are the lengths of the
--   table buffers
-- LimitArgs n s k == n, s and k are not above their limits
use Rattle.std.specs.Prelude.{ℕ, ◌≤◌, Bool, ◌&&◌, List, leb, eqb, length}
use Rattle.formats.specs.Layout.{plan_head, rules_head, branch_head}
use Rattle.formats.specs.Limits.{node_limit, state_limit, label_limit, within}
use Rattle.formats.specs.Plan.{node_count, plan_length}
use Rattle.formats.specs.Rules.{state_count, label_count, rule_length, branch_length}
use Rattle.formats.specs.Checks.{node_table_length, state_table_length}

-- "N 1 to 65,535; S 1 to 16; K 1 to 64"
unfoldable pub limits_fit : ℕ → ℕ → ℕ → Bool
limits_fit n s k = within 1 node_limit n && (within 1 state_limit s && within 1 label_limit k)

-- "lent plan, rules and tables at least as long as N, S and K need, plan and rules exactly? 17"
unfoldable pub buffers_fit : ℕ → ℕ → ℕ → ℕ → ℕ → ℕ → ℕ → Bool
buffers_fit n s exact plan table node_table state_table =
    eqb plan (plan_length n) && (eqb table exact && (leb (node_table_length n) node_table && leb (state_table_length n s) state_table))

pub record TableKind : Type 0 where
  pub header : ℕ
  pub exact : ℕ → ℕ → ℕ

abbrev pub rule_tables : TableKind
rule_tables = record { header = rules_head; exact = λ s k. rule_length s k }

abbrev pub branch_tables : TableKind
branch_tables = record { header = branch_head; exact = λ s k. branch_length s k }

-- "A branch question takes N, S and K from the lent headers: 17, also for a header cut short or a number outside its limits"
unfoldable pub headers_fit : ℕ → List ℕ → List ℕ → Bool
headers_fit header p r =
    leb plan_head (length p) && (leb header (length r) && limits_fit (node_count p) (state_count r) (label_count r))

unfoldable pub headed_buffers_fit : TableKind → List ℕ → List ℕ → ℕ → ℕ → Bool
headed_buffers_fit kind p r node_table state_table =
    headers_fit kind.header p r
    && buffers_fit (node_count p) (state_count r) (kind.exact (state_count r) (label_count r)) (length p) (length r) node_table state_table

pub record LimitArgs (n s k : ℕ) : Type 0 where
  pub most : n ≤ node_limit
  pub few : s ≤ state_limit
  pub labels : k ≤ label_limit
