-- What the functions below the checks ask and answer, with N, S and K as read from the headers.
--
-- Counts s k == S and K are at most their limits, so that products of them fit; Sizes n s == so are N and S
-- Headed b head s k == besides, the header is there whole; RuleSized b s k, BranchSized b s k == the length is exact
-- Labelled p k == the plan's labels are there whole, and K is at most its limit
-- Product n most r == r is the product n, and at most `most`
-- RuleArgs inn s k p a q == the rule for left state p, label a and right state q is inside the inner states inn
-- counts_fit s k == check 7 as a test
-- rule_shape b s k, branch_shape b s k == check 8 as a test
-- rule_values b s k, branch_values b s k == check 9 as a test
-- room_fits n s node_table bytes == check 11 as a test
-- lists_fit vs bs == check 12 as a test
use Rattle.std.specs.Prelude.{ℕ, ◌+◌, ◌*◌, ◌≤◌, ◌<◌, ◌≡◌, Bool, ◌&&◌, List, leb, eqb, length, take, drop}
use Rattle.formats.specs.Layout.{plan_head, rules_head, branch_head}
use Rattle.formats.specs.Bytes.{le32}
use Rattle.list_laws.specs.Tests.{all_below}
use Rattle.formats.specs.Limits.{node_limit, state_limit, label_limit, change_limit, within}
use Rattle.formats.specs.Plan.{node_count}
use Rattle.formats.specs.Rules.{rule_length, branch_length}
use Rattle.formats.specs.Checks.{node_table_length, state_table_length}

pub record Counts (s k : ℕ) : Type 0 where
  pub states : s ≤ state_limit
  pub labels : k ≤ label_limit

pub record Headed (b : List ℕ) (head s k : ℕ) : Type 0 where
  pub long : head ≤ length b
  pub states : s ≤ state_limit
  pub labels : k ≤ label_limit

pub record RuleSized (b : List ℕ) (s k : ℕ) : Type 0 where
  pub exact : length b ≡ rule_length s k
  pub states : s ≤ state_limit
  pub labels : k ≤ label_limit

pub record BranchSized (b : List ℕ) (s k : ℕ) : Type 0 where
  pub exact : length b ≡ branch_length s k
  pub states : s ≤ state_limit
  pub labels : k ≤ label_limit

pub record Sizes (n s : ℕ) : Type 0 where
  pub nodes : n ≤ node_limit
  pub states : s ≤ state_limit

pub record Labelled (p : List ℕ) (k : ℕ) : Type 0 where
  pub long : plan_head + node_count p ≤ length p
  pub labels : k ≤ label_limit

pub record RuleArgs (inn : List ℕ) (s k p a q : ℕ) : Type 0 where
  pub small : p * k + a < 65536
  pub inside : (p * k + a) * s + q < length inn

-- a product of counts and its bound, for callers' sums
pub record Product (n most r : ℕ) : Type 0 where
  pub value : r ≡ n
  pub fits : r ≤ most

abbrev pub counts_fit : ℕ → ℕ → Bool
counts_fit s k = within 1 state_limit s && within 1 label_limit k

abbrev pub rule_shape : List ℕ → ℕ → ℕ → Bool
rule_shape b s k =
    eqb (le32 b 8) rules_head && (eqb (le32 b 12) (rules_head + k) && (eqb (le32 b 16) (rules_head + k + s * k * s) && eqb (length b) (rule_length s k)))

abbrev pub rule_values : List ℕ → ℕ → ℕ → Bool
rule_values b s k =
    all_below s (take k (drop rules_head b))
    && (all_below s (take (s * k * s) (drop (rules_head + k) b)) && all_below 2 (take s (drop (rules_head + k + s * k * s) b)))

abbrev pub branch_shape : List ℕ → ℕ → ℕ → Bool
branch_shape b s k = eqb (le32 b 8) branch_head && (eqb (le32 b 12) (branch_head + s * k) && eqb (length b) (branch_length s k))

abbrev pub branch_values : List ℕ → ℕ → ℕ → Bool
branch_values b s k = all_below s (take (s * k) (drop branch_head b)) && all_below 2 (take s (drop (branch_head + s * k) b))

-- check 11 as a test
abbrev pub room_fits : ℕ → ℕ → ℕ → ℕ → Bool
room_fits n s node_table state_table = leb (node_table_length n) node_table && leb (state_table_length n s) state_table

-- check 12 as a test
abbrev pub lists_fit : List ℕ → List ℕ → Bool
lists_fit vs bs = eqb (length vs) (length bs) && leb (length vs) change_limit
