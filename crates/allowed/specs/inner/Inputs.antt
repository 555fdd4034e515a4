-- What the passes over a plan's nodes are given.
--
-- left_child t v == the left child of inner node v; the right child is v - 1
-- PassArgs ks ls lv inn s k == kinds of a tree, labels below k, leaf and inner states of s states and k labels, all
--   below s
-- MarksGiven mk s == s marks, 0 or 1
-- CallArgs p r n s k m == plan and rules pass 2 to 10, n, s and k are their headers', and m is room enough
--
-- A label or a state past a run's end counts 0, as in crate formats, so that the bounds hold at every index.
use Rattle.std.specs.Prelude.{ℕ, ◌+◌, ◌-◌, ◌*◌, ◌≤◌, ◌<◌, ◌≡◌, true, List, length, get_or}
use Rattle.trees.specs.Tree.{Tree, size}
use Rattle.trees.specs.Numbering.{sub}
use Rattle.trees.specs.Postorder.{is_postorder}
use Rattle.formats.specs.Plan.{node_count}
use Rattle.formats.specs.Rules.{state_count, label_count}
use Rattle.formats.specs.Checks.{first_no, rule_table_checks}

abbrev pub left_child : Tree → ℕ → ℕ
left_child t v = v - 1 - size (sub t (v - 1))

pub record PassArgs (ks ls lv inn : List ℕ) (s k : ℕ) : Type 0 where
  pub postorder : is_postorder ks ≡ true
  pub count : length ls ≡ length ks
  pub most : length ks ≤ 65535
  pub below : (j : ℕ) → get_or ls j 0 < k
  pub some : 0 < s
  pub few : s ≤ 16
  pub labels : k ≤ 64
  pub leaf_count : length lv ≡ k
  pub inner_count : length inn ≡ s * k * s
  pub leaf_below : (j : ℕ) → get_or lv j 0 < s
  pub inner_below : (j : ℕ) → get_or inn j 0 < s

pub record MarksGiven (mk : List ℕ) (s : ℕ) : Type 0 where
  pub count : length mk ≡ s
  pub below : (j : ℕ) → get_or mk j 0 < 2

pub record CallArgs (p r : List ℕ) (n s k m : ℕ) : Type 0 where
  pub passed : first_no (rule_table_checks p r) ≡ 0
  pub nodes_are : n ≡ node_count p
  pub states_are : s ≡ state_count r
  pub labels_are : k ≡ label_count r
  pub room : n ≤ m
  pub plan_length : length p ≡ 12 + 2 * n
  pub rules_length : length r ≡ 20 + k + s * k * s + s
  pub nodes_most : n ≤ 65535
  pub states_most : s ≤ 16
  pub labels_most : k ≤ 64
  pub inner_most : s * k * s ≤ 16384
