-- What the comparison of both tables by pairs needs, and what it returns.
--
-- MatchArgs ks ls node_table lv inn s k m == parts of a plan and a rule table within the limits, and room in the tables,
--   m bytes in the state table
-- TablesTested s k lv inn ks ls node_table state_table r == r is whether both buffers begin with the tables of the tree
--   with kinds ks and labels ls, for any marks
use Rattle.std.specs.Prelude.{ℕ, ◌≤◌, ◌<◌, ◌≡◌, Bool, true, ◌&&◌, List, length, get_or, take}
use Rattle.trees.specs.Tree.{Tree, kinds_of, labels_of}
use Rattle.trees.specs.Tables.{node_table_of, state_table_of}
use Rattle.trees.specs.Postorder.{is_postorder}
use Rattle.list_laws.specs.Tests.{same_list}
use Rattle.formats.specs.Limits.{node_limit}
use Rattle.formats.specs.Rules.{tree_automaton}
use Rattle.formats.specs.Checks.{node_table_length, state_table_length}
use Rattle.tables.specs.inner.States.{RuleRuns}

pub record MatchArgs (ks ls node_table lv inn : List ℕ) (s k m : ℕ) : Type 0 where
  pub postorder : is_postorder ks ≡ true
  pub most : length ks ≤ node_limit
  pub count : length ls ≡ length ks
  pub below : (j : ℕ) → get_or ls j 0 < k
  pub link_room : node_table_length (length ks) ≤ length node_table
  pub rules : RuleRuns s k lv inn
  pub some : 0 < s
  pub room : state_table_length (length ks) s ≤ m

abbrev pub TablesTested : ℕ → ℕ → List ℕ → List ℕ → List ℕ → List ℕ → List ℕ → List ℕ → Bool → Type 0
TablesTested s k lv inn ks ls node_table state_table r =
    (mk : List ℕ) (t : Tree) → kinds_of t ≡ ks → labels_of t ≡ ls
    → r ≡ (same_list (take (node_table_length (length ks)) node_table) (node_table_of t)
    && same_list (take (state_table_length (length ks) s) state_table) (state_table_of (tree_automaton s k lv inn mk) t))
