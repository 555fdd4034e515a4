-- The pass for sets of states, as the code has it.
--
-- SetsFrom s k lv inn mk count base t i .. == the nodes from i on have their copies, `count` sets each from byte `base`
--   on, and their colours' landings, by the rule table of leaf states lv, inner states inn and marks mk
-- SetArgs ls inn s k count base numbers bytes == what the pass needs: a tree with its node table and the run's states
--   in the buffers (Prepared of crate tables), states and labels within their limits, and room
use Rattle.std.specs.Prelude.{ℕ, ◌+◌, ◌*◌, ◌^◌, ◌≤◌, ◌<◌, ◌≡◌, List, length, get_or}
use Rattle.trees.specs.Tree.{Tree, kinds_of}
use Rattle.formats.specs.Rules.{tree_automaton}
use Rattle.formats.specs.Checks.{state_table_length}
use Rattle.tables.specs.inner.States.{RuleRuns}
use Rattle.tables.specs.inner.Maps.{Prepared}
use Rattle.colours.specs.StateSets.{set_step}
use Rattle.colour_tables.specs.states.Written.{CopiesFrom}

abbrev pub SetsFrom : ℕ → ℕ → List ℕ → List ℕ → List ℕ → ℕ → ℕ → Tree → ℕ → List ℕ → List ℕ → List ℕ → List ℕ → Type 0
SetsFrom s k lv inn mk count base t i bytes numbers bytes' numbers' =
    CopiesFrom count (set_step (tree_automaton s k lv inn mk) t) t base i bytes numbers bytes' numbers'

pub record SetArgs (ls inn : List ℕ) (s k count base : ℕ) (numbers bytes : List ℕ) : Type 0 where
  pub tree : Tree
  pub leaves : List ℕ
  pub marks : List ℕ
  pub given : Prepared s k leaves inn marks tree (kinds_of tree) ls numbers bytes
  pub rules : RuleRuns s k leaves inn
  pub few : s ≤ 4
  pub most : length ls ≤ 65535
  pub below : (j : ℕ) → get_or ls j 0 < k
  pub count_is : count ≡ 2 ^ s
  pub base_is : base ≡ state_table_length (length ls) s
  pub number_room : count * (length ls * 4) ≤ length numbers
  pub byte_room : base + length ls * count ≤ length bytes
