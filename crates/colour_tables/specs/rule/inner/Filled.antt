-- What the writers of the tables of colours for a rule table need, once all checks have passed, and what they leave.
--
-- SetSizes n s == n nodes and s states within the limits: products of them fit
-- SetFillArgs ls inn s k numbers bytes == a tree with labels ls, its node table and the run's states by a rule table of
--   inner states inn in front of the buffers (Prepared of crate tables), within the limits; room for its colours
-- SetsFilled count base step t .. == behind the first table the numbers have the colours' tables, and from byte `base`
--   on the bytes have the copies, `count` sets each; no other number or byte is changed
-- AllFilled .. == so for each tree and rule table that the buffers were prepared for
-- PartArgs p r n s k l m == plan and rule table pass 2 to 9, 27, 10 and 11 for buffers of l numbers and m bytes; n, s
--   and k are their N, S and K, with the lengths that follow, for the parts handed on
-- SetColoursWritten p r .. == both buffers begin with what the build writes, and their excess is as it was
use Rattle.std.specs.Prelude.{ℕ, ◌+◌, ◌*◌, ◌^◌, ◌≤◌, ◌<◌, ◌≡◌, List, ◌++◌, length, get_or, drop}
use Rattle.trees.specs.Tree.{Tree, kinds_of, size}
use Rattle.formats.specs.Plan.{node_count, plan_length}
use Rattle.formats.specs.Rules.{tree_automaton, state_count, label_count, rule_length}
use Rattle.formats.specs.Checks.{first_no, state_table_length}
use Rattle.tables.specs.inner.States.{RuleRuns}
use Rattle.tables.specs.inner.Maps.{Prepared}
use Rattle.colours.specs.Copies.{copy}
use Rattle.colours.specs.StateSets.{set_step}
use Rattle.colour_tables.specs.AsBuilt.{ColourCells}
use Rattle.colour_tables.specs.rule.Build.{set_numbers_length, set_bytes_length, rule_colour_checks, built_set_numbers}
use Rattle.colour_tables.specs.rule.Build.{built_set_bytes}

pub record SetSizes (n s : ℕ) : Type 0 where
  pub nodes : n ≤ 65535
  pub states : s ≤ 4

pub record SetFillArgs (ls inn : List ℕ) (s k : ℕ) (numbers bytes : List ℕ) : Type 0 where
  pub tree : Tree
  pub leaves : List ℕ
  pub marks : List ℕ
  pub given : Prepared s k leaves inn marks tree (kinds_of tree) ls numbers bytes
  pub rules : RuleRuns s k leaves inn
  pub few : s ≤ 4
  pub most : length ls ≤ 65535
  pub below : (j : ℕ) → get_or ls j 0 < k
  pub numbers_room : set_numbers_length (length ls) s ≤ length numbers
  pub bytes_room : set_bytes_length (length ls) s ≤ length bytes

pub record SetsFilled (count base : ℕ) (step : ℕ → ℕ → ℕ) (t : Tree)
    (numbers bytes numbers' bytes' : List ℕ) : Type 0 where
  pub cells : ColourCells count step t numbers'
  pub first : (j : ℕ) → j < size t * 4 → get_or numbers' j 0 ≡ get_or numbers j 0
  pub rest : (j : ℕ) → count * (size t * 4) ≤ j → get_or numbers' j 0 ≡ get_or numbers j 0
  pub rows : (v : ℕ) → v < size t → (c : ℕ) → c < count
      → get_or bytes' (base + v * count + c) 0 ≡ get_or (copy count step t v) c 0
  pub front : (j : ℕ) → j < base → get_or bytes' j 0 ≡ get_or bytes j 0
  pub past : (j : ℕ) → base + size t * count ≤ j → get_or bytes' j 0 ≡ get_or bytes j 0

abbrev pub AllFilled : List ℕ → List ℕ → ℕ → ℕ → List ℕ → List ℕ → List ℕ → List ℕ → Type 0
AllFilled ls inn s k numbers bytes numbers' bytes' =
    (lv mk : List ℕ) (t : Tree) → Prepared s k lv inn mk t (kinds_of t) ls numbers bytes
    → SetsFilled (2 ^ s) (state_table_length (length ls) s) (set_step (tree_automaton s k lv inn mk) t) t
    numbers bytes numbers' bytes'

pub record PartArgs (p r : List ℕ) (n s k l m : ℕ) : Type 0 where
  pub passed : first_no (rule_colour_checks p r l m) ≡ 0
  pub nodes : n ≡ node_count p
  pub states : s ≡ state_count r
  pub labels : k ≡ label_count r
  pub few : s ≤ 4
  pub label_most : k ≤ 64
  pub plan_exact : length p ≡ plan_length n
  pub rules_exact : length r ≡ rule_length s k

pub record SetColoursWritten (p r numbers bytes numbers' bytes' : List ℕ) : Type 0 where
  pub numbers_are : numbers' ≡ built_set_numbers p r ++ drop (length (built_set_numbers p r)) numbers
  pub bytes_are : bytes' ≡ built_set_bytes p r ++ drop (length (built_set_bytes p r)) bytes
