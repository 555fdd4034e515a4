-- Demand 1 as a property of one call outside the session, in one form for all of them, and the promises of the calls
-- whose checks and tables are parameters of a shared promise.
--
-- AllPass checks == each check of the list passes
-- Answers n checks kept == the number n is that of the first check that fails, 0 where none does; where it is not 0,
--   `kept` holds: every buffer and every output parameter is as it was
-- numbers_of checks == the numbers of a list of checks, in their order
-- BuildCall, CheckCall == the promises of whatif_build and whatif_check; BranchBuildCall, BranchCheckCall == those of
--   whatif_branch_build and whatif_branch_check; ColourBranchBuildCall, ColourBuildCall == those of
--   whatif_colour_branch_build and whatif_colour_build
--
-- The other calls' promises are MergeExported, AgreeExported, CountExported, LayExported, RunExported, AskExported
-- (crate capi), OutDone, HomeDone (crate planner), AllowedDone, ClearingDone (crate allowed), FewestTold (crate fewest),
-- WholeExported (crate capi_ask), DescentExported and RuleExported (crate capi_colours).
use Rattle.std.specs.Prelude.{ℕ, ◌≡◌, true, List, [], ◌∷◌, length}
use Rattle.formats.specs.Checks.{Check, first_no, build_checks, branch_build_checks}
use Rattle.formats.specs.Built.{built_node_table, built_state_table, built_branch_table}
use Rattle.colour_tables.specs.branch.Build.{branch_colour_checks, built_colour_numbers, built_copies}
use Rattle.colour_tables.specs.rule.Build.{rule_colour_checks, built_set_numbers, built_set_bytes}
use Rattle.capi.specs.numbers.Numbers.{BuildExported, CheckExported}

abbrev pub AllPass : List Check → Type 0
AllPass [] = Unit {0}
AllPass (c ∷ cs) = (c.passes ≡ true) × AllPass cs

pub record Answers (n : ℕ) (checks : List Check) (kept : Type 0) : Type 0 where
  -- "refused first, by number, in a fixed order"
  pub number : n ≡ first_no checks
  -- "a refusal alters nothing"
  pub unaltered : (n ≡ 0 → ⊥) → kept
  -- "everything else is accepted"
  pub else_accepted : AllPass checks → n ≡ 0

abbrev pub numbers_of : List Check → List ℕ
numbers_of [] = []
numbers_of (c ∷ cs) = c.number ∷ numbers_of cs

-- ---- tables

abbrev pub BuildCall : List ℕ → List ℕ → List ℕ → List ℕ → ℕ → List ℕ → List ℕ → Type 0
BuildCall p r node_table state_table n node_table' state_table' =
    BuildExported (first_no (build_checks p r (length node_table) (length state_table))) (built_node_table p)
    (built_state_table p r) node_table state_table n node_table' state_table'

abbrev pub CheckCall : List ℕ → List ℕ → List ℕ → List ℕ → ℕ → ℕ → ℕ → Type 0
CheckCall p r node_table state_table n yes₀ yes₁ =
    CheckExported (first_no (build_checks p r (length node_table) (length state_table))) (built_node_table p)
    (built_state_table p r) node_table state_table n yes₀ yes₁

-- ---- branch tables

abbrev pub BranchBuildCall : List ℕ → List ℕ → List ℕ → List ℕ → ℕ → List ℕ → List ℕ → Type 0
BranchBuildCall p r node_table state_table n node_table' state_table' =
    BuildExported (first_no (branch_build_checks p r (length node_table) (length state_table))) (built_node_table p)
    (built_branch_table p r) node_table state_table n node_table' state_table'

abbrev pub BranchCheckCall : List ℕ → List ℕ → List ℕ → List ℕ → ℕ → ℕ → ℕ → Type 0
BranchCheckCall p r node_table state_table n yes₀ yes₁ =
    CheckExported (first_no (branch_build_checks p r (length node_table) (length state_table))) (built_node_table p)
    (built_branch_table p r) node_table state_table n yes₀ yes₁

-- ---- tables of colours

abbrev pub ColourBranchBuildCall : List ℕ → List ℕ → List ℕ → List ℕ → ℕ → List ℕ → List ℕ → Type 0
ColourBranchBuildCall p r numbers bytes n numbers' bytes' =
    BuildExported (first_no (branch_colour_checks p r (length numbers) (length bytes))) (built_colour_numbers p r)
    (built_copies p r) numbers bytes n numbers' bytes'

abbrev pub ColourBuildCall : List ℕ → List ℕ → List ℕ → List ℕ → ℕ → List ℕ → List ℕ → Type 0
ColourBuildCall p r numbers bytes n numbers' bytes' =
    BuildExported (first_no (rule_colour_checks p r (length numbers) (length bytes))) (built_set_numbers p r)
    (built_set_bytes p r) numbers bytes n numbers' bytes'
