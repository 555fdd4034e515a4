-- The refusal of each session call, except an advance's 18: "The first no gives its number".
--
-- Stage == what the checks ask of a session: which state it is in, the N, S and K of the last accepted Load, and whether a finished answer
--   is there
-- checks_before18 t x vs bs == Start's checks but the last; start_checks t x vs bs == all of them
-- refusal t c == the number of the first failing check of call c at stage t; 0 where none fails. It looks at the stage and the inputs
--   alone, so the reference model and the calls share it
use Rattle.std.specs.Prelude.{ℕ, Bool, List, [], ◌∷◌, ◌++◌, length}
use Rattle.formats.specs.Checks.{Check, check, first_no, build_checks, list_checks}
use Rattle.formats.specs.Inputs.{Sizes, Inputs, fits, sound}
use Rattle.model.specs.Calls.{Call, load, start, advance, cancel, read, Phase, may_load, may_start, is_running}

pub record Stage : Type 0 where
  pub phase : Phase
  pub sizes : Sizes
  pub last : Bool

abbrev pub stage : Phase → Sizes → Bool → Stage
stage p z l = record { phase = p; sizes = z; last = l }

-- "Any session call: may it be made in this state? 1. Load and the builds go on: .." (2 to 11)
abbrev pub load_checks : Stage → Inputs → List Check
load_checks t x =
    check 1 (may_load t.phase) ∷ build_checks x.plan x.rules (length x.node_table) (length x.state_table)

-- "Start: .. 17; .. 12; .. 13; .. 14; .. 15", of which S-4 leaves 12 to 14
abbrev pub checks_before18 : Stage → Inputs → List ℕ → List ℕ → List Check
checks_before18 t x vs bs =
    check 1 (may_start t.phase) ∷ check 17 (fits t.sizes x) ∷ list_checks t.sizes.n t.sizes.k vs bs

-- "Start shall make the full check of what is lent, and give 18 at its old place exactly when the tables aren't what the build writes
-- from that plan and those rules, or when these no longer pass 2 to 10 or name another N, S or K than the record."
abbrev pub start_checks : Stage → Inputs → List ℕ → List ℕ → List Check
start_checks t x vs bs = checks_before18 t x vs bs ++ (check 18 (sound t.sizes x) ∷ [])

unfoldable pub refusal : Stage → Call → ℕ
refusal t (load x) = first_no (load_checks t x)
refusal t (start x vs bs) = first_no (start_checks t x vs bs)
refusal t (advance x) = first_no (check 1 (is_running t.phase) ∷ check 17 (fits t.sizes x) ∷ [])
refusal t cancel = first_no (check 1 (is_running t.phase) ∷ [])
-- "Read is allowed in every state once such an answer is there, and gives 1 otherwise."
refusal t read = first_no (check 1 t.last ∷ [])
