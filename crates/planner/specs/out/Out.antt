-- The contract of going out: what the call answers, and what it writes (document 02, S-2).
--
-- OutDone b p ps r q qs == the number r is the first check of 19, 20, 21 that fails on the file b; where it is 0 the
--   plan's buffer p becomes q and the places' buffer ps becomes qs: the definition's plan and places, with the excess
--   as it was; else both are unchanged
-- OutArgs, OutWritten == the same for a file that passes
use Rattle.std.specs.Prelude.{ℕ, ◌+◌, ◌*◌, ◌≡◌, List, ◌++◌, length, drop}
use Rattle.formats.specs.Plan.{plan_length}
use Rattle.formats.specs.Checks.{first_no}
use Rattle.planner.specs.File.{file_count, out_checks}
use Rattle.planner.specs.Conversion.{plan_of, places_of}

pub record OutArgs (b : List ℕ) (n : ℕ) (p ps : List ℕ) : Type 0 where
  pub passes : first_no (out_checks b (length p) (length ps)) ≡ 0
  pub count : n ≡ file_count b

pub record OutWritten (b p ps q qs : List ℕ) : Type 0 where
  pub plan : q ≡ plan_of b ++ drop (plan_length (2 * file_count b + 1)) p
  pub places : qs ≡ places_of b ++ drop (file_count b) ps

pub record OutDone (b p ps : List ℕ) (r : ℕ) (q qs : List ℕ) : Type 0 where
  pub number : r ≡ first_no (out_checks b (length p) (length ps))
  pub written : r ≡ 0 → OutWritten b p ps q qs
  pub plan_kept : (r ≡ 0 → ⊥) → q ≡ p
  pub places_kept : (r ≡ 0 → ⊥) → qs ≡ ps
