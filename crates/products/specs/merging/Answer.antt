-- What `merge` promises (document 02, S-6).
--
-- MergeDone first second out a out' == the promise, on every input
use Rattle.std.specs.Prelude.{ℕ, ◌≡◌, List, ◌++◌, length, drop, Result, Ok}
use Rattle.formats.specs.Checks.{first_no}
use Rattle.formats.specs.Refusals.{answer_number}
use Rattle.formats.specs.declared.refusals.Refusal.{Refusal}
use Rattle.products.specs.merging.Merged.{merged_bytes, merge_checks}

pub record MergeDone (first second out : List ℕ) (a : Result Unit Refusal) (out' : List ℕ) : Type 0 where
  -- the first check that fails, or 0
  pub number : answer_number a ≡ first_no (merge_checks first second (length out))
  pub accepted : answer_number a ≡ 0 → a ≡ Ok tt
  -- accepted: the merged table, and behind it what was there
  pub merged : answer_number a ≡ 0 → out' ≡ merged_bytes first second ++ drop (length (merged_bytes first second)) out
  -- refused: nothing is written
  pub refused : (answer_number a ≡ 0 → ⊥) → out' ≡ out
