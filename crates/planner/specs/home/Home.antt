-- The contract of going home: what the call answers, and what it writes (document 02, S-2).
--
-- HomeDone p b r c == the number r is the first no of the checks 19, 21 of the plan p; where it is 0 the file's buffer
--   b becomes c: the definition's file, with the excess as it was; else it stays as it was
-- HomeArgs, HomeWritten == the same for a plan that passes
use Rattle.std.specs.Prelude.{ℕ, ◌≡◌, List, ◌++◌, length, drop}
use Rattle.formats.specs.Plan.{plan_tree}
use Rattle.formats.specs.Checks.{first_no}
use Rattle.planner.specs.Siblings.{count, unimage}
use Rattle.planner.specs.File.{file_length, home_checks}
use Rattle.planner.specs.Conversion.{file_of}

pub record HomeArgs (p : List ℕ) (n : ℕ) (b : List ℕ) : Type 0 where
  pub passes : first_no (home_checks p (length b)) ≡ 0
  pub count_is : n ≡ count (unimage (plan_tree p))

abbrev pub HomeWritten : List ℕ → List ℕ → List ℕ → Type 0
HomeWritten p b c = c ≡ file_of p ++ drop (file_length (count (unimage (plan_tree p)))) b

pub record HomeDone (p b : List ℕ) (r : ℕ) (c : List ℕ) : Type 0 where
  pub number : r ≡ first_no (home_checks p (length b))
  pub written : r ≡ 0 → HomeWritten p b c
  pub kept : (r ≡ 0 → ⊥) → c ≡ b
