-- What the functions of a whole question require, and what they return.
--
-- AllArgs == what all parts read is inside, and the roots are nodes, at most 254
-- RootArgs == besides, N, S and K are those of the headers, and there is a root
-- LentArgs == the checks before 18 pass
-- answered_for n s k .. ms == what is told for the roots ms, with N, S and K as given; answered_on .. == what is told
--   where the checks before 18 pass
use Rattle.std.specs.Prelude.{ℕ, ◌≤◌, ◌<◌, ◌≡◌, true, List, [], length, get_or}
use Rattle.std.proofs.Math.Option.{Option, some}
use Rattle.trees.specs.Climb.{and_then}
use Rattle.formats.specs.Rules.{state_count, label_count, rule_length}
use Rattle.formats.specs.Checks.{first_no}
use Rattle.formats.specs.Buffers.{limits_fit, buffers_fit}
use Rattle.tables.specs.Climbs.{reached}
use Rattle.questions.specs.PartAnswers.{view_in}
use Rattle.whole_questions.specs.declared.answers.Asked.{Asked}
use Rattle.whole_questions.specs.Question.{handled_from, whole_with, whole_lent, answer_for, listed_checks}

pub record AllArgs (n s k : ℕ) (p r node_table state_table ms vs bs : List ℕ) : Type 0 where
  pub limits : limits_fit n s k ≡ true
  pub lengths : buffers_fit n s (rule_length s k) (length p) (length r) (length node_table) (length state_table) ≡ true
  pub few : length ms ≤ 254
  pub nodes : (i : ℕ) → i < length ms → get_or ms i 0 < n
  pub same_list : length vs ≡ length bs
  pub many_list : length vs ≤ 64

pub record RootArgs (n s k : ℕ) (p r node_table state_table ms vs bs : List ℕ) : Type 0 where
  pub all : AllArgs n s k p r node_table state_table ms vs bs
  pub s_is : s ≡ state_count r
  pub k_is : k ≡ label_count r
  pub some_root : 0 < length ms

pub record LentArgs (p r node_table state_table vs bs : List ℕ) : Type 0 where
  pub passed : first_no (listed_checks p r (length node_table) (length state_table) vs bs) ≡ 0

abbrev pub answered_for : ℕ → ℕ → ℕ → List ℕ → List ℕ → List ℕ → List ℕ → List ℕ → List ℕ → List ℕ → ℕ × Option Asked
answered_for n s k p r node_table state_table ms vs bs =
    answer_for r 0 (and_then (handled_from (view_in n s k p r node_table state_table) vs bs [] [] (reached 0 0 0) ms)
    (λ x. some (whole_with x (length ms))))

abbrev pub answered_on : List ℕ → List ℕ → List ℕ → List ℕ → List ℕ → List ℕ → ℕ × Option Asked
answered_on p r node_table state_table vs bs = answer_for r 0 (whole_lent p r node_table state_table vs bs)
