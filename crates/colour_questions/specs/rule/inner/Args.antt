-- What the functions of a rule question by colours require, and what they promise.
--
-- AllArgs == what all parts read is inside, and the roots are nodes, at most 254; AllDone L vs bs ms r == r is what
--   comes of all parts of the roots ms, with at most 60 drops for each
-- RootArgs, LentArgs == what the functions of the question read is inside
-- answered_for n s k .. ms == what is told for the roots ms, with N, S and K as given; answered_on .. == what is told
--   where the checks before 18 pass
use Rattle.std.specs.Prelude.{ℕ, ◌+◌, ◌*◌, ◌≤◌, ◌<◌, ◌^◌, ◌≡◌, true, List, [], length, get_or, drop, Option as Given}
use Rattle.std.proofs.Math.Option.{Option, some}
use Rattle.trees.specs.Climb.{and_then}
use Rattle.formats.specs.Plan.{node_count}
use Rattle.formats.specs.Rules.{state_count, label_count, rule_length}
use Rattle.formats.specs.Checks.{first_no, state_table_length}
use Rattle.formats.specs.Buffers.{limits_fit, buffers_fit}
use Rattle.questions.specs.PartAnswers.{view_in}
use Rattle.colours.specs.StateSets.{tried}
use Rattle.colour_questions.specs.declared.target_states.trials.Trial.{Trial}
use Rattle.colour_questions.specs.target_states.Trials.{trial_of, FewIn}
use Rattle.colour_questions.specs.parts.Part.{ColourView, handled_from}
use Rattle.colour_questions.specs.parts.inner.Args.{PartReads}
use Rattle.colour_questions.specs.declared.rule.answers.RuleAsked.{RuleAsked}
use Rattle.colour_questions.specs.rule.Question.{handled, rule_answer, asked_on, asked_checks}

pub record AllArgs (n s k m : ℕ) (ls ks lv inn node_table state_table numbers copies vs bs ms : List ℕ) : Type 0 where
  pub reads : PartReads n s k m ls ks lv inn node_table state_table numbers copies vs bs
  pub few : length ms ≤ 254
  pub nodes : (i : ℕ) → i < length ms → get_or ms i 0 < n

pub record AllDone (L : ColourView) (vs bs ms : List ℕ) (r : Given Trial) : Type 0 where
  pub result : r ≡ trial_of (handled_from L vs bs [] [] (tried 0 []) ms)
  pub bounds : 0 < length ms → FewIn L.view.s (length ms * 60) r

abbrev pub lent_as : ℕ → ℕ → ℕ → List ℕ → List ℕ → List ℕ → List ℕ → List ℕ → List ℕ → ColourView
lent_as n s k p r node_table state_table numbers bytes = record {
  view = view_in n s k p r node_table state_table;
  numbers = numbers;
  copies = drop (state_table_length n s) bytes;
}

-- what is told for the roots ms
abbrev pub answered_for : ℕ → ℕ → ℕ → List ℕ → List ℕ → List ℕ → List ℕ → List ℕ → List ℕ → List ℕ → List ℕ → List ℕ
    → ℕ × Option RuleAsked
answered_for n s k p r node_table state_table numbers bytes vs bs ms =
    rule_answer r 0 (and_then (handled_from (lent_as n s k p r node_table state_table numbers bytes) vs bs [] [] (tried 0 [])
    ms)
    (λ x. some (handled x (length ms))))

pub record RootArgs (n s k : ℕ) (p r node_table state_table numbers bytes vs bs ms : List ℕ) : Type 0 where
  pub limits : limits_fit n s k ≡ true
  pub lengths : buffers_fit n s (rule_length s k) (length p) (length r) (length node_table) (length state_table) ≡ true
  pub n_is : n ≡ node_count p
  pub s_is : s ≡ state_count r
  pub k_is : k ≡ label_count r
  pub states : s ≤ 4
  pub numbers_room : 2 ^ s * (n * 4) ≤ length numbers
  pub bytes_room : n * (s + 1) + n * 2 ^ s ≤ length bytes
  pub some_root : 0 < length ms
  pub few : length ms ≤ 254
  pub nodes : (i : ℕ) → i < length ms → get_or ms i 0 < n
  pub same_list : length vs ≡ length bs
  pub many_list : length vs ≤ 64

abbrev pub answered_on : List ℕ → List ℕ → List ℕ → List ℕ → List ℕ → List ℕ → List ℕ → List ℕ → ℕ × Option RuleAsked
answered_on p r node_table state_table numbers bytes vs bs =
    rule_answer r 0 (asked_on p r node_table state_table numbers bytes vs bs)

pub record LentArgs (p r node_table state_table numbers bytes vs bs : List ℕ) : Type 0 where
  pub passed : first_no (asked_checks p r (length node_table) (length state_table) (length numbers) (length bytes) vs bs)
      ≡ 0
