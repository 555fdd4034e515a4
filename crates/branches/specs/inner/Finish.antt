-- The start and the end of a branch question, on the runs of labels, steps and marks.
--
-- first_of reading s k ls st u == first_state on runs
-- numbered s r == the state that the number r names, none where it is no state of s
-- told_of mk a == the answer for the end a of a climb, with the marks mk; StateIn n a == its state is below n
-- FirstArgs .. == what the first state reads is inside its runs
-- AnswerArgs p r node_table bytes u l == what the given headers and lengths say where 17 and 13 pass
use Rattle.std.specs.Prelude.{ℕ, ◌+◌, ◌*◌, ◌≤◌, ◌<◌, ◌≡◌, true, cond, ◌&&◌, List, ltb, eqb, length, get_or, Result, Ok, Err}
use Rattle.std.proofs.Math.Option.{Option, none, some}
use Rattle.formats.specs.Plan.{node_count}
use Rattle.formats.specs.Buffers.{headed_buffers_fit, branch_tables}
use Rattle.formats.specs.declared.refusals.Refusal.{Refusal}
use Rattle.formats.specs.declared.refusals.Refusal.TheVariants.{LentValue}
use Rattle.branches.specs.declared.answers.Reading.{Reading}
use Rattle.branches.specs.declared.answers.Reading.TheVariants.{WithUpper, BelowUpper}
use Rattle.branches.specs.declared.answers.Branched.{Branched}
use Rattle.tables.specs.declared.answers.Climbed.{Climbed}
use Rattle.tables.specs.declared.answers.Climbed.TheVariants.{Reached as To, OutOfRange}

unfoldable pub first_of : Reading → ℕ → ℕ → List ℕ → List ℕ → ℕ → Option ℕ
first_of WithUpper s k ls st u =
    cond (ltb (get_or ls u 0) k && ltb (get_or st (0 * k + get_or ls u 0) 0) s) (some (get_or st (0 * k + get_or ls u 0) 0)) none
first_of BelowUpper s k ls st u = some 0

abbrev pub numbered : ℕ → ℕ → Option ℕ
numbered s r = cond (ltb r s) (some r) none

abbrev pub told_of : List ℕ → Climbed → Result Branched Refusal
told_of mk (To x) = Ok (record { state = x.state; marked = eqb (get_or mk x.state 0) 1; links = x.links; passed = x.passed })
told_of mk OutOfRange = Err LentValue

abbrev pub StateIn : ℕ → Climbed → Type 0
StateIn n (To x) = x.state < n
StateIn n OutOfRange = Unit {0}

pub record FirstArgs (s k : ℕ) (ls st : List ℕ) (u : ℕ) : Type 0 where
  pub least : 1 ≤ s
  pub upper : u < length ls
  pub steps_room : s * k ≤ length st

pub record AnswerArgs (p r node_table state_table : List ℕ) (u l : ℕ) : Type 0 where
  pub fits : headed_buffers_fit branch_tables p r (length node_table) (length state_table) ≡ true
  pub upper : u < node_count p
  pub lower : l < node_count p
