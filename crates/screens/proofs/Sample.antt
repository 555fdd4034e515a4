-- A list of screen calls on plan A, computed: three screens, one cancelled, one refused with 18, a Load refused with 1,
-- a finished answer read after a Cancel and gone after a Load. The premises of the theorems can be met, and their words
-- say what they should.
--     sample-answers      the answer of each call
--     sample-references   what the reference models of screens 0, 3 and 5 settle of their calls
--     sample-turns, sample-handed    who was served, and that the number was handed on as returned
--     sample-alone        the same calls of screen 0 with no other screen about: its calls are the same, so are its
--                         answers
--     sample-left         the inputs are what the Load left
--     sample-refused      25 before everything else; 1 where no screen runs; a run of seven records
use Prim.Native.Nat.{ℕ}
use mathlib.Core.Path.{◌≡◌, refl}
use mathlib.Core.Bool.{true, false}
use mathlib.Core.List.{List, [], ◌∷◌}
use mathlib.Core.Option.{Option, none, some}
use lib.ListN.{replicate}
use Rattle.formats.specs.Inputs.{Inputs, sizes_in, same_inputs}
use Rattle.tables.specs.Answers.{written}
use Rattle.model.specs.Calls.{Answer, refused, parts, more, finished}
use Rattle.model.specs.Calls.{outcome_answer}
use Rattle.model.specs.History.{History, done, call}
use Rattle.model.specs.Model.{Record, fresh_record}
use Rattle.reference.specs.Reference.{new_reference}
use Rattle.reference.specs.AgreementTest.{settled_answers}
use Rattle.reference.specs.Sample.{computing, load_a, inputs_a}
use Rattle.reference.proofs.Controls.{other_number}
use Rattle.screens.specs.ScreenCalls.{ScreenCall, load_all, start_on, cancel_on, read_on, deal, ScreenAnswer, one}
use Rattle.screens.specs.ScreenCalls.{loads, deals, answer_in}
use Rattle.screens.specs.ScreenCalls.{nobody_runs, next_running_in, next_running, any_runs, load_target, deal_target}
use Rattle.screens.specs.ScreenCalls.{numbered, target, turn_answer}
use Rattle.screens.specs.EightRecords.{act_on, act_all, DoesAll, eight_fresh}
use Rattle.screens.specs.Projection.{fed_by, still_runs, still_runs_by, project, own_calls, own_answers}
use Rattle.screens.specs.Turns.{turns_of, HandedOn, until}
use Rattle.screens.specs.Statements.{left_by}

unfoldable pub answers_all : List Record → List ScreenCall → List ScreenAnswer
answers_all rs [] = []
answers_all rs (c ∷ cs) = (act_all rs c).answer ∷ answers_all (act_all rs c).records' cs

-- they are a history's
pub history-all : (rs : List Record) (cs : List ScreenCall) → History DoesAll rs cs (answers_all rs cs)
unfolding answers_all
history-all rs [] = done
history-all rs (c ∷ cs) = call (record { tells = refl; leaves = refl }) (history-all (act_all rs c).records' cs)

unfoldable pub computing_screens : ℕ
unfolding computing written answer_in next_running_in next_running any_runs load_target deal_target numbered target turn_answer
    act_on act_all fed_by
    still_runs still_runs_by project turns_of until answers_all
computing_screens = 0

-- node 0's jump leads outside the plan
unfoldable pub outside : Inputs
unfolding other_number inputs_a
outside = other_number 1 60000

unfoldable pub calls : List ScreenCall
calls =
    load_all load_a
    ∷ start_on 0 inputs_a (0 ∷ []) (0 ∷ []) ∷ start_on 3 inputs_a (0 ∷ 3 ∷ []) (0 ∷ 1 ∷ [])
    ∷ start_on 5 inputs_a (4 ∷ []) (0 ∷ [])
    ∷ load_all load_a
    ∷ deal 0 inputs_a ∷ deal 1 inputs_a ∷ cancel_on 3 ∷ deal 4 inputs_a
    ∷ deal 6 outside ∷ deal 6 inputs_a ∷ read_on 0
    ∷ start_on 0 inputs_a [] [] ∷ cancel_on 0 ∷ read_on 0
    ∷ deal 1 inputs_a ∷ deal 6 inputs_a ∷ read_on 5
    ∷ load_all load_a ∷ read_on 0 ∷ []

unfoldable pub told : List ScreenAnswer
told =
    loads 0
    ∷ one (parts 2) ∷ one (parts 5) ∷ one (parts 2)
    ∷ one (refused 1)
    ∷ deals 1 more ∷ deals 4 more ∷ one Answer.accepted ∷ deals 6 more
    ∷ one (refused 18) ∷ deals 1 finished ∷ one (outcome_answer 0 false 2 1 1)
    ∷ one (parts 1) ∷ one Answer.accepted ∷ one (outcome_answer 0 false 2 1 1)
    ∷ deals 6 finished ∷ one (refused 1) ∷ one (outcome_answer 0 false 2 1 1)
    ∷ loads 0 ∷ one (refused 1) ∷ []

pub sample-answers : answers_all eight_fresh calls ≡ told
unfolding computing_screens calls told load_a inputs_a outside
sample-answers = refl

-- ---- each screen's reference model

unfoldable pub settled_of : ℕ → List (Option Answer)
unfolding computing_screens calls told load_a inputs_a outside
settled_of i = settled_answers new_reference (own_calls i nobody_runs calls told) (own_answers i nobody_runs calls told)

-- 18 is left to the program
pub sample-references :
    (settled_of 0 ≡ some Answer.accepted ∷ some (parts 2) ∷ some more ∷ none ∷ some finished
    ∷ some (outcome_answer 0 false 2 1 1)
    ∷ some (parts 1) ∷ some Answer.accepted ∷ some (outcome_answer 0 false 2 1 1) ∷ some Answer.accepted
    ∷ some (refused 1) ∷ [])
    × ((settled_of 3 ≡ some Answer.accepted ∷ some (parts 5) ∷ some more ∷ some Answer.accepted ∷ some Answer.accepted
    ∷ [])
    × (settled_of 5 ≡ some Answer.accepted ∷ some (parts 2) ∷ some more ∷ some finished
    ∷ some (outcome_answer 0 false 2 1 1)
    ∷ some Answer.accepted ∷ []))
unfolding settled_of
sample-references = (refl, (refl, refl))

-- ---- turns

pub sample-turns : turns_of told ≡ 0 ∷ 3 ∷ 5 ∷ 0 ∷ 5 ∷ []
unfolding computing_screens told
sample-turns = refl

pub sample-handed : HandedOn 0 calls told
unfolding calls told
sample-handed = (
  tt,
  (
    tt,
    (
      tt,
      (
        tt,
        (
          tt,
          (refl, (refl, (tt, (refl, (refl, (refl, (tt, (tt, (tt, (tt, (refl, (refl, (tt, (tt, (tt, tt))))))))))))))),
        ),
      ),
    ),
  ),
)

-- ---- alone

unfoldable pub fewer : List ScreenCall
fewer =
    load_all load_a ∷ start_on 0 inputs_a (0 ∷ []) (0 ∷ []) ∷ deal 0 inputs_a ∷ deal 1 outside ∷ deal 1 inputs_a ∷ read_on 0
    ∷ start_on 0 inputs_a [] [] ∷ cancel_on 0 ∷ read_on 0 ∷ load_all load_a ∷ read_on 0 ∷ []

unfoldable pub told_fewer : List ScreenAnswer
told_fewer =
    loads 0 ∷ one (parts 2) ∷ deals 1 more ∷ one (refused 18) ∷ deals 1 finished ∷ one (outcome_answer 0 false 2 1 1)
    ∷ one (parts 1) ∷ one Answer.accepted ∷ one (outcome_answer 0 false 2 1 1) ∷ loads 0 ∷ one (refused 1) ∷ []

pub fewer-answers : answers_all eight_fresh fewer ≡ told_fewer
unfolding computing_screens fewer told_fewer load_a inputs_a outside
fewer-answers = refl

pub sample-alone :
    (own_calls 0 nobody_runs calls told ≡ own_calls 0 nobody_runs fewer told_fewer)
    × (own_answers 0 nobody_runs calls told ≡ own_answers 0 nobody_runs fewer told_fewer)
unfolding computing_screens calls told fewer told_fewer load_a
sample-alone = (refl, refl)

-- ---- the inputs

pub sample-left :
    same_inputs (sizes_in load_a) (left_by load_a) inputs_a ∷ same_inputs (sizes_in load_a) (left_by load_a) outside ∷ [] ≡ true
    ∷ false ∷ []
unfolding computing_screens load_a inputs_a outside
sample-left = refl

-- ---- refusals

pub sample-refused :
    answers_all eight_fresh (start_on 8 inputs_a [] [] ∷ read_on 259 ∷ cancel_on 8 ∷ deal 8 inputs_a ∷ deal 7 inputs_a
    ∷ read_on 7 ∷ [])
    ∷ answers_all (replicate 7 fresh_record) (deal 0 inputs_a ∷ load_all load_a ∷ read_on 0 ∷ []) ∷ []
    ≡ (one (refused 25) ∷ one (refused 25) ∷ one (refused 25) ∷ one (refused 25) ∷ one (refused 1) ∷ one (refused 1)
    ∷ [])
    ∷ (one (refused 25) ∷ one (refused 25) ∷ one (refused 25) ∷ []) ∷ []
unfolding computing_screens load_a inputs_a
sample-refused = refl
