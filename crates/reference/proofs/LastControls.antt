-- Controls of the last finished answer on plan A, computed: what the reference model settles of Reads after a Cancel, a
-- Start, a Load and an unclean finish, and wrong answers that it turns down.
--     kept_on         Read returns a clean answer in every state: while a question runs, after its Cancel; the next
--                     finish replaces it
--     unclean-over    an unclean question does not spoil it while it runs; its finish replaces it, and is left to the
--                     program
--     by-rule-over    a finish on other bytes below S replaces it, and stays settled by the rule
--     load-empties, refused-load-keeps
--     last-turned-down
use mathlib.Core.Path.{◌≡◌, refl}
use mathlib.Core.Bool.{Bool, true, false}
use mathlib.Core.List.{List, [], ◌∷◌, ◌++◌}
use mathlib.Core.Option.{none, some}
use Rattle.model.specs.Calls.{Call, load, start, advance, cancel, read, Answer, refused, parts, more, finished, outcome_answer}
use Rattle.reference.specs.Reference.{new_reference}
use Rattle.reference.specs.AgreementTest.{agreed}
use Rattle.reference.specs.Sample.{computing, load_a, inputs_a, sample_run, asking}
use Rattle.reference.proofs.Controls.{all, on_node, nothing, other_number, other_state}

-- the question with no change: its answer is 1 yes 1 0; that which sets node 0 to 0 has two parts, and 0 no 2 1
pub kept_on : sample_run (asking [] [] 1
    ++ (on_node inputs_a ∷ read ∷ advance inputs_a ∷ read ∷ cancel ∷ read ∷ on_node inputs_a ∷ advance inputs_a ∷ advance inputs_a ∷ read ∷ []))
    ≡ all (some Answer.accepted ∷ some (parts 1) ∷ some finished ∷ some (outcome_answer 1 true 1 0 0)
    ∷ some (parts 2) ∷ some (outcome_answer 1 true 1 0 0) ∷ some more ∷ some (outcome_answer 1 true 1 0 0) ∷ some Answer.accepted
    ∷ some (outcome_answer 1 true 1 0 0)
    ∷ some (parts 2) ∷ some more ∷ some finished ∷ some (outcome_answer 0 false 2 1 1) ∷ [])
unfolding sample_run asking on_node inputs_a
kept_on = refl

-- number 1 is node 0's jump: an advance on another one is left to the program
pub unclean-over : sample_run (asking [] [] 1
    ++ (on_node inputs_a ∷ advance (other_number 1 6) ∷ read ∷ advance inputs_a ∷ read ∷ on_node inputs_a ∷ read ∷ cancel ∷ read ∷ []))
    ≡ all (some Answer.accepted ∷ some (parts 1) ∷ some finished ∷ some (outcome_answer 1 true 1 0 0)
    ∷ some (parts 2) ∷ none ∷ some (outcome_answer 1 true 1 0 0) ∷ none ∷ none ∷ some (parts 2) ∷ none ∷ some Answer.accepted ∷ none ∷ [])
unfolding sample_run asking on_node inputs_a other_number
unclean-over = refl

-- byte 1 is node 0's map at state 0
pub by-rule-over : sample_run (asking [] [] 1
    ++ (on_node inputs_a ∷ advance inputs_a ∷ advance (other_state 1 1) ∷ read ∷ start inputs_a [] [] ∷ read ∷ cancel ∷ read ∷ []))
    ≡ all (some Answer.accepted ∷ some (parts 1) ∷ some finished ∷ some (outcome_answer 1 true 1 0 0)
    ∷ some (parts 2) ∷ some more ∷ some finished ∷ some (outcome_answer 1 true 2 1 1) ∷ some (parts 1) ∷ some (outcome_answer 1 true 2 1 1)
    ∷ some Answer.accepted ∷ some (outcome_answer 1 true 2 1 1) ∷ [])
unfolding sample_run asking on_node inputs_a other_state
by-rule-over = refl

pub load-empties : sample_run (asking [] [] 1 ++ (load load_a ∷ read ∷ on_node inputs_a ∷ read ∷ cancel ∷ read ∷ []))
    ≡ all (some Answer.accepted ∷ some (parts 1) ∷ some finished ∷ some (outcome_answer 1 true 1 0 0)
    ∷ some Answer.accepted ∷ some (refused 1) ∷ some (parts 2) ∷ some (refused 1) ∷ some Answer.accepted ∷ some (refused 1) ∷ [])
unfolding sample_run asking load_a on_node inputs_a
load-empties = refl

pub refused-load-keeps : sample_run (asking [] [] 1 ++ (load nothing ∷ read ∷ on_node inputs_a ∷ load load_a ∷ read ∷ []))
    ≡ all (some Answer.accepted ∷ some (parts 1) ∷ some finished ∷ some (outcome_answer 1 true 1 0 0)
    ∷ some (refused 2) ∷ some (outcome_answer 1 true 1 0 0) ∷ some (parts 2) ∷ some (refused 1) ∷ some (outcome_answer 1 true 1 0 0) ∷ [])
unfolding sample_run asking load_a on_node inputs_a
refused-load-keeps = refl

-- after the first question: a Start, a Cancel, and a Read that returns the answer; refused; returns the half-done
-- question; after a Load, returns the answer, and refused
unfoldable pub judged_last : List Call → List Answer → Bool
unfolding computing asking
judged_last cs xs =
    agreed new_reference (asking [] [] 1 ++ cs) (Answer.accepted ∷ parts 1 ∷ finished ∷ outcome_answer 1 true 1 0 0 ∷ xs)

pub last-turned-down :
    judged_last (on_node inputs_a ∷ cancel ∷ read ∷ []) (parts 2 ∷ Answer.accepted ∷ outcome_answer 1 true 1 0 0 ∷ [])
    ∷ judged_last (on_node inputs_a ∷ cancel ∷ read ∷ []) (parts 2 ∷ Answer.accepted ∷ refused 1 ∷ [])
    ∷ judged_last (on_node inputs_a ∷ read ∷ []) (parts 2 ∷ refused 1 ∷ [])
    ∷ judged_last (on_node inputs_a ∷ read ∷ []) (parts 2 ∷ outcome_answer 0 false 2 0 0 ∷ [])
    ∷ judged_last (load load_a ∷ read ∷ []) (Answer.accepted ∷ outcome_answer 1 true 1 0 0 ∷ [])
    ∷ judged_last (load load_a ∷ read ∷ []) (Answer.accepted ∷ refused 1 ∷ []) ∷ []
    ≡ true ∷ false ∷ false ∷ false ∷ false ∷ true ∷ []
unfolding judged_last on_node load_a inputs_a
last-turned-down = refl
