-- Document 01's sample clearance through the calls and the reference model, computed.
--     sample-rows      the nine rows
use mathlib.Core.Path.{◌≡◌, refl}
use mathlib.Core.Bool.{true, false}
use mathlib.Core.List.{[], ◌∷◌}
use mathlib.Core.Option.{some}
use Rattle.formats.specs.Inputs.{sound}
use Rattle.model.specs.Calls.{refused, outcome_answer}
use Rattle.reference.specs.Sample.{inputs_a, row, start_row}

pub tables-A :
    (inputs_a.node_table ≡ 2 ∷ 2 ∷ 2 ∷ 1 ∷ 2 ∷ 2 ∷ 2 ∷ 1 ∷ 6 ∷ 6 ∷ 1 ∷ 3 ∷ 5 ∷ 5 ∷ 2 ∷ 1 ∷ 5 ∷ 5 ∷ 2 ∷ 1 ∷ 6 ∷ 6 ∷ 1 ∷ 3 ∷ 6
    ∷ 6 ∷ 0 ∷ 7 ∷ [])
    × (sound (record { n = 7; s = 2; k = 2 }) inputs_a ≡ true)
unfolding inputs_a
tables-A = (refl, refl)

-- ---- lists of calls

-- the reference model settles each row, from the calls alone
pub sample-rows :
    row [] [] 1 ∷ row (0 ∷ []) (0 ∷ []) 2 ∷ row (0 ∷ 2 ∷ []) (0 ∷ 0 ∷ []) 3 ∷ row (0 ∷ 3 ∷ []) (0 ∷ 1 ∷ []) 5
    ∷ row (4 ∷ []) (0 ∷ []) 2 ∷ row (6 ∷ []) (0 ∷ []) 1
    ∷ start_row (7 ∷ []) (0 ∷ []) ∷ start_row (0 ∷ []) (2 ∷ []) ∷ row (0 ∷ 0 ∷ []) (0 ∷ 1 ∷ []) 1 ∷ []
    ≡ some (outcome_answer 1 true 1 0 0) ∷ some (outcome_answer 0 false 2 1 1) ∷ some (outcome_answer 1 true 3 0 0) ∷ some (outcome_answer 0 false 5 0 0)
    ∷ some (outcome_answer 0 false 2 1 1) ∷ some (outcome_answer 1 true 1 0 0)
    ∷ some (refused 13) ∷ some (refused 14) ∷ some (outcome_answer 1 true 1 0 0) ∷ []
unfolding row start_row
sample-rows = refl
