-- A control of document 02's S-7 through the calls, computed: in 01's sample the nodes passed over equal the links in
-- every line, here they do not.
--     gap-told         N 13, the list 1→0, 3→1: 2 parts, 3 links, 5 nodes passed over, which the reference model settles
--     gap-turned-down  and rejects the number of links in their stead, one node less, and one more
use Prim.Native.Nat.{ℕ}
use mathlib.Core.Path.{◌≡◌, refl}
use mathlib.Core.Bool.{Bool, true, false}
use mathlib.Core.List.{List, [], ◌∷◌}
use mathlib.Core.Option.{some}
use lib.ListN.{replicate}
use Rattle.formats.specs.Built.{built_node_table, built_state_table}
use Rattle.formats.specs.Inputs.{Inputs, inputs_of}
use Rattle.model.specs.Calls.{Call, load, start, advance, read, Answer, parts, more, finished, outcome_answer}
use Rattle.reference.specs.Reference.{new_reference}
use Rattle.reference.specs.AgreementTest.{agreed}
use Rattle.reference.specs.Sample.{computing, table_a, sample_run}
use Rattle.reference.proofs.Controls.{all}

-- N 13, labels 0 0 0 0 1 1 1 1 0 1 1 1 0, kinds 0 0 0 0 1 1 0 1 0 1 0 1 1
unfoldable pub plan_gap : List ℕ
plan_gap =
    13 ∷ 0 ∷ 0 ∷ 0 ∷ 12 ∷ 0 ∷ 0 ∷ 0 ∷ 25 ∷ 0 ∷ 0 ∷ 0 ∷ 0 ∷ 0 ∷ 0 ∷ 0 ∷ 1 ∷ 1 ∷ 1 ∷ 1 ∷ 0 ∷ 1 ∷ 1 ∷ 1 ∷ 0
    ∷ 0 ∷ 0 ∷ 0 ∷ 0 ∷ 1 ∷ 1 ∷ 0 ∷ 1 ∷ 0 ∷ 1 ∷ 0 ∷ 1 ∷ 1 ∷ []

unfoldable pub inputs_gap : Inputs
unfolding plan_gap table_a computing
inputs_gap = inputs_of plan_gap table_a (built_node_table plan_gap) (built_state_table plan_gap table_a)

-- Load, Start of 1→0 and 3→1, two advances, Read
unfoldable pub gap_calls : List Call
unfolding plan_gap table_a inputs_gap
gap_calls =
    load (inputs_of plan_gap table_a (replicate 52 9) (replicate 39 9)) ∷ start inputs_gap (1 ∷ 3 ∷ []) (0 ∷ 1 ∷ []) ∷ advance inputs_gap
    ∷ advance inputs_gap ∷ read ∷ []

pub gap-told : sample_run gap_calls
    ≡ all (some Answer.accepted ∷ some (parts 2) ∷ some more ∷ some finished ∷ some (outcome_answer 0 false 2 3 5) ∷ [])
unfolding sample_run gap_calls
gap-told = refl

unfoldable pub judged_gap : ℕ → ℕ → Bool
unfolding computing gap_calls
judged_gap l d = agreed new_reference gap_calls (Answer.accepted ∷ parts 2 ∷ more ∷ finished ∷ outcome_answer 0 false 2 l d ∷ [])

pub gap-turned-down : judged_gap 3 5 ∷ judged_gap 3 3 ∷ judged_gap 3 4 ∷ judged_gap 3 6 ∷ judged_gap 5 3 ∷ []
    ≡ true ∷ false ∷ false ∷ false ∷ false ∷ []
unfolding judged_gap
gap-turned-down = refl
