-- Document 02, S-7: nodes passed over.
--     climb-passes       the number of nodes that a climb passes over is the depth of its start less that of its end
--     between            on tables as built, of a question: at least its links, at most the plan's height for each part
--     told-between       the same of what Reads answer about an undisturbed question
--     stays-valid, stays-valid-on-bytes   for any inputs the record after a call keeps its conditions: links ≤ passed ≤
--                        65,535 for each part handled
--     gap                in the sample they equal the links; here they do not: 2 parts, 3 links, 5 nodes passed over
-- That Read returns the sum over the parts' climbs: demands 2 and 3 (Main), by fresh_answer (reference/specs/Reference).
use Prim.Native.Nat.{ℕ, ◌-◌, ◌*◌, ◌≤◌, ◌<◌}
use mathlib.Core.Path.{◌≡◌}
use mathlib.Core.Bool.{Bool, true, false}
use mathlib.Core.List.{List, [], ◌∷◌}
use mathlib.Core.Option.{some}
use lib.ListN.{length}
use Rattle.trees.specs.Tree.{Tree, size, height}
use Rattle.trees.specs.Numbering.{depth}
use Rattle.trees.specs.Climb.{Move, forest_of, climb}
use Rattle.trees.specs.Passed.{passed_by}
use Rattle.trees.proofs.PassedLaws.{climb-passed}
use Rattle.formats.specs.Plan.{plan_tree}
use Rattle.formats.specs.Inputs.{Inputs}
use Rattle.questions.specs.ready.Members.{ready_list}
use Rattle.questions.specs.ready.Parts.{question_links, question_passed}
use Rattle.questions.proofs.ready.PassedLaws.{question-passed}
use Rattle.model.specs.Calls.{Call, Answer, parts, more, finished, outcome_answer}
use Rattle.reference.specs.Undisturbed.{EveryOutcomeAfter}
use Rattle.reference.specs.Outcomes.{CleanOutcomes}
use Rattle.reference.specs.Sample.{sample_run}
use Rattle.reference.proofs.Controls.{all}
use Rattle.controls.proofs.PassedControls.{gap_calls, gap-told}
use Rattle.session.specs.declared.state.Session.{Session}
use Rattle.session.specs.Records.{valid}
use Rattle.session.specs.CallsByValue.{CallByValue, loads, starts, advances, cancels, reads}
use Rattle.records.specs.Layout.{valid_bytes, Bytes}
use Rattle.capi_session.specs.DecodedAnswers.{Exports}
use Rattle.capi_session.proofs.ExportedRefines.{record-stays}

-- "how many nodes it passed over, that is the depth of its start less the depth of its end"
climb-passes : (t : Tree) (w to : ℕ) (ms : List Move) → w < size t → to ≤ depth t w → climb (forest_of t) w to ≡ some ms
    → passed_by (forest_of t) w ms ≡ depth t w - to
climb-passes = climb-passed

between : (w : ℕ → Bool) (t : Tree)
    → (question_links t (ready_list w t) ≤ question_passed t (ready_list w t))
    × (question_passed t (ready_list w t) ≤ length (ready_list w t) * height t)
between = question-passed

told-between : (x : Inputs) (vs bs : List ℕ) (n : ℕ) (ys : List Answer) → CleanOutcomes x vs bs n ys
    → EveryOutcomeAfter (λ o. o.links ≤ o.passed) ys
    × EveryOutcomeAfter (λ o. o.passed ≤ o.parts * height (plan_tree x.plan)) ys
told-between x vs bs n ys C = (C.passed_least, C.passed_most)

stays-valid : (s s' : Session) (c : Call) (a : Answer) → CallByValue s c a s' → valid s ≡ true → valid s' ≡ true
stays-valid s s' c a (loads o node_table state_table d) v = d.call.stays v
stays-valid s s' c a (starts o d) v = d.stays v
stays-valid s s' c a (advances o d) v = d.stays v
stays-valid s s' c a (cancels o d) v = d.stays v
stays-valid s s' c a (reads o d) v = v

stays-valid-on-bytes : (b b' : List ℕ) (c : Call) (a : Answer) → Exports b c a b' → valid_bytes b ≡ true → Bytes b
    → valid_bytes b' ≡ true
stays-valid-on-bytes = record-stays

-- N 13, kinds 0 0 0 0 1 1 0 1 0 1 0 1 1, labels 0 0 0 0 1 1 1 1 0 1 1 1 0, the list 1→0, 3→1, table A
gap : sample_run gap_calls
    ≡ all (some Answer.accepted ∷ some (parts 2) ∷ some more ∷ some finished ∷ some (outcome_answer 0 false 2 3 5) ∷ [])
gap = gap-told
