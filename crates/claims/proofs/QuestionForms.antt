-- A question that is answered to its end, in the three forms of the calls; the ceiling for each part, of the call that
-- handles it.
--     finishes-by-value, finishes-in-place, finishes-on-bytes   no advance given the same is refused, nor is the Read
--                     after the last
--     part-ceiling    an advance adds at most 3 links for each binary digit of the plan's height
use Prim.Native.Nat.{◌+◌, ◌*◌, ◌≤◌}
use mathlib.Core.Path.{◌≡◌, ap, ◌∙◌}
use mathlib.Core.Bool.{Bool, true, cond}
use mathlib.Core.List.{List}
use native.Mathlib.Omega.{arith}
use lib.ListN.{replicate}
use Rattle.trees.specs.Tree.{height}
use Rattle.trees.specs.Climb.{digits}
use Rattle.formats.specs.Plan.{plan_tree}
use Rattle.formats.specs.Inputs.{Inputs}
use Rattle.questions.specs.ready.Parts.{Part}
use Rattle.model.specs.Calls.{advance, Answer}
use Rattle.model.specs.Refusals.{refusal}
use Rattle.model.specs.Model.{Record, fresh_record, Does, stage_of, act}
use Rattle.model.specs.LeftOpen.{Usable}
use Rattle.model.proofs.LayersHold.{layers}
use Rattle.reference.specs.Finished.{QuestionsFinish}
use Rattle.reference.proofs.FinishTheorem.{questions-finish, finish-of}
use Rattle.reference.proofs.PartCeiling.{advance-few}
use Rattle.session.specs.declared.state.Session.{Session}
use Rattle.session.specs.Records.{record_of, session_of, valid, fresh_session}
use Rattle.session.specs.Promises.{record_on, CallDone}
use Rattle.session.specs.CallsByValue.{CallByValue, advances}
use Rattle.session.proofs.Refine.{Represents, fresh-seen, by-value-refines}
use Rattle.session.specs.in_place.CallsInPlace.{CallInPlace}
use Rattle.session.proofs.in_place.InPlaceTheorem.{in-place-history}
use Rattle.capi_session.specs.DecodedAnswers.{Exports}
use Rattle.capi_session.proofs.ExportedRefines.{Encodes, exported-refines, fresh-held}

pub finishes-by-value : QuestionsFinish fresh_session CallByValue
finishes-by-value =
    finish-of CallByValue Does Represents by-value-refines fresh_session fresh_record fresh-seen (questions-finish layers)

pub finishes-in-place : QuestionsFinish fresh_session CallInPlace
finishes-in-place cs xs x vs bs n ws ys l c s h = finishes-by-value cs xs x vs bs n ws ys l c s (in-place-history _ _ h)

pub finishes-on-bytes : QuestionsFinish (replicate 983 0) Exports
finishes-on-bytes =
    finish-of Exports Does Encodes exported-refines (replicate 983 0) fresh_record fresh-held (questions-finish layers)

-- ---- the links of one advance

ceiling : (s s' : Session) (x : Inputs) (a : Answer) (ps : List Part) → CallDone s (advance x) a s' → valid s ≡ true
    → refusal (stage_of (record_of s)) (advance x) ≡ 0 → Usable (record_of s) x ps
    → s'.head.links ≤ s.head.links + 3 * digits (height (plan_tree x.plan))
unfolding record_on record_of session_of
ceiling s s' x a ps D v e U =
    let r : Record = (act (record_of s) (advance x)).record' in
    let is : s'.head.links ≡ r.links =
    ap (λ (u : Session). u.head.links) D.leaves
    ∙ ap (λ (b : Bool). (cond b (session_of r) s).head.links) v in
    omega (arith, is, advance-few (record_of s) x a r ps (D.properties v) e U)

pub part-ceiling : (s s' : Session) (x : Inputs) (a : Answer) (ps : List Part) → CallByValue s (advance x) a s'
    → valid s ≡ true → refusal (stage_of (record_of s)) (advance x) ≡ 0 → Usable (record_of s) x ps
    → s'.head.links ≤ s.head.links + 3 * digits (height (plan_tree x.plan))
part-ceiling s s' x a ps (advances o d) v e U = ceiling s s' x a ps d v e U
