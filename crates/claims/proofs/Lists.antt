-- What is claimed of lists of changes (document 02, S-4, S-5 and S-12), each proved by citing what is below.
--     superseding, laying-over, rising, nothing-else    what the two operations are, without their definitions
--     lay-tied, lay-numbers, lay-lists, lay-refused     what the exported call whatif_lay_over returns
--     changed-by, repeats-..                    a list with repeats has the answers of its superseded form
--     left_out, left, as_before, fewer-parts, either_way    changes that change nothing
--     associative, empty, itself, swapped       the laws of laying over
--     associative-call, empty-call, itself-call, swapped-call    with its numbers
--     associative-calls, empty-below-calls, empty-above-calls, itself-calls, swapped-calls    of what exported calls
--                                               return
--     twice-changed, still-a-plan               plans
--     on-a-changed-plan, over-by-value, over-in-place, over-on-bytes    questions
-- What a word of a statement means: tools/believe, docs/PROVED.md.
use Prim.Native.Nat.{ℕ, ◌≤◌, ◌<◌}
use mathlib.Core.Path.{◌≡◌, sym, ◌∙◌}
use mathlib.Core.Bool.{Bool, true, false}
use mathlib.Core.List.{List, [], ◌∷◌}
use mathlib.Core.Logic.{◌↔◌}
use mathlib.Core.Option.{or_else}
use lib.ListN.{length, get_or, take, replicate}
use contract.Lifetimes.{Lfts}
use borrow.Fn.World.{ArgsD, ResD}
use borrow.Fn.Kinds.{ended_of}
use denote.Triple.Clauses.{AtExit}
use Rattle.trees.specs.Changes.{changed}
use Rattle.list_laws.specs.Tests.{holds}
use Rattle.formats.specs.Plan.{node_count, plan_tree}
use Rattle.formats.specs.Rules.{label_count}
use Rattle.formats.specs.Checks.{first_no, list_checks, rule_table_checks}
use Rattle.formats.specs.Inputs.{Inputs, Sizes, state_table_built}
use Rattle.formats.specs.inner.InnerChecks.{lists_fit}
use Rattle.formats.specs.Passing.{PlanPasses}
use Rattle.formats.specs.Passing.{Built}
use Rattle.changes.specs.Entries.{Entry, entries, nodes_listed, labels_listed, last_label, superseded, laid_over}
use Rattle.changes.specs.Entries.{RisingNodes}
use Rattle.changes.specs.LayOver.{laid, lay_number}
use Rattle.changes.specs.ChangedPlan.{changed_plan}
use Rattle.changes.specs.Differing.{differing, differs}
use Rattle.changes.proofs.DifferingLaws.{differing-is, unlisted-same}
use Rattle.questions.specs.ready.Members.{roots}
use Rattle.questions.specs.ready.Parts.{parts_of, last_state}
use Rattle.changes.proofs.LaidLaws.{superseded-only, laid-rises, laid-labels, laid-only, over-assoc, over-empty}
use Rattle.changes.proofs.LaidLaws.{over-self, over-swap}
use Rattle.changes.specs.Entries.{Apart}
use Rattle.changes.proofs.ChangedLaws.{changed-superseded}
use Rattle.changes.proofs.Theorems.{lay-assoc, lay-empty, lay-self, lay-swap}
use Rattle.changes.specs.LayOver.{LeftFirst, RightFirst}
use Rattle.changes.proofs.PlanOver.{plan-over, plan-passes}
use Rattle.capi.specs.list_calls.ListsExported.{LayExported}
use Rattle.capi.specs.contracts.list_calls.whatif_lay_over as lay-fn
use Rattle.capi.proofs.list_calls.whatif_lay_over.Kinds as lay-kinds
use Rattle.capi.proofs.list_calls.whatif_lay_over.Reads as lay-reads
use Rattle.capi.proofs.list_calls.Ties as ties
use Rattle.model.specs.Calls.{Answer}
use Rattle.reference.specs.Reference.{Question, roots_of, part_count, given_by}
use Rattle.reference.specs.Undisturbed.{EveryOutcomeAfter}
use Rattle.questions.proofs.FreshLaws.{whole-state, whole_before}
use Rattle.reference.proofs.Ceilings.{parts-never-rise}
use Rattle.reference.proofs.Controls.{inputs_five, with_left, with_listed, links-either-way}
use Rattle.reference.specs.Outcomes.{CleanOutcomes}
use Rattle.reference.proofs.OverTheorem.{question-over}
use Rattle.reference.specs.Outcomes.{Tells}
use Rattle.session.specs.Records.{fresh_session}
use Rattle.session.specs.CallsByValue.{CallByValue}
use Rattle.session.proofs.SessionTheorem.{by-value-demand-3}
use Rattle.session.specs.in_place.CallsInPlace.{CallInPlace}
use Rattle.session.proofs.in_place.InPlaceTheorem.{in-place-demand-3}
use Rattle.capi_session.specs.DecodedAnswers.{Exports}
use Rattle.capi_session.proofs.ExportedTheorem.{exported-demand-3}
use Rattle.claims.specs.Lent.{HandsBack}
use Rattle.claims.specs.Histories.{Superseded, StateOver}
use Rattle.claims.proofs.QuestionForms.{finishes-by-value, finishes-in-place, finishes-on-bytes}
use Rattle.claims.proofs.laws.SupersededForms.{superseded-by-value, superseded-in-place, superseded-exported}
use Rattle.claims.proofs.laws.LayCalls as calls
use Rattle.claims.proofs.laws.QuestionEnds.{state-over-ends}

-- ---- S-4

-- "A list may now name a node several times and the last entry holds."
superseding : (l m : List Entry) → RisingNodes m → ((v : ℕ) → last_label v m ≡ last_label v l) → m ≡ superseded l
superseding = superseded-only

-- "all nodes of both, the upper list's label where both name one, handed back by value in rising node number"
laying-over : (a b : List Entry) (v : ℕ) → last_label v (laid_over a b) ≡ or_else (last_label v b) (last_label v a)
laying-over = laid-labels

rising : (a b : List Entry) → RisingNodes (laid_over a b)
rising = laid-rises

nothing-else : (a b l : List Entry) → RisingNodes l
    → ((v : ℕ) → last_label v l ≡ or_else (last_label v b) (last_label v a)) → l ≡ laid_over a b
nothing-else = laid-only

-- the same of the call: what its contract says, as the prover reads it off the source, is LayExported
lay-tied : (κs : Lfts 7) (a : ArgsD lay-fn.signature κs) (r : ResD lay-fn.signature κs)
    (s : AtExit (ended_of 7 lay-kinds.ps lay-kinds.r) κs) → lay-reads.Post κs a r s
    → LayExported a.0.now a.1.0.now a.1.1.0.now a.1.1.1.0.now a.1.1.1.1.0.now
    a.1.1.1.1.1.0.now a.1.1.1.1.1.1.0.now r s.1.1.1.1.0.now s.1.1.1.1.1.0.now
    s.1.1.1.1.1.1.0.now
lay-tied = ties.lay-tied

module _ (lvs lbs uvs ubs nodes labels : List ℕ) (count r : ℕ) (nodes' labels' : List ℕ) (count' : ℕ)
    (E : LayExported lvs lbs uvs ubs nodes labels count r nodes' labels' count') where
  -- "laying over gives 22 when more than 64 nodes would remain, after 12 for either list": with room for 64 entries no
  -- other number is returned
  lay-numbers : 64 ≤ length nodes → 64 ≤ length labels → r ≡ lay_number lvs lbs uvs ubs
  lay-numbers = calls.lay-number lvs lbs uvs ubs nodes labels count r nodes' labels' count' E

  -- "handed back by value in rising node number"
  lay-lists : r ≡ 0 → HandsBack (laid lvs lbs uvs ubs) nodes' labels' count'
  lay-lists = ties.told-lists lvs lbs uvs ubs nodes labels count r nodes' labels' count' E

  -- "nothing else is returned and nothing is altered"
  lay-refused : (r ≡ 0 → ⊥) → (nodes' ≡ nodes) × (labels' ≡ labels) × (count' ≡ count)
  lay-refused = ties.refused-keeps lvs lbs uvs ubs nodes labels count r nodes' labels' count' E

-- "with repeats the answer is that of the list after superseding": of the labels, and of every answer of every list of
-- calls, for any inputs
changed-by : (ls vs bs : List ℕ)
    → changed ls vs bs
    ≡ changed ls (nodes_listed (superseded (entries vs bs))) (labels_listed (superseded (entries vs bs)))
changed-by = changed-superseded

repeats-by-value : Superseded fresh_session CallByValue
repeats-by-value = superseded-by-value

repeats-in-place : Superseded fresh_session CallInPlace
repeats-in-place = superseded-in-place

repeats-on-record-bytes : Superseded (replicate 983 0) Exports
repeats-on-record-bytes = superseded-exported

-- ---- S-5

-- "A listed node whose label equals the plan's is left out of W from now on, after superseding.": what is not left has
-- the label that it had
left_out : (ls vs bs : List ℕ) (v : ℕ) → holds v (differing ls vs bs) ≡ false
    → get_or (changed ls vs bs) v 0 ≡ get_or ls v 0
left_out = unlisted-same

-- and what is left was listed, and its label, as changed, is another
left : (ls vs bs : List ℕ) (v : ℕ) → length vs ≡ length bs → v < length ls
    → holds v (differing ls vs bs) ≡ differs ls vs bs v
left = differing-is

-- "On tables as built the answer is as before": the last part, the plan's root, has the state that it has with all
-- listed nodes in W
as_before : (z : Sizes) (q : Question) → Built z q.inputs → state_table_built z q.inputs ≡ true
    → last_state (parts_of (given_by z q q.inputs) (roots_of q)) 0
    ≡ last_state (parts_of (given_by z q q.inputs) (roots (plan_tree q.inputs.plan) q.nodes)) 0
as_before z q B e =
    whole-state z q.inputs q.nodes q.labels B e ∙ sym (whole_before z q.inputs q.nodes q.labels B e)

-- "parts and advances needed never rise": of what every form answers, few and never_more of CleanOutcomes (Main,
-- finished-answers)
fewer-parts : (q : Question) → part_count q ≤ length (roots (plan_tree q.inputs.plan) q.nodes)
fewer-parts = parts-never-rise

-- "links may go either way": parts and links with all listed nodes in W, and with those that are left
either_way :
    (with_listed (inputs_five (0 ∷ 0 ∷ 0 ∷ 1 ∷ 0 ∷ [])) (2 ∷ 3 ∷ []) ≡ 3 ∷ 0 ∷ [])
    × (with_left (inputs_five (0 ∷ 0 ∷ 0 ∷ 1 ∷ 0 ∷ [])) (2 ∷ 3 ∷ []) (1 ∷ 1 ∷ []) ≡ 2 ∷ 1 ∷ [])
    × (with_listed (inputs_five (0 ∷ 1 ∷ 1 ∷ 0 ∷ 0 ∷ [])) (2 ∷ []) ≡ 2 ∷ 1 ∷ [])
    × (with_left (inputs_five (0 ∷ 1 ∷ 1 ∷ 0 ∷ 0 ∷ [])) (2 ∷ []) (1 ∷ []) ≡ 1 ∷ 0 ∷ [])
either_way = links-either-way

-- ---- S-12

-- "laying over is associative, the empty list on either side gives the other's superseded form in rising node number,
-- and so does a list over itself, and two lists that share no node may be swapped"
associative : (a b c : List Entry) → laid_over (laid_over a b) c ≡ laid_over a (laid_over b c)
associative = over-assoc

empty : (a : List Entry) → (laid_over [] a ≡ superseded a) × (laid_over a [] ≡ superseded a)
empty = over-empty

itself : (a : List Entry) → laid_over a a ≡ superseded a
itself = over-self

swapped : (a b : List Entry) → Apart a b → laid_over a b ≡ laid_over b a
swapped = over-swap

-- "Where neither 12 nor 22 occurs": the same with the numbers. Neither bracketing is refused where the other is not
associative-call : (avs abs bvs bbs cvs cbs : List ℕ)
    → (LeftFirst avs abs bvs bbs cvs cbs ↔ RightFirst avs abs bvs bbs cvs cbs)
    × (laid (nodes_listed (laid avs abs bvs bbs)) (labels_listed (laid avs abs bvs bbs)) cvs cbs
    ≡ laid avs abs (nodes_listed (laid bvs bbs cvs cbs)) (labels_listed (laid bvs bbs cvs cbs)))
associative-call = lay-assoc

empty-call : (vs bs : List ℕ) → lists_fit vs bs ≡ true
    → (lay_number [] [] vs bs ≡ 0) × (laid [] [] vs bs ≡ superseded (entries vs bs)) × (lay_number vs bs [] [] ≡ 0)
    × (laid vs bs [] [] ≡ superseded (entries vs bs))
empty-call = lay-empty

itself-call : (vs bs : List ℕ) → lists_fit vs bs ≡ true
    → (lay_number vs bs vs bs ≡ 0) × (laid vs bs vs bs ≡ superseded (entries vs bs))
itself-call = lay-self

swapped-call : (lvs lbs uvs ubs : List ℕ) → Apart (entries lvs lbs) (entries uvs ubs)
    → (lay_number lvs lbs uvs ubs ≡ lay_number uvs ubs lvs lbs) × (laid lvs lbs uvs ubs ≡ laid uvs ubs lvs lbs)
swapped-call = lay-swap

-- and of what accepted calls of whatif_lay_over hand back: b over a is handed back and c laid over that, c over b is
-- handed back and that laid over a
associative-calls : (avs abs bvs bbs cvs cbs n₁ l₁ n₂ l₂ n₃ l₃ n₄ l₄ : List ℕ) (c₁ c₂ c₃ c₄ : ℕ)
    (n₁' l₁' n₂' l₂' n₃' l₃' n₄' l₄' : List ℕ) (c₁' c₂' c₃' c₄' : ℕ)
    → LayExported avs abs bvs bbs n₁ l₁ c₁ 0 n₁' l₁' c₁'
    → LayExported (take c₁' n₁') (take c₁' l₁') cvs cbs n₂ l₂ c₂ 0 n₂' l₂' c₂'
    → LayExported bvs bbs cvs cbs n₃ l₃ c₃ 0 n₃' l₃' c₃'
    → LayExported avs abs (take c₃' n₃') (take c₃' l₃') n₄ l₄ c₄ 0 n₄' l₄' c₄'
    → (take c₂' n₂' ≡ take c₄' n₄') × (take c₂' l₂' ≡ take c₄' l₄')
associative-calls = ties.told-associative

module _ (vs bs nodes labels : List ℕ) (count : ℕ) (nodes' labels' : List ℕ) (count' : ℕ) where
  empty-below-calls : LayExported [] [] vs bs nodes labels count 0 nodes' labels' count'
      → HandsBack (superseded (entries vs bs)) nodes' labels' count'
  empty-below-calls = calls.empty-below vs bs nodes labels count nodes' labels' count'

  empty-above-calls : LayExported vs bs [] [] nodes labels count 0 nodes' labels' count'
      → HandsBack (superseded (entries vs bs)) nodes' labels' count'
  empty-above-calls = calls.empty-above vs bs nodes labels count nodes' labels' count'

  itself-calls : LayExported vs bs vs bs nodes labels count 0 nodes' labels' count'
      → HandsBack (superseded (entries vs bs)) nodes' labels' count'
  itself-calls = calls.over-itself vs bs nodes labels count nodes' labels' count'

swapped-calls : (avs abs bvs bbs n₁ l₁ n₂ l₂ : List ℕ) (c₁ c₂ : ℕ) (n₁' l₁' n₂' l₂' : List ℕ) (c₁' c₂' : ℕ)
    → Apart (entries avs abs) (entries bvs bbs)
    → LayExported avs abs bvs bbs n₁ l₁ c₁ 0 n₁' l₁' c₁' → LayExported bvs bbs avs abs n₂ l₂ c₂ 0 n₂' l₂' c₂'
    → (take c₁' n₁' ≡ take c₂' n₂') × (take c₁' l₁' ≡ take c₂' l₂')
swapped-calls = calls.swapped-lists

-- "changing a plan by one and then by another gives the plan changed by the second laid over the first"
twice-changed : (p vs bs us cs : List ℕ) → PlanPasses p
    → changed_plan (changed_plan p vs bs) us cs
    ≡ changed_plan p (nodes_listed (laid_over (entries vs bs) (entries us cs)))
    (labels_listed (laid_over (entries vs bs) (entries us cs)))
twice-changed = plan-over

still-a-plan : (p r vs bs : List ℕ) → first_no (rule_table_checks p r) ≡ 0
    → first_no (list_checks (node_count p) (label_count r) vs bs) ≡ 0
    → first_no (rule_table_checks (changed_plan p vs bs) r) ≡ 0
still-a-plan = plan-passes

-- "a question with the second on the plan changed by the first has the state of a question with the second laid over
-- the first on the plan itself, each on tables built from its own plan and left alone": for any answers to the two
-- questions. CleanOutcomes is what finished-answers (Main) and undisturbed-.. (Forms) give of each
on-a-changed-plan : (x y : Inputs) (vs bs us cs : List ℕ) → PlanPasses x.plan
    → y.plan ≡ changed_plan x.plan vs bs → y.rules ≡ x.rules
    → (n m : ℕ) (ys zs : List Answer) → CleanOutcomes y us cs n ys
    → CleanOutcomes x (nodes_listed (laid_over (entries vs bs) (entries us cs)))
    (labels_listed (laid_over (entries vs bs) (entries us cs))) m zs
    → (q : ℕ) × (b : Bool) × EveryOutcomeAfter (Tells q b) ys × EveryOutcomeAfter (Tells q b) zs
on-a-changed-plan = question-over

-- and where both are carried to their end both are answered, with one state and one yes or no
over-by-value : StateOver fresh_session CallByValue
over-by-value = state-over-ends fresh_session CallByValue by-value-demand-3 finishes-by-value

over-in-place : StateOver fresh_session CallInPlace
over-in-place = state-over-ends fresh_session CallInPlace in-place-demand-3 finishes-in-place

over-on-bytes : StateOver (replicate 983 0) Exports
over-on-bytes = state-over-ends (replicate 983 0) Exports exported-demand-3 finishes-on-bytes
