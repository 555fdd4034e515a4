-- Further statements about the session's calls, in the three forms of the calls where they are about lists of calls.
--     start-place, advance-place, read-places     a refused call leaves every output parameter as it was
--     load-leaves, load-leaves-in-place, load-leaves-bytes     the record after a Load; after a Cancel: LastAnswer
--     load-leaves-inputs, load-then-start, starts-by-value, starts-in-place, starts-on-bytes    a Start right after a
--                                                 Load is accepted
--     reordered-.., order-.., permuted-superseded, refused-reordered, order    the order of a list makes no difference
--     fresh-run-ends, fresh-run-..                Read's state and yes or no are those of the call fresh_run
--     each_part, links-of-parts                   the ceiling on the links, for each part
--     left-open-..                                what is left to the program has its properties
-- Where the words are defined: specs/Histories; `LeftOpen`: model/specs/LeftOpen.
use Prim.Native.Nat.{ℕ, ◌*◌, ◌≤◌}
use mathlib.Core.Path.{◌≡◌, refl}
use mathlib.Core.Bool.{true}
use mathlib.Core.List.{List, zip, Memᴰ, Permᴰ}
use lib.ListN.{length, replicate}
use Rattle.std.specs.Prelude.{Result, Ok}
use Rattle.list_laws.specs.Tests.{holds, distinct}
use Rattle.trees.specs.Tree.{Tree, height}
use Rattle.trees.specs.Climb.{digits}
use Rattle.formats.specs.Checks.{first_no, list_checks}
use Rattle.formats.specs.Inputs.{Inputs, inputs_of, sizes_in}
use Rattle.formats.specs.declared.refusals.Refusal.{Refusal}
use Rattle.runs.specs.declared.answer.Verdict.{Verdict}
use Rattle.runs.specs.FreshRun.{FreshRunDone}
use Rattle.changes.specs.Entries.{entries, superseded}
use Rattle.questions.specs.ready.Members.{roots}
use Rattle.questions.specs.ready.Parts.{part_links, question_links, sum_of}
use Rattle.questions.proofs.ready.PartsRun.{Members}
use Rattle.questions.proofs.ready.ListLaws.{list-members}
use Rattle.model.specs.Calls.{Call, load, start, Answer, parts}
use Rattle.model.specs.Refusals.{Stage, refusal}
use Rattle.model.specs.Model.{loaded_record}
use Rattle.model.specs.LeftOpen.{LeftOpen}
use Rattle.reference.specs.Reference.{part_count, fresh_answer, asked}
use Rattle.reference.proofs.Ceilings.{part-links}
use Rattle.reference.proofs.OrderLaws.{start-order}
use Rattle.reference.proofs.QuestionTheorem.{outcome-order}
use Rattle.reference.specs.Outcomes.{CleanOutcomes}
use Rattle.session.specs.declared.state.Session.{Session}
use Rattle.session.specs.Records.{record_of, session_of, valid, fresh_session}
use Rattle.session.specs.inner.Shapes.{Shaped}
use Rattle.session.specs.CallsByValue.{CallByValue}
use Rattle.session.proofs.SessionTheorem.{by-value-demand-3}
use Rattle.session.specs.in_place.CallsInPlace.{CallInPlace}
use Rattle.session.proofs.in_place.InPlaceTheorem.{in-place-demand-3}
use Rattle.records.specs.Layout.{encoded, decoded, valid_bytes, Bytes}
use Rattle.capi_session.specs.SessionExported.{Places, LoadExported, StartExported, AdvanceExported, ReadExported}
use Rattle.capi_session.specs.DecodedAnswers.{Exports}
use Rattle.capi_session.proofs.ExportedTheorem.{exported-demand-3}
use Rattle.screens.specs.Statements.{left_by}
use Rattle.claims.specs.Lent.{Written}
use Rattle.claims.specs.Histories.{AnyOrder, OrderFree, StartsAfterLoad, answer_state, answer_yes, FreshRunAgrees}
use Rattle.claims.proofs.QuestionForms.{finishes-by-value, finishes-in-place, finishes-on-bytes}
use Rattle.claims.proofs.laws.ByteAnswers.{start-kept, advance-kept, read_kept}
use Rattle.claims.proofs.laws.LoadedRecords as records
use Rattle.claims.proofs.laws.StartLaws.{left_is, starts-after-load}
use Rattle.claims.proofs.laws.LoadThenStart as two-calls
use Rattle.claims.proofs.laws.SupersededForms.{any-order-by-value, any-order-in-place, any-order-on-bytes}
use Rattle.claims.proofs.laws.SupersededForms as order-laws
use Rattle.claims.proofs.laws.ReorderedLaws as reordered
use Rattle.claims.proofs.laws.QuestionEnds as ends
use Rattle.claims.proofs.laws.LeftOpenLaws as open-laws

-- ---- "The first no gives its number; nothing else is returned and nothing is altered.": the output parameters of the
-- exported calls; r is the number that is returned, and the record's bytes stay by refusals-on-bytes (Main)

start-place : (b b' : List ℕ) (c : Call) (r parts₀ parts₁ : ℕ) → StartExported b c r b' parts₀ parts₁ → (r ≡ 0 → ⊥)
    → parts₁ ≡ parts₀
start-place = start-kept

advance-place : (b b' : List ℕ) (c : Call) (r finished₀ finished₁ : ℕ) → AdvanceExported b c r b' finished₀ finished₁
    → (r ≡ 0 → ⊥) → finished₁ ≡ finished₀
advance-place = advance-kept

read-places : (b : List ℕ) (r : ℕ) (before after : Places) → ReadExported b r before after → (r ≡ 0 → ⊥)
    → after ≡ before
read-places = read_kept

-- ---- "Load and Cancel end in loaded with the record exactly as after a first Load of that plan.": for any record
-- before. For Cancel, "in all but that answer": cancel-leaves (LastAnswer)

load-leaves : (s s' : Session) (x : Inputs) (a : Answer) → CallByValue s (load x) a s' → a ≡ Answer.accepted
    → s' ≡ session_of (loaded_record (sizes_in x))
load-leaves = records.value-after-load

load-leaves-in-place : (s s' : Session) (x : Inputs) (a : Answer) → CallInPlace s (load x) a s' → a ≡ Answer.accepted
    → s' ≡ session_of (loaded_record (sizes_in x))
load-leaves-in-place = records.place-after-load

load-leaves-bytes : (b b' : List ℕ) (x : Inputs) (a : Answer) → Exports b (load x) a b' → a ≡ Answer.accepted
    → b' ≡ encoded (session_of (loaded_record (sizes_in x)))
load-leaves-bytes = records.after-load

-- ---- "it may lend what Load wrote"

-- by tables-after-load-on-bytes (Main) and tables-after-load (Forms) an accepted Load leaves the buffers Written
load-leaves-inputs : (x : Inputs) (node_table' state_table' : List ℕ) → Written x node_table' state_table'
    → inputs_of x.plan x.rules node_table' state_table' ≡ left_by x
load-leaves-inputs = left_is

-- two exported calls in a row, on any record: an accepted Load, and a Start that is passed the buffers as it left them
load-then-start : (b b' b'' : List ℕ) (x : Inputs) (node_table' state_table' vs bs : List ℕ) (a : Answer) → Bytes b
    → LoadExported b x 0 b' node_table' state_table' → first_no (list_checks (sizes_in x).n (sizes_in x).k vs bs) ≡ 0
    → Exports b' (start (inputs_of x.plan x.rules node_table' state_table') vs bs) a b''
    → a ≡ parts (part_count (asked (left_by x) vs bs))
load-then-start = two-calls.load-then-start

-- and in every history
starts-by-value : StartsAfterLoad fresh_session CallByValue
starts-by-value = starts-after-load fresh_session CallByValue by-value-demand-3

starts-in-place : StartsAfterLoad fresh_session CallInPlace
starts-in-place = starts-after-load fresh_session CallInPlace in-place-demand-3

starts-on-bytes : StartsAfterLoad (replicate 983 0) Exports
starts-on-bytes = starts-after-load (replicate 983 0) Exports exported-demand-3

-- ---- document 02, S-4: "A list without repeats may still be given in any order": every answer of every list of calls,
-- refused ones included

reordered-by-value : OrderFree fresh_session CallByValue
reordered-by-value = reordered.reordered-by-value

reordered-in-place : OrderFree fresh_session CallInPlace
reordered-in-place = reordered.reordered-in-place

reordered-on-bytes : OrderFree (replicate 983 0) Exports
reordered-on-bytes = reordered.reordered-on-bytes

-- "with repeats the answer is that of the list after superseding": two lists of calls that supersede to the same
order-by-value : AnyOrder fresh_session CallByValue
order-by-value = any-order-by-value

order-in-place : AnyOrder fresh_session CallInPlace
order-in-place = any-order-in-place

order-on-bytes : AnyOrder (replicate 983 0) Exports
order-on-bytes = any-order-on-bytes

module _ (vs bs ws cs : List ℕ) (one_length : length vs ≡ length bs) (one-length' : length ws ≡ length cs)
    (permuted : Permᴰ (zip vs bs) (zip ws cs)) where
  -- two orders of a list without repeats have one superseded form
  permuted-superseded : distinct vs ≡ true → superseded (entries vs bs) ≡ superseded (entries ws cs)
  permuted-superseded = order-laws.permuted-superseded vs bs ws cs one_length one-length' permuted

  -- and a Start with the one is refused as with the other, repeats or not
  refused-reordered : (t : Stage) (x : Inputs) → refusal t (start x vs bs) ≡ refusal t (start x ws cs)
  refused-reordered = start-order vs bs ws cs one_length one-length' permuted

  -- and what holds of an undisturbed question with the one holds with the other
  order : (x : Inputs) → distinct vs ≡ true → (n : ℕ) (ys : List Answer) → CleanOutcomes x vs bs n ys
      → CleanOutcomes x ws cs n ys
  order x = outcome-order x vs bs ws cs one_length one-length' permuted

-- ---- "Read, clean: the root state, and its yes or no, of a fresh run (source document 002's, on Start's plan with the
-- listed labels changed)": of the call fresh_run on Start's plan, rules and list

-- where no check of the Start fails fresh_run ends, with the state and the yes or no of the reference model's answer
fresh-run-ends : (t : Stage) (x : Inputs) (vs bs : List ℕ) → refusal t (start x vs bs) ≡ 0
    → (r : Result Verdict Refusal) → FreshRunDone x.plan x.rules vs bs r
    → r ≡ Ok (record {
      state = answer_state (fresh_answer (asked x vs bs));
      accepted = answer_yes (fresh_answer (asked x vs bs));
    })
fresh-run-ends = ends.fresh-run-ends

fresh-run-by-value : FreshRunAgrees fresh_session CallByValue
fresh-run-by-value = ends.fresh-run-agrees fresh_session CallByValue by-value-demand-3 finishes-by-value

fresh-run-in-place : FreshRunAgrees fresh_session CallInPlace
fresh-run-in-place = ends.fresh-run-agrees fresh_session CallInPlace in-place-demand-3 finishes-in-place

fresh-run-on-bytes : FreshRunAgrees (replicate 983 0) Exports
fresh-run-on-bytes = ends.fresh-run-agrees (replicate 983 0) Exports exported-demand-3 finishes-on-bytes

-- ---- "Only those climbs count as links.": at most three for each binary digit of the plan's greatest depth, of each
-- part of a question with the nodes vs in W

each_part : (t : Tree) (vs : List ℕ) (v : ℕ) → Memᴰ v (roots t vs)
    → part_links t (roots t vs) v ≤ 3 * digits (height t)
unfolding roots
each_part t vs v m =
    let M : Members (λ u. holds u vs) t (roots t vs) = list-members (λ u. holds u vs) t in
    part-links (λ u. holds u vs) t (roots t vs) M v (M.inside v m)

-- and a question's links are the sum of theirs
links-of-parts : (t : Tree) (ms : List ℕ) → question_links t ms ≡ sum_of (part_links t ms) ms
unfolding question_links
links-of-parts t ms = refl

-- ---- "For anything left to the program, its name and its properties stand in the contract": an advance's state, links
-- and nodes passed over, and its 18, of the record after it as the caller has it

left-open-by-value : (s s' : Session) (c : Call) (a : Answer) → Shaped s → valid s ≡ true → CallByValue s c a s'
    → LeftOpen (record_of s) c a (record_of s')
left-open-by-value = open-laws.left-open-by-value

left-open-in-place : (s s' : Session) (c : Call) (a : Answer) → Shaped s → valid s ≡ true → CallInPlace s c a s'
    → LeftOpen (record_of s) c a (record_of s')
left-open-in-place = open-laws.left-open-in-place

left-open-on-bytes : (b b' : List ℕ) (c : Call) (a : Answer) → valid_bytes b ≡ true → Bytes b → Exports b c a b'
    → LeftOpen (record_of (decoded b)) c a (record_of (decoded b'))
left-open-on-bytes = open-laws.left-open-on-bytes
