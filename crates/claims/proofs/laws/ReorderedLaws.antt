-- Lists of calls that differ in the order of lists without repeats alone have the same answers.
--     start-reordered    one Start: the same answer, and the same record once its list is superseded
--     reordered-..       lists of calls, in the three forms
use Prim.Native.Nat.{ℕ, zero, suc}
use mathlib.Core.Path.{◌≡◌, refl, sym, ap, ap₂, ◌∙◌}
use mathlib.Core.Bool.{Bool, true, cond}
use mathlib.Core.List.{List, [], ◌∷◌, zip, Permᴰ}
use native.Mathlib.Decide.{ℕ_discrete}
use lib.ListN.{length, replicate}
use borrow.Author.Tests.{eq-eqb}
use Rattle.list_laws.specs.Tests.{distinct}
use Rattle.formats.specs.Checks.{first_no, list_checks}
use Rattle.formats.specs.Inputs.{Inputs}
use Rattle.runs.proofs.OrderLaws.{list-order}
use Rattle.changes.specs.Entries.{Entry, nodes_listed, labels_listed}
use Rattle.model.specs.Calls.{Call, start, Answer}
use Rattle.model.specs.Refusals.{refusal}
use Rattle.model.specs.Model.{Record, Acted, acted, stage_of, fresh_record, Does, unless, act}
use Rattle.model.proofs.ModelLaws.{start-list}
use Rattle.reference.specs.AgreementTest.{answers_of}
use Rattle.reference.specs.Superseding.{supersede, superseded_nodes, superseded_labels, superseded_record}
use Rattle.reference.proofs.OrderLaws.{start-order}
use Rattle.reference.proofs.SupersedingLaws.{act-superseded}
use Rattle.session.specs.Records.{fresh_session}
use Rattle.session.specs.CallsByValue.{CallByValue}
use Rattle.session.proofs.SessionTheorem.{by-value-history}
use Rattle.session.specs.in_place.CallsInPlace.{CallInPlace}
use Rattle.session.proofs.in_place.InPlaceTheorem.{in-place-history}
use Rattle.capi_session.specs.DecodedAnswers.{Exports}
use Rattle.claims.specs.Histories.{ReorderedCall, same, permuted, Reordered, OrderFree}
use Rattle.claims.proofs.laws.SupersededForms.{history-answers, bytes-history, permuted-superseded}

-- the answer, and the record with its list superseded
abbrev superseding : Acted → Acted
superseding a = acted a.answer (superseded_record a.record')

-- ---- one call

-- the same call on two records that are the same once their lists are superseded
call_same : (r s : Record) (c : Call) → superseded_record r ≡ superseded_record s
    → superseding (act r c) ≡ superseding (act s c)
call_same r s c e =
    sym (act-superseded r c) ∙ ap (λ (q : Record). act q (supersede (stage_of q) c)) e ∙ act-superseded s c

module _ (s : Record) (x : Inputs) (vs bs ws ls : List ℕ) (g : length vs ≡ length bs) (h : length ws ≡ length ls)
    (d : Permᴰ (zip vs bs) (zip ws ls)) (u : distinct vs ≡ true) where
  -- where the list is refused by 12 to 14
  refused-same : (n : ℕ) → refusal (stage_of s) (start x vs bs) ≡ n → (n ≡ 0 → ⊥)
      → act s (start x vs bs) ≡ act s (start x ws ls)
  unfolding act unless
  refused-same zero e z = absurd (z refl)
  refused-same (suc n) e z =
      ap (λ (m : ℕ). unless m s (start x vs bs)) e
      ∙ sym (ap (λ (m : ℕ). unless m s (start x ws ls)) (sym (start-order vs bs ws ls g h d (stage_of s) x) ∙ e))

  -- where it passes: one superseded form
  passed-same : first_no (list_checks s.sizes.n s.sizes.k vs bs) ≡ 0
      → supersede (stage_of s) (start x vs bs) ≡ supersede (stage_of s) (start x ws ls)
  passed-same e =
      let n : ℕ = first_no (list_checks s.sizes.n s.sizes.k vs bs) in
      let m : ℕ = first_no (list_checks s.sizes.n s.sizes.k ws ls) in
      let f : m ≡ 0 = sym (list-order vs bs ws ls g h d s.sizes.n s.sizes.k) ∙ e in
      ap (λ (b : Bool). cond b (start x (superseded_nodes vs bs) (superseded_labels vs bs)) (start x vs bs))
      (eq-eqb n 0 e)
      ∙ ap (λ (l : List Entry). start x (nodes_listed l) (labels_listed l)) (permuted-superseded vs bs ws ls g h d u)
      ∙ sym (ap (λ (b : Bool). cond b (start x (superseded_nodes ws ls) (superseded_labels ws ls)) (start x ws ls))
      (eq-eqb m 0 f))

  start-reordered : superseding (act s (start x vs bs)) ≡ superseding (act s (start x ws ls))
  start-reordered = elim (ℕ_discrete (first_no (list_checks s.sizes.n s.sizes.k vs bs)) 0) [
    | yes e ↦ sym (act-superseded s (start x vs bs)) ∙ ap (act (superseded_record s)) (passed-same e)
        ∙ act-superseded s (start x ws ls)
    | no e ↦ ap superseding (refused-same (refusal (stage_of s) (start x vs bs)) refl
        (λ z. e (start-list (stage_of s) x vs bs z)))
  ]

step_same : (r s : Record) (c d : Call) → superseded_record r ≡ superseded_record s → ReorderedCall c d
    → superseding (act r c) ≡ superseding (act s d)
step_same r s c d e same = call_same r s c e
step_same r s c d e (permuted {x} {vs} {bs} {ws} {ls} g h p u) =
    call_same r s (start x vs bs) e ∙ start-reordered s x vs bs ws ls g h p u

-- ---- lists of calls

answers-same : (r s : Record) (cs ds : List Call) → superseded_record r ≡ superseded_record s → Reordered cs ds
    → answers_of r cs ≡ answers_of s ds
unfolding answers_of
answers-same r s [] [] e w = refl
answers-same r s [] (d ∷ ds) e w = absurd w
answers-same r s (c ∷ cs) [] e w = absurd w
answers-same r s (c ∷ cs) (d ∷ ds) e w =
    let k = step_same r s c d e w.0 in
    ap₂ (λ (a : Answer) (l : List Answer). a ∷ l) (ap (λ (t : Acted). t.answer) k)
    (answers-same (act r c).record' (act s d).record' cs ds (ap (λ (t : Acted). t.record') k) w.1)

reordered-model : OrderFree fresh_record Does
reordered-model cs ds xs ys w h k =
    history-answers fresh_record cs xs h ∙ answers-same fresh_record fresh_record cs ds refl w
    ∙ sym (history-answers fresh_record ds ys k)

pub reordered-by-value : OrderFree fresh_session CallByValue
reordered-by-value cs ds xs ys w h k =
    reordered-model cs ds xs ys w (by-value-history cs xs h) (by-value-history ds ys k)

pub reordered-in-place : OrderFree fresh_session CallInPlace
reordered-in-place cs ds xs ys w h k =
    reordered-by-value cs ds xs ys w (in-place-history cs xs h) (in-place-history ds ys k)

pub reordered-on-bytes : OrderFree (replicate 983 0) Exports
reordered-on-bytes cs ds xs ys w h k = reordered-model cs ds xs ys w (bytes-history cs xs h) (bytes-history ds ys k)
