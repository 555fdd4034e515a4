-- "with repeats the answer is that of the list after superseding" (document 02, S-4).
--     roots-superseded    the same nodes are left in W, and so the parts have the same roots
--     parts-superseded, fresh-superseded    so are the number of parts and the answer of a clean question
--     refusal-superseded  a Start whose list passes 12 to 14 is refused as with its list superseded
--     act-superseded      one call
--     superseding-tells   every answer of every list of calls, for any inputs
use Prim.Native.Nat.{ℕ, zero, suc}
use mathlib.Core.Path.{◌≡◌, refl, sym, ap, ap₂, ◌∙◌}
use mathlib.Core.Bool.{Bool, true, false, cond}
use mathlib.Core.List.{List, [], ◌∷◌}
use mathlib.Core.Option.{Option, none, some}
use native.Mathlib.Decide.{ℕ_discrete}
use lib.Dec.{eqb}
use lib.ListN.{length, get_or, take}
use borrow.Author.Tests.{eq-eqb, ne_eqb}
use Rattle.trees.specs.Tree.{Tree}
use Rattle.trees.specs.Changes.{changed}
use Rattle.trees.specs.Postorder.{tree_of}
use Rattle.trees.specs.Automaton.{state, accepts}
use Rattle.formats.specs.Plan.{plan_tree, labels_within, kinds_in}
use Rattle.formats.specs.Rules.{rule_automaton}
use Rattle.formats.specs.Checks.{check, first_no, list_checks}
use Rattle.formats.specs.Inputs.{Inputs, Sizes, sizes_in, fits, sound}
use Rattle.formats.proofs.InputLaws.{list-numbered}
use Rattle.changes.specs.Entries.{entries, nodes_listed, labels_listed, superseded, put_all}
use Rattle.changes.specs.Differing.{differing}
use Rattle.changes.proofs.ChangedLaws.{changed-superseded, superseded-list}
use Rattle.changes.proofs.DifferingLaws.{differing-superseded}
use Rattle.questions.specs.ready.Members.{roots}
use Rattle.questions.specs.ready.Parts.{question_links, question_passed}
use Rattle.tables.specs.declared.answers.Reached.{Reached}
use Rattle.tables.specs.Climbs.{View}
use Rattle.questions.specs.Part.{label_on, part_on}
use Rattle.model.specs.Calls.{Call, load, start, advance, cancel, read, Answer, parts, more, finished, outcome_answer, may_start}
use Rattle.model.specs.Calls.{Outcome, Phase}
use Rattle.model.specs.Refusals.{Stage, refusal}
use Rattle.model.specs.Model.{Record, stage_of, Acted, acted, idle, fresh_record, left_within, roots_in, started, stepped, advance_with}
use Rattle.questions.specs.PartInputs.{view_by}
use Rattle.model.specs.Model.{with_last, loaded_record, marks_by, part_next, proceeds, unless, act}
use Rattle.model.proofs.ModelLaws.{start-list}
use Rattle.reference.specs.Reference.{asked, part_count, fresh_answer}
use Rattle.reference.specs.AgreementTest.{answers_of}
use Rattle.reference.specs.Superseding.{superseded_nodes, superseded_labels, supersede, superseded_calls, superseded_record}
use Rattle.reference.proofs.OrderLaws.{same-append}

-- ---- a question

-- the same nodes are left in W, so the parts have the same roots
pub roots-superseded : (t : Tree) (ls vs bs : List ℕ)
    → roots t (differing ls vs bs) ≡ roots t (differing ls (superseded_nodes vs bs) (superseded_labels vs bs))
roots-superseded t ls vs bs = ap (roots t) (differing-superseded ls vs bs)

module _ (x : Inputs) (vs bs : List ℕ) where
  pub parts-superseded : part_count (asked x vs bs) ≡ part_count (asked x (superseded_nodes vs bs) (superseded_labels vs bs))
  parts-superseded = ap length (roots-superseded (plan_tree x.plan) (labels_within x.plan) vs bs)

  tree-superseded : tree_of (kinds_in x.plan) (changed (labels_within x.plan) vs bs)
      ≡ tree_of (kinds_in x.plan) (changed (labels_within x.plan) (superseded_nodes vs bs) (superseded_labels vs bs))
  tree-superseded = ap (tree_of (kinds_in x.plan)) (changed-superseded (labels_within x.plan) vs bs)

  pub fresh-superseded : fresh_answer (asked x vs bs) ≡ fresh_answer (asked x (superseded_nodes vs bs) (superseded_labels vs bs))
  unfolding fresh_answer
  fresh-superseded =
      ap₂ (λ (t : Tree) (ms : List ℕ). outcome_answer (state (rule_automaton x.rules) t) (accepts (rule_automaton x.rules) t)
      (length ms) (question_links (plan_tree x.plan) ms) (question_passed (plan_tree x.plan) ms)) tree-superseded
      (roots-superseded (plan_tree x.plan) (labels_within x.plan) vs bs)

-- ---- the refusal of a Start

pub refusal-superseded : (t : Stage) (x : Inputs) (vs bs : List ℕ) → first_no (list_checks t.sizes.n t.sizes.k vs bs) ≡ 0
    → refusal t (start x (superseded_nodes vs bs) (superseded_labels vs bs)) ≡ refusal t (start x vs bs)
unfolding refusal first_no
refusal-superseded t x vs bs e =
    let n = t.sizes.n in
    let k = t.sizes.k in
    ap (λ (m : ℕ). cond (may_start t.phase) (cond (fits t.sizes x) m 17) 1)
    (same-append (list_checks n k (superseded_nodes vs bs) (superseded_labels vs bs)) (list_checks n k vs bs)
    (check 18 (sound t.sizes x) ∷ [])
    (list-numbered n k (superseded_nodes vs bs) (superseded_labels vs bs)) (list-numbered n k vs bs)
    (superseded-list n k vs bs e ∙ sym e))

-- ---- one call

-- the same answer, and the record with its list superseded
abbrev superseding : Acted → Acted
superseding a = acted a.answer (superseded_record a.record')

part-superseded : (X : View) (es qs vs bs : List ℕ) (v : ℕ)
    → part_on X es qs (superseded_nodes vs bs) (superseded_labels vs bs) v ≡ part_on X es qs vs bs v
part-superseded X es qs vs bs v = unfold part_on label_on in rw (← changed-superseded X.labels vs bs)

spread : (b : Bool) (p q : Acted) → superseding (cond b p q) ≡ cond b (superseding p) (superseding q)
spread true p q = refl
spread false p q = refl

advance-superseded : (r : Record) (x : Inputs) (o : Option Reached)
    → advance_with (superseded_record r) x o ≡ superseding (advance_with r x o)
unfolding advance_with stepped
advance-superseded r x none = refl
advance-superseded r x (some y) =
    sym (spread (eqb (suc (length r.states)) (length r.roots))
    (acted finished (stepped r Phase.answered y (eqb (get_or (marks_by r.sizes x) y.state 0) 1)))
    (acted more (stepped r Phase.running y false)))

idle-superseded : (p : Phase) (z : Sizes) → superseded_record (idle p z) ≡ idle p z
unfolding idle superseded put_all entries nodes_listed labels_listed
idle-superseded p z = refl

cancelled-superseded : (z : Sizes) (o : Option Outcome) → superseded_record (with_last o (loaded_record z)) ≡ with_last o (loaded_record z)
unfolding idle superseded put_all entries nodes_listed labels_listed
cancelled-superseded z o = refl

started-superseded : (z : Sizes) (o : Option Outcome) (vs bs rs : List ℕ)
    → superseded_record (with_last o (started z vs bs rs)) ≡ with_last o (started z (superseded_nodes vs bs) (superseded_labels vs bs) rs)
unfolding started
started-superseded z o vs bs rs = refl

unless-superseded : (n : ℕ) (r : Record) (c d : Call) → proceeds (superseded_record r) d ≡ superseding (proceeds r c)
    → unless n (superseded_record r) d ≡ superseding (unless n r c)
unfolding unless
unless-superseded zero r c d e = e
unless-superseded (suc n) r c d e = refl

refused-superseded : (n : ℕ) (r : Record) (c : Call) → (n ≡ 0 → ⊥) → unless n (superseded_record r) c ≡ superseding (unless n r c)
unfolding unless
refused-superseded zero r c e = absurd (e refl)
refused-superseded (suc n) r c e = refl

-- Start, by whether its list passes 12 to 14
module _ (r : Record) (x : Inputs) (vs bs : List ℕ) where
  number : ℕ
  number = first_no (list_checks r.sizes.n r.sizes.k vs bs)

  start-roots : proceeds (superseded_record r) (start x (superseded_nodes vs bs) (superseded_labels vs bs)) ≡ superseding (proceeds r (start x vs bs))
  unfolding proceeds
  start-roots =
      ap (λ (ms : List ℕ).
      acted (parts (length ms)) (with_last r.last (started r.sizes (superseded_nodes vs bs) (superseded_labels vs bs) ms)))
      (sym (roots-superseded (plan_tree x.plan) (labels_within x.plan) vs bs))
      ∙ ap (acted (parts (length (roots_in x (left_within x vs bs)))))
      (sym (started-superseded r.sizes r.last vs bs (roots_in x (left_within x vs bs))))

  start-superseded : act (superseded_record r) (supersede (stage_of r) (start x vs bs)) ≡ superseding (act r (start x vs bs))
  unfolding act number
  start-superseded = elim (ℕ_discrete number 0) [
    | yes e ↦ ap (λ (b : Bool). act (superseded_record r) (cond b (start x (superseded_nodes vs bs) (superseded_labels vs bs)) (start x vs bs)))
        (eq-eqb number 0 e)
        ∙ ap (λ (n : ℕ). unless n (superseded_record r) (start x (superseded_nodes vs bs) (superseded_labels vs bs)))
        (refusal-superseded (stage_of r) x vs bs e)
        ∙ unless-superseded (refusal (stage_of r) (start x vs bs)) r (start x vs bs)
        (start x (superseded_nodes vs bs) (superseded_labels vs bs))
        start-roots
    | no e ↦ ap (λ (b : Bool). act (superseded_record r) (cond b (start x (superseded_nodes vs bs) (superseded_labels vs bs)) (start x vs bs)))
        (ne_eqb number 0 e)
        ∙ refused-superseded (refusal (stage_of r) (start x vs bs)) r (start x vs bs) (λ z. e (start-list (stage_of r) x vs bs z))
  ]

pub act-superseded : (r : Record) (c : Call) → act (superseded_record r) (supersede (stage_of r) c) ≡ superseding (act r c)
unfolding act proceeds
act-superseded r (load x) =
    unless-superseded (refusal (stage_of r) (load x)) r (load x) (load x)
    (ap (acted Answer.accepted) (sym (idle-superseded Phase.loaded (sizes_in x))))
act-superseded r (start x vs bs) = start-superseded r x vs bs
act-superseded r (advance x) =
    unless-superseded (refusal (stage_of r) (advance x)) r (advance x) (advance x)
    (ap (advance_with (superseded_record r) x)
    (part-superseded (view_by r.sizes x) (take (length r.states) r.roots) r.states r.nodes r.labels
    (get_or r.roots (length r.states) 0)) ∙ advance-superseded r x (part_next r x))
act-superseded r cancel =
    unless-superseded (refusal (stage_of r) cancel) r cancel cancel
    (ap (acted Answer.accepted) (sym (cancelled-superseded r.sizes r.last)))
act-superseded r read = unless-superseded (refusal (stage_of r) read) r read read refl

-- ---- every list of calls

answers-superseded : (r : Record) (cs : List Call) → answers_of (superseded_record r) (superseded_calls r cs) ≡ answers_of r cs
unfolding answers_of superseded_calls
answers-superseded r [] = refl
answers-superseded r (c ∷ cs) =
    ap (λ (a : Acted). a.answer ∷ answers_of a.record' (superseded_calls (act r c).record' cs)) (act-superseded r c)
    ∙ ap (λ (xs : List Answer). (act r c).answer ∷ xs) (answers-superseded (act r c).record' cs)

-- "with repeats the answer is that of the list after superseding": of every call of every list, refused or not, for any
-- inputs
pub superseding-tells : (cs : List Call) → answers_of fresh_record (superseded_calls fresh_record cs) ≡ answers_of fresh_record cs
unfolding fresh_record
superseding-tells cs =
    ap (λ (r : Record). answers_of r (superseded_calls fresh_record cs)) (sym (idle-superseded Phase.empty (record { n = 0; s = 0; k = 0 })))
    ∙ answers-superseded fresh_record cs
