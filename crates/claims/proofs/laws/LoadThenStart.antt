-- Two exported calls in a row, on any record bytes: an accepted Load, and a Start on what it left.
--     left-passes      no check of such a Start fails
--     load-then-start  so it answers its number of parts
use Prim.Native.Nat.{ℕ, zero, suc}
use mathlib.Core.Path.{◌≡◌, refl, sym, ap, ◌∙◌, subst}
use mathlib.Core.Bool.{Bool, true, false}
use mathlib.Core.List.{List, [], ◌∷◌}
use native.Mathlib.Omega.{arith}
use Rattle.list_laws.proofs.BoolLaws.{true-false}
use Rattle.formats.specs.Checks.{check, first_no, list_checks}
use Rattle.formats.specs.Inputs.{Inputs, inputs_of, sizes_in, fits, sound}
use Rattle.formats.proofs.CheckLaws.{first_no-none, first_no-yes, first_no-append-zero}
use Rattle.model.specs.Calls.{load, start, Answer, parts, is_refused, Phase, may_start}
use Rattle.model.specs.Refusals.{Stage, stage, checks_before18, refusal}
use Rattle.model.specs.Model.{Record, stage_of, idle, loaded_record, proceeds, unless, act}
use Rattle.model.proofs.ModelLaws.{before-numbered}
use Rattle.reference.specs.Reference.{part_count, asked}
use Rattle.reference.proofs.WrittenSound.{loaded, written-sound, written-fits}
use Rattle.session.specs.Records.{record_of}
use Rattle.records.specs.Layout.{decoded, valid_bytes, Bytes}
use Rattle.capi_session.specs.SessionExported.{answer_for, answer_number, LoadExported}
use Rattle.capi_session.specs.DecodedAnswers.{decoded_done, Exports, loads}
use Rattle.capi_session.proofs.ExportedRefines.{Encodes, held-answer, held_after}
use Rattle.screens.specs.Statements.{left_by}
use Rattle.claims.proofs.BrokenBytes.{broken-refused}
use Rattle.claims.proofs.laws.ByteAnswers.{bytes-answer}
use Rattle.claims.proofs.laws.LeftOpenLaws.{held}
use Rattle.claims.proofs.laws.LoadTables.{tables-on-bytes}
use Rattle.claims.proofs.laws.StartLaws.{left_is}

left-passes : (t : Stage) (x : Inputs) (vs bs : List ℕ) → refusal t (load x) ≡ 0
    → first_no (list_checks (sizes_in x).n (sizes_in x).k vs bs) ≡ 0
    → refusal (stage Phase.loaded (sizes_in x) false) (start (loaded x) vs bs) ≡ 0
unfolding refusal may_start
left-passes t x vs bs e l =
    let z = sizes_in x in
    first_no-append-zero (checks_before18 (stage Phase.loaded z false) (loaded x) vs bs) (check 18 (sound z (loaded x)) ∷ [])
    (before-numbered (stage Phase.loaded z false) (loaded x) vs bs)
    (first_no-yes 1 true (check 17 (fits z (loaded x)) ∷ list_checks z.n z.k vs bs) refl
    ∙ first_no-yes 17 (fits z (loaded x)) (list_checks z.n z.k vs bs) (written-fits t x e) ∙ l)
    ∙ first_no-yes 18 (sound z (loaded x)) [] (written-sound t x e) ∙ first_no-none

-- of the model
started : (r : Record) (x : Inputs) (vs bs : List ℕ) → refusal (stage_of r) (load x) ≡ 0
    → first_no (list_checks (sizes_in x).n (sizes_in x).k vs bs) ≡ 0
    → (act (loaded_record (sizes_in x)) (start (left_by x) vs bs)).answer ≡ parts (part_count (asked (left_by x) vs bs))
unfolding act unless proceeds loaded idle
started r x vs bs e l =
    ap (λ (n : ℕ). (unless n (loaded_record (sizes_in x)) (start (left_by x) vs bs)).answer)
    (left-passes (stage_of r) x vs bs e l)

loaded-record : (r : Record) (x : Inputs) (n : ℕ) → refusal (stage_of r) (load x) ≡ n
    → answer_number (unless n r (load x)).answer ≡ 0
    → (n ≡ 0) × ((unless n r (load x)).record' ≡ loaded_record (sizes_in x))
unfolding unless proceeds answer_number
loaded-record r x zero e h = (refl, refl)
loaded-record r x (suc n) e h = absurd (let i : ◌≡◌ {A = ℕ} (suc n) 0 = h in omega (arith, i))

-- bytes that are no record are refused
was-record : (b b' : List ℕ) (x : Inputs) (node_table' state_table' : List ℕ) → LoadExported b x 0 b' node_table' state_table'
    → valid_bytes b ≡ true
unfolding decoded_done
was-record b b' x nt st L = go (valid_bytes b) refl
  where
    go : (v : Bool) → valid_bytes b ≡ v → v ≡ true
    go true e = refl
    go false e = absurd (true-false (sym (ap is_refused (broken-refused b b' (load x) _ (loads 0 nt st L) e).0)))

pub load-then-start : (b b' b'' : List ℕ) (x : Inputs) (node_table' state_table' vs bs : List ℕ) (a : Answer) → Bytes b
    → LoadExported b x 0 b' node_table' state_table' → first_no (list_checks (sizes_in x).n (sizes_in x).k vs bs) ≡ 0
    → Exports b' (start (inputs_of x.plan x.rules node_table' state_table') vs bs) a b''
    → a ≡ parts (part_count (asked (left_by x) vs bs))
unfolding act
load-then-start b b' b'' x nt st vs bs a fit L l e =
    let r : Record = record_of (decoded b) in
    let H : Encodes b r = held b (was-record b b' x nt st L) fit in
    let P = loaded-record r x (refusal (stage_of r) (load x)) refl
    (sym (L.call.number ∙ ap answer_number (held-answer b r H (load x)))) in
    let H' : Encodes b' (loaded_record (sizes_in x)) =
    subst (λ (t : Record). Encodes b' t) P.1 (held_after b b' r H (load x) 0 L.call) in
    bytes-answer b' b'' (start (inputs_of x.plan x.rules nt st) vs bs) a e
    ∙ ap (λ (y : Inputs). answer_for b' (start y vs bs)) (left_is x nt st ((tables-on-bytes b b' x 0 nt st L).written refl))
    ∙ held-answer b' (loaded_record (sizes_in x)) H' (start (left_by x) vs bs)
    ∙ started r x vs bs P.0 l
