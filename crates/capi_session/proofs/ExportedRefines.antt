-- Each exported session call on record bytes is the session's call on the struct of those bytes.
--     settled            a refusal leaves the record, so its bytes
--     step_is            a call on the bytes of a struct
--     exports-is         the same of an exported function, its number and values decoded (DecodedAnswers)
--     exported-refines   each call on bytes refines the session's call
--     held-answer        the answer of a call on the bytes of a record is the model's
--     held_after         and its bytes after the call are those of the model's record
--     fresh-held         983 zeros are the fresh record
--     record-stays       every record that a call leaves is one again
use Prim.Native.Nat.{ℕ, zero, suc}
use mathlib.Core.Path.{◌≡◌, refl, sym, ap, ap₂, ◌∙◌, subst}
use mathlib.Core.Bool.{Bool, true, false, cond}
use mathlib.Core.Option.{Option, none, some}
use mathlib.Core.List.{List}
use lib.Dec.{eqb}
use lib.ListN.{length, get_or, replicate}
use Rattle.list_laws.proofs.BoolLaws.{and_left}
use Rattle.tables.specs.declared.answers.Reached.{Reached}
use Rattle.formats.specs.Inputs.{Inputs}
use Rattle.model.specs.Calls.{Call, load, start, advance, cancel, read, Answer, Outcome, more, finished, Phase}
use Rattle.model.specs.Refusals.{refusal}
use Rattle.model.specs.Model.{stage_of}
use Rattle.model.specs.Model.{Record, Acted, acted, stepped, marks_by, fresh_record, proceeds, unless, act}
use Rattle.model.specs.Model.{advance_with, last_answer, Does}
use Rattle.model.proofs.Refinement.{Refines}
use Rattle.session.specs.declared.state.Session.{Session}
use Rattle.session.specs.Records.{record_of, session_of, valid, fresh_session}
use Rattle.session.specs.Promises.{answer_on, record_on}
use Rattle.session.specs.inner.Shapes.{Shaped}
use Rattle.session.proofs.Holds.{struct_is}
use Rattle.session.proofs.Refine.{Represents, fresh-seen, seen-answer, read_keeps, call-refines}
use Rattle.records.specs.Layout.{encoded, decoded, laid_out, valid_bytes, InTypes, Bytes}
use Rattle.records.proofs.Theorems.{decode-encode, encode-decode, encoded-valid, decoded-valid, decoded-types, fresh-bytes}
use Rattle.records.proofs.ValidTypes.{valid-types}
use Rattle.capi_session.specs.SessionExported.{answer_for, answer_number, unless_refused, record_for, CallExported, parts_of, finished_of, answered_places}
use Rattle.capi_session.specs.DecodedAnswers.{decoded_done, decoded_start, decoded_advance, decoded_read, Exports, loads, starts, advances, cancels, reads}
use Rattle.capi_session.proofs.SessionExportedLaws.{laid-length}
use Rattle.capi_session.proofs.DecodedAnswersLaws.{decoded-load, decoded-start, decoded-advance, decoded-cancel, decoded-read}

-- a call on bytes: the answer and the bytes that its contract names
record ByteStep (b : List ℕ) (c : Call) (a : Answer) (b' : List ℕ) : Type 0 where
  tells : a ≡ answer_for b c
  leaves : b' ≡ record_for b c
  stays : valid_bytes b ≡ true → valid (record_on (decoded b) c) ≡ true

-- the bytes of a struct that holds record r
pub record Encodes (b : List ℕ) (r : Record) : Type 0 where
  pub struct : Session
  pub bytes : b ≡ encoded struct
  pub seen : Represents struct r

-- ---- a refusal leaves the record, so its bytes

abbrev bytes_of : Record → List ℕ
bytes_of r = encoded (session_of r)

abbrev Settled : Record → Acted → Type 0
Settled r a = unless_refused a.answer (bytes_of a.record') (bytes_of r) ≡ bytes_of a.record'

module _ (r : Record) where
  on-cond : (b : Bool) (x y : Acted) → Settled r x → Settled r y → Settled r (cond b x y)
  on-cond true x y e f = e
  on-cond false x y e f = f

  on-advance : (x : Inputs) (o : Option Reached) → Settled r (advance_with r x o)
  unfolding advance_with unless_refused
  on-advance x none = refl
  on-advance x (some y) =
      on-cond (eqb (suc (length r.states)) (length r.roots))
      (acted finished (stepped r Phase.answered y (eqb (get_or (marks_by r.sizes x) y.state 0) 1)))
      (acted more (stepped r Phase.running y false)) refl refl

  -- Read leaves the record as it is, for every answer
  on_read : (o : Option Outcome) → Settled r (acted (last_answer o) r)
  unfolding unless_refused
  on_read none = refl
  on_read (some o) = refl

  on_call : (c : Call) → Settled r (proceeds r c)
  unfolding proceeds unless_refused
  on_call (load x) = refl
  on_call (start x vs bs) = refl
  on_call (advance x) = on-advance x _
  on_call cancel = refl
  on_call read = on_read r.last

  settled : (c : Call) → Settled r (act r c)
  unfolding act unless unless_refused
  settled c = go (refusal (stage_of r) c)
    where
      go : (n : ℕ) → Settled r (unless n r c)
      go zero = on_call c
      go (suc n) = refl

-- ---- a call on the bytes of a struct

module _ (s : Session) (r : Record) (i : Represents s r) (c : Call) where
  types : InTypes s
  types = valid-types s i.shaped i.passes

  laid : laid_out (encoded s) ≡ true
  unfolding valid_bytes
  laid = and_left (laid_out (encoded s)) (valid (decoded (encoded s))) (encoded-valid s types i.passes)

  answer-is : answer_for (encoded s) c ≡ answer_on s c
  unfolding answer_for
  answer-is = rw laid (ap (λ (t : Session). answer_on t c) (decode-encode s types))

  model-answer : answer_on s c ≡ (act (record_of s) c).answer
  unfolding answer_on
  model-answer = rw i.passes

  model-record : record_on s c ≡ session_of (act (record_of s) c).record'
  unfolding record_on
  model-record = rw i.passes

  record_is : record_for (encoded s) c ≡ encoded (record_on s c)
  unfolding record_for
  record_is =
      ap₂ (λ (a : Answer) (t : Session). unless_refused a (encoded (record_on t c)) (encoded s)) (answer-is ∙ model-answer) (decode-encode s types)
      ∙ ap₂ (λ (t u : Session). unless_refused (act (record_of s) c).answer (encoded t) (encoded u)) model-record
      (sym (struct_is s i.shaped i.passes))
      ∙ settled (record_of s) c
      ∙ sym (ap encoded model-record)

  step_is : (a : Answer) (b' : List ℕ) → ByteStep (encoded s) c a b' → (r' : Record) × Does r c a r' × Encodes b' r'
  step_is a b' e =
      let v : valid (record_on s c) ≡ true =
      subst (λ (t : Session). valid (record_on t c) ≡ true) (decode-encode s types) (e.stays (encoded-valid s types i.passes)) in
      let d = call-refines s r i c a (record_on s c) (e.tells ∙ answer-is) refl v in
      (d.0, d.1, record { struct = record_on s c; bytes = e.leaves ∙ record_is; seen = d.2 })

-- ---- a call as its number and values are decoded

module _ (s : Session) (r : Record) (i : Represents s r) where
  -- what is decoded is the answer, if that is decoded as itself
  decoded-answer : (c : Call) (f : Answer → Answer) → f (act (record_of s) c).answer ≡ (act (record_of s) c).answer
      → f (answer_for (encoded s) c) ≡ answer_for (encoded s) c
  decoded-answer c f e =
      let a : answer_for (encoded s) c ≡ (act (record_of s) c).answer = answer-is s r i c ∙ model-answer s r i c in
      ap f a ∙ e ∙ sym a

  read_same : s ≡ record_on s read
  read_same = sym (struct_is s i.shaped i.passes) ∙ ap session_of (sym (read_keeps (record_of s))) ∙ sym (model-record s r i read)

  read-leaves : encoded s ≡ record_for (encoded s) read
  read-leaves = ap encoded read_same ∙ sym (record_is s r i read)

  read_stays : valid (record_on (decoded (encoded s)) read) ≡ true
  read_stays =
      subst (λ (t : Session). valid (record_on t read) ≡ true) (sym (decode-encode s (types s r i read)))
      (subst (λ (t : Session). valid t ≡ true) read_same i.passes)

  -- what a promise on bytes says of the struct's own bytes
  abbrev Stays : Call → List ℕ → Type 0
  Stays c b = valid_bytes b ≡ true → valid (record_on (decoded b) c) ≡ true

  exports-is : (c : Call) (a : Answer) (b b' : List ℕ) → b ≡ encoded s → Exports b c a b' → ByteStep (encoded s) c a b'
  exports-is c a b b' q (loads {x} n node_table state_table e) = record {
    tells = rw (e.call.number, q) (decoded-answer (load x) (λ (y : Answer). decoded_done (answer_number y)) (decoded-load (record_of s) x));
    leaves = e.call.left ∙ ap (λ (t : List ℕ). record_for t (load x)) q;
    stays = subst (λ (t : List ℕ). Stays (load x) t) q e.call.stays;
  }
  exports-is c a b b' q (starts {x} {vs} {bs} n p₀ p₁ e) = record {
    tells = rw (e.call.number, e.parts_after, q)
        (decoded-answer (start x vs bs) (λ (y : Answer). decoded_start (answer_number y) (parts_of y p₀)) (decoded-start (record_of s) p₀ x vs bs));
    leaves = e.call.left ∙ ap (λ (t : List ℕ). record_for t (start x vs bs)) q;
    stays = subst (λ (t : List ℕ). Stays (start x vs bs) t) q e.call.stays;
  }
  exports-is c a b b' q (advances {x} n f₀ f₁ e) = record {
    tells = rw (e.call.number, e.finished_after, q)
        (decoded-answer (advance x) (λ (y : Answer). decoded_advance (answer_number y) (finished_of y f₀)) (decoded-advance (record_of s) f₀ x));
    leaves = e.call.left ∙ ap (λ (t : List ℕ). record_for t (advance x)) q;
    stays = subst (λ (t : List ℕ). Stays (advance x) t) q e.call.stays;
  }
  exports-is c a b b' q (cancels n e) = record {
    tells = rw (e.number, q) (decoded-answer cancel (λ (y : Answer). decoded_done (answer_number y)) (decoded-cancel (record_of s)));
    leaves = e.left ∙ ap (λ (t : List ℕ). record_for t cancel) q;
    stays = subst (λ (t : List ℕ). Stays cancel t) q e.stays;
  }
  exports-is c a b b' q (reads n before after e) = record {
    tells = rw (e.number, e.values_are, q)
        (decoded-answer read (λ (y : Answer). decoded_read (answer_number y) (answered_places y before)) (decoded-read (record_of s) before));
    leaves = q ∙ read-leaves;
    stays = λ v. read_stays;
  }

pub exported-refines : Refines Exports Does Encodes
exported-refines b b' r c a h e =
    step_is h.struct r h.seen c a b' (exports-is h.struct r h.seen c a b b' h.bytes e)

pub held-answer : (b : List ℕ) (r : Record) → Encodes b r → (c : Call) → answer_for b c ≡ (act r c).answer
held-answer b r h c =
    ap (λ (t : List ℕ). answer_for t c) h.bytes ∙ answer-is h.struct r h.seen c
    ∙ seen-answer h.struct r h.seen c

pub held_after : (b b' : List ℕ) (r : Record) → Encodes b r → (c : Call) (n : ℕ) → CallExported b c n b'
    → Encodes b' (act r c).record'
held_after b b' r h c n e =
    let k = step_is h.struct r h.seen c (answer_for (encoded h.struct) c) b'
    (record {
      tells = refl;
      leaves = e.left ∙ ap (λ (t : List ℕ). record_for t c) h.bytes;
      stays = subst (λ (t : List ℕ). Stays h.struct r h.seen c t) h.bytes e.stays;
    }) in
    subst (λ (t : Record). Encodes b' t) k.1.leaves k.2

pub fresh-held : Encodes (replicate 983 0) fresh_record
fresh-held = record { struct = fresh_session; bytes = sym fresh-bytes; seen = fresh-seen }

-- ---- every record that a call leaves is a record again

pub record-stays : (b b' : List ℕ) (c : Call) (a : Answer) → Exports b c a b' → valid_bytes b ≡ true → Bytes b → valid_bytes b' ≡ true
unfolding valid_bytes
record-stays b b' c a e v fits =
    let l = laid-length b (and_left (laid_out b) (valid (decoded b)) v) in
    let T = decoded-types b l fits in
    let S : Shaped (decoded b) =
    record { nodes = T.nodes_length; labels = T.labels_length; roots = T.roots_length; states = T.states_length } in
    let i : Represents (decoded b) (record_of (decoded b)) = record { shaped = S; passes = decoded-valid b v; holds = refl } in
    let h = (exported-refines b b' (record_of (decoded b)) c a
    (record { struct = decoded b; bytes = sym (encode-decode b v fits); seen = i }) e).2 in
    subst (λ (t : List ℕ). valid_bytes t ≡ true) (sym h.bytes)
    (encoded-valid h.struct (valid-types h.struct h.seen.shaped h.seen.passes) h.seen.passes)
