-- A run of eight records as bytes, and a call on it as one on the records that it holds.
--     EncodesAll b rs          the bytes of each of the eight hold its record, one after the other
--     held-valid, held-length, held-runs    of the bytes of one record
--     told_is               the answer of a call on the run is the model's
--     left-held             the run that a call leaves holds the model's records
--     read_held             a Read leaves the run as it is
use Prim.Native.Nat.{ℕ, ◌<◌}
use mathlib.Core.Path.{◌≡◌, refl, sym, ◌∙◌, ap, subst}
use mathlib.Core.Bool.{Bool, true, false, cond, not, ◌||◌}
use mathlib.Core.List.{List}
use native.Mathlib.Decide.{ℕ_discrete}
use native.Mathlib.Omega.{arith}
use lib.Dec.{ltb, eqb}
use lib.ListN.{length, get_or, set, replicate, length-set, get_or-replicate}
use lib.Seq.{get_or-set_same, get_or-set_other}
use borrow.Author.Tests.{eq-eqb, ltb-true}
use Rattle.list_laws.specs.Rows.{rows}
use Rattle.list_laws.proofs.BoolLaws.{and_left}
use Rattle.formats.specs.Inputs.{Inputs, sizes_in}
use Rattle.model.specs.Calls.{Call, load, read, advance, Answer, is_running}
use Rattle.model.specs.Model.{Record, fresh_record, loaded_record, act}
use Rattle.screens.specs.ScreenCalls.{ScreenCall, load_all, start_on, cancel_on, read_on, deal, one}
use Rattle.screens.specs.ScreenCalls.{Target, nobody, every_screen, screen, turn, numbered, target, turn_answer, Another}
use Rattle.screens.specs.EightRecords.{at, ActedAll, act_on, act_all}
use Rattle.screens.specs.EightRecords as eight
use Rattle.screens.proofs.RecordLaws.{load-accepted}
use Rattle.screens.proofs.TargetLaws.{Rightly, rightly, SameRunning, target-same}
use Rattle.screens.proofs.EightLaws.{on-target}
use Rattle.session.specs.declared.state.Phase.{Phase}
use Rattle.session.specs.declared.state.Phase.TheVariants.{Empty, Loaded, Running, Answered}
use Rattle.session.specs.Records.{phase_of, record_of, session_of, valid}
use Rattle.session.proofs.Holds.{struct_is}
use Rattle.session.proofs.Refine.{read_keeps}
use Rattle.records.specs.Layout.{record_length, phase_byte, encoded, decoded, laid_out, valid_bytes}
use Rattle.records.proofs.Theorems.{encoded-valid}
use Rattle.records.proofs.ValidTypes.{valid-types}
use Rattle.capi_session.specs.SessionExported.{CallExported, answer_for, record_for}
use Rattle.capi_session.proofs.SessionExportedLaws.{laid-length}
use Rattle.capi_session.proofs.ExportedRefines.{Encodes, held-answer, held_after}
use Rattle.capi_screens.specs.RunLayout.{run_length, record_at, with_record, runs, busy}
use Rattle.capi_screens.specs.ScreensExported.{target_in, answer_of, bytes_of, answer_all_for, bytes_for, OwnExported}
use Rattle.capi_screens.specs.ScreensExported.{ScreensCallExported}
use Rattle.capi_screens.proofs.PartLaws.{all-kept, row-length}

pub record EncodesAll (b : List ℕ) (rs : List Record) : Type 0 where
  pub long : length b ≡ run_length
  pub records : length rs ≡ 8
  pub each : (i : ℕ) → i < 8 → Encodes (record_at b i) (at rs i)

-- ---- one record

byte-runs : (p : Phase) → eqb (phase_byte p) (phase_byte Running) ≡ is_running (phase_of p)
unfolding is_running phase_of
byte-runs Empty = refl
byte-runs Loaded = refl
byte-runs Running = refl
byte-runs Answered = refl

module _ (b : List ℕ) (r : Record) (h : Encodes b r) where
  pub held-valid : valid_bytes b ≡ true
  held-valid =
      let s = h.struct in
      subst (λ (t : List ℕ). valid_bytes t ≡ true) (sym h.bytes)
      (encoded-valid s (valid-types s h.seen.shaped h.seen.passes) h.seen.passes)

  pub held-length : length b ≡ record_length
  unfolding valid_bytes
  held-length = laid-length b (and_left (laid_out b) (valid (decoded b)) held-valid)

  pub held-runs : eqb (get_or b 0 0) (phase_byte Running) ≡ is_running r.phase
  unfolding encoded record_of
  held-runs =
      ap (λ (t : List ℕ). eqb (get_or t 0 0) (phase_byte Running)) h.bytes ∙ byte-runs h.struct.head.phase
      ∙ ap (λ (t : Record). is_running t.phase) h.seen.holds

  -- the bytes are those of the record's struct
  held_bytes : b ≡ encoded (session_of r)
  held_bytes =
      h.bytes
      ∙ ap encoded (sym (struct_is h.struct h.seen.shaped h.seen.passes) ∙ ap session_of h.seen.holds)

-- ---- eight of them

module _ (b : List ℕ) (rs : List Record) (Z : EncodesAll b rs) where
  runs_same : SameRunning (runs b) (eight.runs rs)
  runs_same i h = held-runs (record_at b i) (at rs i) (Z.each i h)

  busy-same : SameRunning (busy b) (eight.runs rs)
  busy-same i h =
      ap (λ (t : Bool). not t || runs b i) (held-valid (record_at b i) (at rs i) (Z.each i h)) ∙ runs_same i h

  target_is : (c : ScreenCall) → target_in b c ≡ target (eight.runs rs) c
  unfolding target_in
  target_is (load_all x) = target-same (busy b) (eight.runs rs) busy-same (load_all x)
  target_is (start_on i x vs bs) = target-same (runs b) (eight.runs rs) runs_same (start_on i x vs bs)
  target_is (cancel_on i) = target-same (runs b) (eight.runs rs) runs_same (cancel_on i)
  target_is (read_on i) = target-same (runs b) (eight.runs rs) runs_same (read_on i)
  target_is (deal k x) = target-same (runs b) (eight.runs rs) runs_same (deal k x)

  one_answer : (i : ℕ) → i < 8 → (c : Call) → answer_for (record_at b i) c ≡ (act (at rs i) c).answer
  one_answer i h c = held-answer (record_at b i) (at rs i) (Z.each i h) c

  answer-of : (t : Target) → Rightly (eight.runs rs) t → answer_of b t ≡ (act_on rs t).answer
  unfolding answer_of act_on
  answer-of (nobody n) h = refl
  answer-of (every_screen x) h = refl
  answer-of (screen i c) h = ap one (one_answer i h c)
  answer-of (turn i x) h = ap (turn_answer i) (one_answer i h.0 (advance x))

  pub told_is : (c : ScreenCall) → answer_all_for b c ≡ (act_all rs c).answer
  unfolding answer_all_for
  told_is c =
      ap (λ (t : Bool). cond t (answer_of b (target_in b c)) (one (Answer.refused 25)))
      (eq-eqb (length b) run_length Z.long)
      ∙ ap (answer_of b) (target_is c) ∙ answer-of (target (eight.runs rs) c) (rightly (eight.runs rs) c)
      ∙ sym (ap (λ (k : ActedAll). k.answer) (on-target rs c Z.records))

  -- ---- the run after a call

  abbrev OthersKept : List ℕ → ℕ → Type 0
  OthersKept b' i = (j : ℕ) → j < 8 → (i ≡ j → ⊥) → record_at b' j ≡ record_at b j

  set-held : (b' : List ℕ) (i : ℕ) (r' : Record) → length b' ≡ run_length → Encodes (record_at b' i) r' → OthersKept b' i
      → EncodesAll b' (set rs i r')
  set-held b' i r' l h kept = record {
    long = l;
    records = length-set rs i r' ∙ Z.records;
    each = λ j m. elim (ℕ_discrete j i) [
      | yes q ↦ subst (λ (k : ℕ). Encodes (record_at b' k) (at (set rs i r') k)) (sym q)
          (subst (λ (r : Record). Encodes (record_at b' i) r)
          (sym (get_or-set_same rs i r' fresh_record (omega (arith, Z.records)))) h)
      | no q ↦ subst (λ (p : List ℕ). Encodes p (at (set rs i r') j)) (sym (kept j m (λ e. q (sym e))))
          (subst (λ (r : Record). Encodes (record_at b j) r) (sym (get_or-set_other rs i j r' fresh_record q)) (Z.each j m))
    ];
  }

  -- one screen's call
  one-held : (b' : List ℕ) (i n : ℕ) (c : Call) → i < 8 → b' ≡ with_record b i (record_for (record_at b i) c)
      → CallExported (record_at b i) c n (record_at b' i) → OthersKept b' i
      → EncodesAll b' (set rs i (act (at rs i) c).record')
  one-held b' i n c h left own kept =
      let p = record_for (record_at b i) c in
      let H = held_after (record_at b i) (record_at b' i) (at rs i) (Z.each i h) c n own in
      let w : length p ≡ record_length =
      ap length (sym own.left) ∙ held-length (record_at b' i) (act (at rs i) c).record' H in
      set-held b' i (act (at rs i) c).record'
      (ap length left ∙ all-kept record_length 8 b Z.long i h p w ∙ Z.long) H kept

  -- an accepted Load
  loaded-held : (b' : List ℕ) (x : Inputs) (n : ℕ) → Rightly (eight.runs rs) (every_screen x)
      → b' ≡ rows 8 (λ i. encoded (session_of (loaded_record (sizes_in x))))
      → ((i : ℕ) → i < 8 → CallExported (record_at b i) (load x) n (record_at b' i))
      → EncodesAll b' (replicate 8 (loaded_record (sizes_in x)))
  loaded-held b' x n h left own = record {
    long = ap length left ∙ row-length record_length 8 (λ i. encoded (session_of L)) (λ i l. wide);
    records = refl;
    each = λ i l. subst (λ (r : Record). Encodes (record_at b' i) r) (sym (get_or-replicate 8 i L fresh_record l))
        (one-loaded i l);
  }
    where
      L : Record
      L = loaded_record (sizes_in x)

      one-loaded : (i : ℕ) → i < 8 → Encodes (record_at b' i) L
      one-loaded i l =
          subst (λ (r : Record). Encodes (record_at b' i) r) (sym (load-accepted (at rs i) x (h.0 i l) h.1).leaves)
          (held_after (record_at b i) (record_at b' i) (at rs i) (Z.each i l) (load x) n (own i l))

      wide : length (encoded (session_of L)) ≡ record_length
      wide =
          let H = one-loaded 0 (omega arith) in
          ap length (sym (held_bytes (record_at b' 0) L H)) ∙ held-length (record_at b' 0) L H

  left-of : (t : Target) → Rightly (eight.runs rs) t → (b' : List ℕ) (n : ℕ) → b' ≡ bytes_of b t → OwnExported b b' t n
      → ((j : ℕ) → j < 8 → Another t j → record_at b' j ≡ record_at b j) → EncodesAll b' (act_on rs t).records'
  unfolding bytes_of act_on
  left-of (nobody m) h b' n left own kept = subst (λ (p : List ℕ). EncodesAll p rs) (sym left) Z
  left-of (every_screen x) h b' n left own kept = loaded-held b' x n h left own
  left-of (screen i c) h b' n left own kept = one-held b' i n c h left own kept
  left-of (turn i x) h b' n left own kept = one-held b' i n (advance x) h.0 left own kept

  pub left-held : (c : ScreenCall) (b' : List ℕ) (n : ℕ) → ScreensCallExported b c n b'
      → EncodesAll b' (act_all rs c).records'
  unfolding bytes_for
  left-held c b' n e =
      let t = target (eight.runs rs) c in
      let w : bytes_for b c ≡ bytes_of b t =
      ap (λ (q : Bool). cond q (bytes_of b (target_in b c)) b) (eq-eqb (length b) run_length Z.long)
      ∙ ap (bytes_of b) (target_is c) in
      subst (λ (l : List Record). EncodesAll b' l) (sym (ap (λ (k : ActedAll). k.records') (on-target rs c Z.records)))
      (left-of t (rightly (eight.runs rs) c) b' n (e.left ∙ w)
      (subst (λ (u : Target). OwnExported b b' u n) (target_is c) (e.own Z.long))
      (subst (λ (u : Target). (j : ℕ) → j < 8 → Another u j → record_at b' j ≡ record_at b j) (target_is c)
      (e.others Z.long)))

  pub read_held : (i : ℕ) → EncodesAll b (act_all rs (read_on i)).records'
  unfolding target numbered act_on
  read_held i =
      subst (λ (l : List Record). EncodesAll b l)
      (sym (ap (λ (k : ActedAll). k.records') (on-target rs (read_on i) Z.records))) (go (ltb i 8) refl)
    where
      go : (t : Bool) → ltb i 8 ≡ t → EncodesAll b (act_on rs (cond t (screen i read) (nobody 25))).records'
      go true e =
          set-held b i (act (at rs i) read).record' Z.long
          (subst (λ (r : Record). Encodes (record_at b i) r) (sym (read_keeps (at rs i))) (Z.each i (ltb-true i 8 e)))
          (λ j h z. refl)
      go false e = Z
