-- The calls on a run of eight structs refine the model of eight records, so what is proved of the screens holds of
-- them.
--     RepresentsAll ss rs       eight structs that pass their conditions, and the records that they hold
--     run-refines         a call on the structs is one on the records
--     structs-hold        all statements about every list of screen calls (crate screens), from eight fresh sessions
use Prim.Native.Nat.{ℕ, zero, suc, ◌<◌}
use mathlib.Core.Path.{◌≡◌, refl, sym, ◌∙◌, ap, subst}
use mathlib.Core.Bool.{Bool, true, false, cond, not, ◌||◌}
use mathlib.Core.List.{List, [], ◌∷◌}
use native.Mathlib.Decide.{ℕ_discrete}
use native.Mathlib.Omega.{arith}
use lib.Dec.{ltb}
use lib.ListN.{length, set, replicate, length-set, get_or-replicate}
use lib.Seq.{get_or-set_same, get_or-set_other}
use borrow.Author.Tests.{eq-eqb}
use Rattle.formats.specs.Inputs.{Inputs, sizes_in}
use Rattle.model.specs.Calls.{Call, load, read, advance, Answer, is_running}
use Rattle.model.specs.Model.{Record, fresh_record, loaded_record, act}
use Rattle.model.proofs.Refinement.{Refines}
use Rattle.screens.specs.ScreenCalls.{ScreenCall, load_all, start_on, cancel_on, read_on, deal, one}
use Rattle.screens.specs.ScreenCalls.{Target, nobody, every_screen, screen, turn, numbered, target, turn_answer, answer_in}
use Rattle.screens.specs.EightRecords.{at, runs, ActedAll, act_on, act_all, DoesAll, eight_fresh}
use Rattle.screens.specs.Statements.{Screens}
use Rattle.screens.proofs.RecordLaws.{load-accepted}
use Rattle.screens.proofs.TargetLaws.{Rightly, rightly, SameRunning, target-same}
use Rattle.screens.proofs.EightLaws.{on-target}
use Rattle.screens.proofs.Theorems.{screens-hold, screens-hold-of}
use Rattle.session.specs.declared.state.Session.{Session}
use Rattle.session.specs.Records.{phase_of, fresh_session, record_of, session_of, valid}
use Rattle.session.specs.Promises.{answer_on, record_on}
use Rattle.session.proofs.Refine.{Represents, fresh-seen, seen-answer, call-refines, narrow-seen, read_keeps}
use Rattle.screens.specs.in_place.OnStructs as on
use Rattle.screens.specs.in_place.OnStructs.{busy, target_in, answer_of, structs_of, answer_all, structs_all, OwnDone, ScreenDone}
use Rattle.screens.specs.in_place.ScreensInPlace.{ScreenInPlace, does, reads, eight_sessions}

pub record RepresentsAll (ss : List Session) (rs : List Record) : Type 0 where
  pub structs : length ss ≡ 8
  pub records : length rs ≡ 8
  pub each : (i : ℕ) → i < 8 → Represents (on.at ss i) (at rs i)

-- ---- one struct

module _ (s : Session) (r : Record) (v : Represents s r) where
  same_runs : is_running (phase_of s.head.phase) ≡ is_running r.phase
  unfolding record_of
  same_runs = ap (λ (t : Record). is_running t.phase) v.holds

  same_answer : (c : Call) → answer_on s c ≡ (act r c).answer
  same_answer c = seen-answer s r v c

  next-seen : (c : Call) → valid (record_on s c) ≡ true → Represents (record_on s c) (act r c).record'
  next-seen c w =
      let k = call-refines s r v c (answer_on s c) (record_on s c) refl refl w in
      subst (λ (t : Record). Represents (record_on s c) t) k.1.leaves k.2

  -- after a Load where no question runs
  loaded-seen : (x : Inputs) → (act r (load x)).record' ≡ loaded_record (sizes_in x)
      → Represents (session_of (loaded_record (sizes_in x))) (loaded_record (sizes_in x))
  unfolding record_on
  loaded-seen x e =
      let q : record_on s (load x) ≡ session_of (loaded_record (sizes_in x)) =
      ap (λ (b : Bool). cond b (session_of (act (record_of s) (load x)).record') s) v.passes
      ∙ ap (λ (t : Record). session_of (act t (load x)).record') v.holds ∙ ap session_of e in
      subst (λ (t : Record). Represents (session_of (loaded_record (sizes_in x))) t) e
      (subst (λ (t : Session). Represents t (act r (load x)).record') q (narrow-seen s r v (load x) tt))

-- ---- eight of them

module _ (ss : List Session) (rs : List Record) (Z : RepresentsAll ss rs) where
  runs_same : SameRunning (on.runs ss) (runs rs)
  runs_same i h = same_runs (on.at ss i) (at rs i) (Z.each i h)

  busy-same : SameRunning (busy ss) (runs rs)
  busy-same i h =
      ap (λ (b : Bool). not b || on.runs ss i) (Z.each i h).passes ∙ runs_same i h

  target_is : (c : ScreenCall) → target_in ss c ≡ target (runs rs) c
  unfolding target_in
  target_is (load_all x) = target-same (busy ss) (runs rs) busy-same (load_all x)
  target_is (start_on i x vs bs) = target-same (on.runs ss) (runs rs) runs_same (start_on i x vs bs)
  target_is (cancel_on i) = target-same (on.runs ss) (runs rs) runs_same (cancel_on i)
  target_is (read_on i) = target-same (on.runs ss) (runs rs) runs_same (read_on i)
  target_is (deal k x) = target-same (on.runs ss) (runs rs) runs_same (deal k x)

  answer-of : (t : Target) → Rightly (runs rs) t → answer_of ss t ≡ (act_on rs t).answer
  unfolding answer_of act_on
  answer-of (nobody n) h = refl
  answer-of (every_screen x) h = refl
  answer-of (screen i c) h = ap one (same_answer (on.at ss i) (at rs i) (Z.each i h) c)
  answer-of (turn i x) h = ap (turn_answer i) (same_answer (on.at ss i) (at rs i) (Z.each i h.0) (advance x))

  set-seen : (i : ℕ) (c : Call) → i < 8 → valid (record_on (on.at ss i) c) ≡ true
      → RepresentsAll (set ss i (record_on (on.at ss i) c)) (set rs i (act (at rs i) c).record')
  set-seen i c h w = record {
    structs = length-set ss i (record_on (on.at ss i) c) ∙ Z.structs;
    records = length-set rs i (act (at rs i) c).record' ∙ Z.records;
    each = λ j l. elim (ℕ_discrete j i) [
      | yes q ↦ (let S : List Session = set ss i (record_on (on.at ss i) c) in
          let R : List Record = set rs i (act (at rs i) c).record' in
          subst (λ (m : ℕ). Represents (on.at S m) (at R m)) (sym q)
          (subst (λ (s : Session). Represents s (at R i))
          (sym (get_or-set_same ss i (record_on (on.at ss i) c) fresh_session (omega (arith, Z.structs))))
          (subst (λ (r : Record). Represents (record_on (on.at ss i) c) r)
          (sym (get_or-set_same rs i (act (at rs i) c).record' fresh_record (omega (arith, Z.records))))
          (next-seen (on.at ss i) (at rs i) (Z.each i h) c w))))
      | no q ↦ subst (λ (s : Session). Represents s (at (set rs i (act (at rs i) c).record') j))
          (sym (get_or-set_other ss i j (record_on (on.at ss i) c) fresh_session q))
          (subst (λ (r : Record). Represents (on.at ss j) r)
          (sym (get_or-set_other rs i j (act (at rs i) c).record' fresh_record q)) (Z.each j l))
    ];
  }

  -- the struct of the screen whose call it is stays a record
  abbrev StaysOn : Target → Type 0
  StaysOn (nobody n) = Unit {0}
  StaysOn (every_screen x) = Unit {0}
  StaysOn (screen i c) = valid (record_on (on.at ss i) c) ≡ true
  StaysOn (turn i x) = valid (record_on (on.at ss i) (advance x)) ≡ true

  stays_on : (ss' : List Session) (a : Answer) (t : Target) → Rightly (runs rs) t → OwnDone ss ss' t a → StaysOn t
  stays_on ss' a (nobody n) h o = tt
  stays_on ss' a (every_screen x) h o = tt
  stays_on ss' a (screen i c) h o = subst (λ (s : Session). valid s ≡ true) o.leaves (o.stays (Z.each i h).passes)
  stays_on ss' a (turn i x) h o = subst (λ (s : Session). valid s ≡ true) o.leaves
      (o.stays (Z.each i h.0).passes)

  structs-of : (t : Target) → Rightly (runs rs) t → StaysOn t → RepresentsAll (structs_of ss t) (act_on rs t).records'
  unfolding structs_of act_on
  structs-of (nobody n) h w = Z
  structs-of (every_screen x) h w = record {
    structs = refl;
    records = refl;
    each = λ j l.
        subst (λ (s : Session). Represents s (at (replicate 8 (loaded_record (sizes_in x))) j))
        (sym (get_or-replicate 8 j (session_of (loaded_record (sizes_in x))) fresh_session l))
        (subst (λ (r : Record). Represents (session_of (loaded_record (sizes_in x))) r)
        (sym (get_or-replicate 8 j (loaded_record (sizes_in x)) fresh_record l))
        (loaded-seen (on.at ss j) (at rs j) (Z.each j l) x
        (sym (load-accepted (at rs j) x (h.0 j l) h.1).leaves)));
  }
  structs-of (screen i c) h w = set-seen i c h w
  structs-of (turn i x) h w = set-seen i (advance x) h.0 w

  told_is : (c : ScreenCall) → answer_all ss c ≡ (act_all rs c).answer
  unfolding answer_all
  told_is c =
      ap (λ (b : Bool). cond b (answer_of ss (target_in ss c)) (one (Answer.refused 25)))
      (eq-eqb (length ss) 8 Z.structs)
      ∙ ap (answer_of ss) (target_is c) ∙ answer-of (target (runs rs) c) (rightly (runs rs) c)
      ∙ sym (ap (λ (k : ActedAll). k.answer) (on-target rs c Z.records))

  left-seen : (c : ScreenCall) (ss' : List Session) (a : Answer) → OwnDone ss ss' (target_in ss c) a
      → RepresentsAll (structs_all ss c) (act_all rs c).records'
  unfolding structs_all
  left-seen c ss' a o =
      let e : structs_all ss c ≡ structs_of ss (target (runs rs) c) =
      ap (λ (b : Bool). cond b (structs_of ss (target_in ss c)) ss) (eq-eqb (length ss) 8 Z.structs)
      ∙ ap (structs_of ss) (target_is c) in
      subst (λ (l : List Session). RepresentsAll l (act_all rs c).records') (sym e)
      (subst (λ (l : List Record). RepresentsAll (structs_of ss (target (runs rs) c)) l)
      (sym (ap (λ (k : ActedAll). k.records') (on-target rs c Z.records)))
      (structs-of (target (runs rs) c) (rightly (runs rs) c)
      (stays_on ss' a (target (runs rs) c) (rightly (runs rs) c)
      (subst (λ (t : Target). OwnDone ss ss' t a) (target_is c) o))))

-- ---- Read alters nothing

set_at : (rs : List Record) (i : ℕ) → set rs i (at rs i) ≡ rs
set_at [] i = refl
set_at (r ∷ rs) zero = refl
set_at (r ∷ rs) (suc i) = ap (λ (l : List Record). r ∷ l) (set_at rs i)

read_same : (rs : List Record) (i : ℕ) → length rs ≡ 8 → (act_all rs (read_on i)).records' ≡ rs
unfolding target numbered act_on
read_same rs i long = ap (λ (k : ActedAll). k.records') (on-target rs (read_on i) long) ∙ go (ltb i 8)
  where
    go : (b : Bool) → (act_on rs (cond b (screen i read) (nobody 25))).records' ≡ rs
    go true = ap (λ (r : Record). set rs i r) (read_keeps (at rs i)) ∙ set_at rs i
    go false = refl

-- ---- the theorem

pub run-refines : Refines ScreenInPlace DoesAll RepresentsAll
run-refines ss ss' rs c a Z (does d) = (
  (act_all rs c).records',
  record { tells = d.tells ∙ told_is ss rs Z c; leaves = refl },
  subst (λ (l : List Session). RepresentsAll l (act_all rs c).records') (sym d.leaves)
      (left-seen ss rs Z c ss' (answer_in a) (d.own Z.structs)),
)
run-refines ss ss' rs c a Z (reads i e) = (
  rs,
  record { tells = e ∙ told_is ss rs Z (read_on i); leaves = sym (read_same rs i Z.records) },
  Z,
)

pub eight-seen : RepresentsAll eight_sessions eight_fresh
eight-seen = record {
  structs = refl;
  records = refl;
  each = λ i h.
      subst (λ (s : Session). Represents s (at eight_fresh i)) (sym (get_or-replicate 8 i fresh_session fresh_session h))
      (subst (λ (r : Record). Represents fresh_session r) (sym (get_or-replicate 8 i fresh_record fresh_record h)) fresh-seen);
}

pub structs-hold : Screens eight_sessions ScreenInPlace
structs-hold = screens-hold-of ScreenInPlace DoesAll RepresentsAll run-refines eight_sessions eight_fresh eight-seen
    screens-hold
