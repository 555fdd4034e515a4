-- The record after an accepted Load and after an accepted Cancel, for any record before the call.
--     value-after-load, value-after-cancel    by value
--     place-after-load, place-after-cancel    in place
--     after-load, after-cancel                as bytes
use Prim.Native.Nat.{ℕ, zero, suc}
use mathlib.Core.Path.{◌≡◌, refl, sym, ap, ◌∙◌}
use mathlib.Core.Bool.{Bool, true, false, cond}
use mathlib.Core.List.{List}
use Rattle.list_laws.proofs.BoolLaws.{true-false}
use Rattle.formats.specs.Inputs.{Inputs, sizes_in}
use Rattle.model.specs.Calls.{Call, load, cancel, Answer, refused, is_refused}
use Rattle.model.specs.Refusals.{refusal}
use Rattle.model.specs.Model.{Record, stage_of, loaded_record, with_last, proceeds, unless, act}
use Rattle.session.specs.declared.state.Session.{Session}
use Rattle.session.specs.Records.{record_of, session_of, valid}
use Rattle.session.specs.Promises.{answer_on, record_on, CallDone}
use Rattle.session.specs.CallsByValue as by_value
use Rattle.session.specs.in_place.CallsInPlace.{CallInPlace}
use Rattle.records.specs.Layout.{encoded, decoded, laid_out}
use Rattle.capi_session.specs.SessionExported.{answer_for, unless_refused, record_for}
use Rattle.capi_session.specs.DecodedAnswers.{Exports, loads, cancels}
use Rattle.claims.proofs.laws.ByteAnswers.{bytes-answer}
use Rattle.claims.proofs.laws.RefusalLaws.{as-by-value}

not-refused : (n : ℕ) → Answer.accepted ≡ refused n → ⊥
not-refused n e = true-false (sym (ap is_refused e))

-- an accepted Cancel keeps the last finished answer
abbrev pub cancelled : Record → Record
cancelled r = with_last r.last (loaded_record r.sizes)

-- v is whether the struct s is valid, m the number of the first failing check
module _ (s : Session) (c : Call) (new : Record) (accepts : (proceeds (record_of s) c).answer ≡ Answer.accepted)
    (leaves : (proceeds (record_of s) c).record' ≡ new) where
  struct-after : (s' : Session) (v : Bool) (m : ℕ)
      → Answer.accepted ≡ cond v (unless m (record_of s) c).answer (refused 1)
      → s' ≡ cond v (session_of (unless m (record_of s) c).record') s → s' ≡ session_of new
  unfolding unless
  struct-after s' true zero e f = f ∙ ap session_of leaves
  struct-after s' true (suc m) e f = absurd (not-refused (suc m) e)
  struct-after s' false m e f = absurd (not-refused 1 e)

  done-after : (s' : Session) (a : Answer) → CallDone s c a s' → a ≡ Answer.accepted → s' ≡ session_of new
  unfolding answer_on record_on act
  done-after s' a d h =
      struct-after s' (valid s) (refusal (stage_of (record_of s)) c) (sym h ∙ d.tells) d.leaves

  -- and l whether the bytes b of s have the record's layout
  bytes_after : (b b' : List ℕ) (l v : Bool) (m : ℕ)
      → Answer.accepted ≡ cond l (cond v (unless m (record_of s) c).answer (refused 1)) (refused 1)
      → b' ≡ unless_refused (cond l (cond v (unless m (record_of s) c).answer (refused 1)) (refused 1))
      (encoded (cond v (session_of (unless m (record_of s) c).record') s)) b
      → b' ≡ encoded (session_of new)
  unfolding unless unless_refused
  bytes_after b b' true true zero e f =
      f ∙ ap (λ (y : Answer). unless_refused y (encoded (session_of (proceeds (record_of s) c).record')) b) accepts
      ∙ ap (λ (t : Record). encoded (session_of t)) leaves
  bytes_after b b' true true (suc m) e f = absurd (not-refused (suc m) e)
  bytes_after b b' true false m e f = absurd (not-refused 1 e)
  bytes_after b b' false v m e f = absurd (not-refused 1 e)

-- ---- by value

pub value-after-load : (s s' : Session) (x : Inputs) (a : Answer) → by_value.CallByValue s (load x) a s'
    → a ≡ Answer.accepted → s' ≡ session_of (loaded_record (sizes_in x))
unfolding proceeds
value-after-load s s' x a (by_value.loads o nt st d) h =
    done-after s (load x) (loaded_record (sizes_in x)) refl refl s' a d.call h

pub value-after-cancel : (s s' : Session) (a : Answer) → by_value.CallByValue s cancel a s' → a ≡ Answer.accepted
    → s' ≡ session_of (cancelled (record_of s))
unfolding proceeds
value-after-cancel s s' a (by_value.cancels o d) h =
    done-after s cancel (cancelled (record_of s)) refl refl s' a d h

-- ---- in place

pub place-after-load : (s s' : Session) (x : Inputs) (a : Answer) → CallInPlace s (load x) a s' → a ≡ Answer.accepted
    → s' ≡ session_of (loaded_record (sizes_in x))
place-after-load s s' x a d = value-after-load s s' x a (as-by-value s s' (load x) a d)

pub place-after-cancel : (s s' : Session) (a : Answer) → CallInPlace s cancel a s' → a ≡ Answer.accepted
    → s' ≡ session_of (cancelled (record_of s))
place-after-cancel s s' a d = value-after-cancel s s' a (as-by-value s s' cancel a d)

-- ---- on record bytes

pub after-load : (b b' : List ℕ) (x : Inputs) (a : Answer) → Exports b (load x) a b' → a ≡ Answer.accepted
    → b' ≡ encoded (session_of (loaded_record (sizes_in x)))
unfolding answer_for answer_on record_for record_on act proceeds
after-load b b' x a (loads r nt st e) h =
    bytes_after (decoded b) (load x) (loaded_record (sizes_in x)) refl refl b b' (laid_out b) (valid (decoded b))
    (refusal (stage_of (record_of (decoded b))) (load x))
    (sym h ∙ bytes-answer b b' (load x) a (loads r nt st e)) e.call.left

pub after-cancel : (b b' : List ℕ) (a : Answer) → Exports b cancel a b' → a ≡ Answer.accepted
    → b' ≡ encoded (session_of (cancelled (record_of (decoded b))))
unfolding answer_for answer_on record_for record_on act proceeds
after-cancel b b' a (cancels r e) h =
    bytes_after (decoded b) cancel (cancelled (record_of (decoded b))) refl refl b b' (laid_out b) (valid (decoded b))
    (refusal (stage_of (record_of (decoded b))) cancel)
    (sym h ∙ bytes-answer b b' cancel a (cancels r e)) e.left
