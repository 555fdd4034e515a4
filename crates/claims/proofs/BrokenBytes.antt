-- "bytes that break it get 1": a call on record bytes that are no record is refused with 1, and the bytes stay.
--     broken-number      its first failing check has number 1
--     broken-refused     so each of the five exported calls is refused with 1, and leaves the bytes as they were
use Prim.Native.Nat.{ℕ}
use mathlib.Core.Path.{◌≡◌, refl}
use mathlib.Core.Bool.{Bool, true, false, cond, ◌&&◌}
use mathlib.Core.List.{List}
use Rattle.list_laws.proofs.BoolLaws.{true-false}
use Rattle.model.specs.Calls.{Call, Answer, refused}
use Rattle.model.specs.Refusals.{refusal}
use Rattle.model.specs.Model.{stage_of}
use Rattle.session.specs.Records.{record_of, valid}
use Rattle.session.specs.Promises.{refusal_on}
use Rattle.records.specs.Layout.{decoded, laid_out, valid_bytes}
use Rattle.capi_session.specs.DecodedAnswers.{Exports}
use Rattle.claims.specs.Refusals.{refusal_for}
use Rattle.claims.proofs.laws.RefusalLaws.{refused-on-bytes}

broken-number : (b : List ℕ) (c : Call) → valid_bytes b ≡ false → refusal_for b c ≡ 1
unfolding valid_bytes refusal_on
broken-number b c h = go (laid_out b) (valid (decoded b)) h
  where
    go : (l v : Bool) → (l && v) ≡ false → cond l (cond v (refusal (stage_of (record_of (decoded b))) c) 1) 1 ≡ 1
    go true true e = absurd (true-false e)
    go true false e = refl
    go false v e = refl

pub broken-refused : (b b' : List ℕ) (c : Call) (a : Answer) → Exports b c a b' → valid_bytes b ≡ false
    → (a ≡ refused 1) × (b' ≡ b)
broken-refused b b' c a e h =
    let D = refused-on-bytes b b' c a e in
    let f : a ≡ refused 1 = D.by_number 0 (broken-number b c h) in
    (f, D.unaltered 1 f)
