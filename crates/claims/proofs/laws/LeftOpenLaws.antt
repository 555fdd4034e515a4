-- What is left to the program has its properties, of the record after the call as its caller has it.
--     left-open-by-value, left-open-in-place   of a struct
--     left-open-on-bytes                       of record bytes
use Prim.Native.Nat.{ℕ}
use mathlib.Core.Path.{◌≡◌, refl, sym, ap, ◌∙◌, subst}
use mathlib.Core.Bool.{true}
use mathlib.Core.List.{List}
use Rattle.list_laws.proofs.BoolLaws.{and_left}
use Rattle.model.specs.Calls.{Call, advance, Answer}
use Rattle.model.specs.Model.{Record, act}
use Rattle.model.specs.LeftOpen.{AdvanceProperties, LeftOpen}
use Rattle.session.specs.declared.state.Session.{Session}
use Rattle.session.specs.Records.{record_of, valid}
use Rattle.session.specs.inner.Shapes.{Shaped}
use Rattle.session.specs.CallsByValue.{CallByValue, loads, starts, advances, cancels, reads}
use Rattle.session.specs.in_place.CallsInPlace.{CallInPlace}
use Rattle.session.proofs.Refine.{by-value-refines}
use Rattle.records.specs.Layout.{decoded, laid_out, valid_bytes, Bytes}
use Rattle.records.proofs.Theorems.{decode-encode, encode-decode, decoded-valid, decoded-types}
use Rattle.records.proofs.ValidTypes.{valid-types}
use Rattle.capi_session.specs.DecodedAnswers as exported
use Rattle.capi_session.proofs.SessionExportedLaws.{laid-length}
use Rattle.capi_session.proofs.ExportedRefines.{Encodes, exported-refines}
use Rattle.claims.proofs.laws.RefusalLaws.{as-by-value}
use Rattle.claims.proofs.laws.ByteAnswers.{bytes-answer}

-- ---- a struct

after_is : (s s' : Session) (c : Call) (a : Answer) → Shaped s → valid s ≡ true → CallByValue s c a s'
    → record_of s' ≡ (act (record_of s) c).record'
after_is s s' c a shaped v d =
    let k = by-value-refines s s' (record_of s) c a (record { shaped = shaped; passes = v; holds = refl }) d in
    k.2.holds ∙ k.1.leaves

pub left-open-by-value : (s s' : Session) (c : Call) (a : Answer) → Shaped s → valid s ≡ true → CallByValue s c a s'
    → LeftOpen (record_of s) c a (record_of s')
left-open-by-value s s' c a shaped v (loads o x y d) = tt
left-open-by-value s s' c a shaped v (starts o d) = tt
left-open-by-value s s' c a shaped v (advances {x} o d) =
    subst (λ (r : Record). AdvanceProperties (record_of s) x a r)
    (sym (after_is s s' (advance x) a shaped v (advances o d))) (d.properties v)
left-open-by-value s s' c a shaped v (cancels o d) = tt
left-open-by-value s s' c a shaped v (reads o d) = tt

pub left-open-in-place : (s s' : Session) (c : Call) (a : Answer) → Shaped s → valid s ≡ true → CallInPlace s c a s'
    → LeftOpen (record_of s) c a (record_of s')
left-open-in-place s s' c a shaped v d = left-open-by-value s s' c a shaped v (as-by-value s s' c a d)

-- ---- record bytes

pub held : (b : List ℕ) → valid_bytes b ≡ true → Bytes b → Encodes b (record_of (decoded b))
unfolding valid_bytes
held b v fits =
    let T = decoded-types b (laid-length b (and_left (laid_out b) (valid (decoded b)) v)) fits in
    let S : Shaped (decoded b) =
    record { nodes = T.nodes_length; labels = T.labels_length; roots = T.roots_length; states = T.states_length } in
    record {
      struct = decoded b;
      bytes = sym (encode-decode b v fits);
      seen = record { shaped = S; passes = decoded-valid b v; holds = refl };
    }

bytes_after : (b b' : List ℕ) (c : Call) (a : Answer) → valid_bytes b ≡ true → Bytes b → exported.Exports b c a b'
    → record_of (decoded b') ≡ (act (record_of (decoded b)) c).record'
bytes_after b b' c a v fits e =
    let k = exported-refines b b' (record_of (decoded b)) c a (held b v fits) e in
    let t : Session = k.2.struct in
    ap (λ (l : List ℕ). record_of (decoded l)) k.2.bytes
    ∙ ap record_of (decode-encode t (valid-types t k.2.seen.shaped k.2.seen.passes))
    ∙ k.2.seen.holds ∙ k.1.leaves

pub left-open-on-bytes : (b b' : List ℕ) (c : Call) (a : Answer) → valid_bytes b ≡ true → Bytes b
    → exported.Exports b c a b' → LeftOpen (record_of (decoded b)) c a (record_of (decoded b'))
left-open-on-bytes b b' c a v fits (exported.loads r x y e) = tt
left-open-on-bytes b b' c a v fits (exported.starts r p q e) = tt
left-open-on-bytes b b' c a v fits (exported.advances {x} r p q e) =
    let s : Record = record_of (decoded b) in
    subst (λ (t : Record). AdvanceProperties s x a t)
    (sym (bytes_after b b' (advance x) a v fits (exported.advances r p q e)))
    (subst (λ (y : Answer). AdvanceProperties s x y (act s (advance x)).record')
    (sym (bytes-answer b b' (advance x) a (exported.advances r p q e))) (e.call.properties v))
left-open-on-bytes b b' c a v fits (exported.cancels r e) = tt
left-open-on-bytes b b' c a v fits (exported.reads r p q e) = tt
