-- An advance alters of a record's bytes the head, one state and the last finished answer.
--     step_is         with these the bytes are those of the record that it leaves
--     advance-made    so the exported advance does what the call on the struct does
use Prim.Native.Nat.{ℕ, ◌+◌}
use mathlib.Core.Path.{◌≡◌, refl, sym, ap, ◌∙◌, subst}
use mathlib.Core.Bool.{Bool, true, cond}
use mathlib.Core.List.{List, ◌++◌, append_assoc}
use native.Mathlib.Omega.{arith}
use lib.ListN.{length, take, drop, set}
use lib.Seq.{drop-drop, take-add}
use Rattle.list_laws.proofs.SliceLaws.{length_part}
use Rattle.formats.specs.Inputs.{Inputs}
use Rattle.model.specs.Calls.{advance}
use Rattle.std.specs.Prelude.{Result, Ok, Err}
use Rattle.formats.specs.declared.refusals.Refusal.{Refusal}
use Rattle.session.specs.declared.answers.Progress.{Progress}
use Rattle.session.specs.declared.answers.Progress.TheVariants.{More, Finished}
use Rattle.session.specs.declared.answers.AdvanceStep.{AdvanceStep}
use Rattle.session.specs.declared.state.Head.{Head}
use Rattle.session.specs.declared.state.Session.{Session}
use Rattle.session.specs.Answers.{advance_answer}
use Rattle.session.specs.Records.{whole}
use Rattle.session.specs.inner.Steps.{stores_by, step_on, StepFound}
use Rattle.records.specs.Layout.{record_length, bytes16, head_bytes, last_bytes, run, step_bytes, encoded, decoded, laid_out, Bytes}
use Rattle.records.proofs.NumberLaws.{bytes-numbers}
use Rattle.records.proofs.RunLaws.{run_fits}
use Rattle.capi_session.specs.SessionExported.{unless_refused, AdvanceExported}
use Rattle.capi_session.specs.Stored.{AdvanceStored}
use Rattle.capi_session.proofs.SessionExportedLaws.{laid-length, advance-laid}

runs-join : (b : List ℕ) (a n m : ℕ) → run a n b ++ run (a + n) m b ≡ run a (n + m) b
runs-join b a n m =
    ap (λ (t : List ℕ). run a n b ++ take m t) (sym (drop-drop n a b)) ∙ sym (take-add n m (drop a b))

flat : (h n l r s w : List ℕ) → h ++ ((n ++ (l ++ r)) ++ (s ++ w)) ≡ h ++ (n ++ (l ++ (r ++ (s ++ w))))
flat h n l r s w = simp append_assoc

module _ (b : List ℕ) (long : length b ≡ record_length) (fits : Bytes b) where
  -- the bytes of list and roots
  lists-in : bytes16 (decoded b).nodes ++ ((decoded b).labels ++ bytes16 (decoded b).roots) ≡ run 13 700 b
  unfolding decoded
  lists-in =
      let n = bytes-numbers (run 13 128 b) 64 (length_part b 13 128 (omega arith)) (run_fits b 13 128 fits) in
      let r = bytes-numbers (run 205 508 b) 254 (length_part b 205 508 (omega arith)) (run_fits b 205 508 fits) in
      ap (λ (l : List ℕ). l ++ (run 141 64 b ++ bytes16 (decoded b).roots)) n
      ∙ ap (λ (l : List ℕ). run 13 128 b ++ (run 141 64 b ++ l)) r
      ∙ ap (λ (l : List ℕ). run 13 128 b ++ l) (runs-join b 141 64 508)
      ∙ runs-join b 13 128 572

  step_is : (h : Head) (i q : ℕ)
      → step_bytes h i q b
      ≡ encoded (whole h (decoded b).nodes (decoded b).labels (decoded b).roots (set (decoded b).states i q))
  unfolding encoded decoded
  step_is h i q =
      ap (λ (u : List ℕ). head_bytes h ++ (u ++ (set (run 713 254 b) i q ++ last_bytes h))) (sym lists-in)
      ∙ flat (head_bytes h) (bytes16 (decoded b).nodes) (decoded b).labels (bytes16 (decoded b).roots) (set (run 713 254 b) i q)
      (last_bytes h)

  stored_is : (t : AdvanceStep) → t.stored ≡ true
      → step_bytes t.head (decoded b).head.handled t.state b ≡ encoded (step_on (decoded b) t)
  stored_is t e =
      step_is t.head (decoded b).head.handled t.state
      ∙ ap (λ (k : Bool). encoded (whole t.head (decoded b).nodes (decoded b).labels (decoded b).roots
      (cond k (set (decoded b).states (decoded b).head.handled t.state) (decoded b).states))) (sym e)

  -- unless it is refused, the step stores its state
  step_left : (t : AdvanceStep) (a : Result Progress Refusal) → t.answer ≡ a → t.stored ≡ stores_by t.answer
      → unless_refused (advance_answer a) (step_bytes t.head (decoded b).head.handled t.state b) b
      ≡ unless_refused (advance_answer a) (encoded (step_on (decoded b) t)) b
  unfolding unless_refused advance_answer
  step_left t (Ok More) e f = stored_is t (f ∙ ap stores_by e)
  step_left t (Ok Finished) e f = stored_is t (f ∙ ap stores_by e)
  step_left t (Err r) e f = refl

-- a promise on the struct that was decoded
pub advance-made : (b : List ℕ) (s : Session) (x : Inputs) (t : AdvanceStep) (r : ℕ) (b' : List ℕ) (f f' : ℕ) → laid_out b ≡ true
    → Bytes b → s ≡ decoded b → StepFound s (advance x) t → AdvanceStored t s.head.handled b f r b' f'
    → AdvanceExported b (advance x) r b' f f'
advance-made b s x t r b' f f' l fits e F S =
    let G = subst (λ (u : Session). StepFound u (advance x) t) e F in
    let P = subst (λ (u : Session). AdvanceStored t u.head.handled b f r b' f') e S in
    let a = advance_answer t.answer in
    advance-laid b (advance x) l a (step_on (decoded b) t) r b' f f' G.done
    (record {
      number = P.stored.number;
      left = P.stored.left ∙ step_left b (laid-length b l) fits t t.answer refl G.stores;
    })
    P.finished_after
