-- The promise of a call, by what the code has found.
--     invalid-done, refused-done, unless-done     a refusal: by the struct, by a number, by check 1
--     proceeds-done                               no check fails
--     allowed-no, allowed-yes, allowed-by   check 1
--     kept-of                                     what is left to the program has its properties
use Prim.Native.Nat.{ℕ, suc, ◌-◌, ◌<◌}
use mathlib.Core.Path.{◌≡◌, refl, sym, ap, ◌∙◌, subst}
use mathlib.Core.Bool.{Bool, true, false, not, ◌&&◌}
use mathlib.Core.List.{List, [], ◌∷◌}
use native.Mathlib.Omega.{arith}
use lib.ListN.{length, get_or}
use borrow.Author.Tests.{not-true, not-false}
use Rattle.list_laws.proofs.BoolLaws.{and_yes}
use Rattle.formats.specs.Checks.{Check, check, first_no}
use Rattle.list_laws.proofs.BoolLaws.{true-false}
use Rattle.formats.proofs.CheckLaws.{first_no-no, first_no-head}
use Rattle.formats.specs.Inputs.{Inputs, fits}
use Rattle.model.specs.Calls as calls
use Rattle.model.specs.Calls.{Call, load, start, advance, cancel, read, Answer, refused, is_running}
use Rattle.model.specs.Refusals.{refusal}
use Rattle.model.specs.Model.{stage_of, Acted, proceeds, unless, act}
use Rattle.model.specs.LeftOpen.{LeftOpen}
use Rattle.model.proofs.LeftOpenLaws.{refused-unchanged, advance-properties}
use Rattle.session.specs.declared.state.Session.{Session}
use Rattle.session.specs.Records.{phase_of, sizes_of, stage_in, record_of, session_of, valid}
use Rattle.session.specs.Promises.{CallDone, answer_on, record_on}
use Rattle.session.specs.inner.Shapes.{Shaped}
use Rattle.session.proofs.Holds.{holds_of, struct_is}
use Rattle.session.proofs.ActLaws.{Narrow, rises-below, running-is, act-valid}

-- an advance that no check refuses finds a root that is a node
next-inside : (s : Session) → Shaped s → valid s ≡ true → (x : Inputs)
    → refusal (stage_of (record_of s)) (advance x) ≡ 0
    → get_or (record_of s).roots (length (record_of s).states) 0 < (record_of s).sizes.n
unfolding refusal record_of
next-inside s h v x e =
    let m = first_no-head 1 (is_running (phase_of s.head.phase)) (check 17 (fits (sizes_of s) x) ∷ []) (omega arith) e in
    let G = running-is (phase_of s.head.phase) (record_of s) m (holds_of s h v) in
    let below = rises-below (s.head.sizes.n - 1) (record_of s).roots (length (record_of s).states) G.asked.rises G.handled in
    omega (arith, below, G.sizes.nodes-least)

-- the properties of what is left to the program
properties-of : (s : Session) → Shaped s → valid s ≡ true → (c : Call)
    → LeftOpen (record_of s) c (act (record_of s) c).answer (act (record_of s) c).record'
properties-of s h v (load x) = tt
properties-of s h v (start x vs bs) = tt
properties-of s h v (advance x) = advance-properties (record_of s) x (next-inside s h v x)
properties-of s h v cancel = tt
properties-of s h v read = tt

module _ (s : Session) (c : Call) where
  pub invalid-done : valid s ≡ false → CallDone s c (refused 1) s
  unfolding answer_on record_on
  invalid-done e = record { tells = rw e; leaves = rw e; unchanged = λ n f. refl; stays = λ v. v; properties = λ v. absurd (true-false (sym v ∙ e)) }

  module _ (h : Shaped s) (v : valid s ≡ true) where
    -- a valid struct: answer and record are the model's
    model-done : (a : Answer) (t : Session) → a ≡ (act (record_of s) c).answer → t ≡ session_of (act (record_of s) c).record'
        → valid t ≡ true → CallDone s c a t
    unfolding answer_on record_on
    model-done a t f g k = record {
      tells = rw v f;
      leaves = rw v g;
      unchanged = λ n e. g ∙ ap session_of (refused-unchanged (record_of s) c n (sym f ∙ e)) ∙ struct_is s h v;
      stays = λ w. k;
      properties = λ w. subst (λ (b : Answer). LeftOpen (record_of s) c b (act (record_of s) c).record') (sym f) (properties-of s h v c);
    }

    act-refused : (n : ℕ) → refusal (stage_in s) c ≡ suc n
        → (refused (suc n) ≡ (act (record_of s) c).answer) × (record_of s ≡ (act (record_of s) c).record')
    unfolding act unless record_of
    act-refused n e = (rw e, rw e)

    pub refused-done : (n : ℕ) → refusal (stage_in s) c ≡ suc n → CallDone s c (refused (suc n)) s
    refused-done n e =
        let a = act-refused n e in
        model-done (refused (suc n)) s a.0 (sym (struct_is s h v) ∙ ap session_of a.1) v

    act-proceeds : refusal (stage_in s) c ≡ 0 → proceeds (record_of s) c ≡ act (record_of s) c
    unfolding act unless record_of
    act-proceeds e = rw e

    pub proceeds-done : Narrow (record_of s) c → refusal (stage_in s) c ≡ 0 → (a : Answer) (t : Session)
        → a ≡ (proceeds (record_of s) c).answer
        → t ≡ session_of (proceeds (record_of s) c).record' → CallDone s c a t
    proceeds-done w e a t f g =
        let k : t ≡ session_of (act (record_of s) c).record' = g ∙ ap (λ (x : Acted). session_of x.record') (act-proceeds e) in
        model-done a t (f ∙ ap (λ (x : Acted). x.answer) (act-proceeds e)) k
        (subst (λ (u : Session). valid u ≡ true) (sym k) (act-valid s h v c w))

  -- check 1 says no
  pub unless-done : Shaped s → (b : Bool) (cs : List Check)
      → refusal (stage_in s) c ≡ first_no (check 1 b ∷ cs)
      → (valid s && b) ≡ false → CallDone s c (refused 1) s
  unless-done h b cs e f = go (valid s) refl f
    where
      go : (a : Bool) → valid s ≡ a → (a && b) ≡ false → CallDone s c (refused 1) s
      go true v g = refused-done h v 0 (e ∙ first_no-no 1 b cs g)
      go false v g = invalid-done v

-- ---- check 1: the state, and the record

pub allowed-no : (v m : Bool) → not m ≡ true → false ≡ (v && m)
allowed-no true m e = sym (not-true m e)
allowed-no false m e = refl

pub allowed-yes : (v m b : Bool) → not m ≡ false → b ≡ v → b ≡ (v && m)
allowed-yes v m b e f = f ∙ sym (and_yes v) ∙ sym (ap (λ (x : Bool). v && x) (not-false m e))

-- of a struct: its head and arrays are those that were tested
pub allowed-by : (f : calls.Phase → Bool) (s : Session) (m b : Bool) → m ≡ f (phase_of s.head.phase) → b ≡ (valid s && m)
    → b ≡ (valid s && f (phase_of s.head.phase))
allowed-by f s m b e g = g ∙ ap (λ (x : Bool). valid s && x) e
