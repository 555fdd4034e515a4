-- The two table buffers after a Load (specs/Lent), from the contract of each form.
--     tables-by-value      by value and in place: both have the promise LoadDone
--     tables-on-bytes      on record bytes
--     tables-on-structs    of eight screens, on a run of eight structs
--     tables-of-screens    of eight screens, on a run of eight records as bytes
use Prim.Native.Nat.{ℕ, zero, suc}
use mathlib.Core.Path.{◌≡◌, refl, sym, ap, ◌∙◌}
use mathlib.Core.Bool.{Bool, true, false, cond}
use mathlib.Core.List.{List}
use native.Mathlib.Omega.{arith}
use lib.Dec.{eqb}
use lib.ListN.{length}
use borrow.Author.Tests.{eq-eqb}
use Rattle.list_laws.proofs.BoolLaws.{true-false}
use Rattle.formats.specs.Built.{built_node_table, built_state_table}
use Rattle.formats.specs.Checks.{first_no}
use Rattle.formats.specs.Inputs.{Inputs}
use Rattle.tables.specs.Answers.{written}
use Rattle.model.specs.Calls.{load, Answer, refused, is_refused}
use Rattle.model.specs.Refusals.{refusal}
use Rattle.model.specs.Model.{Record, stage_of, proceeds, unless, act}
use Rattle.session.specs.declared.state.Session.{Session}
use Rattle.session.specs.Records.{record_of, valid}
use Rattle.session.specs.Promises.{answer_on, refusal_on, LoadDone}
use Rattle.records.specs.Layout.{decoded, laid_out}
use Rattle.capi_session.specs.SessionExported.{answer_for, answer_number, LoadExported}
use Rattle.capi_session.specs.SessionExported as one-record
use Rattle.screens.specs.ScreenCalls.{ScreenAnswer, one, answer_in, refuses, load_all_checks, load_target, target}
use Rattle.screens.specs.in_place.OnStructs as on-structs
use Rattle.screens.specs.in_place.LoadAll as all-structs
use Rattle.capi_screens.specs.RunLayout.{run_length, busy}
use Rattle.capi_screens.specs.ScreensExported.{ScreensLoadExported, target_in, answer_of, answer_all_for}
use Rattle.capi_screens.specs.ScreensExported as eight
use Rattle.claims.specs.Lent.{TablesAfterLoad, TablesAfterLoadCall}

-- n is the number of the first failing check, denied whether the call was refused
by-refusal : (x : Inputs) (n : ℕ) (denied : Bool) (node_table' state_table' : List ℕ) → (n ≡ 0 → denied ≡ false)
    → ((m : ℕ) → n ≡ suc m → denied ≡ true)
    → node_table' ≡ written n (built_node_table x.plan) x.node_table
    → state_table' ≡ written n (built_state_table x.plan x.rules) x.state_table
    → TablesAfterLoad x denied node_table' state_table'
unfolding written
by-refusal x zero denied nt st z s e f =
    record { unwritten = λ h. absurd (true-false (sym h ∙ z refl)); written = λ h. (e, f) }
by-refusal x (suc n) denied nt st z s e f =
    record { unwritten = λ h. (e, f); written = λ h. absurd (true-false (sym (s n refl) ∙ h)) }

-- the same where n is the number r that is returned
by_number : (x : Inputs) (n r : ℕ) (node_table' state_table' : List ℕ) → r ≡ n
    → node_table' ≡ written n (built_node_table x.plan) x.node_table
    → state_table' ≡ written n (built_state_table x.plan x.rules) x.state_table
    → TablesAfterLoadCall x r node_table' state_table'
unfolding written
by_number x zero r nt st z e f = record { unwritten = λ h. absurd (h z); written = λ h. (e, f) }
by_number x (suc n) r nt st z e f = record { unwritten = λ h. (e, f); written = λ h. absurd (omega (arith, z, h)) }

-- ---- by value

module _ (r : Record) (x : Inputs) where
  accepts : (v : Bool) (m : ℕ) → cond v m 1 ≡ 0 → is_refused (cond v (unless m r (load x)).answer (refused 1)) ≡ false
  unfolding unless proceeds
  accepts true zero e = refl
  accepts true (suc m) e = absurd (omega arith)
  accepts false m e = absurd (omega arith)

  denies : (v : Bool) (m k : ℕ) → cond v m 1 ≡ suc k
      → is_refused (cond v (unless m r (load x)).answer (refused 1)) ≡ true
  unfolding unless proceeds
  denies true zero k e = absurd (omega arith)
  denies true (suc m) k e = refl
  denies false m k e = refl

pub tables-by-value : (s s' : Session) (x : Inputs) (a : Answer) (node_table' state_table' : List ℕ)
    → LoadDone s x a s' node_table' state_table' → TablesAfterLoad x (is_refused a) node_table' state_table'
unfolding answer_on refusal_on act
tables-by-value s s' x a nt st d =
    let r : Record = record_of s in
    by-refusal x (refusal_on s (load x)) (is_refused a) nt st
    (λ z. ap is_refused d.call.tells ∙ accepts r x (valid s) (refusal (stage_of r) (load x)) z)
    (λ m z. ap is_refused d.call.tells ∙ denies r x (valid s) (refusal (stage_of r) (load x)) m z)
    d.node_table_written d.state_table_written

-- ---- on record bytes

same_number : (r : Record) (x : Inputs) (l v : Bool) (m : ℕ)
    → answer_number (cond l (cond v (unless m r (load x)).answer (refused 1)) (refused 1)) ≡ cond l (cond v m 1) 1
unfolding unless proceeds answer_number
same_number r x true true zero = refl
same_number r x true true (suc m) = refl
same_number r x true false m = refl
same_number r x false v m = refl

pub tables-on-bytes : (b b' : List ℕ) (x : Inputs) (r : ℕ) (node_table' state_table' : List ℕ)
    → LoadExported b x r b' node_table' state_table' → TablesAfterLoadCall x r node_table' state_table'
unfolding answer_for answer_on refusal_on act one-record.load_number
tables-on-bytes b b' x r nt st e =
    let s : Record = record_of (decoded b) in
    by_number x (one-record.load_number b x) r nt st
    (e.call.number ∙ same_number s x (laid_out b) (valid (decoded b)) (refusal (stage_of s) (load x)))
    e.node_table_written e.state_table_written

-- ---- eight screens

all-number : (b : List ℕ) (x : Inputs) (t : Bool) (n : ℕ)
    → answer_number (answer_in (cond t (answer_of b (load_target n x)) (one (refused 25)))) ≡ cond t n 25
unfolding load_target answer_of answer_in answer_number
all-number b x true zero = refl
all-number b x true (suc n) = refl
all-number b x false n = refl

pub tables-of-screens : (b b' : List ℕ) (x : Inputs) (r next₀ next₁ : ℕ) (node_table' state_table' : List ℕ)
    → ScreensLoadExported b x r b' node_table' state_table' next₀ next₁ → TablesAfterLoadCall x r node_table' state_table'
unfolding answer_all_for target_in target eight.load_number
tables-of-screens b b' x r k₀ k₁ nt st e =
    by_number x (eight.load_number b x) r nt st
    (e.call.number ∙ all-number b x (eqb (length b) run_length) (first_no (load_all_checks (busy b) x)))
    e.node_table_written e.state_table_written

module _ (ss : List Session) (x : Inputs) where
  all-accepts : (n : ℕ) → n ≡ 0 → refuses (on-structs.answer_of ss (load_target n x)) ≡ false
  unfolding on-structs.answer_of load_target answer_in
  all-accepts zero e = refl
  all-accepts (suc n) e = absurd (let i : ◌≡◌ {A = ℕ} (suc n) 0 = e in omega (arith, i))

  all-denies : (n m : ℕ) → n ≡ suc m → refuses (on-structs.answer_of ss (load_target n x)) ≡ true
  unfolding on-structs.answer_of load_target answer_in
  all-denies zero m e = absurd (let i : ◌≡◌ {A = ℕ} 0 (suc m) = e in omega (arith, i))
  all-denies (suc n) m e = refl

pub tables-on-structs : (ss ss' : List Session) (x : Inputs) (a : ScreenAnswer) (node_table' state_table' : List ℕ)
    → length ss ≡ 8 → all-structs.LoadAllDone ss x a ss' node_table' state_table'
    → TablesAfterLoad x (refuses a) node_table' state_table'
unfolding on-structs.answer_all on-structs.target_in target
tables-on-structs ss ss' x a nt st l d =
    let n : ℕ = all-structs.load_number ss x in
    let t : a ≡ on-structs.answer_of ss (load_target n x) =
    d.call.tells
    ∙ ap (λ (b : Bool). cond b (on-structs.answer_of ss (load_target n x)) (one (refused 25))) (eq-eqb (length ss) 8 l) in
    by-refusal x n (refuses a) nt st
    (λ z. ap refuses t ∙ all-accepts ss x n z) (λ m z. ap refuses t ∙ all-denies ss x n m z)
    d.node_table_written d.state_table_written
