-- One call on the eight records, as each screen sees it.
--     on-target      on eight records a call is decided by its target
--     moved          what a screen is fed takes its record from before the call to after it; what it is not fed leaves
--                    it as it was
--     stays-eight    the records stay eight
--     follows        who runs is followed by calls and answers alone
use Prim.Native.Nat.{ℕ, ◌<◌}
use mathlib.Core.Path.{◌≡◌, refl, sym, ap, ap₂, ◌∙◌, subst}
use mathlib.Core.Bool.{Bool, cond}
use mathlib.Core.List.{List}
use mathlib.Core.Option.{Option, none, some}
use native.Mathlib.Decide.{ℕ_discrete}
use native.Mathlib.Omega.{arith}
use lib.Dec.{eqb}
use lib.ListN.{length, set, length-set, get_or-replicate}
use lib.Seq.{get_or-set_same, get_or-set_other}
use borrow.Author.Tests.{eq-eqb, ne_eqb}
use Rattle.list_laws.proofs.Choice.{by-test}
use Rattle.formats.specs.Inputs.{Inputs, sizes_in}
use Rattle.model.specs.Calls.{Call, load, advance, Answer, is_refused, is_running}
use Rattle.model.specs.Model.{Record, fresh_record, loaded_record, act, Does}
use Rattle.screens.specs.ScreenCalls.{ScreenCall, ScreenAnswer, answer_in, Running, Target}
use Rattle.screens.specs.ScreenCalls.{nobody, every_screen}
use Rattle.screens.specs.ScreenCalls.{screen, turn, target, turn_answer}
use Rattle.screens.specs.EightRecords.{at, runs, ActedAll, act_on, act_all, DoesAll}
use Rattle.screens.specs.Projection.{Fed, fed, fed_by, fed_to, still_runs, still_runs_by, followed}
use Rattle.screens.proofs.RecordLaws.{act-runs, load-accepted, acts}
use Rattle.screens.proofs.TargetLaws.{Rightly, rightly, SameRunning, target-same}

pub on-target : (rs : List Record) (c : ScreenCall) → length rs ≡ 8 → act_all rs c ≡ act_on rs (target (runs rs) c)
unfolding act_all
on-target rs c long =
    ap (λ (b : Bool). cond b (act_on rs (target (runs rs) c)) (act_on rs (nobody 25))) (eq-eqb (length rs) 8 long)

-- the answer of a turn is the advance's
pub answer-turn : (i : ℕ) (a : Answer) → answer_in (turn_answer i a) ≡ a
unfolding answer_in turn_answer
answer-turn i a = by-test (λ (t : ScreenAnswer). answer_in t ≡ a) (is_refused a) (λ e. refl) (λ e. refl)

-- ---- each screen's record

-- what a screen is fed takes its record from r to r'
abbrev pub Moved : Option Fed → Record → Record → Type 0
Moved none r r' = r' ≡ r
Moved (some f) r r' = Does r f.call f.answer r'

module _ (rs : List Record) (long : length rs ≡ 8) (i : ℕ) (hi : i < 8) where
  one-moved : (j : ℕ) (c : Call) → Moved (cond (eqb i j) (some (fed c (act (at rs j) c).answer)) none) (at rs i)
      (at (set rs j (act (at rs j) c).record') i)
  one-moved j c = elim (ℕ_discrete i j) [
    | yes q ↦ rw (eq-eqb i j q)
        (subst (λ (k : ℕ). Does (at rs i) c (act (at rs k) c).answer (at (set rs k (act (at rs k) c).record') i)) q
        (rw (get_or-set_same rs i (act (at rs i) c).record' fresh_record (omega arith)) (acts (at rs i) c)))
    | no q ↦ rw (ne_eqb i j q) (get_or-set_other rs j i (act (at rs j) c).record' fresh_record q)
  ]

  all-loaded : (x : Inputs) → at (act_on rs (every_screen x)).records' i ≡ loaded_record (sizes_in x)
  unfolding act_on
  all-loaded x = get_or-replicate 8 i (loaded_record (sizes_in x)) fresh_record hi

  target-moved : (t : Target) → Rightly (runs rs) t
      → Moved (fed_by i t (answer_in (act_on rs t).answer)) (at rs i) (at (act_on rs t).records' i)
  unfolding act_on fed_by answer_in
  target-moved (nobody n) h = refl
  target-moved (every_screen x) h =
      subst (λ (r : Record). Does (at rs i) (load x) Answer.accepted r) (sym (all-loaded x))
      (load-accepted (at rs i) x (h.0 i hi) h.1)
  target-moved (screen j c) h = one-moved j c
  target-moved (turn j x) h =
      subst (λ (a : Answer). Moved (cond (eqb i j) (some (fed (advance x) a)) none) (at rs i)
      (at (set rs j (act (at rs j) (advance x)).record') i)) (sym (answer-turn j (act (at rs j) (advance x)).answer))
      (one-moved j (advance x))

module _ (rs : List Record) (long : length rs ≡ 8) where
  target-eight : (t : Target) → length (act_on rs t).records' ≡ 8
  unfolding act_on
  target-eight (nobody n) = long
  target-eight (every_screen x) = refl
  target-eight (screen i c) = length-set rs i (act (at rs i) c).record' ∙ long
  target-eight (turn i x) = length-set rs i (act (at rs i) (advance x)).record' ∙ long

  pub stays-eight : (c : ScreenCall) → length (act_all rs c).records' ≡ 8
  stays-eight c = ap (λ (k : ActedAll). length k.records') (on-target rs c long) ∙ target-eight (target (runs rs) c)

  module _ (run : Running) (same : SameRunning run (runs rs)) where
    pub moved : (c : ScreenCall) (i : ℕ) → i < 8
        → Moved (fed_to run i c (act_all rs c).answer) (at rs i) (at (act_all rs c).records' i)
    moved c i hi =
        rw (target-same run (runs rs) same c, on-target rs c long)
        (target-moved rs long i hi (target (runs rs) c) (rightly (runs rs) c))

    pub follows : (c : ScreenCall) → SameRunning (followed run c (act_all rs c).answer) (runs (act_all rs c).records')
    unfolding still_runs_by
    follows c j h = go (fed_to run j c (act_all rs c).answer) (moved c j h)
      where
        go : (o : Option Fed) → Moved o (at rs j) (at (act_all rs c).records' j)
            → still_runs_by (run j) o ≡ is_running (at (act_all rs c).records' j).phase
        go none e = same j h ∙ sym (ap (λ (r : Record). is_running r.phase) e)
        go (some f) d =
            ap₂ still_runs (same j h) d.tells ∙ sym (act-runs (at rs j) f.call)
            ∙ sym (ap (λ (r : Record). is_running r.phase) d.leaves)

-- the same of a call in a history
module _ (rs rs' : List Record) (c : ScreenCall) (a : ScreenAnswer) (long : length rs ≡ 8)
    (d : DoesAll rs c a rs') where
  pub does-eight : length rs' ≡ 8
  does-eight = ap length d.leaves ∙ stays-eight rs long c

  pub does-moved : (run : Running) → SameRunning run (runs rs) → (i : ℕ) → i < 8
      → Moved (fed_to run i c a) (at rs i) (at rs' i)
  does-moved run same i hi = rw (d.tells, d.leaves) (moved rs long run same c i hi)

  pub does-follows : (run : Running) → SameRunning run (runs rs) → SameRunning (followed run c a) (runs rs')
  does-follows run same j h = rw (d.tells, d.leaves) (follows rs long run same c j h)
