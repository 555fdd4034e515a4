-- All that the screens use of a single session's calls.
--     act-runs        whether a session runs after a call is decided by its answer
--     act-own         a call returns its own kind of answer
--     load-refusal, load-accepted
--                     a Load where no question runs depends on its inputs alone
--     refused-same    a refusal leaves the record as it is
use Prim.Native.Nat.{ℕ, zero, suc}
use mathlib.Core.Path.{◌≡◌, refl, sym, ap, ◌∙◌}
use mathlib.Core.Bool.{Bool, true, false, cond}
use mathlib.Core.Option.{Option, none, some}
use lib.Dec.{eqb}
use lib.ListN.{length}
use Rattle.list_laws.proofs.BoolLaws.{true-false}
use Rattle.formats.specs.Checks.{first_no, build_checks}
use Rattle.formats.specs.Inputs.{Inputs, sizes_in}
use Rattle.formats.proofs.CheckLaws.{first_no-yes}
use Rattle.tables.specs.declared.answers.Reached.{Reached}
use Rattle.model.specs.Calls.{Call, load, start, advance, cancel, read, Answer, refused, parts, more, finished, Outcome}
use Rattle.model.specs.Calls.{outcome, is_refused}
use Rattle.model.specs.Calls.{Phase, may_load, is_running}
use Rattle.model.specs.Refusals.{refusal}
use Rattle.model.specs.Model.{Record, stage_of, acted, last_answer, idle, loaded_record, started, stepped, advance_with}
use Rattle.model.specs.Model.{part_next, proceeds, unless, act, Does}
use Rattle.model.proofs.LeftOpenLaws.{refused-unchanged}
use Rattle.reference.specs.OwnAnswers.{OwnAnswer, refuses, loads, starts, goes_on, finishes, cancels, reads}
use Rattle.screens.specs.Projection.{still_runs}

pub act-runs : (r : Record) (c : Call)
    → is_running (act r c).record'.phase ≡ still_runs (is_running r.phase) (act r c).answer
unfolding act unless proceeds advance_with still_runs idle started stepped is_running
act-runs r c = go (refusal (stage_of r) c) c
  where
    either : (b : Bool) (f g : Record) → f.phase ≡ Phase.answered → g.phase ≡ Phase.running
        → is_running (cond b (acted finished f) (acted more g)).record'.phase
        ≡ still_runs (is_running r.phase) (cond b (acted finished f) (acted more g)).answer
    either true f g e h = ap is_running e
    either false f g e h = ap is_running h

    advanced : (x : Inputs) (o : Option Reached)
        → is_running (advance_with r x o).record'.phase ≡ still_runs (is_running r.phase) (advance_with r x o).answer
    advanced x none = refl
    advanced x (some y) = either (eqb (suc (length r.states)) (length r.roots)) _ _ refl refl

    told : (b : Bool) (o : Option Outcome) → still_runs b (last_answer o) ≡ b
    told b none = refl
    told b (some o) = refl

    go : (n : ℕ) (d : Call) → is_running (unless n r d).record'.phase ≡ still_runs (is_running r.phase)
        (unless n r d).answer
    go (suc n) d = refl
    go zero (load x) = refl
    go zero (start x vs bs) = refl
    go zero (advance x) = advanced x (part_next r x)
    go zero cancel = refl
    go zero read = sym (told (is_running r.phase) r.last)

pub act-own : (r : Record) (c : Call) → OwnAnswer c (act r c).answer
unfolding act unless proceeds advance_with
act-own r c = go (refusal (stage_of r) c) c
  where
    either : (x : Inputs) (b : Bool) (f g : Record) → OwnAnswer (advance x) (cond b (acted finished f) (acted more g)).answer
    either x true f g = finishes
    either x false f g = goes_on

    advanced : (x : Inputs) (o : Option Reached) → OwnAnswer (advance x) (advance_with r x o).answer
    advanced x none = refuses 18
    advanced x (some y) = either x (eqb (suc (length r.states)) (length r.roots)) _ _

    told : (o : Option Outcome) → OwnAnswer read (last_answer o)
    told none = refuses 1
    told (some o) = reads o

    go : (n : ℕ) (d : Call) → OwnAnswer d (unless n r d).answer
    go (suc n) d = refuses (suc n)
    go zero (load x) = loads
    go zero (start x vs bs) = starts _
    go zero (advance x) = advanced x (part_next r x)
    go zero cancel = cancels
    go zero read = told r.last

-- ---- Load

pub idle-loads : (p : Phase) → is_running p ≡ false → may_load p ≡ true
unfolding is_running may_load
idle-loads Phase.empty e = refl
idle-loads Phase.loaded e = refl
idle-loads Phase.running e = absurd (true-false e)
idle-loads Phase.answered e = refl

pub load-refusal : (r : Record) (x : Inputs) → is_running r.phase ≡ false
    → refusal (stage_of r) (load x)
    ≡ first_no (build_checks x.plan x.rules (length x.node_table) (length x.state_table))
unfolding refusal
load-refusal r x m =
    first_no-yes 1 (may_load r.phase) (build_checks x.plan x.rules (length x.node_table)
    (length x.state_table)) (idle-loads r.phase m)

pub load-accepted : (r : Record) (x : Inputs) → is_running r.phase ≡ false
    → first_no (build_checks x.plan x.rules (length x.node_table) (length x.state_table)) ≡ 0
    → Does r (load x) Answer.accepted (loaded_record (sizes_in x))
unfolding act unless proceeds
load-accepted r x m e =
    let k : refusal (stage_of r) (load x) ≡ 0 = load-refusal r x m ∙ e in
    record {
      tells = sym (ap (λ (n : ℕ). (unless n r (load x)).answer) k);
      leaves = sym (ap (λ (n : ℕ). (unless n r (load x)).record') k);
    }

-- ---- refusals

pub refused-is : (a : Answer) → is_refused a ≡ true → (n : ℕ) × (a ≡ refused n)
refused-is (refused n) e = (n, refl)
refused-is Answer.accepted e = absurd (true-false (sym e))
refused-is (parts p) e = absurd (true-false (sym e))
refused-is more e = absurd (true-false (sym e))
refused-is finished e = absurd (true-false (sym e))
refused-is (outcome o) e = absurd (true-false (sym e))

pub refused-same : (r : Record) (c : Call) → is_refused (act r c).answer ≡ true → (act r c).record' ≡ r
refused-same r c e = let n = refused-is (act r c).answer e in refused-unchanged r c n.0 n.1

pub acts : (r : Record) (c : Call) → Does r c (act r c).answer (act r c).record'
acts r c = record { tells = refl; leaves = refl }
