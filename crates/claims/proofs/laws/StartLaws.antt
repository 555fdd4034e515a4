-- Start against the reference model.
--     start-settled         its answer is settled: the number of parts, or the number of the first failing check
--     after-load            an accepted Load leaves the reference model loaded, with the sizes of what it was given
--     starts-after-load     so a Start given what that Load left is accepted, in any form that has demand 3
--     left_is               what that is, by the tables after the Load (specs/Lent)
use Prim.Native.Nat.{ℕ, zero, suc}
use mathlib.Core.Path.{◌≡◌, refl, sym, ap, ap₂, subst}
use mathlib.Core.List.{List, ◌∷◌}
use mathlib.Core.Option.{none}
use Rattle.list_laws.proofs.BoolLaws.{true-false}
use Rattle.formats.specs.Inputs.{Inputs, inputs_of, sizes_in}
use Rattle.tables.specs.Answers.{written}
use Rattle.model.specs.Calls.{Call, load, start, Answer, is_refused, may_start}
use Rattle.model.specs.Refusals.{refusal}
use Rattle.reference.specs.Reference.{Reference, State, stage_of, new_reference, phase, step, decided, proceed, starting}
use Rattle.reference.specs.Demand3.{Conforms, after, Demand3}
use Rattle.reference.specs.Undisturbed.{reference_at}
use Rattle.reference.proofs.Simulation.{reference_of}
use Rattle.reference.proofs.UndisturbedLaws.{agrees-split}
use Rattle.reference.proofs.WrittenSound.{loaded, start-written}
use Rattle.screens.specs.Statements.{left_by}
use Rattle.claims.specs.Refusals.{StartSettled}
use Rattle.claims.specs.Lent.{Written}
use Rattle.claims.specs.Histories.{StartsAfterLoad}

pub start-settled : (b : Reference) (x : Inputs) (vs bs : List ℕ) → StartSettled b x vs bs
unfolding step decided proceed starting
start-settled b x vs bs = record {
  accepted = λ e. ap (λ (n : ℕ). decided n b (start x vs bs)) e;
  denied = λ n e. ap (λ (m : ℕ). decided m b (start x vs bs)) e;
}

module _ (b : Reference) (x : Inputs) where
  after-load : Conforms (step b (load x)) Answer.accepted
      → (refusal (stage_of b) (load x) ≡ 0)
      × (after (step b (load x)) Answer.accepted ≡ reference_of State.loaded (sizes_in x) none)
  unfolding step decided proceed
  after-load e = go (refusal (stage_of b) (load x)) e
    where
      go : (n : ℕ) → Conforms (decided n b (load x)) Answer.accepted
          → (n ≡ 0) × (after (decided n b (load x)) Answer.accepted ≡ reference_of State.loaded (sizes_in x) none)
      go zero e = (refl, refl)
      go (suc n) e = absurd (true-false (sym (ap is_refused e)))

pub left_is : (x : Inputs) (node_table' state_table' : List ℕ) → Written x node_table' state_table'
    → inputs_of x.plan x.rules node_table' state_table' ≡ left_by x
unfolding written
left_is x node_table' state_table' w = ap₂ (inputs_of x.plan x.rules) w.0 w.1

pub starts-after-load : {R : Type 0} (fresh : R) (Step : R → Call → Answer → R → Type 0) → Demand3 fresh Step
    → StartsAfterLoad fresh Step
unfolding phase may_start loaded
starts-after-load fresh Step D cs xs x vs bs a ds ys l ok h =
    let b : Reference = reference_at new_reference cs xs in
    let A = agrees-split new_reference cs (load x ∷ start (left_by x) vs bs ∷ ds) xs (Answer.accepted ∷ a ∷ ys) l
    (D _ _ h) in
    let L = after-load b x A.0 in
    let C : Conforms (step (reference_of State.loaded (sizes_in x) none) (start (left_by x) vs bs)) a =
    subst (λ (k : Reference). Conforms (step k (start (left_by x) vs bs)) a) L.1 A.1.0 in
    subst (λ k. Conforms k a) (start-written (stage_of b) x State.loaded none vs bs L.0 refl ok) C
