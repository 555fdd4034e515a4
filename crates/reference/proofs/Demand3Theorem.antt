-- Demand 3 for the session's calls: every list of calls, from a fresh record, is answered as the reference model says,
-- for any inputs.
--     demand_3     the theorem, from the facts of the questions layer
--     demand-3-of  it passes on to every form of the calls that refines this one: by value, in place, and as bytes
use mathlib.Core.Path.{refl}
use mathlib.Core.List.{List, [], ◌∷◌}
use Rattle.model.specs.Calls.{Call, load, start, advance, cancel, read, Answer}
use Rattle.reference.specs.Reference.{Reference, step, new_reference, phase}
use Rattle.reference.specs.Demand3.{after, Agrees, Demand3}
use Rattle.model.specs.History.{History, done, call}
use Rattle.model.specs.Model.{Record, fresh_record, idle, Does}
use Rattle.model.proofs.Facts.{Layers}
use Rattle.model.proofs.Refinement.{Refines, refines}
use Rattle.reference.proofs.Relation.{Rel}
use Rattle.reference.proofs.Simulation.{Simulates, on-load, on-cancel, on_read}
use Rattle.reference.proofs.StartSimulation.{on-start}
use Rattle.reference.proofs.AdvanceSimulation.{on-advance}

pub simulates : Layers → (c : Call) → Simulates c
simulates L (load x) = on-load x
simulates L (start x vs bs) = on-start x vs bs
simulates L (advance x) = on-advance L x
simulates L cancel = on-cancel
simulates L read = on_read

pub at_first : Rel fresh_record new_reference
unfolding fresh_record new_reference idle phase
at_first = record { phases = refl; sizes = refl; holds = tt; lasts = tt }

agrees_from : Layers → (r : Record) (b : Reference) (cs : List Call) (xs : List Answer) → Rel r b → History Does r cs xs
    → Agrees b cs xs
agrees_from L r b [] [] i done = tt
agrees_from L r b (c ∷ cs) (a ∷ xs) i (call {r'} e h) =
    let j = simulates L c r r' b a i e in (j.0, agrees_from L r' (after (step b c) a) cs xs j.1 h)
agrees_from L r b [] (a ∷ xs) i h = elim h [ ]
agrees_from L r b (c ∷ cs) [] i h = elim h [ ]

pub demand_3 : Layers → Demand3 fresh_record Does
demand_3 L cs xs h = agrees_from L fresh_record new_reference cs xs at_first h

-- ---- other forms of the calls

module _ {A B : Type 0} (StepA : A → Call → Answer → A → Type 0) (StepB : B → Call → Answer → B → Type 0) (SampleRun : A
    → B → Type 0) where
  pub demand-3-of : Refines StepA StepB SampleRun → (a : A) (b : B) → SampleRun a b → Demand3 b StepB → Demand3 a StepA
  demand-3-of f a b i d cs xs h = d cs xs (refines StepA StepB SampleRun f a b cs xs i h)
