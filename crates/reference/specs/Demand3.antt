-- Demand 3: one statement about every list of calls.
--
-- Conforms r a == the reference model's reply r allows answer a; after r a == the reference model after that answer
-- Agrees b cs xs == the reference model b allows the answers xs to the calls cs, one by one
-- Demand3 fresh Step == every history from the fresh record agrees with the new reference model
--
-- `Step` is a call's contract: for the session, its calls' own promises (History: crate model).
use Rattle.std.specs.Prelude.{◌≡◌, true, List, [], ◌∷◌}
use Rattle.model.specs.Calls.{Call, Answer}
use Rattle.model.specs.History.{History}
use Rattle.reference.specs.Reference.{Reference, Reply, settled, unsettled, new_reference, step}

abbrev pub Conforms : Reply → Answer → Type 0
Conforms (settled a b) x = x ≡ a
Conforms (unsettled ok f) x = ok x ≡ true

abbrev pub after : Reply → Answer → Reference
after (settled a b) x = b
after (unsettled ok f) x = f x

abbrev pub Agrees : Reference → List Call → List Answer → Type 0
Agrees b [] [] = Unit {0}
Agrees b [] (a ∷ xs) = ⊥
Agrees b (c ∷ cs) [] = ⊥
Agrees b (c ∷ cs) (a ∷ xs) = Conforms (step b c) a × Agrees (after (step b c) a) cs xs

abbrev pub Demand3 : {Record : Type 0} → Record → (Record → Call → Answer → Record → Type 0) → Type 0
Demand3 fresh Step = (cs : List Call) (xs : List Answer) → History Step fresh cs xs → Agrees new_reference cs xs
