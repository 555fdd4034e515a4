-- What the contracts of the exported calls on what each node may take claim, as the prover itself reads them off the
-- source (`Reads.Post`), is what the theorems take (`AllowedDone`, `ClearingDone`). A contract that promises less is
-- refused here.
--     allowed-tied, clearing-tied       the contracts are AllowedDone and ClearingDone
--     allowed-number, clearing-number   the number is that of the first check that fails: 2 to 10, then 11
--     allowed-kept, clearing-kept       refused: the buffer is as it was
use Prim.Native.Nat.{ℕ}
use mathlib.Core.Path.{◌≡◌}
use mathlib.Core.List.{List}
use lib.ListN.{length}
use contract.Lifetimes.{Lfts}
use borrow.Fn.World.{ArgsD, ResD}
use borrow.Fn.Kinds.{ended_of}
use denote.Triple.Clauses.{AtExit}
use Rattle.formats.specs.Checks.{first_no}
use Rattle.allowed.specs.Answers.{node_room_checks, AllowedDone, ClearingDone}
use Rattle.capi.specs.contracts.allowed_calls.whatif_allowed as allowed-fn
use Rattle.capi.proofs.allowed_calls.whatif_allowed.Kinds as allowed-kinds
use Rattle.capi.proofs.allowed_calls.whatif_allowed.Reads as allowed-reads
use Rattle.capi.specs.contracts.allowed_calls.whatif_clearing as clearing-fn
use Rattle.capi.proofs.allowed_calls.whatif_clearing.Kinds as clearing-kinds
use Rattle.capi.proofs.allowed_calls.whatif_clearing.Reads as clearing-reads

-- ---- the labels that each node may take

pub allowed-tied : (κs : Lfts 3) (a : ArgsD allowed-fn.signature κs) (r : ResD allowed-fn.signature κs)
    (s : AtExit (ended_of 3 allowed-kinds.ps allowed-kinds.r) κs) → allowed-reads.Post κs a r s
    → AllowedDone a.0.now a.1.0.now a.1.1.0.now r s.1.1.0.now
allowed-tied κs a r s p = p

module _ (p r before : List ℕ) (n : ℕ) (after : List ℕ) (D : AllowedDone p r before n after) where
  pub allowed-number : n ≡ first_no (node_room_checks p r (length before))
  allowed-number = D.number

  pub allowed-kept : (n ≡ 0 → ⊥) → after ≡ before
  allowed-kept = D.kept

-- ---- the states with which the plan is cleared

pub clearing-tied : (κs : Lfts 3) (a : ArgsD clearing-fn.signature κs) (r : ResD clearing-fn.signature κs)
    (s : AtExit (ended_of 3 clearing-kinds.ps clearing-kinds.r) κs) → clearing-reads.Post κs a r s
    → ClearingDone a.0.now a.1.0.now a.1.1.0.now r s.1.1.0.now
clearing-tied κs a r s p = p

module _ (p r before : List ℕ) (n : ℕ) (after : List ℕ) (D : ClearingDone p r before n after) where
  pub clearing-number : n ≡ first_no (node_room_checks p r (length before))
  clearing-number = D.number

  pub clearing-kept : (n ≡ 0 → ⊥) → after ≡ before
  clearing-kept = D.kept
