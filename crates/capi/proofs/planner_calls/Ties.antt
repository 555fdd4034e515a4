-- What the contracts of the two exported calls of the planner's files claim, as the prover itself reads them off the
-- source (`Reads.Post`), is what the theorems take (`OutDone`, `HomeDone`). A contract that promises less is refused
-- here.
--     out-tied, home-tied      the contracts are OutDone and HomeDone
--     out-number, home-number  the number is that of the first check that fails: 19, 20, 21 and 19, 21
--     out_kept, home-kept      refused: every buffer is as it was
use Prim.Native.Nat.{ℕ}
use mathlib.Core.Path.{◌≡◌}
use mathlib.Core.List.{List}
use lib.ListN.{length}
use contract.Lifetimes.{Lfts}
use borrow.Fn.World.{ArgsD, ResD}
use borrow.Fn.Kinds.{ended_of}
use denote.Triple.Clauses.{AtExit}
use Rattle.formats.specs.Checks.{first_no}
use Rattle.planner.specs.File.{out_checks, home_checks}
use Rattle.planner.specs.out.Out.{OutDone}
use Rattle.planner.specs.home.Home.{HomeDone}
use Rattle.capi.specs.contracts.planner_calls.whatif_plan_of_planner as out-fn
use Rattle.capi.proofs.planner_calls.whatif_plan_of_planner.Kinds as out-kinds
use Rattle.capi.proofs.planner_calls.whatif_plan_of_planner.Reads as out_reads
use Rattle.capi.specs.contracts.planner_calls.whatif_planner_of_plan as home-fn
use Rattle.capi.proofs.planner_calls.whatif_planner_of_plan.Kinds as home-kinds
use Rattle.capi.proofs.planner_calls.whatif_planner_of_plan.Reads as home-reads

-- ---- out: our plan of a planner's file

pub out-tied : (κs : Lfts 3) (a : ArgsD out-fn.signature κs) (r : ResD out-fn.signature κs)
    (s : AtExit (ended_of 3 out-kinds.ps out-kinds.r) κs) → out_reads.Post κs a r s
    → OutDone a.0.now a.1.0.now a.1.1.0.now r s.1.0.now s.1.1.0.now
out-tied κs a r s p = p

module _ (b p ps : List ℕ) (r : ℕ) (q qs : List ℕ) (D : OutDone b p ps r q qs) where
  pub out-number : r ≡ first_no (out_checks b (length p) (length ps))
  out-number = D.number

  pub out_kept : (r ≡ 0 → ⊥) → (q ≡ p) × (qs ≡ ps)
  out_kept h = (D.plan_kept h, D.places_kept h)

-- ---- home: the planner's file of our plan

pub home-tied : (κs : Lfts 2) (a : ArgsD home-fn.signature κs) (r : ResD home-fn.signature κs)
    (s : AtExit (ended_of 2 home-kinds.ps home-kinds.r) κs) → home-reads.Post κs a r s
    → HomeDone a.0.now a.1.0.now r s.1.0.now
home-tied κs a r s p = p

module _ (p b : List ℕ) (r : ℕ) (c : List ℕ) (D : HomeDone p b r c) where
  pub home-number : r ≡ first_no (home_checks p (length b))
  home-number = D.number

  pub home-kept : (r ≡ 0 → ⊥) → c ≡ b
  home-kept = D.kept
