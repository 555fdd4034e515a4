-- What the contract of the exported call claims, as the prover itself reads it off the source (`Reads.Post`), is what
-- the theorems take (`FewestTold`). A contract that promises less is refused here.
--     fewest-tied     the contract is FewestTold
--     fewest-number   the number is that of the first check that fails: 2 to 10, then 17, then 11
--     fewest-kept     refused: the three buffers and both numbers are as they were
use Prim.Native.Nat.{ℕ}
use mathlib.Core.Path.{◌≡◌}
use mathlib.Core.List.{List}
use lib.ListN.{length}
use contract.Lifetimes.{Lfts}
use borrow.Fn.World.{ArgsD, ResD}
use borrow.Fn.Kinds.{ended_of}
use denote.Triple.Clauses.{AtExit}
use Rattle.formats.specs.Checks.{first_no}
use Rattle.fewest.specs.Answers.{fewest_checks, FewestTold}
use Rattle.capi_fewest.specs.contracts.whatif_fewest as fewest-fn
use Rattle.capi_fewest.proofs.whatif_fewest.Kinds as fewest-kinds
use Rattle.capi_fewest.proofs.whatif_fewest.Reads as fewest-reads

pub fewest-tied : (κs : Lfts 8) (a : ArgsD fewest-fn.signature κs) (r : ResD fewest-fn.signature κs)
    (s : AtExit (ended_of 8 fewest-kinds.ps fewest-kinds.r) κs) → fewest-reads.Post κs a r s
    → FewestTold a.0.now a.1.0.now a.1.1.0.now a.1.1.1.0 a.1.1.1.1.0.now
    a.1.1.1.1.1.0.now a.1.1.1.1.1.1.0.now a.1.1.1.1.1.1.1.0.now
    a.1.1.1.1.1.1.1.1.0.now r s.1.1.1.1.0.now s.1.1.1.1.1.0.now
    s.1.1.1.1.1.1.0.now s.1.1.1.1.1.1.1.0.now s.1.1.1.1.1.1.1.1.0.now
fewest-tied κs a r s p = p

module _ (p r may : List ℕ) (want : ℕ) (work nodes labels : List ℕ) (least count n : ℕ)
    (work' nodes' labels' : List ℕ) (least' count' : ℕ)
    (T : FewestTold p r may want work nodes labels least count n work' nodes' labels' least' count') where
  pub fewest-number : n ≡ first_no (fewest_checks p r (length may) (length work) (length nodes) (length labels))
  fewest-number = T.number

  pub fewest-kept : (n ≡ 0 → ⊥)
      → (work' ≡ work) × (nodes' ≡ nodes) × (labels' ≡ labels) × (least' ≡ least) × (count' ≡ count)
  fewest-kept = T.refused
