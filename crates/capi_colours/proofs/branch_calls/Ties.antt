-- What the contracts of the three exported calls of branch questions by colours claim, as the prover itself reads them
-- off the source (`Reads.Post`), is what the theorems take (`BuildExported`, `DescentExported`). A contract that
-- promises less is refused here.
--     colour-branch-build-tied    the contract is BuildExported, of the checks 2 to 11 and the colours of the definition
--     colour-branch-tied, colour-branch-upper-tied   the contracts are DescentExported, each of its reading
--     colour-branch-build-number, colour-branch-build-kept   the first check that fails; refused: both buffers are as
--                                 they were
--     colour-branch-number, colour-branch-kept   for either reading: the first check of 17, 13, 16, 18 that fails;
--                                 refused: the four outputs are unchanged
use Prim.Native.Nat.{ℕ}
use mathlib.Core.Path.{◌≡◌, ◌∙◌}
use mathlib.Core.List.{List}
use lib.ListN.{length}
use contract.Lifetimes.{Lfts}
use borrow.Fn.World.{ArgsD, ResD}
use borrow.Fn.Kinds.{ended_of}
use denote.Triple.Clauses.{AtExit}
use Rattle.formats.specs.Checks.{first_no}
use Rattle.branches.specs.declared.answers.Reading.{Reading}
use Rattle.branches.specs.declared.answers.Reading.TheVariants.{WithUpper, BelowUpper}
use Rattle.colour_tables.specs.branch.Build.{branch_colour_checks, built_colour_numbers, built_copies}
use Rattle.colour_questions.specs.branch.Question.{colour_checks, colour_number}
use Rattle.capi.specs.numbers.Numbers.{BuildExported}
use Rattle.capi_colours.specs.branch_calls.DescentExported.{DescentExported}
use Rattle.capi_colours.proofs.branch_calls.Theorems.{branch-build-number, branch-build-refused, branch-descent-kept}
use Rattle.capi_colours.specs.contracts.branch_calls.whatif_colour_branch_build as build-fn
use Rattle.capi_colours.proofs.branch_calls.whatif_colour_branch_build.Kinds as build-kinds
use Rattle.capi_colours.proofs.branch_calls.whatif_colour_branch_build.Reads as build-reads
use Rattle.capi_colours.specs.contracts.branch_calls.whatif_colour_branch as below-fn
use Rattle.capi_colours.proofs.branch_calls.whatif_colour_branch.Kinds as below-kinds
use Rattle.capi_colours.proofs.branch_calls.whatif_colour_branch.Reads as below-reads
use Rattle.capi_colours.specs.contracts.branch_calls.whatif_colour_branch_with_upper as upper-fn
use Rattle.capi_colours.proofs.branch_calls.whatif_colour_branch_with_upper.Kinds as upper-kinds
use Rattle.capi_colours.proofs.branch_calls.whatif_colour_branch_with_upper.Reads as upper-reads

-- ---- the build

pub colour-branch-build-tied : (κs : Lfts 4) (a : ArgsD build-fn.signature κs) (r : ResD build-fn.signature κs)
    (s : AtExit (ended_of 4 build-kinds.ps build-kinds.r) κs) → build-reads.Post κs a r s
    → BuildExported
    (first_no (branch_colour_checks a.0.now a.1.0.now (length a.1.1.0.now)
    (length a.1.1.1.0.now)))
    (built_colour_numbers a.0.now a.1.0.now) (built_copies a.0.now a.1.0.now) a.1.1.0.now
    a.1.1.1.0.now r s.1.1.0.now s.1.1.1.0.now
colour-branch-build-tied κs a r s p = p

module _ (p r numbers bytes : List ℕ) (n : ℕ) (numbers' bytes' : List ℕ)
    (E : BuildExported (first_no (branch_colour_checks p r (length numbers) (length bytes))) (built_colour_numbers p r)
    (built_copies p r) numbers bytes n numbers' bytes') where
  pub colour-branch-build-number : n ≡ first_no (branch_colour_checks p r (length numbers) (length bytes))
  colour-branch-build-number = branch-build-number p r numbers bytes n numbers' bytes' E

  pub colour-branch-build-kept : (n ≡ 0 → ⊥) → (numbers' ≡ numbers) × (bytes' ≡ bytes)
  colour-branch-build-kept = branch-build-refused p r numbers bytes n numbers' bytes' E

-- ---- the questions

pub colour-branch-tied : (κs : Lfts 9) (a : ArgsD below-fn.signature κs) (r : ResD below-fn.signature κs)
    (s : AtExit (ended_of 9 below-kinds.ps below-kinds.r) κs) → below-reads.Post κs a r s
    → DescentExported BelowUpper a.0.now a.1.0.now a.1.1.0.now a.1.1.1.0.now
    a.1.1.1.1.0.now a.1.1.1.1.1.0 a.1.1.1.1.1.1.0 r
    a.1.1.1.1.1.1.1.0.now a.1.1.1.1.1.1.1.1.0.now a.1.1.1.1.1.1.1.1.1.0.now
    a.1.1.1.1.1.1.1.1.1.1.0.now
    s.1.1.1.1.1.1.1.0.now s.1.1.1.1.1.1.1.1.0.now s.1.1.1.1.1.1.1.1.1.0.now
    s.1.1.1.1.1.1.1.1.1.1.0.now
colour-branch-tied κs a r s p = p

pub colour-branch-upper-tied : (κs : Lfts 9) (a : ArgsD upper-fn.signature κs) (r : ResD upper-fn.signature κs)
    (s : AtExit (ended_of 9 upper-kinds.ps upper-kinds.r) κs) → upper-reads.Post κs a r s
    → DescentExported WithUpper a.0.now a.1.0.now a.1.1.0.now a.1.1.1.0.now
    a.1.1.1.1.0.now a.1.1.1.1.1.0 a.1.1.1.1.1.1.0 r
    a.1.1.1.1.1.1.1.0.now a.1.1.1.1.1.1.1.1.0.now a.1.1.1.1.1.1.1.1.1.0.now
    a.1.1.1.1.1.1.1.1.1.1.0.now
    s.1.1.1.1.1.1.1.0.now s.1.1.1.1.1.1.1.1.0.now s.1.1.1.1.1.1.1.1.1.0.now
    s.1.1.1.1.1.1.1.1.1.1.0.now
colour-branch-upper-tied κs a r s p = p

module _ (reading : Reading) (p r node_table numbers bytes : List ℕ)
    (u l n state₀ yes₀ drops₀ links₀ state₁ yes₁ drops₁ links₁ : ℕ)
    (E : DescentExported reading p r node_table numbers bytes u l n state₀ yes₀ drops₀ links₀ state₁ yes₁ drops₁
    links₁) where
  pub colour-branch-number : n ≡ first_no (colour_checks reading p r node_table numbers bytes u l)
  unfolding colour_number
  colour-branch-number = E.number.result ∙ E.done.number

  pub colour-branch-kept : (n ≡ 0 → ⊥)
      → (state₁ ≡ state₀) × (yes₁ ≡ yes₀) × (drops₁ ≡ drops₀) × (links₁ ≡ links₀)
  colour-branch-kept =
      branch-descent-kept reading p r node_table numbers bytes u l n state₀ yes₀ drops₀ links₀ state₁ yes₁ drops₁ links₁
      E
