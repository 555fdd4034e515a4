-- What the contract of the exported whole question claims, as the prover itself reads it off the source (`Reads.Post`),
-- is what the statements take (`WholeExported`). A contract that promises less is refused here.
--     ask-tied      the contract is WholeExported
--     ask-number    the first check of 17, 12, 13, 14, 18 that fails
--     ask-kept      refused: the five outputs are unchanged
use Prim.Native.Nat.{ℕ}
use mathlib.Core.Path.{◌≡◌, ◌∙◌}
use mathlib.Core.List.{List}
use contract.Lifetimes.{Lfts}
use borrow.Fn.World.{ArgsD, ResD}
use borrow.Fn.Kinds.{ended_of}
use denote.Triple.Clauses.{AtExit}
use Rattle.formats.specs.Checks.{first_no}
use Rattle.whole_questions.specs.Question.{ask_checks, ask_number}
use Rattle.capi_ask.specs.WholeExported.{WholeExported}
use Rattle.capi_ask.proofs.Theorems.{whole-kept}
use Rattle.capi_ask.specs.contracts.whatif_ask as ask-fn
use Rattle.capi_ask.proofs.whatif_ask.Kinds as ask-kinds
use Rattle.capi_ask.proofs.whatif_ask.Reads as ask-reads

pub ask-tied : (κs : Lfts 11) (a : ArgsD ask-fn.signature κs) (r : ResD ask-fn.signature κs)
    (s : AtExit (ended_of 11 ask-kinds.ps ask-kinds.r) κs) → ask-reads.Post κs a r s
    → WholeExported a.0.now a.1.0.now a.1.1.0.now a.1.1.1.0.now a.1.1.1.1.0.now
    a.1.1.1.1.1.0.now r a.1.1.1.1.1.1.0.now a.1.1.1.1.1.1.1.0.now
    a.1.1.1.1.1.1.1.1.0.now a.1.1.1.1.1.1.1.1.1.0.now
    a.1.1.1.1.1.1.1.1.1.1.0.now s.1.1.1.1.1.1.0.now s.1.1.1.1.1.1.1.0.now
    s.1.1.1.1.1.1.1.1.0.now s.1.1.1.1.1.1.1.1.1.0.now
    s.1.1.1.1.1.1.1.1.1.1.0.now
ask-tied κs a r s p = p

module _ (p r node_table state_table vs bs : List ℕ)
    (n state₀ yes₀ parts₀ links₀ passed₀ state₁ yes₁ parts₁ links₁ passed₁ : ℕ)
    (E : WholeExported p r node_table state_table vs bs n state₀ yes₀ parts₀ links₀ passed₀ state₁ yes₁ parts₁ links₁
    passed₁) where
  pub ask-number : n ≡ first_no (ask_checks p r node_table state_table vs bs)
  unfolding ask_number
  ask-number = E.number.result ∙ E.done.number

  pub ask-kept : (n ≡ 0 → ⊥)
      → (state₁ ≡ state₀) × (yes₁ ≡ yes₀) × (parts₁ ≡ parts₀) × (links₁ ≡ links₀) × (passed₁ ≡ passed₀)
  ask-kept =
      whole-kept p r node_table state_table vs bs n state₀ yes₀ parts₀ links₀ passed₀ state₁ yes₁ parts₁ links₁ passed₁ E
