-- What the contracts of the two exported calls of rule questions by colours claim, as the prover itself reads them off
-- the sources (`Reads.Post`), is what the theorems take (`BuildExported`, `RuleExported`). A contract that promises
-- less is refused here.
--     colour-build-tied    the contract is BuildExported, of the checks 2 to 9, 27, 10, 11 and the colours of the
--                          definition
--     colour-ask-tied      the contract is RuleExported
--     colour-build-number, colour-build-kept   the first check that fails; refused: both buffers are as they were
--     colour-ask-number, colour-ask-kept   the first check of 17, 27, 12, 13, 14, 18 that fails; refused: the five
--                          outputs are unchanged
use Prim.Native.Nat.{ℕ}
use mathlib.Core.Path.{◌≡◌, ◌∙◌}
use mathlib.Core.List.{List}
use lib.ListN.{length}
use contract.Lifetimes.{Lfts}
use borrow.Fn.World.{ArgsD, ResD}
use borrow.Fn.Kinds.{ended_of}
use denote.Triple.Clauses.{AtExit}
use Rattle.formats.specs.Checks.{first_no}
use Rattle.colour_tables.specs.rule.Build.{rule_colour_checks, built_set_numbers, built_set_bytes}
use Rattle.colour_questions.specs.rule.Question.{rule_ask_checks, rule_ask_number}
use Rattle.capi.specs.numbers.Numbers.{BuildExported}
use Rattle.capi_colours.specs.rule_calls.RuleExported.{RuleExported}
use Rattle.capi_colours.proofs.rule_calls.BuildTheorems.{rule-build-number, rule-build-refused}
use Rattle.capi_colours.proofs.rule_calls.Theorems.{rule-descent-kept}
use Rattle.capi_colours.specs.contracts.rule_calls.build.whatif_colour_build as build-fn
use Rattle.capi_colours.proofs.rule_calls.build.whatif_colour_build.Kinds as build-kinds
use Rattle.capi_colours.proofs.rule_calls.build.whatif_colour_build.Reads as build-reads
use Rattle.capi_colours.specs.contracts.rule_calls.ask.whatif_colour_ask as ask-fn
use Rattle.capi_colours.proofs.rule_calls.ask.whatif_colour_ask.Kinds as ask-kinds
use Rattle.capi_colours.proofs.rule_calls.ask.whatif_colour_ask.Reads as ask-reads

-- ---- the build

pub colour-build-tied : (κs : Lfts 4) (a : ArgsD build-fn.signature κs) (r : ResD build-fn.signature κs)
    (s : AtExit (ended_of 4 build-kinds.ps build-kinds.r) κs) → build-reads.Post κs a r s
    → BuildExported
    (first_no (rule_colour_checks a.0.now a.1.0.now (length a.1.1.0.now)
    (length a.1.1.1.0.now)))
    (built_set_numbers a.0.now a.1.0.now) (built_set_bytes a.0.now a.1.0.now) a.1.1.0.now
    a.1.1.1.0.now r s.1.1.0.now s.1.1.1.0.now
colour-build-tied κs a r s p = p

module _ (p r numbers bytes : List ℕ) (n : ℕ) (numbers' bytes' : List ℕ)
    (E : BuildExported (first_no (rule_colour_checks p r (length numbers) (length bytes))) (built_set_numbers p r)
    (built_set_bytes p r) numbers bytes n numbers' bytes') where
  pub colour-build-number : n ≡ first_no (rule_colour_checks p r (length numbers) (length bytes))
  colour-build-number = rule-build-number p r numbers bytes n numbers' bytes' E

  pub colour-build-kept : (n ≡ 0 → ⊥) → (numbers' ≡ numbers) × (bytes' ≡ bytes)
  colour-build-kept = rule-build-refused p r numbers bytes n numbers' bytes' E

-- ---- the question

pub colour-ask-tied : (κs : Lfts 13) (a : ArgsD ask-fn.signature κs) (r : ResD ask-fn.signature κs)
    (s : AtExit (ended_of 13 ask-kinds.ps ask-kinds.r) κs) → ask-reads.Post κs a r s
    → RuleExported a.0.now a.1.0.now a.1.1.0.now a.1.1.1.0.now a.1.1.1.1.0.now
    a.1.1.1.1.1.0.now a.1.1.1.1.1.1.0.now a.1.1.1.1.1.1.1.0.now r
    a.1.1.1.1.1.1.1.1.0.now a.1.1.1.1.1.1.1.1.1.0.now
    a.1.1.1.1.1.1.1.1.1.1.0.now a.1.1.1.1.1.1.1.1.1.1.1.0.now
    a.1.1.1.1.1.1.1.1.1.1.1.1.0.now
    s.1.1.1.1.1.1.1.1.0.now s.1.1.1.1.1.1.1.1.1.0.now
    s.1.1.1.1.1.1.1.1.1.1.0.now s.1.1.1.1.1.1.1.1.1.1.1.0.now
    s.1.1.1.1.1.1.1.1.1.1.1.1.0.now
colour-ask-tied κs a r s p = p

module _ (p r node_table state_table numbers bytes vs bs : List ℕ)
    (n state₀ yes₀ drops₀ links₀ parts₀ state₁ yes₁ drops₁ links₁ parts₁ : ℕ)
    (E : RuleExported p r node_table state_table numbers bytes vs bs n state₀ yes₀ drops₀ links₀ parts₀ state₁ yes₁ drops₁
    links₁ parts₁) where
  pub colour-ask-number : n ≡ first_no (rule_ask_checks p r node_table state_table numbers bytes vs bs)
  unfolding rule_ask_number
  colour-ask-number = E.number.result ∙ E.done.number

  pub colour-ask-kept : (n ≡ 0 → ⊥)
      → (state₁ ≡ state₀) × (yes₁ ≡ yes₀) × (drops₁ ≡ drops₀) × (links₁ ≡ links₀) × (parts₁ ≡ parts₀)
  colour-ask-kept =
      rule-descent-kept p r node_table state_table numbers bytes vs bs n state₀ yes₀ drops₀ links₀ parts₀ state₁ yes₁
      drops₁ links₁ parts₁ E
