-- What build, full check and fresh run answer C and Rust, from the promises of the exported functions.
--     build-number, build-as-built, build-kept   the first check of 2 to 11 that fails; accepted, both buffers are as
--                            built, for any excess; refused, they are unchanged
--     check-number, check-exactly, check-kept   the first check of 2 to 11 that fails; accepted with yes exactly where
--                            the tables passed in are what the build writes; refused, the output parameter is unchanged
--     run-number, run-answers, run-kept   the first check of 2 to 10 and 12 to 14 that fails; accepted, source document
--                            002's run of the changed plan; refused, the output parameters are unchanged
use Prim.Native.Nat.{ℕ}
use mathlib.Core.Path.{◌≡◌, refl, sym, ap, ◌∙◌}
use mathlib.Core.Bool.{Bool}
use mathlib.Core.List.{List}
use mathlib.Core.Logic.{◌↔◌}
use lib.ListN.{length}
use Rattle.std.specs.Prelude.{Result, Ok, Err}
use Rattle.formats.specs.Checks.{first_no, build_checks, fresh_run_checks}
use Rattle.formats.specs.Built.{built_node_table, built_state_table, AsBuilt}
use Rattle.formats.specs.Refusals.{answer_number}
use Rattle.formats.specs.declared.refusals.Refusal.{Refusal}
use Rattle.formats.proofs.RefusalLaws.{told-value}
use Rattle.tables.proofs.BuildLaws.{built-as-built}
use Rattle.tables.proofs.CheckTheorems.{check-yes, yes-check, built-passes}
use Rattle.runs.specs.declared.answer.Verdict.{Verdict}
use Rattle.runs.specs.FreshRun.{root_state, root_accepted, verdict, fresh_run}
use Rattle.capi.specs.numbers.Numbers.{bit_of, yes_of, BuildExported, CheckExported}
use Rattle.capi.proofs.numbers.BuildExportedLaws.{exported-number, exported-kept}
use Rattle.capi.proofs.numbers.CheckExportedLaws.{checked-number, checked-yes, checked-kept}
use Rattle.capi.specs.table_calls.RunExported.{state_of, marked_of, RunExported}

-- ---- the build

module _ (p r node_table state_table : List ℕ) (n : ℕ) (node_table' state_table' : List ℕ)
    (E : BuildExported (first_no (build_checks p r (length node_table) (length state_table))) (built_node_table p)
    (built_state_table p r) node_table state_table n node_table' state_table') where
  pub build-number : n ≡ first_no (build_checks p r (length node_table) (length state_table))
  build-number = exported-number _ (built_node_table p) (built_state_table p r) node_table state_table n node_table' state_table' E

  pub build-as-built : n ≡ 0 → AsBuilt p r node_table' state_table'
  build-as-built e =
      built-as-built p r node_table state_table node_table' state_table' E.answer E.done (sym E.result ∙ e)

  pub build-kept : (n ≡ 0 → ⊥) → (node_table' ≡ node_table) × (state_table' ≡ state_table)
  build-kept = exported-kept _ (built_node_table p) (built_state_table p r) node_table state_table n node_table' state_table' E

-- ---- the full check

module _ (p r node_table state_table : List ℕ) (n yes₀ yes₁ : ℕ)
    (E : CheckExported (first_no (build_checks p r (length node_table) (length state_table))) (built_node_table p)
    (built_state_table p r) node_table state_table n yes₀ yes₁) where
  pub check-number : n ≡ first_no (build_checks p r (length node_table) (length state_table))
  check-number = checked-number _ (built_node_table p) (built_state_table p r) node_table state_table n yes₀ yes₁ E

  -- "a full check of lent tables, whose yes holds exactly when they are what the build writes"
  pub check-exactly : ((n ≡ 0) × (yes₁ ≡ 1)) ↔ AsBuilt p r node_table state_table
  check-exactly = (
    λ z. check-yes p r node_table state_table E.answer E.done
        (checked-yes _ (built_node_table p) (built_state_table p r) node_table state_table n yes₀ yes₁ E z.0 z.1),
    λ B. (
      check-number ∙ built-passes p r node_table state_table B,
      E.number.yes_answer ∙ ap (λ (a : Result Bool Refusal). yes_of a yes₀)
          (yes-check p r node_table state_table E.answer E.done B),
    ),
  )

  pub check-kept : (n ≡ 0 → ⊥) → yes₁ ≡ yes₀
  check-kept = checked-kept _ (built_node_table p) (built_state_table p r) node_table state_table n yes₀ yes₁ E

-- ---- the fresh run

module _ (p r vs bs : List ℕ) (n state₀ yes₀ state₁ yes₁ : ℕ) (E : RunExported p r vs bs n state₀ yes₀ state₁ yes₁)
  where
    pub run-number : n ≡ first_no (fresh_run_checks p r vs bs)
    run-number = E.number.result ∙ E.done.number

    pub run-answers : n ≡ 0 → (state₁ ≡ root_state p r vs bs) × (yes₁ ≡ bit_of (root_accepted p r vs bs))
    unfolding fresh_run
    run-answers e =
        let i : E.answer ≡ Ok (verdict p r vs bs) =
        told-value E.answer (first_no (fresh_run_checks p r vs bs)) (verdict p r vs bs) E.done.result
        (sym run-number ∙ e) in (
          E.number.state_answer ∙ ap (λ (a : Result Verdict Refusal). state_of a state₀) i,
          E.number.yes_answer ∙ ap (λ (a : Result Verdict Refusal). marked_of a yes₀) i,
        )

    pub run-kept : (n ≡ 0 → ⊥) → (state₁ ≡ state₀) × (yes₁ ≡ yes₀)
    run-kept h =
        let w = kept E.answer (λ e. h (E.number.result ∙ e)) in
        (E.number.state_answer ∙ w.0, E.number.yes_answer ∙ w.1)
      where
        kept : (a : Result Verdict Refusal) → (answer_number a ≡ 0 → ⊥)
            → (state_of a state₀ ≡ state₀) × (marked_of a yes₀ ≡ yes₀)
        kept (Ok v) z = absurd (z refl)
        kept (Err e) z = (refl, refl)
