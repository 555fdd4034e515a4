-- "Load is refused while any screen runs and clears them all", of every run of records as bytes.
--     load-waits     a screen runs, or its bytes are no record: 1, and nothing is altered
--     load-clears    an accepted Load reports 0, and each of the eight is as after a first Load of that plan
use Prim.Native.Nat.{ℕ, zero, suc, ◌<◌}
use mathlib.Core.Path.{◌≡◌, sym, ◌∙◌}
use mathlib.Core.Bool.{Bool, true, false, cond}
use mathlib.Core.List.{List}
use native.Mathlib.Omega.{arith}
use lib.Dec.{eqb}
use lib.ListN.{length}
use Rattle.list_laws.specs.Rows.{rows}
use Rattle.formats.specs.Checks.{first_no}
use Rattle.formats.specs.Inputs.{Inputs, sizes_in}
use Rattle.model.specs.Calls.{refused}
use Rattle.model.specs.Model.{loaded_record}
use Rattle.screens.specs.ScreenCalls.{one, answer_in, load_all_checks, load_target, target}
use Rattle.screens.specs.Turns.{number_after}
use Rattle.screens.proofs.TargetLaws.{any-yes}
use Rattle.session.specs.Records.{session_of}
use Rattle.records.specs.Layout.{encoded}
use Rattle.capi_session.specs.SessionExported.{answer_number}
use Rattle.capi_screens.specs.RunLayout.{run_length, busy}
use Rattle.capi_screens.specs.ScreensExported.{target_in, answer_of, bytes_of, answer_all_for, bytes_for}
use Rattle.capi_screens.specs.ScreensExported.{ScreensLoadExported}
use Rattle.capi_screens.proofs.LoadLaws.{busy-load}

module _ (b b' : List ℕ) (x : Inputs) (r k₀ k₁ : ℕ) (node_table' state_table' : List ℕ)
    (E : ScreensLoadExported b x r b' node_table' state_table' k₀ k₁) where
  pub load-waits : (i : ℕ) → length b ≡ run_length → i < 8 → busy b i ≡ true → (r ≡ 1) × (b' ≡ b)
  load-waits i l h e =
      let W = busy-load b x k₀ l (any-yes 8 (busy b) i h e) in
      (E.call.number ∙ sym W.call.number, E.call.left ∙ sym W.call.left)

  pub load-clears : r ≡ 0 → (k₁ ≡ 0) × (b' ≡ rows 8 (λ i. encoded (session_of (loaded_record (sizes_in x)))))
  unfolding target_in target answer_all_for bytes_for load_target answer_of bytes_of answer_in answer_number
  load-clears z =
      go (eqb (length b) run_length) (first_no (load_all_checks (busy b) x)) E.call.number E.next_after
      E.call.left
    where
      go : (t : Bool) (n : ℕ) → r ≡ answer_number (answer_in (cond t (answer_of b (load_target n x)) (one (refused 25))))
          → k₁ ≡ number_after k₀ (cond t (answer_of b (load_target n x)) (one (refused 25)))
          → b' ≡ cond t (bytes_of b (load_target n x)) b
          → (k₁ ≡ 0) × (b' ≡ rows 8 (λ i. encoded (session_of (loaded_record (sizes_in x)))))
      go true zero e f g = (f, g)
      go true (suc n) e f g = absurd (omega (arith, e, z))
      go false n e f g = absurd (omega (arith, e, z))
