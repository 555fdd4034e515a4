-- The exported calls of the screens as one relation: what a caller decodes of a call, from its number and values alone.
--
-- decoded_load r k, decoded_deal r k f == the answer of a Load and of a deal: 0 with its values, or the refusal's
--   number. Those of Start, Cancel and Read are a single session's (crate capi_session, DecodedAnswers)
-- ScreensExports b c a b' == call c was made on the run of records b, was decoded as a and left b': the promise of its
--   exported function, as the function has it, holds
-- fresh_run == the run of eight fresh records: 8 x 983 zeros
use Rattle.std.specs.Prelude.{ℕ, zero, suc, List, replicate}
use Rattle.formats.specs.Inputs.{Inputs}
use Rattle.model.specs.Calls.{refused}
use Rattle.screens.specs.ScreenCalls.{ScreenCall, load_all, start_on, cancel_on, read_on, deal}
use Rattle.screens.specs.ScreenCalls.{ScreenAnswer, one, loads, deals}
use Rattle.capi_session.specs.SessionExported.{Places}
use Rattle.capi_session.specs.DecodedAnswers.{decoded_done, decoded_start, decoded_advance, decoded_read}
use Rattle.capi_screens.specs.RunLayout.{run_length}
use Rattle.capi_screens.specs.ScreensExported.{ScreensLoadExported, ScreensStartExported, ScreensDealExported}
use Rattle.capi_screens.specs.ScreensExported.{ScreensCallExported, ScreensReadExported}

unfoldable pub decoded_load : ℕ → ℕ → ScreenAnswer
decoded_load zero k = loads k
decoded_load (suc n) k = one (refused (suc n))

unfoldable pub decoded_deal : ℕ → ℕ → ℕ → ScreenAnswer
decoded_deal zero k f = deals k (decoded_advance 0 f)
decoded_deal (suc n) k f = one (refused (suc n))

pub data ScreensExports : List ℕ → ScreenCall → ScreenAnswer → List ℕ → Type 0 where
  loads_all : {b b' : List ℕ} {x : Inputs} (r k₀ k₁ : ℕ) (node_table state_table : List ℕ)
      → ScreensLoadExported b x r b' node_table state_table k₀ k₁ → ScreensExports b (load_all x) (decoded_load r k₁) b'
  starts_on : {b b' : List ℕ} {i : ℕ} {x : Inputs} {vs bs : List ℕ} (r p₀ p₁ : ℕ)
      → ScreensStartExported b (start_on i x vs bs) r b' p₀ p₁
      → ScreensExports b (start_on i x vs bs) (one (decoded_start r p₁)) b'
  cancels_on : {b b' : List ℕ} {i : ℕ} (r : ℕ) → ScreensCallExported b (cancel_on i) r b'
      → ScreensExports b (cancel_on i) (one (decoded_done r)) b'
  reads_on : {b : List ℕ} {i : ℕ} (r : ℕ) (before after : Places) → ScreensReadExported b i r before after
      → ScreensExports b (read_on i) (one (decoded_read r after)) b
  deals_one : {b b' : List ℕ} {k : ℕ} {x : Inputs} (r k₀ k₁ f₀ f₁ : ℕ)
      → ScreensDealExported b (deal k x) r b' k₀ k₁ f₀ f₁ → ScreensExports b (deal k x) (decoded_deal r k₁ f₁) b'

abbrev pub fresh_run : List ℕ
fresh_run = replicate run_length 0
