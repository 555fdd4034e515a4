-- The exported session calls as one relation: what a caller decodes of a call, from its number and values alone.
--
-- decoded_done r, decoded_start r p, decoded_advance r f, decoded_read r q == the answer: 0 with its values, or the refusal's number
-- Exports b c a b' == call c was made on record bytes b, was decoded as a and left b': the promise of its exported function, as the
-- function has it, holds
use Rattle.std.specs.Prelude.{ℕ, zero, suc, cond, List, eqb}
use Rattle.formats.specs.Inputs.{Inputs}
use Rattle.model.specs.Calls.{Call, load, start, advance, cancel, read, Answer, refused, accepted, parts}
use Rattle.model.specs.Calls.{more, finished, outcome_answer}
use Rattle.capi_session.specs.SessionExported.{CallExported, LoadExported, StartExported, AdvanceExported, ReadExported, Places}

unfoldable pub decoded_done : ℕ → Answer
decoded_done zero = accepted
decoded_done (suc n) = refused (suc n)

unfoldable pub decoded_start : ℕ → ℕ → Answer
decoded_start zero p = parts p
decoded_start (suc n) p = refused (suc n)

unfoldable pub decoded_advance : ℕ → ℕ → Answer
decoded_advance zero f = cond (eqb f 0) more finished
decoded_advance (suc n) f = refused (suc n)

unfoldable pub decoded_read : ℕ → Places → Answer
decoded_read zero q = outcome_answer q.state (eqb q.yes 1) q.parts q.links q.passed
decoded_read (suc n) q = refused (suc n)

pub data Exports : List ℕ → Call → Answer → List ℕ → Type 0 where
  loads : {b b' : List ℕ} {x : Inputs} (r : ℕ) (node_table state_table : List ℕ) → LoadExported b x r b' node_table state_table
      → Exports b (load x) (decoded_done r) b'
  starts : {b b' : List ℕ} {x : Inputs} {vs bs : List ℕ} (r p₀ p₁ : ℕ) → StartExported b (start x vs bs) r b' p₀ p₁
      → Exports b (start x vs bs) (decoded_start r p₁) b'
  advances : {b b' : List ℕ} {x : Inputs} (r f₀ f₁ : ℕ) → AdvanceExported b (advance x) r b' f₀ f₁
      → Exports b (advance x) (decoded_advance r f₁) b'
  cancels : {b b' : List ℕ} (r : ℕ) → CallExported b cancel r b' → Exports b cancel (decoded_done r) b'
  reads : {b : List ℕ} (r : ℕ) (before after : Places) → ReadExported b r before after → Exports b read (decoded_read r after) b
