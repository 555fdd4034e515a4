-- What an exported full check that keeps its promise tells.
--     checked-number   its number is that of the first check that fails
--     checked-yes      accepted with yes: the answer is yes
--     checked-kept     refused: the output parameter as it was
use Rattle.std.proofs.Common.{ℕ, ◌≡◌, Bool, true, false, List, refl, sym, ap, ◌∙◌, Result, Ok, Err, arith}
use Rattle.formats.specs.Refusals.{answer_number}
use Rattle.formats.specs.declared.refusals.Refusal.{Refusal}
use Rattle.formats.proofs.RefusalLaws.{told-value}
use Rattle.capi.specs.numbers.Numbers.{yes_of, CheckExported}

is-yes : (a : Result Bool Refusal) (same : Bool) (old : ℕ) → a ≡ Ok same → yes_of a old ≡ 1 → a ≡ Ok true
is-yes a true old e y = e
is-yes a false old e y =
    let q : ◌≡◌ {A = ℕ} 0 1 = sym (ap (λ (x : Result Bool Refusal). yes_of x old) e) ∙ y in absurd (omega arith)

as-it-was : (a : Result Bool Refusal) (old : ℕ) → (answer_number a ≡ 0 → ⊥) → yes_of a old ≡ old
as-it-was (Ok same) old z = absurd (z refl)
as-it-was (Err r) old z = refl

module _ (n : ℕ) (links states node_table state_table : List ℕ) (r yes₀ yes₁ : ℕ)
    (E : CheckExported n links states node_table state_table r yes₀ yes₁) where
  pub checked-number : r ≡ n
  checked-number = E.number.result ∙ E.done.number

  pub checked-yes : r ≡ 0 → yes₁ ≡ 1 → E.answer ≡ Ok true
  checked-yes z y =
      is-yes E.answer _ yes₀ (told-value E.answer n _ E.done.result (sym checked-number ∙ z))
      (sym E.number.yes_answer ∙ y)

  pub checked-kept : (r ≡ 0 → ⊥) → yes₁ ≡ yes₀
  checked-kept h = E.number.yes_answer ∙ as-it-was E.answer yes₀ (λ e. h (E.number.result ∙ e))
