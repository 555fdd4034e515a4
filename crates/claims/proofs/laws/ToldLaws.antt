-- An answer and what is told of it.
--     number-told   its number is the first of the two
--     value-there   where the number is 0 there is a value: a refusal has another number
use mathlib.Core.Path.{◌≡◌, refl}
use Rattle.std.specs.Prelude.{Result, Ok, Err}
use Rattle.formats.specs.Refusals.{answer_number, told}
use Rattle.formats.specs.declared.refusals.Refusal.{Refusal}
use Rattle.formats.proofs.RefusalLaws.{number-not-0}

pub number-told : {A : Type 0} (a : Result A Refusal) → answer_number a ≡ (told a).0
number-told (Ok x) = refl
number-told (Err r) = refl

pub value-there : {A : Type 0} (a : Result A Refusal) → answer_number a ≡ 0 → (x : A) × (a ≡ Ok x)
value-there (Ok x) e = (x, refl)
value-there (Err r) e = absurd (number-not-0 r e)
