-- The outputs of an exported question.
--
-- on_answer o f old == an output afterwards: its value by f where there are values, else what it held
use Rattle.std.specs.Prelude.{ℕ}
use Rattle.std.proofs.Math.Option.{Option, none, some}

abbrev pub on_answer : {A : Type 0} → Option A → (A → ℕ) → ℕ → ℕ
on_answer none f old = old
on_answer (some x) f old = f x
