-- Document 01's sample as whole questions.
--
-- ask_a vs bs == what is told of a whole question on plan A with table A and the tables that the build writes
-- answered_a state marked parts links passed, refused_a n == what is told of an answer, and of a refusal
use Rattle.std.specs.Prelude.{ℕ, Bool, List}
use Rattle.std.proofs.Math.Option.{Option, none, some}
use Rattle.reference.specs.Sample.{plan_a, table_a, inputs_a}
use Rattle.whole_questions.specs.declared.answers.Asked.{Asked}
use Rattle.whole_questions.specs.Question.{ask_answer}

abbrev pub ask_a : List ℕ → List ℕ → ℕ × Option Asked
ask_a vs bs = ask_answer plan_a table_a inputs_a.node_table inputs_a.state_table vs bs

abbrev pub answered_a : ℕ → Bool → ℕ → ℕ → ℕ → ℕ × Option Asked
answered_a state marked parts links passed =
    (0, some (record { state = state; marked = marked; parts = parts; links = links; passed = passed }))

abbrev pub refused_a : ℕ → ℕ × Option Asked
refused_a n = (n, none)
