-- All that the program says: document 01's paragraph on it, as one definition.
--
-- said w == the bytes that go to standard output where the bytes w come from standard input
-- stated_plan w, stated_rules w, stated_questions w == the three stated lengths
-- plan_of w, rules_of w, questions_of w == what came of those bytes
-- said_on p r qs == what is said to the plan p and the rules r, and then to the bytes qs of the questions
-- said_to h p r qs == what is said to an input by its parts: its lengths, with which h starts, its plan, rules and questions
-- said_after h w == what is said to an input of which h came first, and w is what follows the twelve length bytes
--
-- What is said to a question is question_line (Stream), and its line lineOf (Line).
use Rattle.std.specs.Prelude.{ℕ, zero, suc, ◌+◌, cond, List, [], ◌∷◌, take, drop}
use Rattle.formats.specs.Bytes.{le32}
use Rattle.formats.specs.Checks.{first_no, rule_table_checks}
use Rattle.whatif.specs.Input.{too_large}
use Rattle.whatif.specs.Line.{refused_line}
use Rattle.whatif.specs.Stream.{question_line, lines_by}

-- "reads from standard input three 32-bit lengths (plan, rules, questions)"; "Where input ends early, missing length bytes
-- count as 0"
abbrev pub stated_plan : List ℕ → ℕ
stated_plan w = le32 w 0

abbrev pub stated_rules : List ℕ → ℕ
stated_rules w = le32 w 4

abbrev pub stated_questions : List ℕ → ℕ
stated_questions w = le32 w 8

-- "then those bytes"; where input ends early, "plan and rules are the bytes that came"
abbrev pub plan_of : List ℕ → List ℕ
plan_of w = take (stated_plan w) (drop 12 w)

abbrev pub rules_of : List ℕ → List ℕ
rules_of w = take (stated_rules w) (drop (12 + stated_plan w) w)

abbrev pub questions_of : List ℕ → List ℕ
questions_of w = take (stated_questions w) (drop (12 + stated_plan w + stated_rules w) w)

-- "too large", and a newline
abbrev pub too_large_line : List ℕ
too_large_line = 116 ∷ 111 ∷ 111 ∷ 32 ∷ 108 ∷ 97 ∷ 114 ∷ 103 ∷ 101 ∷ 10 ∷ []

-- "One line a question, no header"; "A question cut short by the end of input or by the questions' length is dropped".
-- "where Load refuses, that refusal only": n is the number of the first check that fails
unfoldable pub said_by : ℕ → List ℕ → List ℕ → List ℕ → List ℕ
said_by zero p r qs = lines_by (question_line p r) [] qs
said_by (suc n) p r qs = refused_line (suc n)

-- Load's checks, 2 to 10. The program's tables are long enough for all that it takes: 11 does not occur (room-enough in
-- proofs/SaidLaws)
abbrev pub said_on : List ℕ → List ℕ → List ℕ → List ℕ
said_on p r qs = said_by (first_no (rule_table_checks p r)) p r qs

-- "With a stated plan length above 2,014 or a stated rules length above 16,484 it prints `too large` only, however many
-- bytes come"
unfoldable pub said_to : List ℕ → List ℕ → List ℕ → List ℕ → List ℕ
said_to h p r qs = cond (too_large (stated_plan h) (stated_rules h)) too_large_line (said_on p r qs)

abbrev pub said_after : List ℕ → List ℕ → List ℕ
said_after h w =
    said_to h (take (stated_plan h) w) (take (stated_rules h) (drop (stated_plan h) w))
    (take (stated_questions h) (drop (stated_plan h + stated_rules h) w))

abbrev pub said : List ℕ → List ℕ
said w = said_to w (plan_of w) (rules_of w) (questions_of w)
