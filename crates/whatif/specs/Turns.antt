-- What the program's reads and writes come to, from the first length byte to the last question.
--
-- Came w h p r == of the input w these bytes came: h the lengths, p the plan, r the rules
-- Answered h p r came sent == `sent` bytes were written, the length of what is said to these parts of an input (h the
--   lengths, p the plan, r the rules) and `came` bytes of questions; no more came of any than is stated
-- AskedFor h n m == n bytes of the plan and m of the rules were asked for: the numbers that the lengths h state, none
--   where they are too large
-- AnsweredOn p r came sent == as Answered, after the lengths
-- Progress f came have sent == `came` bytes of the questions came, of which `have` are of the one that is not yet whole, and
--   the lines of the others, f the line of a question, are `sent` bytes
-- Lines f c kept had kept' have t == for any question that the buffer kept held: t are the lines that the chunk c
--   completes after it, and the buffer kept' holds the question that is not yet whole then
-- joined cs, lines_over f q cs == chunks as one list, and their lines, one chunk after another
--
-- A contract can't name what the system gives or takes; Told.antt speaks of readers and writers that tell their bytes.
-- Here what came is what the buffers hold after the read, and what is written meets the `requires` of the functions that
-- write (src/send.rt). The bytes of earlier chunks are gone when the next one comes: the contracts above one iteration
-- know that they were there, and their number.
use Rattle.std.specs.Prelude.{ℕ, ◌≤◌, ◌≡◌, cond, List, [], ◌∷◌, ◌++◌, length, take}
use Rattle.whatif.specs.Input.{too_large}
use Rattle.whatif.specs.Stream.{open_by, lines_by, Buffered}
use Rattle.whatif.specs.Said.{stated_plan, stated_rules, stated_questions, plan_of, rules_of, said_on, said_to}

pub record Came (w h p r : List ℕ) : Type 0 where
  pub head : take 12 w ≡ h
  pub plan : plan_of w ≡ p
  pub rules : rules_of w ≡ r

pub record Answered (h p r : List ℕ) (came sent : ℕ) : Type 0 where
  pub questions : List ℕ
  pub count : came ≡ length questions
  pub all : sent ≡ length (said_to h p r questions)
  pub plan_most : length p ≤ stated_plan h
  pub rules_most : length r ≤ stated_rules h
  pub came_most : came ≤ stated_questions h

pub record AskedFor (h : List ℕ) (n m : ℕ) : Type 0 where
  pub plan : n ≡ cond (too_large (stated_plan h) (stated_rules h)) 0 (stated_plan h)
  pub rules : m ≡ cond (too_large (stated_plan h) (stated_rules h)) 0 (stated_rules h)

pub record AnsweredOn (p r : List ℕ) (came sent : ℕ) : Type 0 where
  pub questions : List ℕ
  pub count : came ≡ length questions
  pub all : sent ≡ length (said_on p r questions)

pub record Progress (f : List ℕ → List ℕ) (came have sent : ℕ) : Type 0 where
  pub questions : List ℕ
  pub count : came ≡ length questions
  pub part : have ≡ length (open_by [] questions)
  pub lines : sent ≡ length (lines_by f [] questions)

pub record Lines (f : List ℕ → List ℕ) (c kept : List ℕ) (had : ℕ) (kept' : List ℕ) (have : ℕ) (t : List ℕ) : Type 0 where
  pub held : (q : List ℕ) → Buffered q kept had → Buffered (open_by q c) kept' have
  pub text : (q : List ℕ) → Buffered q kept had → t ≡ lines_by f q c

unfoldable pub joined : List (List ℕ) → List ℕ
joined [] = []
joined (c ∷ cs) = c ++ joined cs

unfoldable pub lines_over : (List ℕ → List ℕ) → List ℕ → List (List ℕ) → List ℕ
lines_over f q [] = []
lines_over f q (c ∷ cs) = lines_by f q c ++ lines_over f (open_by q c) cs
