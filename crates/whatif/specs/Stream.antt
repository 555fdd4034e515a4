-- The questions as their bytes come, in chunks of any length.
--
-- question_line p r q == the line of a question q on the plan p and the rules r
-- kept_list b, line_as_kept p r b == the list of changes that a buffer holds, or the first 65 of them, which are enough to
--   refuse it; and its line
-- is_whole q == whether q is all of a question
-- open_after q b, open_by q c == what is there of the question that is not yet whole: q, and then one more byte b or a chunk c
-- line_after f q b, lines_by f q c == the lines that the byte or the chunk completes, f the line of a question
-- Held q kept have == the buffer holds the first 197 bytes of q, which has `have` bytes; Keeps kept have == it does so of some q
-- Advances f c .. == what taking the chunk c comes to: the buffer holds the question that is not yet whole then, and the lines are appended
--
-- "A question cut short by the end of input or by the questions' length is dropped": no line comes before its last byte.
use Rattle.std.specs.Prelude.{ℕ, ◌*◌, min, ◌≡◌, Bool, cond, List, [], ◌∷◌, ◌++◌, eqb, length, take, drop}
use Rattle.whatif.specs.Question.{change_count, question_length, nodes_in, labels_within}
use Rattle.whatif.specs.Cleared.{answer_to}
use Rattle.whatif.specs.Text.{Put}
use Rattle.whatif.specs.Line.{line_of}

-- the line of a question by the definitions alone
unfoldable pub question_line : List ℕ → List ℕ → List ℕ → List ℕ
question_line p r q = line_of (answer_to p r (nodes_in (drop 2 q)) (labels_within (drop 2 q)))

abbrev pub kept_list : List ℕ → List ℕ
kept_list b = take (3 * min (change_count b) 65) (drop 2 b)

unfoldable pub line_as_kept : List ℕ → List ℕ → List ℕ → List ℕ
line_as_kept p r b = line_of (answer_to p r (nodes_in (kept_list b)) (labels_within (kept_list b)))

abbrev pub is_whole : List ℕ → Bool
is_whole q = eqb (length q) (question_length q)

unfoldable pub open_after : List ℕ → ℕ → List ℕ
open_after q b = cond (is_whole (q ++ (b ∷ []))) [] (q ++ (b ∷ []))

unfoldable pub open_by : List ℕ → List ℕ → List ℕ
open_by q [] = q
open_by q (b ∷ c) = open_by (open_after q b) c

unfoldable pub line_after : (List ℕ → List ℕ) → List ℕ → ℕ → List ℕ
line_after f q b = cond (is_whole (q ++ (b ∷ []))) (f (q ++ (b ∷ []))) []

unfoldable pub lines_by : (List ℕ → List ℕ) → List ℕ → List ℕ → List ℕ
lines_by f q [] = []
lines_by f q (b ∷ c) = line_after f q b ++ lines_by f (open_after q b) c

pub record Buffered (q kept : List ℕ) (have : ℕ) : Type 0 where
  pub counted : have ≡ length q
  pub room : length kept ≡ 197
  pub first : take have kept ≡ take 197 q

abbrev pub Keeps : List ℕ → ℕ → Type 0
Keeps kept have = (q : List ℕ) × Buffered q kept have

pub record Advances (f : List ℕ → List ℕ) (c kept : List ℕ) (have : ℕ) (kept' : List ℕ) (have' : ℕ) (out : List ℕ) (end : ℕ)
    (out' : List ℕ) (end' : ℕ) : Type 0 where
  pub held : (q : List ℕ) → Buffered q kept have → Buffered (open_by q c) kept' have'
  pub text : (q : List ℕ) → Buffered q kept have → Put out end (lines_by f q c) out' end'
