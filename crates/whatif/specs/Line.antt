-- The line of an answer.
--
-- line_of a == "One line a question, no header: state, yes or no, parts, links; or `refused` and the number", with single spaces and a
--   newline, the nodes passed over last (document 02, S-7); nothing of an answer that ends no question
use Rattle.std.specs.Prelude.{ℕ, Bool, true, false, List, [], ◌∷◌, ◌++◌}
use Rattle.model.specs.Calls.{Answer, on_refused, on_outcome}
use Rattle.whatif.specs.Text.{decimal}

-- " yes " or " no "
abbrev pub yes_or_no : Bool → List ℕ
yes_or_no true = 32 ∷ 121 ∷ 101 ∷ 115 ∷ 32 ∷ []
yes_or_no false = 32 ∷ 110 ∷ 111 ∷ 32 ∷ []

abbrev pub space : List ℕ
space = 32 ∷ []

abbrev pub newline : List ℕ
newline = 10 ∷ []

-- "refused "
abbrev pub refused_word : List ℕ
refused_word = 114 ∷ 101 ∷ 102 ∷ 117 ∷ 115 ∷ 101 ∷ 100 ∷ 32 ∷ []

-- parts, links and nodes passed over
abbrev pub counts_text : ℕ → ℕ → ℕ → List ℕ
counts_text p l d = decimal p ++ (space ++ (decimal l ++ (space ++ (decimal d ++ newline))))

abbrev pub outcome_line : ℕ → Bool → ℕ → ℕ → ℕ → List ℕ
outcome_line q y p l d = decimal q ++ (yes_or_no y ++ counts_text p l d)

abbrev pub refused_line : ℕ → List ℕ
refused_line n = refused_word ++ (decimal n ++ newline)

unfoldable pub line_of : Answer → List ℕ
line_of a = on_outcome (λ o. outcome_line o.state o.yes o.parts o.links o.passed) (on_refused refused_line [] a) a
