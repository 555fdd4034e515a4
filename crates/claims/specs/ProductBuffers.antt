-- What a caller reads of the output of whatif_merge and of whatif_agree (document 02, S-6 and S-13).
--
-- merged_in first second out == the merged table: the front of the output, as long as a table of S1 × S2 states and K
--   labels
-- line_in lines i == line i of a buffer of four numbers a line (0 leaf or 1 inner, label, left line, right line)
-- lines_in lines n == the first n lines
-- numbers_of_lines xs == the numbers of the lines xs, four each; a leaf's left and right are 0
use Rattle.std.specs.Prelude.{ℕ, zero, suc, ◌+◌, ◌*◌, List, [], ◌∷◌, ◌++◌, get_or, take}
use Rattle.formats.specs.Rules.{state_count, label_count, rule_length}
use Rattle.products.specs.agreement.Lines.{Line}
use Rattle.products.specs.agreement.Reply.{line_kind, line_label, line_left, line_right}
use Rattle.products.specs.agreement.reachable.SearchRecord.{line_of}

abbrev pub merged_in : List ℕ → List ℕ → List ℕ → List ℕ
merged_in first second out = take (rule_length (state_count first * state_count second) (label_count first)) out

abbrev pub line_in : List ℕ → ℕ → Line
line_in lines i =
    line_of (get_or lines (i * 4) 0) (get_or lines (i * 4 + 1) 0) (get_or lines (i * 4 + 2) 0) (get_or lines (i * 4 + 3) 0)

unfoldable pub lines_in : List ℕ → ℕ → List Line
lines_in lines zero = []
lines_in lines (suc n) = lines_in lines n ++ (line_in lines n ∷ [])

abbrev pub numbers_of_lines : List Line → List ℕ
numbers_of_lines [] = []
numbers_of_lines (x ∷ xs) = line_kind x ∷ line_label x ∷ line_left x ∷ line_right x ∷ numbers_of_lines xs
