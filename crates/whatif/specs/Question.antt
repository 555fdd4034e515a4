-- The bytes of a question.
--
-- change_count b == m, by the first two bytes; one that is not there counts 0
-- question_length b == how many bytes the question has, by its first two
-- nodes_in l, labels_within l == the nodes and the labels of a list of changes, three bytes each; less than three at the end are left out
--
-- "a question is a 16-bit m and m times a 16-bit node and an 8-bit label"
use Rattle.std.specs.Prelude.{ℕ, ◌+◌, ◌*◌, List, [], ◌∷◌}
use Rattle.formats.specs.Bytes.{le16}

abbrev pub change_count : List ℕ → ℕ
change_count b = le16 b 0

abbrev pub question_length : List ℕ → ℕ
question_length b = 2 + 3 * change_count b

unfoldable pub nodes_in : List ℕ → List ℕ
nodes_in [] = []
nodes_in (low ∷ []) = []
nodes_in (low ∷ high ∷ []) = []
nodes_in (low ∷ high ∷ label ∷ l) = (low + 256 * high) ∷ nodes_in l

unfoldable pub labels_within : List ℕ → List ℕ
labels_within [] = []
labels_within (low ∷ []) = []
labels_within (low ∷ high ∷ []) = []
labels_within (low ∷ high ∷ label ∷ l) = label ∷ labels_within l
