-- The counts of all parts, in rising node number, for any inputs.
--
-- parts_ok X w es ms == whether every part of the roots ms comes to counts, after those of es
-- links_from X es ms == the links of the parts of ms
-- row_on X w es cs v == the 16 counts of part v; rows_from X w es cs ms == cs, and behind them those of the parts of ms
--
-- Counts stop at the limit (choices/node_counts, Capped). The counts decide nothing of parts_ok and of the links: all states
-- are climbed from.
use Rattle.std.specs.Prelude.{ℕ, ◌+◌, Bool, true, ◌&&◌, List, [], ◌∷◌, ◌++◌}
use Rattle.list_laws.specs.Rows.{tabulate}
use Rattle.formats.specs.Limits.{state_limit}
use Rattle.tables.specs.Climbs.{View}
use Rattle.choices.specs.node_counts.Capped.{capped}
use Rattle.choices.specs.question_counts.PartOn.{part_ok_on, part_links_on, part_count_on}

unfoldable pub parts_ok : View → (ℕ → Bool) → List ℕ → List ℕ → Bool
parts_ok X w es [] = true
parts_ok X w es (v ∷ ms) = part_ok_on X w es v && parts_ok X w (es ++ (v ∷ [])) ms

unfoldable pub links_from : View → List ℕ → List ℕ → ℕ
links_from X es [] = 0
links_from X es (v ∷ ms) = part_links_on X es v + links_from X (es ++ (v ∷ [])) ms

unfoldable pub row_on : View → (ℕ → Bool) → List ℕ → List ℕ → ℕ → List ℕ
row_on X w es cs v = tabulate state_limit (λ c. capped (part_count_on X w es cs v c))

unfoldable pub rows_from : View → (ℕ → Bool) → List ℕ → List ℕ → List ℕ → List ℕ
rows_from X w es cs [] = cs
rows_from X w es cs (v ∷ ms) = rows_from X w (es ++ (v ∷ [])) (cs ++ row_on X w es cs v) ms
