-- The counts of one part, for any inputs.
--
-- w holds of the open nodes, es are the roots before v, cs their counts, 16 for each
-- first_label, end_label X w v == v's labels are those from the first to before the end: all K where v is open, else its
--   own
-- left_on X v == the left child of v, by the given size of the right one, v - 1
-- children_on X v == whether both children are nodes before v
-- place_on X es c == the place from 1 of the last of es that is c or below it, by the given size of c; 0 for none
-- part_ok_on X w es v == whether part v comes to counts: its label is one, and no value read leads outside the plan or
--   the states
-- part_links_on X es v == the links of its climb, if it has one
-- part_count_on X w es cs v c == how many choices end in state c at v
--
-- On tables as built these are choices/assignments' `part_count` and ready's `part_links`.
use Rattle.std.specs.Prelude.{ℕ, ◌+◌, ◌-◌, Bool, true, cond, ◌&&◌, List, leb, ltb, eqb, get_or}
use Rattle.tables.specs.node_tables.Cells.{depth_cell, size_cell}
use Rattle.tables.specs.Climbs.{View}
use Rattle.questions.specs.inner.Scans.{last_in}
use Rattle.choices.specs.part_steps.Fork.{fork_ok}
use Rattle.choices.specs.part_steps.Root.{root_links, root_count}

unfoldable pub first_label : View → (ℕ → Bool) → ℕ → ℕ
first_label X w v = cond (w v) 0 (get_or X.labels v 0)

unfoldable pub end_label : View → (ℕ → Bool) → ℕ → ℕ
end_label X w v = cond (w v) X.k (get_or X.labels v 0 + 1)

abbrev pub left_on : View → ℕ → ℕ
left_on X v = v - 1 - size_cell X.node_table (v - 1)

abbrev pub children_on : View → ℕ → Bool
children_on X v = ltb 0 v && leb (size_cell X.node_table (v - 1)) (v - 1)

abbrev pub place_on : View → List ℕ → ℕ → ℕ
place_on X es c = last_in c (size_cell X.node_table c) es

unfoldable pub part_ok_on : View → (ℕ → Bool) → List ℕ → ℕ → Bool
part_ok_on X w es v =
    leb (end_label X w v) X.k
    && cond (eqb (get_or X.kinds v 0) 0)
    true
    (children_on X v
    && fork_ok X es (depth_cell X.node_table v + 1) (left_on X v) (v - 1) (place_on X es (left_on X v))
    (place_on X es (v - 1)))

unfoldable pub part_links_on : View → List ℕ → ℕ → ℕ
part_links_on X es v = root_links X X.kinds es v (place_on X es (left_on X v)) (place_on X es (v - 1))

unfoldable pub part_count_on : View → (ℕ → Bool) → List ℕ → List ℕ → ℕ → ℕ → ℕ
part_count_on X w es cs v c =
    root_count X X.kinds X.leaves es cs v (left_on X v) (place_on X es (left_on X v)) (place_on X es (v - 1))
    (first_label X w v) (end_label X w v) c
