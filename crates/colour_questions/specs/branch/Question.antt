-- The branch question by colours, for any inputs.
--
-- colour_buffers_fit p r node_table numbers bytes == check 17 where N, S and K are those of the headers; the last three
--   are the lengths of the table buffers
-- check 16 depends on the given size of the upper node u: is_in_subtree_on node_table u l (tables/node_tables, Cells)
-- start_on reading n node_table u == the copy in which the word begins: node u's own, or with u's label the copy above
--   it; none where its parent is no node of the plan
-- colour_in s bytes z == the colour of state 0 in copy z; none where no colour has it. In the top copy it is the lowest
-- asked q m d n == the answer of state q and mark m with d drops and n links
-- coloured_on .. == the answer on these tables: none where a value read leads outside the plan or the states, or a
--   search does not rise or ends where the colour does not fall (check 18)
-- colour_checks .. == 17, 13, 16 and 18, in this order; colour_number .. == the first that fails, 0 where none does
-- colour_ask_answer .. == what is told: that number, and the answer where none does
--
-- "Both are put outside the session and tell state, yes or no, drops and links". Both readings make the same checks;
-- they differ in the copy in which they begin.
use Rattle.std.specs.Prelude.{ℕ, zero, suc, ◌+◌, ◌*◌, Bool, cond, ◌&&◌, List, [], ◌∷◌, leb, ltb, eqb, length, get_or}
use Rattle.std.proofs.Math.Option.{Option, none, some}
use Rattle.trees.specs.Automaton.{WordAutomaton}
use Rattle.trees.specs.Climb.{and_then}
use Rattle.formats.specs.Plan.{node_count, plan_length}
use Rattle.formats.specs.Rules.{state_count, label_count, branch_length, branch_automaton}
use Rattle.formats.specs.Checks.{Check, check, first_no, node_table_length}
use Rattle.formats.specs.Buffers.{headers_fit}
use Rattle.tables.specs.node_tables.Cells.{parent_cell, is_in_subtree_on}
use Rattle.tables.specs.Climbs.{below}
use Rattle.branches.specs.declared.answers.Reading.{Reading}
use Rattle.branches.specs.declared.answers.Reading.TheVariants.{WithUpper, BelowUpper}
use Rattle.branches.specs.Question.{is_some}
use Rattle.colours.specs.Colouring.{place_of}
use Rattle.colours.specs.Descents.{Place, drops, links, descend}
use Rattle.colour_tables.specs.ColourCells.{copy_row, cell_table}
use Rattle.colour_tables.specs.branch.Build.{colours_fit}
use Rattle.colour_questions.specs.declared.branch.answers.ColourAsked.{ColourAsked}

-- "a short one gives .. 17 in a question"
unfoldable pub colour_buffers_fit : List ℕ → List ℕ → ℕ → ℕ → ℕ → Bool
colour_buffers_fit p r node_table numbers bytes =
    headers_fit 16 p r
    && (eqb (length p) (plan_length (node_count p))
    && (eqb (length r) (branch_length (state_count r) (label_count r))
    && (leb (node_table_length (node_count p)) node_table && colours_fit (node_count p) (state_count r) numbers bytes)))

unfoldable pub start_on : Reading → ℕ → List ℕ → ℕ → Option Place
start_on WithUpper n node_table u =
    cond (eqb (u + 1) n) (some none) (cond (ltb (parent_cell node_table u) n) (some (some (parent_cell node_table u))) none)
start_on BelowUpper n node_table u = some (some u)

unfoldable pub colour_in : ℕ → List ℕ → Place → Option ℕ
colour_in s bytes none = below s 0
colour_in s bytes (some z) = below s (place_of 0 (copy_row s bytes z))

abbrev pub asked : ℕ → Bool → ℕ → ℕ → ColourAsked
asked q m d n = record { state = q; marked = m; drops = d; links = n }

abbrev pub coloured : WordAutomaton → ℕ → ℕ → ℕ → ColourAsked
coloured B q d n = record { state = q; marked = B.accepting q; drops = d; links = n }

unfoldable pub coloured_on : Reading → List ℕ → List ℕ → List ℕ → List ℕ → List ℕ → ℕ → ℕ → Option ColourAsked
coloured_on reading p r node_table numbers bytes u l =
    and_then (start_on reading (node_count p) node_table u) (λ z.
    and_then (colour_in (state_count r) bytes z) (λ c.
    and_then (descend (cell_table (node_count p) numbers) c z l c) (λ d.
    and_then (below (state_count r) (get_or bytes (l * state_count r + d.colour) 0)) (λ q.
    some (coloured (branch_automaton r) q (drops d) (links d))))))

unfoldable pub colour_checks : Reading → List ℕ → List ℕ → List ℕ → List ℕ → List ℕ → ℕ → ℕ → List Check
colour_checks reading p r node_table numbers bytes u l =
    check 17 (colour_buffers_fit p r (length node_table) (length numbers) (length bytes))
    ∷ check 13 (ltb u (node_count p) && ltb l (node_count p))
    ∷ check 16 (is_in_subtree_on node_table u l)
    ∷ check 18 (is_some (coloured_on reading p r node_table numbers bytes u l))
    ∷ []

unfoldable pub colour_number : Reading → List ℕ → List ℕ → List ℕ → List ℕ → List ℕ → ℕ → ℕ → ℕ
colour_number reading p r node_table numbers bytes u l = first_no (colour_checks reading p r node_table numbers bytes u l)

-- document 01's number and values for each case: 0 with state, yes or no, drops and links, or the refusal's number alone
unfoldable pub colour_answer : ℕ → Option ColourAsked → ℕ × Option ColourAsked
colour_answer zero none = (18, none)
colour_answer zero (some c) = (0, some c)
colour_answer (suc n) c = (suc n, none)

unfoldable pub colour_ask_answer : Reading → List ℕ → List ℕ → List ℕ → List ℕ → List ℕ → ℕ → ℕ → ℕ × Option ColourAsked
colour_ask_answer reading p r node_table numbers bytes u l =
    colour_answer (colour_number reading p r node_table numbers bytes u l)
    (coloured_on reading p r node_table numbers bytes u l)
