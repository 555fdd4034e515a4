-- The branch question, for any inputs.
--
-- Reading (src/answers) == which word is read: WithUpper, with the upper node's label; BelowUpper, from below the upper node
-- check 17 depends on the headers: headed_buffers_fit branch_tables (crate formats, Buffers)
-- check 16 depends on the given size of the upper node u: is_in_subtree_on node_table u l (tables/node_tables, Cells)
-- first_state reading .. == the state that the word below the upper node starts in: after its label, or 0, for which nothing is read
-- branch_on .. == the answer on these tables: none where a value read leads outside the plan, the states or the labels, or a climb
--   does not rise (check 18)
-- ask_checks .. == 17, 13, 16 and 18, in this order; ask_number .. == the first that fails, 0 where none does
-- ask_answer .. == the answer: refused with the first failing check's number (refusal_of, crate formats)
--
-- "It tells state, yes or no, and the links of the climb from the lower node to the upper's depth", and the nodes that this climb passed
-- over (02, S-7). The word runs downward while the climb goes up, so the first state goes through the climb's moves from the last to
-- the first (replay_on, crate tables): of each map one entry is read. Both readings ask the same checks and make the same climb.
use Rattle.std.specs.Prelude.{ℕ, zero, suc, Bool, true, false, cond, ◌&&◌, List, [], ◌∷◌, ltb, eqb, length, get_or, Result, Ok, Err}
use Rattle.std.proofs.Math.Option.{Option, none, some}
use Rattle.trees.specs.Automaton.{WordAutomaton}
use Rattle.trees.specs.Climb.{and_then}
use Rattle.formats.specs.Plan.{node_count, labels_within}
use Rattle.formats.specs.Rules.{state_count, label_count, branch_steps, branch_automaton}
use Rattle.formats.specs.Checks.{Check, check, first_no}
use Rattle.formats.specs.Buffers.{headed_buffers_fit, branch_tables}
use Rattle.formats.specs.declared.refusals.Refusal.{Refusal}
use Rattle.formats.specs.declared.refusals.Refusal.TheVariants.{LentValue}
use Rattle.formats.specs.Refusals.{refusal_of}
use Rattle.tables.specs.node_tables.Cells.{depth_cell, is_in_subtree_on}
use Rattle.tables.specs.Replays.{replay_on}
use Rattle.branches.specs.declared.answers.Reading.{Reading}
use Rattle.branches.specs.declared.answers.Reading.TheVariants.{WithUpper, BelowUpper}
use Rattle.branches.specs.declared.answers.Branched.{Branched}

unfoldable pub first_state : Reading → List ℕ → List ℕ → ℕ → Option ℕ
first_state WithUpper p r u =
    cond (ltb (get_or (labels_within p) u 0) (label_count r) && ltb ((branch_automaton r).step 0 (get_or (labels_within p) u 0)) (state_count r))
    (some ((branch_automaton r).step 0 (get_or (labels_within p) u 0)))
    none
first_state BelowUpper p r u = some 0

-- the result for a word that ends in state q, by a climb of n links that passed over p nodes
abbrev pub branched : WordAutomaton → ℕ → ℕ → ℕ → Branched
branched B q n p = record { state = q; marked = B.accepting q; links = n; passed = p }

unfoldable pub branch_on : Reading → List ℕ → List ℕ → List ℕ → List ℕ → ℕ → ℕ → Option Branched
branch_on reading p r node_table state_table u l =
    and_then (first_state reading p r u) (λ q.
    and_then (replay_on (node_count p) (state_count r) (label_count r) (labels_within p) (branch_steps r) node_table state_table l
    (depth_cell node_table u) q) (λ x.
    some (branched (branch_automaton r) x.state x.links x.passed)))

abbrev pub is_some : {X : Type 0} → Option X → Bool
is_some none = false
is_some (some x) = true

unfoldable pub ask_checks : Reading → List ℕ → List ℕ → List ℕ → List ℕ → ℕ → ℕ → List Check
ask_checks reading p r node_table state_table u l =
    check 17 (headed_buffers_fit branch_tables p r (length node_table) (length state_table))
    ∷ check 13 (ltb u (node_count p) && ltb l (node_count p))
    -- "lower node at or below upper? 16"
    ∷ check 16 (is_in_subtree_on node_table u l)
    ∷ check 18 (is_some (branch_on reading p r node_table state_table u l))
    ∷ []

unfoldable pub ask_number : Reading → List ℕ → List ℕ → List ℕ → List ℕ → ℕ → ℕ → ℕ
ask_number reading p r node_table state_table u l = first_no (ask_checks reading p r node_table state_table u l)

-- document 01's answer for each case: what is answered, or the refusal alone
unfoldable pub branch_answer : ℕ → Option Branched → Result Branched Refusal
branch_answer zero none = Err LentValue
branch_answer zero (some b) = Ok b
branch_answer (suc n) b = Err (refusal_of (suc n))

unfoldable pub ask_answer : Reading → List ℕ → List ℕ → List ℕ → List ℕ → ℕ → ℕ → Result Branched Refusal
ask_answer reading p r node_table state_table u l =
    branch_answer (ask_number reading p r node_table state_table u l) (branch_on reading p r node_table state_table u l)
