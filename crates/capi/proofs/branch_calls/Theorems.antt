-- The tables layer's main theorems by name, each cited from where it is proved.
--     plans              plans decode to exactly one tree exactly when 2 to 5 pass; N 1 is accepted with 14 bytes, N 2
--                        gets 5
--     builds, branch-builds   what a build that answers 0 leaves in the buffers is as built, for any contents before,
--                             longer buffers too
--     full-checks        yes exactly when the tables passed in are what the build writes: local equations leave one
--                        table only
--     climbs             a climb carries what the walk by parents does, for any value (where it ends, its moves:
--                        claims/proofs/FurtherStatements)
--     branch-answers     on tables as built a branch answer is the word automaton's, in each reading on its own word
--     two-words, empty-word   the two words differ by the upper node's label; the same node twice, from below it: state
--                             0, its mark, no links, no node passed over
--     branch-in-range   18 only where a value is outside the plan, the states or the labels, or a link does not rise
--     each-state         each node's state in source document 002's run is that of its subtree; the fresh run returns
--                        the root's (its contract)
--     jump-samples, climb-samples         jumps of depths 1 to 7; climbs from depth 6 to 1 and to 0
-- The promises of the calls themselves, on every input, are the contracts in src/ (this crate's and those below).
use Prim.Native.Nat.{ℕ, ◌+◌, ◌-◌, ◌≤◌, ◌<◌}
use mathlib.Core.Path.{◌≡◌}
use mathlib.Core.Bool.{Bool, true}
use mathlib.Core.List.{List, [], ◌∷◌}
use mathlib.Core.Logic.{◌↔◌}
use mathlib.Core.Option.{Option, some}
use lib.ListN.{length}
use Rattle.std.specs.Prelude.{Result, Ok}
use Rattle.trees.specs.Tree.{Tree, leaf, size, label_at}
use Rattle.trees.specs.Automaton.{Automaton, run, state}
use Rattle.trees.specs.Numbering.{sub, depth, word, lower_word, AtOrBelow}
use Rattle.trees.specs.Jumps.{jump, jump_depth}
use Rattle.trees.specs.Climb.{Move, via_jump, to_parent, forest_of, climb, carry, walk, move_count}
use Rattle.trees.proofs.RunLaws.{run_at}
use Rattle.trees.proofs.CarryLaws.{carry-walk}
use Rattle.trees.proofs.WordLaws.{word_below}
use Rattle.trees.proofs.Samples as samples
use Rattle.formats.specs.Bytes.{le32}
use Rattle.list_laws.specs.Tests.{all_below}
use Rattle.formats.specs.Plan.{node_count, plan_tree, plan_bytes}
use Rattle.formats.specs.Rules.{branch_automaton}
use Rattle.formats.specs.Checks.{first_no, plan_checks, build_checks, branch_build_checks}
use Rattle.formats.specs.Built.{built_node_table, built_state_table, built_branch_table, AsBuilt, BranchBuilt}
use Rattle.formats.proofs.PlanTheorems as plan-theorems
use Rattle.formats.specs.Refusals.{answer_number}
use Rattle.formats.specs.declared.refusals.Refusal.{Refusal}
use Rattle.tables.specs.Answers.{BuildDone, CheckDone}
use Rattle.tables.proofs.BuildLaws.{built-as-built}
use Rattle.tables.proofs.CheckTheorems.{check-yes, yes-check}
use Rattle.branches.specs.declared.answers.Reading.{Reading}
use Rattle.branches.specs.declared.answers.Reading.TheVariants.{BelowUpper}
use Rattle.branches.specs.Question.{branched, ask_number, ask_answer}
use Rattle.branches.specs.OutOfRange.{BranchOutOfRange}
use Rattle.branches.specs.Promise.{word_answer}
use Rattle.branches.proofs.BranchTheorems as branch-theorems
use Rattle.branches.proofs.AskTheorem as ask-theorem
use Rattle.branches.proofs.AskTheorem.{ask-built}
use Rattle.branches.proofs.AskRange.{ask-out-of-range}

plans : (p : List ℕ) → all_below 256 p ≡ true → (first_no (plan_checks p) ≡ 0) ↔ ((t : Tree) × (size t ≤ 65535) × (plan_bytes t ≡ p))
plans = plan-theorems.plan-decodes

one_tree : (t u : Tree) → plan_bytes t ≡ plan_bytes u → t ≡ u
one_tree = plan-theorems.one_tree

one-node : (a : ℕ) → (first_no (plan_checks (plan_bytes (leaf a))) ≡ 0) × (length (plan_bytes (leaf a)) ≡ 14)
one-node = plan-theorems.one-node

two-nodes : (p : List ℕ) → length p ≡ 16 → node_count p ≡ 2 → le32 p 4 ≡ 12 → le32 p 8 ≡ 14 → first_no (plan_checks p) ≡ 5
two-nodes = plan-theorems.two-nodes

-- for any contents of the buffers: what a build that answers 0 leaves in them
builds : (p r node_table state_table node_table' state_table' : List ℕ) (a : Result Unit Refusal)
    → BuildDone (first_no (build_checks p r (length node_table) (length state_table))) (built_node_table p) (built_state_table p r) node_table state_table
    a node_table' state_table'
    → answer_number a ≡ 0 → AsBuilt p r node_table' state_table'
builds = built-as-built

branch-builds : (p r node_table state_table node_table' state_table' : List ℕ) (a : Result Unit Refusal)
    → BuildDone (first_no (branch_build_checks p r (length node_table) (length state_table))) (built_node_table p) (built_branch_table p r)
    node_table state_table a node_table' state_table'
    → answer_number a ≡ 0 → BranchBuilt p r node_table' state_table'
branch-builds = branch-theorems.built-branch-built

full-checks : (p r node_table state_table : List ℕ) (a : Result Bool Refusal)
    → CheckDone (first_no (build_checks p r (length node_table) (length state_table))) (built_node_table p) (built_state_table p r) node_table state_table a
    → (a ≡ Ok true) ↔ AsBuilt p r node_table state_table
full-checks p r node_table state_table a D = (check-yes p r node_table state_table a D, yes-check p r node_table state_table a D)

branch-full-checks : (p r node_table state_table : List ℕ) (a : Result Bool Refusal)
    → CheckDone (first_no (branch_build_checks p r (length node_table) (length state_table))) (built_node_table p) (built_branch_table p r) node_table state_table a
    → (a ≡ Ok true) ↔ BranchBuilt p r node_table state_table
branch-full-checks p r node_table state_table a D =
    (branch-theorems.check-yes p r node_table state_table a D, branch-theorems.yes-check p r node_table state_table a D)

climbs : {X : Type 0} (P : X → Type 0) (step : ℕ → X → X) (act : Move → X → Option X) (t : Tree)
    → ((v : ℕ) (x : X) → v + 1 < size t → P x → act (to_parent v) x ≡ some (step v x))
    → ((v : ℕ) (x : X) → v + 1 < size t → P x → act (via_jump v) x ≡ some (walk step t v (depth t v - depth t (jump t v)) x))
    → ((v : ℕ) (x : X) → v + 1 < size t → P x → P (step v x))
    → (w to : ℕ) (ms : List Move) (x : X) → w < size t → to ≤ depth t w → climb (forest_of t) w to ≡ some ms → P x
    → carry act ms x ≡ some (walk step t w (depth t w - to) x)
climbs = carry-walk

-- "Demand 2 holds for each on its own word."
branch-answers : (reading : Reading) (p r node_table state_table : List ℕ) → BranchBuilt p r node_table state_table
    → (u l : ℕ) → u < node_count p → l < node_count p → AtOrBelow (plan_tree p) u l
    → ask_answer reading p r node_table state_table u l ≡ word_answer reading p r u l
branch-answers = ask-built

two-words : (t : Tree) (u v : ℕ) → v < size t → AtOrBelow t u v → word t u v ≡ label_at t u ∷ lower_word t u v
two-words = word_below

-- "the same node twice is the empty word, and the mark of state 0 decides"
empty-word : (p r node_table state_table : List ℕ) → BranchBuilt p r node_table state_table → (u : ℕ) → u < node_count p
    → ask_answer BelowUpper p r node_table state_table u u ≡ Ok (branched (branch_automaton r) 0 0 0)
empty-word = ask-theorem.empty-word

branch-in-range : (p r node_table state_table : List ℕ) (reading : Reading) (u l : ℕ)
    → ask_number reading p r node_table state_table u l ≡ 18 → BranchOutOfRange p r node_table state_table
branch-in-range = ask-out-of-range

each-state : (A : Automaton) (t : Tree) (v : ℕ) → v < size t → label_at (run A t) v ≡ state A (sub t v)
each-state = run_at

jump-samples : jump_depth 1 ∷ jump_depth 2 ∷ jump_depth 3 ∷ jump_depth 4 ∷ jump_depth 5 ∷ jump_depth 6 ∷ jump_depth 7 ∷ []
    ≡ 0 ∷ 1 ∷ 0 ∷ 3 ∷ 4 ∷ 3 ∷ 0 ∷ []
jump-samples = samples.jump_depth-samples

climb-samples : (move_count 6 1 ≡ 3) × (move_count 6 0 ≡ 2)
climb-samples = samples.move_count-samples
