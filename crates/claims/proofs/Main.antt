-- What is claimed of the what-if checker: its three demands and the sample, each proved by citing what is below.
--     refusals-on-bytes, start-18-on-bytes                         demand 1 of the session; of all other calls: Calls
--     finished-answers, run-at-each-node, branch-answers           demand 2
--     by_value, in_place, on-record-bytes, start-is-settled, tables-after-load-on-bytes   demand 3
--     sample                                                       the sample clearance
-- Forms: demands 1 and 2 of the calls by value and in place. Session: further statements about the session. Ask: whole
-- questions outside the session. Allowed: labels and states that clear the plan, at each node. Fewest: the least number
-- of changes that clear it. Requests: LastAnswer (S-1), Planner (S-2), Jumps (S-3), Lists (S-4, S-5, S-12), Products
-- (S-6, S-13), PassedOver (S-7), EightScreens (S-8), Branches (S-9), Choices (S-10), here (S-11), Colours, ColourSets
-- (S-14). Contracts: each promise is its function's own contract. What 01 wants proved besides: FurtherStatements. What
-- a word of a statement means: tools/believe, docs/PROVED.md.
use Prim.Native.Nat.{ℕ, ◌<◌}
use mathlib.Core.Path.{◌≡◌}
use mathlib.Core.Bool.{true, false}
use mathlib.Core.List.{List, [], ◌∷◌}
use mathlib.Core.Option.{some}
use lib.ListN.{replicate}
use Rattle.trees.specs.Tree.{Tree, size, label_at}
use Rattle.trees.specs.Automaton.{Automaton, run, state}
use Rattle.trees.specs.Numbering.{sub, AtOrBelow}
use Rattle.trees.proofs.RunLaws.{run_at}
use Rattle.formats.specs.Plan.{node_count, plan_tree}
use Rattle.formats.specs.Built.{BranchBuilt}
use Rattle.formats.specs.Inputs.{Inputs}
use Rattle.branches.specs.declared.answers.Reading.{Reading}
use Rattle.model.specs.Calls.{Call, start, Answer, refused, outcome_answer}
use Rattle.reference.specs.Reference.{Reference}
use Rattle.reference.specs.Demand3.{Demand3}
use Rattle.reference.specs.Outcomes.{QuestionsAnswered}
use Rattle.reference.proofs.Sample.{sample-rows}
use Rattle.reference.specs.Sample.{row, start_row}
use Rattle.session.specs.Records.{record_of, fresh_session}
use Rattle.session.specs.CallsByValue.{CallByValue}
use Rattle.session.proofs.SessionTheorem.{by-value-demand-3}
use Rattle.session.specs.in_place.CallsInPlace.{CallInPlace}
use Rattle.session.proofs.in_place.InPlaceTheorem.{in-place-demand-3}
use Rattle.records.specs.Layout.{decoded, valid_bytes}
use Rattle.capi.specs.branch_calls.BranchExported.{AskExported}
use Rattle.capi_session.specs.SessionExported.{LoadExported}
use Rattle.capi_session.specs.DecodedAnswers.{Exports}
use Rattle.capi_session.proofs.ExportedTheorem.{exported-demand-3, exported-questions}
use Rattle.claims.specs.Refusals.{RefusedOnBytes, Start18, StartSettled}
use Rattle.claims.specs.Lent.{TablesAfterLoadCall}
use Rattle.claims.specs.BranchAnswers.{BranchAnswered}
use Rattle.claims.proofs.laws.RefusalLaws as refusal
use Rattle.claims.proofs.laws.StartLaws.{start-settled}
use Rattle.claims.proofs.laws.LoadTables.{tables-on-bytes}
use Rattle.claims.proofs.Branches as branches

-- ---- demand 1. "Malformed input, short buffers, table values that lead outside and calls that the session's state
-- forbids are refused first, by number, in a fixed order; a refusal alters nothing; everything else is accepted; every
-- call ends." That every call ends, and has no premise, is part of each function's proof.

refusals-on-bytes : (b b' : List ℕ) (c : Call) (a : Answer) → Exports b c a b' → RefusedOnBytes b c a b'
refusals-on-bytes = refusal.refused-on-bytes

-- document 02, S-11: "give 18 at its old place exactly when the tables aren't what the build writes from that plan and
-- those rules, or when these no longer pass 2 to 10 or name another N, S or K than the record"
start-18-on-bytes : (b b' : List ℕ) (x : Inputs) (vs bs : List ℕ) (a : Answer) → Exports b (start x vs bs) a b'
    → valid_bytes b ≡ true → Start18 (record_of (decoded b)) x vs bs a
start-18-on-bytes = refusal.start-18-on-bytes

-- ---- demand 2. "On tables as built, a finished answer is the automaton's run on the changed plan (source document
-- 002); a branch answer is the word automaton's."

-- of an undisturbed question that Start accepted: after one advance for each part, Read's outcome is the fresh run's
finished-answers : QuestionsAnswered (replicate 983 0) Exports
finished-answers = exported-questions

-- the fresh run is source document 002's: each node's label in the run is the state of its subtree
run-at-each-node : (A : Automaton) (t : Tree) (v : ℕ) → v < size t → label_at (run A t) v ≡ state A (sub t v)
run-at-each-node = run_at

-- document 02, S-9: "Demand 2 holds for each on its own word": with the upper node's label, and from below that node
branch-answers : (reading : Reading) (p r node_table state_table : List ℕ) (u l n s₀ y₀ k₀ d₀ s₁ y₁ k₁ d₁ : ℕ)
    → AskExported reading p r node_table state_table u l n s₀ y₀ k₀ d₀ s₁ y₁ k₁ d₁ → BranchBuilt p r node_table state_table
    → u < node_count p → l < node_count p → AtOrBelow (plan_tree p) u l → BranchAnswered reading p r u l n s₁ y₁ k₁ d₁
branch-answers = branches.answers

-- ---- demand 3. "For every list of the five calls, refused ones included, whatever is lent, the answers are those of
-- the panel book."

by_value : Demand3 fresh_session CallByValue
by_value = by-value-demand-3

in_place : Demand3 fresh_session CallInPlace
in_place = in-place-demand-3

on-record-bytes : Demand3 (replicate 983 0) Exports
on-record-bytes = exported-demand-3

-- document 02, S-11: "Nothing about Start is left to the program then"
start-is-settled : (b : Reference) (x : Inputs) (vs bs : List ℕ) → StartSettled b x vs bs
start-is-settled = start-settled

-- "Everything lent beside the record holds what it held, save the tables an accepted Load writes as defined"
tables-after-load-on-bytes : (b b' : List ℕ) (x : Inputs) (r : ℕ) (node_table' state_table' : List ℕ)
    → LoadExported b x r b' node_table' state_table' → TablesAfterLoadCall x r node_table' state_table'
tables-after-load-on-bytes = tables-on-bytes

-- ---- "Sample clearance, to be proved as one table": state, yes or no, parts, links, nodes passed over (02, S-7), or
-- the refusal's number

sample :
    row [] [] 1 ∷ row (0 ∷ []) (0 ∷ []) 2 ∷ row (0 ∷ 2 ∷ []) (0 ∷ 0 ∷ []) 3 ∷ row (0 ∷ 3 ∷ []) (0 ∷ 1 ∷ []) 5
    ∷ row (4 ∷ []) (0 ∷ []) 2 ∷ row (6 ∷ []) (0 ∷ []) 1
    ∷ start_row (7 ∷ []) (0 ∷ []) ∷ start_row (0 ∷ []) (2 ∷ []) ∷ row (0 ∷ 0 ∷ []) (0 ∷ 1 ∷ []) 1 ∷ []
    ≡ some (outcome_answer 1 true 1 0 0) ∷ some (outcome_answer 0 false 2 1 1) ∷ some (outcome_answer 1 true 3 0 0)
    ∷ some (outcome_answer 0 false 5 0 0) ∷ some (outcome_answer 0 false 2 1 1) ∷ some (outcome_answer 1 true 1 0 0)
    ∷ some (refused 13) ∷ some (refused 14) ∷ some (outcome_answer 1 true 1 0 0) ∷ []
sample = sample-rows
