-- The reference model: the panel book of document 01, a model of the session that is fed the calls and their inputs,
-- never the record.
--
-- Settlement == what settles a question's answers. Start's answer is always settled, and its question begins clean, on
--   sound inputs. clean: every advance is given the same; by_rule: plan, rules and node table as at Start, the state
--   table's bytes below S, so that "Parts of a question" settles the answers; by_program: neither. Only an advance makes
--   a question by_rule or by_program
-- Question == "its list, what its Start lent, a count, and whether it is clean"; and the results of its parts, by the
--   rule on the inputs given
-- Reference == "the session's state, N, S and K of the last accepted Load", the question, and the last finished
--   question as it was at its finish; stage_of b == what the checks read of it
-- Reply == its reply to a call: settled, without the program's answer, or unsettled: left to the program, whose answer
--   it is fed
-- step b c == its reply to call c, by the lines of "The panel book"
--
-- A settled answer cannot depend on the program's: it is the constructor's argument.
use Rattle.std.specs.Prelude.{ℕ, zero, suc, Bool, true, false, cond, not, ◌&&◌, List, [], ◌∷◌, ◌++◌, eqb, length, get_or}
use Rattle.std.proofs.Math.Option.{Option, none, some}
use Rattle.trees.specs.Tree.{Tree}
use Rattle.formats.specs.Plan.{plan_tree, labels_within}
use Rattle.changes.specs.Differing.{differing}
use Rattle.formats.specs.Rules.{rule_automaton}
use Rattle.runs.specs.FreshRun as fresh-run
use Rattle.questions.specs.ready.Members.{roots}
use Rattle.questions.specs.ready.Parts.{Given, Part, part_of, last_state, all_links, question_links, all_passed, question_passed}
use Rattle.formats.specs.Inputs.{Inputs, Sizes, sizes_in, same_node_inputs, same_inputs, states_below}
use Rattle.model.specs.Calls.{Call, load, start, advance, cancel, read, Answer, refused, parts, more, finished}
use Rattle.model.specs.Calls.{outcome_answer, on_refused, on_advance, on_outcome, Phase, is_some}
use Rattle.model.specs.Refusals.{Stage, stage, refusal}
use Rattle.questions.specs.PartInputs.{given_of}
use Rattle.reference.specs.Causes.{advance_cause}

pub data Settlement : Type 0 where
  clean : Settlement
  by_rule : Settlement
  by_program : Settlement

pub record Question : Type 0 where
  pub nodes : List ℕ
  pub labels : List ℕ
  pub inputs : Inputs
  pub count : ℕ
  pub settlement : Settlement
  pub results : List Part

pub data State : Type 0 where
  empty : State
  loaded : State
  running : Question → State
  answered : State

-- "The session record, and the panel book of demand 3 with it, gains the last finished answer .. The book keeps with it
-- whether its question was clean at its finish" (02, S-1): the question itself is kept, and its settlement with it
pub record Reference : Type 0 where
  pub state : State
  pub sizes : Sizes
  pub last : Option Question

pub data Reply : Type 0 where
  settled : Answer → Reference → Reply
  -- which answers are allowed, and the reference model after each
  unsettled : (Answer → Bool) → (Answer → Reference) → Reply

unfoldable pub phase : State → Phase
phase State.empty = Phase.empty
phase State.loaded = Phase.loaded
phase (State.running q) = Phase.running
phase State.answered = Phase.answered

-- what the checks read of it
abbrev pub stage_of : Reference → Stage
stage_of b = stage (phase b.state) b.sizes (is_some b.last)

-- "It starts empty"
unfoldable pub new_reference : Reference
new_reference = record { state = State.empty; sizes = record { n = 0; s = 0; k = 0 }; last = none }

unfoldable pub in_state : Reference → State → Reference
in_state b s = record { state = s; sizes = b.sizes; last = b.last }

-- "filled by the advance that finishes"
unfoldable pub finished_with : Reference → Question → Reference
finished_with b q = record { state = State.answered; sizes = b.sizes; last = some q }

-- ---- what a question's Start settles

-- document 02, S-5: "A listed node whose label equals the plan's is left out of W from now on, after superseding": what
-- is left, by Start's plan
abbrev pub left_of : Question → List ℕ
left_of q = differing (labels_within q.inputs.plan) q.nodes q.labels

-- the roots of the parts, rising
abbrev pub roots_of : Question → List ℕ
roots_of q = roots (plan_tree q.inputs.plan) (left_of q)

abbrev pub part_count : Question → ℕ
part_count q = length (roots_of q)

-- Start's plan with the listed labels changed
abbrev pub changed_tree : Question → Tree
changed_tree q = fresh-run.changed_tree q.inputs.plan q.nodes q.labels

-- what the rule reads: Start's plan and rules, and the state table of this advance
abbrev pub given_by : Sizes → Question → Inputs → Given
given_by z q x = given_of z q.inputs x q.nodes q.labels

-- one more part by the rule
unfoldable pub longer : Sizes → Question → Inputs → List Part
longer z q x = q.results ++ (part_of (given_by z q x) (roots_of q) q.results (get_or (roots_of q) (length q.results) 0) ∷ [])

-- "the root state, and its yes or no, of a fresh run (source document 002's, on Start's plan with the listed labels
-- changed), the parts, and as links the moves of its parts' climbs"; document 02 (S-7): "the total over their climbs",
-- the nodes passed over
unfoldable pub fresh_answer : Question → Answer
fresh_answer q =
    outcome_answer (fresh-run.root_state q.inputs.plan q.inputs.rules q.nodes q.labels)
    (fresh-run.root_accepted q.inputs.plan q.inputs.rules q.nodes q.labels)
    (part_count q) (question_links (plan_tree q.inputs.plan) (roots_of q)) (question_passed (plan_tree q.inputs.plan) (roots_of q))

-- what the rule of "Parts of a question" gave on the state tables given
unfoldable pub rule_answer : Question → Answer
rule_answer q =
    outcome_answer (last_state q.results 0) ((rule_automaton q.inputs.rules).accepting (last_state q.results 0)) (part_count q)
    (all_links q.results) (all_passed q.results)

-- ---- Start

-- "count 0, clean": a Start that is not refused has sound inputs
abbrev pub asked : Inputs → List ℕ → List ℕ → Question
asked x vs bs = record { nodes = vs; labels = bs; inputs = x; count = 0; settlement = clean; results = [] }

-- "Start: running, count 0, clean if sound; clean, it tells the number of parts." What is not sound was refused with 18
unfoldable pub starting : Reference → Question → Reply
starting b q = settled (parts (part_count q)) (in_state b (State.running q))

-- ---- advance

unfoldable pub advanced : Question → Settlement → List Part → Question
advanced q k ps =
    record { nodes = q.nodes; labels = q.labels; inputs = q.inputs; count = suc q.count; settlement = k; results = ps }

-- "the count rises by one. At the number of parts it tells finished and the state is answered; until then it tells
-- more."
unfoldable pub goes_further : Reference → Question → Reply
goes_further b q =
    cond (eqb q.count (part_count q)) (settled finished (finished_with b q)) (settled more (in_state b (State.running q)))

-- "Where plan and rules name the record's N, S and K and, like the 16-bit numbers, are as at Start and as built, but
-- run states and maps are any bytes below S, an advance goes on as always and stores and counts what this rule gives on
-- those bytes." What Start was given is as built
unfoldable pub other_states : Sizes → Question → Inputs → Bool
other_states z q x = same_node_inputs z q.inputs x && states_below z x

-- left to the program: more, finished or 18. 18 needs a cause in the inputs (caused), and is never given where these
-- are Start's except for state table bytes below S (usable)
unfoldable pub may_advance_with : Bool → Bool → Answer → Bool
may_advance_with usable caused a =
    on_advance true true (on_refused (λ n. eqb n 18 && (not usable && caused)) false a) a

-- "an accepted advance makes the question unclean, and its more or finished gives the state"
unfoldable pub by_answer : Reference → Question → Answer → Reference
by_answer b q a = on_advance (in_state b (State.running q)) (finished_with b q) b a

unfoldable pub advancing_by_program : Reference → Inputs → Question → Reply
advancing_by_program b x q =
    unsettled (may_advance_with (other_states b.sizes q x) (advance_cause b.sizes x q.nodes q.labels))
    (by_answer b (advanced q by_program []))

unfoldable pub advancing_by_rule : Reference → Inputs → Question → Reply
advancing_by_rule b x q =
    cond (other_states b.sizes q x) (goes_further b (advanced q by_rule (longer b.sizes q x))) (advancing_by_program b x q)

unfoldable pub advancing : Reference → Inputs → Question → Settlement → Reply
advancing b x q clean =
    cond (same_inputs b.sizes q.inputs x) (goes_further b (advanced q clean (longer b.sizes q x))) (advancing_by_rule b x q)
advancing b x q by_rule = advancing_by_rule b x q
advancing b x q by_program = advancing_by_program b x q

-- ---- Read: "if so, Read tells in every state what 01 has for that question, whatever was started or cancelled since;
-- if not, what Read tells is left to the program as far as 01 leaves it"

unfoldable pub is_outcome : Answer → Bool
is_outcome a = on_outcome (λ o. true) false a

unfoldable pub reading : Reference → Question → Settlement → Reply
reading b q clean = settled (fresh_answer q) b
reading b q by_rule = settled (rule_answer q) b
reading b q by_program = unsettled is_outcome (λ a. b)

-- of the last finished question; where there is none, check 1 refuses
unfoldable pub reading_last : Reference → Option Question → Reply
reading_last b none = settled (refused 1) b
reading_last b (some q) = reading b q q.settlement

-- ---- the step

-- the reply to a call that passed its checks (an advance may still give 18); an advance outside running never gets here
unfoldable pub proceed : Reference → State → Call → Reply
proceed b s (load x) = settled Answer.accepted (record { state = State.loaded; sizes = sizes_in x; last = none })
proceed b s (start x vs bs) = starting b (asked x vs bs)
proceed b State.empty (advance x) = settled (refused 1) b
proceed b State.loaded (advance x) = settled (refused 1) b
proceed b (State.running q) (advance x) = advancing b x q q.settlement
proceed b State.answered (advance x) = settled (refused 1) b
proceed b s cancel = settled Answer.accepted (in_state b State.loaded)
proceed b s read = reading_last b b.last

-- "One of the next section's checks, 18 apart, says no: the first such number; the book stays." Start's 18 is now one
-- of these checks
unfoldable pub decided : ℕ → Reference → Call → Reply
decided zero b c = proceed b b.state c
decided (suc n) b c = settled (refused (suc n)) b

unfoldable pub step : Reference → Call → Reply
step b c = decided (refusal (stage_of b) c) b c
