-- Controls of demand 3 on plan A, computed: where the reference model must settle an answer, where it must leave it to
-- the program, and wrong answers that it turns down. A premise that is too strong (excess compared, the plan tied to
-- Load's) shows here: an answer that should be settled is left.
-- The answers are the model's (act): so that part_on is run too.
use Prim.Native.Nat.{ℕ}
use mathlib.Core.Path.{◌≡◌, refl}
use mathlib.Core.Bool.{Bool, true, false}
use mathlib.Core.List.{List, [], ◌∷◌, ◌++◌}
use mathlib.Core.Option.{Option, none, some}
use lib.ListN.{length, set, replicate}
use Rattle.formats.specs.Built.{built_node_table, built_state_table}
use Rattle.formats.specs.Inputs.{Inputs, inputs_of, sound}
use Rattle.model.specs.Calls.{Call, load, start, advance, cancel, read, Answer, refused, parts, more, finished}
use Rattle.model.specs.Calls.{outcome_answer}
use Rattle.changes.specs.Entries.{entries, nodes_listed, labels_listed, put, put_all, superseded, laid_over}
use Rattle.changes.specs.ChangedPlan.{changed_plan}
use Rattle.reference.specs.Reference.{new_reference, asked, left_of, roots_of, fresh_answer}
use Rattle.formats.specs.Plan.{plan_tree}
use Rattle.questions.specs.ready.Members.{roots}
use Rattle.questions.specs.ready.Parts.{question_links}
use Rattle.reference.specs.AgreementTest.{agreed}
use Rattle.reference.specs.Sample.{computing, plan_a, table_a, load_a, inputs_a, SampleRun, sample_run, asking, row}

-- what the reference model settles of a list of calls, all of whose answers agree
abbrev pub all : List (Option Answer) → SampleRun
all says = record { says = says; agrees = true }

-- another plan of 7 nodes, which leans left
unfoldable pub plan_b : List ℕ
plan_b = 7 ∷ 0 ∷ 0 ∷ 0 ∷ 12 ∷ 0 ∷ 0 ∷ 0 ∷ 19 ∷ 0 ∷ 0 ∷ 0 ∷ 0 ∷ 0 ∷ 0 ∷ 1 ∷ 0 ∷ 0 ∷ 0 ∷ 0 ∷ 0 ∷ 1 ∷ 0 ∷ 1 ∷ 0 ∷ 1 ∷ []

unfoldable pub inputs_b : Inputs
unfolding plan_b table_a computing
inputs_b = record { plan = plan_b; rules = table_a; node_table = built_node_table plan_b; state_table = built_state_table plan_b table_a }

-- tables with an excess
abbrev pub longer_by : Inputs → List ℕ → Inputs
longer_by x l = record { plan = x.plan; rules = x.rules; node_table = x.node_table ++ l; state_table = x.state_table ++ l }

-- one number, or one byte, of plan A's tables set to another; one label of the plan
unfoldable pub other_number : ℕ → ℕ → Inputs
unfolding inputs_a
other_number i n = record {
  plan = inputs_a.plan;
  rules = inputs_a.rules;
  node_table = set inputs_a.node_table i n;
  state_table =
      inputs_a.state_table;
}

unfoldable pub other_state : ℕ → ℕ → Inputs
unfolding inputs_a
other_state i n = record { plan = inputs_a.plan; rules = inputs_a.rules; node_table = inputs_a.node_table; state_table = set inputs_a.state_table i n }

unfoldable pub other_label : Inputs
unfolding inputs_a
other_label = record { plan = set inputs_a.plan 12 0; rules = inputs_a.rules; node_table = inputs_a.node_table; state_table = inputs_a.state_table }

abbrev pub nothing : Inputs
nothing = record { plan = []; rules = []; node_table = []; state_table = [] }

-- a Start that lists node 0; a question of it: Load, Start x, advance y, advance w, Read
unfoldable pub on_node : Inputs → Call
on_node x = start x (0 ∷ []) (0 ∷ [])

unfoldable pub on_node0 : Inputs → Inputs → Inputs → List Call
unfolding load_a on_node
on_node0 x y w = load load_a ∷ on_node x ∷ advance y ∷ advance w ∷ read ∷ []

-- ---- settled

pub clean-list : sample_run (asking [] [] 1)
    ≡ all (some Answer.accepted ∷ some (parts 1) ∷ some finished ∷ some (outcome_answer 1 true 1 0 0) ∷ [])
unfolding sample_run asking
clean-list = refl

-- "Plan, rules and tables are the panel's to alter or exchange": plan A was loaded and plan B is
-- asked on its own tables, with a changing excess. Start's 18 is not tied to Load's plan
pub exchanged-plan :
    sample_run (load load_a ∷ start (longer_by inputs_b (5 ∷ [])) (0 ∷ []) (1 ∷ []) ∷ advance (longer_by inputs_b (7 ∷ 8 ∷ 9 ∷ [])) ∷ advance inputs_b
    ∷ read ∷ [])
    ≡ all (some Answer.accepted ∷ some (parts 2) ∷ some more ∷ some finished ∷ some (outcome_answer 1 true 2 2 2) ∷ [])
unfolding sample_run load_a inputs_a inputs_b
exchanged-plan = refl

-- Start's plan decides which label is no change: 0 is node 0's label in plan B, not in plan A, which was loaded
pub own-label-at-start : sample_run (on_node0 inputs_b inputs_b inputs_b)
    ≡ all (some Answer.accepted ∷ some (parts 1) ∷ some finished ∷ some (refused 1) ∷ some (outcome_answer 1 true 1 0 0) ∷ [])
unfolding sample_run on_node0 inputs_a inputs_b
own-label-at-start = refl

-- "lent the same, excess aside"
pub changed-excess : sample_run (on_node0 (longer_by inputs_a (5 ∷ [])) (longer_by inputs_a (7 ∷ 8 ∷ 9 ∷ [])) inputs_a)
    ≡ all (some Answer.accepted ∷ some (parts 2) ∷ some more ∷ some finished ∷ some (outcome_answer 0 false 2 1 1) ∷ [])
unfolding sample_run on_node0 inputs_a
changed-excess = refl

-- 17 and 18 on other inputs, then the tables restored: "18 leaves the book as it is", and so does every refusal.
-- Number 1 is node 0's jump
pub restored : sample_run (load load_a ∷ start inputs_a (0 ∷ []) (0 ∷ []) ∷ advance inputs_a ∷ advance (other_number 1 60000)
    ∷ advance nothing
    ∷ advance inputs_a ∷ read ∷ [])
    ≡ all (some Answer.accepted ∷ some (parts 2) ∷ some more ∷ none ∷ some (refused 17) ∷ some finished
    ∷ some (outcome_answer 0 false 2 1 1) ∷ [])
unfolding sample_run other_number load_a inputs_a
restored = refl

-- other bytes below S: settled by the rule, on those bytes. Byte 1 is node 0's map at state 0; a fresh run has 0 no
pub other-states : sample_run (on_node0 inputs_a inputs_a (other_state 1 1))
    ≡ all (some Answer.accepted ∷ some (parts 2) ∷ some more ∷ some finished ∷ some (outcome_answer 1 true 2 1 1) ∷ [])
unfolding sample_run on_node0 inputs_a other_state
other-states = refl

-- Start's 18: bytes below S and not, numbers in range and out of range, another label; then the tables as built
pub other-at-start :
    sample_run (load load_a ∷ on_node (other_state 1 1) ∷ on_node (other_state 1 2) ∷ on_node (other_state 20 0) ∷ on_node (other_number 1 6)
    ∷ on_node (other_number 1 60000) ∷ on_node other_label ∷ advance inputs_a ∷ on_node inputs_a ∷ [])
    ≡ all (some Answer.accepted ∷ some (refused 18) ∷ some (refused 18) ∷ some (refused 18) ∷ some (refused 18)
    ∷ some (refused 18) ∷ some (refused 18) ∷ some (refused 1) ∷ some (parts 2) ∷ [])
unfolding sample_run load_a inputs_a on_node other_state other_number other_label
other-at-start = refl

-- 18 is the last of Start's checks: 17 and 12 to 14 come before it; a node listed twice fails none of them
pub eighteen-last :
    sample_run (load load_a ∷ start nothing [] [] ∷ start (other_state 1 1) (0 ∷ []) [] ∷ start (other_state 1 1) (7 ∷ []) (0 ∷ [])
    ∷ start (other_state 1 1) (0 ∷ []) (2 ∷ []) ∷ start (other_state 1 1) (0 ∷ 0 ∷ []) (0 ∷ 1 ∷ []) ∷ start (other_state 1 1) [] [] ∷ [])
    ≡ all (some Answer.accepted ∷ some (refused 17) ∷ some (refused 12) ∷ some (refused 13) ∷ some (refused 14)
    ∷ some (refused 18) ∷ some (refused 18) ∷ [])
unfolding sample_run load_a inputs_a other_state
eighteen-last = refl

-- rules of equal length, 27 bytes, that name another S and K: S 1 and K 3 for a record of S 2 and K 1. They are sound
-- for their own
unfoldable pub plan_one : List ℕ
plan_one = 1 ∷ 0 ∷ 0 ∷ 0 ∷ 12 ∷ 0 ∷ 0 ∷ 0 ∷ 13 ∷ 0 ∷ 0 ∷ 0 ∷ 0 ∷ 0 ∷ []

unfoldable pub rules_of21 : List ℕ
rules_of21 =
    2 ∷ 0 ∷ 0 ∷ 0 ∷ 1 ∷ 0 ∷ 0 ∷ 0 ∷ 20 ∷ 0 ∷ 0 ∷ 0 ∷ 21 ∷ 0 ∷ 0 ∷ 0 ∷ 25 ∷ 0 ∷ 0 ∷ 0
    ∷ 1 ∷ 0 ∷ 1 ∷ 1 ∷ 0 ∷ 0 ∷ 1 ∷ []

unfoldable pub rules_of13 : List ℕ
rules_of13 =
    1 ∷ 0 ∷ 0 ∷ 0 ∷ 3 ∷ 0 ∷ 0 ∷ 0 ∷ 20 ∷ 0 ∷ 0 ∷ 0 ∷ 23 ∷ 0 ∷ 0 ∷ 0 ∷ 26 ∷ 0 ∷ 0 ∷ 0
    ∷ 0 ∷ 0 ∷ 0 ∷ 0 ∷ 0 ∷ 0 ∷ 1 ∷ []

-- plan and tables of one node, with an excess of one byte
unfoldable pub of_one : List ℕ → Inputs
unfolding plan_one computing
of_one rules = inputs_of plan_one rules (built_node_table plan_one) (built_state_table plan_one rules ++ (0 ∷ []))

pub other-counts :
    (sample_run (load (of_one rules_of21) ∷ start (of_one rules_of13) [] [] ∷ start (of_one rules_of21) [] [] ∷ [])
    ≡ all (some Answer.accepted ∷ some (refused 18) ∷ some (parts 1) ∷ []))
    × (sound (record { n = 1; s = 1; k = 3 }) (of_one rules_of13) ≡ true)
unfolding sample_run of_one rules_of21 rules_of13
other-counts = (refl, refl)

-- a call in the wrong state, a Cancel, and a Start from answered
pub wrong-state : sample_run (read ∷ cancel ∷ load load_a ∷ advance inputs_a ∷ start inputs_a [] [] ∷ load load_a
    ∷ start inputs_a [] [] ∷ cancel
    ∷ start inputs_a [] [] ∷ advance inputs_a ∷ read ∷ start inputs_a (6 ∷ []) (0 ∷ []) ∷ read ∷ [])
    ≡ all (some (refused 1) ∷ some (refused 1) ∷ some Answer.accepted ∷ some (refused 1) ∷ some (parts 1)
    ∷ some (refused 1)
    ∷ some (refused 1) ∷ some Answer.accepted ∷ some (parts 1) ∷ some finished ∷ some (outcome_answer 1 true 1 0 0)
    ∷ some (parts 1) ∷ some (outcome_answer 1 true 1 0 0) ∷ [])
unfolding sample_run load_a inputs_a
wrong-state = refl

-- two faults at once: the first failing check in the text's order, 17 before 12, all of 13 before 14
pub first-no : sample_run (load load_a ∷ start load_a (7 ∷ []) (2 ∷ []) ∷ start nothing (7 ∷ []) [] ∷ start inputs_a (7 ∷ []) []
    ∷ start inputs_a (0 ∷ 7 ∷ []) (2 ∷ 0 ∷ []) ∷ start inputs_a (0 ∷ 0 ∷ []) (0 ∷ 2 ∷ []) ∷ start inputs_a (replicate 65 0)
    (replicate 65 0) ∷ [])
    ≡ all (some Answer.accepted ∷ some (refused 13) ∷ some (refused 17) ∷ some (refused 12)
    ∷ some (refused 13) ∷ some (refused 14) ∷ some (refused 12) ∷ [])
unfolding sample_run load_a inputs_a
first-no = refl

-- a Start refused with 18 leaves the old question, still clean. Number 13 is node 3's jump
pub refused-start : sample_run (asking [] [] 1 ++ (start (other_number 13 60000) (0 ∷ 3 ∷ []) (0 ∷ 0 ∷ []) ∷ read ∷ []))
    ≡ all (some Answer.accepted ∷ some (parts 1) ∷ some finished ∷ some (outcome_answer 1 true 1 0 0)
    ∷ some (refused 18) ∷ some (outcome_answer 1 true 1 0 0) ∷ [])
unfolding sample_run asking other_number load_a inputs_a
refused-start = refl

-- ---- left to the program, and agreed

-- an accepted advance on other numbers, or on another plan: unclean from then on, its Read too
pub unsettled-advance :
    (sample_run (on_node0 inputs_a (other_number 1 6) inputs_a)
    ≡ all (some Answer.accepted ∷ some (parts 2) ∷ none ∷ none ∷ none ∷ []))
    × (sample_run (on_node0 inputs_a inputs_a other_label)
    ≡ all (some Answer.accepted ∷ some (parts 2) ∷ some more ∷ none ∷ none ∷ []))
unfolding sample_run on_node0 inputs_a other_number other_label
unsettled-advance = (refl, refl)

-- a byte of S or above in an advance
pub unsettled-byte : sample_run (on_node0 inputs_a inputs_a (other_state 1 2))
    ≡ all (some Answer.accepted ∷ some (parts 2) ∷ some more ∷ none ∷ some (refused 1) ∷ [])
unfolding sample_run on_node0 inputs_a other_state
unsettled-byte = refl

-- ---- answers that the reference model turns down

unfoldable pub judged : List Answer → Bool
unfolding computing on_node0 inputs_a
judged xs = agreed new_reference (on_node0 inputs_a inputs_a inputs_a) xs

-- the answers; a wrong state, links, nodes passed over, parts; finished too early; 18 on sound inputs; a Load turned
-- down; an answer missing
pub turned_down :
    judged (Answer.accepted ∷ parts 2 ∷ more ∷ finished ∷ outcome_answer 0 false 2 1 1 ∷ [])
    ∷ judged (Answer.accepted ∷ parts 2 ∷ more ∷ finished ∷ outcome_answer 1 true 2 1 1 ∷ [])
    ∷ judged (Answer.accepted ∷ parts 2 ∷ more ∷ finished ∷ outcome_answer 0 false 2 0 1 ∷ [])
    ∷ judged (Answer.accepted ∷ parts 2 ∷ more ∷ finished ∷ outcome_answer 0 false 2 1 0 ∷ [])
    ∷ judged (Answer.accepted ∷ parts 1 ∷ more ∷ finished ∷ outcome_answer 0 false 1 1 1 ∷ [])
    ∷ judged (Answer.accepted ∷ parts 2 ∷ finished ∷ refused 1 ∷ outcome_answer 0 false 2 1 1 ∷ [])
    ∷ judged (Answer.accepted ∷ refused 18 ∷ refused 1 ∷ refused 1 ∷ refused 1 ∷ [])
    ∷ judged (refused 2 ∷ refused 1 ∷ refused 1 ∷ refused 1 ∷ refused 1 ∷ [])
    ∷ judged (Answer.accepted ∷ parts 2 ∷ more ∷ finished ∷ [])
    ∷ []
    ≡ true ∷ false ∷ false ∷ false ∷ false ∷ false ∷ false ∷ false ∷ false ∷ []
unfolding judged
turned_down = refl

-- the last advance on other bytes: what the rule gives; a fresh run's state; links reckoned and not followed; 18
unfoldable pub judged_states : List Answer → Bool
unfolding computing on_node0 inputs_a other_state
judged_states xs = agreed new_reference (on_node0 inputs_a inputs_a (other_state 1 1)) (Answer.accepted ∷ parts 2 ∷ more ∷ xs)

pub turned-down-states :
    judged_states (finished ∷ outcome_answer 1 true 2 1 1 ∷ []) ∷ judged_states (finished ∷ outcome_answer 0 false 2 1 1 ∷ [])
    ∷ judged_states (finished ∷ outcome_answer 1 true 2 0 0 ∷ []) ∷ judged_states (refused 18 ∷ refused 1 ∷ []) ∷ []
    ≡ true ∷ false ∷ false ∷ false ∷ []
unfolding judged_states
turned-down-states = refl

-- in a question that an accepted advance on another plan made unclean, the tables given as at Start again: more
-- or finished, never 18
unfoldable pub judged_unsettled : List Answer → Bool
unfolding computing on_node0 inputs_a other_label
judged_unsettled xs = agreed new_reference (on_node0 inputs_a other_label inputs_a) (Answer.accepted ∷ parts 2 ∷ more ∷ xs)

pub turned-down-unsettled :
    judged_unsettled (finished ∷ outcome_answer 1 true 9 9 9 ∷ []) ∷ judged_unsettled (more ∷ refused 1 ∷ []) ∷ judged_unsettled
    (refused 18 ∷ refused 1 ∷ [])
    ∷ judged_unsettled (refused 17 ∷ refused 1 ∷ []) ∷ []
    ≡ true ∷ true ∷ false ∷ false ∷ []
unfolding judged_unsettled
turned-down-unsettled = refl

-- a Start on sound tables that is refused, and Starts on others that are accepted: a number, a byte below S, another
-- label
unfoldable pub judged_start : Inputs → Answer → Bool
unfolding computing load_a on_node
judged_start x a = agreed new_reference (load load_a ∷ on_node x ∷ []) (Answer.accepted ∷ a ∷ [])

pub start-turned-down :
    judged_start inputs_a (parts 2) ∷ judged_start inputs_a (refused 18) ∷ judged_start (other_number 1 6) (refused 18)
    ∷ judged_start (other_number 1 6) (parts 2) ∷ judged_start (other_state 1 1) (parts 2) ∷ judged_start other_label (parts 2) ∷ []
    ≡ true ∷ false ∷ true ∷ false ∷ false ∷ false ∷ []
unfolding judged_start other_number other_state other_label inputs_a
start-turned-down = refl

-- an advance's 18 without a cause: on another label, which is in range; with a cause it is allowed: a jump outside the
-- plan
unfoldable pub judged_advance : Inputs → Answer → Bool
unfolding computing load_a inputs_a on_node
judged_advance x a =
    agreed new_reference (load load_a ∷ on_node inputs_a ∷ advance x ∷ []) (Answer.accepted ∷ parts 2 ∷ a ∷ [])

pub turned-down-causeless :
    judged_advance other_label (refused 18) ∷ judged_advance other_label more ∷ judged_advance (other_number 1 60000) (refused 18) ∷ []
    ≡ false ∷ true ∷ true ∷ []
unfolding judged_advance other_number other_label inputs_a
turned-down-causeless = refl

-- ---- parts and links of S-12's two questions (OverTheorem)

-- plan A changed by 0 → 0, with its own tables
unfoldable pub changed_a : Inputs
unfolding plan_a table_a computing changed_plan
changed_a = record {
  plan = changed_plan plan_a (0 ∷ []) (0 ∷ []);
  rules = table_a;
  node_table = built_node_table (changed_plan plan_a (0 ∷ []) (0 ∷ []));
  state_table = built_state_table (changed_plan plan_a (0 ∷ []) (0 ∷ [])) table_a;
}

-- 4 → 0 on it, and 4 → 0 laid over 0 → 0 on plan A itself: the same state and yes or no, other parts and links
pub parts-differ :
    (fresh_answer (asked changed_a (4 ∷ []) (0 ∷ [])) ≡ outcome_answer 0 false 2 1 1)
    × (fresh_answer (asked inputs_a (nodes_listed (laid_over (entries (0 ∷ []) (0 ∷ [])) (entries (4 ∷ []) (0 ∷ []))))
    (labels_listed (laid_over (entries (0 ∷ []) (0 ∷ [])) (entries (4 ∷ []) (0 ∷ []))))) ≡ outcome_answer 0 false 5 0 0)
unfolding changed_a inputs_a computing entries nodes_listed labels_listed put put_all superseded laid_over
parts-differ = (refl, refl)

-- a node listed twice: what Reads return is that of its last entry, for any first one
pub last_entry : (row (0 ∷ 0 ∷ []) (0 ∷ 1 ∷ []) 1 ≡ row (0 ∷ []) (1 ∷ []) 1) × (row (0 ∷ 0 ∷ []) (1 ∷ 0 ∷ []) 2 ≡ row (0 ∷ []) (0 ∷ []) 2)
unfolding row
last_entry = (refl, refl)

-- ---- changes that change nothing (document 02, S-5)

-- the parts and links of a question, and those that it would have with all listed nodes in W
abbrev pub with_left : Inputs → List ℕ → List ℕ → List ℕ
with_left x vs bs = let ms = roots_of (asked x vs bs) in length ms ∷ question_links (plan_tree x.plan) ms ∷ []

abbrev pub with_listed : Inputs → List ℕ → List ℕ
with_listed x vs = let ms = roots (plan_tree x.plan) vs in length ms ∷ question_links (plan_tree x.plan) ms ∷ []

-- plans of five nodes, kinds 0 0 0 1 1
unfoldable pub plan_five : List ℕ → List ℕ
plan_five ls = 5 ∷ 0 ∷ 0 ∷ 0 ∷ 12 ∷ 0 ∷ 0 ∷ 0 ∷ 17 ∷ 0 ∷ 0 ∷ 0 ∷ (ls ++ (0 ∷ 0 ∷ 0 ∷ 1 ∷ 1 ∷ []))

unfoldable pub inputs_five : List ℕ → Inputs
unfolding plan_five table_a computing
inputs_five ls = inputs_of (plan_five ls) table_a (built_node_table (plan_five ls)) (built_state_table (plan_five ls) table_a)

-- "links may go either way": labels 0 0 0 1 0 with 2 to 1 and 3 to 1, its own label, have a link more than without S-5,
-- and fewer parts; labels 0 1 1 0 0 with 2 to 1, its own, have one less
pub links-either-way :
    (with_listed (inputs_five (0 ∷ 0 ∷ 0 ∷ 1 ∷ 0 ∷ [])) (2 ∷ 3 ∷ []) ≡ 3 ∷ 0 ∷ [])
    × (with_left (inputs_five (0 ∷ 0 ∷ 0 ∷ 1 ∷ 0 ∷ [])) (2 ∷ 3 ∷ []) (1 ∷ 1 ∷ []) ≡ 2 ∷ 1 ∷ [])
    × (with_listed (inputs_five (0 ∷ 1 ∷ 1 ∷ 0 ∷ 0 ∷ [])) (2 ∷ []) ≡ 2 ∷ 1 ∷ [])
    × (with_left (inputs_five (0 ∷ 1 ∷ 1 ∷ 0 ∷ 0 ∷ [])) (2 ∷ []) (1 ∷ []) ≡ 1 ∷ 0 ∷ [])
unfolding inputs_five plan_five computing
links-either-way = (refl, refl, refl, refl)

-- a node that is left out may still root a part: node 5 of plan A, with its own label, is the common ancestor of 3 and
-- 4
pub left-out-rooting :
    (roots_of (asked inputs_a (3 ∷ 4 ∷ 5 ∷ []) (1 ∷ 0 ∷ 0 ∷ [])) ≡ 3 ∷ 4 ∷ 5 ∷ 6 ∷ [])
    × (left_of (asked inputs_a (3 ∷ 4 ∷ 5 ∷ []) (1 ∷ 0 ∷ 0 ∷ [])) ≡ 3 ∷ 4 ∷ [])
unfolding inputs_a computing
left-out-rooting = (refl, refl)
