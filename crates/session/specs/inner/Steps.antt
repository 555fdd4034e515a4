-- The structs that Start and advance make, field by field.
--
-- ListArgs vs bs == two lists of one length that fit the record
-- started_of z o vs bs parts roots == a session of sizes z in running with this question, no part handled, and the last finished answer o
-- not_started s r == a refusal of Start, and the record s as it was
-- NextArgs s == the counts are within the arrays
-- StepArgs h l d == there is room for one more state, and the links and the nodes passed over fit
-- marks_in s k rules == the accept marks by S and K; marked_in s k rules q == whether that of state q is 1; MarkArgs rules s k q == the
--   rules' length is exact, and q is a state
-- stepped_head h p l d y o == head h in state p with one more part handled, of l links and d nodes passed over, the yes or no y and the last
--   finished answer o
-- answer_of h q l d y == the answer of a head whose last part has state q, l links and d nodes passed over
-- step_by h rules q l d == the step of an advance where the part's state is q, its links are l and d nodes passed over; HandleArgs what it
--   asks
-- refused_step h r == the step of a refusal
-- step_on s t == the record that step t makes of s
-- stores_by a == whether an advance that answers a stores a state: unless it is refused
-- StepFound s c t == the step is that of call c on struct s
use Rattle.std.specs.Prelude.{ℕ, ◌+◌, ◌*◌, ◌≤◌, ◌<◌, ◌≡◌, Bool, true, false, cond, List, eqb, length, get_or, take, drop, replicate, set}
use Rattle.formats.specs.Layout.{rules_head}
use Rattle.formats.specs.Limits.{node_limit, state_limit, label_limit, change_limit, part_limit}
use Rattle.formats.specs.Rules.{rule_length}
use Rattle.std.specs.Prelude.{Result, Ok, Err}
use Rattle.formats.specs.declared.refusals.Refusal.{Refusal}
use Rattle.session.specs.declared.answers.Progress.{Progress}
use Rattle.session.specs.declared.answers.Progress.TheVariants.{More, Finished}
use Rattle.session.specs.declared.state.Phase.{Phase}
use Rattle.session.specs.declared.state.Phase.TheVariants.{Running, Answered}
use Rattle.session.specs.declared.answers.AdvanceStep.{AdvanceStep}
use Rattle.session.specs.declared.answers.Started.{Started}
use Rattle.session.specs.declared.state.Sizes.{Sizes}
use Rattle.session.specs.declared.state.Last.{Last}
use Rattle.session.specs.declared.state.Head.{Head}
use Rattle.session.specs.declared.state.Session.{Session}
use Rattle.session.specs.Records.{whole, padded}
use Rattle.model.specs.Calls.{Call}
use Rattle.session.specs.Answers.{advance_answer}
use Rattle.session.specs.Promises.{CallDone}

pub record ListArgs (vs bs : List ℕ) : Type 0 where
  pub few : length vs ≤ change_limit
  pub few_labels : length bs ≤ change_limit

abbrev pub started_of : Sizes → Last → List ℕ → List ℕ → ℕ → List ℕ → Session
started_of z o vs bs parts roots =
    whole (record { phase = Running; yes = false; sizes = z; m = length vs; parts = parts; handled = 0; links = 0; passed = 0; last = o })
    (padded change_limit vs) (padded change_limit bs) roots (replicate part_limit 0)

abbrev pub not_started : Session → Refusal → Started
not_started s r = record { answer = Err r; session = s }

pub record NextArgs (s : Session) : Type 0 where
  pub few : s.head.m ≤ length s.nodes
  pub few_labels : s.head.m ≤ length s.labels
  pub few_parts : s.head.parts ≤ length s.roots
  pub few_handled : s.head.handled ≤ length s.states

pub record StepArgs (h : Head) (l d : ℕ) : Type 0 where
  pub room : h.handled < part_limit
  pub links_fit : h.links + l ≤ part_limit * node_limit
  pub passed_fit : h.passed + d ≤ part_limit * node_limit

pub record MarkArgs (rules : List ℕ) (s k q : ℕ) : Type 0 where
  pub exact : length rules ≡ rule_length s k
  pub states_most : s ≤ state_limit
  pub labels_most : k ≤ label_limit
  pub state : q < s

abbrev pub marks_in : ℕ → ℕ → List ℕ → List ℕ
marks_in s k rules = take s (drop (rules_head + k + s * k * s) rules)

abbrev pub marked_in : ℕ → ℕ → List ℕ → ℕ → Bool
marked_in s k rules q = eqb (get_or (marks_in s k rules) q 0) 1

pub record HandleArgs (h : Head) (rules : List ℕ) (q l d : ℕ) : Type 0 where
  pub marks : MarkArgs rules h.sizes.s h.sizes.k q
  pub step : StepArgs h l d

abbrev pub stepped_head : Head → Phase → ℕ → ℕ → Bool → Last → Head
stepped_head h p l d y o = record {
  phase = p;
  yes = y;
  sizes = h.sizes;
  m = h.m;
  parts = h.parts;
  handled = h.handled + 1;
  links = h.links + l;
  passed = h.passed + d;
  last = o;
}

-- "filled by the advance that finishes"
abbrev pub answer_of : Head → ℕ → ℕ → ℕ → Bool → Last
answer_of h q l d y = record {
  present = true;
  outcome = record { state = q; yes = y; parts = h.parts; links = h.links + l; passed = h.passed + d };
}

abbrev pub finished_head : Head → ℕ → ℕ → ℕ → Bool → Head
finished_head h q l d y = stepped_head h Answered l d y (answer_of h q l d y)

unfoldable pub step_by : Head → List ℕ → ℕ → ℕ → ℕ → AdvanceStep
step_by h rules q l d =
    cond (eqb (h.handled + 1) h.parts)
    (record { answer = Ok Finished; head = finished_head h q l d (marked_in h.sizes.s h.sizes.k rules q); stored = true; state = q })
    (record { answer = Ok More; head = stepped_head h Running l d false h.last; stored = true; state = q })

abbrev pub refused_step : Head → Refusal → AdvanceStep
refused_step h r = record { answer = Err r; head = h; stored = false; state = 0 }

abbrev pub step_on : Session → AdvanceStep → Session
step_on s t =
    whole t.head s.nodes s.labels s.roots
    (cond t.stored (set s.states s.head.handled t.state) s.states)

abbrev pub stores_by : Result Progress Refusal → Bool
stores_by (Ok p) = true
stores_by (Err r) = false

-- the step is that of the call, it stores a state unless it is refused, and there is room for it
pub record StepFound (s : Session) (c : Call) (t : AdvanceStep) : Type 0 where
  pub done : CallDone s c (advance_answer t.answer) (step_on s t)
  pub stores : t.stored ≡ stores_by t.answer
  pub room : t.stored ≡ true → s.head.handled < part_limit
