-- The session's record and its five calls, with lists for arrays.
--
-- Record == document 01's session record
-- fresh_record == that of a fresh session; loaded_record z == that after a first Load
-- with_last o r == the record r with o as its last finished answer; last_then p o l == that answer after an advance that ends in state p: o where
--   it finished, else l as before
-- left_within x vs bs == the nodes that the list, vs to bs, leaves in W on the plan of the inputs x
-- roots_in x vs == the roots of the parts of the nodes vs, on the plan of the inputs x, rising
-- stage_of r == its stage, as the refusals ask for it
-- act r c == a call on a record: the answer and the record then
-- Does r c a r' == the same as a relation
--
-- What an advance leaves to the program is defined in the questions layer: part_on; 18 where it gives none.
use Rattle.std.specs.Prelude.{ℕ, zero, suc, ◌+◌, ◌*◌, ◌≡◌, Bool, false, cond, List, [], ◌∷◌, ◌++◌, eqb, length, get_or, take, drop}
use Rattle.std.proofs.Math.Option.{Option, none, some}
use Rattle.formats.specs.Layout.{rules_head}
use Rattle.formats.specs.Plan.{plan_tree, labels_within}
use Rattle.changes.specs.Differing.{differing}
use Rattle.questions.specs.ready.Members.{roots}
use Rattle.tables.specs.declared.answers.Reached.{Reached}
use Rattle.questions.specs.Part.{part_on}
use Rattle.questions.specs.PartInputs.{view_by}
use Rattle.formats.specs.Inputs.{Inputs, Sizes, sizes_in}
use Rattle.model.specs.Calls.{Call, load, start, advance, cancel, read, Answer, refused, parts, more, finished}
use Rattle.model.specs.Calls.{Outcome, outcome, Phase, is_some}
use Rattle.model.specs.Refusals.{Stage, stage, refusal}

-- "The record holds which of the four states it is in, N, S, K, the changes as listed, the root nodes of the parts, the states of parts
-- handled so far and their number, the links so far and, once answered, the yes or no"; "gains the last finished answer" (02, S-1) and the
-- nodes passed over (02, S-7)
pub record Record : Type 0 where
  pub phase : Phase
  pub sizes : Sizes
  pub nodes : List ℕ
  pub labels : List ℕ
  pub roots : List ℕ
  pub states : List ℕ
  pub links : ℕ
  pub passed : ℕ
  pub yes : Bool
  pub last : Option Outcome

-- what the checks ask of it
abbrev pub stage_of : Record → Stage
stage_of r = stage r.phase r.sizes (is_some r.last)

pub record Acted : Type 0 where
  pub answer : Answer
  pub record' : Record

abbrev pub acted : Answer → Record → Acted
acted a r = record { answer = a; record' = r }

unfoldable pub idle : Phase → Sizes → Record
idle p z =
    record { phase = p; sizes = z; nodes = []; labels = []; roots = []; states = []; links = 0; passed = 0; yes = false; last = none }

unfoldable pub fresh_record : Record
fresh_record = idle Phase.empty (record { n = 0; s = 0; k = 0 })

-- "Load and Cancel end in loaded with the record exactly as after a first Load of that plan." Of Cancel document 02 (S-1): "it equals it in
-- all but that answer"
abbrev pub loaded_record : Sizes → Record
loaded_record z = idle Phase.loaded z

abbrev pub with_last : Option Outcome → Record → Record
with_last o r = record {
  phase = r.phase;
  sizes = r.sizes;
  nodes = r.nodes;
  labels = r.labels;
  roots = r.roots;
  states = r.states;
  links = r.links;
  passed = r.passed;
  yes = r.yes;
  last = o;
}

-- the accept marks by the record's S and K
abbrev pub marks_by : Sizes → Inputs → List ℕ
marks_by z x = take z.s (drop (rules_head + z.k + z.s * z.k * z.s) x.rules)

-- ---- Start: "running", no part state, no link

-- document 02, S-5: "A listed node whose label equals the plan's is left out of W", the plan given to Start
abbrev pub left_within : Inputs → List ℕ → List ℕ → List ℕ
left_within x vs bs = differing (labels_within x.plan) vs bs

abbrev pub roots_in : Inputs → List ℕ → List ℕ
roots_in x vs = roots (plan_tree x.plan) vs

unfoldable pub started : Sizes → List ℕ → List ℕ → List ℕ → Record
started z vs bs rs =
    record { phase = Phase.running; sizes = z; nodes = vs; labels = bs; roots = rs; states = []; links = 0; passed = 0; yes = false; last = none }

-- ---- advance: one more part state, its links and the nodes passed over

-- "the last finished answer, filled by the advance that finishes"
abbrev pub last_then : Phase → Outcome → Option Outcome → Option Outcome
last_then Phase.empty o l = l
last_then Phase.loaded o l = l
last_then Phase.running o l = l
last_then Phase.answered o l = some o

unfoldable pub stepped : Record → Phase → Reached → Bool → Record
stepped r p x y = record {
  phase = p;
  sizes = r.sizes;
  nodes = r.nodes;
  labels = r.labels;
  roots = r.roots;
  states = r.states ++ (x.state ∷ []);
  links = r.links + x.links;
  passed = r.passed + x.passed;
  yes = y;
  last = last_then p
      (record { state = x.state; yes = y; parts = length r.roots; links = r.links + x.links; passed = r.passed + x.passed })
      r.last;
}

unfoldable pub advance_with : Record → Inputs → Option Reached → Acted
advance_with r x none = acted (refused 18) r
advance_with r x (some y) =
    cond (eqb (suc (length r.states)) (length r.roots))
    (acted finished (stepped r Phase.answered y (eqb (get_or (marks_by r.sizes x) y.state 0) 1)))
    (acted more (stepped r Phase.running y false))

-- the next part of a record: its root, and the roots before it
abbrev pub part_next : Record → Inputs → Option Reached
part_next r x =
    part_on (view_by r.sizes x) (take (length r.states) r.roots) r.states r.nodes r.labels
    (get_or r.roots (length r.states) 0)

-- ---- Read: the last finished answer; where there is none, check 1 refuses it

abbrev pub last_answer : Option Outcome → Answer
last_answer none = refused 1
last_answer (some o) = outcome o

-- an answered record's own outcome: its last finished answer is that one

unfoldable pub last_of : List ℕ → ℕ → ℕ
last_of [] q = q
last_of (x ∷ xs) q = last_of xs x

abbrev pub outcome_of : Record → Outcome
outcome_of r =
    record { state = last_of r.states 0; yes = r.yes; parts = length r.roots; links = r.links; passed = r.passed }

-- ---- the calls

unfoldable pub proceeds : Record → Call → Acted
proceeds r (load x) = acted Answer.accepted (loaded_record (sizes_in x))
proceeds r (start x vs bs) =
    acted (parts (length (roots_in x (left_within x vs bs))))
    (with_last r.last (started r.sizes vs bs (roots_in x (left_within x vs bs))))
proceeds r (advance x) = advance_with r x (part_next r x)
proceeds r cancel = acted Answer.accepted (with_last r.last (loaded_record r.sizes))
proceeds r read = acted (last_answer r.last) r

-- "The first no gives its number; nothing else is returned and nothing is altered."
unfoldable pub unless : ℕ → Record → Call → Acted
unless zero r c = proceeds r c
unless (suc n) r c = acted (refused (suc n)) r

unfoldable pub act : Record → Call → Acted
act r c = unless (refusal (stage_of r) c) r c

pub record Does (r : Record) (c : Call) (a : Answer) (r' : Record) : Type 0 where
  pub tells : a ≡ (act r c).answer
  pub leaves : r' ≡ (act r c).record'
