-- The session's struct and document 01's record.
--
-- record_of s == the record (crate model, Model) that a struct holds: its arrays cut to their counts
-- session_of r == the struct of a record: "unused entries are zero"
-- valid s == whether a struct can be a session's: the conditions of docs/LAYOUT.md, all that can be said without plan and rules
-- whole h nodes labels roots states == the struct of a head and four arrays
-- idle_session p z l == a struct in state p, of N, S and K as in z, with no question and the last finished answer l
-- no_last == no finished answer; last_in l, last_to o == the answer that a struct's Last holds, and the Last that holds it
-- stage_in s == what the checks ask of a struct
-- LimitsAre n s k m == the session's constants have the limits' values
-- fresh_session == "a fresh session is made with nothing given": all zero
use Rattle.std.specs.Prelude.{ℕ, ◌-◌, ◌*◌, ◌≡◌, Bool, true, false, cond, not, ◌&&◌, List, [], ◌∷◌, ◌++◌, leb, ltb, eqb, length, get_or, take, drop, replicate}
use Rattle.std.proofs.Math.Option.{Option, none, some}
use Rattle.list_laws.specs.Tests.{all_below}
use Rattle.formats.specs.Limits.{node_limit, state_limit, label_limit, change_limit, part_limit, within}
use Rattle.formats.specs.Inputs.{Sizes}
use Rattle.model.specs.Calls as calls
use Rattle.model.specs.Refusals.{Stage, stage}
use Rattle.model.specs.Model.{Record}
use Rattle.session.specs.declared.answers.Outcome.{Outcome}
use Rattle.session.specs.declared.state.Last.{Last}
use Rattle.session.specs.declared.state.Phase.{Phase}
use Rattle.session.specs.declared.state.Phase.TheVariants.{Empty, Loaded, Running, Answered}
use Rattle.session.specs.declared.state.Sizes.{Sizes as HeadSizes}
use Rattle.session.specs.declared.state.Head.{Head}
use Rattle.session.specs.declared.state.Session.{Session}

unfoldable pub phase_of : Phase → calls.Phase
phase_of Empty = calls.Phase.empty
phase_of Loaded = calls.Phase.loaded
phase_of Running = calls.Phase.running
phase_of Answered = calls.Phase.answered

unfoldable pub phase_to : calls.Phase → Phase
phase_to calls.Phase.empty = Empty
phase_to calls.Phase.loaded = Loaded
phase_to calls.Phase.running = Running
phase_to calls.Phase.answered = Answered

abbrev pub sizes_of : Session → Sizes
sizes_of s = record { n = s.head.sizes.n; s = s.head.sizes.s; k = s.head.sizes.k }

-- ---- the last finished answer

abbrev pub outcome_in : Outcome → calls.Outcome
outcome_in o = record { state = o.state; yes = o.yes; parts = o.parts; links = o.links; passed = o.passed }

abbrev pub last_in : Last → Option calls.Outcome
last_in l = cond l.present (some (outcome_in l.outcome)) none

abbrev pub no_last : Last
no_last = record { present = false; outcome = record { state = 0; yes = false; parts = 0; links = 0; passed = 0 } }

abbrev pub last_to : Option calls.Outcome → Last
last_to none = no_last
last_to (some o) =
    record { present = true; outcome = record { state = o.state; yes = o.yes; parts = o.parts; links = o.links; passed = o.passed } }

abbrev pub stage_in : Session → Stage
stage_in s = stage (phase_of s.head.phase) (sizes_of s) (calls.is_some (last_in s.head.last))

-- ---- the record of a struct, and the struct of a record

unfoldable pub record_of : Session → Record
record_of s = record {
  phase = phase_of s.head.phase;
  sizes = sizes_of s;
  nodes = take s.head.m s.nodes;
  labels = take s.head.m s.labels;
  roots = take s.head.parts s.roots;
  states = take s.head.handled s.states;
  links = s.head.links;
  passed = s.head.passed;
  yes = s.head.yes;
  last = last_in s.head.last;
}

-- a list in an array of w entries, the rest zero
abbrev pub padded : ℕ → List ℕ → List ℕ
padded w l = l ++ replicate (w - length l) 0

unfoldable pub session_of : Record → Session
session_of r = record {
  head = record {
    phase = phase_to r.phase;
    yes = r.yes;
    sizes = record { n = r.sizes.n; s = r.sizes.s; k = r.sizes.k };
    m = length r.nodes;
    parts = length r.roots;
    handled = length r.states;
    links = r.links;
    passed = r.passed;
    last = last_to r.last;
  };
  nodes = padded change_limit r.nodes;
  labels = padded change_limit r.labels;
  roots = padded part_limit r.roots;
  states = padded part_limit r.states;
}

abbrev pub whole : Head → List ℕ → List ℕ → List ℕ → List ℕ → Session
whole h nodes labels roots states = record { head = h; nodes = nodes; labels = labels; roots = roots; states = states }

abbrev pub idle_session : Phase → HeadSizes → Last → Session
idle_session p z l =
    whole (record { phase = p; yes = false; sizes = z; m = 0; parts = 0; handled = 0; links = 0; passed = 0; last = l })
    (replicate change_limit 0) (replicate change_limit 0) (replicate part_limit 0) (replicate part_limit 0)

abbrev pub fresh_session : Session
fresh_session = idle_session Empty (record { n = 0; s = 0; k = 0 }) no_last

-- ---- the limits

-- "N 1 to 65,535; S 1 to 16; K 1 to 64; m, the changes in a list, 0 to 64."
pub record LimitsAre (n s k m : ℕ) : Type 0 where
  pub nodes : n ≡ node_limit
  pub states : s ≡ state_limit
  pub labels : k ≡ label_limit
  pub changes : m ≡ change_limit

-- ---- the conditions

-- strictly rising up to, and ending at, the last node
unfoldable pub rises_to : ℕ → List ℕ → Bool
rises_to last [] = false
rises_to last (x ∷ []) = eqb x last
rises_to last (x ∷ y ∷ l) = ltb x y && rises_to last (y ∷ l)

unfoldable pub zero_from : ℕ → List ℕ → Bool
zero_from i l = all_below 1 (drop i l)

unfoldable pub sizes_fit : HeadSizes → Bool
sizes_fit z = within 1 node_limit z.n && (within 1 state_limit z.s && within 1 label_limit z.k)

-- no question: nothing listed, no part, no state, no link, no node passed over, no yes
unfoldable pub no_question : Session → Bool
no_question s =
    not s.head.yes
    && (eqb s.head.m 0 && (eqb s.head.parts 0 && (eqb s.head.handled 0 && (eqb s.head.links 0
    && (eqb s.head.passed 0
    && (zero_from 0 s.nodes && (zero_from 0 s.labels && (zero_from 0 s.roots && zero_from 0 s.states))))))))

unfoldable pub list_fits : Session → Bool
list_fits s =
    leb s.head.m change_limit
    && (all_below s.head.sizes.n (take s.head.m s.nodes) && (all_below s.head.sizes.k (take s.head.m s.labels)
    && (zero_from s.head.m s.nodes && zero_from s.head.m s.labels)))

-- document 02, S-7: a climb passes over at least one node for each link, and the node table's numbers have 16 bits
unfoldable pub parts_fit : Session → Bool
parts_fit s =
    within 1 part_limit s.head.parts
    && (rises_to (s.head.sizes.n - 1) (take s.head.parts s.roots) && (zero_from s.head.parts s.roots
    && (all_below s.head.sizes.s (take s.head.handled s.states) && (zero_from s.head.handled s.states
    && (leb s.head.links s.head.passed && leb s.head.passed (node_limit * s.head.handled))))))

-- a question: its sizes, changes and parts, and no more parts handled than there are
unfoldable pub question_fits : Session → Bool
question_fits s =
    sizes_fit s.head.sizes && (list_fits s && (parts_fit s && leb s.head.handled s.head.parts))

-- no finished answer: all zero
unfoldable pub is_none : Last → Bool
is_none l =
    not l.present
    && (not l.outcome.yes && (eqb l.outcome.state 0 && (eqb l.outcome.parts 0
    && (eqb l.outcome.links 0 && eqb l.outcome.passed 0))))

-- none, or an answer of some question on S states
unfoldable pub last_question_fits : ℕ → Last → Bool
last_question_fits s l =
    cond l.present
    (ltb l.outcome.state s && (within 1 part_limit l.outcome.parts
    && (leb l.outcome.links l.outcome.passed && leb l.outcome.passed (node_limit * l.outcome.parts))))
    (is_none l)

-- two yes or no are the same
unfoldable pub same_flag : Bool → Bool → Bool
same_flag a b = cond a b (not b)

-- the record's own: the state of the last part handled, its yes or no, its parts, its links and the nodes passed over
unfoldable pub last_is_own : Session → Bool
last_is_own s =
    within 1 part_limit s.head.handled
    && (s.head.last.present && (eqb s.head.last.outcome.state (get_or s.states (s.head.handled - 1) 0)
    && (same_flag s.head.last.outcome.yes s.head.yes
    && (eqb s.head.last.outcome.parts s.head.parts && (eqb s.head.last.outcome.links s.head.links
    && eqb s.head.last.outcome.passed s.head.passed)))))

-- in each state
unfoldable pub valid_in : Phase → Session → Bool
valid_in Empty s =
    eqb s.head.sizes.n 0
    && (eqb s.head.sizes.s 0 && (eqb s.head.sizes.k 0 && (is_none s.head.last && no_question s)))
valid_in Loaded s = sizes_fit s.head.sizes && (last_question_fits s.head.sizes.s s.head.last && no_question s)
valid_in Running s =
    question_fits s
    && (last_question_fits s.head.sizes.s s.head.last && (ltb s.head.handled s.head.parts && not s.head.yes))
valid_in Answered s = question_fits s && (last_is_own s && eqb s.head.handled s.head.parts)

unfoldable pub valid : Session → Bool
valid s = valid_in s.head.phase s
