-- Rule tables and branch tables as bytes, and their automata.
--
-- state_count r, label_count r == S and K of either header
-- rule_length s k, branch_length s k == the length of a table of s states and k labels
-- leaf_states, inner_states, rule_marks == the three runs of a rule table; branch_steps, branch_marks == the two of a branch table
-- tree_automaton s k lv inn mk, word_automaton s k st mk == the automaton of such runs; past a run's end the state is 0
-- rule_automaton r, branch_automaton r == that of the bytes
use Rattle.std.specs.Prelude.{ℕ, ◌+◌, ◌*◌, List, eqb, get_or, take, drop}
use Rattle.trees.specs.Automaton.{Automaton, WordAutomaton}
use Rattle.formats.specs.Layout.{rules_head, branch_head}
use Rattle.formats.specs.Bytes.{le32}

-- "S states, K labels, .."
abbrev pub state_count : List ℕ → ℕ
state_count r = le32 r 0

abbrev pub label_count : List ℕ → ℕ
label_count r = le32 r 4

-- ---- rule tables: "Five 32-bit numbers: S states, K labels, offsets of leaf states (20), inner states (20+K) and accept marks
-- (20+K+S×K×S). Then K bytes, the state of a leaf by label; S×K×S bytes, the state for left p, label a, right q at (p×K+a)×S+q;
-- S marks, 0 or 1. Nothing follows."

abbrev pub rule_length : ℕ → ℕ → ℕ
rule_length s k = rules_head + k + s * k * s + s

abbrev pub leaf_states : List ℕ → List ℕ
leaf_states r = take (label_count r) (drop rules_head r)

abbrev pub inner_states : List ℕ → List ℕ
inner_states r = take (state_count r * label_count r * state_count r) (drop (rules_head + label_count r) r)

abbrev pub rule_marks : List ℕ → List ℕ
rule_marks r = take (state_count r) (drop (rules_head + label_count r + state_count r * label_count r * state_count r) r)

abbrev pub tree_automaton : ℕ → ℕ → List ℕ → List ℕ → List ℕ → Automaton
tree_automaton s k lv inn mk =
    record { states = s; ι = λ a. get_or lv a 0; δ = λ p a q. get_or inn ((p * k + a) * s + q) 0; accepting = λ q. eqb (get_or mk q 0) 1 }

abbrev pub rule_automaton : List ℕ → Automaton
rule_automaton r = tree_automaton (state_count r) (label_count r) (leaf_states r) (inner_states r) (rule_marks r)

-- ---- branch tables: "Four 32-bit numbers: S, K, offsets of steps (16) and marks (16+S×K). Then S×K bytes, the state after state s
-- reads label a at s×K+a; S marks."

abbrev pub branch_length : ℕ → ℕ → ℕ
branch_length s k = branch_head + s * k + s

abbrev pub branch_steps : List ℕ → List ℕ
branch_steps r = take (state_count r * label_count r) (drop branch_head r)

abbrev pub branch_marks : List ℕ → List ℕ
branch_marks r = take (state_count r) (drop (branch_head + state_count r * label_count r) r)

abbrev pub word_automaton : ℕ → ℕ → List ℕ → List ℕ → WordAutomaton
word_automaton s k st mk = record { states = s; step = λ q a. get_or st (q * k + a) 0; accepting = λ q. eqb (get_or mk q 0) 1 }

abbrev pub branch_automaton : List ℕ → WordAutomaton
branch_automaton r = word_automaton (state_count r) (label_count r) (branch_steps r) (branch_marks r)
