-- Two rule tables merged into one, as bytes (document 02, S-6).
--
-- rule_head s k == the 20 header bytes of a rule table of s states and k labels
-- rule_bytes s k lv inn mk == a rule table's bytes, from its counts and its three runs
-- merged_states first second == S1 × S2
-- bit b == 1 for yes, 0 for no
-- merged_automaton first second == the product of the two automata that accepts where both do
-- merged_leaf, merged_inner, merged_mark == the byte at a label, at a place of the inner run, at a state
-- merged_bytes first second == the merged table
-- merge_checks first second out == 6 to 9 for the first, 6 to 9 for the second, 23, 24, 11, in that order; out is the output's length
--
-- The inner run is indexed by i = (p × K + a) × S + q, where S is S1 × S2 and K the common count of labels.
-- The product is in products, specs/Product; that the bytes are a rule table whose run is the pair of runs is in proofs/MergedTheorem.
use Rattle.std.specs.Prelude.{ℕ, ◌+◌, ◌*◌, ◌/◌, ◌%◌, Bool, cond, ◌&&◌, List, [], ◌∷◌, ◌++◌, eqb, leb}
use Rattle.trees.specs.Automaton.{Automaton}
use Rattle.list_laws.specs.Rows.{tabulate}
use Rattle.formats.specs.Layout.{rules_head}
use Rattle.formats.specs.Bytes.{le32_bytes}
use Rattle.formats.specs.Limits.{state_limit}
use Rattle.formats.specs.Rules.{state_count, label_count, rule_length, rule_automaton}
use Rattle.formats.specs.Checks.{Check, check, rule_checks}
use Rattle.products.specs.Product.{product}

-- "Five 32-bit numbers: S states, K labels, offsets of leaf states (20), inner states (20+K) and accept marks (20+K+S×K×S)."
unfoldable pub rule_head : ℕ → ℕ → List ℕ
rule_head s k =
    le32_bytes s
    ++ (le32_bytes k ++ (le32_bytes rules_head ++ (le32_bytes (rules_head + k) ++ le32_bytes (rules_head + k + s * k * s))))

unfoldable pub rule_bytes : ℕ → ℕ → List ℕ → List ℕ → List ℕ → List ℕ
rule_bytes s k lv inn mk = rule_head s k ++ (lv ++ (inn ++ mk))

abbrev pub merged_states : List ℕ → List ℕ → ℕ
merged_states first second = state_count first * state_count second

abbrev pub bit : Bool → ℕ
bit b = cond b 1 0

-- "one table that clears exactly the plans that both clear"
abbrev pub merged_automaton : List ℕ → List ℕ → Automaton
merged_automaton first second = product ◌&&◌ (rule_automaton first) (rule_automaton second)

abbrev pub merged_leaf : List ℕ → List ℕ → ℕ → ℕ
merged_leaf first second a = (merged_automaton first second).ι a

abbrev pub merged_inner : List ℕ → List ℕ → ℕ → ℕ
merged_inner first second i =
    (merged_automaton first second).δ (i / merged_states first second / label_count first)
    (i / merged_states first second % label_count first)
    (i % merged_states first second)

abbrev pub merged_mark : List ℕ → List ℕ → ℕ → ℕ
merged_mark first second c = bit ((merged_automaton first second).accepting c)

unfoldable pub merged_bytes : List ℕ → List ℕ → List ℕ
merged_bytes first second =
    rule_bytes (merged_states first second) (label_count first) (tabulate (label_count first) (merged_leaf first second))
    (tabulate (merged_states first second * label_count first * merged_states first second) (merged_inner first second))
    (tabulate (merged_states first second) (merged_mark first second))

-- "The order of checks is 6 to 9 for the first table, 6 to 9 for the second, then 23 for unequal K, 24 when the product of the state
-- counts exceeds 16, and 11 for a short output."
unfoldable pub merge_checks : List ℕ → List ℕ → ℕ → List Check
merge_checks first second out =
    rule_checks first
    ++ (rule_checks second
    ++ (check 23 (eqb (label_count first) (label_count second))
    ∷ check 24 (leb (merged_states first second) state_limit)
    ∷ check 11 (leb (rule_length (merged_states first second) (label_count first)) out)
    ∷ []))
