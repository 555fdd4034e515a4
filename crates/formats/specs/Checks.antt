-- The checks of each call, by number and in order.
--
-- Check == a number and whether the check of that number passes
-- first_no cs == the number of the first check that fails; 0 where none does
-- plan_checks p == 2 to 5; rule_checks r, branch_checks r == 6 to 9; label_check == 10; room_check == 11; list_checks == 12 to 14
-- rule_table_checks p r, branch_table_checks p r == 2 to 10
-- build_checks, branch_build_checks == 2 to 11: those of the builds and of the full checks
-- fresh_run_checks == 2 to 10, then 12 to 14
-- node_table_length n, state_table_length n s == what n nodes and s states need of the two table buffers
--
-- Not here: 1 (the session), 16 and 18 (the branch question and the questions layer), 17 (Buffers).
use Rattle.std.specs.Prelude.{ℕ, ◌+◌, ◌*◌, Bool, cond, ◌&&◌, List, [], ◌∷◌, ◌++◌, leb, eqb, length}
use Rattle.trees.specs.Postorder.{is_postorder}
use Rattle.formats.specs.Layout.{plan_head, rules_head, branch_head, node_columns}
use Rattle.formats.specs.Bytes.{le32}
use Rattle.list_laws.specs.Tests.{all_below}
use Rattle.formats.specs.Limits.{node_limit, state_limit, label_limit, change_limit, within}
use Rattle.formats.specs.Plan.{node_count, plan_length, labels_within, kinds_in}
use Rattle.formats.specs.Rules.{state_count, label_count, rule_length, leaf_states, inner_states, rule_marks, branch_length, branch_steps, branch_marks}

pub record Check : Type 0 where
  pub number : ℕ
  pub passes : Bool

abbrev pub check : ℕ → Bool → Check
check n b = record { number = n; passes = b }

-- "The first no gives its number"
unfoldable pub first_no : List Check → ℕ
first_no [] = 0
first_no (c ∷ cs) = cond c.passes (first_no cs) c.number

-- "plan of at least 12 bytes? 2; N in its limits? 3; offsets and length exact? 4; kinds 0 or 1, two trees waiting at each inner node,
-- one at the end? 5"
unfoldable pub plan_checks : List ℕ → List Check
plan_checks p =
    check 2 (leb plan_head (length p))
    ∷ check 3 (within 1 node_limit (node_count p))
    ∷ check 4 (eqb (le32 p 4) plan_head && (eqb (le32 p 8) (plan_head + node_count p) && eqb (length p) (plan_length (node_count p))))
    ∷ check 5 (is_postorder (kinds_in p))
    ∷ []

-- "rule table of at least 20 bytes (branch: 16)? 6; S and K in limits? 7; offsets and length exact? 8; every state below S and mark
-- 0 or 1? 9"
unfoldable pub rule_checks : List ℕ → List Check
rule_checks r =
    check 6 (leb rules_head (length r))
    ∷ check 7 (within 1 state_limit (state_count r) && within 1 label_limit (label_count r))
    ∷ check 8 (eqb (le32 r 8) rules_head
    && (eqb (le32 r 12) (rules_head + label_count r)
    && (eqb (le32 r 16) (rules_head + label_count r + state_count r * label_count r * state_count r)
    && eqb (length r) (rule_length (state_count r) (label_count r)))))
    ∷ check 9 (all_below (state_count r) (leaf_states r) && (all_below (state_count r) (inner_states r) && all_below 2 (rule_marks r)))
    ∷ []

unfoldable pub branch_checks : List ℕ → List Check
branch_checks r =
    check 6 (leb branch_head (length r))
    ∷ check 7 (within 1 state_limit (state_count r) && within 1 label_limit (label_count r))
    ∷ check 8 (eqb (le32 r 8) branch_head
    && (eqb (le32 r 12) (branch_head + state_count r * label_count r) && eqb (length r) (branch_length (state_count r) (label_count r))))
    ∷ check 9 (all_below (state_count r) (branch_steps r) && all_below 2 (branch_marks r))
    ∷ []

-- "every plan label below K? 10"
abbrev pub label_check : List ℕ → ℕ → Check
label_check p k = check 10 (all_below k (labels_within p))

abbrev pub node_table_length : ℕ → ℕ
node_table_length n = n * node_columns

abbrev pub state_table_length : ℕ → ℕ → ℕ
state_table_length n s = n * (s + 1)

-- "both table buffers long enough? 11"
abbrev pub room_check : ℕ → ℕ → ℕ → ℕ → Check
room_check n s node_table state_table = check 11 (leb (node_table_length n) node_table && leb (state_table_length n s) state_table)

-- "node and label lists of one length, at most 64? 12; nodes below N? 13; labels below K? 14". 01's 15 ("no node twice?") is not
-- asked since document 02, S-4: "A list may now name a node several times and the last entry holds." All three are asked of the list
-- as listed, of an entry that a later one supersedes too
unfoldable pub list_checks : ℕ → ℕ → List ℕ → List ℕ → List Check
list_checks n k vs bs =
    check 12 (eqb (length vs) (length bs) && leb (length vs) change_limit)
    ∷ check 13 (all_below n vs)
    ∷ check 14 (all_below k bs)
    ∷ []

unfoldable pub rule_table_checks : List ℕ → List ℕ → List Check
rule_table_checks p r = plan_checks p ++ (rule_checks r ++ (label_check p (label_count r) ∷ []))

unfoldable pub branch_table_checks : List ℕ → List ℕ → List Check
branch_table_checks p r = plan_checks p ++ (branch_checks r ++ (label_check p (label_count r) ∷ []))

-- the last two arguments are the lengths of the two table buffers
unfoldable pub build_checks : List ℕ → List ℕ → ℕ → ℕ → List Check
build_checks p r node_table state_table = rule_table_checks p r ++ (room_check (node_count p) (state_count r) node_table state_table ∷ [])

unfoldable pub branch_build_checks : List ℕ → List ℕ → ℕ → ℕ → List Check
branch_build_checks p r node_table state_table = branch_table_checks p r ++ (room_check (node_count p) (state_count r) node_table state_table ∷ [])

-- "the fresh run 2 to 10, then 12 to 15", of which S-4 leaves 12 to 14
unfoldable pub fresh_run_checks : List ℕ → List ℕ → List ℕ → List ℕ → List Check
fresh_run_checks p r vs bs = rule_table_checks p r ++ list_checks (node_count p) (label_count r) vs bs
