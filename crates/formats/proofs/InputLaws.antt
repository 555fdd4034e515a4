-- Inputs that pass all the checks of a call: the plan and a table, with room for the tables or with a list of changes.
--     ListPasses n k vs bs        what 12 to 14 say, by name; list-passes, passes-list: exactly where none fails
--     rule-table-passes, passes-rule-table       2 to 10 for a rule table; branch-table-passes, passes-branch-table for a branch table
--     build-passes, passes-build                 2 to 11; branch-build-passes, passes-branch-build
--     fresh-run-passes, passes-fresh-run         2 to 10, then 12 to 14
--     label_below                 every label of the plan is below K, at every index: past the end it is 0
--     build-table, branch-build-table, fresh-run-table
--                                 where 2 to 11, or 2 to 14, pass, 2 to 10 do
use Prim.Native.Nat.{ℕ, ◌≤◌, ◌<◌}
use mathlib.Core.Path.{◌≡◌, ◌∙◌}
use mathlib.Core.Bool.{true}
use mathlib.Core.List.{List, [], ◌∷◌, ◌++◌}
use native.Mathlib.Omega.{arith}
use lib.Dec.{leb, eqb}
use lib.ListN.{length, get_or}
use borrow.Author.Tests.{leb-true, le-leb}
use Rattle.list_laws.specs.Tests.{all_below}
use Rattle.formats.specs.Limits.{change_limit}
use Rattle.formats.specs.Plan.{node_count, labels_within}
use Rattle.formats.specs.Rules.{state_count, label_count}
use Rattle.formats.specs.Checks.{Check, first_no, plan_checks, rule_checks, branch_checks, label_check, room_check, list_checks}
use Rattle.formats.specs.Checks.{node_table_length, state_table_length, rule_table_checks, branch_table_checks}
use Rattle.formats.specs.Checks.{build_checks, branch_build_checks, fresh_run_checks}
use Rattle.formats.specs.inner.InnerChecks.{lists_fit, room_fits}
use Rattle.formats.proofs.CheckLaws.{Numbered, numbered-append, first_no-none, first_no-yes, first_no-head}
use Rattle.formats.proofs.CheckLaws.{first_no-append-zero, first_no-append-left, first_no-append-right}
use Rattle.list_laws.proofs.BoolLaws.{and_both, and_left, and_right}
use Rattle.list_laws.proofs.TestLaws.{all_below-all}
use Rattle.formats.proofs.FourChecks.{three-pass, pass-three}
use Rattle.formats.proofs.PlanLaws.{plan-passes, passes-plan, plan-numbered, same_left, same-both}
use Rattle.formats.specs.Passing.{PlanPasses}
use Rattle.formats.proofs.RuleLaws.{RulesPass, rules-pass, pass-rules, rules-numbered}
use Rattle.formats.proofs.BranchLaws.{BranchPasses, branch-passes, passes-branch, branch-numbered}

-- ---- lists of changes

pub record ListPasses (n k : ℕ) (vs bs : List ℕ) : Type 0 where
  pub lengths : length vs ≡ length bs
  pub most : length vs ≤ 64
  pub nodes-below : all_below n vs ≡ true
  pub labels_below : all_below k bs ≡ true

module _ (n k : ℕ) (vs bs : List ℕ) where
  pub list-passes : first_no (list_checks n k vs bs) ≡ 0 → ListPasses n k vs bs
  unfolding list_checks
  list-passes e =
      let q : (lists_fit vs bs ≡ true) × (all_below n vs ≡ true) × (all_below k bs ≡ true) =
      three-pass 11 12 13 (lists_fit vs bs) (all_below n vs) (all_below k bs) e in
      record {
        lengths = same_left (length vs) (length bs) (leb (length vs) change_limit) q.0;
        most = leb-true (length vs) change_limit (and_right (eqb (length vs) (length bs)) (leb (length vs) change_limit) q.0);
        nodes-below = q.1;
        labels_below = q.2;
      }

  pub passes-list : ListPasses n k vs bs → first_no (list_checks n k vs bs) ≡ 0
  unfolding list_checks
  passes-list h =
      pass-three 11 12 13 (lists_fit vs bs) (all_below n vs) (all_below k bs)
      (same-both (length vs) (length bs) (leb (length vs) change_limit) h.lengths (le-leb (length vs) change_limit h.most))
      h.nodes-below h.labels_below

  pub list-numbered : Numbered (list_checks n k vs bs)
  unfolding list_checks
  list-numbered = (omega arith, (omega arith, (omega arith, tt)))

-- ---- plan and rule table

module _ (p r : List ℕ) where
  pub rule-table-passes : first_no (rule_table_checks p r) ≡ 0 → PlanPasses p × RulesPass r × (all_below (label_count r) (labels_within p) ≡ true)
  unfolding rule_table_checks
  rule-table-passes e =
      let last : List Check = label_check p (label_count r) ∷ [] in
      let two : first_no (rule_checks r ++ last) ≡ 0 = first_no-append-right (plan_checks p) (rule_checks r ++ last) (plan-numbered p) e in
      let three : first_no last ≡ 0 = first_no-append-right (rule_checks r) last (rules-numbered r) two in (
        plan-passes p (first_no-append-left (plan_checks p) (rule_checks r ++ last) (plan-numbered p) e),
        rules-pass r (first_no-append-left (rule_checks r) last (rules-numbered r) two),
        first_no-head 10 (all_below (label_count r) (labels_within p)) [] (omega arith) three,
      )

  pub passes-rule-table : PlanPasses p → RulesPass r → all_below (label_count r) (labels_within p) ≡ true → first_no (rule_table_checks p r) ≡ 0
  unfolding rule_table_checks
  passes-rule-table g h l =
      let last : List Check = label_check p (label_count r) ∷ [] in
      first_no-append-zero (plan_checks p) (rule_checks r ++ last) (plan-numbered p) (passes-plan p g)
      ∙ first_no-append-zero (rule_checks r) last (rules-numbered r) (pass-rules r h)
      ∙ first_no-yes 10 (all_below (label_count r) (labels_within p)) [] l
      ∙ first_no-none

  pub rule-table-numbered : Numbered (rule_table_checks p r)
  unfolding rule_table_checks
  rule-table-numbered =
      let last : List Check = label_check p (label_count r) ∷ [] in
      numbered-append (plan_checks p) (rule_checks r ++ last) (plan-numbered p)
      (numbered-append (rule_checks r) last (rules-numbered r) (omega arith, tt))

  pub branch-table-passes : first_no (branch_table_checks p r) ≡ 0
      → PlanPasses p × BranchPasses r × (all_below (label_count r) (labels_within p) ≡ true)
  unfolding branch_table_checks
  branch-table-passes e =
      let last : List Check = label_check p (label_count r) ∷ [] in
      let two : first_no (branch_checks r ++ last) ≡ 0 = first_no-append-right (plan_checks p) (branch_checks r ++ last) (plan-numbered p) e in
      let three : first_no last ≡ 0 = first_no-append-right (branch_checks r) last (branch-numbered r) two in (
        plan-passes p (first_no-append-left (plan_checks p) (branch_checks r ++ last) (plan-numbered p) e),
        branch-passes r (first_no-append-left (branch_checks r) last (branch-numbered r) two),
        first_no-head 10 (all_below (label_count r) (labels_within p)) [] (omega arith) three,
      )

  pub passes-branch-table : PlanPasses p → BranchPasses r → all_below (label_count r) (labels_within p) ≡ true
      → first_no (branch_table_checks p r) ≡ 0
  unfolding branch_table_checks
  passes-branch-table g h l =
      let last : List Check = label_check p (label_count r) ∷ [] in
      first_no-append-zero (plan_checks p) (branch_checks r ++ last) (plan-numbered p) (passes-plan p g)
      ∙ first_no-append-zero (branch_checks r) last (branch-numbered r) (passes-branch r h)
      ∙ first_no-yes 10 (all_below (label_count r) (labels_within p)) [] l
      ∙ first_no-none

  pub branch-table-numbered : Numbered (branch_table_checks p r)
  unfolding branch_table_checks
  branch-table-numbered =
      let last : List Check = label_check p (label_count r) ∷ [] in
      numbered-append (plan_checks p) (branch_checks r ++ last) (plan-numbered p)
      (numbered-append (branch_checks r) last (branch-numbered r) (omega arith, tt))

  -- at every index: past the end get_or gives 0
  pub label_below : 1 ≤ label_count r → all_below (label_count r) (labels_within p) ≡ true → (j : ℕ) → get_or (labels_within p) j 0 < label_count r
  label_below h e j = all_below-all (label_count r) (labels_within p) e h j

-- ---- room in the table buffers

pub room-passes : (n s node_table state_table : ℕ) → first_no (room_check n s node_table state_table ∷ []) ≡ 0
    → (node_table_length n ≤ node_table) × (state_table_length n s ≤ state_table)
room-passes n s node_table state_table e =
    let q : room_fits n s node_table state_table ≡ true = first_no-head 11 (room_fits n s node_table state_table) [] (omega arith) e in (
      leb-true (node_table_length n) node_table (and_left (leb (node_table_length n) node_table) (leb (state_table_length n s) state_table) q),
      leb-true (state_table_length n s) state_table (and_right (leb (node_table_length n) node_table) (leb (state_table_length n s) state_table) q),
    )

pub passes-room : (n s node_table state_table : ℕ) → node_table_length n ≤ node_table → state_table_length n s ≤ state_table
    → first_no (room_check n s node_table state_table ∷ []) ≡ 0
passes-room n s node_table state_table h i =
    let links : leb (node_table_length n) node_table ≡ true = le-leb (node_table_length n) node_table h in
    let states : leb (state_table_length n s) state_table ≡ true = le-leb (state_table_length n s) state_table i in
    first_no-yes 11 (room_fits n s node_table state_table) [] (and_both (leb (node_table_length n) node_table) (leb (state_table_length n s) state_table) links states)
    ∙ first_no-none

module _ (p r : List ℕ) (node_table state_table : ℕ) where
  pub build-table : first_no (build_checks p r node_table state_table) ≡ 0 → first_no (rule_table_checks p r) ≡ 0
  unfolding build_checks
  build-table e =
      first_no-append-left (rule_table_checks p r) (room_check (node_count p) (state_count r) node_table state_table ∷ []) (rule-table-numbered p r) e

  pub build-room : first_no (build_checks p r node_table state_table) ≡ 0
      → (node_table_length (node_count p) ≤ node_table) × (state_table_length (node_count p) (state_count r) ≤ state_table)
  unfolding build_checks
  build-room e =
      room-passes (node_count p) (state_count r) node_table state_table
      (first_no-append-right (rule_table_checks p r) (room_check (node_count p) (state_count r) node_table state_table ∷ []) (rule-table-numbered p r) e)

  pub build-passes : first_no (build_checks p r node_table state_table) ≡ 0
      → PlanPasses p × RulesPass r × (all_below (label_count r) (labels_within p) ≡ true)
      × (node_table_length (node_count p) ≤ node_table) × (state_table_length (node_count p) (state_count r) ≤ state_table)
  build-passes e =
      let t : PlanPasses p × RulesPass r × (all_below (label_count r) (labels_within p) ≡ true) = rule-table-passes p r (build-table e) in
      (t.0, t.1, t.2, (build-room e).0, (build-room e).1)

  pub passes-build : first_no (rule_table_checks p r) ≡ 0 → node_table_length (node_count p) ≤ node_table → state_table_length (node_count p) (state_count r) ≤ state_table
      → first_no (build_checks p r node_table state_table) ≡ 0
  unfolding build_checks
  passes-build e h i =
      first_no-append-zero (rule_table_checks p r) (room_check (node_count p) (state_count r) node_table state_table ∷ []) (rule-table-numbered p r) e
      ∙ passes-room (node_count p) (state_count r) node_table state_table h i

  pub branch-build-table : first_no (branch_build_checks p r node_table state_table) ≡ 0 → first_no (branch_table_checks p r) ≡ 0
  unfolding branch_build_checks
  branch-build-table e =
      first_no-append-left (branch_table_checks p r) (room_check (node_count p) (state_count r) node_table state_table ∷ []) (branch-table-numbered p r) e

  pub branch-build-room : first_no (branch_build_checks p r node_table state_table) ≡ 0
      → (node_table_length (node_count p) ≤ node_table) × (state_table_length (node_count p) (state_count r) ≤ state_table)
  unfolding branch_build_checks
  branch-build-room e =
      room-passes (node_count p) (state_count r) node_table state_table
      (first_no-append-right (branch_table_checks p r) (room_check (node_count p) (state_count r) node_table state_table ∷ []) (branch-table-numbered p r) e)

  pub branch-build-passes : first_no (branch_build_checks p r node_table state_table) ≡ 0
      → PlanPasses p × BranchPasses r × (all_below (label_count r) (labels_within p) ≡ true)
      × (node_table_length (node_count p) ≤ node_table) × (state_table_length (node_count p) (state_count r) ≤ state_table)
  branch-build-passes e =
      let t : PlanPasses p × BranchPasses r × (all_below (label_count r) (labels_within p) ≡ true) = branch-table-passes p r (branch-build-table e) in
      (t.0, t.1, t.2, (branch-build-room e).0, (branch-build-room e).1)

  pub passes-branch-build : first_no (branch_table_checks p r) ≡ 0 → node_table_length (node_count p) ≤ node_table
      → state_table_length (node_count p) (state_count r) ≤ state_table → first_no (branch_build_checks p r node_table state_table) ≡ 0
  unfolding branch_build_checks
  passes-branch-build e h i =
      first_no-append-zero (branch_table_checks p r) (room_check (node_count p) (state_count r) node_table state_table ∷ []) (branch-table-numbered p r) e
      ∙ passes-room (node_count p) (state_count r) node_table state_table h i

-- ---- a fresh run: plan, rule table and list

module _ (p r vs bs : List ℕ) where
  pub fresh-run-table : first_no (fresh_run_checks p r vs bs) ≡ 0 → first_no (rule_table_checks p r) ≡ 0
  unfolding fresh_run_checks
  fresh-run-table e = first_no-append-left (rule_table_checks p r) (list_checks (node_count p) (label_count r) vs bs) (rule-table-numbered p r) e

  pub fresh-run-list : first_no (fresh_run_checks p r vs bs) ≡ 0 → first_no (list_checks (node_count p) (label_count r) vs bs) ≡ 0
  unfolding fresh_run_checks
  fresh-run-list e = first_no-append-right (rule_table_checks p r) (list_checks (node_count p) (label_count r) vs bs) (rule-table-numbered p r) e

  pub fresh-run-passes : first_no (fresh_run_checks p r vs bs) ≡ 0
      → PlanPasses p × RulesPass r × (all_below (label_count r) (labels_within p) ≡ true) × ListPasses (node_count p) (label_count r) vs bs
  fresh-run-passes e =
      let t : PlanPasses p × RulesPass r × (all_below (label_count r) (labels_within p) ≡ true) = rule-table-passes p r (fresh-run-table e) in
      (t.0, t.1, t.2, list-passes (node_count p) (label_count r) vs bs (fresh-run-list e))

  pub passes-fresh-run : first_no (rule_table_checks p r) ≡ 0 → ListPasses (node_count p) (label_count r) vs bs
      → first_no (fresh_run_checks p r vs bs) ≡ 0
  unfolding fresh_run_checks
  passes-fresh-run e h =
      first_no-append-zero (rule_table_checks p r) (list_checks (node_count p) (label_count r) vs bs) (rule-table-numbered p r) e
      ∙ passes-list (node_count p) (label_count r) vs bs h
