-- The call: its parts, and its answers.
--     may-some .. room-is       the tests of checks 17 and 11
--     plan-args .. parts-written     of the parts that are handed on
--     no-sets .. all_yes        the checks, by the way the code's tests went
--     done-written              what the call writes
use Prim.Native.Nat.{ℕ, ◌+◌, ◌*◌, ◌≤◌}
use mathlib.Core.Path.{◌≡◌, refl, sym, ap, ◌∙◌, subst}
use mathlib.Core.Bool.{Bool, true, false, ◌&&◌, ◌||◌}
use mathlib.Core.List.{List, [], ◌∷◌}
use native.Mathlib.Omega.{arith}
use lib.Dec.{leb, eqb}
use lib.ListN.{length}
use borrow.Author.Tests.{ne_eqb, eqb-true, leb-true}
use Rattle.list_laws.proofs.BoolLaws.{and_left, and_right}
use Rattle.trees.specs.Tree.{size}
use Rattle.formats.specs.Limits.{change_limit}
use Rattle.formats.specs.Plan.{node_count, labels_within, kinds_in, plan_tree}
use Rattle.formats.specs.Rules.{state_count, label_count, leaf_states, inner_states, rule_marks}
use Rattle.formats.specs.Checks.{Check, check, first_no, rule_table_checks}
use Rattle.formats.specs.Passing.{PlanPasses}
use Rattle.formats.proofs.CheckLaws.{first_no-yes, first_no-no, first_no-none, first_no-append-zero}
use Rattle.formats.proofs.CheckLaws.{first_no-append-left, first_no-head, first_no-tail}
use Rattle.formats.proofs.PlanLaws.{length-kinds_in, kinds-plan_tree, labels-plan_tree, size-plan_tree}
use Rattle.formats.proofs.InputLaws.{rule-table-passes, rule-table-numbered}
use Rattle.allowed.specs.inner.Inputs.{PassArgs}
use Rattle.allowed.proofs.InputsLaws.{call-args, kinds_part, labels_part, leaves_part, inner_part, marks_part, kinds-is}
use Rattle.allowed.proofs.InputsLaws.{labels-is}
use Rattle.allowed.proofs.InputsLaws.{leaves-is, inner-is, marks-is}
use Rattle.allowed.proofs.InputsLaws.{parts-given as inputs-given}
use Rattle.fewest.specs.inner.list.Written.{WriteArgs, FewestShown, FewestWritten}
use Rattle.fewest.specs.Answers.{wanted_mark, may_fits, fewest_room, fewest_checks}
use Rattle.fewest.specs.inner.Done.{plan_problem, FewestDone}
use Rattle.fewest.specs.inner.Parts.{parts_problem, PlanArgs}

-- ---- plan and rules that pass

pub plan-args : (p r may : List ℕ) (work nodes labels : ℕ) → first_no (rule_table_checks p r) ≡ 0
    → ((length may ≡ 0 → ⊥) → length may ≡ node_count p)
    → node_count p * (state_count r + 1) ≤ work → change_limit ≤ nodes → change_limit ≤ labels
    → PlanArgs p r may (node_count p) (state_count r) (label_count r) work nodes labels
plan-args p r may work nodes labels e stocks room hn hl = record {
  call = call-args p r e (node_count p) (omega arith);
  stocks = stocks;
  room = room;
  nodes_room = hn;
  labels_room = hl;
}

-- ---- the parts that are handed on

module _ {p r may : List ℕ} {n s k work nodes labels : ℕ} (a : PlanArgs p r may n s k work nodes labels) (c : ℕ) (ec : c ≡ s * k * s) where
  given : PassArgs (kinds_part p n) (labels_part p n) (leaves_part r k) (inner_part r k c) s k
  given = (inputs-given a.call c ec).0

  count : length (kinds_part p n) ≡ n
  count = ap length (kinds-is a.call c ec) ∙ length-kinds_in p (rule-table-passes p r a.call.passed).0
      ∙ sym a.call.nodes_are

  pub parts-given : WriteArgs (kinds_part p n) (labels_part p n) (leaves_part r k) (inner_part r k c) (marks_part r k c) may s k work nodes labels
  parts-given = record {
    given = record {
      up = record {
        runs = given;
        stocks = λ z. a.stocks z ∙ sym count;
        room = (let e : length (kinds_part p n) * (s + 1) ≡ n * (s + 1) = ap (λ (x : ℕ). x * (s + 1)) count in omega (arith, a.room));
      };
      marks = (inputs-given a.call c ec).1.count;
    };
    nodes_room = a.nodes_room;
    labels_room = a.labels_room;
  }

  pub parts-written : (mark : ℕ) (W N L : List ℕ) (x : ℕ) (W' N' L' : List ℕ) (least : ℕ)
      → FewestWritten (kinds_part p n) (labels_part p n) (leaves_part r k) (inner_part r k c) (marks_part r k c) may s k mark W N L x W' N' L' least
      → FewestShown (parts_problem r may mark) (plan_tree p) (state_count r) W N L x W' N' L' least
  parts-written mark W N L x W' N' L' least D =
      let h : PlanPasses p = (rule-table-passes p r a.call.passed).0 in
      let E : FewestWritten (kinds_in p) (labels_within p) (leaf_states r) (inner_states r) (rule_marks r) may (state_count r) (label_count r) mark
      W N L x W' N' L' least =
      rw (
        ← kinds-is a.call c ec,
        ← labels-is a.call c ec,
        ← leaves-is a.call c ec,
        ← inner-is a.call c ec,
        ← marks-is a.call c ec,
        ← a.call.states_are,
        ← a.call.labels_are,
      ) D in
      E (plan_tree p) (kinds-plan_tree p h) (labels-plan_tree p h)

-- ---- the tests of checks 17 and 11

pub may-some : (m n : ℕ) → (m ≡ 0 → ⊥) → eqb m n ≡ may_fits m n
may-some m n e = sym (ap (λ (b : Bool). b || eqb m n) (ne_eqb m 0 e))

may-each : (m n : ℕ) → may_fits m n ≡ true → (m ≡ 0 → ⊥) → m ≡ n
may-each m n e z = eqb-true m n (may-some m n z ∙ e)

module _ (n s work nodes labels : ℕ) where
  room-is : fewest_room n s work nodes labels ≡ true → (n * (s + 1) ≤ work) × (64 ≤ nodes) × (64 ≤ labels)
  room-is e =
      let f = and_right (leb (n * (s + 1)) work) (leb 64 nodes && leb 64 labels) e in (
        leb-true (n * (s + 1)) work (and_left (leb (n * (s + 1)) work) (leb 64 nodes && leb 64 labels) e),
        leb-true 64 nodes (and_left (leb 64 nodes) (leb 64 labels) f),
        leb-true 64 labels (and_right (leb 64 nodes) (leb 64 labels) f),
      )

-- ---- the checks

module _ (p r : List ℕ) (may work nodes labels : ℕ) where
  abbrev more : List Check
  more = check 17 (may_fits may (node_count p)) ∷ check 11 (fewest_room (node_count p) (state_count r) work nodes labels) ∷ []

  module _ (e : first_no (rule_table_checks p r) ≡ 0) where
    past : first_no (fewest_checks p r may work nodes labels) ≡ first_no more
    unfolding fewest_checks
    past = first_no-append-zero (rule_table_checks p r) more (rule-table-numbered p r) e

    pub no-sets : may_fits may (node_count p) ≡ false → 17 ≡ first_no (fewest_checks p r may work nodes labels)
    no-sets z = sym (past ∙ first_no-no 17 (may_fits may (node_count p)) _ z)

    pub no_room : may_fits may (node_count p) ≡ true → fewest_room (node_count p) (state_count r) work nodes labels ≡ false
        → 11 ≡ first_no (fewest_checks p r may work nodes labels)
    no_room y z = sym (past ∙ first_no-yes 17 (may_fits may (node_count p)) _ y
        ∙ first_no-no 11 (fewest_room (node_count p) (state_count r) work nodes labels) [] z)

    pub all_yes : may_fits may (node_count p) ≡ true → fewest_room (node_count p) (state_count r) work nodes labels ≡ true
        → 0 ≡ first_no (fewest_checks p r may work nodes labels)
    all_yes y z = sym (past ∙ first_no-yes 17 (may_fits may (node_count p)) _ y
        ∙ first_no-yes 11 (fewest_room (node_count p) (state_count r) work nodes labels) [] z ∙ first_no-none)

  module _ (e : first_no (fewest_checks p r may work nodes labels) ≡ 0) where
    pub table-yes : first_no (rule_table_checks p r) ≡ 0
    unfolding fewest_checks
    table-yes = first_no-append-left (rule_table_checks p r) more (rule-table-numbered p r) e

    rest : first_no more ≡ 0
    rest = sym (past table-yes) ∙ e

    pub sets-yes : (may ≡ 0 → ⊥) → may ≡ node_count p
    sets-yes = may-each may (node_count p) (first_no-head 17 (may_fits may (node_count p)) _ (omega arith) rest)

    pub room-yes : (node_count p * (state_count r + 1) ≤ work) × (64 ≤ nodes) × (64 ≤ labels)
    room-yes = room-is (node_count p) (state_count r) work nodes labels
        (first_no-head 11 (fewest_room (node_count p) (state_count r) work nodes labels) [] (omega arith)
        (first_no-tail 17 (may_fits may (node_count p)) _ (omega arith) rest))

-- what the call's parts need, with the numbers as the code has them
pub write-args : (p r may : List ℕ) (work nodes labels : ℕ) → first_no (fewest_checks p r (length may) work nodes labels) ≡ 0
    → PlanArgs p r may (node_count p) (state_count r) (label_count r) work nodes labels
write-args p r may work nodes labels e =
    let z = room-yes p r (length may) work nodes labels e in
    plan-args p r may work nodes labels (table-yes p r (length may) work nodes labels e) (sets-yes p r (length may) work nodes labels e)
    z.0 z.1 z.2

-- ---- what the call writes

module _ (p r may : List ℕ) (want : ℕ) (work nodes labels : List ℕ) (least count : ℕ) where
  pub done-written : (mark : ℕ) → mark ≡ wanted_mark want
      → first_no (fewest_checks p r (length may) (length work) (length nodes) (length labels)) ≡ 0
      → (c : ℕ) (work' nodes' labels' : List ℕ) (least' : ℕ)
      → FewestShown (parts_problem r may mark) (plan_tree p) (state_count r) work nodes labels c work' nodes' labels' least'
      → FewestDone p r may want work nodes labels least count 0 work' nodes' labels' least' c
  done-written mark em e c work' nodes' labels' least' F =
      let S : FewestShown (plan_problem r may want) (plan_tree p) (state_count r) work nodes labels c work' nodes' labels' least' =
      subst (λ (m : ℕ). FewestShown (parts_problem r may m) (plan_tree p) (state_count r) work nodes labels c work' nodes' labels' least') em F in
      let t = table-yes p r (length may) (length work) (length nodes) (length labels) e in
      let z : size (plan_tree p) * (state_count r + 1) ≡ node_count p * (state_count r + 1) =
      ap (λ (x : ℕ). x * (state_count r + 1)) (size-plan_tree p (rule-table-passes p r t).0) in
      record {
        number = sym e;
        least_is = S.least_is;
        count_is = S.count;
        nodes_are = S.nodes_are;
        labels_are = S.labels_are;
        work_kept = λ q. absurd (q refl);
        work_beyond = λ j q. S.kept j (omega arith);
      }
