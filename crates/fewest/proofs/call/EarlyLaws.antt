-- A plan that is as wanted already, and one that is not.
--     run-given, plan-marked   the run over the parts that are handed on is that of the plan
--     states-same              which states are wanted does not alter the run
--     keeps-labels             the plan itself is one of its relabellings
--     told-none                a check fails: nothing is written
--     told-early               the plan's root has the mark that is wanted: 0, and no change
--     told-late                it has not: the number and the list as they are worked out
use Prim.Native.Nat.{ℕ, ◌+◌, ◌*◌}
use mathlib.Core.Path.{◌≡◌, refl, sym, ap, ap₂, ◌∙◌, subst}
use mathlib.Core.Bool.{true}
use mathlib.Core.List.{List}
use native.Mathlib.Omega.{arith}
use lib.ListN.{length, get_or, take}
use borrow.Author.Tests.{eq-eqb}
use Rattle.list_laws.specs.Tests.{all_below}
use Rattle.trees.specs.Tree.{Tree, leaf, node, labels_of}
use Rattle.trees.specs.Automaton.{state, accepts}
use Rattle.trees.specs.Changes.{changed}
use Rattle.trees.proofs.PostorderLaws.{tree_of-is}
use Rattle.formats.specs.Plan.{node_count, labels_within, kinds_in, plan_tree}
use Rattle.formats.specs.Rules.{state_count, label_count, leaf_states, inner_states, rule_marks, rule_automaton}
use Rattle.formats.specs.Checks.{first_no, rule_table_checks}
use Rattle.formats.specs.Passing.{PlanPasses}
use Rattle.formats.proofs.PlanLaws.{length-kinds_in, kinds-plan_tree, labels-plan_tree, size-plan_tree}
use Rattle.formats.proofs.InputLaws.{rule-table-passes}
use Rattle.formats.specs.Refusals.{refusal_number, answer_number}
use Rattle.formats.specs.declared.refusals.Refusal.{Refusal}
use Rattle.formats.proofs.RefusalLaws.{handed-on, number-not-0}
use Rattle.std.specs.Prelude.{Result, IsErrAnd}
use Rattle.allowed.specs.inner.Inputs.{CallArgs}
use Rattle.allowed.proofs.InputsLaws.{call-args, kinds_part, labels_part, leaves_part, inner_part, marks_part}
use Rattle.allowed.proofs.InputsLaws.{kinds-is, labels-is, leaves-is, inner-is, marks-is, parts-given}
use Rattle.fewest.specs.Relabelling.{Relabelling}
use Rattle.fewest.specs.Fewest.{IsFewest}
use Rattle.fewest.specs.inner.Marked.{RunArgs, RootMarked, PlanMarked}
use Rattle.fewest.specs.inner.Parts.{parts_problem}
use Rattle.fewest.specs.inner.list.Written.{FewestShown}
use Rattle.fewest.specs.Answers.{wanted_mark, wanted_automaton, may_be, rising, fewest_checks, ListTold, FewestTold}
use Rattle.fewest.proofs.costs.ListLaws.{differences-self, permitted-self}
use Rattle.fewest.proofs.call.CallLaws.{table-yes, room-yes, done-written}
use Rattle.fewest.proofs.call.Promise.{promised}

-- ---- the parts that are handed on

module _ {p r : List ℕ} {n s k m : ℕ} (a : CallArgs p r n s k m) (c : ℕ) (ec : c ≡ s * k * s) where
  pub run-given : RunArgs (kinds_part p n) (labels_part p n) (leaves_part r k) (inner_part r k c) (marks_part r k c) s k m
  run-given = let g = parts-given a c ec in record { pass = g.0; marks = g.1.count; room = g.2 }

  pub plan-marked : (before : List ℕ) (x : ℕ) (after : List ℕ)
      → RootMarked (kinds_part p n) (labels_part p n) (leaves_part r k) (inner_part r k c) (marks_part r k c) s k before x after
      → PlanMarked p r before x after
  plan-marked before x after D =
      let h : PlanPasses p = (rule-table-passes p r a.passed).0 in
      let E : RootMarked (kinds_in p) (labels_within p) (leaf_states r) (inner_states r) (rule_marks r) (state_count r) (label_count r) before x after =
      rw (
        ← kinds-is a c ec,
        ← labels-is a c ec,
        ← leaves-is a c ec,
        ← inner-is a c ec,
        ← marks-is a c ec,
        ← a.states_are,
        ← a.labels_are,
      ) D in
      record {
        mark = E.mark (plan_tree p) (kinds-plan_tree p h) (labels-plan_tree p h);
        kept = λ j q. E.kept j (omega (arith, length-kinds_in p h));
      }

-- ---- what is wanted

pub states-same : (r : List ℕ) (want : ℕ) (u : Tree) → state (wanted_automaton r want) u ≡ state (rule_automaton r) u
states-same r want (leaf a) = refl
states-same r want (node x a y) =
    ap₂ (λ (p q : ℕ). get_or (inner_states r) ((p * label_count r + a) * state_count r + q) 0) (states-same r want x) (states-same r want y)

pub keeps-labels : (p r may : List ℕ) → first_no (rule_table_checks p r) ≡ 0 → Relabelling (label_count r) (may_be may) (plan_tree p) (plan_tree p)
keeps-labels p r may e =
    let f = rule-table-passes p r e in
    record {
      kinds = refl;
      labels = permitted-self (label_count r) (may_be may) 0 (labels_of (plan_tree p))
          (ap (all_below (label_count r)) (labels-plan_tree p f.0) ∙ f.2);
    }

-- ---- the call's answers

-- a is what `?` hands on of a check's refusal x
pub told-none : (p r may : List ℕ) (want : ℕ) (work nodes labels : List ℕ) (least count : ℕ) (x : Refusal)
    (a : Result Unit Refusal) → IsErrAnd a (λ e. e ≡ x)
    → refusal_number x ≡ first_no (fewest_checks p r (length may) (length work) (length nodes) (length labels))
    → FewestTold p r may want work nodes labels least count (answer_number a) work nodes labels least count
told-none p r may want work nodes labels least count x a h e =
    let z : answer_number a ≡ refusal_number x = handed-on x a h in
    record {
      number = z ∙ e;
      told = λ w. absurd (number-not-0 x (sym z ∙ w));
      nodes_beyond = λ w j q. refl;
      labels_beyond = λ w j q. refl;
      work_beyond = λ j q. refl;
      refused = λ w. (refl, refl, refl, refl, refl);
    }

module _ (p r may : List ℕ) (want : ℕ) (work nodes labels : List ℕ) (least count : ℕ)
    (e : first_no (fewest_checks p r (length may) (length work) (length nodes) (length labels)) ≡ 0) where
  passed : first_no (rule_table_checks p r) ≡ 0
  passed = table-yes p r (length may) (length work) (length nodes) (length labels) e

  pub mark-args : CallArgs p r (node_count p) (state_count r) (label_count r) (length work)
  mark-args = call-args p r passed (length work) (omega (arith, (room-yes p r (length may) (length work) (length nodes) (length labels) e).0))

  module _ (mark x : ℕ) (em : mark ≡ wanted_mark want) (now : List ℕ) (M : PlanMarked p r work x now) where
    module _ (ex : x ≡ mark) where
      cleared : accepts (wanted_automaton r want) (plan_tree p) ≡ true
      cleared = eq-eqb (get_or (rule_marks r) (state (wanted_automaton r want) (plan_tree p)) 0) (wanted_mark want)
          (ap (λ (q : ℕ). get_or (rule_marks r) q 0) (states-same r want (plan_tree p)) ∙ sym M.mark ∙ ex ∙ em)

      none : ListTold (wanted_automaton r want) (label_count r) (may_be may) (plan_tree p) 0 (take 0 nodes) (take 0 labels)
      unfolding rising all_below changed
      none = record {
        nodes_number = refl;
        labels_number = refl;
        nodes_in = refl;
        nodes_rise = refl;
        labels_in = refl;
        permits = subst (Relabelling (label_count r) (may_be may) (plan_tree p)) (sym (tree_of-is (plan_tree p)))
            (keeps-labels p r may passed);
        does = ap (accepts (wanted_automaton r want)) (tree_of-is (plan_tree p)) ∙ cleared;
      }

      zero : IsFewest (wanted_automaton r want) (label_count r) (may_be may) (plan_tree p) 0
      zero = record {
        tree = plan_tree p;
        allowed = keeps-labels p r may passed;
        cleared = cleared;
        number = differences-self (labels_of (plan_tree p));
        least = λ u a b. omega arith;
      }

      pub told-early : FewestTold p r may want work nodes labels least count 0 now nodes labels 0 0
      told-early = record {
        number = sym e;
        told = λ z. record { way = λ h. zero; no_way = λ h. absurd (omega arith); count = refl; listed = λ h. none };
        nodes_beyond = λ z j h. refl;
        labels_beyond = λ z j h. refl;
        work_beyond = λ j h. M.kept j (omega arith);
        refused = λ z. absurd (z refl);
      }

    pub told-late : (c : ℕ) (work' nodes' labels' : List ℕ) (least' : ℕ)
        → FewestShown (parts_problem r may mark) (plan_tree p) (state_count r) now nodes labels c work' nodes' labels' least'
        → FewestTold p r may want work nodes labels least count 0 work' nodes' labels' least' c
    told-late c work' nodes' labels' least' S =
        promised p r may want work nodes labels least count 0 work' nodes' labels' least' c
        (done-written p r may want work nodes labels least count mark em e c work' nodes' labels' least' (record {
          least_is = S.least_is;
          count = S.count;
          nodes_are = S.nodes_are;
          labels_are = S.labels_are;
          kept = λ j h. S.kept j h ∙ M.kept j (omega (arith, size-plan_tree p (rule-table-passes p r passed).0));
        }))
