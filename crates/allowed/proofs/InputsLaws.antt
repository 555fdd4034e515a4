-- Plan and rules that pass: what the passes over them need, and the checks of both calls.
--     pass-args, marks-given, call-args   what the checks give
--     kinds_part .. marks_part, parts-given the parts that are handed on, and what the passes need of them
--     kinds-is .. marks-is                each part is the plan's, or the rule table's
--     no_room, all_yes                    the number of the first check that fails
--     table-yes, room-yes                 what follows where none does
--     written-list                        a buffer whose first n numbers are known, as a list
use Prim.Native.Nat.{ℕ, ◌+◌, ◌-◌, ◌*◌, ◌≤◌, ◌<◌}
use mathlib.Core.Path.{◌≡◌, refl, sym, ap, ◌∙◌}
use mathlib.Core.List.{List, [], ◌∷◌, ◌++◌}
use native.Mathlib.Decide.{dec_lt}
use native.Mathlib.Omega.{arith}
use native.Mathlib.Nat.{mul-le-mul_right}
use lib.Dec.{leb}
use lib.ListN.{length, get_or, take, drop, length-append, length-drop, get_or-append}
use lib.Seq.{ext_get_or}
use borrow.Author.Tests.{le-leb, lt-leb, leb-true}
use Rattle.list_laws.specs.Rows.{tabulate}
use Rattle.list_laws.proofs.RowLaws.{length-tabulate, get_d_tabulate}
use Rattle.list_laws.proofs.AppendLaws.{get_d_past}
use Rattle.formats.specs.Plan.{node_count, labels_within, kinds_in}
use Rattle.formats.specs.Rules.{state_count, label_count, leaf_states, inner_states, rule_marks}
use Rattle.formats.specs.Checks.{check, first_no, rule_table_checks}
use Rattle.formats.proofs.CheckLaws.{first_no-yes, first_no-no, first_no-none, first_no-append-zero}
use Rattle.formats.proofs.CheckLaws.{first_no-append-left, first_no-append-right, first_no-head}
use Rattle.formats.proofs.PlanLaws.{length-kinds_in, labels-as-kinds, labels-part, kinds-part}
use Rattle.formats.proofs.RuleLaws.{length-leaf_states, length-inner_states, length-rule_marks, leaf-state-below}
use Rattle.formats.proofs.RuleLaws.{inner-state-below, mark-below, leaves-part, inner-part, marks-part}
use Rattle.formats.proofs.InputLaws.{rule-table-passes, rule-table-numbered, label_below}
use Rattle.allowed.specs.Answers.{node_room_checks}
use Rattle.allowed.specs.inner.Inputs.{PassArgs, MarksGiven, CallArgs}

-- ---- plan and rules that pass

module _ (p r : List ℕ) (e : first_no (rule_table_checks p r) ≡ 0) where
  pub pass-args : PassArgs (kinds_in p) (labels_within p) (leaf_states r) (inner_states r) (state_count r) (label_count r)
  pass-args =
      let f = rule-table-passes p r e in
      record {
        postorder = f.0.postorder;
        count = labels-as-kinds p f.0;
        most = omega (arith, length-kinds_in p f.0, f.0.most);
        below = label_below p r f.1.labels_least f.2;
        some = omega (arith, f.1.states-least);
        few = f.1.states_most;
        labels = f.1.labels_most;
        leaf_count = length-leaf_states r f.1;
        inner_count = length-inner_states r f.1;
        leaf_below = leaf-state-below r f.1;
        inner_below = inner-state-below r f.1;
      }

  pub marks-given : MarksGiven (rule_marks r) (state_count r)
  marks-given = let f = rule-table-passes p r e in record { count = length-rule_marks r f.1; below = mark-below r f.1 }

  pub call-args : (m : ℕ) → node_count p ≤ m → CallArgs p r (node_count p) (state_count r) (label_count r) m
  call-args m room =
      let f = rule-table-passes p r e in
      let row : state_count r * label_count r ≤ 1024 =
      omega (arith, mul-le-mul_right (label_count r) f.1.states_most, f.1.labels_most) in
      record {
        passed = e;
        nodes_are = refl;
        states_are = refl;
        labels_are = refl;
        room = room;
        plan_length = f.0.exact;
        rules_length = f.1.exact;
        nodes_most = f.0.most;
        states_most = f.1.states_most;
        labels_most = f.1.labels_most;
        inner_most = omega (arith, mul-le-mul_right (state_count r) row, f.1.states_most);
      }

-- ---- the parts that are handed on

abbrev pub kinds_part : List ℕ → ℕ → List ℕ
kinds_part p n = take (length p - (12 + n)) (drop (12 + n) p)

abbrev pub labels_part : List ℕ → ℕ → List ℕ
labels_part p n = take (12 + n - 12) (drop 12 p)

abbrev pub leaves_part : List ℕ → ℕ → List ℕ
leaves_part r k = take (20 + k - 20) (drop 20 r)

-- c is the number of inner states as the code has it
abbrev pub inner_part : List ℕ → ℕ → ℕ → List ℕ
inner_part r k c = take (20 + k + c - (20 + k)) (drop (20 + k) r)

abbrev pub marks_part : List ℕ → ℕ → ℕ → List ℕ
marks_part r k c = take (length r - (20 + k + c)) (drop (20 + k + c) r)

module _ {p r : List ℕ} {n s k m : ℕ} (a : CallArgs p r n s k m) (c : ℕ) (ec : c ≡ s * k * s) where
  pub kinds-is : kinds_part p n ≡ kinds_in p
  kinds-is = kinds-part p n (rule-table-passes p r a.passed).0 a.nodes_are

  pub labels-is : labels_part p n ≡ labels_within p
  labels-is = labels-part p n a.nodes_are

  pub leaves-is : leaves_part r k ≡ leaf_states r
  leaves-is = leaves-part r k a.labels_are

  pub inner-is : inner_part r k c ≡ inner_states r
  inner-is = ap (inner_part r k) ec ∙ inner-part r s k a.states_are a.labels_are

  pub marks-is : marks_part r k c ≡ rule_marks r
  marks-is = ap (marks_part r k) ec ∙ marks-part r s k (rule-table-passes p r a.passed).1 a.states_are a.labels_are

  pub parts-given : PassArgs (kinds_part p n) (labels_part p n) (leaves_part r k) (inner_part r k c) s k
      × MarksGiven (marks_part r k c) s × (length (kinds_part p n) ≤ m)
  parts-given =
      rw (kinds-is, labels-is, leaves-is, inner-is, marks-is, a.states_are, a.labels_are) (
        pass-args p r a.passed,
        marks-given p r a.passed,
        omega (arith, length-kinds_in p (rule-table-passes p r a.passed).0, a.room, a.nodes_are),
      )

-- ---- the checks

module _ (p r : List ℕ) (m : ℕ) where
  pub no_room : first_no (rule_table_checks p r) ≡ 0 → m < node_count p → 11 ≡ first_no (node_room_checks p r m)
  unfolding node_room_checks
  no_room e h = sym (first_no-append-zero (rule_table_checks p r) (check 11 (leb (node_count p) m) ∷ []) (rule-table-numbered p r) e
      ∙ first_no-no 11 (leb (node_count p) m) [] (lt-leb (node_count p) m h))

  pub all_yes : first_no (rule_table_checks p r) ≡ 0 → node_count p ≤ m → 0 ≡ first_no (node_room_checks p r m)
  unfolding node_room_checks
  all_yes e h = sym (first_no-append-zero (rule_table_checks p r) (check 11 (leb (node_count p) m) ∷ []) (rule-table-numbered p r) e
      ∙ first_no-yes 11 (leb (node_count p) m) [] (le-leb (node_count p) m h) ∙ first_no-none)

  pub table-yes : first_no (node_room_checks p r m) ≡ 0 → first_no (rule_table_checks p r) ≡ 0
  unfolding node_room_checks
  table-yes e = first_no-append-left (rule_table_checks p r) (check 11 (leb (node_count p) m) ∷ []) (rule-table-numbered p r) e

  pub room-yes : first_no (node_room_checks p r m) ≡ 0 → node_count p ≤ m
  unfolding node_room_checks
  room-yes e = leb-true (node_count p) m (first_no-head 11 (leb (node_count p) m) [] (omega arith)
      (first_no-append-right (rule_table_checks p r) (check 11 (leb (node_count p) m) ∷ []) (rule-table-numbered p r) e))

-- ---- the whole buffer

pub written-list : (n : ℕ) (f : ℕ → ℕ) (before after : List ℕ) → ((j : ℕ) → j < n → get_or after j 0 ≡ f j)
    → ((j : ℕ) → n ≤ j → get_or after j 0 ≡ get_or before j 0) → length after ≡ length before → n ≤ length before
    → after ≡ tabulate n f ++ drop n before
written-list n f before after w kept e room = ext_get_or 0 after (tabulate n f ++ drop n before) len each
  where
    z : length (tabulate n f) ≡ n
    z = length-tabulate n f

    len : length after ≡ length (tabulate n f ++ drop n before)
    len = sym (length-append (tabulate n f) (drop n before) ∙ omega (arith, z, length-drop n before))

    each : (j : ℕ) → j < length after → get_or after j 0 ≡ get_or (tabulate n f ++ drop n before) j 0
    each j h = elim (dec_lt j n) [
      | yes l ↦ w j l ∙ sym (get_d_tabulate n f j l)
          ∙ sym (get_or-append (tabulate n f) (drop n before) 0 j (omega (arith, z)))
      | no l ↦ kept j (omega arith) ∙ sym (get_d_past (tabulate n f) before n j z (omega arith))
    ]
