-- Plans and rule tables that pass 2 to 9, 27, 10 and 11 for tables of colours, and what is handed on of them.
--     products, fit-numbers, fit-bytes   check 11 as the code computes it
--     accepted, table-passed             what the checks say of inputs that pass
--     part-args                          N, S and K as read
--     length-set_numbers, length-set_bytes how long what the build writes is
--     built-coloured                     the buffers afterwards are as built, with any excess
use Prim.Native.Nat.{ℕ, ◌+◌, ◌*◌, ◌^◌, ◌≤◌, ◌<◌}
use mathlib.Core.Path.{◌≡◌, ap, ◌∙◌}
use mathlib.Core.Bool.{Bool, true, false}
use mathlib.Core.List.{List, [], ◌∷◌, ◌++◌}
use native.Mathlib.Omega.{arith}
use native.Mathlib.Nat.{mul-le-mul}
use lib.Dec.{leb}
use lib.ListN.{length, length-append}
use lib.Seq.{take_at}
use borrow.Author.Tests.{le-leb, lt-leb, leb-true}
use Rattle.list_laws.specs.Tests.{all_below}
use Rattle.list_laws.proofs.BoolLaws.{and_left, and_right}
use Rattle.formats.specs.Plan.{node_count, labels_within, plan_tree}
use Rattle.formats.specs.Rules.{state_count, label_count, rule_automaton}
use Rattle.formats.specs.Checks.{Check, check, first_no, plan_checks, rule_checks, label_check, rule_table_checks}
use Rattle.formats.specs.Built.{built_state_table}
use Rattle.formats.proofs.CheckLaws.{first_no-head, first_no-tail, first_no-append-left, first_no-append-right}
use Rattle.formats.proofs.PlanLaws.{plan-passes, plan-numbered, size-plan_tree}
use Rattle.formats.specs.Passing.{PlanPasses}
use Rattle.formats.proofs.RuleLaws.{RulesPass, rules-pass, rules-numbered}
use Rattle.formats.proofs.InputLaws.{passes-rule-table}
use Rattle.colours.specs.StateSets.{set_step}
use Rattle.colours.proofs.SetLaws.{set_step-below}
use Rattle.colour_tables.specs.Layout.{copies_length}
use Rattle.colour_tables.proofs.LayoutLaws.{length-numbers, length-copies}
use Rattle.std.specs.Prelude.{Result}
use Rattle.formats.specs.Refusals.{answer_number}
use Rattle.formats.specs.declared.refusals.Refusal.{Refusal}
use Rattle.tables.specs.Answers.{BuildDone}
use Rattle.tables.proofs.BuildLaws.{built-lists, length-built_states}
use Rattle.colour_tables.specs.rule.Build.{set_numbers_length, set_bytes_length, set_colours_fit, set_states_fit}
use Rattle.colour_tables.specs.rule.Build.{rule_colour_checks, built_set_numbers, built_set_copies, built_set_bytes}
use Rattle.colour_tables.specs.rule.Build.{RuleColoured}
use Rattle.colour_tables.specs.rule.inner.Filled.{PartArgs}

-- ---- check 11

pub products : (n s c : ℕ) → n ≤ 65535 → s ≤ 4 → c ≤ 16
    → (c * (n * 4) ≤ 4194240) × (n * (s + 1) ≤ 327675) × (n * c ≤ 1048560)
products n s c a b d =
    let few : s + 1 ≤ 5 = omega arith in (
      mul-le-mul {n₁ = c} {m₁ = n * 4} {n₂ = 16} {m₂ = 262140} d (omega arith),
      mul-le-mul {n₁ = n} {m₁ = s + 1} {n₂ = 65535} {m₂ = 5} a few,
      mul-le-mul {n₁ = n} {m₁ = c} {n₂ = 65535} {m₂ = 16} a d,
    )

module _ (n s numbers bytes c : ℕ) (e : c ≡ 2 ^ s) where
  pub fit-numbers : numbers < c * (n * 4) → false ≡ set_colours_fit n s numbers bytes
  fit-numbers h = rw (← e, lt-leb (c * (n * 4)) numbers h)

  pub fit-bytes : c * (n * 4) ≤ numbers → leb (n * (s + 1) + n * c) bytes ≡ set_colours_fit n s numbers bytes
  fit-bytes h = rw (← e, le-leb (c * (n * 4)) numbers h)

-- ---- where all checks pass

abbrev pub Accepted : List ℕ → List ℕ → ℕ → ℕ → Type 0
Accepted p r l m =
    PlanPasses p × RulesPass r × (state_count r ≤ 4) × (all_below (label_count r) (labels_within p) ≡ true)
    × (set_numbers_length (node_count p) (state_count r) ≤ l) × (set_bytes_length (node_count p) (state_count r) ≤ m)

module _ (p r : List ℕ) (l m : ℕ) (ok : first_no (rule_colour_checks p r l m) ≡ 0) where
  pub accepted : Accepted p r l m
  unfolding rule_colour_checks
  accepted =
      let n : ℕ = node_count p in
      let s : ℕ = state_count r in
      let room : List Check = check 11 (set_colours_fit n s l m) ∷ [] in
      let labels : List Check = label_check p (label_count r) ∷ room in
      let states : List Check = check 27 (set_states_fit s) ∷ labels in
      let two : first_no (rule_checks r ++ states) ≡ 0 = first_no-append-right (plan_checks p) (rule_checks r ++ states)
      (plan-numbered p) ok in
      let three : first_no states ≡ 0 = first_no-append-right (rule_checks r) states (rules-numbered r) two in
      let four : first_no labels ≡ 0 = first_no-tail 27 (set_states_fit s) labels (omega arith) three in
      let five : first_no room ≡ 0 = first_no-tail 10 (all_below (label_count r) (labels_within p)) room (omega arith) four in
      let fits : set_colours_fit n s l m ≡ true = first_no-head 11 (set_colours_fit n s l m) [] (omega arith) five in
      let a : Bool = leb (set_numbers_length n s) l in
      let b : Bool = leb (set_bytes_length n s) m in (
        plan-passes p (first_no-append-left (plan_checks p) (rule_checks r ++ states) (plan-numbered p) ok),
        rules-pass r (first_no-append-left (rule_checks r) states (rules-numbered r) two),
        leb-true s 4 (first_no-head 27 (set_states_fit s) labels (omega arith) three),
        first_no-head 10 (all_below (label_count r) (labels_within p)) room (omega arith) four,
        leb-true (set_numbers_length n s) l (and_left a b fits),
        leb-true (set_bytes_length n s) m (and_right a b fits),
      )

  pub table-passed : first_no (rule_table_checks p r) ≡ 0
  table-passed = passes-rule-table p r accepted.0 accepted.1 accepted.3

  pub part-args : (n s k : ℕ) → n ≡ node_count p → s ≡ state_count r → k ≡ label_count r → PartArgs p r n s k l m
  part-args n s k a b c = record {
    passed = ok;
    nodes = a;
    states = b;
    labels = c;
    few = rw b accepted.2;
    label_most = rw c accepted.1.labels_most;
    plan_exact = rw a accepted.0.exact;
    rules_exact = rw (b, c) accepted.1.exact;
  }

-- ---- how long what the build writes is

module _ (p r : List ℕ) (P : PlanPasses p) where
  pub length-set_numbers : length (built_set_numbers p r) ≡ set_numbers_length (node_count p) (state_count r)
  length-set_numbers =
      length-numbers (2 ^ state_count r) (set_step (rule_automaton r) (plan_tree p)) (plan_tree p)
      ∙ ap (λ (n : ℕ). 2 ^ state_count r * (n * 4)) (size-plan_tree p P)

  pub length-set_copies : length (built_set_copies p r) ≡ copies_length (node_count p) (2 ^ state_count r)
  length-set_copies =
      length-copies (2 ^ state_count r) (set_step (rule_automaton r) (plan_tree p)) (plan_tree p)
      (set_step-below (rule_automaton r) (plan_tree p))
      ∙ ap (λ (n : ℕ). n * 2 ^ state_count r) (size-plan_tree p P)

  pub length-set_bytes : length (built_set_bytes p r) ≡ set_bytes_length (node_count p) (state_count r)
  length-set_bytes =
      let e : length (built_set_bytes p r) ≡ length (built_state_table p r) + length (built_set_copies p r) =
      length-append (built_state_table p r) (built_set_copies p r) in
      omega (arith, length-built_states p P r, length-set_copies)

-- ---- as built

-- an accepted build leaves any buffers as built
pub built-coloured : (p r numbers bytes numbers' bytes' : List ℕ) (answer : Result Unit Refusal)
    → BuildDone (first_no (rule_colour_checks p r (length numbers) (length bytes))) (built_set_numbers p r)
    (built_set_bytes p r) numbers bytes answer numbers' bytes'
    → answer_number answer ≡ 0 → RuleColoured p r numbers' bytes'
built-coloured p r numbers bytes numbers' bytes' answer D e =
    let q = built-lists _ (built_set_numbers p r) (built_set_bytes p r) numbers bytes answer numbers' bytes' D e in
    let A : Accepted p r (length numbers) (length bytes) = accepted p r (length numbers) (length bytes) q.0 in
    record {
      accepted = table-passed p r (length numbers) (length bytes) q.0;
      few = le-leb (state_count r) 4 A.2;
      numbers_are = rw q.1 (take_at (built_set_numbers p r) _ (set_numbers_length (node_count p) (state_count r))
          (length-set_numbers p r A.0));
      bytes_are = rw q.2 (take_at (built_set_bytes p r) _ (set_bytes_length (node_count p) (state_count r))
          (length-set_bytes p r A.0));
    }
