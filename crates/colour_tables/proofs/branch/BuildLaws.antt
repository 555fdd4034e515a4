-- Plans and branch tables that pass 2 to 11 for tables of colours, and what is handed on of them.
--     fit-numbers, fit-bytes   check 11 as the code computes it
--     room-no, room-good       the answer after 2 to 10
--     accepted                 what the checks say of inputs that pass
--     part-args, parts-filled  N, S and K as read, and the parts as what the writers need
--     parts-written            what the writers leave is what the build has to write
--     built-coloured           the buffers afterwards are as built, with any excess
use Prim.Native.Nat.{ℕ, ◌+◌, ◌-◌, ◌*◌, ◌≤◌, ◌<◌}
use mathlib.Core.Path.{◌≡◌, sym, ap, ap₂, ◌∙◌}
use mathlib.Core.Bool.{Bool, true, false}
use mathlib.Core.List.{List, [], ◌++◌}
use native.Mathlib.Omega.{arith}
use native.Mathlib.Nat.{mul-le-mul}
use lib.Dec.{leb}
use lib.ListN.{length, take, drop}
use lib.Seq.{take_at}
use borrow.Author.Tests.{le-leb, lt-leb, leb-true}
use Rattle.list_laws.specs.Tests.{all_below}
use Rattle.list_laws.proofs.BoolLaws.{and_left, and_right}
use Rattle.trees.specs.Tree.{Tree, size}
use Rattle.formats.specs.Plan.{node_count, labels_within, kinds_in, plan_tree}
use Rattle.formats.specs.Rules.{state_count, label_count, branch_steps, branch_automaton}
use Rattle.formats.specs.Checks.{first_no, branch_table_checks}
use Rattle.formats.proofs.CheckLaws.{first_no-none, first_no-yes, first_no-no, first_no-head, first_no-append-left}
use Rattle.formats.proofs.CheckLaws.{first_no-append-right}
use Rattle.formats.proofs.PlanLaws.{length-labels_within, kinds-plan_tree, labels-plan_tree, size-plan_tree}
use Rattle.formats.specs.Passing.{PlanPasses}
use Rattle.formats.proofs.PlanLaws.{labels-part, kinds-part}
use Rattle.formats.proofs.BranchLaws.{BranchPasses, length-branch_steps, step_below, steps-part}
use Rattle.formats.proofs.InputLaws.{branch-table-passes, branch-table-numbered, label_below}
use Rattle.formats.proofs.InputAnswers.{last-part}
use Rattle.colours.specs.Words.{word_step}
use Rattle.colour_tables.specs.Layout.{colour_numbers_length, copies_length}
use Rattle.colour_tables.proofs.LayoutLaws.{length-numbers, length-copies}
use Rattle.std.specs.Prelude.{Result}
use Rattle.formats.specs.Refusals.{answer_number}
use Rattle.formats.specs.declared.refusals.Refusal.{Refusal}
use Rattle.tables.specs.Answers.{BuildDone}
use Rattle.tables.proofs.BuildLaws.{built-lists}
use Rattle.colour_tables.specs.branch.Build.{colours_fit, branch_colour_checks, built_colour_numbers, built_copies}
use Rattle.colour_tables.specs.branch.Build.{BranchColoured}
use Rattle.colour_tables.specs.branch.inner.Filled.{FillArgs, ColoursFilled, Filled, PartArgs, ColoursWritten}

-- ---- check 11

pub products : (n s : ℕ) → n ≤ 65535 → s ≤ 16 → (s * (n * 4) ≤ 4194240) × (n * s ≤ 1048560)
products n s a b = (
  mul-le-mul {n₁ = s} {m₁ = n * 4} {n₂ = 16} {m₂ = 262140} b (omega arith),
  mul-le-mul {n₁ = n} {m₁ = s} {n₂ = 65535} {m₂ = 16} a b,
)

module _ (n s numbers bytes : ℕ) where
  pub fit-numbers : numbers < s * (n * 4) → false ≡ colours_fit n s numbers bytes
  fit-numbers h = rw (lt-leb (s * (n * 4)) numbers h)

  pub fit-bytes : s * (n * 4) ≤ numbers → leb (n * s) bytes ≡ colours_fit n s numbers bytes
  fit-bytes h = rw (le-leb (s * (n * 4)) numbers h)

module _ (p r : List ℕ) (numbers bytes : ℕ) (none : first_no (branch_table_checks p r) ≡ 0) (n s : ℕ) (a : n ≡ node_count p)
    (b : s ≡ state_count r) (x : Bool) (result : x ≡ colours_fit n s numbers bytes) where
  fit_is : colours_fit (node_count p) (state_count r) numbers bytes ≡ x
  fit_is = ap₂ (λ (i j : ℕ). colours_fit i j numbers bytes) (sym a) (sym b) ∙ sym result

  pub room-no : x ≡ false → 11 ≡ first_no (branch_colour_checks p r numbers bytes)
  unfolding branch_colour_checks
  room-no f =
      last-part (branch_table_checks p r) _ (branch-table-numbered p r) none 11
      (sym (first_no-no 11 (colours_fit (node_count p) (state_count r) numbers bytes) [] (fit_is ∙ f)))

  pub room-good : x ≡ true → 0 ≡ first_no (branch_colour_checks p r numbers bytes)
  unfolding branch_colour_checks
  room-good f =
      last-part (branch_table_checks p r) _ (branch-table-numbered p r) none 0
      (sym (first_no-yes 11 (colours_fit (node_count p) (state_count r) numbers bytes) [] (fit_is ∙ f)
      ∙ first_no-none))

-- ---- where all checks pass

abbrev pub Accepted : List ℕ → List ℕ → ℕ → ℕ → Type 0
Accepted p r l m =
    PlanPasses p × BranchPasses r × (all_below (label_count r) (labels_within p) ≡ true)
    × (colour_numbers_length (node_count p) (state_count r) ≤ l) × (copies_length (node_count p) (state_count r) ≤ m)

module _ (p r : List ℕ) (l m : ℕ) (ok : first_no (branch_colour_checks p r l m) ≡ 0) where
  pub table-passed : first_no (branch_table_checks p r) ≡ 0
  unfolding branch_colour_checks
  table-passed = first_no-append-left (branch_table_checks p r) _ (branch-table-numbered p r) ok

  fits : colours_fit (node_count p) (state_count r) l m ≡ true
  unfolding branch_colour_checks
  fits =
      first_no-head 11 (colours_fit (node_count p) (state_count r) l m) [] (omega arith)
      (first_no-append-right (branch_table_checks p r) _ (branch-table-numbered p r) ok)

  pub accepted : Accepted p r l m
  accepted =
      let t : PlanPasses p × BranchPasses r × (all_below (label_count r) (labels_within p) ≡ true) =
      branch-table-passes p r table-passed in
      let a : Bool = leb (colour_numbers_length (node_count p) (state_count r)) l in
      let b : Bool = leb (copies_length (node_count p) (state_count r)) m in
      (t.0, t.1, t.2, leb-true _ l (and_left a b fits), leb-true _ m (and_right a b fits))

  pub part-args : (n s k : ℕ) → n ≡ node_count p → s ≡ state_count r → k ≡ label_count r → PartArgs p r n s k l m
  part-args n s k a b c = record {
    passed = ok;
    nodes = a;
    states = b;
    labels = c;
    plan_exact = rw a accepted.0.exact;
    branch_exact = rw (b, c) accepted.1.exact;
  }

  runs-filled : FillArgs (labels_within p) (kinds_in p) (branch_steps r) (state_count r) (label_count r) l m
  runs-filled =
      let A : Accepted p r l m = accepted in
      let z : length (labels_within p) ≡ node_count p = length-labels_within p A.0 in
      record {
        tree = plan_tree p;
        kinds = kinds-plan_tree p A.0;
        labels = labels-plan_tree p A.0;
        most = rw z A.0.most;
        few = A.1.states_most;
        label_most = A.1.labels_most;
        numbers_room = rw z A.3;
        bytes_room = rw z A.4;
        steps_room = omega (arith, length-branch_steps r A.1);
        steps_below = step_below r A.1;
        labels_below = label_below p r A.1.labels_least A.2;
      }

-- ---- the same of the parts that are handed on

filled-same : {st st' : List ℕ} {s s' k k' : ℕ} (t : Tree) (a b a' b' : List ℕ) → st ≡ st' → s ≡ s' → k ≡ k'
    → ColoursFilled st s k t a b a' b' → ColoursFilled st' s' k' t a b a' b'
filled-same t a b a' b' x y z F = rw (← x, ← y, ← z) F

module _ (p r : List ℕ) (n s k l m : ℕ) (args : PartArgs p r n s k l m) where
  labels-is : take (12 + n - 12) (drop 12 p) ≡ labels_within p
  labels-is = labels-part p n args.nodes

  kinds-is : take (length p - (12 + n)) (drop (12 + n) p) ≡ kinds_in p
  kinds-is = kinds-part p n (accepted p r l m args.passed).0 args.nodes

  steps-is : take (16 + s * k - 16) (drop 16 r) ≡ branch_steps r
  steps-is = steps-part r s k args.states args.labels

  pub parts-filled : FillArgs (take (12 + n - 12) (drop 12 p)) (take (length p - (12 + n)) (drop (12 + n) p))
      (take (16 + s * k - 16) (drop 16 r)) s k l m
  parts-filled = rw (labels-is, kinds-is, steps-is, args.states, args.labels) (runs-filled p r l m args.passed)

  pub parts-written : (a b a' b' : List ℕ)
      → Filled (take (12 + n - 12) (drop 12 p)) (take (length p - (12 + n)) (drop (12 + n) p))
      (take (16 + s * k - 16) (drop 16 r)) s k a b a' b'
      → ColoursWritten p r a b a' b'
  parts-written a b a' b' F =
      let P : PlanPasses p = (accepted p r l m args.passed).0 in
      let R : BranchPasses r = (accepted p r l m args.passed).1 in
      let t : Tree = plan_tree p in
      let G : ColoursFilled (branch_steps r) (state_count r) (label_count r) t a b a' b' =
      filled-same t a b a' b' steps-is args.states args.labels
      (F t (kinds-plan_tree p P ∙ sym kinds-is) (labels-plan_tree p P ∙ sym labels-is)) in
      record {
        numbers_are = G.numbers_are ∙ ap (λ (i : ℕ). built_colour_numbers p r ++ drop i a)
            (sym (length-numbers (state_count r) (word_step (branch_automaton r) t) t));
        bytes_are = G.bytes_are ∙ ap (λ (i : ℕ). built_copies p r ++ drop i b)
            (sym (length-copies (state_count r) (word_step (branch_automaton r) t) t (λ v q h. step_below r R _)));
      }

-- ---- as built

-- an accepted build leaves any buffers as built
pub built-coloured : (p r numbers bytes numbers' bytes' : List ℕ) (answer : Result Unit Refusal)
    → BuildDone (first_no (branch_colour_checks p r (length numbers) (length bytes))) (built_colour_numbers p r)
    (built_copies p r)
    numbers bytes answer numbers' bytes'
    → answer_number answer ≡ 0 → BranchColoured p r numbers' bytes'
built-coloured p r numbers bytes numbers' bytes' answer D e =
    let q = built-lists _ (built_colour_numbers p r) (built_copies p r) numbers bytes answer numbers' bytes' D e in
    let A : Accepted p r (length numbers) (length bytes) = accepted p r (length numbers) (length bytes) q.0 in
    let t : Tree = plan_tree p in
    let z : size t ≡ node_count p = size-plan_tree p A.0 in
    let s : ℕ = state_count r in
    record {
      accepted = table-passed p r (length numbers) (length bytes) q.0;
      numbers_are = rw q.1 (take_at (built_colour_numbers p r) _ (colour_numbers_length (node_count p) s)
          (length-numbers s (word_step (branch_automaton r) t) t ∙ ap (λ (n : ℕ). s * (n * 4)) z));
      bytes_are = rw q.2 (take_at (built_copies p r) _ (copies_length (node_count p) s)
          (length-copies s (word_step (branch_automaton r) t) t (λ v x h. step_below r A.1 _)
          ∙ ap (λ (n : ℕ). n * s) z));
    }
