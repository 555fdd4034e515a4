-- Branch tables decode both ways, as plans and rule tables do.
--     branch_bytes-passes, branch_bytes-automaton   the bytes of runs whose values are inside pass 6 to 9, and their automaton is that of the runs
--     branch-runs       where 6 to 9 pass, the table's bytes are those of the runs that are read
--     branch-decodes    bytes pass 6 to 9 exactly when they are the table of an automaton, given by its runs, whose values are inside
use Prim.Native.Nat.{ℕ, ◌+◌, ◌*◌, ◌≤◌, ◌<◌}
use mathlib.Core.Path.{◌≡◌, refl, sym, ap, ap₂, ◌∙◌, subst}
use mathlib.Core.Bool.{true}
use mathlib.Core.Logic.{◌↔◌}
use mathlib.Core.List.{List, ◌++◌}
use native.Mathlib.Omega.{arith}
use lib.ListN.{length, get_or, take, drop, length-append, length-drop}
use lib.Seq.{take_at, drop_at, drop-drop, take_all}
use Rattle.list_laws.specs.Tests.{all_below}
use Rattle.list_laws.proofs.TestLaws.{all_below-all}
use Rattle.list_laws.proofs.SliceLaws.{rest-cut, append-both}
use Rattle.formats.specs.Bytes.{le32, le32_bytes}
use Rattle.formats.specs.Rules.{state_count, label_count, branch_length, branch_steps, branch_marks, word_automaton, branch_automaton}
use Rattle.formats.specs.Checks.{first_no, branch_checks}
use Rattle.formats.proofs.ByteLaws.{bytes-number, read-bytes}
use Rattle.formats.proofs.BranchLaws.{BranchPasses, branch-passes, passes-branch, length-branch_steps, length-branch_marks}
use Rattle.formats.proofs.RuleAnswers.{product-inner}
use Rattle.products.specs.merging.BranchBytes.{branch_bytes}

pub record BranchRuns (s k : ℕ) (st mk : List ℕ) : Type 0 where
  pub states-least : 1 ≤ s
  pub states_most : s ≤ 16
  pub labels_least : 1 ≤ k
  pub labels_most : k ≤ 64
  pub steps : length st ≡ s * k
  pub marks : length mk ≡ s
  pub steps_below : all_below s st ≡ true
  pub marks-below : all_below 2 mk ≡ true

-- ---- from the runs to bytes

module _ (s k : ℕ) (st mk : List ℕ) (R : BranchRuns s k st mk) where
  abbrev b : List ℕ
  b = branch_bytes s k st mk

  small : s * k ≤ 1024
  small = (product-inner s k R.states_most R.labels_most).0

  states_are : state_count b ≡ s
  unfolding branch_bytes
  states_are = bytes-number s (omega (arith, R.states_most))

  labels_are : label_count b ≡ k
  unfolding branch_bytes
  labels_are = bytes-number k (omega (arith, R.labels_most))

  steps-offset : le32 b 8 ≡ 16
  unfolding branch_bytes
  steps-offset = refl

  marks-offset : le32 b 12 ≡ 16 + s * k
  unfolding branch_bytes
  marks-offset = bytes-number (16 + s * k) (omega (arith, small))

  behind : drop 16 b ≡ st ++ mk
  unfolding branch_bytes
  behind = refl

  length-branch_bytes : length b ≡ branch_length s k
  unfolding branch_bytes
  length-branch_bytes = omega (arith, length-append st mk, R.steps, R.marks)

  steps-are : branch_steps b ≡ st
  steps-are = ap₂ (λ (x y : ℕ). take (x * y) (drop 16 b)) states_are labels_are ∙ ap (take (s * k)) behind ∙ take_at st mk (s * k) R.steps

  marks-are : branch_marks b ≡ mk
  marks-are =
      ap₂ (λ (x y : ℕ). take x (drop (16 + x * y) b)) states_are labels_are
      ∙ ap (take s) (sym (drop-drop (s * k) 16 b) ∙ ap (drop (s * k)) behind ∙ drop_at st mk (s * k) R.steps)
      ∙ take_all s mk (omega (arith, R.marks))

  pub branch_bytes-passes : BranchPasses (branch_bytes s k st mk)
  branch_bytes-passes = record {
    long = omega (arith, length-branch_bytes);
    states-least = omega (arith, states_are, R.states-least);
    states_most = omega (arith, states_are, R.states_most);
    labels_least = omega (arith, labels_are, R.labels_least);
    labels_most = omega (arith, labels_are, R.labels_most);
    steps-at = steps-offset;
    marks-at = marks-offset ∙ sym (ap₂ (λ (x y : ℕ). 16 + x * y) states_are labels_are);
    exact = length-branch_bytes ∙ sym (ap₂ branch_length states_are labels_are);
    steps_below = ap₂ all_below states_are steps-are ∙ R.steps_below;
    marks-below = ap (all_below 2) marks-are ∙ R.marks-below;
  }

  pub branch_bytes-automaton : branch_automaton (branch_bytes s k st mk) ≡ word_automaton s k st mk
  branch_bytes-automaton =
      ap₂ (λ (x y : ℕ). word_automaton x y (branch_steps b) (branch_marks b)) states_are labels_are
      ∙ ap₂ (word_automaton s k) steps-are marks-are

-- ---- from bytes to the runs

-- a table in its six runs; i and m are the lengths of the last two
six-runs : (r : List ℕ) (i m : ℕ) → length r ≡ 16 + i + m
    → take 4 r ++ (take 4 (drop 4 r) ++ (take 4 (drop 8 r) ++ (take 4 (drop 12 r) ++ (take i (drop 16 r) ++ take m (drop (16 + i) r))))) ≡ r
six-runs r i m h = sym
    (cut 0 4 4 refl (cut 4 4 8 refl (cut 8 4 12 refl (cut 12 4 16 refl (cut 16 i (16 + i) refl
    (sym (take_all m (drop (16 + i) r) (simp length-drop (omega arith)))))))))
  where
    cut : (a n b : ℕ) → b ≡ a + n → {t : List ℕ} → drop b r ≡ t → drop a r ≡ take n (drop a r) ++ t
    cut a n b e f = rest-cut r a n b e ∙ ap (λ (t : List ℕ). take n (drop a r) ++ t) f

module _ (r : List ℕ) (bytes : all_below 256 r ≡ true) (h : BranchPasses r) where
  below : (i : ℕ) → get_or r i 0 < 256
  below i = all_below-all 256 r bytes (omega arith) i

  pub branch-runs : branch_bytes (state_count r) (label_count r) (branch_steps r) (branch_marks r) ≡ r
  unfolding branch_bytes
  branch-runs =
      append-both (read-bytes r below 0 (omega (arith, h.long)))
      (append-both (read-bytes r below 4 (omega (arith, h.long)))
      (append-both (ap le32_bytes (sym h.steps-at) ∙ read-bytes r below 8 (omega (arith, h.long)))
      (append-both (ap le32_bytes (sym h.marks-at) ∙ read-bytes r below 12 (omega (arith, h.long))) refl)))
      ∙ six-runs r (state_count r * label_count r) (state_count r) h.exact

  runs_of : BranchRuns (state_count r) (label_count r) (branch_steps r) (branch_marks r)
  runs_of = record {
    states-least = h.states-least;
    states_most = h.states_most;
    labels_least = h.labels_least;
    labels_most = h.labels_most;
    steps = length-branch_steps r h;
    marks = length-branch_marks r h;
    steps_below = h.steps_below;
    marks-below = h.marks-below;
  }

pub branch-decodes : (r : List ℕ) → all_below 256 r ≡ true
    → (first_no (branch_checks r) ≡ 0) ↔ ((s k : ℕ) × (st mk : List ℕ) × BranchRuns s k st mk × (branch_bytes s k st mk ≡ r))
branch-decodes r bytes = (
  λ e.
      let h : BranchPasses r = branch-passes r e in
      (state_count r, label_count r, branch_steps r, branch_marks r, runs_of r bytes h, branch-runs r bytes h),
  λ w.
      subst (λ (l : List ℕ). first_no (branch_checks l) ≡ 0) w.5
      (passes-branch _ (branch_bytes-passes w.0 w.1 w.2 w.3 w.4)),
)
