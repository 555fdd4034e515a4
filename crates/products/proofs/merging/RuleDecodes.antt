-- Rule tables decode both ways, as plans do.
--     rule-runs       where 6 to 9 pass, the table's bytes are those of the runs that are read
--     rule-decodes    bytes pass 6 to 9 exactly when they are the table of an automaton, given by its runs, whose values are inside
-- That the automaton of the bytes is that of the runs: RuleBytesLaws, rule_bytes-automaton.
use Prim.Native.Nat.{ℕ, ◌+◌, ◌*◌, ◌<◌}
use mathlib.Core.Path.{◌≡◌, refl, sym, ap, ◌∙◌, subst}
use mathlib.Core.Bool.{true}
use mathlib.Core.Logic.{◌↔◌}
use mathlib.Core.List.{List, ◌++◌}
use native.Mathlib.Omega.{arith}
use lib.ListN.{length, get_or, take, drop, length-drop}
use lib.Seq.{take_all}
use Rattle.list_laws.specs.Tests.{all_below}
use Rattle.list_laws.proofs.TestLaws.{all_below-all}
use Rattle.list_laws.proofs.SliceLaws.{rest-cut, append-both}
use Rattle.formats.specs.Bytes.{le32_bytes}
use Rattle.formats.specs.Rules.{state_count, label_count, leaf_states, inner_states, rule_marks}
use Rattle.formats.specs.Checks.{first_no, rule_checks}
use Rattle.formats.proofs.ByteLaws.{read-bytes}
use Rattle.formats.proofs.RuleLaws.{RulesPass, rules-pass, pass-rules, length-leaf_states, length-inner_states, length-rule_marks}
use Rattle.products.specs.merging.Merged.{rule_head, rule_bytes}
use Rattle.products.proofs.merging.RuleBytesLaws.{Runs, rule_bytes-passes}

-- a table in its eight runs; k, i and m are the lengths of the last three
eight-runs : (r : List ℕ) (k i m : ℕ) → length r ≡ 20 + k + i + m
    → take 4 r ++ (take 4 (drop 4 r) ++ (take 4 (drop 8 r) ++ (take 4 (drop 12 r) ++ (take 4 (drop 16 r)
    ++ (take k (drop 20 r) ++ (take i (drop (20 + k) r) ++ take m (drop (20 + k + i) r))))))) ≡ r
eight-runs r k i m h = sym
    (cut 0 4 4 refl (cut 4 4 8 refl (cut 8 4 12 refl (cut 12 4 16 refl (cut 16 4 20 refl
    (cut 20 k (20 + k) refl (cut (20 + k) i (20 + k + i) refl
    (sym (take_all m (drop (20 + k + i) r) (simp length-drop (omega arith)))))))))))
  where
    cut : (a n b : ℕ) → b ≡ a + n → {t : List ℕ} → drop b r ≡ t → drop a r ≡ take n (drop a r) ++ t
    cut a n b e f = rest-cut r a n b e ∙ ap (λ (t : List ℕ). take n (drop a r) ++ t) f

module _ (r : List ℕ) (bytes : all_below 256 r ≡ true) (h : RulesPass r) where
  below : (i : ℕ) → get_or r i 0 < 256
  below i = all_below-all 256 r bytes (omega arith) i

  pub rule-runs : rule_bytes (state_count r) (label_count r) (leaf_states r) (inner_states r) (rule_marks r) ≡ r
  unfolding rule_bytes rule_head
  rule-runs =
      append-both (read-bytes r below 0 (omega (arith, h.long)))
      (append-both (read-bytes r below 4 (omega (arith, h.long)))
      (append-both (ap le32_bytes (sym h.leaves_at) ∙ read-bytes r below 8 (omega (arith, h.long)))
      (append-both (ap le32_bytes (sym h.inner-at) ∙ read-bytes r below 12 (omega (arith, h.long)))
      (append-both (ap le32_bytes (sym h.marks-at) ∙ read-bytes r below 16 (omega (arith, h.long))) refl))))
      ∙ eight-runs r (label_count r) (state_count r * label_count r * state_count r) (state_count r) h.exact

  runs_of : Runs (state_count r) (label_count r) (leaf_states r) (inner_states r) (rule_marks r)
  runs_of = record {
    states-least = h.states-least;
    states_most = h.states_most;
    labels_least = h.labels_least;
    labels_most = h.labels_most;
    leaves = length-leaf_states r h;
    inner = length-inner_states r h;
    marks = length-rule_marks r h;
    leaves-below = h.leaves-below;
    inner_below = h.inner_below;
    marks-below = h.marks-below;
  }

pub rule-decodes : (r : List ℕ) → all_below 256 r ≡ true
    → (first_no (rule_checks r) ≡ 0)
    ↔ ((s k : ℕ) × (lv inn mk : List ℕ) × Runs s k lv inn mk × (rule_bytes s k lv inn mk ≡ r))
rule-decodes r bytes = (
  λ e.
      let h : RulesPass r = rules-pass r e in
      (state_count r, label_count r, leaf_states r, inner_states r, rule_marks r, runs_of r bytes h, rule-runs r bytes h),
  λ w.
      subst (λ (l : List ℕ). first_no (rule_checks l) ≡ 0) w.6
      (pass-rules _ (rule_bytes-passes w.0 w.1 w.2 w.3 w.4 w.5)),
)
