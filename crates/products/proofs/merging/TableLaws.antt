-- The parts of the merged table, put together.
--     leaves-args, inner-args, marks-args    what each part asks is there
--     table-written                          the four parts, one behind the other, are the merged table
use Prim.Native.Nat.{ℕ, zero, suc, ◌+◌, ◌*◌, ◌/◌, ◌%◌, ◌-◌, ◌≤◌, ◌<◌}
use mathlib.Core.Path.{◌≡◌, refl, sym, ap, ap₂, ◌∙◌, subst}
use mathlib.Core.Bool.{◌&&◌}
use mathlib.Core.List.{List, ◌++◌, append_assoc}
use native.Mathlib.Omega.{arith}
use lib.Arith.{digits_lt}
use lib.Dec.{eqb}
use lib.ListN.{length, get_or, take, drop, length-append}
use Rattle.list_laws.specs.Rows.{tabulate}
use Rattle.list_laws.proofs.RowLaws.{length-tabulate, tabulate-ext}
use Rattle.formats.specs.Rules.{state_count, label_count, leaf_states, inner_states, rule_marks}
use Rattle.formats.proofs.RuleAnswers.{product-inner}
use Rattle.formats.proofs.RuleLaws.{RulesPass, rules-pass, leaf-state-below, inner-state-below, mark-below}
use Rattle.formats.proofs.RuleLaws.{length-leaf_states, length-inner_states, length-rule_marks, leaves-part, inner-part}
use Rattle.formats.proofs.RuleLaws.{marks-part}
use Rattle.products.proofs.RulePairs.{pair-most}
use Rattle.products.specs.merging.Merged.{rule_head, rule_bytes, merged_states, bit, merged_leaf, merged_inner, merged_mark}
use Rattle.products.specs.merging.Merged.{merged_bytes}
use Rattle.products.specs.merging.Writes.{written, leaf_cell, inner_cell, mark_cell, LeavesArgs, Inner}
use Rattle.products.specs.merging.Writes.{InnerArgs, MarksArgs, TableArgs}
use Rattle.products.proofs.merging.WriteLaws.{length-written, written_behind}

bits-and : (x y : ℕ) → x < 2 → y < 2 → x * y ≡ bit (eqb x 1 && eqb y 1)
bits-and zero zero h i = refl
bits-and zero (suc zero) h i = refl
bits-and zero (suc (suc y)) h i = absurd (omega arith)
bits-and (suc zero) zero h i = refl
bits-and (suc zero) (suc zero) h i = refl
bits-and (suc zero) (suc (suc y)) h i = absurd (omega arith)
bits-and (suc (suc x)) y h i = absurd (omega arith)

head-length : (s k : ℕ) → length (rule_head s k) ≡ 20
unfolding rule_head
head-length s k = refl

module _ {first second : List ℕ} {s1 s2 k : ℕ} {l : List ℕ} (A : TableArgs first second s1 s2 k l) where
  P : RulesPass first
  P = rules-pass first A.first_passes

  Q : RulesPass second
  Q = rules-pass second A.second_passes

  abbrev S : ℕ
  S = s1 * s2

  product_is : S ≡ merged_states first second
  product_is = ap₂ (λ (x y : ℕ). x * y) A.first_states A.second_states

  pair_is : s1 * s2 ≤ 256
  pair_is = subst (λ (x : ℕ). x ≤ 256) (sym product_is) (pair-most first second P Q)

  inner-size : S * k * S ≤ 16384
  inner-size = (product-inner S k A.product A.labels_most).1

  -- ---- the parts of the two tables, as they are handed on

  pub leaves-args : {x y z : List ℕ} → x ≡ leaf_states first → y ≡ leaf_states second → length z ≡ length l
      → LeavesArgs x y s2 20 z
  leaves-args p q e =
      let m : length (leaf_states first) ≡ k = length-leaf_states first P ∙ sym A.first_labels in
      let n : length (leaf_states second) ≡ k = length-leaf_states second Q ∙ sym A.second_labels in
      rw (p, q) (record {
        room = record { inside = omega (arith, A.room); small = omega (arith, A.labels_most) };
        same = m ∙ sym n;
        few = A.second_most;
        small = λ i.
            let h : leaf_cell (leaf_states first) (leaf_states second) s2 i < s1 * s2 =
            digits_lt (omega (arith, leaf-state-below first P i, A.first_states)) (omega
            (arith, leaf-state-below second Q i, A.second_states)) in
            omega (arith, pair_is);
      })

  inner-runs : Inner (inner_states first) (inner_states second) s1 s2 k
  inner-runs = record {
    first_least = omega (arith, P.states-least, A.first_states);
    first_most = A.first_most;
    second_least = omega (arith, Q.states-least, A.second_states);
    second_most = A.second_most;
    labels_least = omega (arith, P.labels_least, A.first_labels);
    labels_most = A.labels_most;
    product = A.product;
    first_length = length-inner_states first P ∙ sym (ap₂ (λ (x y : ℕ). x * y * x) A.first_states A.first_labels);
    second_length = length-inner_states second Q ∙ sym (ap₂ (λ (x y : ℕ). x * y * x) A.second_states A.second_labels);
    small = λ i j.
        let h : get_or (inner_states first) i 0 * s2 + get_or (inner_states second) j 0 < s1 * s2 =
        digits_lt (omega (arith, inner-state-below first P i, A.first_states)) (omega
        (arith, inner-state-below second Q j, A.second_states)) in
        omega (arith, pair_is);
  }

  pub inner-args : {x y z : List ℕ} → x ≡ inner_states first → y ≡ inner_states second → length z ≡ length l
      → InnerArgs x y s1 s2 k (20 + k) z
  inner-args p q e = rw (p, q) (record {
    inner = inner-runs;
    room = record { inside = omega (arith, A.room); small = omega (arith, inner-size, A.labels_most) };
  })

  pub marks-args : {x y z : List ℕ} {m : ℕ} → x ≡ rule_marks first → y ≡ rule_marks second → m ≡ S * k * S
      → length z ≡ length l
      → MarksArgs x y s2 S (20 + k + m) z
  marks-args p q f e = rw (p, q) (record {
    room = record { inside = omega (arith, A.room); small = omega (arith, inner-size, A.labels_most, A.product) };
    least = omega (arith, Q.states-least, A.second_states);
    states = (let n : length (rule_marks first) ≡ s1 = length-rule_marks first P ∙ sym A.first_states in ap
        (λ (v : ℕ). v * s2) (sym n));
    width = length-rule_marks second Q ∙ sym A.second_states;
    first_bit = mark-below first P;
    second_bit = mark-below second Q;
  })

  pub leaves-first : take (20 + k - 20) (drop 20 first) ≡ leaf_states first
  leaves-first = leaves-part first k A.first_labels

  pub leaves-second : take (20 + k - 20) (drop 20 second) ≡ leaf_states second
  leaves-second = leaves-part second k A.second_labels

  pub inner_first : {m : ℕ} → m ≡ s1 * k * s1 → take (20 + k + m - (20 + k)) (drop (20 + k) first) ≡ inner_states first
  inner_first e = rw e (inner-part first s1 k A.first_states A.first_labels)

  pub inner-second : {m : ℕ} → m ≡ s2 * k * s2 → take (20 + k + m - (20 + k)) (drop (20 + k) second) ≡ inner_states second
  inner-second e = rw e (inner-part second s2 k A.second_states A.second_labels)

  pub marks-first : {m : ℕ} → m ≡ s1 * k * s1 → take (length first - (20 + k + m)) (drop (20 + k + m) first) ≡ rule_marks first
  marks-first e = rw e (marks-part first s1 k P A.first_states A.first_labels)

  pub marks-second : {m : ℕ} → m ≡ s2 * k * s2
      → take (length second - (20 + k + m)) (drop (20 + k + m) second) ≡ rule_marks second
  marks-second e = rw e (marks-part second s2 k Q A.second_states A.second_labels)

  -- ---- what is written is the merged table

  abbrev lv : List ℕ
  lv = tabulate k (leaf_cell (leaf_states first) (leaf_states second) s2)

  abbrev inn : List ℕ
  inn = tabulate (S * k * S) (inner_cell (inner_states first) (inner_states second) s1 s2 k)

  abbrev mk : List ℕ
  mk = tabulate S (mark_cell (rule_marks first) (rule_marks second) s2)

  leaf-cells : lv ≡ tabulate (label_count first) (merged_leaf first second)
  leaf-cells =
      ap (λ (n : ℕ). tabulate n (leaf_cell (leaf_states first) (leaf_states second) s2)) A.first_labels
      ∙ tabulate-ext (label_count first) _ _
      (λ a h. ap (λ (x : ℕ). get_or (leaf_states first) a 0 * x + get_or (leaf_states second) a 0) A.second_states)

  inner-cells : inn ≡ tabulate (merged_states first second * label_count first * merged_states first second)
      (merged_inner first second)
  inner-cells =
      ap₂ (λ (x y : ℕ). tabulate (x * y * x) (inner_cell (inner_states first) (inner_states second) s1 s2 k)) product_is
      A.first_labels
      ∙ tabulate-ext (merged_states first second * label_count first * merged_states first second) _ _
      (λ i h. cc (A.first_states, A.second_states, A.first_labels, A.second_labels))

  mark-cells : mk ≡ tabulate (merged_states first second) (merged_mark first second)
  mark-cells =
      ap (λ (n : ℕ). tabulate n (mark_cell (rule_marks first) (rule_marks second) s2)) product_is
      ∙ tabulate-ext (merged_states first second) _ _
      (λ c h. ap (λ (x : ℕ). get_or (rule_marks first) (c / x) 0 * get_or (rule_marks second) (c % x) 0) A.second_states
      ∙ bits-and (get_or (rule_marks first) (c / state_count second) 0) (get_or (rule_marks second) (c % state_count second) 0)
      (mark-below first P (c / state_count second)) (mark-below second Q (c % state_count second)))

  bytes_are : ((rule_head S k ++ lv) ++ inn) ++ mk ≡ merged_bytes first second
  unfolding merged_bytes rule_bytes
  bytes_are =
      append_assoc (rule_head S k ++ lv) inn mk
      ∙ append_assoc (rule_head S k) lv (inn ++ mk)
      ∙ ap₂ (λ (x y : ℕ). rule_head x y ++ (lv ++ (inn ++ mk))) product_is A.first_labels
      ∙ ap₂ (λ (x y : List ℕ). rule_head (merged_states first second) (label_count first) ++ (x ++
      (y ++ mk))) leaf-cells inner-cells
      ∙ ap (λ (x : List ℕ). rule_head (merged_states first second) (label_count first)
      ++ (tabulate (label_count first) (merged_leaf first second)
      ++ (tabulate (merged_states first second * label_count first * merged_states first second)
      (merged_inner first second) ++ x))) mark-cells

  module _ {l1 : List ℕ} (e1 : l1 ≡ written 0 (rule_head S k) l) where
    pub length-1 : length l1 ≡ length l
    length-1 = ap length e1 ∙ length-written 0 (rule_head S k) l (omega (arith, head-length S k, A.room))

    module _ {l2 x y : List ℕ} (px : x ≡ leaf_states first) (py : y ≡ leaf_states second)
        (e2 : l2 ≡ written 20 (tabulate (length x) (leaf_cell x y s2)) l1) where
      length-front-2 : length (rule_head S k ++ lv) ≡ 20 + k
      length-front-2 = length-append (rule_head S k) lv ∙ omega (
        arith,
        head-length S k,
        length-tabulate k (leaf_cell
            (leaf_states first) (leaf_states second) s2),
      )

      leaves-are : tabulate (length x) (leaf_cell x y s2) ≡ lv
      leaves-are =
          ap₂ (λ (u v : List ℕ). tabulate (length u) (leaf_cell u v s2)) px py
          ∙ ap (λ (n : ℕ). tabulate n (leaf_cell (leaf_states first) (leaf_states second) s2)) (length-leaf_states first P ∙ sym
          A.first_labels)

      written_2 : l2 ≡ written 0 (rule_head S k ++ lv) l
      written_2 =
          e2
          ∙ ap₂ (λ (u v : List ℕ). written 20 u v) leaves-are e1
          ∙ written_behind 20 (rule_head S k) lv l (head-length S k) (omega (arith, A.room))

      pub length-2 : length l2 ≡ length l
      length-2 = ap length written_2 ∙ length-written 0 (rule_head S k ++ lv) l (omega (arith, length-front-2, A.room))

      module _ {l3 f g : List ℕ} (pf : f ≡ inner_states first) (pg : g ≡ inner_states second)
          (e3 : l3 ≡ written (20 + k) (tabulate (S * k * S) (inner_cell f g s1 s2 k)) l2) where
        length-front-3 : length ((rule_head S k ++ lv) ++ inn) ≡ 20 + k + S * k * S
        length-front-3 =
            length-append (rule_head S k ++ lv) inn
            ∙ omega (
              arith,
              length-front-2,
              length-tabulate (S * k * S) (inner_cell (inner_states first)
                  (inner_states second) s1 s2 k),
            )

        written-3 : l3 ≡ written 0 ((rule_head S k ++ lv) ++ inn) l
        written-3 =
            e3
            ∙ ap₂ (λ (u v : List ℕ). written (20 + k) (tabulate (S * k * S) (inner_cell u v s1 s2 k)) l2) pf pg
            ∙ ap (written (20 + k) inn) written_2
            ∙ written_behind (20 + k) (rule_head S k ++ lv) inn l length-front-2 (omega (arith, A.room))

        pub length-3 : length l3 ≡ length l
        length-3 = ap length written-3 ∙ length-written 0 ((rule_head S k ++ lv) ++ inn) l (omega
            (arith, length-front-3, A.room))

        pub table-written : {l4 u v : List ℕ} {m : ℕ} → u ≡ rule_marks first → v ≡ rule_marks second → m ≡ S * k * S
            → l4 ≡ written (20 + k + m) (tabulate S (mark_cell u v s2)) l3 → l4 ≡ written 0 (merged_bytes first second) l
        table-written {l4} {u} {v} {m} pu pv em e4 =
            e4
            ∙ ap (λ (n : ℕ). written (20 + k + n) (tabulate S (mark_cell u v s2)) l3) em
            ∙ ap₂ (λ (x y : List ℕ). written (20 + k + S * k * S) (tabulate S (mark_cell x y s2)) l3) pu pv
            ∙ ap (written (20 + k + S * k * S) mk) written-3
            ∙ written_behind (20 + k + S * k * S) ((rule_head S k ++ lv) ++ inn) mk l length-front-3 (omega (arith, A.room))
            ∙ ap (λ (z : List ℕ). written 0 z l) bytes_are
