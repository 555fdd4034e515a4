-- The promise of merge at each of its ends.
--     first-no, second-no, labels-no, states-no, room-no    where each check refuses
--     refused-done                                          a refusal meets the promise
--     Counted, counted                                      what is known past the first four checks
--     table-args, merged-done                               past the checks the table can be written, and then the promise is met
use Prim.Native.Nat.{ℕ, ◌+◌, ◌*◌, ◌≤◌, ◌<◌}
use mathlib.Core.Path.{◌≡◌, refl, sym, ap₂, ◌∙◌, subst}
use mathlib.Core.List.{List, [], ◌∷◌}
use native.Mathlib.Omega.{arith}
use lib.Dec.{eqb, leb}
use lib.ListN.{length}
use borrow.Author.Tests.{eq-eqb, ne_eqb, le-leb, lt-leb}
use Rattle.std.specs.Prelude.{Result, Ok, IsErrAnd}
use Rattle.formats.specs.Limits.{state_limit}
use Rattle.formats.specs.Rules.{state_count, label_count, rule_length}
use Rattle.formats.specs.Checks.{Check, check, first_no, rule_checks}
use Rattle.formats.specs.Refusals.{refusal_number}
use Rattle.formats.specs.declared.refusals.Refusal.{Refusal}
use Rattle.formats.proofs.RefusalLaws.{handed-on, number-not-0}
use Rattle.formats.proofs.RuleLaws.{RulesPass, rules-pass, rules-numbered}
use Rattle.formats.proofs.CheckLaws.{first_no-yes, first_no-no, first_no-none, first_no-append-zero, first_no-append-no}
use Rattle.products.proofs.RulePairs.{pair-most}
use Rattle.products.specs.merging.Merged.{merged_states, merged_bytes, merge_checks}
use Rattle.products.specs.merging.Writes.{written, TableArgs}
use Rattle.products.specs.merging.Answer.{MergeDone}
use Rattle.products.proofs.merging.WriteLaws.{written_all}

module _ (first second out : List ℕ) where
  -- a is what is answered for a refusal r: as it is, or handed on by `?`
  pub refused-done : (r : Refusal) (a : Result Unit Refusal) → IsErrAnd a (λ e. e ≡ r)
      → refusal_number r ≡ first_no (merge_checks first second (length out)) → MergeDone first second out a out
  refused-done r a h e = record {
    number = handed-on r a h ∙ e;
    accepted = λ q. absurd (number-not-0 r (sym (handed-on r a h) ∙ q));
    merged = λ q. absurd (number-not-0 r (sym (handed-on r a h) ∙ q));
    refused = λ _. refl;
  }

  pub first-no : (n : ℕ) → n ≡ first_no (rule_checks first) → (n ≡ 0 → ⊥) → n ≡ first_no (merge_checks first second (length out))
  unfolding merge_checks
  first-no n e z = e ∙ sym (first_no-append-no (rule_checks first) _ (λ q. z (e ∙ q)))

  module _ (p : first_no (rule_checks first) ≡ 0) where
    pub second-no : (n : ℕ) → n ≡ first_no (rule_checks second) → (n ≡ 0 → ⊥)
        → n ≡ first_no (merge_checks first second (length out))
    unfolding merge_checks
    second-no n e z =
        e
        ∙ sym (first_no-append-zero (rule_checks first) _ (rules-numbered first) p ∙ first_no-append-no (rule_checks second) _
        (λ q. z (e ∙ q)))

    module _ (q : first_no (rule_checks second) ≡ 0) where
      abbrev room : Check
      room = check 11 (leb (rule_length (merged_states first second) (label_count first)) (length out))

      abbrev states : Check
      states = check 24 (leb (merged_states first second) state_limit)

      last-checks : first_no (merge_checks first second (length out))
          ≡ first_no (check 23 (eqb (label_count first) (label_count second)) ∷ states ∷ room ∷ [])
      unfolding merge_checks
      last-checks =
          first_no-append-zero (rule_checks first) _ (rules-numbered first) p
          ∙ first_no-append-zero (rule_checks second) _ (rules-numbered second) q

      pub labels-no : (label_count first ≡ label_count second → ⊥) → 23 ≡ first_no (merge_checks first second (length out))
      labels-no n = sym (last-checks ∙ first_no-no 23 _ (states ∷ room ∷ []) (ne_eqb (label_count first) (label_count second) n))

      pub product-most : (s1 s2 : ℕ) → s1 ≡ state_count first → s2 ≡ state_count second → s1 * s2 ≤ 256
      product-most s1 s2 e f =
          subst (λ (x : ℕ). x ≤ 256) (sym (ap₂ (λ (x y : ℕ). x * y) e f)) (pair-most first second (rules-pass first p)
          (rules-pass second q))

      module _ (same : label_count first ≡ label_count second) (s1 s2 k : ℕ) (e1 : s1 ≡ state_count first)
          (e2 : s2 ≡ state_count second)
          (ek : k ≡ label_count first) where
        product_is : s1 * s2 ≡ merged_states first second
        product_is = ap₂ (λ (x y : ℕ). x * y) e1 e2

        after-labels : first_no (merge_checks first second (length out)) ≡ first_no (states ∷ room ∷ [])
        after-labels = last-checks ∙ first_no-yes 23 _ (states ∷ room ∷ []) (eq-eqb (label_count first)
            (label_count second) same)

        pub states-no : 16 < s1 * s2 → 24 ≡ first_no (merge_checks first second (length out))
        states-no h = sym (after-labels ∙ first_no-no 24 _ (room ∷ []) (lt-leb (merged_states first second) 16 (omega
            (arith, product_is))))

        pub labels_most : k ≤ 64
        labels_most = omega (arith, (rules-pass first p).labels_most)

        module _ (few : s1 * s2 ≤ 16) where
          after-states : first_no (merge_checks first second (length out)) ≡ first_no (room ∷ [])
          after-states = after-labels ∙ first_no-yes 24 _ (room ∷ []) (le-leb (merged_states first second) 16 (omega
              (arith, product_is)))

          length-is : rule_length (s1 * s2) k ≡ rule_length (merged_states first second) (label_count first)
          length-is = ap₂ rule_length product_is ek

          pub room-no : (m : ℕ) → m ≡ s1 * s2 * k * (s1 * s2) → length out < 20 + k + m + s1 * s2
              → 11 ≡ first_no (merge_checks first second (length out))
          room-no m em h = sym (after-states ∙ first_no-no 11 _ [] (lt-leb (rule_length (merged_states first second)
              (label_count first)) (length out) (omega (arith, length-is))))

          module _ (m : ℕ) (em : m ≡ s1 * s2 * k * (s1 * s2)) (fits : 20 + k + m + s1 * s2 ≤ length out) where
            pub table-args : TableArgs first second s1 s2 k out
            table-args =
                let P : RulesPass first = rules-pass first p in
                let Q : RulesPass second = rules-pass second q in
                record {
                  first_passes = p;
                  second_passes = q;
                  first_states = e1;
                  second_states = e2;
                  first_labels = ek;
                  second_labels = ek ∙ same;
                  first_most = omega (arith, P.states_most);
                  second_most = omega (arith, Q.states_most);
                  labels_most = labels_most;
                  product = few;
                  first_exact = P.exact ∙ sym (ap₂ rule_length e1 ek);
                  second_exact = Q.exact ∙ sym (ap₂ rule_length e2 (ek ∙ same));
                  room = omega arith;
                }

            pub merged-done : (r : List ℕ) → r ≡ written 0 (merged_bytes first second) out
                → MergeDone first second out (Ok tt) r
            merged-done r e = record {
              number = sym (after-states ∙ first_no-yes 11 _ [] (le-leb (rule_length (merged_states first second)
                  (label_count first)) (length out) (omega (arith, length-is))) ∙ first_no-none);
              accepted = λ _. refl;
              merged = λ _. e ∙ written_all (merged_bytes first second) out;
              refused = λ z. absurd (z refl);
            }

-- past the first four checks: what they and the four numbers read say
pub record Counted (f g : List ℕ) (s1 s2 k : ℕ) : Type 0 where
  pub one : first_no (rule_checks f) ≡ 0
  pub two : first_no (rule_checks g) ≡ 0
  pub same : label_count f ≡ label_count g
  pub of_one : s1 ≡ state_count f
  pub of_two : s2 ≡ state_count g
  pub labels : k ≡ label_count f

pub counted : {f g : List ℕ} {k j s1 s2 : ℕ} → 0 ≡ first_no (rule_checks f) → 0 ≡ first_no (rule_checks g)
    → k ≡ label_count f → j ≡ label_count g → j ≡ k → s1 ≡ state_count f → s2 ≡ state_count g → Counted f g s1 s2 k
counted p q ek ej z e1 e2 = record {
  one = sym p;
  two = sym q;
  same = sym ek ∙ sym z ∙ ej;
  of_one = e1;
  of_two = e2;
  labels = ek;
}
