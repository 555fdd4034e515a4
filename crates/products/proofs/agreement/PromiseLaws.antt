-- From the named reply to the promise of agree.
--     refused-done                      a refusal meets it
--     first-no, second-no, labels-no    where each check refuses
--     answered-done                     the named reply meets it
use Prim.Native.Nat.{ℕ, ◌≤◌, ◌<◌}
use mathlib.Core.Path.{◌≡◌, refl, sym, ap, ◌∙◌, subst}
use mathlib.Core.List.{List, [], ◌∷◌}
use mathlib.Core.Option.{Option, none, some}
use native.Mathlib.Omega.{arith}
use lib.Dec.{eqb}
use lib.ListN.{length, get_or}
use borrow.Author.Tests.{eq-eqb, ne_eqb}
use Rattle.std.specs.Prelude.{Result, Ok, Err, IsErrAnd}
use Rattle.trees.specs.Automaton.{Automaton}
use Rattle.formats.specs.Rules.{label_count, rule_automaton}
use Rattle.formats.specs.Checks.{check, first_no, rule_checks}
use Rattle.formats.specs.Refusals.{refusal_number}
use Rattle.formats.specs.declared.refusals.Refusal.{Refusal}
use Rattle.formats.proofs.RuleLaws.{rules-pass, rules-numbered}
use Rattle.formats.proofs.CheckLaws.{first_no-yes, first_no-no, first_no-none, first_no-append-zero, first_no-append-no}
use Rattle.products.specs.agreement.Lines.{Line}
use Rattle.products.specs.agreement.Agreement.{Separates}
use Rattle.products.specs.agreement.Answer.{agree_checks, shown_count, shown_lines}
use Rattle.products.proofs.agreement.AgreeTheorem.{none-agree, agree-none, separating}
use Rattle.products.specs.declared.agreement.Agreement.{Agreement}
use Rattle.products.specs.agreement.Reply.{line_kind, line_label, line_left, line_right, reply_of, lines_in, shown_by}
use Rattle.products.specs.agreement.Reply.{shown_reply, AgreeDone}
use Rattle.products.proofs.agreement.ReplyLaws.{column-zero, lines-reply}

abbrev Unused : Agreement → ℕ → Type 0
Unused r i = (get_or r.kinds i 0 ≡ 0) × (get_or r.labels i 0 ≡ 0) × (get_or r.lefts i 0 ≡ 0) × (get_or r.rights i 0 ≡ 0)

reply-unused : (xs : List Line) (i : ℕ) → length xs ≤ i → Unused (reply_of xs) i
reply-unused xs i h =
    (column-zero line_kind refl xs i h, column-zero line_label refl xs i h, column-zero line_left refl xs i h, column-zero line_right refl xs i h)

unused-of : (r : Agreement) (xs : List Line) → r ≡ reply_of xs → (i : ℕ) → r.count ≤ i → Unused r i
unused-of r xs e = subst (λ (q : Agreement). (i : ℕ) → q.count ≤ i → Unused q i) (sym e) (reply-unused xs)

module _ (first second : List ℕ) where
  -- a is what is answered for a refusal r: as it is, or handed on by `?`
  pub refused-done : (r : Refusal) (a : Result Agreement Refusal) → IsErrAnd a (λ e. e ≡ r)
      → refusal_number r ≡ first_no (agree_checks first second) → AgreeDone first second a
  refused-done r (Ok b) h e = absurd h
  refused-done r (Err x) h e = record { number = ap refusal_number h ∙ e; replied = tt }

  pub first-no : (n : ℕ) → n ≡ first_no (rule_checks first) → (n ≡ 0 → ⊥) → n ≡ first_no (agree_checks first second)
  unfolding agree_checks
  first-no n e z = e ∙ sym (first_no-append-no (rule_checks first) _ (λ q. z (e ∙ q)))

  module _ (p : first_no (rule_checks first) ≡ 0) where
    pub second-no : (n : ℕ) → n ≡ first_no (rule_checks second) → (n ≡ 0 → ⊥) → n ≡ first_no (agree_checks first second)
    unfolding agree_checks
    second-no n e z =
        e ∙ sym (first_no-append-zero (rule_checks first) _ (rules-numbered first) p ∙ first_no-append-no (rule_checks second) _
        (λ q. z (e ∙ q)))

    module _ (q : first_no (rule_checks second) ≡ 0) where
      last-check : first_no (agree_checks first second) ≡ first_no (check 23 (eqb (label_count first) (label_count second)) ∷ [])
      unfolding agree_checks
      last-check = first_no-append-zero (rule_checks first) _ (rules-numbered first) p ∙ first_no-append-zero
          (rule_checks second) _ (rules-numbered second) q

      pub labels-no : (label_count first ≡ label_count second → ⊥) → 23 ≡ first_no (agree_checks first second)
      labels-no n = sym (last-check ∙ first_no-no 23 _ [] (ne_eqb (label_count first) (label_count second) n))

      abbrev A : Automaton
      A = rule_automaton first

      abbrev B : Automaton
      B = rule_automaton second

      separated : (n : ℕ) → shown_count first second ≡ some n → Separates A B (label_count first) (shown_lines first second n)
      separated n e = separating first second (rules-pass first p) (rules-pass second q) n e

      none-shown : (o : Option ℕ) → shown_count first second ≡ o → length (shown_by first second o) ≡ 0
          → shown_count first second ≡ none
      none-shown none e z = e
      none-shown (some n) e z = absurd (let S = separated n e in omega (arith, S.some_lines))

      some-shown : (o : Option ℕ) → shown_count first second ≡ o → 0 < length (shown_by first second o)
          → Separates A B (label_count first) (shown_by first second o)
      some-shown none e z = absurd (omega arith)
      some-shown (some n) e z = separated n e

      reply-separates : 0 < length (shown_reply first second) → Separates A B (label_count first) (shown_reply first second)
      unfolding shown_reply
      reply-separates h = some-shown (shown_count first second) refl h

      pub answered-done : (r : Agreement) → label_count first ≡ label_count second → r ≡ reply_of (shown_reply first second)
          → AgreeDone first second (Ok r)
      unfolding shown_reply
      answered-done r h e =
          let c : r.count ≡ length (shown_reply first second) = ap (λ (a : Agreement). a.count) e in
          record {
            number = sym (last-check ∙ first_no-yes 23 _ [] (eq-eqb (label_count first) (label_count second) h) ∙ first_no-none);
            replied = record {
              named = e;
              agreed = λ z. none-agree first second (rules-pass first p) (rules-pass second q)
                  (none-shown (shown_count first second) refl (sym c ∙ z));
              exactly = λ g. c ∙ ap (λ (o : Option ℕ). length (shown_by first second o))
                  (agree-none first second (rules-pass first p) (rules-pass second q) g);
              separates = λ z.
                  let S : Separates A B (label_count first) (shown_reply first second) = reply-separates (subst
                  (λ (x : ℕ). 0 < x) c z) in
                  subst (Separates A B (label_count first))
                  (sym (ap lines_in e ∙ lines-reply (shown_reply first second) S.at_most)) S;
              unused = unused-of r (shown_reply first second) e;
            };
          }
