-- The main theorems of the call agree (document 02, S-13), each read off its promise.
--     answer-is-agreement    accepted, 0 lines are shown exactly where every plan gets the same answer from both tables
--     answer-separates       accepted with lines shown, they are a separating plan of at most 256 lines, of least height
--     same-labels            accepted, the tables have the same K
--     renamed-reply, oddly-reply    computed: two tables that agree though different, and two that do not
use Prim.Native.Nat.{ℕ, ◌<◌}
use mathlib.Core.Path.{◌≡◌, sym, ap, ◌∙◌}
use mathlib.Core.List.{List, [], ◌∷◌}
use native.Mathlib.Omega.{arith}
use borrow.Author.Tests.{eqb-true}
use Rattle.std.specs.Prelude.{Ok}
use Rattle.formats.specs.Rules.{label_count, rule_automaton}
use Rattle.formats.specs.Checks.{rule_checks}
use Rattle.formats.proofs.RuleLaws.{rules-numbered}
use Rattle.formats.proofs.CheckLaws.{first_no-head, first_no-append-right}
use Rattle.products.specs.agreement.Lines.{leaf_line, inner_line}
use Rattle.products.specs.agreement.Agreement.{Agree, Separates}
use Rattle.products.specs.agreement.Answer.{agree_checks}
use Rattle.products.proofs.agreement.Samples.{after_leaf, after_leaf_renamed, oddly, renamed-agree, oddly-differs, oddly-shown}
use Rattle.products.specs.declared.agreement.Agreement.{Agreement}
use Rattle.products.specs.agreement.Reply.{lines_in, shown_by, shown_reply, AgreeDone}

module _ (first second : List ℕ) (r : Agreement) (D : AgreeDone first second (Ok r)) where
  -- "The reply is agreement, exactly when that holds"
  pub answer-is-agreement : (r.count ≡ 0 → Agree (rule_automaton first) (rule_automaton second) (label_count first))
      × (Agree (rule_automaton first) (rule_automaton second) (label_count first) → r.count ≡ 0)
  answer-is-agreement = (D.replied.agreed, D.replied.exactly)

  -- "or else, by value, a separating plan as at most 256 lines"
  pub answer-separates : 0 < r.count → Separates (rule_automaton first) (rule_automaton second) (label_count first) (lines_in r)
  answer-separates = D.replied.separates

  pub same-labels : label_count first ≡ label_count second
  unfolding agree_checks
  same-labels =
      eqb-true (label_count first) (label_count second)
      (first_no-head 23 _ [] (omega arith)
      (first_no-append-right (rule_checks second) _ (rules-numbered second)
      (first_no-append-right (rule_checks first) _ (rules-numbered first) (sym D.number))))

pub renamed-reply : shown_reply after_leaf after_leaf_renamed ≡ []
unfolding shown_reply
renamed-reply = ap (shown_by after_leaf after_leaf_renamed) renamed-agree

pub oddly-reply : shown_reply after_leaf oddly ≡ leaf_line 0 ∷ inner_line 0 0 0 ∷ inner_line 0 1 0 ∷ []
unfolding shown_reply
oddly-reply = ap (shown_by after_leaf oddly) oddly-differs ∙ oddly-shown
