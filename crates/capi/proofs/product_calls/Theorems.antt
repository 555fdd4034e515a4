-- What the exported functions mean (document 02, S-6 and S-13), each by citing what is below.
--     merge-clears       accepted, the bytes at the front of the output are a rule table that clears exactly the plans
--                        that both clear
--     agree-exactly      accepted, 1 is replied exactly where every plan gets the same answer from both tables
--     agree-separates    accepted with lines, they are a separating plan of at most 256 lines, of least height
--     agree-untouched    where 1 is replied the lines are as they were
use Prim.Native.Nat.{ℕ, ◌<◌}
use mathlib.Core.Path.{◌≡◌, sym, ap, ◌∙◌, subst}
use mathlib.Core.Bool.{Bool, cond, ◌&&◌}
use mathlib.Core.List.{List, ◌++◌}
use native.Mathlib.Decide.{ℕ_discrete}
use native.Mathlib.Omega.{arith}
use lib.ListN.{length, drop}
use borrow.Author.Tests.{eq-eqb, ne_eqb}
use Rattle.std.specs.Prelude.{Result, Ok, Err}
use Rattle.trees.specs.Tree.{Tree}
use Rattle.trees.specs.Automaton.{accepts}
use Rattle.list_laws.specs.Rows.{rows}
use Rattle.formats.specs.Rules.{label_count, rule_automaton}
use Rattle.formats.specs.declared.refusals.Refusal.{Refusal}
use Rattle.formats.proofs.RefusalLaws.{number-not-0}
use Rattle.products.specs.Plans.{PlanOf}
use Rattle.products.specs.merging.Merged.{merged_bytes}
use Rattle.products.proofs.merging.MergedTheorem.{merged-accepts}
use Rattle.products.proofs.merging.Theorems.{Mergeable, accepted-mergeable}
use Rattle.products.specs.agreement.Agreement.{Agree, Separates}
use Rattle.products.specs.declared.agreement.Agreement.{Agreement}
use Rattle.products.specs.agreement.Reply.{lines_in, Replied, AgreeDone}
use Rattle.capi.specs.product_calls.Exported.{MergeExported, line_numbers, agree_number, shown, AgreeExported}

-- "one table that clears exactly the plans that both clear"
pub merge-clears : (first second out : List ℕ) (r : ℕ) (out' : List ℕ) → MergeExported first second out r out' → r ≡ 0
    → (out' ≡ merged_bytes first second ++ drop (length (merged_bytes first second)) out)
    × ((t : Tree) → PlanOf (label_count first) t
    → accepts (rule_automaton (merged_bytes first second)) t ≡ (accepts (rule_automaton first) t && accepts
    (rule_automaton second) t))
merge-clears first second out r out' D z =
    let M : Mergeable first second = accepted-mergeable first second (length out) (sym D.number ∙ z) in
    (D.merged z, merged-accepts first second M.first_passes M.second_passes M.few-states)

module _ (first second lines : List ℕ) (agreed count r : ℕ) (lines' : List ℕ) (agreed' count' : ℕ)
    (D : AgreeExported first second lines agreed count r lines' agreed' count') (accepted : r ≡ 0) where
  pub replied : Replied first second (shown first second)
  unfolding agree_number
  replied = of-reply D.reply D.done (sym D.number ∙ accepted)
    where
      of-reply : (a : Result Agreement Refusal) → AgreeDone first second a → agree_number a (length lines) ≡ 0
          → Replied first second (shown first second)
      of-reply (Ok r) E z = subst (Replied first second) E.replied.named E.replied
      of-reply (Err e) E z = absurd (number-not-0 e z)

  one_is : agreed' ≡ 1 → (shown first second).count ≡ 0
  one_is e = elim (ℕ_discrete (shown first second).count 0) [
    | yes q ↦ q
    | no q ↦ absurd (let z : 0 ≡ 1 =
        sym (D.agreed_is accepted ∙ ap (λ (b : Bool). cond b 1 0) (ne_eqb (shown first second).count 0 q)) ∙ e in omega arith)
  ]

  is_one : (shown first second).count ≡ 0 → agreed' ≡ 1
  is_one q = D.agreed_is accepted ∙ ap (λ (b : Bool). cond b 1 0) (eq-eqb (shown first second).count 0 q)

  -- "The reply is agreement, exactly when that holds"
  pub agree-exactly : (agreed' ≡ 1 → Agree (rule_automaton first) (rule_automaton second) (label_count first))
      × (Agree (rule_automaton first) (rule_automaton second) (label_count first) → agreed' ≡ 1)
  agree-exactly = (λ e. replied.agreed (one_is e), λ g. is_one (replied.exactly g))

  -- "or else, by value, a separating plan as at most 256 lines"
  pub agree-separates : 0 < count'
      → Separates (rule_automaton first) (rule_automaton second) (label_count first) (lines_in (shown first second))
  agree-separates h = replied.separates (subst (λ (x : ℕ). 0 < x) (D.count_is accepted) h)

  pub agree-untouched : agreed' ≡ 1 → lines' ≡ lines
  unfolding rows
  agree-untouched e =
      let R : Agreement = shown first second in
      let numbers : ℕ → List ℕ = line_numbers R.kinds R.labels R.lefts R.rights in
      D.written accepted
      ∙ ap (λ (n : ℕ). numbers n ++ drop (length (numbers n)) lines) (one_is e)
