-- What the contracts of the two exported calls of two rule tables claim, as the prover itself reads them off the source
-- (`Reads.Post`), is what the theorems take (`MergeExported`, `AgreeExported`). A contract that promises less is
-- refused here.
--     merge-tied, agree-tied    the contracts are MergeExported and AgreeExported
--     merge-number              the first check that fails: 6 to 9 of the first, 6 to 9 of the second, 23, 24, 11
--     agree-number              the first check that fails: 6 to 9 of the first, 6 to 9 of the second, 23, then 11
--                               where the lines do not fit (agree_room_checks)
--     merge-kept, agree-kept    refused: every buffer and output parameter is unchanged
use Prim.Native.Nat.{ℕ, ◌*◌}
use mathlib.Core.Path.{◌≡◌, refl, sym, ap, ◌∙◌}
use mathlib.Core.Bool.{Bool, true, false, cond}
use mathlib.Core.List.{List, [], ◌∷◌, ◌++◌}
use native.Mathlib.Omega.{arith}
use lib.Dec.{leb}
use lib.ListN.{length}
use Rattle.std.specs.Prelude.{Result, Ok, Err}
use Rattle.formats.specs.declared.refusals.Refusal.{Refusal}
use Rattle.formats.proofs.RefusalLaws.{number-not-0}
use contract.Lifetimes.{Lfts}
use borrow.Fn.World.{ArgsD, ResD}
use borrow.Fn.Kinds.{ended_of}
use denote.Triple.Clauses.{AtExit}
use Rattle.formats.specs.Checks.{Check, check, first_no, rule_checks}
use Rattle.formats.proofs.CheckLaws.{Numbered, first_no-append-zero, first_no-append-no}
use Rattle.products.specs.merging.Merged.{merge_checks}
use Rattle.products.specs.agreement.Answer.{agree_checks}
use Rattle.products.specs.declared.agreement.Agreement.{Agreement}
use Rattle.products.specs.agreement.Reply.{shown_reply, AgreeDone}
use Rattle.capi.specs.product_calls.Exported.{MergeExported, agree_number, AgreeExported}
use Rattle.capi.specs.contracts.product_calls.whatif_merge as merge-fn
use Rattle.capi.proofs.product_calls.whatif_merge.Kinds as merge-kinds
use Rattle.capi.proofs.product_calls.whatif_merge.Reads as merge-reads
use Rattle.capi.specs.contracts.product_calls.whatif_agree as agree-fn
use Rattle.capi.proofs.product_calls.whatif_agree.Kinds as agree-kinds
use Rattle.capi.proofs.product_calls.whatif_agree.Reads as agree-reads
use Rattle.capi.specs.product_calls.Exported.{agree_room_checks}

-- ---- merge

pub merge-tied : (κs : Lfts 3) (a : ArgsD merge-fn.signature κs) (r : ResD merge-fn.signature κs)
    (s : AtExit (ended_of 3 merge-kinds.ps merge-kinds.r) κs) → merge-reads.Post κs a r s
    → MergeExported a.0.now a.1.0.now a.1.1.0.now r s.1.1.0.now
merge-tied κs a r s p = p

module _ (first second out : List ℕ) (r : ℕ) (out' : List ℕ) (E : MergeExported first second out r out') where
  pub merge-number : r ≡ first_no (merge_checks first second (length out))
  merge-number = E.number

  pub merge-kept : (r ≡ 0 → ⊥) → out' ≡ out
  merge-kept = E.refused

-- ---- agree

pub agree-tied : (κs : Lfts 5) (a : ArgsD agree-fn.signature κs) (r : ResD agree-fn.signature κs)
    (s : AtExit (ended_of 5 agree-kinds.ps agree-kinds.r) κs) → agree-reads.Post κs a r s
    → AgreeExported a.0.now a.1.0.now a.1.1.0.now a.1.1.1.0.now a.1.1.1.1.0.now r
    s.1.1.0.now s.1.1.1.0.now s.1.1.1.1.0.now
agree-tied κs a r s p = p

rules-numbered : (r : List ℕ) (cs : List Check) → Numbered cs → Numbered (rule_checks r ++ cs)
unfolding rule_checks
rules-numbered r cs h = (omega arith, (omega arith, (omega arith, (omega arith, h))))

agree-numbered : (first second : List ℕ) → Numbered (agree_checks first second)
unfolding agree_checks
agree-numbered first second = rules-numbered first _ (rules-numbered second _ (omega arith, tt))

one-check : (b : Bool) → cond b 0 11 ≡ first_no (check 11 b ∷ [])
unfolding first_no
one-check true = refl
one-check false = refl

-- the number of a reply, by the checks
of-reply : (first second : List ℕ) (m : ℕ) (a : Result Agreement Refusal) → AgreeDone first second a
    → agree_number a m ≡ first_no (agree_room_checks first second m)
unfolding agree_number
of-reply first second m (Ok r) D =
    ap (λ (x : Agreement). cond (leb (x.count * 4) m) 0 11) D.replied.named
    ∙ one-check (leb (length (shown_reply first second) * 4) m)
    ∙ sym (first_no-append-zero (agree_checks first second)
    (check 11 (leb (length (shown_reply first second) * 4) m) ∷ []) (agree-numbered first second) (sym D.number))
of-reply first second m (Err e) D =
    D.number
    ∙ sym (first_no-append-no (agree_checks first second)
    (check 11 (leb (length (shown_reply first second) * 4) m) ∷ []) (λ q. number-not-0 e (D.number ∙ q)))

module _ (first second lines : List ℕ) (agreed count r : ℕ) (lines' : List ℕ) (agreed' count' : ℕ)
    (E : AgreeExported first second lines agreed count r lines' agreed' count') where
  pub agree-number : r ≡ first_no (agree_room_checks first second (length lines))
  agree-number = E.number ∙ of-reply first second (length lines) E.reply E.done

  pub agree-kept : (r ≡ 0 → ⊥) → (lines' ≡ lines) × (agreed' ≡ agreed) × (count' ≡ count)
  agree-kept h = (E.lines_kept h, E.agreed_kept h, E.count_kept h)
