-- The promises of the exported functions at each of their ends.
--     merge-exported          whatif_merge, from the answer's promise
--     count_most, lines-args  a reply has at most 256 lines, and its arrays are there whole
--     refused-exported, short-exported, agree-exported    whatif_agree: refused, the lines do not fit, accepted
use Prim.Native.Nat.{ℕ, ◌*◌, ◌≤◌, ◌<◌}
use mathlib.Core.Path.{◌≡◌, refl, sym, ap, ◌∙◌}
use mathlib.Core.Bool.{Bool, cond}
use mathlib.Core.List.{List, ◌++◌}
use native.Mathlib.Decide.{dec_lt}
use native.Mathlib.Omega.{arith}
use lib.Dec.{eqb}
use lib.ListN.{length, drop}
use borrow.Author.Tests.{eq-eqb, ne_eqb, le-leb, lt-leb}
use Rattle.list_laws.proofs.RowLaws.{length-tabulate}
use Rattle.std.specs.Prelude.{Result, Ok, Err}
use Rattle.formats.specs.Refusals.{refusal_number, answer_number}
use Rattle.formats.specs.declared.refusals.Refusal.{Refusal}
use Rattle.formats.proofs.RefusalLaws.{number-not-0}
use Rattle.products.specs.merging.Answer.{MergeDone}
use Rattle.products.specs.merging.Writes.{written}
use Rattle.products.proofs.merging.WriteLaws.{written_all}
use Rattle.products.specs.agreement.Lines.{Line}
use Rattle.products.proofs.agreement.reachable.RecordLaws.{length-lines}
use Rattle.products.specs.declared.agreement.Agreement.{Agreement}
use Rattle.products.specs.agreement.Reply.{column, shown_reply, AgreeDone}
use Rattle.capi.specs.product_calls.Exported.{MergeExported, LinesArgs, lines_for, agree_number, shown, AgreeExported}

pub merge-exported : (first second out : List ℕ) (a : Result Unit Refusal) (out' : List ℕ) → MergeDone first second out a out'
    → (r : ℕ)
    → r ≡ answer_number a → MergeExported first second out r out'
merge-exported first second out a out' D r e = record {
  number = e ∙ D.number;
  merged = λ z. D.merged (sym e ∙ z);
  refused = λ z. D.refused (λ q. z (e ∙ q));
}

module _ (first second : List ℕ) where
  -- a number that is not 0, and all as it was
  kept : (a : Result Agreement Refusal) → AgreeDone first second a → (lines : List ℕ) (agreed count n : ℕ) → (n ≡ 0 → ⊥)
      → n ≡ agree_number a (length lines) → AgreeExported first second lines agreed count n lines agreed count
  kept a D lines agreed count n z e = record {
    reply = a;
    done = D;
    number = e;
    written = λ q. absurd (z q);
    agreed_is = λ q. absurd (z q);
    count_is = λ q. absurd (z q);
    lines_kept = λ _. refl;
    agreed_kept = λ _. refl;
    count_kept = λ _. refl;
  }

  -- a refusal e, told as m
  pub refused-exported : (e : Refusal) → AgreeDone first second (Err e) → (lines : List ℕ) (agreed count m : ℕ)
      → m ≡ refusal_number e → AgreeExported first second lines agreed count m lines agreed count
  unfolding agree_number
  refused-exported e D lines agreed count m is =
      kept (Err e) D lines agreed count m (λ q. number-not-0 e (sym is ∙ q)) is

  -- the reply r
  module _ (r : Agreement) (D : AgreeDone first second (Ok r)) where
    pub count_most : r.count ≤ 256
    count_most = elim (dec_lt 0 r.count) [
      | yes h ↦ (let S = D.replied.separates h in
          omega (arith, S.at_most, length-lines r.kinds r.labels r.lefts r.rights r.count))
      | no h ↦ omega arith
    ]

    column-length : (f : Line → ℕ) (xs : List Line) → length (column f xs) ≡ 256
    unfolding column
    column-length f xs = length-tabulate 256 _

    pub lines-args : (l : List ℕ) → r.count * 4 ≤ length l → LinesArgs r.kinds r.labels r.lefts r.rights r.count l
    lines-args l h =
        let e : r ≡ shown first second = D.replied.named in
        record {
          kinds = ap (λ (a : Agreement). length a.kinds) e ∙ column-length _ (shown_reply first second);
          labels = ap (λ (a : Agreement). length a.labels) e ∙ column-length _ (shown_reply first second);
          lefts = ap (λ (a : Agreement). length a.lefts) e ∙ column-length _ (shown_reply first second);
          rights = ap (λ (a : Agreement). length a.rights) e ∙ column-length _ (shown_reply first second);
          few = count_most;
          room = h;
        }

    module _ (lines : List ℕ) (agreed count : ℕ) where
      -- m is 11
      pub short-exported : (m : ℕ) → m ≡ 11 → length lines < r.count * 4
          → AgreeExported first second lines agreed count m lines agreed count
      unfolding agree_number
      short-exported m is h =
          kept (Ok r) D lines agreed count m (λ q. omega arith)
          (is ∙ sym (ap (λ (b : Bool). cond b 0 11) (lt-leb (r.count * 4) (length lines) h)))

      pub agree-exported : r.count * 4 ≤ length lines → (lines' : List ℕ) (agreed' count' : ℕ)
          → lines' ≡ written 0 (lines_for r) lines → agreed' ≡ cond (eqb r.count 0) 1 0 → count' ≡ r.count
          → AgreeExported first second lines agreed count 0 lines' agreed' count'
      unfolding agree_number
      agree-exported h lines' agreed' count' w a c =
          let e : r ≡ shown first second = D.replied.named in
          record {
            reply = Ok r;
            done = D;
            number = sym (ap (λ (b : Bool). cond b 0 11) (le-leb (r.count * 4) (length lines) h));
            written = λ _. w ∙ written_all (lines_for r) lines
                ∙ ap (λ (x : Agreement). lines_for x ++ drop (length (lines_for x)) lines) e;
            agreed_is = λ _. a ∙ ap (λ (x : Agreement). cond (eqb x.count 0) 1 0) e;
            count_is = λ _. c ∙ ap (λ (x : Agreement). x.count) e;
            lines_kept = λ q. absurd (q refl);
            agreed_kept = λ q. absurd (q refl);
            count_kept = λ q. absurd (q refl);
          }

pub shown-none : (n : ℕ) → n ≡ 0 → ◌≡◌ {A = ℕ} 1 (cond (eqb n 0) 1 0)
shown-none n e = sym (ap (λ (b : Bool). cond b 1 0) (eq-eqb n 0 e))

pub shown-some : (n : ℕ) → (n ≡ 0 → ⊥) → ◌≡◌ {A = ℕ} 0 (cond (eqb n 0) 1 0)
shown-some n e = sym (ap (λ (b : Bool). cond b 1 0) (ne_eqb n 0 e))
