-- The ways out of `whatif_count`.
--     header-there, most_states    what the code after an accepted reply requires
--     refused-exported, short-exported, counted-exported   one for each way out
use Prim.Native.Nat.{ℕ, ◌+◌, ◌≤◌, ◌<◌}
use mathlib.Core.Path.{◌≡◌, refl, sym, ap, ◌∙◌, subst}
use mathlib.Core.Bool.{true}
use mathlib.Core.List.{List, [], ◌∷◌}
use mathlib.Core.Option.{Option}
use native.Mathlib.Omega.{arith}
use lib.Dec.{leb}
use lib.ListN.{length}
use Rattle.std.specs.Prelude.{Ok, Err}
use borrow.Author.Tests.{le-leb, lt-leb}
use Rattle.formats.specs.Rules.{state_count}
use Rattle.formats.specs.Checks.{check, first_no}
use Rattle.formats.specs.Refusals.{refusal_number, told}
use Rattle.formats.specs.declared.refusals.Refusal.{Refusal}
use Rattle.formats.proofs.RefusalLaws.{number-not-0, value-told}
use Rattle.formats.specs.Buffers.{headed_buffers_fit, rule_tables}
use Rattle.formats.proofs.BufferLaws.{Headed, headed-are}
use Rattle.formats.proofs.CheckLaws.{Numbered, first_no-append-zero, first_no-append-no, first_no-append-left, first_no-yes}
use Rattle.formats.proofs.CheckLaws.{first_no-no, first_no-none}
use Rattle.choices.specs.question_counts.CountOn.{count_view, is_countable, listed_checks, count_checks, count_number}
use Rattle.choices.proofs.question_counts.BuiltCounts.{fit-17}
use Rattle.choices.specs.declared.count.Counted.{Counted}
use Rattle.choices.specs.Promise.{count_value, count_result, CountDone}
use Rattle.list_laws.specs.Copying.{over_buffer}
use Rattle.capi.specs.choice_calls.CountExported.{exported_checks, CountExported}

module _ (p r node_table state_table vs : List ℕ) where
  pub listed-numbered : Numbered (listed_checks p r (length node_table) (length state_table) vs)
  unfolding listed_checks
  listed-numbered = (omega arith, (omega arith, (omega arith, (omega arith, (omega arith, tt)))))

  pub checks-numbered : Numbered (count_checks p r node_table state_table vs)
  unfolding count_checks listed_checks
  checks-numbered = (omega arith, (omega arith, (omega arith, (omega arith, (omega arith, (omega arith, tt))))))

  -- a number that is not 0, and all as it was; t is what the count tells
  kept : (t : ℕ × Option Counted) → CountDone p r node_table state_table vs t → (counts : List ℕ) (parts links n : ℕ)
      → (n ≡ 0 → ⊥) → n ≡ first_no (exported_checks p r node_table state_table vs (length counts))
      → CountExported p r node_table state_table vs counts parts links n counts parts links
  kept t D counts parts links n z e = record {
    number = e;
    counts_are = λ q. absurd (z q);
    parts_are = λ q. absurd (z q);
    links_are = λ q. absurd (z q);
    counts_kept = λ _. refl;
    parts_kept = λ _. refl;
    links_kept = λ _. refl;
    done = subst (CountDone p r node_table state_table vs) D.result D;
  }

  -- a refusal e, told as m
  pub refused-exported : (e : Refusal) → CountDone p r node_table state_table vs (told (Err e)) → (counts : List ℕ)
      (parts links m : ℕ)
      → m ≡ refusal_number e → CountExported p r node_table state_table vs counts parts links m counts parts links
  unfolding exported_checks count_number
  refused-exported e D counts parts links m is =
      kept (told (Err e)) D counts parts links m (λ q. number-not-0 e (sym is ∙ q))
      (is ∙ D.number ∙ sym (first_no-append-no (count_checks p r node_table state_table vs)
      (check 11 (leb (state_count r) (length counts)) ∷ []) (λ q. number-not-0 e (D.number ∙ q))))

  -- ---- the counts a of an accepted call

  module _ (a : Counted) (D : CountDone p r node_table state_table vs (told (Ok a))) where
    passed : count_number p r node_table state_table vs ≡ 0
    passed = sym D.number

    value-is : a ≡ count_value p r node_table state_table vs
    unfolding count_result
    value-is =
        sym (value-told a (count_number p r node_table state_table vs) (count_value p r node_table state_table vs)
        D.result).1

    fits : headed_buffers_fit rule_tables p r (length node_table) (length state_table) ≡ true
    unfolding count_number count_checks
    fits =
        fit-17 p r (length node_table) (length state_table) vs
        (first_no-append-left (listed_checks p r (length node_table) (length state_table) vs)
        (check 18 (is_countable (count_view p r node_table state_table) vs) ∷ []) listed-numbered passed)

    headed : Headed rule_tables p r (length node_table) (length state_table)
    headed = headed-are rule_tables p r (length node_table) (length state_table) fits

    pub header-there : 0 + 4 ≤ length r
    header-there = omega (arith, headed.headers.table-long)

    -- s is the count of states as it was read
    pub most_states : (s : ℕ) → s ≡ state_count r → s ≤ 16
    most_states s e = omega (arith, e, headed.headers.in-limits.few)

    module _ (counts : List ℕ) (parts links : ℕ) where
      last : first_no (exported_checks p r node_table state_table vs (length counts))
          ≡ first_no (check 11 (leb (state_count r) (length counts)) ∷ [])
      unfolding exported_checks count_number
      last =
          first_no-append-zero (count_checks p r node_table state_table vs)
          (check 11 (leb (state_count r) (length counts)) ∷ []) checks-numbered passed

      -- m is 11
      pub short-exported : (m : ℕ) → m ≡ 11 → length counts < state_count r
          → CountExported p r node_table state_table vs counts parts links m counts parts links
      short-exported m is h =
          kept (told (Ok a)) D counts parts links m (λ q. omega arith) (is ∙ sym (last
          ∙ first_no-no 11 (leb (state_count r) (length counts)) [] (lt-leb (state_count r) (length counts) h)))

      pub counted-exported : (s : ℕ) → s ≡ state_count r → s ≤ length counts → (counts' : List ℕ)
          → counts' ≡ over_buffer s a.counts counts
          → CountExported p r node_table state_table vs counts parts links 0 counts' a.parts a.links
      counted-exported s is h counts' e = record {
        number = sym (last
            ∙ first_no-yes 11 (leb (state_count r) (length counts)) []
            (le-leb (state_count r) (length counts) (omega (arith, is)))
            ∙ first_no-none);
        counts_are = λ _. e
            ∙ ap (λ (n : ℕ). over_buffer n a.counts counts) is
            ∙ ap (λ (x : Counted). over_buffer (state_count r) x.counts counts) value-is;
        parts_are = λ _. ap (λ (x : Counted). x.parts) value-is;
        links_are = λ _. ap (λ (x : Counted). x.links) value-is;
        counts_kept = λ q. absurd (q refl);
        parts_kept = λ q. absurd (q refl);
        links_kept = λ q. absurd (q refl);
        done = subst (CountDone p r node_table state_table vs) D.result D;
      }
