-- The checks of a count, one by one.
--     no-17, no-12, no-13, no-15, no-26, all_pass   the number where a check fails and those before it pass
--     number-listed, number-last                    the whole count's number
--     run-args, count-run, count_runs               what is told where none of them fails
use Prim.Native.Nat.{ℕ, ◌≤◌, ◌<◌, ◌^◌}
use mathlib.Core.Path.{◌≡◌, refl, ap, ◌∙◌}
use mathlib.Core.Bool.{Bool, true, false, cond}
use mathlib.Core.List.{List, [], ◌∷◌}
use native.Mathlib.Omega.{arith}
use lib.Dec.{leb}
use lib.ListN.{length}
use borrow.Author.Tests.{le-leb, lt-leb}
use Rattle.list_laws.specs.Tests.{all_below, distinct}
use Rattle.formats.specs.Limits.{change_limit}
use Rattle.formats.specs.Plan.{node_count}
use Rattle.formats.specs.Rules.{state_count, label_count, rule_length}
use Rattle.formats.specs.Checks.{Check, check, first_no}
use Rattle.formats.specs.Buffers.{limits_fit, buffers_fit, headers_fit, headed_buffers_fit, rule_tables}
use Rattle.formats.proofs.CheckLaws.{first_no-append-zero, first_no-append-no, Numbered}
use Rattle.formats.proofs.BufferLaws.{headed-are, are-limits}
use Rattle.list_laws.proofs.BoolLaws.{and_right}
use Rattle.tables.specs.Climbs.{View}
use Rattle.questions.specs.PartAnswers.{view_in}
use Rattle.choices.specs.node_counts.Capped.{count_limit}
use Rattle.choices.specs.question_counts.CountOn.{count_view, is_countable, listed_checks, count_checks, count_number}
use Rattle.choices.proofs.question_counts.BuiltCounts.{fit-17, listed-are}
use Rattle.choices.specs.declared.count.Counted.{Counted}
use Rattle.formats.specs.Refusals.{told, told_as}
use Rattle.formats.specs.declared.refusals.Refusal.{Refusal}
use Rattle.formats.specs.declared.refusals.Refusal.TheVariants.{LentValue}
use Rattle.std.specs.Prelude.{Result, Ok, Err}
use Rattle.choices.specs.Promise.{count_value, count_result}
use Rattle.choices.specs.inner.Count.{counted_on, RunArgs}

module _ (p r : List ℕ) (n s : ℕ) (vs : List ℕ) where
  pub no-17 : headed_buffers_fit rule_tables p r n s ≡ false → 17 ≡ first_no (listed_checks p r n s vs)
  unfolding listed_checks first_no
  no-17 a = rw (a)

  module _ (a : headed_buffers_fit rule_tables p r n s ≡ true) where
    pub no-12 : 64 < length vs → 12 ≡ first_no (listed_checks p r n s vs)
    unfolding listed_checks first_no
    no-12 h = rw (a, lt-leb (length vs) change_limit h)

    module _ (h : length vs ≤ 64) where
      pub no-13 : all_below (node_count p) vs ≡ false → 13 ≡ first_no (listed_checks p r n s vs)
      unfolding listed_checks first_no
      no-13 c = rw (a, le-leb (length vs) change_limit h, c)

      module _ (c : all_below (node_count p) vs ≡ true) where
        pub no-15 : distinct vs ≡ false → 15 ≡ first_no (listed_checks p r n s vs)
        unfolding listed_checks first_no
        no-15 d = rw (a, le-leb (length vs) change_limit h, c, d)

        module _ (d : distinct vs ≡ true) where
          pub no-26 : leb (label_count r ^ length vs) count_limit ≡ false → 26 ≡ first_no (listed_checks p r n s vs)
          unfolding listed_checks first_no
          no-26 e = rw (a, le-leb (length vs) change_limit h, c, d, e)

          pub all_pass : leb (label_count r ^ length vs) count_limit ≡ true → 0 ≡ first_no (listed_checks p r n s vs)
          unfolding listed_checks first_no
          all_pass e = rw (a, le-leb (length vs) change_limit h, c, d, e)

-- ---- the answer

module _ (p r node_table state_table vs : List ℕ) where
  abbrev X : View
  X = count_view p r node_table state_table

  abbrev listed : List Check
  listed = listed_checks p r (length node_table) (length state_table) vs

  abbrev last : List Check
  last = check 18 (is_countable X vs) ∷ []

  pub number-listed : (first_no listed ≡ 0 → ⊥) → count_number p r node_table state_table vs ≡ first_no listed
  unfolding count_number count_checks
  number-listed h = first_no-append-no listed last h

  numbered : Numbered listed
  unfolding listed_checks
  numbered = (omega arith, (omega arith, (omega arith, (omega arith, (omega arith, tt)))))

  pub number-last : first_no listed ≡ 0 → count_number p r node_table state_table vs ≡ cond (is_countable X vs) 0 18
  unfolding count_number count_checks
  number-last h = first_no-append-zero listed last numbered h ∙ one
    where
      one : first_no last ≡ cond (is_countable X vs) 0 18
      one = unfold first_no in refl

  pub count-run : first_no listed ≡ 0 → told (counted_on X vs) ≡ count_result p r node_table state_table vs
  unfolding count_result
  count-run h = rw (number-last h) (go (is_countable X vs) (count_value p r node_table state_table vs))
    where
      go : (b : Bool) (x : Counted) → told (cond b (Ok x) (Err LentValue)) ≡ told_as (cond b 0 18) x
      go true x = refl
      go false x = refl

  module _ (h : first_no listed ≡ 0) (n s k : ℕ) (is-n : n ≡ node_count p) (is-s : s ≡ state_count r)
      (is-k : k ≡ label_count r) where
    pub run-args : RunArgs n s k p r node_table state_table vs
    run-args =
        let w = fit-17 p r (length node_table) (length state_table) vs h in
        record {
          limits = ap (λ (x : ℕ). limits_fit x s k) is-n ∙ ap (λ (x : ℕ). limits_fit (node_count p) x k) is-s
              ∙ ap (λ (x : ℕ). limits_fit (node_count p) (state_count r) x) is-k
              ∙ are-limits _ _ _ (headed-are rule_tables p r _ _ w).headers.in-limits;
          lengths = ap (λ (x : ℕ). fits x s k) is-n ∙ ap (λ (x : ℕ). fits (node_count p) x k) is-s
              ∙ ap (λ (x : ℕ). fits (node_count p) (state_count r) x) is-k ∙ both_halves w;
          listed = (listed-are p r (length node_table) (length state_table) vs h).few;
        }
      where
        fits : ℕ → ℕ → ℕ → Bool
        fits x y z = buffers_fit x y (rule_length y z) (length p) (length r) (length node_table) (length state_table)

        both_halves : headed_buffers_fit rule_tables p r (length node_table) (length state_table) ≡ true
            → fits (node_count p) (state_count r) (label_count r) ≡ true
        both_halves w = and_right (headers_fit 20 p r) _ (unfold headed_buffers_fit in w)

    pub count_runs : (a : Result Counted Refusal) → a ≡ counted_on (view_in n s k p r node_table state_table) vs
        → told a ≡ count_result p r node_table state_table vs
    count_runs a e =
        ap told (e
        ∙ ap (λ (x : ℕ). counted_on (view_in x s k p r node_table state_table) vs) is-n
        ∙ ap (λ (x : ℕ). counted_on (view_in (node_count p) x k p r node_table state_table) vs) is-s
        ∙ ap (λ (x : ℕ). counted_on (view_in (node_count p) (state_count r) x p r node_table state_table) vs) is-k)
        ∙ count-run h
