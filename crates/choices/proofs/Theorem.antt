-- The count's promise, from its named result.
--     same-value       two accepted answers that are the same have the same counts
--     was              an accepted answer has the named value
--     count-done       the promise, of what is told
--     count-refused    where a check before the last fails
use Prim.Native.Nat.{ℕ, zero, suc, ◌+◌, ◌-◌, ◌*◌, ◌≤◌, ◌<◌, ◌^◌}
use mathlib.Core.Path.{◌≡◌, refl, sym, ap, ap₂, ◌∙◌, subst}
use mathlib.Core.Bool.{Bool, true, false, cond}
use mathlib.Core.List.{List, []}
use mathlib.Core.Option.{Option, none, some}
use native.Mathlib.Decide.{dec_lt, ℕ_discrete}
use native.Mathlib.Omega.{arith}
use lib.Dec.{leb}
use lib.ListN.{length, get_or, take, length-take, get_or-eq_default}
use lib.Seq.{length-take-le}
use Rattle.trees.specs.Tree.{labels_of}
use Rattle.list_laws.specs.Rows.{tabulate}
use Rattle.list_laws.specs.Tests.{all_below, distinct}
use Rattle.list_laws.proofs.BoolLaws.{and_left, and_right}
use Rattle.list_laws.proofs.TestLaws.{all_below-all}
use Rattle.list_laws.proofs.RowLaws.{length-tabulate, get_d_tabulate, tabulate-ext}
use Rattle.formats.specs.Limits.{change_limit}
use Rattle.formats.specs.Plan.{node_count, plan_tree}
use Rattle.formats.specs.Rules.{state_count, label_count, rule_automaton}
use Rattle.formats.specs.Checks.{Check, first_no}
use Rattle.formats.specs.Buffers.{headed_buffers_fit, rule_tables}
use Rattle.formats.specs.Built.{AsBuilt}
use Rattle.formats.specs.Refusals.{refusal_number, told, told_as}
use Rattle.formats.specs.declared.refusals.Refusal.{Refusal}
use Rattle.formats.proofs.RefusalLaws.{number-not-0, value-told, told-refused}
use Rattle.std.specs.Prelude.{Result, Ok, Err, IsErrAnd}
use Rattle.formats.proofs.BufferLaws.{Headed, headed-are}
use Rattle.tables.specs.Climbs.{View}
use Rattle.questions.specs.ready.Parts.{Given}
use Rattle.questions.specs.RootsAnswers.{roots_fit}
use Rattle.questions.specs.Promises.{RootsAre, Reads}
use Rattle.questions.specs.OutOfRange.{PartOutOfRange}
use Rattle.questions.proofs.FitLaws.{fit_all, given-are}
use Rattle.choices.specs.assignments.Sums.{sum_to}
use Rattle.choices.specs.assignments.Assignments.{counted}
use Rattle.choices.proofs.assignments.SumLaws.{sum-ext}
use Rattle.choices.specs.node_counts.Capped.{count_limit}
use Rattle.choices.specs.question_counts.CountOn.{open_in, count_view, roots_in, list_in, states_inside, all_ok, is_countable}
use Rattle.choices.specs.question_counts.CountOn.{count_of, listed_checks, count_number}
use Rattle.choices.proofs.question_counts.BuiltCounts.{fit-17, listed-are}
use Rattle.choices.proofs.question_counts.RuleCounts.{rule-roots, rule-countable, rule-links}
use Rattle.choices.proofs.question_counts.RuleTotals.{rule-exact}
use Rattle.choices.proofs.question_counts.Theorems.{as-built-roots, as-built-countable, as-built-links}
use Rattle.choices.proofs.question_counts.Theorems.{as-built-counts, as-built-sum}
use Rattle.choices.specs.declared.count.Counted.{Counted}
use Rattle.choices.specs.Promise.{counted_with, counted_at, count_value, count_result, ruled_count, tried_count, CountDone}
use Rattle.choices.proofs.AllLoop.{rows-most}
use Rattle.choices.proofs.CountChecks.{number-listed, number-last}
use Rattle.choices.proofs.CountRange.{count_none}
use Rattle.choices.proofs.CountWidth.{rows_above}

-- none of the first five checks has the number 18
not-18 : (a b c d e : Bool) → ◌≡◌ {A = ℕ} (cond a (cond b (cond c (cond d (cond e 0 26) 15) 13) 12) 17) 18 → ⊥
not-18 true true true true true h = omega arith
not-18 true true true true false h = omega arith
not-18 true true true false e h = omega arith
not-18 true true false d e h = omega arith
not-18 true false c d e h = omega arith
not-18 false b c d e h = omega arith

passes : (b : Bool) → ◌≡◌ {A = ℕ} (cond b 0 18) 0 → b ≡ true
passes true h = refl
passes false h = absurd (omega arith)

fails : (b : Bool) → ◌≡◌ {A = ℕ} (cond b 0 18) 18 → b ≡ false
fails true h = absurd (omega arith)
fails false h = refl

pub same-value : {x y : Counted} → ◌≡◌ {A = ℕ × Option Counted} (0, some x) (0, some y) → x ≡ y
same-value {x} {y} e = let q : some x ≡ some y = ap (λ t. t.1) e in cc

told-first : (n : ℕ) (x : Counted) → (told_as n x).0 ≡ n
told-first zero x = refl
told-first (suc n) x = refl

told-nothing : (n : ℕ) (x : Counted) → (n ≡ 0 → ⊥) → told_as n x ≡ (n, none)
told-nothing zero x h = absurd (h refl)
told-nothing (suc n) x h = refl

same_count : (f g : ℕ → ℕ) (m x y : ℕ) → ((c : ℕ) → c < 16 → f c ≡ g c) → x ≡ y → counted_with f m x ≡ counted_with g m y
same_count f g m x y h e =
    ap₂ (λ (l : List ℕ) (z : ℕ). answered l m z) (tabulate-ext 16 f g h) e
  where
    answered : List ℕ → ℕ → ℕ → Counted
    answered l p z = record { counts = l; parts = p; links = z }

module _ (p r node_table state_table vs : List ℕ) (t : ℕ × Option Counted)
    (e : t ≡ count_result p r node_table state_table vs) where
  abbrev X : View
  X = count_view p r node_table state_table

  abbrev ms : List ℕ
  ms = list_in (roots_in X vs)

  abbrev number : ℕ
  number = count_number p r node_table state_table vs

  abbrev listed : List Check
  listed = listed_checks p r (length node_table) (length state_table) vs

  abbrev value : Counted
  value = count_value p r node_table state_table vs

  -- ---- the two kinds of answer

  accepted : number ≡ 0 → t ≡ (0, some value)
  unfolding count_result
  accepted z = e ∙ ap (λ (n : ℕ). told_as n value) z

  number_is : t.0 ≡ number
  unfolding count_result
  number_is = ap (λ (q : ℕ × Option Counted). q.0) e ∙ told-first number value

  rejected : (t.0 ≡ 0 → ⊥) → t ≡ (t.0, none)
  unfolding count_result
  rejected h = e ∙ told-nothing number value (λ z. h (number_is ∙ z)) ∙ ap (λ (n : ℕ). (n, none)) (sym number_is)

  listed-zero : number ≡ 0 → first_no listed ≡ 0
  listed-zero z = elim (ℕ_discrete (first_no listed) 0) [
    | yes h ↦ h
    | no h ↦ absurd (h (sym (number-listed p r node_table state_table vs h) ∙ z))
  ]

  -- ---- where the first five checks pass

  module _ (ok : first_no listed ≡ 0) where
    heads : Headed rule_tables p r (length node_table) (length state_table)
    heads = headed-are rule_tables p r (length node_table) (length state_table)
        (fit-17 p r (length node_table) (length state_table) vs ok)

    fits : roots_fit (node_count p) (length (take (node_count p * 4) node_table)) vs ≡ true
    fits =
        let L = listed-are p r (length node_table) (length state_table) vs ok in
        let H = heads.headers.in-limits in
        sym (fit_all (node_count p) (length (take (node_count p * 4) node_table)) vs H.nodes H.most
        (omega (arith, length-take-le (node_count p * 4) node_table heads.node_table_room)) L.few)
        ∙ L.below

    lost : is_countable X vs ≡ false → PartOutOfRange X [] [] []
    lost f =
        count_none X (simp length-take (omega arith)) (simp length-take (omega arith)) vs fits f

    counts-when : is_countable X vs ≡ true → t ≡ (0, some value)
    counts-when c =
        accepted (number-last p r node_table state_table vs ok ∙ ap (λ (b : Bool). cond b 0 18) c)

  out_of_range : t.0 ≡ 18 → PartOutOfRange X [] [] []
  unfolding listed_checks first_no
  out_of_range h = elim (ℕ_discrete (first_no listed) 0) [
    | yes ok ↦ lost ok (fails (is_countable X vs)
        (sym (number-last p r node_table state_table vs ok) ∙ sym number_is ∙ h))
    | no n ↦ absurd (not-18 (headed_buffers_fit rule_tables p r (length node_table) (length state_table))
        (leb (length vs) change_limit) (all_below (node_count p) vs) (distinct vs)
        (leb (label_count r ^ length vs) count_limit)
        (sym (number-listed p r node_table state_table vs n) ∙ sym number_is ∙ h))
  ]

  -- ---- the counts, for any inputs

  count_at : (c : ℕ) → c < 16 → get_or value.counts c 0 ≡ count_of X vs ms c
  count_at c h = get_d_tabulate 16 (count_of X vs ms) c h

  count_past : (c : ℕ) → 16 ≤ c → get_or value.counts c 0 ≡ 0
  count_past c h =
      get_or-eq_default (tabulate 16 (count_of X vs ms)) 0 {n = c}
      (omega (arith, length-tabulate 16 (count_of X vs ms)))

  states-in : number ≡ 0 → states_inside X ≡ true
  unfolding is_countable
  states-in z =
      and_left (states_inside X) (all_ok X vs (roots_in X vs))
      (passes (is_countable X vs) (sym (number-last p r node_table state_table vs (listed-zero z)) ∙ z))

  above : number ≡ 0 → (c : ℕ) → state_count r ≤ c → c < 16 → count_of X vs ms c ≡ 0
  unfolding count_of states_inside
  above z c h l =
      let s = states-in z in
      let k : 0 < state_count r = omega (arith, (heads (listed-zero z)).headers.in-limits.states) in
      rows_above X c h
      (all_below-all X.s X.leaves (and_left (all_below X.s X.leaves) (all_below X.s X.inner) s) k)
      (all_below-all X.s X.inner (and_right (all_below X.s X.leaves) (all_below X.s X.inner) s) k)
      (open_in vs) l ms [] [] 0 (omega arith) (λ i. omega arith) (length ms - 1)

  module _ (x : Counted) (h : t ≡ (0, some x)) where
    pub was : (number ≡ 0) × (value ≡ x)
    unfolding count_result
    was = value-told x number value (sym h ∙ e)

    states_below : (c : ℕ) → state_count r ≤ c → get_or x.counts c 0 ≡ 0
    states_below c h = sym (ap (λ (y : Counted). get_or y.counts c 0) was.1) ∙ elim (dec_lt c 16) [
      | yes l ↦ count_at c l ∙ above was.0 c h l
      | no l ↦ count_past c (omega arith)
    ]

    most : (c : ℕ) → get_or x.counts c 0 ≤ count_limit
    unfolding count_of
    most c = subst (λ (y : Counted). get_or y.counts c 0 ≤ count_limit) was.1 (elim (dec_lt c 16) [
      | yes l ↦ omega (
        arith,
        count_at c l,
        rows-most X (open_in vs) ms [] [] (λ i. omega arith) ((length ms - 1) * 16 + c),
      )
      | no l ↦ omega (arith, count_past c (omega arith))
    ])

    parts_are : (l : List ℕ) → roots_in X vs ≡ some l → (x.parts ≡ length l) × RootsAre (node_count p) (length vs) l
    parts_are l q = (
      sym (ap (λ (y : Counted). y.parts) was.1) ∙ ap (λ (o : Option (List ℕ)). length (list_in o)) q,
      given-are X.n X.node_table vs l q,
    )

  -- ---- the rule, and tables as built

  ruled : (G : Given) → Reads X G → G.labels ≡ labels_of G.tree → first_no listed ≡ 0
      → t ≡ (0, some (ruled_count G (label_count r) vs))
  ruled G R plain ok =
      let few : X.s ≤ 16 = (heads ok).headers.in-limits.few in
      let L = listed-are p r (length node_table) (length state_table) vs ok in
      counts-when ok (rule-countable X G R plain few vs (fits ok))
      ∙ ap (λ (y : Counted). (0, some y)) (ap (λ (o : Option (List ℕ)). counted_at X vs (list_in o)) (rule-roots X G R plain few vs (fits ok))
      ∙ same_count _ _ _ _ _ (rule-exact X G R plain few vs (fits ok) L.different L.fit)
      (rule-links X G R plain few vs (fits ok)))

  built : AsBuilt p r node_table state_table → first_no listed ≡ 0 → t ≡ (0, some (tried_count p r vs))
  built B ok =
      counts-when ok (as-built-countable p r node_table state_table B vs ok)
      ∙ ap (λ (y : Counted). (0, some y)) (ap (λ (o : Option (List ℕ)). counted_at X vs (list_in o)) (as-built-roots p r node_table state_table B vs ok)
      ∙ same_count _ _ _ _ _ (as-built-counts p r node_table state_table B vs ok)
      (as-built-links p r node_table state_table B vs ok))

  summed : AsBuilt p r node_table state_table → first_no listed ≡ 0 → (x : Counted) → t ≡ (0, some x)
      → sum_to (state_count r) (λ c. get_or x.counts c 0) ≡ label_count r ^ length vs
  summed B ok x h =
      let q : x ≡ tried_count p r vs = same-value (sym h ∙ built B ok) in
      sum-ext (state_count r) _ _ (λ c l.
      ap (λ (y : Counted). get_or y.counts c 0) q
      ∙ get_d_tabulate 16 (counted (rule_automaton r) (label_count r) (plan_tree p) vs) c
      (omega (arith, l, (heads ok).headers.in-limits.few)))
      ∙ as-built-sum p r node_table state_table B vs ok

  pub count-done : CountDone p r node_table state_table vs t
  count-done = record {
    result = e;
    number = number_is;
    refused = rejected;
    out_of_range = out_of_range;
    states_below = states_below;
    most = most;
    parts_are = parts_are;
    rule = ruled;
    built = built;
    sum = summed;
  }

-- a is what `?` hands on of a check's refusal x
pub count-refused : (p r node_table state_table vs : List ℕ) (x : Refusal) (a : Result Counted Refusal) → IsErrAnd a (λ e. e ≡ x)
    → refusal_number x ≡ first_no (listed_checks p r (length node_table) (length state_table) vs)
    → CountDone p r node_table state_table vs (told a)
unfolding count_result
count-refused p r node_table state_table vs x (Ok y) h e = absurd h
count-refused p r node_table state_table vs x (Err y) h e =
    let n : refusal_number y ≡ count_number p r node_table state_table vs =
    ap refusal_number h ∙ e ∙ sym (number-listed p r node_table state_table vs (λ z. number-not-0 x (e ∙ z))) in
    count-done p r node_table state_table vs (told (Err y)) (told-refused y _ _ n)
