-- What count_runs hands on: the runs of plan and rules, and the tables without their excess.
--     Fit, fit-by     all that both tests say
--     on-args         so every read is inside its run
--     on-answer       the count on the runs is that on the inputs
use Prim.Native.Nat.{ℕ, ◌+◌, ◌-◌, ◌*◌, ◌≤◌}
use mathlib.Core.Path.{◌≡◌, sym, ap, ◌∙◌}
use mathlib.Core.List.{List}
use native.Mathlib.Omega.{arith}
use lib.ListN.{length, take, drop, length-take, length-drop}
use Rattle.formats.specs.Rules.{rule_length}
use Rattle.formats.proofs.PlanLaws.{product-most}
use Rattle.formats.proofs.BufferLaws.{Limits, limits-are, Lengths, lengths-are}
use Rattle.questions.specs.inner.PartArgs.{part_view}
use Rattle.questions.specs.PartAnswers.{view_in}
use Rattle.choices.specs.declared.count.Counted.{Counted}
use Rattle.formats.specs.declared.refusals.Refusal.{Refusal}
use Rattle.std.specs.Prelude.{Result}
use Rattle.choices.specs.inner.Count.{counted_on, OnArgs, RunArgs}

module _ (n s k : ℕ) (p r node_table state_table vs : List ℕ) where
  pub record Fit : Type 0 where
    pub limits : Limits n s k
    pub lengths : Lengths n s (rule_length s k) (length p) (length r) (length node_table) (length state_table)
    pub rows : s * k ≤ 1024
    pub rules-few : s * k * s ≤ 16384
    pub cells : n * (s + 1) ≤ 1114095

  module _ (A : RunArgs n s k p r node_table state_table vs) where
    pub fit-by : Fit
    fit-by =
        let L = limits-are n s k A.limits in
        let x = product-most s k 16 64 L.few L.labels_most in
        record {
          limits = L;
          lengths = lengths-are n s (rule_length s k) (length p) (length r) (length node_table) (length state_table)
              A.lengths;
          rows = x;
          rules-few = product-most (s * k) s 1024 16 x L.few;
          cells = product-most n (s + 1) 65535 17 L.most (omega (arith, L.few));
        }

    pub on-args : OnArgs n s k (take (12 + n - 12) (drop 12 p)) (take (length p - (12 + n)) (drop (12 + n) p))
        (take (20 + k - 20) (drop 20 r)) (take (20 + k + s * k * s - (20 + k)) (drop (20 + k) r))
        (take (n * 4) node_table) (take (n * (s + 1)) state_table) vs
    on-args =
        let F = fit-by in
        let a = F.lengths.plan_is in
        let b = F.lengths.table_is in
        record {
          path = record {
            most = F.limits.most;
            few = F.limits.few;
            labels = F.limits.labels_most;
            labels_room = simp (length-take, length-drop) (omega arith);
            inner_room = simp (length-take, length-drop) (omega arith);
            node_table_room = simp length-take (omega (arith, F.lengths.node_table_room));
            state_table_room = simp length-take (omega (arith, F.lengths.state_table_room));
          };
          some_state = omega (arith, F.limits.states);
          some_node = omega (arith, F.limits.nodes);
          kinds_room = simp (length-take, length-drop) (omega arith);
          leaves_room = simp (length-take, length-drop) (omega arith);
          listed = A.listed;
        }

    pub on-answer : (a : Result Counted Refusal)
        → a ≡ counted_on (part_view n s k (take (12 + n - 12) (drop 12 p)) (take (length p - (12 + n)) (drop (12 + n) p))
        (take (20 + k - 20) (drop 20 r)) (take (20 + k + s * k * s - (20 + k)) (drop (20 + k) r))
        (take (n * 4) node_table) (take (n * (s + 1)) state_table)) vs
        → a ≡ counted_on (view_in n s k p r node_table state_table) vs
    on-answer a e =
        let F = fit-by in
        let a₁ : n ≡ 12 + n - 12 = omega arith in
        let a₂ : n ≡ length p - (12 + n) = omega (arith, F.lengths.plan_is) in
        let a₃ : k ≡ 20 + k - 20 = omega arith in
        let a₄ : s * k * s ≡ 20 + k + s * k * s - (20 + k) = omega arith in
        let on : ℕ → ℕ → ℕ → ℕ → Result Counted Refusal =
        λ i j x y. counted_on (part_view n s k (take i (drop 12 p)) (take j (drop (12 + n) p))
        (take x (drop 20 r)) (take y (drop (20 + k) r)) (take (n * 4) node_table) (take (n * (s + 1)) state_table)) vs in
        e
        ∙ sym (ap (λ (i : ℕ). on i n k (s * k * s)) a₁ ∙ ap (λ (j : ℕ). on (12 + n - 12) j k (s * k * s)) a₂
        ∙ ap (λ (x : ℕ). on (12 + n - 12) (length p - (12 + n)) x (s * k * s)) a₃
        ∙ ap (λ (y : ℕ). on (12 + n - 12) (length p - (12 + n)) (20 + k - 20) y) a₄)
