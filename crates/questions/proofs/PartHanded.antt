-- What a part hands on: the runs of plan and rules, and the tables without their excess.
--     Fit, fit-by      all that the three tests say
--     part-args        so every read is inside its run
--     part-answer        the part on the runs is the part that the caller asks for
use Rattle.std.proofs.Common.{◌≡◌, ℕ, ◌+◌, ◌-◌, ◌*◌, ◌≤◌, true, List, length, get_or, take, drop, sym, ap, ◌∙◌, arith, length-drop, length-take}
use Rattle.formats.specs.Rules.{rule_length}
use Rattle.formats.specs.Buffers.{limits_fit, buffers_fit}
use Rattle.formats.proofs.PlanLaws.{product-most}
use Rattle.formats.proofs.BufferLaws.{Limits, limits-are, Lengths, lengths-are}
use Rattle.tables.specs.Climbs.{climbed_of}
use Rattle.tables.specs.declared.answers.Climbed.{Climbed}
use Rattle.questions.specs.Part.{part_on}
use Rattle.questions.specs.inner.PartArgs.{part_view, PartArgs}
use Rattle.questions.specs.PartAnswers.{asked_fits, part_given}
use Rattle.questions.proofs.PartFits.{Asked, asked-are, given_yes}

module _ (n s k : ℕ) (plan rules node_table state_table roots states vs bs : List ℕ) where
  pub record Fit : Type 0 where
    pub limits : Limits n s k
    pub lengths : Lengths n s (rule_length s k) (length plan) (length rules) (length node_table) (length state_table)
    pub asked : Asked n roots states vs bs
    pub rows : s * k ≤ 1024
    pub rules-few : s * k * s ≤ 16384
    pub cells : n * (s + 1) ≤ 1114095

  module _ (l : limits_fit n s k ≡ true)
      (m : buffers_fit n s (rule_length s k) (length plan) (length rules) (length node_table) (length state_table) ≡ true)
      (a : asked_fits n roots states vs bs ≡ true) where
    pub fit-by : Fit
    fit-by =
        let L = limits-are n s k l in
        let r = product-most s k 16 64 L.few L.labels_most in
        record {
          limits = L;
          lengths = lengths-are n s (rule_length s k) (length plan) (length rules) (length node_table) (length state_table) m;
          asked = asked-are n roots states vs bs a;
          rows = r;
          rules-few = product-most (s * k) s 1024 16 r L.few;
          cells = product-most n (s + 1) 65535 17 L.most (omega (arith, L.few));
        }

    pub part-answer : (r : Climbed)
        → r ≡ climbed_of (part_on (part_view n s k (take (12 + n - 12) (drop 12 plan))
        (take (length plan - (12 + n)) (drop (12 + n) plan))
        (take (20 + k - 20) (drop 20 rules)) (take (20 + k + s * k * s - (20 + k)) (drop (20 + k) rules))
        (take (n * 4) node_table) (take (n * (s + 1)) state_table)) (take (length states) roots) states vs bs
        (get_or roots (length states) 0))
        → r ≡ climbed_of (part_given n s k plan rules node_table state_table roots states vs bs)
    part-answer r e =
        let F = fit-by in
        let a₁ : n ≡ 12 + n - 12 = omega arith in
        let a₂ : n ≡ length plan - (12 + n) = omega (arith, F.lengths.plan_is) in
        let a₃ : k ≡ 20 + k - 20 = omega arith in
        let a₄ : s * k * s ≡ 20 + k + s * k * s - (20 + k) = omega arith in
        let runs : ℕ → ℕ → ℕ → ℕ → Climbed =
        λ i j x y. climbed_of (part_on (part_view n s k (take i (drop 12 plan)) (take j (drop (12 + n) plan))
        (take x (drop 20 rules)) (take y (drop (20 + k) rules)) (take (n * 4) node_table) (take (n * (s + 1)) state_table))
        (take (length states) roots) states vs bs (get_or roots (length states) 0)) in
        e
        ∙ sym (ap (λ (i : ℕ). runs i n k (s * k * s)) a₁ ∙ ap (λ (j : ℕ). runs (12 + n - 12) j k (s * k * s)) a₂
        ∙ ap (λ (x : ℕ). runs (12 + n - 12) (length plan - (12 + n)) x (s * k * s)) a₃
        ∙ ap (λ (y : ℕ). runs (12 + n - 12) (length plan - (12 + n)) (20 + k - 20) y) a₄)
        ∙ ap climbed_of (sym (given_yes n s k plan rules node_table state_table roots states vs bs l m a))

  pub part-args : Fit
      → PartArgs n s k (take (12 + n - 12) (drop 12 plan)) (take (length plan - (12 + n)) (drop (12 + n) plan))
      (take (20 + k - 20) (drop 20 rules)) (take (20 + k + s * k * s - (20 + k)) (drop (20 + k) rules))
      (take (n * 4) node_table) (take (n * (s + 1)) state_table) (take (length states) roots) states vs bs
      (get_or roots (length states) 0)
  part-args F =
      let p = F.lengths.plan_is in
      let r = F.lengths.table_is in
      record {
        path = record {
          most = F.limits.most;
          few = F.limits.few;
          labels = F.limits.labels_most;
          labels_room = simp (length-take, length-drop) (omega arith);
          inner_room = simp (length-take, length-drop) (omega arith);
          node_table_room = simp length-take (omega (arith, F.lengths.node_table_room));
          state_table_room = simp length-take (omega (arith, F.lengths.state_table_room));
        };
        at = F.asked.inside;
        kinds_room = simp (length-take, length-drop) (omega arith);
        leaves_room = simp (length-take, length-drop) (omega arith);
        same = simp length-take (omega (arith, F.asked.root));
        many = simp length-take (omega (arith, F.asked.root, F.asked.roots-most));
        same_list = F.asked.same;
        many_list = F.asked.most;
      }
