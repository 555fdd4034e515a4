-- The number that each refusal of the build gives, by the answers of its parts.
--     plan-refused, rules-refused     2 to 5, and 6 to 9
--     states-refused                  27
--     labels-refused, room-refused    10 and 11; all_pass: none
use Prim.Native.Nat.{ℕ, ◌+◌, ◌-◌, ◌≤◌, ◌<◌}
use mathlib.Core.Path.{◌≡◌, sym, ap, ap₂, ◌∙◌}
use mathlib.Core.Bool.{Bool, true, false}
use mathlib.Core.List.{List, [], ◌∷◌}
use lib.ListN.{take, drop}
use borrow.Author.Tests.{le-leb, lt-leb}
use Rattle.list_laws.specs.Tests.{all_below}
use Rattle.formats.specs.Plan.{node_count, labels_within}
use Rattle.formats.specs.Rules.{state_count, label_count}
use Rattle.formats.specs.Checks.{check, first_no, plan_checks, rule_checks, label_check}
use Rattle.formats.proofs.CheckLaws.{first_no-none, first_no-yes, first_no-no}
use Rattle.formats.proofs.PlanLaws.{plan-numbered, labels-part}
use Rattle.formats.proofs.RuleLaws.{rules-numbered}
use Rattle.formats.proofs.InputAnswers.{first_part, last-part}
use Rattle.colour_tables.specs.rule.Build.{set_colours_fit, set_states_fit, rule_colour_checks}

module _ (p r : List ℕ) (l m : ℕ) where
  pub plan-refused : (x : ℕ) → x ≡ first_no (plan_checks p) → (x ≡ 0 → ⊥) → x ≡ first_no (rule_colour_checks p r l m)
  unfolding rule_colour_checks
  plan-refused x e f = first_part (plan_checks p) _ x e f

  module _ (plan : first_no (plan_checks p) ≡ 0) where
    pub rules-refused : (x : ℕ) → x ≡ first_no (rule_checks r) → (x ≡ 0 → ⊥) → x ≡ first_no (rule_colour_checks p r l m)
    unfolding rule_colour_checks
    rules-refused x e f =
        last-part (plan_checks p) _ (plan-numbered p) plan x (first_part (rule_checks r) _ x e f)

    module _ (rules : first_no (rule_checks r) ≡ 0) where
      after : (x : ℕ)
          → x ≡ first_no (check 27 (set_states_fit (state_count r)) ∷ label_check p (label_count r)
          ∷ check 11 (set_colours_fit (node_count p) (state_count r) l m) ∷ [])
          → x ≡ first_no (rule_colour_checks p r l m)
      unfolding rule_colour_checks
      after x e =
          last-part (plan_checks p) _ (plan-numbered p) plan x (last-part (rule_checks r) _ (rules-numbered r) rules x e)

      -- the labels are read as a part of the plan
      module _ (n s k : ℕ) (a : n ≡ node_count p) (b : s ≡ state_count r) (c : k ≡ label_count r) where
        pub states-refused : 4 < s → 27 ≡ first_no (rule_colour_checks p r l m)
        states-refused h =
            after 27 (sym (first_no-no 27 (set_states_fit (state_count r)) _ (rw (← b) (lt-leb s 4 h))))

        module _ (few : s ≤ 4) (x : Bool) (below : x ≡ all_below k (take (12 + n - 12) (drop 12 p))) where
          states_fit : set_states_fit (state_count r) ≡ true
          states_fit = rw (← b) (le-leb s 4 few)

          labels_are : all_below (label_count r) (labels_within p) ≡ x
          labels_are =
              ap (λ (i : ℕ). all_below i (labels_within p)) (sym c) ∙ sym (below ∙ ap (all_below k) (labels-part p n a))

          pub labels-refused : x ≡ false → 10 ≡ first_no (rule_colour_checks p r l m)
          labels-refused f =
              after 10 (sym (first_no-yes 27 (set_states_fit (state_count r)) _ states_fit
              ∙ first_no-no 10 (all_below (label_count r) (labels_within p)) _ (labels_are ∙ f)))

          module _ (low : x ≡ true) (y : Bool) (fit : y ≡ set_colours_fit n s l m) where
            fit_is : set_colours_fit (node_count p) (state_count r) l m ≡ y
            fit_is = ap₂ (λ (i j : ℕ). set_colours_fit i j l m) (sym a) (sym b) ∙ sym fit

            last : (z : ℕ) → z ≡ first_no (check 11 (set_colours_fit (node_count p) (state_count r) l m) ∷ [])
                → z ≡ first_no (rule_colour_checks p r l m)
            last z e =
                after z (e ∙ sym (first_no-yes 27 (set_states_fit (state_count r)) _ states_fit
                ∙ first_no-yes 10 (all_below (label_count r) (labels_within p)) _ (labels_are ∙ low)))

            pub room-refused : y ≡ false → 11 ≡ first_no (rule_colour_checks p r l m)
            room-refused f =
                last 11
                (sym (first_no-no 11 (set_colours_fit (node_count p) (state_count r) l m) [] (fit_is ∙ f)))

            pub all_pass : y ≡ true → 0 ≡ first_no (rule_colour_checks p r l m)
            all_pass f =
                last 0 (sym (first_no-yes 11 (set_colours_fit (node_count p) (state_count r) l m) [] (fit_is ∙ f)
                ∙ first_no-none))
