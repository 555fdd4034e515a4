-- What the passes share: bounds of states and lookups, and one step down of the clearing states.
--     rule-args, leaf-args, set-args, mark-args   what the lookups in a rule table need
--     run_below, next-below                       states stay below s
--     size_low, state-low, clearing-low           sizes, states and sets fit in the numbers written
--     right-states, left-states                   the sets that go to the children are their clearing states
--     marked-states                               the marked states are the root's
use Prim.Native.Nat.{ℕ, ◌+◌, ◌-◌, ◌*◌, ◌≤◌, ◌<◌}
use mathlib.Core.Path.{◌≡◌, sym, ap, ◌∙◌}
use mathlib.Core.List.{List}
use native.Mathlib.Omega.{arith}
use native.Mathlib.Nat.{mul-le-mul_right}
use lib.ListN.{length, get_or}
use Rattle.list_laws.proofs.RowLaws.{stride}
use Rattle.trees.specs.Tree.{Tree, kinds_of, labels_of, size, kind_at, label_at}
use Rattle.trees.specs.Automaton.{state}
use Rattle.trees.specs.Numbering.{sub}
use Rattle.trees.proofs.NodeLaws.{sub-size}
use Rattle.trees.proofs.PostorderLaws.{size_of}
use Rattle.trees.proofs.RunLaws.{state_below}
use Rattle.formats.specs.Rules.{tree_automaton}
use Rattle.formats.specs.inner.InnerChecks.{RuleArgs}
use Rattle.formats.proofs.RuleLaws.{rule-in}
use Rattle.state_sets.specs.StateSets.{member}
use Rattle.state_sets.specs.inner.Gather.{gathered_from, GatherArgs}
use Rattle.state_sets.proofs.SetLaws.{set_of-ext, member-single}
use Rattle.state_sets.proofs.BitLaws.{sets_below}
use Rattle.allowed.specs.Clearing.{clearing_set}
use Rattle.allowed.specs.inner.Inputs.{left_child, PassArgs, MarksGiven}
use Rattle.allowed.specs.inner.Sets.{right_set, left_set, marked_set, SetArgs, MarkArgs}
use Rattle.allowed.proofs.ClearingLaws.{set-root, set-left, set-right}

pub rule-args : (ks ls lv inn : List ℕ) (s k p a q : ℕ) → PassArgs ks ls lv inn s k → p < s → a < k → q < s → RuleArgs inn s k p a q
rule-args ks ls lv inn s k p a q G hp ha hq = record {
  small = omega (arith, stride k p s hp, mul-le-mul_right k G.few, G.labels);
  inside = omega (arith, rule-in s k p a q hp ha hq, G.inner_count);
}

pub mark-args : (mk : List ℕ) (s : ℕ) → s ≤ 16 → MarksGiven mk s → MarkArgs mk s
mark-args mk s few M = record {
  few = few;
  marks = record {
    few = omega arith;
    inside = λ i h. omega (arith, M.count);
    below = λ j. omega (arith, M.below j);
  };
}

module _ (ks ls lv inn : List ℕ) (s k : ℕ) (G : PassArgs ks ls lv inn s k) where
  pub run_below : (mk : List ℕ) (t : Tree) → state (tree_automaton s k lv inn mk) t < s
  run_below mk t = state_below (tree_automaton s k lv inn mk) G.leaf_below (λ p a q. G.inner_below _) t

  pub next-below : (p a q : ℕ) → get_or inn ((p * k + a) * s + q) 0 < s
  next-below p a q = G.inner_below ((p * k + a) * s + q)

  -- ---- what the lookups need

  pub leaf-args : GatherArgs lv 0 1 k
  leaf-args = record {
    few = G.labels;
    inside = λ i h. omega (arith, G.leaf_count);
    below = λ j. omega (arith, G.leaf_below j, G.few);
  }

  module _ (p a q : ℕ) (hp : p < s) (ha : a < k) (hq : q < s) where
    pub set-args : SetArgs inn s k p a q
    set-args =
        let pk : p * k + k ≤ s * k = stride k p s hp in
        let sk : s * k ≤ 16 * k = mul-le-mul_right k G.few in
        let at : (p * k + a) * s + q < s * k * s = rule-in s k p a q hp ha hq in
        let all : s * k * s ≤ 16 * k * s = mul-le-mul_right s sk in
        let ks16 : k * s ≤ 64 * s = mul-le-mul_right s G.labels in
        record {
          few = G.few;
          row = omega (arith, G.labels);
          row_at = omega (arith, G.few);
          column_at = omega (arith, stride s a k ha, G.few);
          column_step = omega (arith, G.few);
          labels_at = omega (arith, G.few);
          right = record {
            few = omega (arith, G.few);
            inside = λ i h. omega (arith, rule-in s k p a i hp ha h, G.inner_count);
            below = λ j. omega (arith, G.inner_below j, G.few);
          };
          left = record {
            few = omega (arith, G.few);
            inside = λ i h. omega (arith, rule-in s k i a q h ha hq, G.inner_count);
            below = λ j. omega (arith, G.inner_below j, G.few);
          };
          labels = record {
            few = G.labels;
            inside = λ i h. omega (arith, rule-in s k p i q hp h hq, G.inner_count);
            below = λ j. omega (arith, G.inner_below j, G.few);
          };
        }

  -- ---- one tree

  module _ (mk : List ℕ) (t : Tree) (x : kinds_of t ≡ ks) (y : labels_of t ≡ ls) where
    pub n_is : length ks ≡ size t
    n_is = size_of t ks x

    pub label_is : (v : ℕ) → label_at t v ≡ get_or ls v 0
    label_is v = ap (λ (l : List ℕ). get_or l v 0) y

    pub size_low : (v : ℕ) → v < size t → size (sub t v) < 65536
    size_low v h = omega (arith, sub-size t v h, G.most, n_is)

    pub state-low : (v : ℕ) → state (tree_automaton s k lv inn mk) (sub t v) < 16
    state-low v = omega (arith, run_below mk (sub t v), G.few)

    pub clearing-low : (v : ℕ) → clearing_set (tree_automaton s k lv inn mk) t v < 65536
    unfolding clearing_set
    clearing-low v = sets_below s _ G.few

    -- the marked states are the accepting ones
    pub marked-states : (v : ℕ) → v + 1 ≡ size t → marked_set mk s ≡ clearing_set (tree_automaton s k lv inn mk) t v
    unfolding gathered_from
    marked-states v e =
        set_of-ext s _ _ (λ q _. let z : 0 + q * 1 ≡ q = omega arith in
        ap (λ (j : ℕ). member 2 (get_or mk j 0)) z ∙ member-single 1 (get_or mk q 0))
        ∙ sym (set-root (tree_automaton s k lv inn mk) t v e)

    module _ (v : ℕ) (h : v < size t) (c : kind_at t v ≡ 0 → ⊥) where
      pub right-states : right_set inn s k (state (tree_automaton s k lv inn mk) (sub t (left_child t v))) (get_or ls v 0)
          (clearing_set (tree_automaton s k lv inn mk) t v) ≡ clearing_set (tree_automaton s k lv inn mk) t (v - 1)
      unfolding gathered_from
      right-states =
          set_of-ext s _ _ (λ q _. ap (member (clearing_set (tree_automaton s k lv inn mk) t v))
          (place (state (tree_automaton s k lv inn mk) (sub t (left_child t v))) (get_or ls v 0) q
          ∙ ap (λ (a : ℕ). get_or inn ((state (tree_automaton s k lv inn mk) (sub t (left_child t v)) * k + a) * s + q) 0) (sym (label_is v))))
          ∙ sym (set-right (tree_automaton s k lv inn mk) t next-below v h c)
        where
          place : (p a q : ℕ) → get_or inn ((p * k + a) * s + q * 1) 0 ≡ get_or inn ((p * k + a) * s + q) 0
          place p a q = let z : (p * k + a) * s + q * 1 ≡ (p * k + a) * s + q = omega arith in ap (λ (j : ℕ). get_or inn j 0) z

      pub left-states : left_set inn s k (get_or ls v 0) (state (tree_automaton s k lv inn mk) (sub t (v - 1)))
          (clearing_set (tree_automaton s k lv inn mk) t v) ≡ clearing_set (tree_automaton s k lv inn mk) t (left_child t v)
      unfolding gathered_from
      left-states =
          set_of-ext s _ _ (λ p _. ap (member (clearing_set (tree_automaton s k lv inn mk) t v))
          (place p (get_or ls v 0) (state (tree_automaton s k lv inn mk) (sub t (v - 1)))
          ∙ ap (λ (a : ℕ). get_or inn ((p * k + a) * s + state (tree_automaton s k lv inn mk) (sub t (v - 1))) 0) (sym (label_is v))))
          ∙ sym (set-left (tree_automaton s k lv inn mk) t next-below v h c)
        where
          place : (p a q : ℕ) → get_or inn (a * s + q + p * (k * s)) 0 ≡ get_or inn ((p * k + a) * s + q) 0
          place p a q = let z : a * s + q + p * (k * s) ≡ (p * k + a) * s + q = omega arith in ap (λ (j : ℕ). get_or inn j 0) z
