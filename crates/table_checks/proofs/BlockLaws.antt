-- Blocks of nodes.
--     every-step                     one number more
--     listed_start, listed-step      a list of nodes, one node more
--     both-step                      the lists of inner nodes and of leaves, one node more
--     leaves-told                    what the test of the listed leaves means
use Prim.Native.Nat.{ℕ, ◌+◌, ◌-◌, ◌≤◌, ◌<◌}
use mathlib.Core.Path.{◌≡◌, sym, ap, ◌∙◌, subst}
use mathlib.Core.Bool.{Bool, true, ◌&&◌}
use mathlib.Core.List.{List}
use native.Mathlib.Decide.{ℕ_discrete}
use native.Mathlib.Numerals.{add-one}
use native.Mathlib.Omega.{arith}
use lib.ListN.{length, get_or, set}
use lib.Seq.{get_or-set_same, get_or-set_other}
use Rattle.tables.specs.inner.Compare.{every}
use Rattle.table_checks.specs.inner.PairStates.{leaf_is}
use Rattle.table_checks.specs.inner.Blocks.{inner_node, leaf_node, Listed, BothListed, Means, Leaves}
use Rattle.tables.proofs.CompareLaws.{every-all, every-at}

pub every-step : (n : ℕ) (f : ℕ → Bool) → every (n + 1) f ≡ (every n f && f n)
unfolding every
every-step n f = rw (add-one n)

-- ---- the list

pub listed_start : (f : ℕ → ℕ) (b : ℕ) (l : List ℕ) → Listed f b b 0 l
listed_start f b l = record {
  few = omega arith;
  from = λ i h. absurd (omega arith);
  to = λ i h. absurd (omega arith);
  on = λ i h. absurd (omega arith);
  all = λ v h i. absurd (omega arith);
}

module _ (f : ℕ → ℕ) (b v c : ℕ) (l : List ℕ) (L : Listed f b v c l) (room : c < length l) (order : b ≤ v) where
  old : (i : ℕ) → i < c → get_or (set l c v) i 0 ≡ get_or l i 0
  old i h = get_or-set_other l c i v 0 (omega arith)

  new : get_or (set l c v) c 0 ≡ v
  new = get_or-set_same l c v 0 room

  left_out : f v ≡ 0 → Listed f b (v + 1) c (set l c v)
  left_out k = record {
    few = omega (arith, L.few);
    from = λ i h. omega (arith, old i h, L.from i h);
    to = λ i h. omega (arith, old i h, L.to i h);
    on = λ i h e. L.on i h (ap f (sym (old i h)) ∙ e);
    all = λ u g h e. elim (ℕ_discrete u v) [
      | yes z ↦ absurd (e (ap f z ∙ k))
      | no z ↦ (let m = L.all u g (omega arith) e in (m.0, m.1, old m.0 m.1 ∙ m.2))
    ];
  }

  taken_in : (f v ≡ 0 → ⊥) → Listed f b (v + 1) (c + 1) (set l c v)
  taken_in k = record {
    few = omega (arith, L.few);
    from = λ i h. elim (ℕ_discrete i c) [
      | yes z ↦ rw z (omega (arith, new))
      | no z ↦ omega (arith, old i (omega arith), L.from i (omega arith))
    ];
    to = λ i h. elim (ℕ_discrete i c) [
      | yes z ↦ rw z (omega (arith, new))
      | no z ↦ omega (arith, old i (omega arith), L.to i (omega arith))
    ];
    on = λ i h e. elim (ℕ_discrete i c) [
      | yes z ↦ k (ap f (sym (ap (λ (x : ℕ). get_or (set l c v) x 0) z ∙ new)) ∙ e)
      | no z ↦ L.on i (omega arith) (ap f (sym (old i (omega arith))) ∙ e)
    ];
    all = λ u g h e. elim (ℕ_discrete u v) [
      | yes z ↦ (c, omega arith, new ∙ sym z)
      | no z ↦ (let m = L.all u g (omega arith) e in (m.0, omega (arith, m.1), old m.0 m.1 ∙ m.2))
    ];
  }

  pub listed-step : f v ≤ 1 → Listed f b (v + 1) (c + f v) (set l c v)
  listed-step k = elim (ℕ_discrete (f v) 0) [
    | yes z ↦ subst (λ (x : ℕ). Listed f b (v + 1) x (set l c v))
        (let e : c ≡ c + f v = omega arith in e) (left_out z)
    | no z ↦ subst (λ (x : ℕ). Listed f b (v + 1) x (set l c v))
        (let e : c + 1 ≡ c + f v = omega arith in e) (taken_in z)
  ]

-- both lists
module _ (ks : List ℕ) (b v c : ℕ) (l m : List ℕ) where
  pub both-step : BothListed ks b v c l m → b ≤ v → get_or ks v 0 ≤ 1 → c < length l → v - b - c < length m
      → BothListed ks b (v + 1) (c + get_or ks v 0) (set l c v) (set m (v - b - c) v)
  both-step L order k room leaf_room = record {
    inner = listed-step (inner_node ks) b v c l L.inner room order k;
    leaf =
        subst (λ (x : ℕ). Listed (leaf_node ks) b (v + 1) x (set m (v - b - c) v))
        (let e : v - b - c + (1 - get_or ks v 0) ≡ v + 1 - b - (c + get_or ks v 0) = omega (arith, L.inner.few) in e)
        (listed-step (leaf_node ks) b v (v - b - c) m L.leaf leaf_room order (omega arith));
  }

-- ---- the leaves

pub leaves-told : (ks ls node_table lv : List ℕ) (s : ℕ) (state_table : List ℕ) (b e c : ℕ) (l : List ℕ)
    → Listed (leaf_node ks) b e c l → (r : Bool)
    → r ≡ every c (λ i. leaf_is ls node_table lv s state_table (get_or l i 0))
    → Means r (Leaves ks ls node_table lv s state_table b e)
leaves-told ks ls node_table lv s state_table b e c l L r h =
    let f : ℕ → Bool = λ i. leaf_is ls node_table lv s state_table (get_or l i 0) in
    record {
      yes = λ z v g m k. (let i = L.all v g m (λ o. absurd (omega (arith, o, k))) in
          subst (λ (x : ℕ). leaf_is ls node_table lv s state_table x ≡ true) i.2
          (every-at c f (sym h ∙ z) i.0 i.1));
      back = λ p. h ∙ every-all c f (λ i m. p (get_or l i 0) (L.from i m) (L.to i m)
          (elim (ℕ_discrete (get_or ks (get_or l i 0) 0) 0) [
            | yes z ↦ z
            | no z ↦ absurd (L.on i m (omega arith))
          ]));
    }
