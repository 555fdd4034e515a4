-- The table of jump lengths agrees with the rule at every entry.
--     entry-by-rule      each entry follows the two-distances rule from earlier entries: one computed test over all 1,024
--     entry-is-jump      each entry is the length of the jump as the node tables define it
--     length-choice      so a length of 1 is the parent's, and any other that of the parent's jump
--     sums-equal, sums-differ   the two distances by sums: d - e is e - f where d + f is e + e
use Prim.Native.Nat.{ℕ, zero, suc, ◌+◌, ◌-◌, ◌≤◌, ◌<◌}
use mathlib.Core.Path.{◌≡◌, refl, sym, ap, ap₂, ◌∙◌}
use mathlib.Core.Bool.{Bool, true, false, cond}
use native.Mathlib.Decide.{ℕ_discrete}
use native.Mathlib.Omega.{arith}
use lib.Dec.{eqb}
use lib.ListN.{length, get_or}
use borrow.Author.Tests.{eqb-true, eq-eqb, ne_eqb}
use Rattle.trees.specs.Jumps.{jump_depth, two_distances}
use Rattle.trees.proofs.JumpLaws.{jump_depth-zero, jump_depth-suc, jump_depth-le}
use Rattle.trees.proofs.SkewBinary.{jump_depth-lt}
use Rattle.tables.specs.node_tables.JumpLengths.{jump_lengths, length_rule, length_at}
use Rattle.tables.proofs.node_tables.TableRule.{every, at_every}

follows : ℕ → ℕ → Bool
follows d x = eqb x (length_at d)

all-follow : every follows 0 jump_lengths ≡ true
unfolding jump_lengths every follows
all-follow = refl

count : length jump_lengths ≡ 1024
unfolding jump_lengths
count = refl

pub entry-by-rule : (d : ℕ) → d < 1024 → get_or jump_lengths d 0 ≡ length_at d
unfolding follows
entry-by-rule d h = eqb-true (get_or jump_lengths d 0) (length_at d) (at_every follows jump_lengths all-follow d (omega (arith, count)))

-- the rule on lengths is the rule on depths
rule-is-jump : (d j k : ℕ) → j ≤ d → k ≤ j → length_rule (d - j) (j - k) ≡ suc d - two_distances d j k k d
rule-is-jump d j k h i = elim (ℕ_discrete (d - j) (j - k)) [
  | yes e ↦ rw (eq-eqb (d - j) (j - k) e) (omega arith)
  | no e ↦ rw (ne_eqb (d - j) (j - k) e) (omega arith)
]

below : (n d : ℕ) → d < n → d < 1024 → get_or jump_lengths d 0 ≡ d - jump_depth d
below zero d l h = absurd (omega arith)
below (suc n) zero l h = entry-by-rule 0 h ∙ sym (ap (λ (j : ℕ). 0 - j) jump_depth-zero)
below (suc n) (suc d) l h =
    let near : get_or jump_lengths d 0 ≡ d - jump_depth d = below n d (omega arith) (omega arith) in
    let at : d - get_or jump_lengths d 0 ≡ jump_depth d = omega (arith, near, jump_depth-le d) in
    let far : get_or jump_lengths (jump_depth d) 0 ≡ jump_depth d - jump_depth (jump_depth d) =
    below n (jump_depth d) (omega (arith, jump_depth-le d)) (omega (arith, jump_depth-le d)) in
    entry-by-rule (suc d) h
    ∙ ap₂ length_rule near (ap (λ (i : ℕ). get_or jump_lengths i 0) at ∙ far)
    ∙ rule-is-jump d (jump_depth d) (jump_depth (jump_depth d)) (jump_depth-le d) (jump_depth-le (jump_depth d))
    ∙ sym (ap (λ (j : ℕ). suc d - j) (jump_depth-suc d))

pub entry-is-jump : (d : ℕ) → d < 1024 → get_or jump_lengths d 0 ≡ d - jump_depth d
entry-is-jump d h = below (suc d) d (omega arith) h

-- the choice by the length of a child of depth d + 1 is the choice by the two distances of its parent, at depth d; where the parent is the
-- root both are the same node
pub length-choice : (d far near : ℕ) → d + 1 < 1024 → (d ≡ 0 → far ≡ near)
    → cond (eqb (get_or jump_lengths (d + 1) 0) 1) near far
    ≡ two_distances d (jump_depth d) (jump_depth (jump_depth d)) far near
length-choice d far near h root =
    let e : get_or jump_lengths (d + 1) 0 ≡ length_rule (d - jump_depth d) (jump_depth d - jump_depth (jump_depth d)) =
    entry-is-jump (d + 1) h ∙ rule d in
    elim (ℕ_discrete (d - jump_depth d) (jump_depth d - jump_depth (jump_depth d))) [
      | yes q ↦ elim (ℕ_discrete d 0) [
        | yes z ↦ both d (root z)
        | no z ↦ (let f : get_or jump_lengths (d + 1) 0 ≡ 1 → ⊥ =
            (λ (g : get_or jump_lengths (d + 1) 0 ≡ 1).
            let r = e ∙ same (d - jump_depth d) (jump_depth d - jump_depth (jump_depth d)) q in
            omega (arith, jump_depth-lt d (omega arith))) in
            rw (ne_eqb (get_or jump_lengths (d + 1) 0) 1 f, eq-eqb (d - jump_depth d) (jump_depth d - jump_depth (jump_depth d)) q))
      ]
      | no q ↦ (let g : get_or jump_lengths (d + 1) 0 ≡ 1 = e ∙ other (d - jump_depth d) (jump_depth d - jump_depth (jump_depth d)) q in
          rw (eq-eqb (get_or jump_lengths (d + 1) 0) 1 g, ne_eqb (d - jump_depth d) (jump_depth d - jump_depth (jump_depth d)) q))
    ]
  where
    rule : (d : ℕ) → (d + 1) - jump_depth (d + 1) ≡ length_rule (d - jump_depth d) (jump_depth d - jump_depth (jump_depth d))
    rule d =
        let s : d + 1 ≡ suc d = omega arith in
        ap (λ (j : ℕ). j - jump_depth j) s ∙ ap (λ (j : ℕ). suc d - j) (jump_depth-suc d)
        ∙ sym (rule-is-jump d (jump_depth d) (jump_depth (jump_depth d)) (jump_depth-le d) (jump_depth-le (jump_depth d)))

    same : (l m : ℕ) → l ≡ m → length_rule l m ≡ 1 + l + m
    same l m e = rw (eq-eqb l m e)

    other : (l m : ℕ) → (l ≡ m → ⊥) → length_rule l m ≡ 1
    other l m e = rw (ne_eqb l m e)

    both : (d : ℕ) → far ≡ near
        → cond (eqb (get_or jump_lengths (d + 1) 0) 1) near far
        ≡ two_distances d (jump_depth d) (jump_depth (jump_depth d)) far near
    both d e = rw e (go (eqb (get_or jump_lengths (d + 1) 0) 1) (eqb (d - jump_depth d) (jump_depth d - jump_depth (jump_depth d))))
      where
        go : (a b : Bool) → cond a near near ≡ cond b near near
        go true true = refl
        go true false = refl
        go false true = refl
        go false false = refl

-- ---- the two distances, compared without a subtraction

module _ (d e f : ℕ) (falls : e ≤ d) (falls_again : f ≤ e) where
  pub sums-equal : (far near : ℕ) → d + f ≡ e + e → far ≡ two_distances d e f far near
  sums-equal far near s = rw (eq-eqb (d - e) (e - f) (omega arith))

  pub sums-differ : (far near : ℕ) → (d + f ≡ e + e → ⊥) → near ≡ two_distances d e f far near
  sums-differ far near s = rw (ne_eqb (d - e) (e - f) (λ (q : d - e ≡ e - f). s (omega arith)))
