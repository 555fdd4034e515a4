-- The parts of a ready set are a partition, and each is a subtree, a subtree with a hole, or a single node (source document 002, 4.1.1).
--     part-unique, part-exists    each node is in exactly one part
--     part-subtree                a member with none below it roots its whole subtree
--     part-hole-left, -right       one with members below one child only: its subtree without that of the highest of them
--     part-single                 one with members below both children: itself alone
use Rattle.std.proofs.Common.{◌≡◌, ℕ, zero, suc, ◌+◌, ◌<◌, ◌≤◌, Bool, ◌⊎◌, ◌↔◌, sym, subst, inl, inr, arith}
use native.Mathlib.Decide.{ℕ_discrete}
use Rattle.trees.specs.Tree.{Tree, size, kind_at}
use Rattle.trees.specs.Numbering.{parent, depth, InSubtree}
use Rattle.trees.proofs.NodeLaws.{up}
use Rattle.questions.specs.ready.Ready.{Ready, left_child, right_child, root}
use Rattle.questions.specs.ready.Partition.{InPart}
use Rattle.questions.proofs.ready.UnderLaws.{under-self, under-trans, under-anti, under_parent, under_up}
use Rattle.questions.proofs.ready.UnderLaws.{left_in, right_in, under-inner}
use Rattle.questions.proofs.ready.ClosedForm.{comparable, ready-in, ready-closed}
use Rattle.questions.proofs.ready.HighestLaws.{Highest, highest-holds}
use Rattle.questions.proofs.ready.ListLaws.{ready-dec}

module _ (w : ℕ → Bool) (t : Tree) where
  -- ---- one part for each node

  pub part-unique : (v u x : ℕ) → InPart w t v x → InPart w t u x → v ≡ u
  part-unique v u x p q = under-anti t v u (q.lowest v p.member p.under) (p.lowest u q.member q.under)

  here : (x : ℕ) → Ready w t x → (v : ℕ) × InPart w t v x
  here x c = (x, record { member = c; under = under-self t x; lowest = λ u cu p. p })

  not_root : (x : ℕ) → x < size t → (Ready w t x → ⊥) → x + 1 < size t
  not_root x h n = elim (ℕ_discrete (x + 1) (size t)) [
    | yes e ↦ absurd (n (root e))
    | no e ↦ omega arith
  ]

  above : (x : ℕ) → x < size t → (Ready w t x → ⊥) → (v : ℕ) × InPart w t v (parent t x) → (v : ℕ) × InPart w t v x
  above x h n (v, p) =
      let r : x + 1 < size t = not_root x h n in (
        v,
        record {
          member = p.member;
          under = under-trans t v (parent t x) x (ready-in w t p.member) (up t x r).below h p.under (under_up t x r);
          lowest = λ u cu q. p.lowest u cu
              (under_parent t u x (ready-in w t cu) h q (λ e. n (subst (Ready w t) e cu))).1;
        },
      )

  part_up : (f x : ℕ) → depth t x ≤ f → x < size t → (v : ℕ) × InPart w t v x
  part_up zero x l h = elim (ready-dec w t x h) [
    | inl c ↦ here x c
    | inr n ↦ absurd (omega (arith, (up t x (not_root x h n)).deeper))
  ]
  part_up (suc f) x l h = elim (ready-dec w t x h) [
    | inl c ↦ here x c
    | inr n ↦ (let r : x + 1 < size t = not_root x h n in
        above x h n (part_up f (parent t x) (omega (arith, (up t x r).deeper)) (up t x r).below))
  ]

  pub part-exists : (x : ℕ) → x < size t → (v : ℕ) × InPart w t v x
  part-exists x h = part_up (depth t x) x (omega arith) h

  -- ---- what a part looks like

  module _ (v : ℕ) (c : Ready w t v) where
    -- x is in the part of v, once every member below v and above x is v itself
    in-part : (x : ℕ) → x < size t → InSubtree t v x → ((u : ℕ) → Ready w t u → InSubtree t v u → InSubtree t u x → u ≡ v) → InPart w t v x
    in-part x h p only = record {
      member = c;
      under = p;
      lowest = λ u cu q. elim (comparable t u v x (ready-in w t cu) (ready-in w t c) h q p) [
        | inl a ↦ a
        | inr b ↦ subst (λ (z : ℕ). InSubtree t z v) (sym (only u cu b q)) (under-self t v)
      ];
    }

    pub part-subtree : ((u : ℕ) → Ready w t u → InSubtree t v u → u ≡ v) → (x : ℕ) → x < size t → InPart w t v x ↔ InSubtree t v x
    part-subtree alone x h = (λ p. p.under, λ p. in-part x h p (λ u cu b q. alone u cu b))

    -- members below child c₁, the highest of them g, and none below child c₂
    hole : (g : ℕ) → Ready w t g → g < v → ((u : ℕ) → Ready w t u → InSubtree t v u → (u ≡ v) ⊎ InSubtree t g u) → (x : ℕ) → x < size t
        → InPart w t v x ↔ (InSubtree t v x × (InSubtree t g x → ⊥))
    hole g cg below held x h = (
      λ p. (p.under, λ q. omega (arith, p.lowest g cg q)),
      λ p. in-part x h p.0 (λ u cu b q. elim (held u cu b) [
        | inl e ↦ e
        | inr d ↦ absurd (p.1 (under-trans t g u x (ready-in w t cg) (ready-in w t cu) h d q))
      ]),
    )

    module _ (k : kind_at t v ≡ 1) where
      inner-in : v < size t
      inner-in = ready-in w t c

      child-in : (z : ℕ) → z < v → z < size t
      child-in z l = omega (arith, inner-in)

      highest-under : (z g : ℕ) → z < v → Highest t (Ready w t) z g → (u : ℕ) → Ready w t u → InSubtree t z u → InSubtree t g u
      highest-under z g l H = highest-holds w t (Ready w t) (ready-closed w t) (λ u. ready-in w t) z g (child-in z l) H

      pub part-hole-left : (g : ℕ) → Highest t (Ready w t) (left_child t v) g → ((u : ℕ) → Ready w t u → InSubtree t (right_child v) u → ⊥)
          → (x : ℕ) → x < size t → InPart w t v x ↔ (InSubtree t v x × (InSubtree t g x → ⊥))
      part-hole-left g H none = hole g H.member (omega (arith, H.below, left_in t v inner-in k)) (λ u cu b.
          elim (under-inner t v inner-in k u b) [
            | inl e ↦ inl e
            | inr d ↦ elim d [
              | inl l ↦ inr (highest-under (left_child t v) g (left_in t v inner-in k) H u cu l)
              | inr r ↦ absurd (none u cu r)
            ]
          ])

      pub part-hole-right : (g : ℕ) → Highest t (Ready w t) (right_child v) g → ((u : ℕ) → Ready w t u → InSubtree t (left_child t v) u → ⊥)
          → (x : ℕ) → x < size t → InPart w t v x ↔ (InSubtree t v x × (InSubtree t g x → ⊥))
      part-hole-right g H none = hole g H.member (omega (arith, H.below, right_in t v inner-in k)) (λ u cu b.
          elim (under-inner t v inner-in k u b) [
            | inl e ↦ inl e
            | inr d ↦ elim d [
              | inl l ↦ absurd (none u cu l)
              | inr r ↦ inr (highest-under (right_child v) g (right_in t v inner-in k) H u cu r)
            ]
          ])

      -- members l below the left child and r below the right one
      pub part-single : (l r : ℕ) → Ready w t l → InSubtree t (left_child t v) l → Ready w t r → InSubtree t (right_child v) r
          → (x : ℕ) → x < size t → InPart w t v x ↔ (x ≡ v)
      part-single l r cl pl cr pr x h =
          let both = (ready-closed w t).has_children v l r c cl cr (record { inside = inner-in; inner = k; left = pl; right = pr }) in (
            λ p. elim (under-inner t v inner-in k x p.under) [
              | inl e ↦ e
              | inr d ↦ absurd (elim d [
                | inl q ↦ omega (arith, p.lowest (left_child t v) both.0 q, left_in t v inner-in k)
                | inr q ↦ omega (arith, p.lowest (right_child v) both.1 q, right_in t v inner-in k)
              ])
            ],
            λ e. subst (λ (z : ℕ). InPart w t v z) (sym e) (record { member = c; under = under-self t v; lowest = λ u cu q. q }),
          )
