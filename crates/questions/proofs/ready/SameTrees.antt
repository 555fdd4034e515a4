-- Two trees of the same kinds.
--     same_size    their subtrees have the same sizes
--     same-sub     where their labels agree under a node, its subtrees are the same
use Rattle.std.proofs.Common.{◌≡◌, ℕ, zero, suc, ◌+◌, ◌-◌, ◌<◌, List, length, get_or, sym, ap, ◌∙◌, ap₂, arith}
use native.Mathlib.Decide.{ℕ_discrete}
use Rattle.trees.specs.Tree.{Tree, leaf, size, kinds_of, kind_at, label_at}
use Rattle.trees.specs.Numbering.{sub, InSubtree}
use Rattle.trees.proofs.NodeLaws.{Inner, inner, sub-leaf, length-kinds}

module _ (t u : Tree) (same : kinds_of t ≡ kinds_of u) where
  pub same_count : size t ≡ size u
  same_count = sym (length-kinds t) ∙ ap length same ∙ length-kinds u

  pub same_kind : (v : ℕ) → kind_at t v ≡ kind_at u v
  same_kind v = ap (λ (l : List ℕ). get_or l v 0) same

  sizes-in : (f v : ℕ) → v < f → v < size t → size (sub t v) ≡ size (sub u v)
  sizes-in zero v l h = absurd (omega arith)
  sizes-in (suc f) v l h = elim (ℕ_discrete (kind_at t v) 0) [
    | yes e ↦ ap size (sub-leaf t v h e) ∙ sym (ap size (sub-leaf u v (omega (arith, same_count)) (sym (same_kind v) ∙ e)))
    | no e ↦ (let i : Inner t v = inner t v h e in
        let j : Inner u v = inner u v (omega (arith, same_count)) (λ z. e (same_kind v ∙ z)) in
        let r : size (sub t (v - 1)) ≡ size (sub u (v - 1)) = sizes-in f (v - 1) (omega (arith, i.at)) (omega arith) in
        let q : i.left ≡ j.left = omega (arith, i.at, j.at) in
        let s : size (sub t i.left) ≡ size (sub u j.left) =
        sizes-in f i.left (omega (arith, i.at)) (omega (arith, i.at)) ∙ ap (λ (x : ℕ). size (sub u x)) q in
        ap size i.is ∙ ap₂ (λ (x y : ℕ). x + y + 1) s r ∙ sym (ap size j.is))
  ]

  pub same_size : (v : ℕ) → v < size t → size (sub t v) ≡ size (sub u v)
  same_size v h = sizes-in (suc v) v (omega arith) h

  subs-in : (f c : ℕ) → c < f → c < size t → ((v : ℕ) → InSubtree t c v → label_at t v ≡ label_at u v) → sub t c ≡ sub u c
  subs-in zero c l h a = absurd (omega arith)
  subs-in (suc f) c l h a = elim (ℕ_discrete (kind_at t c) 0) [
    | yes e ↦ (let z : size (sub t c) ≡ 1 = ap size (sub-leaf t c h e) in
        sub-leaf t c h e ∙ ap leaf (a c (omega arith, omega arith)) ∙ sym (sub-leaf u c (omega (arith, same_count)) (sym (same_kind c) ∙ e)))
    | no e ↦ (let i : Inner t c = inner t c h e in
        let j : Inner u c = inner u c (omega (arith, same_count)) (λ z. e (same_kind c ∙ z)) in
        let z : size (sub t c) ≡ size (sub t i.left) + size (sub t (c - 1)) + 1 = ap size i.is in
        let n : size (sub t (c - 1)) ≡ size (sub u (c - 1)) = same_size (c - 1) (omega (arith, i.at)) in
        let q : i.left ≡ j.left = omega (arith, i.at, j.at) in
        let r : sub t (c - 1) ≡ sub u (c - 1) =
        subs-in f (c - 1) (omega (arith, i.at)) (omega arith) (λ v p. a v (omega (arith, i.at), omega (arith, i.at))) in
        let s : sub t i.left ≡ sub u j.left =
        subs-in f i.left (omega (arith, i.at)) (omega (arith, i.at)) (λ v p. a v (omega (arith, i.at), omega (arith, i.at))) ∙ ap (sub u) q in
        let b : label_at t c ≡ label_at u c = a c (omega arith, omega arith) in
        cc (i.is, j.is, r, s, b))
  ]

  pub same-sub : (c : ℕ) → c < size t → ((v : ℕ) → InSubtree t c v → label_at t v ≡ label_at u v) → sub t c ≡ sub u c
  same-sub c h a = subs-in (suc c) c (omega arith) h a
