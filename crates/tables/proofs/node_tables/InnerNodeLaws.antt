-- The list of a block's inner nodes, and the kinds of a tree.
--     from_zero, from_next           where the nodes after the first i listed ones begin
--     listed_start, listed-step      no node looked at, and one more
--     kind-most                      kinds are 0 or 1
use Prim.Native.Nat.{ℕ, ◌+◌, ◌-◌, ◌≤◌, ◌<◌}
use mathlib.Core.Path.{◌≡◌, refl, sym, ap, ◌∙◌, subst}
use mathlib.Core.Bool.{true}
use mathlib.Core.List.{List}
use native.Mathlib.Decide.{ℕ_discrete}
use native.Mathlib.Numerals.{add-one}
use native.Mathlib.Omega.{arith}
use lib.ListN.{length, get_or, set}
use lib.Seq.{get_or-set_same, get_or-set_other}
use Rattle.trees.specs.Tree.{Tree, kinds_of, size}
use Rattle.trees.specs.Postorder.{is_postorder}
use Rattle.trees.proofs.PostorderLaws.{size_of, kind-of, some-tree}
use Rattle.tables.specs.node_tables.inner.InnerNodes.{from, Listed}
use Rattle.tables.proofs.node_tables.UpLoop.{inner-kind}

pub from_zero : (b : ℕ) (l : List ℕ) → from b l 0 ≡ b
unfolding from
from_zero b l = refl

pub from_next : (b : ℕ) (l : List ℕ) (i : ℕ) → from b l (i + 1) ≡ get_or l i 0 + 1
unfolding from
from_next b l i = rw (add-one i)

-- a later element changes nothing
from-same : (b : ℕ) (l : List ℕ) (c x i : ℕ) → i ≤ c → from b (set l c x) i ≡ from b l i
from-same b l c x i h = elim (ℕ_discrete i 0) [
  | yes z ↦ rw z (from_zero b (set l c x) ∙ sym (from_zero b l))
  | no z ↦ (let e : i ≡ i - 1 + 1 = omega arith in
      rw e (from_next b (set l c x) (i - 1) ∙ ap (λ (n : ℕ). n + 1) (get_or-set_other l c (i - 1) x 0 (omega arith))
      ∙ sym (from_next b l (i - 1))))
]

pub listed_start : (ks : List ℕ) (b : ℕ) (l : List ℕ) → Listed ks b b 0 l
listed_start ks b l = record {
  few = omega arith;
  begins = λ i h. absurd (omega arith);
  ends = λ i h. absurd (omega arith);
  inner = λ i h. absurd (omega arith);
  gaps = λ i p h. absurd (omega arith);
  rest = λ p h g. absurd (omega (arith, from_zero b l));
}

module _ (ks : List ℕ) (b v c : ℕ) (l : List ℕ) (L : Listed ks b v c l) (room : c < length l) (order : b ≤ v) where
  old : (i : ℕ) → i < c → get_or (set l c v) i 0 ≡ get_or l i 0
  old i h = get_or-set_other l c i v 0 (omega arith)

  new : get_or (set l c v) c 0 ≡ v
  new = get_or-set_same l c v 0 room

  leaf-listed : get_or ks v 0 ≡ 0 → Listed ks b (v + 1) c (set l c v)
  leaf-listed k = record {
    few = omega (arith, L.few);
    begins = λ i h. omega (arith, old i h, L.begins i h);
    ends = λ i h. omega (arith, old i h, L.ends i h);
    inner = λ i h e. L.inner i h (ap (λ (x : ℕ). get_or ks x 0) (sym (old i h)) ∙ e);
    gaps = λ i p h f g. L.gaps i p h (omega (arith, from-same b l c v i (omega arith))) (omega (arith, old i h));
    rest = λ p f g. elim (ℕ_discrete p v) [
      | yes z ↦ ap (λ (x : ℕ). get_or ks x 0) z ∙ k
      | no z ↦ L.rest p (omega (arith, from-same b l c v c (omega arith))) (omega arith)
    ];
  }

  inner-listed : (get_or ks v 0 ≡ 0 → ⊥) → Listed ks b (v + 1) (c + 1) (set l c v)
  inner-listed k = record {
    few = omega (arith, L.few);
    begins = λ i h. elim (ℕ_discrete i c) [
      | yes z ↦ rw z (omega (arith, new))
      | no z ↦ omega (arith, old i (omega arith), L.begins i (omega arith))
    ];
    ends = λ i h. elim (ℕ_discrete i c) [
      | yes z ↦ rw z (omega (arith, new))
      | no z ↦ omega (arith, old i (omega arith), L.ends i (omega arith))
    ];
    inner = λ i h e. elim (ℕ_discrete i c) [
      | yes z ↦ k (ap (λ (x : ℕ). get_or ks x 0) (sym (ap (λ (x : ℕ). get_or (set l c v) x 0) z ∙ new)) ∙ e)
      | no z ↦ L.inner i (omega arith) (ap (λ (x : ℕ). get_or ks x 0) (sym (old i (omega arith))) ∙ e)
    ];
    gaps = λ i p h f g. elim (ℕ_discrete i c) [
      | yes z ↦ L.rest p
          (omega (arith, from-same b l c v c (omega arith), ap (from b (set l c v)) z))
          (omega (arith, new, ap (λ (x : ℕ). get_or (set l c v) x 0) z))
      | no z ↦ L.gaps i p (omega arith) (omega (arith, from-same b l c v i (omega arith)))
          (omega (arith, old i (omega arith)))
    ];
    rest = λ p f g. absurd (omega (arith, from_next b (set l c v) c, new));
  }

  pub listed-step : get_or ks v 0 ≤ 1 → Listed ks b (v + 1) (c + get_or ks v 0) (set l c v)
  listed-step k = elim (ℕ_discrete (get_or ks v 0) 0) [
    | yes z ↦ subst (λ (x : ℕ). Listed ks b (v + 1) x (set l c v))
        (let e : c ≡ c + get_or ks v 0 = omega arith in e) (leaf-listed z)
    | no z ↦ subst (λ (x : ℕ). Listed ks b (v + 1) x (set l c v))
        (let e : c + 1 ≡ c + get_or ks v 0 = omega arith in e) (inner-listed z)
  ]

-- ---- kinds of a tree

pub kind-most : (ks : List ℕ) → is_postorder ks ≡ true → (j : ℕ) → j < length ks → get_or ks j 0 ≤ 1
kind-most ks h j l =
    let T : (t : Tree) × (kinds_of t ≡ ks) = some-tree ks h in
    let z : length ks ≡ size T.0 = size_of T.0 ks T.1 in
    let e : get_or (kinds_of T.0) j 0 ≡ get_or ks j 0 = kind-of T.0 ks j T.1 in
    elim (ℕ_discrete (get_or ks j 0) 0) [
      | yes y ↦ omega arith
      | no y ↦ omega (arith, e, inner-kind T.0 j (omega arith) (λ x. y (sym e ∙ x)))
    ]
