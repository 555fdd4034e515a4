-- The loop of first_differing, one line at a time.
--     MarksLoop     the invariant: the first that differs among the lines left is the first of all
--     none-later    where none differs from a line on, none does from a later line on
--     marks-args    a record that can be worked on has the marks of its lines
use Prim.Native.Nat.{ℕ, zero, suc, ◌+◌, ◌*◌, ◌/◌, ◌%◌, ◌-◌, ◌≤◌, ◌<◌}
use mathlib.Core.Path.{◌≡◌, sym, ap, ◌∙◌, subst}
use mathlib.Core.List.{List}
use native.Mathlib.Omega.{arith}
use mathlib.Core.Bool.{Bool, true, false, cond}
use lib.Dec.{eqb}
use lib.ListN.{length, get_or}
use borrow.Author.Tests.{eq-eqb, ne_eqb}
use Rattle.products.specs.declared.agreement.reachable.Search.{Search}
use Rattle.products.specs.agreement.reachable.SearchRecord.{differing_from, Pair, Fits, MarksArgs}
use Rattle.formats.proofs.PlanLaws.{product-most}
use Rattle.products.proofs.agreement.reachable.RecordLaws.{count_most}

module _ (f g : List ℕ) (s2 : ℕ) (s : Search) where
  abbrev pub differs : ℕ → ℕ
  differs i = differing_from f g s2 s i (s.count - i)

  abbrev pub MarksLoop : ℕ → ℕ → Type 0
  MarksLoop o i = differs i ≡ differs o

  at-line : (i : ℕ) → i < s.count → differing_from f g s2 s i (s.count - i)
      ≡ cond (eqb (get_or f (get_or s.codes i 0 / s2) 0) (get_or g (get_or s.codes i 0 % s2) 0)) (differing_from f g s2 s
      (i + 1) (s.count - (i + 1))) (i + 1)
  unfolding differing_from
  at-line i h =
      let e : s.count - i ≡ suc (s.count - (i + 1)) = omega arith in
      let f : suc i ≡ i + 1 = omega arith in
      ap (differing_from _ _ s2 s i) e ∙ rw f

  pub marks-loop-same : (o i : ℕ) → MarksLoop o i → i < s.count
      → get_or f (get_or s.codes i 0 / s2) 0 ≡ get_or g (get_or s.codes i 0 % s2) 0 → MarksLoop o (i + 1)
  marks-loop-same o i M h e = sym (at-line i h ∙ rw (eq-eqb _ _ e)) ∙ M

  pub marks-loop-found : (o i : ℕ) → MarksLoop o i → i < s.count
      → (get_or f (get_or s.codes i 0 / s2) 0 ≡ get_or g (get_or s.codes i 0 % s2) 0 → ⊥)
      → i + 1 ≡ differs o
  marks-loop-found o i M h n = sym (at-line i h ∙ rw (ne_eqb _ _ n)) ∙ M

  pub marks-loop-end : (o i : ℕ) → MarksLoop o i → s.count ≤ i → 0 ≡ differs o
  unfolding differing_from
  marks-loop-end o i M h = let e : s.count - i ≡ 0 = omega arith in sym (ap (differing_from f g s2 s i) e) ∙ M

  none-next : (i : ℕ) → i < s.count → differs i ≡ 0 → differs (i + 1) ≡ 0
  none-next i h e = go (eqb (get_or f (get_or s.codes i 0 / s2) 0) (get_or g (get_or s.codes i 0 % s2) 0)) (sym (at-line i h) ∙ e)
    where
      go : (b : Bool) → cond b (differs (i + 1)) (i + 1) ≡ 0 → differs (i + 1) ≡ 0
      go true z = z
      go false z = absurd (omega arith)

  none-on : (d i : ℕ) → i + d ≤ s.count → differs i ≡ 0 → differs (i + d) ≡ 0
  none-on zero i h e = let z : i ≡ i + 0 = omega arith in subst (λ (m : ℕ). differs m ≡ 0) z e
  none-on (suc d) i h e =
      let z : i + 1 + d ≡ i + suc d = omega arith in
      subst (λ (m : ℕ). differs m ≡ 0) z (none-on d (i + 1) (omega arith) (none-next i (omega arith) e))

  pub none-later : (i j : ℕ) → i ≤ j → j ≤ s.count → differs i ≡ 0 → differs j ≡ 0
  none-later i j h l e =
      let z : i + (j - i) ≡ j = omega arith in
      subst (λ (m : ℕ). differs m ≡ 0) z (none-on (j - i) i (omega arith) e)

pub marks-args : (f g x y : List ℕ) (s1 s2 k : ℕ) → Pair f g s1 s2 k → length x ≡ s1 → length y ≡ s2 → (t : Search)
    → Fits s1 s2 t → MarksArgs x y s2 t
marks-args f g x y s1 s2 k P hx hy t F = record {
  second_least = P.second_least;
  few = count_most s1 s2 t F;
  second_length = hy;
  below = λ i. subst (λ (n : ℕ). get_or t.codes i 0 < n * s2) (sym hx) (F.below i);
  small = λ i. omega (arith, F.below i, product-most s1 s2 16 16 P.first_most P.second_most);
}
