-- The loop of over_labels, one label at a time, and what one step of the product reads.
--     labels_next, labels-end    the definition at a label, and past the last
--     step_args                  the cells that one step reads are there
--     LabelsLoop                 the invariant: what is left to do of the definition's work gives the whole
use Prim.Native.Nat.{ℕ, suc, ◌+◌, ◌*◌, ◌/◌, ◌%◌, ◌-◌, ◌≤◌, ◌<◌}
use mathlib.Core.Path.{◌≡◌, sym, ap, ◌∙◌}
use mathlib.Core.List.{List}
use native.Mathlib.Omega.{arith}
use native.Mathlib.Nat.{div-lt_iff_lt-mul, mod-lt}
use lib.Arith.{digits_lt}
use lib.ListN.{get_or}
use Rattle.formats.proofs.PlanLaws.{product-most}
use Rattle.products.specs.agreement.Lines.{inner_line}
use Rattle.products.specs.agreement.Search.{Found, added, over_labels}
use Rattle.products.specs.declared.agreement.reachable.Search.{Search}
use Rattle.products.specs.agreement.reachable.SearchRecord.{line_added, found_in, pair_step, step_of, Pair, Fits, StepArgs}
use Rattle.products.specs.agreement.reachable.SearchRecord.{LabelsArgs, LabelsDone}
use Rattle.products.proofs.agreement.reachable.RecordLaws.{room, found-more, fits_more, added_new, added-not}

pub labels_next : (δ : ℕ → ℕ → ℕ → ℕ) (i j p q a k : ℕ) (F : Found) → a < k
    → over_labels δ i j p q a (k - a) F ≡ over_labels δ i j p q (a + 1) (k - (a + 1)) (added (inner_line a i j) (δ p a q) F)
unfolding over_labels
labels_next δ i j p q a k F h =
    let e : k - a ≡ suc (k - (a + 1)) = omega arith in
    let f : suc a ≡ a + 1 = omega arith in
    ap (λ (n : ℕ). over_labels δ i j p q a n F) e ∙ ap (λ (b : ℕ). over_labels δ i j p q b (k - (a + 1)) (added
    (inner_line a i j) (δ p a q) F)) f

pub labels-end : (δ : ℕ → ℕ → ℕ → ℕ) (i j p q a k : ℕ) (F : Found) → k ≤ a → over_labels δ i j p q a (k - a) F ≡ F
unfolding over_labels
labels-end δ i j p q a k F h = let e : k - a ≡ 0 = omega arith in ap (λ (n : ℕ). over_labels δ i j p q a n F) e

-- ---- one step of the product

pub quotient-in : (p s1 s2 : ℕ) → p < s1 * s2 → (1 ≤ s2) → (p / s2 < s1) × (p % s2 < s2)
quotient-in p s1 s2 h l = ((div-lt_iff_lt-mul l).1 h, mod-lt p l)

module _ (f g : List ℕ) (s1 s2 k : ℕ) (P : Pair f g s1 s2 k) (p1 p2 a q1 q2 : ℕ) (hp1 : p1 < s1) (hp2 : p2 < s2)
    (ha : a < k) (hq1 : q1 < s1)
    (hq2 : q2 < s2) where
  cell-first : (p1 * k + a) * s1 + q1 < s1 * k * s1
  cell-first = digits_lt (digits_lt hp1 ha) hq1

  cell-second : (p2 * k + a) * s2 + q2 < s2 * k * s2
  cell-second = digits_lt (digits_lt hp2 ha) hq2

  pub step_below : pair_step f g s1 s2 k p1 p2 a q1 q2 < s1 * s2
  step_below = digits_lt (P.first_below ((p1 * k + a) * s1 + q1)) (P.second_below ((p2 * k + a) * s2 + q2))

  pub step_args : StepArgs f g s1 s2 k p1 p2 a q1 q2
  step_args =
      let x : s1 * k ≤ 1024 = product-most s1 k 16 64 P.first_most P.labels_most in
      let y : s2 * k ≤ 1024 = product-most s2 k 16 64 P.second_most P.labels_most in
      let u : s1 * k * s1 ≤ 16384 = product-most (s1 * k) s1 1024 16 x P.first_most in
      let v : s2 * k * s2 ≤ 16384 = product-most (s2 * k) s2 1024 16 y P.second_most in
      let z : s1 * s2 ≤ 256 = product-most s1 s2 16 16 P.first_most P.second_most in
      record {
        first_row = omega (arith, digits_lt hp1 ha);
        first_cell = omega (arith, cell-first);
        first_in = omega (arith, cell-first, P.first_length);
        second_row = omega (arith, digits_lt hp2 ha);
        second_cell = omega (arith, cell-second);
        second_in = omega (arith, cell-second, P.second_length);
        small = omega (arith, step_below);
      }

-- ---- the loop

pub record LabelsLoop (f g : List ℕ) (s1 s2 k i j p q : ℕ) (t₀ t : Search) (a : ℕ) : Type 0 where
  pub args : LabelsArgs f g s1 s2 k t₀ i j p q
  pub fits : Fits s1 s2 t
  pub longer : t₀.count ≤ t.count
  pub found : over_labels (step_of f g s1 s2 k) i j p q a (k - a) (found_in t) ≡ over_labels (step_of f g s1 s2 k) i j p q 0 k
      (found_in t₀)

module _ {f g : List ℕ} {s1 s2 k i j p q : ℕ} {t₀ t : Search} {a : ℕ}
    (L : LabelsLoop f g s1 s2 k i j p q t₀ t a) where
  module _ (h : a < k) where
    P : Pair f g s1 s2 k
    P = L.args.pair

    ps : (p / s2 < s1) × (p % s2 < s2)
    ps = quotient-in p s1 s2 L.args.left_below P.second_least

    qs : (q / s2 < s1) × (q % s2 < s2)
    qs = quotient-in q s1 s2 L.args.right_below P.second_least

    pub labels-loop-step : StepArgs f g s1 s2 k (p / s2) (p % s2) a (q / s2) (q % s2)
    labels-loop-step = step_args f g s1 s2 k P (p / s2) (p % s2) a (q / s2) (q % s2) ps.0 ps.1 h qs.0 qs.1

    module _ {c : ℕ} (is : c ≡ pair_step f g s1 s2 k (p / s2) (p % s2) a (q / s2) (q % s2)) where
      code_in : c < s1 * s2
      code_in = omega (arith, is, step_below f g s1 s2 k P (p / s2) (p % s2) a (q / s2) (q % s2) ps.0 ps.1 h qs.0 qs.1)

      code-small : c < 256
      code-small = omega (arith, code_in, product-most s1 s2 16 16 P.first_most P.second_most)

      step_is : step_of f g s1 s2 k p a q ≡ c
      unfolding step_of
      step_is = sym is

      rest : over_labels (step_of f g s1 s2 k) i j p q (a + 1) (k - (a + 1)) (added (inner_line a i j) c (found_in t))
          ≡ over_labels (step_of f g s1 s2 k) i j p q 0 k (found_in t₀)
      rest =
          ap (λ (d : ℕ). over_labels (step_of f g s1 s2 k) i j p q (a + 1) (k - (a + 1)) (added (inner_line a i j) d
          (found_in t))) (sym step_is)
          ∙ sym (labels_next (step_of f g s1 s2 k) i j p q a k (found_in t) h)
          ∙ L.found

      next : (u : Search) → Fits s1 s2 u → t.count ≤ u.count → found_in u ≡ added (inner_line a i j) c (found_in t)
          → LabelsLoop f g s1 s2 k i j p q t₀ u (a + 1)
      next u F l e = record {
        args = L.args;
        fits = F;
        longer = omega (arith, L.longer);
        found = ap (over_labels (step_of f g s1 s2 k) i j p q (a + 1) (k - (a + 1))) e ∙ rest;
      }

      pub labels-loop-room : get_or t.seen c 0 ≡ 0 → t.count < 256
      labels-loop-room n = room s1 s2 t L.fits 1 a i j c code-small n

      pub labels-loop-new : get_or t.seen c 0 ≡ 0 → LabelsLoop f g s1 s2 k i j p q t₀ (line_added t 1 a i j c) (a + 1)
      labels-loop-new n =
          next (line_added t 1 a i j c) (fits_more s1 s2 t L.fits 1 a i j c code-small n code_in (omega arith) (λ z. absurd
          (omega arith))) (omega arith)
          (found-more s1 s2 t L.fits 1 a i j c code-small n ∙ sym (added_new s1 s2 t L.fits (inner_line a i j) c n))

      pub labels-loop-old : (get_or t.seen c 0 ≡ 0 → ⊥) → LabelsLoop f g s1 s2 k i j p q t₀ t (a + 1)
      labels-loop-old n = next t L.fits (omega arith) (sym (added-not s1 s2 t L.fits (inner_line a i j) c n))

  pub labels-loop-done : k ≤ a → LabelsDone f g s1 s2 k t₀ i j p q t
  labels-loop-done h = record {
    fits = L.fits;
    longer = L.longer;
    found = sym (labels-end (step_of f g s1 s2 k) i j p q a k (found_in t) h) ∙ L.found;
  }
