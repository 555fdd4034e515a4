-- The loop of over_lines: line n at either side of lines 0 to n, one at a time.
--     found-next, found-end    the definition at a line, and past the last
--     LinesLoop                the invariant
--     lines-loop-stop          where the marks of a new line differ, the loop may end
use Prim.Native.Nat.{ℕ, suc, ◌+◌, ◌-◌, ◌≤◌, ◌<◌}
use mathlib.Core.Path.{◌≡◌, sym, ap, ap₂, ◌∙◌, subst}
use mathlib.Core.List.{List}
use native.Mathlib.Omega.{arith}
use lib.ListN.{get_or}
use Rattle.products.specs.agreement.Search.{Found, state_at, over_labels, both_orders, over_found}
use Rattle.products.specs.declared.agreement.reachable.Search.{Search}
use Rattle.products.specs.agreement.reachable.SearchRecord.{found_in, step_of, Fits, Front, MarksArgs}
use Rattle.products.specs.agreement.reachable.SearchRecord.{LabelsArgs, LabelsDone, LinesArgs, LinesDone}
use Rattle.products.proofs.agreement.reachable.RecordLaws.{count_most, state-found}
use Rattle.products.proofs.agreement.reachable.FrontLaws.{front_same, front-found}
use Rattle.products.proofs.agreement.reachable.MarksLoop.{differs, none-later, marks-args}

pub found-next : (δ : ℕ → ℕ → ℕ → ℕ) (k n j : ℕ) (F : Found) → j ≤ n
    → over_found δ k n j (n + 1 - j) F ≡ over_found δ k n (j + 1) (n + 1 - (j + 1)) (both_orders δ k n j F)
unfolding over_found
found-next δ k n j F h =
    let e : n + 1 - j ≡ suc (n + 1 - (j + 1)) = omega arith in
    let f : suc j ≡ j + 1 = omega arith in
    ap (λ (m : ℕ). over_found δ k n j m F) e ∙ ap (λ (b : ℕ). over_found δ k n b (n + 1 - (j + 1)) (both_orders δ k n j F)) f

pub found-end : (δ : ℕ → ℕ → ℕ → ℕ) (k n j : ℕ) (F : Found) → n < j → over_found δ k n j (n + 1 - j) F ≡ F
unfolding over_found
found-end δ k n j F h = let e : n + 1 - j ≡ 0 = omega arith in ap (λ (m : ℕ). over_found δ k n j m F) e

pub record LinesLoop (f g x y : List ℕ) (s1 s2 k n : ℕ) (t₀ t : Search) (j : ℕ) : Type 0 where
  pub args : LinesArgs f g x y s1 s2 k t₀ n
  pub fits : Fits s1 s2 t
  pub longer : t₀.count ≤ t.count
  pub found : over_found (step_of f g s1 s2 k) k n j (n + 1 - j) (found_in t) ≡ over_found (step_of f g s1 s2 k) k n 0 (n + 1)
      (found_in t₀)

module _ {f g x y : List ℕ} {s1 s2 k n : ℕ} {t₀ t : Search} {j : ℕ} (L : LinesLoop f g x y s1 s2 k n t₀ t j) where
  pub lines-loop-in : n < 256
  lines-loop-in = omega (arith, L.args.inside, L.longer, count_most s1 s2 t L.fits)

  module _ (h : j ≤ n) where
    -- the two calls may be made
    pub lines-loop-first : LabelsArgs f g s1 s2 k t n j (get_or t.codes n 0) (get_or t.codes j 0)
    lines-loop-first = record {
      pair = L.args.pair;
      fits = L.fits;
      left_in = lines-loop-in;
      right_in = omega (arith, lines-loop-in);
      left_below = L.fits.below n;
      right_below = L.fits.below j;
    }

    module _ {u : Search} (U : LabelsDone f g s1 s2 k t n j (get_or t.codes n 0) (get_or t.codes j 0) u) where
      pub lines-loop-second : LabelsArgs f g s1 s2 k u j n (get_or t.codes j 0) (get_or t.codes n 0)
      lines-loop-second = record {
        pair = L.args.pair;
        fits = U.fits;
        left_in = omega (arith, lines-loop-in);
        right_in = lines-loop-in;
        left_below = L.fits.below j;
        right_below = L.fits.below n;
      }

      module _ {r : Search} (R : LabelsDone f g s1 s2 k u j n (get_or t.codes j 0) (get_or t.codes n 0) r) where
        both : found_in r ≡ both_orders (step_of f g s1 s2 k) k n j (found_in t)
        unfolding both_orders
        both =
            let e : state_at (found_in t) n ≡ get_or t.codes n 0 = state-found t n (omega
            (arith, L.args.inside, L.longer)) in
            let i : state_at (found_in t) j ≡ get_or t.codes j 0 = state-found t j (omega
            (arith, L.args.inside, L.longer)) in
            R.found
            ∙ ap (over_labels (step_of f g s1 s2 k) j n (get_or t.codes j 0) (get_or t.codes n 0) 0 k) U.found
            ∙ ap₂ (λ (p q : ℕ). over_labels (step_of f g s1 s2 k) j n q p 0 k (over_labels (step_of f g s1 s2 k) n j p q 0 k
            (found_in t))) (sym e) (sym i)

        pub lines-loop-next : LinesLoop f g x y s1 s2 k n t₀ r (j + 1)
        lines-loop-next = record {
          args = L.args;
          fits = R.fits;
          longer = omega (arith, L.longer, U.longer, R.longer);
          found =
              ap (over_found (step_of f g s1 s2 k) k n (j + 1) (n + 1 - (j + 1))) both
              ∙ sym (found-next (step_of f g s1 s2 k) k n j (found_in t) h)
              ∙ L.found;
        }

        pub lines-loop-marks : MarksArgs x y s2 r
        lines-loop-marks = marks-args f g x y s1 s2 k L.args.pair L.args.first_marks L.args.second_marks r R.fits

        -- the marks of a line found at line j differ
        pub lines-loop-stop : (differs x y s2 r t.count ≡ 0 → ⊥) → LinesDone f g x y s1 s2 k t₀ n r
        lines-loop-stop d =
            let N : LinesLoop f g x y s1 s2 k n t₀ r (j + 1) = lines-loop-next in
            record {
              fits = R.fits;
              longer = N.longer;
              front = subst (Front (found_in r)) N.found (front-found (step_of f g s1 s2 k) k n (j + 1) (n + 1 - (j + 1)) (found_in r));
              found = λ e. absurd (d (none-later x y s2 r t₀.count t.count L.longer (omega (arith, U.longer, R.longer)) e));
            }

  pub lines-loop-done : n < j → LinesDone f g x y s1 s2 k t₀ n t
  lines-loop-done h = record {
    fits = L.fits;
    longer = L.longer;
    front = front_same all_found;
    found = λ _. all_found;
  }
    where
      all_found : found_in t ≡ over_found (step_of f g s1 s2 k) k n 0 (n + 1) (found_in t₀)
      all_found = sym (found-end (step_of f g s1 s2 k) k n j (found_in t) h) ∙ L.found
