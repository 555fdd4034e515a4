-- The loop of searched: every line in turn, those found meanwhile too.
--     whole-next, whole-end    the definition at a line, and where no line is left
--     SearchLoop               the invariant
--     search-loop-stop         where the marks of a new line differ, the loop may end
--     search-not               where the marks of a leaf differ, it need not begin
use Prim.Native.Nat.{ℕ, zero, suc, ◌+◌, ◌-◌, ◌≤◌, ◌<◌}
use mathlib.Core.Path.{◌≡◌, refl, sym, ap, ◌∙◌, subst}
use mathlib.Core.List.{List}
use native.Mathlib.Omega.{arith}
use lib.ListN.{length}
use borrow.Author.Tests.{lt-ltb, le-ltb}
use Rattle.products.specs.agreement.Search.{Found, over_found, searched}
use Rattle.products.specs.declared.agreement.reachable.Search.{Search}
use Rattle.products.specs.agreement.reachable.SearchRecord.{found_in, step_of, Fits, Front, MarksArgs}
use Rattle.products.specs.agreement.reachable.SearchRecord.{LinesDone, SearchArgs, SearchDone}
use Rattle.products.proofs.agreement.reachable.RecordLaws.{count_most, length_found}
use Rattle.products.proofs.agreement.reachable.FrontLaws.{front_same, front-on, front-searched}
use Rattle.products.proofs.agreement.reachable.MarksLoop.{differs, none-later, marks-args}

pub whole-next : (δ : ℕ → ℕ → ℕ → ℕ) (k n : ℕ) (F : Found) → n < 256 → n < length F.lines
    → searched δ k (256 - n) n F ≡ searched δ k (256 - (n + 1)) (n + 1) (over_found δ k n 0 (n + 1) F)
unfolding searched
whole-next δ k n F h l =
    let e : 256 - n ≡ suc (256 - (n + 1)) = omega arith in
    let f : suc n ≡ n + 1 = omega arith in
    ap (λ (m : ℕ). searched δ k m n F) e
    ∙ rw (lt-ltb n (length F.lines) l) (ap (λ (b : ℕ). searched δ k (256 - (n + 1)) b (over_found δ k n 0 b F)) f)

pub whole-end : (δ : ℕ → ℕ → ℕ → ℕ) (k m n : ℕ) (F : Found) → length F.lines ≤ n → searched δ k m n F ≡ F
unfolding searched
whole-end δ k zero n F h = refl
whole-end δ k (suc m) n F h = rw (le-ltb n (length F.lines) h)

pub record SearchLoop (f g x y : List ℕ) (s1 s2 k : ℕ) (t₀ t : Search) (n : ℕ) : Type 0 where
  pub args : SearchArgs f g x y s1 s2 k t₀
  pub fits : Fits s1 s2 t
  pub found : searched (step_of f g s1 s2 k) k (256 - n) n (found_in t) ≡ searched (step_of f g s1 s2 k) k 256 0 (found_in t₀)

module _ {f g x y : List ℕ} {s1 s2 k : ℕ} {t₀ t : Search} {n : ℕ} (L : SearchLoop f g x y s1 s2 k t₀ t n) where
  pub search-loop-small : n < t.count → n < 256
  search-loop-small h = omega (arith, count_most s1 s2 t L.fits)

  module _ (h : n < t.count) {r : Search} (R : LinesDone f g x y s1 s2 k t n r) where
    step : searched (step_of f g s1 s2 k) k (256 - (n + 1)) (n + 1) (over_found (step_of f g s1 s2 k) k n 0 (n + 1) (found_in t))
        ≡ searched (step_of f g s1 s2 k) k 256 0 (found_in t₀)
    step =
        sym (whole-next (step_of f g s1 s2 k) k n (found_in t) (search-loop-small h) (omega (arith, length_found t)))
        ∙ L.found

    pub search-loop-marks : MarksArgs x y s2 r
    search-loop-marks = marks-args f g x y s1 s2 k L.args.pair L.args.first_marks L.args.second_marks r R.fits

    -- the marks of a line found at line n differ
    pub search-loop-stop : (differs x y s2 r t.count ≡ 0 → ⊥) → SearchDone f g x y s1 s2 k t₀ r
    search-loop-stop d = record {
      fits = R.fits;
      front = subst (Front (found_in r)) step (front-on R.front (front-searched (step_of f g s1 s2 k) k (256 - (n + 1)) (n + 1)
          (over_found (step_of f g s1 s2 k) k n 0 (n + 1) (found_in t))));
      found = λ e. absurd (d (none-later x y s2 r 0 t.count (omega arith) R.longer e));
    }

    pub search-loop-next : differs x y s2 r t.count ≡ 0 → SearchLoop f g x y s1 s2 k t₀ r (n + 1)
    search-loop-next e = record {
      args = L.args;
      fits = R.fits;
      found = ap (searched (step_of f g s1 s2 k) k (256 - (n + 1)) (n + 1)) (R.found e) ∙ step;
    }

  pub search-loop-done : t.count ≤ n → SearchDone f g x y s1 s2 k t₀ t
  search-loop-done h = record {
    fits = L.fits;
    front = front_same all_found;
    found = λ _. all_found;
  }
    where
      all_found : found_in t ≡ searched (step_of f g s1 s2 k) k 256 0 (found_in t₀)
      all_found = sym (whole-end (step_of f g s1 s2 k) k (256 - n) n (found_in t) (omega (arith, length_found t))) ∙ L.found

-- ---- before the loop: the marks of a leaf may differ

module _ {f g x y : List ℕ} {s1 s2 k : ℕ} {s : Search} (A : SearchArgs f g x y s1 s2 k s) where
  pub search-marks : MarksArgs x y s2 s
  search-marks = marks-args f g x y s1 s2 k A.pair A.first_marks A.second_marks s A.fits

  pub search-not : (differs x y s2 s 0 ≡ 0 → ⊥) → SearchDone f g x y s1 s2 k s s
  search-not d = record {
    fits = A.fits;
    front = front-searched (step_of f g s1 s2 k) k 256 0 (found_in s);
    found = λ e. absurd (d e);
  }
