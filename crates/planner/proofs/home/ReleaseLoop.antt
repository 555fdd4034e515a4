-- One iteration, and the end, of the loop that writes what is complete.
--     Releasing           the same is still to be written
--     releasing-iteration, releasing-first, releasing-end
use Prim.Native.Nat.{ℕ, suc, ◌+◌, ◌-◌, ◌%◌, ◌≤◌, ◌<◌}
use mathlib.Core.Path.{◌≡◌, sym, ap, ap₂, ◌∙◌, subst}
use mathlib.Core.Bool.{cond}
use mathlib.Core.List.{List, ◌∷◌}
use native.Mathlib.Omega.{arith}
use lib.Dec.{leb}
use lib.ListN.{length, get_or, set, length-set}
use lib.Seq.{get_or-set_same, get_or-set_other}
use borrow.Author.Tests.{le-leb, lt-leb}
use Rattle.planner.specs.inner.HomeMachine.{HomeState, home_state, released, homeward}
use Rattle.planner.specs.home.inner.Cells.{stack_of, cells_from, Kept, ReleaseArgs}
use Rattle.planner.specs.home.inner.Cells.{ReleaseDone}
use Rattle.planner.proofs.home.CellLaws.{stack_same, cells_same, cells-cons}

pub record Releasing (n d left : ℕ) (p : List ℕ) (top : ℕ) (q : List ℕ) : Type 0 where
  pub rest : released (stack_of q n top) (cells_from q 12 n (top + left)) (cells_from q (12 + n) n (top + left))
      ≡ released (stack_of p n d) (cells_from p 12 n (d + left)) (cells_from p (12 + n) n (d + left))
  pub lower : top ≤ d
  pub kept : Kept n p q

-- entry i is written
abbrev pub written : ℕ → ℕ → List ℕ → ℕ → List ℕ
written n left q i = set (set q (12 + i + left) (get_or q (12 + i) 0 % 64)) (12 + n + i + left) (get_or q (12 + n + i) 0)

module _ (n d left : ℕ) (p : List ℕ) (A : ReleaseArgs p n d left) (i : ℕ) (q : List ℕ) (h : i < d)
    (K : Kept n p q) where
  other : (j : ℕ) → (j ≡ 12 + i + left → ⊥) → (j ≡ 12 + n + i + left → ⊥) → get_or (written n left q i) j 0 ≡ get_or q j 0
  other j a b =
      get_or-set_other (set q (12 + i + left) (get_or q (12 + i) 0 % 64)) (12 + n + i + left) j (get_or q (12 + n + i) 0) 0 b
      ∙ get_or-set_other q (12 + i + left) j (get_or q (12 + i) 0 % 64) 0 a

  same : length (written n left q i) ≡ length q
  same = length-set (set q (12 + i + left) (get_or q (12 + i) 0 % 64)) (12 + n + i + left) (get_or q (12 + n + i) 0)
      ∙ length-set q (12 + i + left) (get_or q (12 + i) 0 % 64)

  label-cell : get_or (written n left q i) (12 + (i + left)) 0 ≡ get_or q (12 + i) 0 % 64
  label-cell =
      let e : 12 + (i + left) ≡ 12 + i + left = omega arith in
      ap (λ (j : ℕ). get_or (written n left q i) j 0) e
      ∙ get_or-set_other (set q (12 + i + left) (get_or q (12 + i) 0 % 64)) (12 + n + i + left) (12 + i + left)
      (get_or q (12 + n + i) 0) 0 (λ e. omega (arith, A.inside))
      ∙ get_or-set_same q (12 + i + left) (get_or q (12 + i) 0 % 64) 0 (omega (arith, A.inside, A.fits.room, K.same))

  count-cell : get_or (written n left q i) (12 + n + (i + left)) 0 ≡ get_or q (12 + n + i) 0
  count-cell =
      let e : 12 + n + (i + left) ≡ 12 + n + i + left = omega arith in
      ap (λ (j : ℕ). get_or (written n left q i) j 0) e
      ∙ get_or-set_same (set q (12 + i + left) (get_or q (12 + i) 0 % 64)) (12 + n + i + left) (get_or q (12 + n + i) 0) 0
      (simp length-set (omega (arith, A.inside, A.fits.room, K.same)))

  labels-more : cells_from (written n left q i) 12 n (i + left)
      ≡ get_or q (12 + i) 0 % 64 ∷ cells_from q 12 n (i + 1 + left)
  labels-more =
      let e : i + left + 1 ≡ i + 1 + left = omega arith in
      cells-cons (written n left q i) 12 n (i + left) (omega (arith, A.inside))
      (omega (arith, same, K.same, A.fits.room))
      ∙ ap₂ (λ (a : ℕ) (l : List ℕ). a ∷ l) label-cell
      (cells_same q (written n left q i) 12 n (i + left + 1) same
      (λ j l m. other (12 + j) (λ e. omega arith) (λ e. omega (arith, A.inside)))
      ∙ ap (cells_from q 12 n) e)

  counts-more : cells_from (written n left q i) (12 + n) n (i + left)
      ≡ get_or q (12 + n + i) 0 ∷ cells_from q (12 + n) n (i + 1 + left)
  counts-more =
      let e : i + left + 1 ≡ i + 1 + left = omega arith in
      cells-cons (written n left q i) (12 + n) n (i + left) (omega (arith, A.inside))
      (omega (arith, same, K.same, A.fits.room))
      ∙ ap₂ (λ (a : ℕ) (l : List ℕ). a ∷ l) count-cell
      (cells_same q (written n left q i) (12 + n) n (i + left + 1) same
      (λ j l m. other (12 + n + j) (λ e. omega (arith, A.inside)) (λ e. omega arith))
      ∙ ap (cells_from q (12 + n) n) e)

  stack-rest : stack_of (written n left q i) n i ≡ stack_of q n i
  stack-rest =
      stack_same q (written n left q i) n i (λ j l. other (12 + j) (λ e. omega arith) (λ e. omega (arith, A.inside)))
      (λ j l. other (12 + n + j) (λ e. omega (arith, A.inside)) (λ e. omega arith))

  released-is : released (stack_of q n (suc i)) (cells_from q 12 n (i + 1 + left)) (cells_from q (12 + n) n (i + 1 + left))
      ≡ (let r = written n left q i in cond (leb 64 (get_or q (12 + i) 0))
      (released (stack_of r n i) (cells_from r 12 n (i + left)) (cells_from r (12 + n) n (i + left)))
      (home_state (stack_of r n i) (cells_from r 12 n (i + left)) (cells_from r (12 + n) n (i + left))))
  unfolding stack_of
  released-is = rw (stack-rest, labels-more, counts-more)

  written-kept : Kept n p (written n left q i)
  written-kept = record {
    same = same ∙ K.same;
    excess = λ j l. other j (λ e. omega (arith, A.inside)) (λ e. omega (arith, A.inside)) ∙ K.excess j l;
  }

module _ {n d left : ℕ} {p : List ℕ} {top : ℕ} {q : List ℕ} (A : ReleaseArgs p n d left)
    (R : Releasing n d left p top q) where
  module _ (h : 0 < top) where
    abbrev r : List ℕ
    r = written n left q (top - 1)

    l : top - 1 < d
    l = omega (arith, R.lower)

    next-kept : Kept n p r
    next-kept = written-kept n d left p A (top - 1) q l R.kept

    step : cond (leb 64 (get_or q (12 + (top - 1)) 0))
        (released (stack_of r n (top - 1)) (cells_from r 12 n (top - 1 + left)) (cells_from r (12 + n) n (top - 1 + left)))
        (home_state (stack_of r n (top - 1)) (cells_from r 12 n (top - 1 + left)) (cells_from r (12 + n) n (top - 1 + left)))
        ≡ released (stack_of p n d) (cells_from p 12 n (d + left)) (cells_from p (12 + n) n (d + left))
    step =
        let s : suc (top - 1) ≡ top = omega arith in
        let t : top - 1 + 1 ≡ top = omega arith in
        sym (released-is n d left p A (top - 1) q l R.kept)
        ∙ ap₂ (λ (j k : ℕ). released (stack_of q n j) (cells_from q 12 n (k + left)) (cells_from q (12 + n) n (k + left))) s t
        ∙ R.rest

    -- not the first of its list
    pub releasing-iteration : 64 ≤ get_or q (12 + (top - 1)) 0 → Releasing n d left p (top - 1) r
    releasing-iteration e = record {
      rest = rw (le-leb 64 (get_or q (12 + (top - 1)) 0) e) at step;
      lower = omega (arith, R.lower);
      kept = next-kept;
    }

    pub releasing-first : get_or q (12 + (top - 1)) 0 < 64 → ReleaseDone n d left p (top - 1) r
    releasing-first e = record {
      rest = λ xs. ap (λ (T : HomeState). homeward xs 0 T.stack T.labels T.counts)
          (rw (lt-leb 64 (get_or q (12 + (top - 1)) 0) e) at step);
      lower = omega (arith, R.lower);
      kept = next-kept;
    }

  pub releasing-end : top ≡ 0 → ReleaseDone n d left p 0 q
  unfolding stack_of
  releasing-end z = record {
    rest = λ xs. ap (λ (T : HomeState). homeward xs 0 T.stack T.labels T.counts)
        (subst (λ (j : ℕ). released (stack_of q n j) (cells_from q 12 n (j + left)) (cells_from q (12 + n) n (j + left))
        ≡ released (stack_of p n d) (cells_from p 12 n (d + left)) (cells_from p (12 + n) n (d + left))) z R.rest);
    lower = omega arith;
    kept = R.kept;
  }
