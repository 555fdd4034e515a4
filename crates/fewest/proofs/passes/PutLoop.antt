-- The turns of the loop that copies a row.
--     part-start, part-next, part-done   before the first cost, one cost more, and the size at last
--     row-filled                         a row lowered from 65,536s, as it is written
use Prim.Native.Nat.{ℕ, ◌+◌, ◌*◌, ◌≤◌, ◌<◌}
use mathlib.Core.Path.{◌≡◌, refl, ◌∙◌}
use mathlib.Core.List.{List}
use native.Mathlib.Decide.{ℕ_discrete}
use native.Mathlib.Omega.{arith}
use lib.ListN.{length, get_or, set, replicate, length-set, get_or-replicate}
use lib.Seq.{get_or-set_same, get_or-set_other}
use Rattle.fewest.specs.inner.Rows.{Relaxed}
use Rattle.fewest.specs.inner.passes.Cells.{RowDone}

pub record RowPart (at i : ℕ) (row before after : List ℕ) : Type 0 where
  pub long : length after ≡ length before
  pub costs : (j : ℕ) → j < i → get_or after (at + 1 + j) 0 ≡ get_or row j 0
  pub kept : (j : ℕ) → (at < j → j ≤ at + i → ⊥) → get_or after j 0 ≡ get_or before j 0

pub part-start : (at : ℕ) (row b : List ℕ) → RowPart at 0 row b b
part-start at row b = record { long = refl; costs = λ j h. absurd (omega arith); kept = λ j h. refl }

pub part-next : (at i : ℕ) (row before b : List ℕ) → RowPart at i row before b → at + 1 + i < length before
    → RowPart at (i + 1) row before (set b (at + 1 + i) (get_or row i 0))
part-next at i row before b R room = record {
  long = length-set b (at + 1 + i) (get_or row i 0) ∙ R.long;
  costs = λ j h. elim (ℕ_discrete j i) [
    | yes e ↦ rw e (get_or-set_same b (at + 1 + i) (get_or row i 0) 0 (omega (arith, R.long)))
    | no e ↦ get_or-set_other b (at + 1 + i) (at + 1 + j) (get_or row i 0) 0 (omega arith) ∙ R.costs j (omega arith)
  ];
  kept = λ j h.
      let far : at < j → j ≤ at + i → ⊥ = λ x y. h x (omega arith) in
      let ne : j ≡ at + 1 + i → ⊥ = λ e. h (omega arith) (omega arith) in
      get_or-set_other b (at + 1 + i) j (get_or row i 0) 0 ne ∙ R.kept j far;
}

pub part-done : (s v z : ℕ) (row before b : List ℕ) → RowPart (v * (s + 1)) s row before b
    → v * (s + 1) + (s + 1) ≤ length before
    → RowDone s v z (λ j. get_or row j 0) before (set b (v * (s + 1)) z)
part-done s v z row before b R room = record {
  long = length-set b (v * (s + 1)) z ∙ R.long;
  size = get_or-set_same b (v * (s + 1)) z 0 (omega (arith, R.long));
  costs = λ j h. get_or-set_other b (v * (s + 1)) (v * (s + 1) + 1 + j) z 0 (omega arith) ∙ R.costs j h;
  kept = λ j h.
      let ne : j ≡ v * (s + 1) → ⊥ = λ e. h (omega arith) (omega arith) in
      let out : v * (s + 1) < j → j ≤ v * (s + 1) + s → ⊥ = λ x y. h (omega arith) (omega arith) in
      get_or-set_other b (v * (s + 1)) j z 0 ne ∙ R.kept j out;
}

-- a row of 65,536s, lowered and then written
pub row-filled : (s v z : ℕ) (c : ℕ → ℕ) (row before after : List ℕ) → s ≤ 16 → ((j : ℕ) → c j ≤ 65536)
    → Relaxed s c (replicate 16 65536) row → RowDone s v z (λ j. get_or row j 0) before after → RowDone s v z c before after
row-filled s v z c row before after few low R D = record {
  long = D.long;
  size = D.size;
  costs = λ j h. D.costs j h ∙ omega (arith, R.costs j h, get_or-replicate {A = ℕ} 16 j 65536 0 (omega arith), low j);
  kept = D.kept;
}
