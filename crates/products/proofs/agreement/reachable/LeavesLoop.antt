-- The loop of over_leaves, one label at a time.
--     leaves-next, leaves-end    the definition at a label, and past the last
--     LeavesLoop                 the invariant
use Prim.Native.Nat.{ℕ, suc, ◌+◌, ◌*◌, ◌-◌, ◌≤◌, ◌<◌}
use mathlib.Core.Path.{◌≡◌, refl, sym, ap, ◌∙◌}
use mathlib.Core.List.{List}
use native.Mathlib.Omega.{arith}
use lib.Arith.{digits_lt}
use lib.ListN.{get_or}
use Rattle.formats.proofs.PlanLaws.{product-most}
use Rattle.products.specs.agreement.Lines.{leaf_line}
use Rattle.products.specs.agreement.Search.{Found, added, over_leaves}
use Rattle.products.specs.declared.agreement.reachable.Search.{Search}
use Rattle.products.specs.agreement.reachable.SearchRecord.{line_added, found_in, Fits, pair_leaf, LeavesArgs, LeavesDone}
use Rattle.products.proofs.agreement.reachable.RecordLaws.{room, found-more, fits_more, added_new, added-not}

leaves-next : (ι : ℕ → ℕ) (a k : ℕ) (F : Found) → a < k
    → over_leaves ι a (k - a) F ≡ over_leaves ι (a + 1) (k - (a + 1)) (added (leaf_line a) (ι a) F)
unfolding over_leaves
leaves-next ι a k F h =
    let e : k - a ≡ suc (k - (a + 1)) = omega arith in
    let f : suc a ≡ a + 1 = omega arith in
    ap (λ (n : ℕ). over_leaves ι a n F) e ∙ ap (λ (b : ℕ). over_leaves ι b (k - (a + 1)) (added (leaf_line a) (ι a) F)) f

leaves-end : (ι : ℕ → ℕ) (a k : ℕ) (F : Found) → k ≤ a → over_leaves ι a (k - a) F ≡ F
unfolding over_leaves
leaves-end ι a k F h = let e : k - a ≡ 0 = omega arith in ap (λ (n : ℕ). over_leaves ι a n F) e

pub record LeavesLoop (f g : List ℕ) (s1 s2 k : ℕ) (t₀ t : Search) (a : ℕ) : Type 0 where
  pub args : LeavesArgs f g s1 s2 k t₀
  pub fits : Fits s1 s2 t
  pub found : over_leaves (pair_leaf f g s2) a (k - a) (found_in t) ≡ over_leaves (pair_leaf f g s2) 0 k (found_in t₀)

module _ {f g : List ℕ} {s1 s2 k : ℕ} {t₀ t : Search} {a : ℕ} (L : LeavesLoop f g s1 s2 k t₀ t a) where
  code_in : pair_leaf f g s2 a < s1 * s2
  code_in = digits_lt (L.args.first_below a) (L.args.second_below a)

  leaves-loop-code : pair_leaf f g s2 a < 256
  leaves-loop-code = omega (arith, code_in, product-most s1 s2 16 16 L.args.first_most L.args.second_most)

  module _ (h : a < k) where
    next : (u : Search) → Fits s1 s2 u → found_in u ≡ added (leaf_line a) (pair_leaf f g s2 a) (found_in t)
        → LeavesLoop f g s1 s2 k t₀ u (a + 1)
    next u F e = record {
      args = L.args;
      fits = F;
      found =
          ap (over_leaves (pair_leaf f g s2) (a + 1) (k - (a + 1))) e
          ∙ sym (leaves-next (pair_leaf f g s2) a k (found_in t) h)
          ∙ L.found;
    }

    pub leaves-loop-room : get_or t.seen (pair_leaf f g s2 a) 0 ≡ 0 → t.count < 256
    leaves-loop-room n = room s1 s2 t L.fits 0 a 0 0 (pair_leaf f g s2 a) leaves-loop-code n

    pub leaves-loop-new : get_or t.seen (pair_leaf f g s2 a) 0 ≡ 0
        → LeavesLoop f g s1 s2 k t₀ (line_added t 0 a 0 0 (pair_leaf f g s2 a)) (a + 1)
    leaves-loop-new n =
        next (line_added t 0 a 0 0 (pair_leaf f g s2 a)) (fits_more s1 s2 t L.fits 0 a 0 0
        (pair_leaf f g s2 a) leaves-loop-code n code_in (omega arith) (λ _. (refl, refl)))
        (found-more s1 s2 t L.fits 0 a 0 0 (pair_leaf f g s2 a) leaves-loop-code n ∙ sym (added_new s1 s2 t L.fits
        (leaf_line a) (pair_leaf f g s2 a) n))

    pub leaves-loop-old : (get_or t.seen (pair_leaf f g s2 a) 0 ≡ 0 → ⊥) → LeavesLoop f g s1 s2 k t₀ t (a + 1)
    leaves-loop-old n = next t L.fits (sym (added-not s1 s2 t L.fits (leaf_line a) (pair_leaf f g s2 a) n))

  pub leaves-loop-done : k ≤ a → LeavesDone f g s1 s2 k t₀ t
  leaves-loop-done h = record { fits = L.fits; found = sym (leaves-end (pair_leaf f g s2) a k (found_in t) h) ∙ L.found }
