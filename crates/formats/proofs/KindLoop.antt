-- One iteration, and the end, of the loop over the last kinds, which has no branch: what is known after i kinds.
--     Counted         the count starts at `none`, the number of kinds; where the running answer is yes, w - none trees wait
--     counted_start, counted-iteration, counted-end
use Prim.Native.Nat.{ℕ, ◌+◌, ◌-◌, ◌*◌, ◌%◌, ◌≤◌, ◌<◌}
use mathlib.Core.Path.{◌≡◌, refl, sym, ap, ◌∙◌}
use mathlib.Core.Bool.{Bool, true, false, ◌&&◌}
use mathlib.Core.List.{List}
use native.Mathlib.Omega.{arith}
use native.Mathlib.Decide.{dec_lt, ℕ_discrete}
use lib.Dec.{ltb, eqb}
use lib.ListN.{length, get_or, drop}
use borrow.Author.Tests.{lt-ltb, le-ltb, ltb-true, eq-eqb, ne_eqb}
use Rattle.trees.specs.Postorder.{waiting, is_single}
use Rattle.trees.proofs.PostorderLaws.{leaf-at, inner-at, short-at, other_at, end-at}
use Rattle.list_laws.proofs.BoolLaws.{and_right}

pub record Counted (ks : List ℕ) (goal : Bool) (none w : ℕ) (ok : Bool) (i : ℕ) : Type 0 where
  pub all : none ≡ length ks
  pub within : i ≤ length ks
  pub low : none ≤ w + i
  pub high : w ≤ none + i
  pub some : ok ≡ true → none ≤ w
  pub answer : (ok && is_single (waiting (drop i ks) (w - none))) ≡ goal

pub counted_start : (ks : List ℕ) (from t : ℕ) → from ≤ length ks → t ≤ from
    → Counted ks (is_single (waiting (drop from ks) t)) (length ks) (length ks + t) true from
counted_start ks from t h l =
    record {
      all = refl;
      within = h;
      low = omega arith;
      high = omega arith;
      some = λ e. omega arith;
      answer = let z : length ks + t - length ks ≡ t = omega arith in ap (λ (n : ℕ). is_single (waiting (drop from ks) n)) z;
    }

-- the same answer before and after a kind, where none of those before was wrong
module _ (ks : List ℕ) (i none w w₁ : ℕ) (h : i < length ks) (some : none ≤ w) (step : w₁ ≡ w + 1 - 2 * (get_or ks i 0 % 2)) where
  at_leaf : get_or ks i 0 ≡ 0
      → (ltb (get_or ks i 0) 2 && ltb none w₁ && is_single (waiting (drop (i + 1) ks) (w₁ - none))) ≡ is_single (waiting (drop i ks) (w - none))
  at_leaf e =
      let n : w₁ - none ≡ w - none + 1 = omega arith in
      rw (lt-ltb (get_or ks i 0) 2 (omega arith), lt-ltb none w₁ (omega arith), n) (sym (ap is_single (leaf-at ks i h (w - none) e)))

  at_inner : get_or ks i 0 ≡ 1
      → (ltb (get_or ks i 0) 2 && ltb none w₁ && is_single (waiting (drop (i + 1) ks) (w₁ - none))) ≡ is_single (waiting (drop i ks) (w - none))
  at_inner e =
      elim (dec_lt (w - none) 2) [
        | yes l ↦ rw (lt-ltb (get_or ks i 0) 2 (omega arith), le-ltb none w₁ (omega arith)) (sym (ap is_single (short-at ks i h (w - none) e l)))
        | no l ↦ (let n : w₁ - none ≡ w - none - 1 = omega arith in
            rw (lt-ltb (get_or ks i 0) 2 (omega arith), lt-ltb none w₁ (omega arith), n)
            (sym (ap is_single (inner-at ks i h (w - none) e (omega arith)))))
      ]

  at_other : (get_or ks i 0 ≡ 0 → ⊥) → (get_or ks i 0 ≡ 1 → ⊥)
      → (ltb (get_or ks i 0) 2 && ltb none w₁ && is_single (waiting (drop (i + 1) ks) (w₁ - none))) ≡ is_single (waiting (drop i ks) (w - none))
  at_other a b = rw (le-ltb (get_or ks i 0) 2 (omega arith)) (sym (ap is_single (other_at ks i h (w - none) a b)))

  at-kind : (ltb (get_or ks i 0) 2 && ltb none w₁ && is_single (waiting (drop (i + 1) ks) (w₁ - none))) ≡ is_single (waiting (drop i ks) (w - none))
  at-kind =
      elim (ℕ_discrete (get_or ks i 0) 0) [
        | yes e ↦ at_leaf e
        | no a ↦ elim (ℕ_discrete (get_or ks i 0) 1) [ yes e ↦ at_inner e | no b ↦ at_other a b ]
      ]

module _ (ks : List ℕ) (goal : Bool) (none w : ℕ) (i : ℕ) where
  pub counted-iteration : (ok : Bool) → Counted ks goal none w ok i → i < length ks
      → Counted ks goal none (w + 1 - 2 * (get_or ks i 0 % 2)) (ok && ltb (get_or ks i 0) 2 && ltb none (w + 1 - 2 * (get_or ks i 0 % 2))) (i + 1)
  counted-iteration ok c h =
      record {
        all = c.all;
        within = omega arith;
        low = omega (arith, c.low, c.all);
        high = omega (arith, c.high);
        some = λ e. above (and_right (ok && ltb (get_or ks i 0) 2) (ltb none (w + 1 - 2 * (get_or ks i 0 % 2))) e);
        answer = go ok c.some ∙ c.answer;
      }
    where
      above : ltb none (w + 1 - 2 * (get_or ks i 0 % 2)) ≡ true → none ≤ w + 1 - 2 * (get_or ks i 0 % 2)
      above e = omega (arith, ltb-true none (w + 1 - 2 * (get_or ks i 0 % 2)) e)

      go : (b : Bool) → (b ≡ true → none ≤ w)
          → (b && ltb (get_or ks i 0) 2 && ltb none (w + 1 - 2 * (get_or ks i 0 % 2)) && is_single (waiting (drop (i + 1) ks) (w + 1 - 2 * (get_or ks i 0 % 2) - none)))
          ≡ (b && is_single (waiting (drop i ks) (w - none)))
      go true s = at-kind ks i none w (w + 1 - 2 * (get_or ks i 0 % 2)) h (s refl) refl
      go false s = refl

  pub counted-end : (ok : Bool) → Counted ks goal none w ok i → length ks ≤ i → (ok && eqb w (none + 1)) ≡ goal
  counted-end ok c h = go ok c.some ∙ c.answer
    where
      same : none ≤ w → eqb w (none + 1) ≡ eqb (w - none) 1
      same s =
          elim (ℕ_discrete w (none + 1)) [
            | yes e ↦ eq-eqb w (none + 1) e ∙ sym (eq-eqb (w - none) 1 (omega arith))
            | no e ↦ ne_eqb w (none + 1) e ∙ sym (ne_eqb (w - none) 1 (λ f. e (omega arith)))
          ]

      go : (b : Bool) → (b ≡ true → none ≤ w) → (b && eqb w (none + 1)) ≡ (b && is_single (waiting (drop i ks) (w - none)))
      go true s = same (s refl) ∙ sym (ap is_single (end-at ks i (w - none) h))
      go false s = refl
