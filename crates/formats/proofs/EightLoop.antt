-- The loop over eight kinds at a time: what is known after b times eight kinds.
--     Blocks           w trees wait, and the test of the rest is that of all
--     blocks_start, blocks-iteration, blocks-end; no-kinds, blocks-stop where the answer is no
use Prim.Native.Nat.{ℕ, zero, suc, ◌+◌, ◌-◌, ◌*◌, ◌/◌, ◌%◌, ◌^◌, ◌≤◌, ◌<◌}
use mathlib.Core.Path.{◌≡◌, refl, sym, ap, ◌∙◌, subst}
use mathlib.Core.Bool.{true, false}
use mathlib.Core.List.{List, [], ◌∷◌, ◌++◌}
use mathlib.Core.Option.{Option, none, some, some-injective}
use native.Mathlib.Omega.{arith}
use lib.ListN.{length, get_or, drop}
use lib.Seq.{drop-cons}
use Rattle.trees.specs.Postorder.{waiting, is_single, is_postorder}
use Rattle.trees.proofs.MoveLaws.{none-some}
use Rattle.list_laws.specs.Tests.{all_below}
use Rattle.list_laws.proofs.BoolLaws.{true-false}
use Rattle.formats.specs.inner.Eight.{eight_from, eight_kinds, only_kinds, twice_of, fits, sufficient}
use Rattle.formats.proofs.EightKinds.{Eight, Enough, eight, eight-short, eight-enough, only_below, fits-pairs, fits-sums}

-- ---- kinds one list after the other

some_then : (xs ys : List ℕ) (w v : ℕ) → waiting xs w ≡ some v → waiting (xs ++ ys) w ≡ waiting ys v
some_then [] ys w v e = ap (waiting ys) (some-injective w v e)
some_then (zero ∷ xs) ys w v e = some_then xs ys (suc w) v e
some_then (suc zero ∷ xs) ys zero v e = absurd (none-some e)
some_then (suc zero ∷ xs) ys (suc zero) v e = absurd (none-some e)
some_then (suc zero ∷ xs) ys (suc (suc w)) v e = some_then xs ys (suc w) v e
some_then (suc (suc k) ∷ xs) ys w v e = absurd (none-some e)

none_then : (xs ys : List ℕ) (w : ℕ) → waiting xs w ≡ none → waiting (xs ++ ys) w ≡ none
none_then [] ys w e = absurd (none-some (sym e))
none_then (zero ∷ xs) ys w e = none_then xs ys (suc w) e
none_then (suc zero ∷ xs) ys zero e = refl
none_then (suc zero ∷ xs) ys (suc zero) e = refl
none_then (suc zero ∷ xs) ys (suc (suc w)) e = none_then xs ys (suc w) e
none_then (suc (suc k) ∷ xs) ys w e = refl

some_below : (ks : List ℕ) (w v : ℕ) → waiting ks w ≡ some v → all_below 2 ks ≡ true
unfolding all_below
some_below [] w v e = refl
some_below (zero ∷ ks) w v e = some_below ks (suc w) v e
some_below (suc zero ∷ ks) zero v e = absurd (none-some e)
some_below (suc zero ∷ ks) (suc zero) v e = absurd (none-some e)
some_below (suc zero ∷ ks) (suc (suc w)) v e = some_below ks (suc w) v e
some_below (suc (suc k) ∷ ks) w v e = absurd (none-some e)

-- ---- the loop

eight-first : (ks : List ℕ) (i : ℕ) → i + 8 ≤ length ks → drop i ks ≡ eight_from ks i ++ drop (i + 8) ks
eight-first ks i h =
    step i (i + 1) (omega arith) (omega arith)
    ∙ ap (λ (l : List ℕ). get_or ks i 0 ∷ l) (step (i + 1) (i + 2) (omega arith) (omega arith)
    ∙ ap (λ (l : List ℕ). get_or ks (i + 1) 0 ∷ l) (step (i + 2) (i + 3) (omega arith) (omega arith)
    ∙ ap (λ (l : List ℕ). get_or ks (i + 2) 0 ∷ l) (step (i + 3) (i + 4) (omega arith) (omega arith)
    ∙ ap (λ (l : List ℕ). get_or ks (i + 3) 0 ∷ l) (step (i + 4) (i + 5) (omega arith) (omega arith)
    ∙ ap (λ (l : List ℕ). get_or ks (i + 4) 0 ∷ l) (step (i + 5) (i + 6) (omega arith) (omega arith)
    ∙ ap (λ (l : List ℕ). get_or ks (i + 5) 0 ∷ l) (step (i + 6) (i + 7) (omega arith) (omega arith)
    ∙ ap (λ (l : List ℕ). get_or ks (i + 6) 0 ∷ l) (step (i + 7) (i + 8) (omega arith) (omega arith))))))))
  where
    step : (j m : ℕ) → j < length ks → suc j ≡ m → drop j ks ≡ get_or ks j 0 ∷ drop m ks
    step j m h e = drop-cons ks j 0 h ∙ ap (λ (k : ℕ). get_or ks j 0 ∷ drop k ks) e

pub record Blocks (ks : List ℕ) (w b : ℕ) : Type 0 where
  pub within : b ≤ length ks / 8
  pub most : w ≤ 8 * b
  pub answer : is_single (waiting (drop (8 * b) ks) w) ≡ is_postorder ks

pub blocks_start : (ks : List ℕ) → Blocks ks 0 0
unfolding is_postorder
blocks_start ks = record { within = omega arith; most = omega arith; answer = refl }

pub blocks-end : (ks : List ℕ) (w b : ℕ) → Blocks ks w b → length ks / 8 ≤ b
    → is_single (waiting (drop (length ks - length ks % 8) ks) w) ≡ is_postorder ks
blocks-end ks w b B h =
    let e : length ks - length ks % 8 ≡ 8 * b = omega (arith, B.within) in
    ap (λ (i : ℕ). is_single (waiting (drop i ks) w)) e ∙ B.answer

module _ (ks : List ℕ) (w b word : ℕ) (B : Blocks ks w b) (t : b < length ks / 8) (p : word ≡ eight_kinds ks (8 * b)) where
  room : 8 * b + 8 ≤ length ks
  room = omega arith

  stops : waiting (eight_from ks (8 * b)) w ≡ none → false ≡ is_postorder ks
  stops q =
      sym (ap is_single (ap (λ (l : List ℕ). waiting l w) (eight-first ks (8 * b) room)
      ∙ none_then (eight_from ks (8 * b)) (drop (8 * b + 8) ks) w q))
      ∙ B.answer

  module _ (h : (j : ℕ) → get_or ks j 0 < 256) where
    pub no-kinds : only_kinds word ≡ false → false ≡ is_postorder ks
    no-kinds n = stops (go (waiting (eight_from ks (8 * b)) w) refl)
      where
        go : (o : Option ℕ) → waiting (eight_from ks (8 * b)) w ≡ o → waiting (eight_from ks (8 * b)) w ≡ none
        go none q = q
        go (some v) q =
            absurd (true-false (sym (some_below (eight_from ks (8 * b)) w v q) ∙ sym (only_below ks (8 * b) h) ∙ ap only_kinds (sym p) ∙ n))

    module _ (k : only_kinds word ≡ true) where
      eight-here : Eight (eight_from ks (8 * b)) (eight_kinds ks (8 * b))
      eight-here = eight ks (8 * b) (sym (only_below ks (8 * b) h) ∙ ap only_kinds (sym p) ∙ k)

      pub word_fits : fits (2 * word) ≡ true
      word_fits = ap (λ (y : ℕ). fits (2 * y)) p ∙ eight-here.fit

      pub twice-fits : 2 * word < 18446744073709551616
      twice-fits = omega (arith, fits-pairs (2 * word) word_fits)

      module _ (x : ℕ) (q : x ≡ twice_of word) where
        total : x ≡ twice_of (eight_kinds ks (8 * b))
        total = q ∙ ap twice_of p

        pub counts-small : x < 2000000000000000000
        counts-small = subst (λ (y : ℕ). y < 2000000000000000000) (sym total) (fits-sums (2 * eight_kinds ks (8 * b)) eight-here.fit)

        pub blocks-stop : sufficient x w ≡ false → false ≡ is_postorder ks
        blocks-stop e =
            stops (eight-short (eight_from ks (8 * b)) (eight_kinds ks (8 * b)) eight-here w (ap (λ (y : ℕ). sufficient y w) (sym total) ∙ e))

        module _ (e : sufficient x w ≡ true) where
          left : Enough (eight_from ks (8 * b)) (eight_kinds ks (8 * b)) eight-here w
          left = eight-enough (eight_from ks (8 * b)) (eight_kinds ks (8 * b)) eight-here w (ap (λ (y : ℕ). sufficient y w) (sym total) ∙ e)

          pub trees-left : x / 2 ^ 56 < w + 8
          trees-left = subst (λ (y : ℕ). y / 2 ^ 56 < w + 8) (sym total) left.room

          go_on : waiting (eight_from ks (8 * b)) w ≡ some (w + 8 - x / 2 ^ 56)
          go_on = subst (λ (y : ℕ). waiting (eight_from ks (8 * b)) w ≡ some (w + 8 - y / 2 ^ 56)) (sym total) left.wait

          pub blocks-iteration : Blocks ks (w + 8 - x / 2 ^ 56) (b + 1)
          blocks-iteration =
              let e : 8 * (b + 1) ≡ 8 * b + 8 = omega arith in
              record {
                within = omega arith;
                most = omega (arith, B.most);
                answer =
                    ap (λ (i : ℕ). is_single (waiting (drop i ks) (w + 8 - x / 2 ^ 56))) e
                    ∙ sym (ap is_single (ap (λ (l : List ℕ). waiting l w) (eight-first ks (8 * b) room)
                    ∙ some_then (eight_from ks (8 * b)) (drop (8 * b + 8) ks) w (w + 8 - x / 2 ^ 56) go_on)) ∙ B.answer;
              }
