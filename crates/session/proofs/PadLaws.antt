-- Lists in arrays whose rest is zero.
--     zero-replicate, zeros      zeros are a list of zeros, and back
--     length-padded, take-padded, take-padded-by, zero-padded
--                                a list of at most w entries in an array of w
--     padded-take                an array whose rest is zero is the list in its first entries
--     take_long                  the length of the first entries of an array
--     padded-more                one entry more
use Prim.Native.Nat.{ℕ, zero, suc, ◌+◌, ◌-◌, ◌≤◌, ◌<◌}
use mathlib.Core.Path.{◌≡◌, refl, sym, ap, ◌∙◌}
use mathlib.Core.Bool.{true}
use mathlib.Core.List.{List, [], ◌∷◌, ◌++◌, append_assoc}
use native.Mathlib.Omega.{arith}
use native.Mathlib.Numerals.{add-one}
use lib.Dec.{ltb}
use lib.ListN.{length, set, take, drop, replicate, length-append, length-replicate, length-drop, take-append-drop}
use lib.Seq.{set_split, drop-drop, take-append_seam, drop-append_seam, take_at, length-take-le}
use borrow.Author.Tests.{ltb-true}
use Rattle.list_laws.specs.Tests.{all_below}
use Rattle.list_laws.proofs.BoolLaws.{and_left, and_right}
use Rattle.session.specs.Records.{padded, zero_from}

pub zero-replicate : (n : ℕ) → all_below 1 (replicate n 0) ≡ true
unfolding all_below
zero-replicate zero = refl
zero-replicate (suc n) = zero-replicate n

pub zeros : (l : List ℕ) → all_below 1 l ≡ true → l ≡ replicate (length l) 0
unfolding all_below
zeros [] e = refl
zeros (x ∷ l) e =
    let z : x < 1 = ltb-true x 1 (and_left (ltb x 1) (all_below 1 l) e) in
    let y : x ≡ 0 = omega arith in
    let r : l ≡ replicate (length l) 0 = zeros l (and_right (ltb x 1) (all_below 1 l) e) in
    cc

module _ (w : ℕ) (l : List ℕ) where
  pub length-padded : length l ≤ w → length (padded w l) ≡ w
  length-padded h = simp (length-append, length-replicate) (omega arith)

  pub take-padded : take (length l) (padded w l) ≡ l
  take-padded = take-append_seam l (replicate (w - length l) 0)

  pub take-padded-by : (n : ℕ) → length l ≡ n → take n (padded w l) ≡ l
  take-padded-by n e = take_at l (replicate (w - length l) 0) n e

  pub zero-padded : zero_from (length l) (padded w l) ≡ true
  unfolding zero_from
  zero-padded = ap (all_below 1) (drop-append_seam l (replicate (w - length l) 0)) ∙ zero-replicate (w - length l)

  pub zero-padded-by : (n : ℕ) → length l ≡ n → zero_from n (padded w l) ≡ true
  zero-padded-by n e = ap (λ (i : ℕ). zero_from i (padded w l)) (sym e) ∙ zero-padded

-- an array of w entries, zero from index m on
module _ (w m : ℕ) (l : List ℕ) (e : length l ≡ w) (z : zero_from m l ≡ true) where
  pub tail-zeros : drop m l ≡ replicate (w - m) 0
  unfolding zero_from
  tail-zeros =
      let d : length (drop m l) ≡ w - m = length-drop m l ∙ ap (λ (i : ℕ). i - m) e in
      zeros (drop m l) z ∙ ap (λ (i : ℕ). replicate i 0) d

  pub padded-take : take m l ++ replicate (w - m) 0 ≡ l
  padded-take = ap (λ (t : List ℕ). take m l ++ t) (sym tail-zeros) ∙ take-append-drop m l

-- what `&l[..m]` is, of an array of w entries
pub take_long : (w m : ℕ) (l : List ℕ) → length l ≡ w → m ≤ w → m ≡ length (take m l)
take_long w m l e h = sym (length-take-le m l (omega arith))

-- one entry more, where the array is zero from there on: the length, and the array
module _ (w m : ℕ) (l : List ℕ) (q : ℕ) (e : length l ≡ w) (h : m < w) (z : zero_from m l ≡ true) where
  more-length : length (take m l ++ (q ∷ [])) ≡ m + 1
  more-length = length-append (take m l) (q ∷ []) ∙ ap (λ (i : ℕ). i + 1) (length-take-le m l (omega arith))

  more-zeros : drop (suc m) l ≡ replicate (w - (m + 1)) 0
  more-zeros =
      let a : w - m ≡ suc (w - (m + 1)) = omega arith in
      let b : drop (suc m) l ≡ drop 1 (drop m l) = rw (drop-drop 1 m l, add-one m) in
      b ∙ ap (drop 1) (tail-zeros w m l e z ∙ ap (λ (i : ℕ). replicate i 0) a)

  pub padded-more : (length (take m l ++ (q ∷ [])) ≡ m + 1) × (padded w (take m l ++ (q ∷ [])) ≡ set l m q)
  padded-more = (
    more-length,
    append_assoc (take m l) (q ∷ []) (replicate (w - length (take m l ++ (q ∷ []))) 0)
        ∙ ap (λ (i : ℕ). take m l ++ (q ∷ replicate (w - i) 0)) more-length
        ∙ ap (λ (t : List ℕ). take m l ++ (q ∷ t)) (sym more-zeros)
        ∙ sym (set_split l m q (omega arith)),
  )
