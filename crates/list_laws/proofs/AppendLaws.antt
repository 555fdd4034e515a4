-- The elements of appended lists, by index.
--     at_left, at-middle, at_right   three lists, one after the other
--     get_d_past                      a list put in front of the rest of another: past it, the other as it was
use Prim.Native.Nat.{ℕ, ◌+◌, ◌-◌, ◌≤◌, ◌<◌}
use mathlib.Core.Path.{◌≡◌, ap, ◌∙◌}
use mathlib.Core.List.{List, ◌++◌}
use native.Mathlib.Omega.{arith}
use lib.ListN.{length, get_or, drop, get_or-append}
use lib.Seq.{get_or-append-add, get_or-drop}

module _ {X : Type 0} (d : X) (xs ys zs : List X) where
  pub at_left : (i : ℕ) → i < length xs → get_or (xs ++ (ys ++ zs)) i d ≡ get_or xs i d
  at_left i h = get_or-append xs (ys ++ zs) d i h

  pub at-middle : (i j : ℕ) → i ≡ length xs + j → j < length ys → get_or (xs ++ (ys ++ zs)) i d ≡ get_or ys j d
  at-middle i j e h = rw e (get_or-append-add xs (ys ++ zs) j d ∙ get_or-append ys zs d j h)

  pub at_right : (i j : ℕ) → i ≡ length xs + length ys + j → get_or (xs ++ (ys ++ zs)) i d ≡ get_or zs j d
  at_right i j e =
      let q : i ≡ length xs + (length ys + j) = omega arith in
      rw q (get_or-append-add xs (ys ++ zs) (length ys + j) d ∙ get_or-append-add ys zs j d)

pub get_d_past : (xs a : List ℕ) (n j : ℕ) → length xs ≡ n → n ≤ j → get_or (xs ++ drop n a) j 0 ≡ get_or a j 0
get_d_past xs a n j e h =
    let i : j ≡ length xs + (j - n) = omega arith in
    let q : n + (j - n) ≡ j = omega arith in
    ap (λ (y : ℕ). get_or (xs ++ drop n a) y 0) i
    ∙ get_or-append-add xs (drop n a) (j - n) 0 ∙ get_or-drop n a (j - n) 0 ∙ ap (λ (y : ℕ). get_or a y 0) q
