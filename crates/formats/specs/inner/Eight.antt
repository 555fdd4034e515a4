-- Eight kinds of a plan at a time.
--
-- eight_kinds b at == eight bytes from `at` on as one number, the first lowest; eight_from b at == the same as a list
-- only_kinds w == whether each of eight bytes is 0 or 1
-- twice_of w == in each byte twice the inner nodes among the kinds up to it: sums_of adds up bytes, and fits y says that
--   its sums stay below 2 ^ 64, and itself small
-- sufficient x t == whether t trees are enough for eight kinds with these counts: no byte of `spare` is 128 or more
use Rattle.std.specs.Prelude.{ℕ, ◌+◌, ◌-◌, ◌*◌, ◌%◌, Bool, cond, ◌&&◌, List, [], ◌∷◌, ltb, eqb, get_or}
use Rattle.std.specs.Int.Bits.{bit_and}

abbrev pub eight_kinds : List ℕ → ℕ → ℕ
eight_kinds b at =
    get_or b at 0 + 256 * get_or b (at + 1) 0 + 65536 * get_or b (at + 2) 0 + 16777216 * get_or b (at + 3) 0
    + 4294967296 * get_or b (at + 4) 0 + 1099511627776 * get_or b (at + 5) 0 + 281474976710656 * get_or b (at + 6) 0
    + 72057594037927936 * get_or b (at + 7) 0

abbrev pub eight_from : List ℕ → ℕ → List ℕ
eight_from b at =
    get_or b at 0 ∷ get_or b (at + 1) 0 ∷ get_or b (at + 2) 0 ∷ get_or b (at + 3) 0
    ∷ get_or b (at + 4) 0 ∷ get_or b (at + 5) 0 ∷ get_or b (at + 6) 0 ∷ get_or b (at + 7) 0 ∷ []

abbrev pub only_kinds : ℕ → Bool
only_kinds w = eqb (bit_and w 18374403900871474942) 0

abbrev pub pairs_of : ℕ → ℕ
pairs_of w = w + w * 256 % 18446744073709551616

abbrev pub fours_of : ℕ → ℕ
fours_of w = pairs_of w + pairs_of w * 65536 % 18446744073709551616

abbrev pub sums_of : ℕ → ℕ
sums_of w = fours_of w + fours_of w * 4294967296 % 18446744073709551616

unfoldable pub fits : ℕ → Bool
fits w =
    ltb (pairs_of w) 18446744073709551616 && ltb (fours_of w) 18446744073709551616 && ltb (sums_of w) 2000000000000000000

abbrev pub twice_of : ℕ → ℕ
twice_of w = sums_of (2 * w)

abbrev pub few_of : ℕ → ℕ
few_of t = cond (ltb t 16) t 16

abbrev pub spare : ℕ → ℕ → ℕ
spare x t = 8681104427521506943 + x - t * 72340172838076673

abbrev pub sufficient : ℕ → ℕ → Bool
sufficient x t = eqb (bit_and (spare x (few_of t)) 9259542123273814144) 0
