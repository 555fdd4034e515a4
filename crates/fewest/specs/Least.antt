-- Least values.
--
-- least_to far n f == the least of far, f 0, f 1, .. f (n - 1): far stands for "none"
-- place_of_least far n f == the first i below n where f i is that value; 0 where only far is
-- no_way_out == what stands for "none" in the call: 65,536, for no plan has so many nodes
use Rattle.std.specs.Prelude.{ℕ, zero, suc, min, cond, ltb}

abbrev pub no_way_out : ℕ
no_way_out = 65536

unfoldable pub least_to : ℕ → ℕ → (ℕ → ℕ) → ℕ
least_to far zero f = far
least_to far (suc n) f = min (least_to far n f) (f n)

unfoldable pub place_of_least : ℕ → ℕ → (ℕ → ℕ) → ℕ
place_of_least far zero f = 0
place_of_least far (suc n) f = cond (ltb (f n) (least_to far n f)) n (place_of_least far n f)
