-- Text in a buffer.
--
-- decimal n == n in decimal digits, as bytes, the fewest that hold it
-- Put b at t b' e == the buffer b, whose text ended at `at`, became b': t was appended, and the text ends at e
use Rattle.std.specs.Prelude.{ℕ, zero, suc, ◌+◌, ◌/◌, ◌%◌, ◌≡◌, cond, List, [], ◌∷◌, ◌++◌, ltb, length, take}

-- the last k digits of n, the most significant first
abbrev pub last_digits : ℕ → ℕ → List ℕ
last_digits zero n = []
last_digits (suc k) n = last_digits k (n / 10) ++ ((48 + n % 10) ∷ [])

-- how many digits n has; the first argument is fuel, and n is enough
unfoldable pub places_in : ℕ → ℕ → ℕ
places_in zero n = 1
places_in (suc f) n = cond (ltb n 10) 1 (suc (places_in f (n / 10)))

unfoldable pub decimal : ℕ → List ℕ
decimal n = last_digits (places_in n n) n

pub record Put (b : List ℕ) (at : ℕ) (t : List ℕ) (b' : List ℕ) (e : ℕ) : Type 0 where
  pub text : take e b' ≡ take at b ++ t
  pub end : e ≡ at + length t
  pub as_long : length b' ≡ length b
