-- Numbers in bytes.
--
-- le32 b at == the 32-bit little-endian number that starts at byte `at` of b; a byte past the end counts 0
-- le32_bytes n == its four bytes
-- le16 b at, le16_bytes n == the same for 16 bits
--
-- "Numbers of more than one byte are unsigned and little-endian"
use Rattle.std.specs.Prelude.{ℕ, ◌+◌, ◌*◌, ◌/◌, ◌%◌, List, [], ◌∷◌, get_or}

abbrev pub le32 : List ℕ → ℕ → ℕ
le32 b at = get_or b at 0 + 256 * get_or b (at + 1) 0 + 65536 * get_or b (at + 2) 0 + 16777216 * get_or b (at + 3) 0

abbrev pub le32_bytes : ℕ → List ℕ
le32_bytes n = n % 256 ∷ n / 256 % 256 ∷ n / 65536 % 256 ∷ n / 16777216 % 256 ∷ []

abbrev pub le16 : List ℕ → ℕ → ℕ
le16 b at = get_or b at 0 + 256 * get_or b (at + 1) 0

abbrev pub le16_bytes : ℕ → List ℕ
le16_bytes n = n % 256 ∷ n / 256 % 256 ∷ []
