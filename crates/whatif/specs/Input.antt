-- The lengths at the start of the input.
--
-- IsPrefixLen n xs == &xs[..n] is in bounds, and has n bytes
-- too_large p r == whether the stated lengths p of the plan and r of the rules are above what the program takes
--
-- A length itself is le32 (crate formats, Bytes) of the bytes that came: "missing length bytes count as 0", as le32 counts them.
use Rattle.std.specs.Prelude.{ℕ, ◌≤◌, ◌≡◌, Bool, ◌||◌, List, ltb, length, take}

abbrev pub IsPrefixLen : ℕ → List ℕ → Type 0
IsPrefixLen n xs = (n ≤ length xs) × (n ≡ length (take n xs))

-- "With a stated plan length above 2,014 or a stated rules length above 16,484"
abbrev pub too_large : ℕ → ℕ → Bool
too_large p r = ltb 2014 p || ltb 16484 r
