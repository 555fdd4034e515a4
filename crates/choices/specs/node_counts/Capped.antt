-- Numbers of assignments as the program keeps them.
--
-- count_limit == 10^18: "26 for more than 1,000,000,000,000,000,000 assignments"
-- capped n == n, or the limit where n is above it
--
-- On tables as built no count and no total of a part is above the limit (choices/assignments, `total-fits`), so that
-- nothing is cut off; on other tables one part may be read twice, and the counts stop there.
use Rattle.std.specs.Prelude.{ℕ, min}

abbrev pub count_limit : ℕ
count_limit = 1000000000000000000

abbrev pub capped : ℕ → ℕ
capped n = min count_limit n
