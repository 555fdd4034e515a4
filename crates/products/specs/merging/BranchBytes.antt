-- A branch table's bytes.
--
-- branch_bytes s k st mk == the bytes, from its counts and its two runs
use Rattle.std.specs.Prelude.{ℕ, ◌+◌, ◌*◌, List, ◌++◌}
use Rattle.formats.specs.Layout.{branch_head}
use Rattle.formats.specs.Bytes.{le32_bytes}

-- "Four 32-bit numbers: S, K, offsets of steps (16) and marks (16+S×K). Then S×K bytes, ..; S marks."
unfoldable pub branch_bytes : ℕ → ℕ → List ℕ → List ℕ → List ℕ
branch_bytes s k st mk =
    le32_bytes s ++ (le32_bytes k ++ (le32_bytes branch_head ++ (le32_bytes (branch_head + s * k) ++ (st ++ mk))))
