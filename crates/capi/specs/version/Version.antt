-- The library's version.
--
-- version_number == release 1.0.0, as major * 10000 + minor * 100 + patch
use Rattle.std.specs.Prelude.{ℕ}

abbrev pub version_number : ℕ
version_number = 10000
