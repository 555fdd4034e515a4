-- How many inner nodes are in a row.
--
-- run_after k run == the run after a node of kind k, where `run` inner nodes are in a row before it
use Rattle.std.specs.Prelude.{ℕ, zero, suc, ◌+◌}

abbrev pub run_after : ℕ → ℕ → ℕ
run_after zero run = 0
run_after (suc k) run = run + 1
