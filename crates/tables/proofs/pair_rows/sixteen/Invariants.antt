-- The first q states are the table's.
use Rattle.std.proofs.Common.{ℕ, get_or, length, ◌+◌, ◌<◌, ◌≡◌}
use Rattle.tables.proofs.pair_rows.sixteen.Given as goal

abbrev pub invariant-loop-q : goal.invariant-loop-q
invariant-loop-q l =
    (length l.line ≡ 16) × ((x : ℕ) → x < l.q → get_or l.line x 0 ≡ get_or l.table (l.base + x) 0)
