-- A copy to the front of a buffer.
--
-- over_buffer n a d == the buffer d with the first n numbers of a at its front; behind them what was there
-- CopyArgs w a n d == a has w numbers, and d has room for the first n of them
use Rattle.std.specs.Prelude.{ℕ, ◌≤◌, ◌≡◌, List, ◌++◌, length, take, drop}

abbrev pub over_buffer : ℕ → List ℕ → List ℕ → List ℕ
over_buffer n a d = take n a ++ drop n d

pub record CopyArgs (w : ℕ) (a : List ℕ) (n : ℕ) (d : List ℕ) : Type 0 where
  pub wide : length a ≡ w
  pub few : n ≤ w
  pub room : n ≤ length d
