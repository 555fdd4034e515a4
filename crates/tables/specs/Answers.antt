-- What the builds and the full checks answer, and what they leave in the caller's buffers.
--
-- written n table entry == what a buffer holds afterwards: the table and the entry's excess, or the entry where refused
-- BuildDone == a build's promise, of n, the number of its first failing check (0: none): the answer's number and both
--   buffers, on every input
-- CheckDone == a full check's promise: its number, and yes or no where it has none
use Rattle.std.specs.Prelude.{ℕ, zero, suc, ◌≡◌, Bool, ◌&&◌, List, ◌++◌, length, take, drop, Result}
use Rattle.list_laws.specs.Tests.{same_list}
use Rattle.formats.specs.Refusals.{answer_number, told, told_as}
use Rattle.formats.specs.declared.refusals.Refusal.{Refusal}

-- "The excess of a longer buffer is untouched." "The first no gives its number; nothing else is returned and nothing is altered."
unfoldable pub written : ℕ → List ℕ → List ℕ → List ℕ
written zero table entry = table ++ drop (length table) entry
written (suc n) table entry = entry

pub record BuildDone (n : ℕ) (links states node_table state_table : List ℕ) (answer : Result Unit Refusal) (node_table' state_table' : List ℕ) : Type 0 where
  pub result : told answer ≡ told_as n tt
  pub number : answer_number answer ≡ n
  pub node_table_written : node_table' ≡ written n links node_table
  pub state_table_written : state_table' ≡ written n states state_table

-- "a full check of lent tables, whose yes holds exactly when they are what the build writes"
unfoldable pub same_tables : List ℕ → List ℕ → List ℕ → List ℕ → Bool
same_tables links states node_table state_table = same_list (take (length links) node_table) links && same_list (take (length states) state_table) states

pub record CheckDone (n : ℕ) (links states node_table state_table : List ℕ) (answer : Result Bool Refusal) : Type 0 where
  pub result : told answer ≡ told_as n (same_tables links states node_table state_table)
  pub number : answer_number answer ≡ n
