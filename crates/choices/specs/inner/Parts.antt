-- What the functions of all parts need and promise.
--
-- before es b == the counts of the roots es at the beginning of the table b
-- PutArgs, RowPut b i r m == the counts r were written into b as those of part i, and nothing before them changed
-- RowArgs, RowCounted == the counts of root v, from those of the roots before it in the table
-- NextArgs, NextCounted == the same, written into the table behind them
-- AllArgs, AllCounted X vs ms a m == answer a and table m are those of all parts
use Rattle.std.specs.Prelude.{ℕ, ◌+◌, ◌*◌, ◌≤◌, ◌<◌, ◌≡◌, true, List, [], ◌++◌, length, get_or, take}
use Rattle.formats.specs.Limits.{node_limit, state_limit, part_limit}
use Rattle.tables.specs.Climbs.{View}
use Rattle.choices.specs.node_counts.Capped.{count_limit}
use Rattle.choices.specs.declared.part_steps.carry.Carried.{Carried}
use Rattle.choices.specs.question_counts.PartOn.{part_ok_on, part_links_on}
use Rattle.choices.specs.question_counts.PartsOn.{parts_ok, links_from, row_on, rows_from}
use Rattle.choices.specs.question_counts.CountOn.{open_in}
use Rattle.choices.specs.inner.Part.{Runs, PartCounted}

abbrev pub before : List ℕ → List ℕ → List ℕ
before es b = take (length es * state_limit) b

pub record PutArgs (b : List ℕ) (i : ℕ) (r : List ℕ) : Type 0 where
  pub few : i < 65536
  pub room : i * state_limit + state_limit ≤ length b
  pub sixteen : length r ≡ state_limit

pub record RowPut (b : List ℕ) (i : ℕ) (r m : List ℕ) : Type 0 where
  pub same : length m ≡ length b
  pub kept : (j : ℕ) → j < i * state_limit → get_or m j 0 ≡ get_or b j 0
  pub row : (c : ℕ) → c < state_limit → get_or m (i * state_limit + c) 0 ≡ get_or r c 0

pub record NextArgs (n s k : ℕ) (ls ks lv inn node_table state_table vs es b : List ℕ) (v : ℕ) : Type 0 where
  pub runs : Runs n s k ls ks lv inn node_table state_table
  pub at : v < n
  pub listed : length vs ≤ node_limit
  pub few : length es < part_limit
  pub room : length es * state_limit + state_limit ≤ length b
  pub most : (j : ℕ) → get_or (before es b) j 0 ≤ count_limit

pub record RowArgs (n s k : ℕ) (ls ks lv inn node_table state_table vs es b : List ℕ) (v : ℕ) (m : List ℕ) : Type 0 where
  pub next : NextArgs n s k ls ks lv inn node_table state_table vs es b v
  pub sixteen : length m ≡ state_limit
  pub empty : (j : ℕ) → get_or m j 0 ≡ 0

abbrev pub RowCounted : View → List ℕ → List ℕ → List ℕ → ℕ → Carried → List ℕ → Type 0
RowCounted X vs es b v a m = PartCounted X (open_in vs) es (before es b) v a m

pub record NextCounted (X : View) (vs es b : List ℕ) (v : ℕ) (a : Carried) (m : List ℕ) : Type 0 where
  pub ok : a.ok ≡ part_ok_on X (open_in vs) es v
  pub links : a.ok ≡ true → a.links ≡ part_links_on X es v
  pub few : a.ok ≡ true → a.links ≤ 2 * X.n
  pub same : length m ≡ length b
  pub rows : a.ok ≡ true
      → take (length es * state_limit + state_limit) m ≡ before es b ++ row_on X (open_in vs) es (before es b) v

pub record AllArgs (n s k : ℕ) (ls ks lv inn node_table state_table vs ms b : List ℕ) : Type 0 where
  pub runs : Runs n s k ls ks lv inn node_table state_table
  pub listed : length vs ≤ node_limit
  pub few : length ms ≤ part_limit
  pub nodes : (i : ℕ) → i < length ms → get_or ms i 0 < n
  pub room : length ms * state_limit ≤ length b

pub record AllCounted (X : View) (vs ms : List ℕ) (a : Carried) (m : List ℕ) : Type 0 where
  pub ok : a.ok ≡ parts_ok X (open_in vs) [] ms
  pub links : a.ok ≡ true → a.links ≡ links_from X [] ms
  pub room : length ms * state_limit ≤ length m
  pub rows : a.ok ≡ true → take (length ms * state_limit) m ≡ rows_from X (open_in vs) [] [] ms
