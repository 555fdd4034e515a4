-- The counts at one child of a part's root.
--
-- count_in cs i q == the count of state q of part i, where cs has 16 for each part
-- side_ok, side_links, side_count X es cs t c own other == whether the child c comes to counts at depth t, by how many
--   links, and how many choices below end in state p there; `own` and `other` are the places from 1, among the earlier
--   roots es with the counts cs, of the last root below c and below its sibling, 0 for none
-- RowArgs, RowCopied, SideArgs, SideDone == needs and promises of the functions
--
-- "A member with no member below takes its children's states from the run. With members below both children it takes
-- theirs. With members below one child only, .. climb".
use Rattle.std.specs.Prelude.{ℕ, zero, suc, ◌+◌, ◌-◌, ◌*◌, ◌≤◌, ◌<◌, ◌≡◌, Bool, true, List, ltb, length, get_or}
use Rattle.formats.specs.Limits.{state_limit, part_limit}
use Rattle.tables.specs.StateCells.{state_cell}
use Rattle.tables.specs.Climbs.{View, climb_on}
use Rattle.tables.specs.inner.PathViews.{PathArgs}
use Rattle.choices.specs.assignments.Sums.{sum_to, one}
use Rattle.choices.specs.node_counts.Capped.{count_limit, capped}
use Rattle.choices.specs.node_counts.Join.{Kept}
use Rattle.choices.specs.declared.part_steps.carry.Carried.{Carried}
use Rattle.choices.specs.part_steps.Carry.{links_in, arrives_at, all_arrive}

abbrev pub count_in : List ℕ → ℕ → ℕ → ℕ
count_in cs i q = get_or cs (i * state_limit + q) 0

unfoldable pub side_ok : View → List ℕ → ℕ → ℕ → ℕ → ℕ → Bool
side_ok X es t c zero other = ltb (state_cell X.s X.state_table c) X.s
side_ok X es t c (suc i) zero = all_arrive X (get_or es i 0) t X.s
side_ok X es t c (suc i) (suc j) = true

unfoldable pub side_links : View → List ℕ → ℕ → ℕ → ℕ → ℕ
side_links X es t zero other = 0
side_links X es t (suc i) zero = links_in (climb_on X (get_or es i 0) t (X.s - 1))
side_links X es t (suc i) (suc j) = 0

unfoldable pub side_count : View → List ℕ → List ℕ → ℕ → ℕ → ℕ → ℕ → ℕ → ℕ
side_count X es cs t c zero other p = one p (state_cell X.s X.state_table c)
side_count X es cs t c (suc i) zero p = sum_to X.s (λ q. count_in cs i q * one p (arrives_at X (get_or es i 0) t q))
side_count X es cs t c (suc i) (suc j) p = count_in cs i p

pub record RowArgs (cs : List ℕ) (i : ℕ) (l : List ℕ) : Type 0 where
  pub few : i < 65536
  pub room : i * state_limit + state_limit ≤ length cs
  pub most : (j : ℕ) → get_or cs j 0 ≤ count_limit
  pub sixteen : length l ≡ state_limit

pub record RowCopied (cs : List ℕ) (i : ℕ) (r : List ℕ) : Type 0 where
  pub kept : Kept r
  pub counts : (c : ℕ) → c < state_limit → get_or r c 0 ≡ count_in cs i c

-- the entry at place `own`, if it is one, is a root among the nodes
pub record SideArgs (n s k : ℕ) (ls inn node_table state_table es cs : List ℕ) (c own : ℕ) (l : List ℕ) : Type 0 where
  pub path : PathArgs n s k ls inn node_table state_table
  pub some_state : 0 < s
  pub at : c < n
  pub most : (j : ℕ) → get_or cs j 0 ≤ count_limit
  pub few : length es ≤ part_limit
  pub room : length es * state_limit ≤ length cs
  pub place : own ≤ length es
  pub inside : (i : ℕ) → own ≡ i + 1 → get_or es i 0 < n
  pub sixteen : length l ≡ state_limit
  pub empty : (j : ℕ) → get_or l j 0 ≡ 0

pub record SideDone (X : View) (es cs : List ℕ) (t c own other : ℕ) (r : Carried) (m : List ℕ) : Type 0 where
  pub ok : r.ok ≡ side_ok X es t c own other
  pub links : r.ok ≡ true → r.links ≡ side_links X es t own other
  pub few : r.ok ≡ true → r.links ≤ X.n
  pub kept : Kept m
  pub counts : r.ok ≡ true → (p : ℕ) → p < state_limit → get_or m p 0 ≡ capped (side_count X es cs t c own other p)
