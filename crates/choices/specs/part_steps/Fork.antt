-- The counts of an inner node that is a part's root.
--
-- fork_ok, fork_links, fork_count X es cs t l r i j b e == whether both children come to counts at depth t, by how many
--   links, and how many choices end in state c; i and j are the places from 1, among the earlier roots es with the
--   counts cs, of the last roots below the children l and r, 0 for none; the node's labels are those from b to before e
-- ForkArgs, ForkDone == needs and promise of the function
use Rattle.std.specs.Prelude.{ℕ, ◌+◌, ◌*◌, ◌≤◌, ◌<◌, ◌≡◌, Bool, true, ◌&&◌, List, length, get_or}
use Rattle.formats.specs.Limits.{state_limit, part_limit}
use Rattle.tables.specs.Climbs.{View}
use Rattle.tables.specs.inner.PathViews.{PathArgs}
use Rattle.choices.specs.assignments.Sums.{sum_to}
use Rattle.choices.specs.node_counts.Capped.{count_limit, capped}
use Rattle.choices.specs.node_counts.Join.{ways_to, TableArgs, Kept}
use Rattle.choices.specs.declared.part_steps.carry.Carried.{Carried}
use Rattle.choices.specs.part_steps.Side.{side_ok, side_links, side_count}

unfoldable pub fork_ok : View → List ℕ → ℕ → ℕ → ℕ → ℕ → ℕ → Bool
fork_ok X es t l r i j = side_ok X es t l i j && side_ok X es t r j i

-- "Only those climbs count as links."
unfoldable pub fork_links : View → List ℕ → ℕ → ℕ → ℕ → ℕ
fork_links X es t i j = side_links X es t i j + side_links X es t j i

-- for each two states of the children the product of their counts, for each label that leads to c
unfoldable pub fork_count : View → List ℕ → List ℕ → ℕ → ℕ → ℕ → ℕ → ℕ → ℕ → ℕ → ℕ → ℕ
fork_count X es cs t l r i j b e c =
    sum_to X.s (λ p. side_count X es cs t l i j p
    * sum_to X.s (λ q. side_count X es cs t r j i q * ways_to X.inner X.s X.k b e p q c))

pub record ForkArgs (n s k : ℕ) (ls inn node_table state_table es cs : List ℕ) (l r i j b e : ℕ) (m : List ℕ)
    : Type 0 where
  pub path : PathArgs n s k ls inn node_table state_table
  pub some_state : 0 < s
  pub left_at : l < n
  pub right_at : r < n
  pub most : (a : ℕ) → get_or cs a 0 ≤ count_limit
  pub few : length es ≤ part_limit
  pub room : length es * state_limit ≤ length cs
  pub left_place : i ≤ length es
  pub right_place : j ≤ length es
  pub left_inside : (a : ℕ) → i ≡ a + 1 → get_or es a 0 < n
  pub right_inside : (a : ℕ) → j ≡ a + 1 → get_or es a 0 < n
  pub table : TableArgs inn s k b e
  pub sixteen : length m ≡ state_limit
  pub empty : (a : ℕ) → get_or m a 0 ≡ 0

pub record ForkDone (X : View) (es cs : List ℕ) (t l r i j b e : ℕ) (a : Carried) (m : List ℕ) : Type 0 where
  pub ok : a.ok ≡ fork_ok X es t l r i j
  pub links : a.ok ≡ true → a.links ≡ fork_links X es t i j
  pub few : a.ok ≡ true → a.links ≤ 2 * X.n
  pub kept : Kept m
  pub counts : a.ok ≡ true → (c : ℕ) → c < state_limit → get_or m c 0 ≡ capped (fork_count X es cs t l r i j b e c)
