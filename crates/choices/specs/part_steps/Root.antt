-- The counts of a part's root.
--
-- root_ok, root_links, root_count == of node v: a leaf's labels at their leaf states, an inner node's as `fork_count`
--   has them, at the depth below v's; ks are the kinds, lv the leaf states
-- RootArgs, RootDone == needs and promise of the function
--
-- "A leaf takes its leaf state."
use Rattle.std.specs.Prelude.{ℕ, ◌+◌, ◌-◌, ◌*◌, ◌≤◌, ◌<◌, ◌≡◌, Bool, true, cond, List, eqb, length, get_or}
use Rattle.formats.specs.Limits.{state_limit}
use Rattle.tables.specs.node_tables.Cells.{depth_cell}
use Rattle.tables.specs.Climbs.{View}
use Rattle.tables.specs.inner.PathViews.{PathArgs}
use Rattle.choices.specs.node_counts.Capped.{capped}
use Rattle.choices.specs.node_counts.Join.{ways_to, TableArgs, Kept}
use Rattle.choices.specs.declared.part_steps.carry.Carried.{Carried}
use Rattle.choices.specs.part_steps.Fork.{fork_ok, fork_links, fork_count, ForkArgs}

unfoldable pub root_ok : View → List ℕ → List ℕ → ℕ → ℕ → ℕ → ℕ → Bool
root_ok X ks es v l i j =
    cond (eqb (get_or ks v 0) 0) true (fork_ok X es (depth_cell X.node_table v + 1) l (v - 1) i j)

unfoldable pub root_links : View → List ℕ → List ℕ → ℕ → ℕ → ℕ → ℕ
root_links X ks es v i j = cond (eqb (get_or ks v 0) 0) 0 (fork_links X es (depth_cell X.node_table v + 1) i j)

unfoldable pub root_count : View → List ℕ → List ℕ → List ℕ → List ℕ → ℕ → ℕ → ℕ → ℕ → ℕ → ℕ → ℕ → ℕ
root_count X ks lv es cs v l i j b e c =
    cond (eqb (get_or ks v 0) 0)
    (ways_to lv 1 X.k b e 0 0 c)
    (fork_count X es cs (depth_cell X.node_table v + 1) l (v - 1) i j b e c)

pub record RootArgs (n s k : ℕ) (ls ks lv inn node_table state_table es cs : List ℕ) (v l i j b e : ℕ) (m : List ℕ)
    : Type 0 where
  pub path : PathArgs n s k ls inn node_table state_table
  pub at : v < n
  pub kind : v < length ks
  pub leaves : TableArgs lv 1 k b e
  pub inside : (get_or ks v 0 ≡ 0 → ⊥) → l < v
  pub fork : (get_or ks v 0 ≡ 0 → ⊥) → ForkArgs n s k ls inn node_table state_table es cs l (v - 1) i j b e m
  pub sixteen : length m ≡ state_limit
  pub empty : (a : ℕ) → get_or m a 0 ≡ 0

pub record RootDone (X : View) (ks lv es cs : List ℕ) (v l i j b e : ℕ) (a : Carried) (m : List ℕ) : Type 0 where
  pub ok : a.ok ≡ root_ok X ks es v l i j
  pub links : a.ok ≡ true → a.links ≡ root_links X ks es v i j
  pub few : a.ok ≡ true → a.links ≤ 2 * X.n
  pub kept : Kept m
  pub counts : a.ok ≡ true → (c : ℕ) → c < state_limit → get_or m c 0 ≡ capped (root_count X ks lv es cs v l i j b e c)
