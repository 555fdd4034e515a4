-- Blocks of nodes: the inner ones listed, the leaves and the pairs tested.
--
-- inner_node ks v, leaf_node ks v == not 0 exactly where v is an inner node by the kinds ks, and a leaf
-- Listed f b e c l == the first c elements of l are the nodes of b, .. e - 1 where f is not 0, in any order
-- BothListed ks b e c l m == c inner nodes of b, .. e - 1 are listed in l, and the leaves in m
-- Means r P == r is whether P
-- Leaves .. b e, Nodes .. b e == the leaves of b, .. e - 1 match; the leaves and the pairs of these nodes do
-- Kinds ks == kinds are 0 or 1, and no inner node is the first
-- ListedArgs, LeavesArgs, PairsArgs, ListingArgs, BlockArgs, BlocksArgs == what the loops need
use Rattle.std.specs.Prelude.{ℕ, ◌+◌, ◌-◌, ◌≤◌, ◌<◌, ◌≡◌, Bool, true, List, length, get_or}
use Rattle.formats.specs.Limits.{node_limit}
use Rattle.formats.specs.Checks.{node_table_length}
use Rattle.tables.specs.node_tables.inner.InnerNodes.{block_length}
use Rattle.table_checks.specs.inner.PairStates.{leaf_is, pair_is, TableRoom}

-- the kind of node v, and the other kind: not 0 at an inner node, and at a leaf
abbrev pub inner_node : List ℕ → ℕ → ℕ
inner_node ks v = get_or ks v 0

abbrev pub leaf_node : List ℕ → ℕ → ℕ
leaf_node ks v = 1 - get_or ks v 0

pub record Listed (f : ℕ → ℕ) (b e c : ℕ) (l : List ℕ) : Type 0 where
  pub few : c + b ≤ e
  pub from : (i : ℕ) → i < c → b ≤ get_or l i 0
  pub to : (i : ℕ) → i < c → get_or l i 0 < e
  pub on : (i : ℕ) → i < c → f (get_or l i 0) ≡ 0 → ⊥
  pub all : (v : ℕ) → b ≤ v → v < e → (f v ≡ 0 → ⊥) → (i : ℕ) × (i < c) × (get_or l i 0 ≡ v)

pub record BothListed (ks : List ℕ) (b e c : ℕ) (l m : List ℕ) : Type 0 where
  pub inner : Listed (inner_node ks) b e c l
  pub leaf : Listed (leaf_node ks) b e (e - b - c) m

pub record Means (r : Bool) (P : Type 0) : Type 0 where
  pub yes : r ≡ true → P
  pub back : P → r ≡ true

abbrev pub Leaves : List ℕ → List ℕ → List ℕ → List ℕ → ℕ → List ℕ → ℕ → ℕ → Type 0
Leaves ks ls node_table lv s state_table b e =
    (v : ℕ) → b ≤ v → v < e → get_or ks v 0 ≡ 0 → leaf_is ls node_table lv s state_table v ≡ true

pub record ListedArgs (node_table : List ℕ) (n : ℕ) (l : List ℕ) (c : ℕ) : Type 0 where
  pub most : n ≤ node_limit
  pub link_room : node_table_length n ≤ length node_table
  pub few : c ≤ length l
  pub pos : (i : ℕ) → i < c → 0 < get_or l i 0
  pub inside : (i : ℕ) → i < c → get_or l i 0 < n

pub record PairsArgs (ls node_table lv inn : List ℕ) (s k n : ℕ) (state_table l : List ℕ) (c : ℕ) : Type 0 where
  pub table : TableRoom ls node_table lv inn s k n state_table
  pub few : c ≤ length l
  pub pos : (i : ℕ) → i < c → 0 < get_or l i 0
  pub inside : (i : ℕ) → i < c → get_or l i 0 < n

pub record LeavesArgs (ls node_table lv inn : List ℕ) (s k n : ℕ) (state_table l : List ℕ) (c : ℕ) : Type 0 where
  pub table : TableRoom ls node_table lv inn s k n state_table
  pub few : c ≤ length l
  pub inside : (i : ℕ) → i < c → get_or l i 0 < n

pub record Nodes (ks ls node_table lv inn : List ℕ) (s k : ℕ) (state_table : List ℕ) (b e : ℕ) : Type 0 where
  pub leaves : Leaves ks ls node_table lv s state_table b e
  pub pairs : (v : ℕ) → b ≤ v → v < e → (get_or ks v 0 ≡ 0 → ⊥)
      → pair_is ls node_table inn s k (length ks) state_table v ≡ true

pub record Kinds (ks : List ℕ) : Type 0 where
  pub small : (j : ℕ) → j < length ks → get_or ks j 0 ≤ 1
  pub later : (j : ℕ) → j < length ks → (get_or ks j 0 ≡ 0 → ⊥) → 0 < j

pub record ListingArgs (ks : List ℕ) (b e m l : ℕ) : Type 0 where
  pub kinds : Kinds ks
  pub order : b ≤ e
  pub inside : e ≤ length ks
  pub most : length ks ≤ node_limit
  pub fits : e ≤ b + m
  pub leaf_fits : e ≤ b + l

pub record BlockArgs (ks ls node_table lv inn : List ℕ) (s k : ℕ) (state_table : List ℕ) (b e m : ℕ) : Type 0 where
  pub table : TableRoom ls node_table lv inn s k (length ks) state_table
  pub kinds : Kinds ks
  pub order : b ≤ e
  pub inside : e ≤ length ks
  pub fits : e ≤ b + m
  pub short : e ≤ b + block_length

pub record BlocksArgs (ks ls node_table lv inn : List ℕ) (s k : ℕ) (state_table : List ℕ) (m : ℕ) : Type 0 where
  pub table : TableRoom ls node_table lv inn s k (length ks) state_table
  pub kinds : Kinds ks
  pub fits : block_length ≤ m
