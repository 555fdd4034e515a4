-- What the function of one part needs and promises.
--
-- label_range ls k free v == all labels where v is open, else its own
-- no_places ok == no child, no places
-- PlaceArgs, PlacesAre ks node_table es v q == q has the left child of v and the places of the last of es below its
--   children; not ok: v is no leaf, and its children would lie outside the plan
-- Runs n s k ls ks lv inn node_table state_table == the runs of the inputs are as long as N, S and K need, and every leaf
--   and inner state is below S
-- PartNeeds == besides, v is a node, there are at most 254 earlier roots, and cs has 16 counts for each, none above the
--   limit
-- PartCounted X w es cs v a m == answer a and counts m are those of part v
use Rattle.std.specs.Prelude.{ℕ, ◌+◌, ◌-◌, ◌*◌, ◌≤◌, ◌<◌, ◌≡◌, Bool, true, false, cond, ◌&&◌, List, leb, ltb, length, get_or}
use Rattle.formats.specs.Layout.{node_columns}
use Rattle.formats.specs.Limits.{node_limit, state_limit, part_limit}
use Rattle.tables.specs.node_tables.Cells.{size_cell}
use Rattle.tables.specs.Climbs.{View}
use Rattle.tables.specs.inner.PathViews.{PathArgs}
use Rattle.questions.specs.inner.Scans.{last_in}
use Rattle.choices.specs.node_counts.Capped.{count_limit}
use Rattle.choices.specs.declared.part_steps.carry.Carried.{Carried}
use Rattle.choices.specs.question_counts.PartOn.{part_ok_on, part_links_on}
use Rattle.choices.specs.question_counts.PartsOn.{row_on}
use Rattle.choices.specs.declared.part.LabelRange.{LabelRange}
use Rattle.choices.specs.declared.part.Places.{Places}

abbrev pub label_range : List ℕ → ℕ → Bool → ℕ → LabelRange
label_range ls k free v = record { first = cond free 0 (get_or ls v 0); end = cond free k (get_or ls v 0 + 1) }

abbrev pub no_places : Bool → Places
no_places ok = record { ok = ok; child = 0; left = 0; right = 0 }

abbrev pub children_in : List ℕ → ℕ → Bool
children_in node_table v = ltb 0 v && leb (size_cell node_table (v - 1)) (v - 1)

pub record PlaceArgs (ks node_table es : List ℕ) (v : ℕ) : Type 0 where
  pub kind : v < length ks
  pub node : v ≤ node_limit
  pub room : v * node_columns ≤ length node_table
  pub many : length es ≤ node_limit

pub record PlacesAre (ks node_table es : List ℕ) (v : ℕ) (q : Places) : Type 0 where
  pub no_leaf : q.ok ≡ false → get_or ks v 0 ≡ 0 → ⊥
  pub no_children : q.ok ≡ false → children_in node_table v ≡ false
  pub children : q.ok ≡ true → (get_or ks v 0 ≡ 0 → ⊥) → children_in node_table v ≡ true
  pub child : q.ok ≡ true → (get_or ks v 0 ≡ 0 → ⊥) → q.child ≡ v - 1 - size_cell node_table (v - 1)
  pub left : q.ok ≡ true → (get_or ks v 0 ≡ 0 → ⊥) → q.left ≡ last_in q.child (size_cell node_table q.child) es
  pub right : q.ok ≡ true → (get_or ks v 0 ≡ 0 → ⊥) → q.right ≡ last_in (v - 1) (size_cell node_table (v - 1)) es

pub record Runs (n s k : ℕ) (ls ks lv inn node_table state_table : List ℕ) : Type 0 where
  pub path : PathArgs n s k ls inn node_table state_table
  pub some_state : 0 < s
  pub kinds_room : n ≤ length ks
  pub leaves_room : k ≤ length lv
  pub leaf_below : (j : ℕ) → get_or lv j 0 < s
  pub inner_below : (j : ℕ) → get_or inn j 0 < s

pub record PartNeeds (n s k : ℕ) (ls ks lv inn node_table state_table es cs : List ℕ) (v : ℕ) (m : List ℕ) : Type 0 where
  pub runs : Runs n s k ls ks lv inn node_table state_table
  pub at : v < n
  pub few : length es ≤ part_limit
  pub room : length es * state_limit ≤ length cs
  pub most : (j : ℕ) → get_or cs j 0 ≤ count_limit
  pub sixteen : length m ≡ state_limit
  pub empty : (j : ℕ) → get_or m j 0 ≡ 0

pub record PartCounted (X : View) (w : ℕ → Bool) (es cs : List ℕ) (v : ℕ) (a : Carried) (m : List ℕ) : Type 0 where
  pub ok : a.ok ≡ part_ok_on X w es v
  pub links : a.ok ≡ true → a.links ≡ part_links_on X es v
  pub few : a.ok ≡ true → a.links ≤ 2 * X.n
  pub row : a.ok ≡ true → m ≡ row_on X w es cs v
