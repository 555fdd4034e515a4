-- The partition-ready set (source document 002, 4.1.1): document 01's ready set.
--
-- left_child t v, right_child t v == the children of an inner node v
-- Meet t u v x == node x is the lowest common ancestor of u and v (of a node and its ancestor: the ancestor)
-- Ready w t v == node v is in the ready set of the nodes that w holds of, the root added
-- Closed w t C == C has what document 01 asks of the ready set; Ready is the least such C (ready-closed, ready-least)
--
-- w is any set of nodes, not a list of changes.
use Rattle.std.specs.Prelude.{◌≡◌, ℕ, ◌+◌, ◌-◌, ◌<◌, Bool, true}
use Rattle.trees.specs.Tree.{Tree, size, kind_at}
use Rattle.trees.specs.Numbering.{sub, InSubtree}

abbrev pub right_child : ℕ → ℕ
right_child v = v - 1

abbrev pub left_child : Tree → ℕ → ℕ
left_child t v = v - 1 - size (sub t (v - 1))

pub record Meet (t : Tree) (u v x : ℕ) : Type 0 where
  pub inside : x < size t
  pub first : InSubtree t x u
  pub second : InSubtree t x v
  pub lowest : (y : ℕ) → y < size t → InSubtree t y u → InSubtree t y v → InSubtree t y x

-- node v is an inner node, with u below its left child and x below its right one
pub record Fork (t : Tree) (v u x : ℕ) : Type 0 where
  pub inside : v < size t
  pub inner : kind_at t v ≡ 1
  pub left : InSubtree t (left_child t v) u
  pub right : InSubtree t (right_child v) x

-- "Let W be the listed nodes and the root. The ready set is the least set that holds W, holds the lowest common ancestor of any two
-- members, and holds both children of a member that has members below both."
pub data Ready (w : ℕ → Bool) (t : Tree) : ℕ → Type 0 where
  listed : {v : ℕ} → v < size t → w v ≡ true → Ready w t v
  root : {v : ℕ} → v + 1 ≡ size t → Ready w t v
  meet : {u v x : ℕ} → Ready w t u → Ready w t v → Meet t u v x → Ready w t x
  child_left : {v u x : ℕ} → Ready w t v → Ready w t u → Ready w t x → Fork t v u x → Ready w t (left_child t v)
  child_right : {v u x : ℕ} → Ready w t v → Ready w t u → Ready w t x → Fork t v u x → Ready w t (right_child v)

pub record Closed (w : ℕ → Bool) (t : Tree) (C : ℕ → Type 0) : Type 0 where
  pub has_listed : (v : ℕ) → v < size t → w v ≡ true → C v
  pub has_root : (v : ℕ) → v + 1 ≡ size t → C v
  pub has_meets : (u v x : ℕ) → C u → C v → Meet t u v x → C x
  pub has_children : (v u x : ℕ) → C v → C u → C x → Fork t v u x → C (left_child t v) × C (right_child v)
