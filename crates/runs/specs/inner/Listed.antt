-- A list of changes, read node by node.
--
-- label_for a vs bs v == the label of node v whose own label is a: that of the last entry for v; a where there is none
-- marked a c == the label of a node whose own label is a and whose mark is c: 255 for a node that is not listed
-- Unmarked cs == 1,024 marks of nodes that are not listed
-- MarkArgs vs bs from to == at most 1,023 nodes, and a list of changes to labels below 255
-- Marks vs bs from to cs == cs are the marks of the nodes from `from` to before `to`, and after them one that is no node's
--
-- The first is what `changed` of crate trees holds at v: label-changed (proofs/ListedLaws). Nothing here asks that a
-- node is listed once.
use Rattle.std.specs.Prelude.{ℕ, ◌+◌, ◌-◌, ◌≤◌, ◌<◌, ◌≡◌, cond, List, [], ◌∷◌, eqb, length, get_or}

unfoldable pub label_for : ℕ → List ℕ → List ℕ → ℕ → ℕ
label_for a [] bs v = a
label_for a (u ∷ vs) [] v = a
label_for a (u ∷ vs) (b ∷ bs) v = label_for (cond (eqb u v) b a) vs bs v

unfoldable pub marked : ℕ → ℕ → ℕ
marked a c = cond (eqb c 255) a c

pub record Unmarked (cs : List ℕ) : Type 0 where
  pub size : length cs ≡ 1024
  pub none : (j : ℕ) → j < 1024 → get_or cs j 0 ≡ 255

pub record MarkArgs (vs bs : List ℕ) (from to : ℕ) : Type 0 where
  pub rising : from ≤ to
  pub few : to ≤ from + 1023
  pub paired : length vs ≤ length bs
  pub labels_below : (j : ℕ) → get_or bs j 0 < 255

pub record Marks (vs bs : List ℕ) (from to : ℕ) (cs : List ℕ) : Type 0 where
  pub size : length cs ≡ 1024
  pub stop : get_or cs (to - from) 0 ≡ 0
  pub at : (a u : ℕ) → from ≤ u → u < to → marked a (get_or cs (u - from) 0) ≡ label_for a vs bs u
