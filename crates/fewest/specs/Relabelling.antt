-- Other labels for a plan, and how many of them differ.
--
-- differences ls bs == at how many places the lists ls and bs differ
-- permitted k may v ls bs == whether bs are labels below k that differ from ls only where `may` says so: node v + i may
--   take the label bs[i]. `may` holds what the panel allows (open nodes, burs at hand); a node may always keep its
--   label
-- Relabelling k may t u == u is the tree t with such other labels: the same kinds
-- changed_nodes v ls bs, changed_labels ls bs == the list of changes that makes bs of ls: nodes, rising from v on, and
--   their labels
--
-- every_label == the set of all labels below 64
-- stock_of may v == the set of labels that node v may take, of a list with one for each node; all where it is empty
--
-- Of lists that are not of one length only the places that both have count.
use Rattle.std.specs.Prelude.{ℕ, ◌+◌, ◌≡◌, Bool, true, cond, ◌&&◌, ◌||◌, List, [], ◌∷◌, eqb, ltb, length, get_or}
use Rattle.trees.specs.Tree.{Tree, kinds_of, labels_of}

-- 1 where the labels differ
abbrev pub differ : ℕ → ℕ → ℕ
differ a b = cond (eqb a b) 0 1

unfoldable pub differences : List ℕ → List ℕ → ℕ
differences [] bs = 0
differences (a ∷ ls) [] = 0
differences (a ∷ ls) (b ∷ bs) = differ a b + differences ls bs

abbrev pub may_take : ℕ → (ℕ → ℕ → Bool) → ℕ → ℕ → ℕ → Bool
may_take k may v a b = ltb b k && (eqb a b || may v b)

unfoldable pub permitted : ℕ → (ℕ → ℕ → Bool) → ℕ → List ℕ → List ℕ → Bool
permitted k may v [] bs = true
permitted k may v (a ∷ ls) [] = true
permitted k may v (a ∷ ls) (b ∷ bs) = may_take k may v a b && permitted k may (v + 1) ls bs

pub record Relabelling (k : ℕ) (may : ℕ → ℕ → Bool) (t u : Tree) : Type 0 where
  pub kinds : kinds_of u ≡ kinds_of t
  pub labels : permitted k may 0 (labels_of t) (labels_of u) ≡ true

unfoldable pub changed_nodes : ℕ → List ℕ → List ℕ → List ℕ
changed_nodes v [] bs = []
changed_nodes v (a ∷ ls) [] = []
changed_nodes v (a ∷ ls) (b ∷ bs) = cond (eqb a b) (changed_nodes (v + 1) ls bs) (v ∷ changed_nodes (v + 1) ls bs)

unfoldable pub changed_labels : List ℕ → List ℕ → List ℕ
changed_labels [] bs = []
changed_labels (a ∷ ls) [] = []
changed_labels (a ∷ ls) (b ∷ bs) = cond (eqb a b) (changed_labels ls bs) (b ∷ changed_labels ls bs)

abbrev pub every_label : ℕ
every_label = 18446744073709551615

unfoldable pub stock_of : List ℕ → ℕ → ℕ
stock_of may v = cond (eqb (length may) 0) every_label (get_or may v 0)
