-- Changes that change nothing (document 02, S-5).
--
-- changing ls l == of the entries l those whose label is not the one that their node has in the labels ls (0 past their
--   end)
-- differing ls vs bs == the nodes that a list leaves in W: those of the list after superseding whose label is not the
--   plan's, rising
-- differs ls vs bs v == the same as a test on nodes: v is listed, and its label as changed is another than before
--
-- Nodes are left out, not entries: a node whose last entry gives it its own label is no change, regardless of earlier
-- entries. That `differing` lists exactly the nodes that `differs` holds of is differing-is (proofs/DifferingLaws).
use Rattle.std.specs.Prelude.{ℕ, Bool, cond, not, ◌&&◌, List, [], ◌∷◌, eqb, get_or}
use Rattle.list_laws.specs.Tests.{holds}
use Rattle.trees.specs.Changes.{changed}
use Rattle.changes.specs.Entries.{Entry, entries, nodes_listed, superseded}

unfoldable pub changing : List ℕ → List Entry → List Entry
changing ls [] = []
changing ls (e ∷ l) = cond (eqb e.label (get_or ls e.node 0)) (changing ls l) (e ∷ changing ls l)

-- "A listed node whose label equals the plan's is left out of W from now on, after superseding."
unfoldable pub differing : List ℕ → List ℕ → List ℕ → List ℕ
differing ls vs bs = nodes_listed (changing ls (superseded (entries vs bs)))

unfoldable pub differs : List ℕ → List ℕ → List ℕ → ℕ → Bool
differs ls vs bs v = holds v vs && not (eqb (get_or (changed ls vs bs) v 0) (get_or ls v 0))
