-- Labels changed by a list.
--
-- changed ls vs bs == the labels ls with label bs[i] at node vs[i], entry after entry, so that of two entries for a node the
--   last holds; an entry beyond the labels, or without a partner in the other list, changes nothing
use Rattle.std.specs.Prelude.{ℕ, List, [], ◌∷◌, set}

unfoldable pub changed : List ℕ → List ℕ → List ℕ → List ℕ
changed ls [] bs = ls
changed ls (v ∷ vs) [] = ls
changed ls (v ∷ vs) (b ∷ bs) = changed (set ls v b) vs bs
