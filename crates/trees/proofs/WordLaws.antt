-- The two words of a branch question: with the upper node's label and without it.
--     word_below        they differ by the upper node's label, which comes first
--     lower_word-same    the same node twice is the empty word
use Prim.Native.Nat.{ℕ, ◌+◌, ◌-◌, ◌<◌}
use mathlib.Core.Path.{◌≡◌, ap, ◌∙◌}
use mathlib.Core.List.{List, [], ◌∷◌, ◌++◌}
use native.Mathlib.Omega.{arith}
use Rattle.trees.specs.Tree.{Tree, size, label_at}
use Rattle.trees.specs.Numbering.{depth, ancestor, labels_down, word, lower_word, AtOrBelow}
use Rattle.trees.proofs.IntervalLaws.{above_at}
use Rattle.trees.proofs.BranchMapLaws.{labels_down-one, labels_down-add}

pub word_below : (t : Tree) (u v : ℕ) → v < size t → AtOrBelow t u v → word t u v ≡ label_at t u ∷ lower_word t u v
unfolding word lower_word
word_below t u v h a =
    let n : ℕ = depth t v - depth t u in
    labels_down-add t v n 1
    ∙ ap (λ (x : ℕ). labels_down t x 1 ++ labels_down t v n) (above_at t u v h a).1
    ∙ ap (λ (w : List ℕ). w ++ labels_down t v n) (labels_down-one t u)

pub lower_word-same : (t : Tree) (v : ℕ) → lower_word t v v ≡ []
unfolding lower_word labels_down
lower_word-same t v = let e : depth t v - depth t v ≡ 0 = omega arith in ap (labels_down t v) e
