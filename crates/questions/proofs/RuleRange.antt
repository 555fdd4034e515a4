-- No value of the inputs of "Parts of a question" leads outside the plan, the states or the labels: there 18 has no
-- cause.
--     reads-in-range
use Rattle.std.proofs.Common.{◌≡◌, ℕ, ◌<◌, true, List, get_or, sym, ap, ◌∙◌, subst, arith}
use Rattle.trees.specs.Tree.{size, labels_of}
use Rattle.trees.specs.Changes as changes
use Rattle.list_laws.specs.Tests.{all_below}
use Rattle.list_laws.proofs.BoolLaws.{true-false}
use Rattle.tables.specs.node_tables.OutOfRange.{NodeTableOutOfRange}
use Rattle.tables.proofs.node_tables.RangeLaws.{children-inside, cells-in-range}
use Rattle.tables.specs.Climbs.{View}
use Rattle.questions.specs.ready.Parts.{Given}
use Rattle.questions.specs.Part.{label_on}
use Rattle.questions.specs.OutOfRange.{PartOutOfRange, links, children, run, map, leaf, rule, handled, label, changed}
use Rattle.questions.specs.Promises.{Reads}

module _ (X : View) (G : Given) (R : Reads X G) (qs vs bs : List ℕ) (good : all_below X.s qs ≡ true)
    (labels : G.labels ≡ changes.changed (labels_of G.tree) vs bs) where
  inside : (v : ℕ) → v < X.n → v < size G.tree
  inside v h = omega (arith, R.count)

  same-labels : (v : ℕ) → label_on X vs bs v ≡ get_or G.labels v 0
  unfolding label_on
  same-labels v = ap (λ (l : List ℕ). get_or l v 0) (ap (λ (l : List ℕ). changes.changed l vs bs) R.labels ∙ sym labels)

  pub reads-in-range : PartOutOfRange X qs vs bs → ⊥
  reads-in-range (links a) =
      cells-in-range G.tree X.node_table R.cells (subst (λ (n : ℕ). NodeTableOutOfRange n X.node_table) R.count a)
  reads-in-range (children v h k c) =
      children-inside G.tree X.node_table R.cells v (inside v h)
      (λ e. k (ap (λ (l : List ℕ). get_or l v 0) R.kinds ∙ e)) c
  reads-in-range (run v h e) = omega (arith, R.run v, R.run_below v (inside v h))
  reads-in-range (map v q h i e) = omega (arith, R.map v q, R.map_below v q (inside v h) i)
  reads-in-range (leaf a h e) = omega (arith, R.leaf a, R.leaf_below a)
  reads-in-range (rule p a q h i j e) = omega (arith, R.inner p a q, R.inner_below p a q)
  reads-in-range (handled e) = true-false (sym good ∙ e)
  reads-in-range (label v h e) = omega (arith, R.label_below v, ap (λ (l : List ℕ). get_or l v 0) R.labels)
  reads-in-range (changed v h e) = omega (arith, R.changed_below v, same-labels v)
