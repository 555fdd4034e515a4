-- The facts that the model takes from the questions layer hold: proved from that layer's theorems roots-built, roots_on-are, part-built.
--     layers              the facts
use Prim.Native.Nat.{ℕ, suc, ◌<◌}
use mathlib.Core.Path.{◌≡◌, sym, ap, ap₂, ◌∙◌}
use mathlib.Core.Bool.{true}
use mathlib.Core.List.{List, ◌∷◌, ◌++◌}
use mathlib.Core.Option.{some}
use native.Mathlib.Omega.{arith}
use lib.ListN.{length, take, drop, take-append-drop}
use lib.Seq.{drop-cons}
use Rattle.trees.specs.Changes.{changed}
use Rattle.list_laws.specs.Tests.{all_below, holds}
use Rattle.formats.specs.Plan.{plan_tree}
use Rattle.formats.proofs.PlanLaws.{labels-plan_tree}
use Rattle.questions.specs.ready.Members.{roots}
use Rattle.questions.specs.ready.Parts.{Part, nodes_of, states_of, part_of}
use Rattle.questions.proofs.ready.PartsRun.{Members}
use Rattle.questions.proofs.ready.ListLaws.{list-members}
use Rattle.questions.specs.Roots.{roots_on}
use Rattle.questions.specs.Part.{part_on}
use Rattle.questions.specs.Promises.{RootsAre}
use Rattle.questions.proofs.Promised.{all_small}
use Rattle.questions.proofs.RootsLaws.{roots_on-are}
use Rattle.questions.proofs.RootsBuilt as roots-theorem
use Rattle.questions.proofs.PartBuilt as part-theorem
use Rattle.formats.specs.Inputs.{Inputs, Sizes, used_node_table, node_table_built}
use Rattle.questions.specs.PartInputs.{given_of, view_by, SettledInputs, reached_by}
use Rattle.questions.proofs.PartInputsLaws.{tree-size, cells, states-some, states-small, reads}
use Rattle.model.specs.Model.{roots_in}
use Rattle.model.proofs.Facts.{Handled, next_root, Layers}
use Rattle.formats.proofs.InputsLaws.{node-table-built, plan-of}
use Rattle.formats.specs.Passing.{Built}

-- ---- Start

roots-fact : (z : Sizes) (x : Inputs) (vs : List ℕ) → node_table_built z x ≡ true → all_below z.n vs ≡ true
    → RootsAre z.n (length vs) (roots_in x vs)
roots-fact z x vs l a =
    let B : Built z x = node-table-built z x l in
    roots_on-are z.n (used_node_table z x) vs (roots_in x vs) (omega (arith, B.n_is, (plan-of z x B).least)) a
    (ap (λ (n : ℕ). roots_on n (used_node_table z x) vs) (tree-size z x B)
    ∙ roots-theorem.roots-built (plan_tree x.plan) (used_node_table z x) (cells z x B) vs
    (λ v m. omega (arith, tree-size z x B, all_small z.n vs a v m)))

-- ---- advance

module _ (z : Sizes) (y : Inputs) (vs bs : List ℕ) (x : Inputs) (F : SettledInputs z y vs bs x) where
  B : Built z y
  B = node-table-built z y F.built

  module _ (ws : List ℕ) (ps : List Part) (H : Handled z.s (roots_in y ws) ps) (l : length ps < length (roots_in y ws)) where
    -- the roots are those of the parts before, the next one, and the rest
    cut : nodes_of ps ++ (next_root (roots_in y ws) ps ∷ drop (suc (length ps)) (roots_in y ws)) ≡ roots_in y ws
    cut =
        ap₂ (λ (a b : List ℕ). a ++ b) H.nodes (sym (drop-cons (roots_in y ws) (length ps) 0 l))
        ∙ take-append-drop (length ps) (roots_in y ws)

    advance-fact : part_on (view_by z x) (take (length ps) (roots_in y ws)) (states_of ps) vs bs (next_root (roots_in y ws) ps)
        ≡ some (reached_by (part_of (given_of z y x vs bs) (roots_in y ws) ps (next_root (roots_in y ws) ps)))
    unfolding part_of given_of roots
    advance-fact =
        ap (λ (es : List ℕ). part_on (view_by z x) es (states_of ps) vs bs (next_root (roots_in y ws) ps)) (sym H.nodes)
        ∙ part-theorem.part-built (view_by z x) (given_of z y x vs bs) (reads z y vs bs x F) (λ v. holds v ws) (roots_in y ws) members ps (next_root (roots_in y ws) ps)
        (drop (suc (length ps)) (roots_in y ws)) cut (states-small z.s ps (states-some z y B) H.states) vs bs
        (ap (λ (ls : List ℕ). changed ls vs bs) (sym (labels-plan_tree y.plan (plan-of z y B))))
      where
        members : Members (λ v. holds v ws) (plan_tree y.plan) (roots_in y ws)
        members = list-members (λ v. holds v ws) (plan_tree y.plan)

pub layers : Layers
layers = record {
  roots-are = roots-fact;
  part-built = λ z y vs bs x ws ps F H l. advance-fact z y vs bs x F ws ps H l;
}
