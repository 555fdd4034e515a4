-- How many choices clear the plan (document 02, S-10): the main theorems, each with the sentence that it renders.
--     sum-is-the-power    "their sum is K to the power m"
--     parts-are-tried     "the counts are those of the definition by trying all" and "are reckoned part by part"
--     none_open           "With no open node the run's own state has count 1."
--     total-fits, count_fits   no total and no count of any part is above K to the power m
-- "the parts and links told are those of a question": they are `roots` and `question_links` of questions/ready, as there.
use Prim.Native.Nat.{ℕ, ◌+◌, ◌^◌, ◌≤◌, ◌<◌}
use mathlib.Core.Path.{◌≡◌, ap}
use mathlib.Core.Bool.{true}
use mathlib.Core.List.{List, []}
use native.Mathlib.Omega.{arith}
use lib.ListN.{length}
use Rattle.trees.specs.Tree.{Tree, size, labels_of}
use Rattle.trees.specs.Automaton.{Automaton, state}
use Rattle.trees.specs.Changes.{changed}
use Rattle.trees.proofs.PostorderLaws.{tree_of-is}
use Rattle.list_laws.specs.Tests.{all_below, holds, distinct}
use Rattle.questions.specs.ready.Members.{roots}
use Rattle.questions.specs.ready.Parts.{Given}
use Rattle.questions.specs.ready.StaysInside.{StaysInside}
use Rattle.questions.specs.ready.RunGiven.{RunGiven}
use Rattle.questions.proofs.ready.ListLaws.{list-members}
use Rattle.choices.specs.assignments.Assignments.{assignments, how_many, counted}
use Rattle.choices.specs.assignments.Sums.{sum_to, open_sum, one}
use Rattle.choices.specs.assignments.PartCounts.{count_for, tallies}
use Rattle.choices.specs.assignments.inner.Weights.{weighed_at}
use Rattle.choices.proofs.assignments.TriedAll.{counted-sum}
use Rattle.choices.proofs.assignments.CountedParts.{counts-by-parts}
use Rattle.choices.proofs.assignments.Vectors.{total}
use Rattle.choices.proofs.assignments.Bounds as bounds

pub sum-is-the-power : (A : Automaton) → StaysInside A → (k : ℕ) (t : Tree) (vs : List ℕ)
    → sum_to A.states (counted A k t vs) ≡ k ^ length vs
sum-is-the-power A S = counted-sum A S.init S.next

-- on the run's own states and maps, for different nodes of the plan, at the plan's root
pub parts-are-tried : (G : Given) → RunGiven G G.tree → StaysInside G.automaton → (k : ℕ) (vs : List ℕ)
    → all_below (size G.tree) vs ≡ true → distinct vs ≡ true → (v s : ℕ) → v + 1 ≡ size G.tree
    → s < G.automaton.states
    → count_for (tallies G k (λ u. holds u vs) (roots G.tree vs)) v s ≡ counted G.automaton k G.tree vs s
unfolding roots
parts-are-tried G R S k vs inside different =
    counts-by-parts G R S k vs _ (list-members (λ u. holds u vs) G.tree) inside different

pub none_open : (A : Automaton) (k : ℕ) (t : Tree) (s : ℕ) → counted A k t [] s ≡ one s (state A t)
unfolding counted assignments how_many changed
none_open A k t s = let e = ap (λ (u : Tree). one s (state A u)) (tree_of-is t) in omega (arith, e)

-- the total of a node is the weight of 1, so the sum of its counts
pub total-fits : (A : Automaton) → StaysInside A → (k : ℕ) → 1 ≤ k → (t : Tree) (vs : List ℕ) → all_below (size t) vs ≡ true
    → distinct vs ≡ true → (v : ℕ) → v < size t
    → weighed_at A (open_sum k (λ u. holds u vs) (labels_of t)) t v (λ c. 1) ≤ k ^ length vs
unfolding total
total-fits A S = bounds.total-fits A S.init S.next

pub count_fits : (A : Automaton) → StaysInside A → (k : ℕ) → 1 ≤ k → (t : Tree) (vs : List ℕ) → all_below (size t) vs ≡ true
    → distinct vs ≡ true → (v s : ℕ) → v < size t → s < A.states
    → weighed_at A (open_sum k (λ u. holds u vs) (labels_of t)) t v (one s) ≤ k ^ length vs
count_fits A S = bounds.counts-fit A S.init S.next
