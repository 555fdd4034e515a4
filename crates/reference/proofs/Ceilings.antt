-- Ceilings on what the calls answer of a clean question.
--     part-links        the links of one part are at most three for each binary digit of the plan's height
--     question-links    those of a question, for each of its parts
--     nodes-passed      the nodes passed over: between the links, and the plan's height for each of its parts
--     ready-count       at most 4 m - 2 parts for the m nodes of W, and 1 where it has none
--     parts-never-rise  no more parts than if no listed node were left out
use Prim.Native.Nat.{ℕ, ◌*◌, ◌≤◌, ◌<◌}
use mathlib.Core.Path.{◌≡◌, refl}
use mathlib.Core.Bool.{Bool, true, false, cond}
use mathlib.Core.List.{List, [], ◌∷◌, Memᴰ}
use native.Mathlib.Decide.{ℕ_discrete}
use native.Mathlib.Omega.{arith}
use lib.ListN.{length}
use borrow.Author.Tests.{eq-eqb, ne_eqb}
use Rattle.trees.specs.Tree.{Tree, size, height, kind_at}
use Rattle.trees.specs.Numbering.{depth}
use Rattle.trees.specs.Climb.{digits}
use Rattle.trees.proofs.IntervalLaws.{interval-ancestor, above_at}
use Rattle.trees.proofs.TreeClimbs.{climb-tree, climb-bound}
use Rattle.list_laws.specs.Tests.{all_below, holds}
use Rattle.questions.specs.ready.Ready.{left_child, right_child}
use Rattle.questions.specs.ready.Members.{ready_list, roots}
use Rattle.questions.specs.ready.Parts.{any_below, highest_below, climb_moves, climbed_links, inner_links, part_links, sum_of}
use Rattle.questions.specs.ready.Parts.{question_links, question_passed}
use Rattle.questions.proofs.ready.PassedLaws.{question-passed}
use Rattle.questions.proofs.ready.UnderLaws.{left_in, right_in}
use Rattle.questions.proofs.ready.HighestLaws.{Highest}
use Rattle.questions.proofs.ready.ClosedForm.{kind-one}
use Rattle.questions.proofs.ready.BelowLaws.{some_below}
use Rattle.questions.proofs.ready.PartsRun.{Members}
use Rattle.questions.proofs.ready.ListLaws.{list-members}
use Rattle.questions.specs.Promises.{RootsAre}
use Rattle.formats.specs.Inputs.{Inputs, Sizes, node_table_built}
use Rattle.model.specs.Model.{roots_in}
use Rattle.formats.specs.Plan.{plan_tree, labels_within}
use Rattle.changes.proofs.DifferingLaws.{differing-listed}
use Rattle.questions.proofs.ready.MonotoneLaws.{roots-mono}
use Rattle.reference.specs.Reference.{Question, left_of, part_count}
use Rattle.model.proofs.Facts.{Layers}
use Rattle.reference.specs.Outcomes.{Few}

-- ---- links

module _ (w : ℕ → Bool) (t : Tree) (ms : List ℕ) (M : Members w t ms) where
  climbed : (c : ℕ) → c < size t → any_below ms t c ≡ true → climbed_links t ms c ≤ 3 * digits (height t)
  unfolding climbed_links climb_moves
  climbed c hc e =
      let H : Highest t (λ v. Memᴰ v ms) c (highest_below ms t c) = some_below t c ms M.rising e in
      let hh : highest_below ms t c < size t = M.inside (highest_below ms t c) H.member in
      let d : depth t c ≤ depth t (highest_below ms t c) =
      (above_at t c (highest_below ms t c) hh (interval-ancestor t c (highest_below ms t c) hc hh H.below)).0 in
      let T = climb-tree t (highest_below ms t c) (depth t c) hh d in
      rw T.found (climb-bound t (highest_below ms t c) (depth t c) T.moves hh d T.found)

  inner-links : (l r : ℕ) → l < size t → r < size t → inner_links t ms l r ≤ 3 * digits (height t)
  unfolding inner_links
  inner-links l r hl hr = go (any_below ms t l) (any_below ms t r) refl refl
    where
      go : (b c : Bool) → any_below ms t l ≡ b → any_below ms t r ≡ c
          → cond b (cond c 0 (climbed_links t ms l)) (cond c (climbed_links t ms r) 0) ≤ 3 * digits (height t)
      go true true p q = omega arith
      go true false p q = climbed l hl p
      go false true p q = climbed r hr q
      go false false p q = omega arith

  pub part-links : (v : ℕ) → v < size t → part_links t ms v ≤ 3 * digits (height t)
  unfolding part_links
  part-links v h = elim (ℕ_discrete (kind_at t v) 0) [
    | yes e ↦ rw (eq-eqb (kind_at t v) 0 e) (omega arith)
    | no n ↦ (let k : kind_at t v ≡ 1 = kind-one t v h n in
        rw (ne_eqb (kind_at t v) 0 n)
        (inner-links (left_child t v) (right_child v) (omega (arith, left_in t v h k)) (omega (arith, right_in t v h k))))
  ]

  sum-links : (vs : List ℕ) → ((v : ℕ) → Memᴰ v vs → v < size t)
      → sum_of (part_links t ms) vs ≤ length vs * (3 * digits (height t))
  unfolding sum_of
  sum-links [] f = omega arith
  sum-links (v ∷ vs) f =
      omega (arith, part-links v (f v (mathlib.Core.List.Memᴰ.head refl)), sum-links vs (λ u m. f u (mathlib.Core.List.Memᴰ.tail m)))

-- "Only those climbs count as links": at most three for each binary digit of the plan's height, for each part
pub question-links : (t : Tree) (vs : List ℕ)
    → question_links t (roots t vs) ≤ length (roots t vs) * (3 * digits (height t))
unfolding question_links roots
question-links t vs =
    let w : ℕ → Bool = λ v. holds v vs in
    let M : Members w t (ready_list w t) = list-members w t in
    sum-links w t (ready_list w t) M (ready_list w t) M.inside

-- document 02, S-7: no fewer nodes passed over than links, and at most the plan's height for each part
pub nodes-passed : (t : Tree) (vs : List ℕ)
    → (question_links t (roots t vs) ≤ question_passed t (roots t vs))
    × (question_passed t (roots t vs) ≤ length (roots t vs) * height t)
unfolding roots
nodes-passed t vs = question-passed (λ v. holds v vs) t

-- ---- parts

pub ready-count : Layers → (z : Sizes) (x : Inputs) (vs : List ℕ) → node_table_built z x ≡ true → all_below z.n vs ≡ true
    → Few (length vs) (length (roots_in x vs))
ready-count L z x vs h b =
    let R : RootsAre z.n (length vs) (roots_in x vs) = L.roots-are z x vs h b in
    record { one = R.one; few = λ l. omega (arith, R.few (omega arith)) }

-- document 02, S-5: "parts and advances needed never rise"
pub parts-never-rise : (q : Question) → part_count q ≤ length (roots (plan_tree q.inputs.plan) q.nodes)
parts-never-rise q =
    roots-mono (plan_tree q.inputs.plan) (left_of q) q.nodes
    (differing-listed (labels_within q.inputs.plan) q.nodes q.labels)
