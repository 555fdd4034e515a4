-- Nodes passed over by the climbs of a question (document 02, S-7), for any set of listed nodes.
--     climbed-passed        what a part's climb passes over is what the moves of the defined climb pass over
--     part-passed           of each part: no fewer than its links, no more than the plan is high
--     question-passed       of a question: no fewer than its links, no more than the plan is high for each part
--     passed-more, from-passed, whole-passed   the total over parts worked out one after the other
use Rattle.std.proofs.Common.{◌≡◌, ℕ, ◌+◌, ◌*◌, ◌<◌, ◌≤◌, Bool, true, false, cond, List, [], ◌∷◌, ◌++◌, length, sym, refl, arith, eq-eqb, ne_eqb}
use mathlib.Core.List.{Memᴰ}
use native.Mathlib.Decide.{ℕ_discrete}
use Rattle.trees.specs.Tree.{Tree, size, height, kind_at}
use Rattle.trees.specs.Numbering.{depth}
use Rattle.trees.specs.Climb.{forest_of}
use Rattle.trees.specs.Passed.{passed_by}
use Rattle.trees.proofs.IntervalLaws.{interval-ancestor, above_at}
use Rattle.trees.proofs.TreeClimbs.{climb-tree}
use Rattle.trees.proofs.PassedLaws.{links_passed, climb-passed, passed-height}
use Rattle.questions.specs.ready.Ready.{left_child, right_child}
use Rattle.questions.specs.ready.Members.{ready_list}
use Rattle.questions.specs.ready.Parts.{Given, any_below, highest_below, climb_moves, climbed_links, inner_links, part_links}
use Rattle.questions.specs.ready.Parts.{sum_of, question_links, climbed_passed, inner_passed, part_passed, question_passed, Part}
use Rattle.questions.specs.ready.Parts.{part_of, parts_from, parts_of, all_passed}
use Rattle.questions.proofs.ready.UnderLaws.{left_in, right_in}
use Rattle.questions.proofs.ready.HighestLaws.{Highest}
use Rattle.questions.proofs.ready.ClosedForm.{kind-one}
use Rattle.questions.proofs.ready.BelowLaws.{some_below}
use Rattle.questions.proofs.ready.PartsRun.{Members}
use Rattle.questions.proofs.ready.ListLaws.{list-members}

-- at least as many as the links n, at most the height
abbrev pub Passing : Tree → ℕ → ℕ → Type 0
Passing t n p = (n ≤ p) × (p ≤ height t)

module _ (w : ℕ → Bool) (t : Tree) (ms : List ℕ) (M : Members w t ms) where
  -- ---- one climb

  module _ (c : ℕ) (hc : c < size t) (e : any_below ms t c ≡ true) where
    highest : Highest t (λ v. Memᴰ v ms) c (highest_below ms t c)
    highest = some_below t c ms M.rising e

    start-in : highest_below ms t c < size t
    start-in = M.inside (highest_below ms t c) highest.member

    start-deep : depth t c ≤ depth t (highest_below ms t c)
    start-deep =
        (above_at t c (highest_below ms t c) start-in
        (interval-ancestor t c (highest_below ms t c) hc start-in highest.below)).0

    pub climbed-passed : climbed_passed t ms c
        ≡ passed_by (forest_of t) (highest_below ms t c) (climb_moves t (highest_below ms t c) c)
    unfolding climbed_passed climb_moves
    climbed-passed =
        let T = climb-tree t (highest_below ms t c) (depth t c) start-in start-deep in
        rw T.found (sym (climb-passed t (highest_below ms t c) (depth t c) T.moves start-in start-deep T.found))

    pub climbed-passing : Passing t (climbed_links t ms c) (climbed_passed t ms c)
    unfolding climbed_links climb_moves
    climbed-passing =
        let h : ℕ = highest_below ms t c in
        let T = climb-tree t h (depth t c) start-in start-deep in
        rw (climbed-passed, T.found) (
          links_passed (forest_of t) h (depth t c) T.moves T.found,
          passed-height t h (depth t c) T.moves start-in start-deep T.found,
        )

  -- ---- one part

  inner-passing : (l r : ℕ) → l < size t → r < size t → Passing t (inner_links t ms l r) (inner_passed t ms l r)
  unfolding inner_links inner_passed
  inner-passing l r hl hr = go (any_below ms t l) (any_below ms t r) refl refl
    where
      go : (b c : Bool) → any_below ms t l ≡ b → any_below ms t r ≡ c
          → Passing t (cond b (cond c 0 (climbed_links t ms l)) (cond c (climbed_links t ms r) 0))
          (cond b (cond c 0 (climbed_passed t ms l)) (cond c (climbed_passed t ms r) 0))
      go true true p q = (omega arith, omega arith)
      go true false p q = climbed-passing l hl p
      go false true p q = climbed-passing r hr q
      go false false p q = (omega arith, omega arith)

  pub part-passed : (v : ℕ) → v < size t → Passing t (part_links t ms v) (part_passed t ms v)
  unfolding part_links part_passed
  part-passed v h = elim (ℕ_discrete (kind_at t v) 0) [
    | yes e ↦ rw (eq-eqb (kind_at t v) 0 e) (omega arith, omega arith)
    | no n ↦ (let k : kind_at t v ≡ 1 = kind-one t v h n in
        rw (ne_eqb (kind_at t v) 0 n)
        (inner-passing (left_child t v) (right_child v) (omega (arith, left_in t v h k))
        (omega (arith, right_in t v h k))))
  ]

  -- ---- several parts

  sum-passed : (vs : List ℕ) → ((v : ℕ) → Memᴰ v vs → v < size t)
      → (sum_of (part_links t ms) vs ≤ sum_of (part_passed t ms) vs) × (sum_of (part_passed t ms) vs ≤ length vs * height t)
  unfolding sum_of
  sum-passed [] f = (omega arith, omega arith)
  sum-passed (v ∷ vs) f =
      let p = part-passed v (f v (Memᴰ.head refl)) in
      let q = sum-passed vs (λ u m. f u (Memᴰ.tail m)) in
      (omega (arith, p.0, q.0), omega (arith, p.1, q.1))

-- a question whose listed nodes are those that w holds of
pub question-passed : (w : ℕ → Bool) (t : Tree)
    → (question_links t (ready_list w t) ≤ question_passed t (ready_list w t))
    × (question_passed t (ready_list w t) ≤ length (ready_list w t) * height t)
unfolding question_links question_passed
question-passed w t =
    let M : Members w t (ready_list w t) = list-members w t in
    sum-passed w t (ready_list w t) M (ready_list w t) M.inside

-- ---- parts worked out one after the other

pub passed-more : (ps : List Part) (p : Part) → all_passed (ps ++ (p ∷ [])) ≡ all_passed ps + p.passed
unfolding all_passed
passed-more [] p = omega arith
passed-more (x ∷ ps) p = omega (arith, passed-more ps p)

module _ (G : Given) (ms : List ℕ) where
  pub from-passed : (ps : List Part) (vs : List ℕ)
      → all_passed (parts_from G ms ps vs) ≡ all_passed ps + sum_of (part_passed G.tree ms) vs
  unfolding parts_from part_of sum_of
  from-passed ps [] = omega arith
  from-passed ps (v ∷ vs) =
      omega (arith, from-passed (ps ++ (part_of G ms ps v ∷ [])) vs, passed-more ps (part_of G ms ps v))

  -- "Question .. answers carry the total over their climbs"
  pub whole-passed : all_passed (parts_of G ms) ≡ question_passed G.tree ms
  unfolding parts_of question_passed all_passed
  whole-passed = omega (arith, from-passed [] ms)
