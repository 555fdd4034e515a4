-- What Colours and ColourSets cite of the searches.
--     word-few                a branch question's searches take at most 45 links each
--     part-drops, part-sixty  a part has one search for each of its drops on the tree: at most 60 where it is
--                             one-sided, none elsewhere
--     all-drops               so of all parts together
use Prim.Native.Nat.{ℕ, ◌+◌, ◌-◌, ◌*◌, ◌≤◌, ◌<◌}
use mathlib.Core.Path.{◌≡◌, refl, ap, ap₂, ◌∙◌, subst}
use mathlib.Core.Bool.{Bool, true, false, cond, not}
use mathlib.Core.List.{List, [], ◌∷◌, ◌++◌, append-nil, Memᴰ}
use mathlib.Core.Option.{some}
use native.Mathlib.Decide.{ℕ_discrete}
use native.Mathlib.Omega.{arith}
use lib.ListN.{length, length-append}
use borrow.Author.Tests.{eq-eqb, ne_eqb}
use Rattle.trees.specs.Tree.{Tree, size, kind_at}
use Rattle.trees.specs.Automaton.{Automaton, WordAutomaton, state}
use Rattle.trees.specs.Numbering.{sub, depth, AtOrBelow}
use Rattle.trees.proofs.RunLaws.{state_below}
use Rattle.trees.proofs.IntervalLaws.{interval-ancestor, above_at}
use Rattle.branches.specs.declared.answers.Reading.{Reading}
use Rattle.branches.specs.declared.answers.Reading.TheVariants.{WithUpper, BelowUpper}
use Rattle.questions.specs.ready.Ready.{left_child, right_child}
use Rattle.questions.specs.ready.Members.{Rising}
use Rattle.questions.specs.ready.Parts.{any_below, highest_below, sum_of}
use Rattle.questions.specs.ready.StaysInside.{StaysInside}
use Rattle.questions.proofs.ready.BelowLaws.{some_below}
use Rattle.questions.proofs.ready.ClosedForm.{kind-one}
use Rattle.questions.proofs.ready.HighestLaws.{Highest}
use Rattle.questions.proofs.ready.UnderLaws.{left_in, right_in}
use Rattle.colours.specs.marks.Marks.{bit}
use Rattle.colours.specs.Descents.{Descent}
use Rattle.colours.specs.Descents.{AllLe}
use Rattle.colours.proofs.Theorems.{word-upper, word_below, links-limit, set-targets}
use Rattle.colours.specs.Answers.{SetAnswer}
use Rattle.colour_questions.specs.branch.Promise.{word_descent}
use Rattle.colour_questions.specs.parts.Searches.{found_searches, climb_searches, side_searches, part_searches, gathered}
use Rattle.colour_questions.specs.parts.OneSided.{is_one_sided}
use Rattle.claims.specs.ColourAnswers.{side_drops, part_drops}

-- ---- words

pub word-few : (reading : Reading) (B : WordAutomaton) (t : Tree) → ((q a : ℕ) → B.step q a < B.states)
    → size t ≤ 65535 → (u l : ℕ) → l < size t → AtOrBelow t u l → (way : Descent)
    → word_descent reading B t u l ≡ some way → AllLe 45 way.searches
word-few WithUpper B t below small u l h A way e =
    let W = word-upper B t below u l h A in
    let i : W.way ≡ way = cc (e, W.found) in
    subst (λ (d : Descent). AllLe 45 d.searches) i (links-limit t W.way.searches small W.few)
word-few BelowUpper B t below small u l h A way e =
    let W = word_below B t below u l h A in
    let i : W.way ≡ way = cc (e, W.found) in
    subst (λ (d : Descent). AllLe 45 d.searches) i (links-limit t W.way.searches small W.few)

-- ---- parts

-- the two sides of a part: searches only where members are below one child only
sides-length : (c d : Bool) (xs ys : List ℕ) (m n : ℕ) → (c ≡ true → length xs ≡ m) → (d ≡ true → length ys ≡ n)
    → length (cond c (cond d [] xs) [] ++ cond d (cond c [] ys) []) ≡ cond c (cond d 0 m) (cond d n 0)
sides-length true true xs ys m n f g = refl
sides-length true false xs ys m n f g = ap length (append-nil xs) ∙ f refl
sides-length false true xs ys m n f g = g refl
sides-length false false xs ys m n f g = refl

sides-most : (c d : Bool) (m n : ℕ) → (c ≡ true → m ≤ 60) → (d ≡ true → n ≤ 60)
    → cond c (cond d 0 m) (cond d n 0) ≤ 60 * bit (cond c (not d) d)
sides-most true true m n f g = omega arith
sides-most true false m n f g = omega (arith, f refl)
sides-most false true m n f g = omega (arith, g refl)
sides-most false false m n f g = omega arith

module _ (A : Automaton) (t u : Tree) (S : StaysInside A) (four : A.states ≤ 4) (ms : List ℕ) (rising : Rising 0 ms)
    (inside : (v : ℕ) → Memᴰ v ms → v < size t) where
  -- the trials at a child with a member below
  trials : (c : ℕ) → c < size t → any_below ms t c ≡ true
      → SetAnswer A t c (highest_below ms t c) (depth t (highest_below ms t c) - depth t c)
      (state A (sub u (highest_below ms t c)))
  trials c hc a =
      let h : ℕ = highest_below ms t c in
      let H : Highest t (λ x. Memᴰ x ms) c h = some_below t c ms rising a in
      let hh : h < size t = inside h H.member in
      let w = above_at t c h hh (interval-ancestor t c h hc hh H.below) in
      set-targets A t S.next four c h (depth t h - depth t c) (state A (sub u h)) hh (omega arith) w.1
      (state_below A S.init S.next (sub u h))

  side-drops : (c : ℕ) → c < size t → any_below ms t c ≡ true
      → length (climb_searches A t u ms c) ≡ side_drops A t u ms c
  unfolding climb_searches side_drops
  side-drops c hc a =
      let T = trials c hc a in
      ap (λ (l : List ℕ). length l) (ap found_searches T.found) ∙ T.drops_are

  side-sixty : (c : ℕ) → c < size t → any_below ms t c ≡ true → side_drops A t u ms c ≤ 60
  unfolding side_drops
  side-sixty c hc a = let T = trials c hc a in omega (arith, T.drops_are, T.falls)

  module _ (v : ℕ) (m : Memᴰ v ms) where
    left_inside : (kind_at t v ≡ 0 → ⊥) → left_child t v < size t
    left_inside e =
        omega (arith, inside v m, left_in t v (inside v m) (kind-one t v (inside v m) e))

    right_inside : (kind_at t v ≡ 0 → ⊥) → right_child v < size t
    right_inside e =
        omega (arith, inside v m, right_in t v (inside v m) (kind-one t v (inside v m) e))

    pub part-drops : length (part_searches A t u ms v) ≡ part_drops A t u ms v
    unfolding part_searches side_searches part_drops
    part-drops = elim (ℕ_discrete (kind_at t v) 0) [
      | yes e ↦ rw (eq-eqb (kind_at t v) 0 e)
      | no e ↦ rw (ne_eqb (kind_at t v) 0 e)
          (sides-length (any_below ms t (left_child t v)) (any_below ms t (right_child v))
          (climb_searches A t u ms (left_child t v)) (climb_searches A t u ms (right_child v))
          (side_drops A t u ms (left_child t v)) (side_drops A t u ms (right_child v))
          (side-drops (left_child t v) (left_inside e)) (side-drops (right_child v) (right_inside e)))
    ]

    pub part-sixty : part_drops A t u ms v ≤ 60 * bit (is_one_sided t ms v)
    unfolding part_drops is_one_sided
    part-sixty = elim (ℕ_discrete (kind_at t v) 0) [
      | yes e ↦ rw (eq-eqb (kind_at t v) 0 e) (omega arith)
      | no e ↦ rw (ne_eqb (kind_at t v) 0 e)
          (sides-most (any_below ms t (left_child t v)) (any_below ms t (right_child v))
          (side_drops A t u ms (left_child t v)) (side_drops A t u ms (right_child v))
          (side-sixty (left_child t v) (left_inside e)) (side-sixty (right_child v) (right_inside e)))
    ]

  pub all-drops : (vs : List ℕ) → ((v : ℕ) → Memᴰ v vs → Memᴰ v ms)
      → length (gathered (part_searches A t u ms) vs) ≡ sum_of (part_drops A t u ms) vs
  unfolding gathered sum_of
  all-drops [] f = refl
  all-drops (v ∷ vs) f =
      length-append (part_searches A t u ms v) (gathered (part_searches A t u ms) vs)
      ∙ ap₂ (λ (x y : ℕ). x + y) (part-drops v (f v (mathlib.Core.List.Memᴰ.head refl)))
      (all-drops vs (λ w k. f w (mathlib.Core.List.Memᴰ.tail k)))
