-- What all parts come to, for any inputs.
--     Bounds, bounds-add     so many parts: a state, the links of one climb each, and the nodes that it passed over
--     handled-bounds         of all parts
--     without-handled        a cause of 18 that is none of the states handled before
--     handled-none           where a part has no result, a value leads outside or a link does not rise
use Prim.Native.Nat.{ℕ, suc, ◌+◌, ◌*◌, ◌≤◌, ◌<◌}
use mathlib.Core.Path.{◌≡◌, refl, sym, ◌∙◌, subst}
use mathlib.Core.Bool.{true}
use mathlib.Core.List.{List, [], ◌∷◌, ◌++◌}
use mathlib.Core.Option.{Option, none, some, some-injective}
use native.Mathlib.Omega.{arith}
use lib.ListN.{length, get_or}
use Rattle.list_laws.specs.Tests.{all_below}
use Rattle.list_laws.proofs.BoolLaws.{true-false}
use Rattle.trees.specs.Climb.{and_then}
use Rattle.trees.proofs.MoveLaws.{none-some}
use Rattle.tables.specs.node_tables.Cells.{depth_cell}
use Rattle.tables.specs.declared.answers.Reached.{Reached}
use Rattle.tables.specs.Climbs.{View, reached}
use Rattle.tables.proofs.ClimbBounds.{Bounded}
use Rattle.questions.specs.Part.{part_on}
use Rattle.questions.specs.OutOfRange.{PartOutOfRange, links, children, run, map, leaf, rule, handled, label, changed}
use Rattle.questions.proofs.PartBounds.{part-bounded}
use Rattle.questions.proofs.PartRange.{part-out-of-range}
use Rattle.whole_questions.specs.Question.{totalled, handled_from}
use Rattle.questions.proofs.PartListLaws.{below_more}

module _ (X : View) where
  -- x is the total of c parts
  pub record Bounds (c : ℕ) (x : Reached) : Type 0 where
    pub state : 0 < c → x.state < X.s
    pub links_most : x.links ≤ c * X.n
    pub links_passed : x.links ≤ x.passed
    pub passed_most : (d : ℕ) → ((v : ℕ) → depth_cell X.node_table v ≤ d) → x.passed ≤ c * d

  pub bounds-none : Bounds 0 (reached 0 0 0)
  bounds-none = record {
    state = λ h. absurd (omega arith);
    links_most = omega arith;
    links_passed = omega arith;
    passed_most = λ d b. omega arith;
  }

  bounds-add : (c : ℕ) (x y : Reached) → Bounds c x → Bounded X y → Bounds (suc c) (totalled x y)
  bounds-add c x y B Y = record {
    state = λ h. Y.state;
    links_most = omega (arith, B.links_most, Y.links);
    links_passed = omega (arith, B.links_passed, Y.links_passed);
    passed_most = λ d b. omega (arith, B.passed_most d b, Y.passed d b);
  }

  module _ (vs bs : List ℕ) where
    pub handled-bounds : (ms es qs : List ℕ) (c : ℕ) (x y : Reached) → Bounds c x
        → handled_from X vs bs es qs x ms ≡ some y → Bounds (c + length ms) y
    unfolding handled_from
    handled-bounds [] es qs c x y B e =
        let z : c ≡ c + 0 = omega arith in
        subst (λ (j : ℕ). Bounds j y) z (subst (λ (w : Reached). Bounds c w) (some-injective x y e) B)
    handled-bounds (v ∷ ms) es qs c x y B e =
        go (part_on X es qs vs bs v) refl e (λ a b w D. handled-bounds ms a b (suc c) w y D)
      where
        go : (o : Option Reached) → part_on X es qs vs bs v ≡ o
            → and_then o (λ w. handled_from X vs bs (es ++ (v ∷ [])) (qs ++ (w.state ∷ [])) (totalled x w) ms) ≡ some y
            → ((a b : List ℕ) (w : Reached) → Bounds (suc c) w → handled_from X vs bs a b w ms ≡ some y
            → Bounds (suc c + length ms) y)
            → Bounds (c + suc (length ms)) y
        go none q i ih = absurd (none-some i)
        go (some w) q i ih =
            let z : suc c + length ms ≡ c + suc (length ms) = omega arith in
            subst (λ (j : ℕ). Bounds j y) z
            (ih (es ++ (v ∷ [])) (qs ++ (w.state ∷ [])) (totalled x w)
            (bounds-add c x w B (part-bounded X es qs vs bs v w q)) i)

    -- ---- 18

    abbrev Lost : Type 0
    Lost = PartOutOfRange X [] vs bs

    without-handled : (qs : List ℕ) → all_below X.s qs ≡ true → PartOutOfRange X qs vs bs → Lost
    without-handled qs b (links x) = links x
    without-handled qs b (children v h i c) = children v h i c
    without-handled qs b (run v h i) = run v h i
    without-handled qs b (map v q h i j) = map v q h i j
    without-handled qs b (leaf a h i) = leaf a h i
    without-handled qs b (rule l a q h i j k) = rule l a q h i j k
    without-handled qs b (handled e) = absurd (true-false (sym b ∙ e))
    without-handled qs b (label v h i) = label v h i
    without-handled qs b (changed v h i) = changed v h i

    pub handled-none : (ms es qs : List ℕ) (x : Reached) → all_below X.s qs ≡ true
        → ((i : ℕ) → i < length ms → get_or ms i 0 < X.n) → handled_from X vs bs es qs x ms ≡ none → Lost
    unfolding handled_from
    handled-none [] es qs x b h e = absurd (none-some (sym e))
    handled-none (v ∷ ms) es qs x b h e = go (part_on X es qs vs bs v) refl e (λ a c w. handled-none ms a c w)
      where
        go : (o : Option Reached) → part_on X es qs vs bs v ≡ o
            → and_then o (λ w. handled_from X vs bs (es ++ (v ∷ [])) (qs ++ (w.state ∷ [])) (totalled x w) ms) ≡ none
            → ((a c : List ℕ) (w : Reached) → all_below X.s c ≡ true → ((i : ℕ) → i < length ms → get_or ms i 0 < X.n)
            → handled_from X vs bs a c w ms ≡ none → Lost)
            → Lost
        go none q i ih = without-handled qs b (part-out-of-range X qs vs bs es v (h 0 (omega arith)) q)
        go (some w) q i ih =
            ih (es ++ (v ∷ [])) (qs ++ (w.state ∷ [])) (totalled x w)
            (below_more X.s qs w.state b (part-bounded X es qs vs bs v w q).state) (λ j k. h (suc j) (omega arith)) i
