-- The answer of a branch question by colours where 17, 13 and 16 pass, step by step.
--     answer-outside   the copy in which the word begins is outside the plan
--     answer-no-start  no colour has state 0 there
--     answer-lost      the way down is lost
--     answer-end       else what is answered at its end
use Prim.Native.Nat.{ℕ, ◌+◌, ◌*◌, ◌≤◌, ◌<◌}
use mathlib.Core.Path.{◌≡◌, refl, sym, ap, ap₂, ◌∙◌}
use mathlib.Core.Bool.{Bool, true, false, cond}
use mathlib.Core.List.{List}
use mathlib.Core.Option.{Option, none, some}
use native.Mathlib.Omega.{arith}
use lib.Dec.{ltb}
use lib.ListN.{get_or}
use Rattle.std.specs.Prelude.{Option as Given, Some, None}
use borrow.Author.Tests.{lt-ltb, le-ltb}
use Rattle.trees.specs.Automaton.{WordAutomaton}
use Rattle.trees.specs.Climb.{and_then}
use Rattle.formats.specs.Plan.{node_count}
use Rattle.formats.specs.Rules.{state_count, branch_marks, branch_automaton}
use Rattle.tables.specs.Climbs.{below}
use Rattle.branches.specs.declared.answers.Reading.{Reading}
use Rattle.colours.specs.Descents.{Place, Descent, drops, links, descend}
use Rattle.colour_tables.specs.ColourCells.{cell_table}
use Rattle.colour_tables.proofs.RangeLaws.{descend-low}
use Rattle.colour_questions.specs.declared.path_drops.descend.Descended.{Descended}
use Rattle.colour_questions.specs.path_drops.Descended.{descended_of}
use Rattle.colour_questions.proofs.path_drops.DescendedLaws.{descended-none, descended-some}
use Rattle.colour_questions.specs.declared.branch.answers.ColourAsked.{ColourAsked}
use Rattle.colour_questions.specs.branch.Question.{start_on, colour_in, coloured, coloured_on, colour_answer}
use Rattle.colour_questions.specs.branch.inner.Steps.{place_at, numbered_place, finish_on}

-- a value that is there is handed on, one that is not ends it
pub on_some : {X Y : Type 0} (o : Option X) (x : X) (f : X → Option Y) → o ≡ some x → and_then o f ≡ f x
on_some o x f e = ap (λ (y : Option _). and_then y f) e

pub on_none : {X Y : Type 0} (o : Option X) (f : X → Option Y) → o ≡ none → and_then o f ≡ none
on_none o f e = ap (λ (y : Option _). and_then y f) e

pub below-no : (s x : ℕ) → s ≤ x → below s x ≡ none
unfolding below
below-no s x h = rw (le-ltb x s h)

pub below-yes : (s x : ℕ) → x < s → below s x ≡ some x
unfolding below
below-yes s x h = rw (lt-ltb x s h)

-- the rest of the question, from a copy on, and from a colour on
abbrev pub from_end : ℕ → WordAutomaton → List ℕ → ℕ → Descent → Option ColourAsked
from_end s B bytes l d =
    and_then (below s (get_or bytes (l * s + d.colour) 0)) (λ q. some (coloured B q (drops d) (links d)))

abbrev pub from_colour : ℕ → ℕ → WordAutomaton → List ℕ → List ℕ → ℕ → Place → ℕ → Option ColourAsked
from_colour n s B numbers bytes l z c = and_then (descend (cell_table n numbers) c z l c) (from_end s B bytes l)

abbrev pub from_place_on : ℕ → ℕ → WordAutomaton → List ℕ → List ℕ → ℕ → Place → Option ColourAsked
from_place_on n s B numbers bytes l z = and_then (colour_in s bytes z) (from_colour n s B numbers bytes l z)

-- what the code answers at the end is the rest of the question
finish-is : (s : ℕ) (r bytes : List ℕ) (l : ℕ) (y : Descent) (t : Bool) → ltb (get_or bytes (l * s + y.colour) 0) s ≡ t
    → finish_on s (branch_marks r) bytes l y.colour (drops y) (links y)
    ≡ colour_answer 0 (from_end s (branch_automaton r) bytes l y)
unfolding finish_on colour_answer below
finish-is s r bytes l y true w = rw w
finish-is s r bytes l y false w = rw w

module _ (reading : Reading) (p r node_table numbers bytes : List ℕ) (u l n s : ℕ) (a : n ≡ node_count p)
    (b : s ≡ state_count r) where
  abbrev B : WordAutomaton
  B = branch_automaton r

  on-is : coloured_on reading p r node_table numbers bytes u l
      ≡ and_then (start_on reading n node_table u) (from_place_on n s B numbers bytes l)
  unfolding coloured_on
  on-is =
      ap₂ (λ (x y : ℕ). and_then (start_on reading x node_table u) (from_place_on x y B numbers bytes l)) (sym a) (sym b)

  refused : coloured_on reading p r node_table numbers bytes u l ≡ none
      → (18, none) ≡ colour_answer 0 (coloured_on reading p r node_table numbers bytes u l)
  unfolding colour_answer
  refused e = sym (ap (colour_answer 0) e)

  module _ (z : ℕ) (P : start_on reading n node_table u ≡ numbered_place n z) where
    pub answer-outside : n < z → (18, none) ≡ colour_answer 0 (coloured_on reading p r node_table numbers bytes u l)
    answer-outside h =
        let e : start_on reading n node_table u ≡ none =
        P ∙ ap (λ (x : Bool). cond x none (some (place_at n z))) (lt-ltb n z h) in
        refused (on-is ∙ on_none (start_on reading n node_table u) (from_place_on n s B numbers bytes l) e)

    module _ (h : z ≤ n) where
      placed : start_on reading n node_table u ≡ some (place_at n z)
      placed = P ∙ ap (λ (x : Bool). cond x none (some (place_at n z))) (le-ltb n z h)

      from_place : coloured_on reading p r node_table numbers bytes u l ≡ from_place_on n s B numbers bytes l (place_at n z)
      from_place = on-is ∙ on_some (start_on reading n node_table u) (place_at n z)
          (from_place_on n s B numbers bytes l) placed

      module _ (c : ℕ) (C : colour_in s bytes (place_at n z) ≡ below s c) where
        pub answer-no-start : s ≤ c → (18, none) ≡ colour_answer 0 (coloured_on reading p r node_table numbers bytes u l)
        answer-no-start i =
            refused (from_place ∙ on_none (colour_in s bytes (place_at n z))
            (from_colour n s B numbers bytes l (place_at n z))
            (C ∙ below-no s c i))

        module _ (i : c < s) (d : Given Descended)
            (D : d ≡ descended_of (descend (cell_table n numbers) c (place_at n z) l c)) where
          from-colour : coloured_on reading p r node_table numbers bytes u l
              ≡ from_colour n s B numbers bytes l (place_at n z) c
          from-colour =
              from_place ∙ on_some (colour_in s bytes (place_at n z)) c (from_colour n s B numbers bytes l (place_at n z))
              (C ∙ below-yes s c i)

          pub answer-lost : d ≡ None
              → (18, none) ≡ colour_answer 0 (coloured_on reading p r node_table numbers bytes u l)
          answer-lost f =
              refused (from-colour ∙ on_none (descend (cell_table n numbers) c (place_at n z) l c) (from_end s B bytes l)
              (descended-none (descend (cell_table n numbers) c (place_at n z) l c) (sym f ∙ D)))

          -- the colour at the end is one of s
          pub end_low : (e : Descended) → d ≡ Some e → e.colour < s
          end_low e f =
              let o : Option Descent = descend (cell_table n numbers) c (place_at n z) l c in
              let x = descended-some o e (sym f ∙ D) in
              omega (arith, x.2, descend-low (cell_table n numbers) l c (place_at n z) c x.0 x.1)

          pub answer-end : (e : Descended) → d ≡ Some e → (mk : List ℕ) → mk ≡ branch_marks r
              → finish_on s mk bytes l e.colour e.drops e.links ≡ colour_answer 0 (coloured_on reading p r node_table numbers bytes u l)
          answer-end e f mk m =
              let o : Option Descent = descend (cell_table n numbers) c (place_at n z) l c in
              let x = descended-some o e (sym f ∙ D) in
              finish-same mk (branch_marks r) e.colour x.0.colour e.drops (drops x.0) e.links (links x.0) m x.2 x.3 x.4
              ∙ finish-is s r bytes l x.0 (ltb (get_or bytes (l * s + x.0.colour) 0) s) refl
              ∙ sym (ap (colour_answer 0) (from-colour ∙ on_some o x.0 (from_end s B bytes l) x.1))
            where
              finish-same : (mk mk' : List ℕ) (c c' d d' n n' : ℕ) → mk ≡ mk' → c ≡ c' → d ≡ d' → n ≡ n'
                  → finish_on s mk bytes l c d n ≡ finish_on s mk' bytes l c' d' n'
              finish-same mk mk' c c' d d' n n' a b e g = rw (a, b, e, g)
