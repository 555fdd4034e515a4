-- 18 and its cause.
--     on-cause where there is no answer, a value leads outside the plan or the states, does not rise or leads to no
--       fall
--     ask-out-of-range   so it is where 18 is answered
--     ask-kept           an answer's state is below S, and yes is its mark, for any inputs
use Prim.Native.Nat.{ℕ, zero, suc, ◌+◌, ◌*◌, ◌≤◌, ◌<◌}
use mathlib.Core.Path.{◌≡◌, refl, sym, ap, ◌∙◌, subst}
use mathlib.Core.Bool.{Bool, true, false, cond, ◌&&◌}
use mathlib.Core.List.{List}
use mathlib.Core.Option.{Option, none, some, some-injective}
use native.Mathlib.Omega.{arith}
use lib.Dec.{ltb, eqb}
use lib.ListN.{length, get_or}
use borrow.Author.Tests.{ltb-true, ltb-false}
use Rattle.list_laws.proofs.BoolLaws.{and_left, and_right}
use Rattle.trees.specs.Climb.{and_then}
use Rattle.trees.proofs.MoveLaws.{none-some}
use Rattle.formats.specs.Plan.{node_count}
use Rattle.formats.specs.Rules.{state_count, branch_automaton}
use Rattle.std.specs.Prelude.{Result, Ok, Err}
use Rattle.formats.specs.Checks.{first_no}
use Rattle.formats.specs.Refusals.{told}
use Rattle.formats.specs.declared.refusals.Refusal.{Refusal}
use Rattle.formats.proofs.FourChecks.{four}
use Rattle.tables.specs.node_tables.Cells.{parent_cell, is_in_subtree_on}
use Rattle.tables.specs.Climbs.{below}
use Rattle.branches.specs.declared.answers.Reading.{Reading}
use Rattle.branches.specs.declared.answers.Reading.TheVariants.{WithUpper, BelowUpper}
use Rattle.branches.specs.Question.{is_some}
use Rattle.colours.specs.Colouring.{place_of}
use Rattle.colours.specs.Descents.{Place, Descent, drops, links, descend}
use Rattle.colours.proofs.AgreeLaws.{PlaceIn}
use Rattle.colour_tables.specs.ColourCells.{copy_row, cell_table}
use Rattle.colour_tables.proofs.RangeLaws.{descend-cause, descend-low}
use Rattle.colour_questions.specs.declared.branch.answers.ColourAsked.{ColourAsked}
use Rattle.colour_questions.specs.branch.Question.{colour_buffers_fit, start_on, colour_in, coloured}
use Rattle.colour_questions.specs.branch.Question.{coloured_on}
use Rattle.colour_questions.specs.branch.Question.{colour_checks, colour_number, colour_answer, colour_ask_answer}
use Rattle.colour_questions.specs.branch.OutOfRange.{BranchColoursOutOfRange, parent, colour, start, state}
use Rattle.colour_questions.specs.branch.Promise.{state_kept}
use Rattle.colour_questions.proofs.branch.FitLaws.{fits-are}
use Rattle.colour_questions.proofs.branch.AnswerLaws.{from_end, from_colour, from_place_on}

-- a number that is no state
below_none : (s x : ℕ) → below s x ≡ none → s ≤ x
unfolding below
below_none s x e = go (ltb x s) refl e
  where
    go : (b : Bool) → ltb x s ≡ b → cond b (some x) none ≡ none → s ≤ x
    go true w i = absurd (none-some (sym i))
    go false w i = ltb-false x s w

below-some : (s x y : ℕ) → below s x ≡ some y → (x ≡ y) × (y < s)
unfolding below
below-some s x y e = go (ltb x s) refl e
  where
    go : (b : Bool) → ltb x s ≡ b → cond b (some x) none ≡ some y → (x ≡ y) × (y < s)
    go true w i = let z : x ≡ y = cc in (z, omega (arith, ltb-true x s w))
    go false w i = absurd (none-some i)

-- 18 is the last of four
eighteen : (a b c : Bool) (o : Option ColourAsked) → first_no (four 16 12 15 17 a b c (is_some o)) ≡ 18
    → (a ≡ true) × (b ≡ true) × (o ≡ none)
unfolding first_no
eighteen true true true none e = (refl, refl, refl)
eighteen true true true (some x) e = absurd (omega arith)
eighteen true true false o e = absurd (omega arith)
eighteen true false c o e = absurd (omega arith)
eighteen false b c o e = absurd (omega arith)

module _ (p r node_table numbers bytes : List ℕ) (u l : ℕ) (hu : u < node_count p) (hl : l < node_count p)
    (hs : 1 ≤ state_count r) where
  abbrev n : ℕ
  n = node_count p

  abbrev s : ℕ
  s = state_count r

  abbrev Cause : Type 0
  Cause = BranchColoursOutOfRange p r node_table numbers bytes

  at-end : (c : ℕ) (z : Place) (d : Descent) → c < s → descend (cell_table n numbers) c z l c ≡ some d
      → from_end s (branch_automaton r) bytes l d ≡ none → Cause
  at-end c z d h q e =
      go (below s (get_or bytes (l * s + d.colour) 0)) refl e
    where
      go : (o : Option ℕ) → below s (get_or bytes (l * s + d.colour) 0) ≡ o
          → and_then o (λ x. some (coloured (branch_automaton r) x (drops d) (links d))) ≡ none → Cause
      go none w i =
          state l d.colour hl (omega (arith, descend-low (cell_table n numbers) l c z c d q))
          (below_none s (get_or bytes (l * s + d.colour) 0) w)
      go (some x) w i = absurd (none-some (sym i))

  at-colour : (z : Place) (c : ℕ) → c < s → from_colour n s (branch_automaton r) numbers bytes l z c ≡ none → Cause
  at-colour z c h e = go (descend (cell_table n numbers) c z l c) refl e
    where
      go : (o : Option Descent) → descend (cell_table n numbers) c z l c ≡ o
          → and_then o (from_end s (branch_automaton r) bytes l) ≡ none → Cause
      go none w i = colour (descend-cause n s (cell_table n numbers) (λ d. refl) l hl c z c h w)
      go (some d) w i = at-end c z d h w i

  at_place : (z : Place) → PlaceIn n z → from_place_on n s (branch_automaton r) numbers bytes l z ≡ none → Cause
  unfolding colour_in
  at_place none w e = go (below s 0) refl e
    where
      go : (o : Option ℕ) → below s 0 ≡ o → and_then o (from_colour n s (branch_automaton r) numbers bytes l none) ≡ none
          → Cause
      go none q i = absurd (omega (arith, below_none s 0 q))
      go (some c) q i = at-colour none c (below-some s 0 c q).1 i
  at_place (some z) w e = go (below s (place_of 0 (copy_row s bytes z))) refl e
    where
      go : (o : Option ℕ) → below s (place_of 0 (copy_row s bytes z)) ≡ o
          → and_then o (from_colour n s (branch_automaton r) numbers bytes l (some z)) ≡ none → Cause
      go none q i = start z w (below_none s (place_of 0 (copy_row s bytes z)) q)
      go (some c) q i = at-colour (some z) c (below-some s (place_of 0 (copy_row s bytes z)) c q).1 i

  on-cause : (reading : Reading) → coloured_on reading p r node_table numbers bytes u l ≡ none → Cause
  unfolding coloured_on start_on
  on-cause WithUpper e = root (eqb (u + 1) n) e
    where
      inner : (b : Bool) → ltb (parent_cell node_table u) n ≡ b
          → and_then (cond b (some (some (parent_cell node_table u))) none)
          (from_place_on n s (branch_automaton r) numbers bytes l) ≡ none
          → Cause
      inner true q i = at_place (some (parent_cell node_table u)) (ltb-true (parent_cell node_table u) n q) i
      inner false q i = parent u hu (ltb-false (parent_cell node_table u) n q)

      root : (b : Bool)
          → and_then
          (cond b (some none) (cond (ltb (parent_cell node_table u) n) (some (some (parent_cell node_table u))) none))
          (from_place_on n s (branch_automaton r) numbers bytes l) ≡ none → Cause
      root true i = at_place none tt i
      root false i = inner (ltb (parent_cell node_table u) n) refl i
  on-cause BelowUpper e = at_place (some u) hu e

module _ (reading : Reading) (p r node_table numbers bytes : List ℕ) (u l : ℕ) where
  pub ask-out-of-range : colour_number reading p r node_table numbers bytes u l ≡ 18
      → BranchColoursOutOfRange p r node_table numbers bytes
  unfolding colour_number colour_checks
  ask-out-of-range e =
      let f : Bool = colour_buffers_fit p r (length node_table) (length numbers) (length bytes) in
      let a : Bool = ltb u (node_count p) in
      let b : Bool = ltb l (node_count p) in
      let w = eighteen f (a && b) (is_in_subtree_on node_table u l)
      (coloured_on reading p r node_table numbers bytes u l) e in
      on-cause p r node_table numbers bytes u l (ltb-true u (node_count p) (and_left a b w.1))
      (ltb-true l (node_count p) (and_right a b w.1))
      (fits-are p r (length node_table) (length numbers) (length bytes) w.0).headers.in-limits.states reading
      w.2

  -- ---- what holds of an answer

  kept-end : (d : Descent) (x : ColourAsked) → from_end (state_count r) (branch_automaton r) bytes l d ≡ some x
      → (x.state < state_count r) × (x.marked ≡ (branch_automaton r).accepting x.state)
  kept-end d x e = go (below (state_count r) (get_or bytes (l * state_count r + d.colour) 0)) refl e
    where
      go : (o : Option ℕ) → below (state_count r) (get_or bytes (l * state_count r + d.colour) 0) ≡ o
          → and_then o (λ q. some (coloured (branch_automaton r) q (drops d) (links d))) ≡ some x
          → (x.state < state_count r) × (x.marked ≡ (branch_automaton r).accepting x.state)
      go none w i = absurd (none-some i)
      go (some q) w i =
          let b : q < state_count r = (below-some (state_count r) (get_or bytes (l * state_count r + d.colour) 0) q w).1 in
          let a : q ≡ x.state = cc in
          let m : (branch_automaton r).accepting q ≡ x.marked = cc in
          (omega arith, sym m ∙ ap (branch_automaton r).accepting a)

  then_some : {X Y : Type 0} (o : Option X) (f : X → Option Y) (y : Y) → and_then o f ≡ some y
      → (x : X) × (o ≡ some x) × (f x ≡ some y)
  then_some none f y e = absurd (none-some e)
  then_some (some x) f y e = (x, refl, e)

  kept_on : (x : ColourAsked) → coloured_on reading p r node_table numbers bytes u l ≡ some x
      → (x.state < state_count r) × (x.marked ≡ (branch_automaton r).accepting x.state)
  unfolding coloured_on
  kept_on x e =
      let a = then_some (start_on reading (node_count p) node_table u)
      (from_place_on (node_count p) (state_count r) (branch_automaton r) numbers bytes l) x e in
      let b = then_some (colour_in (state_count r) bytes a.0)
      (from_colour (node_count p) (state_count r) (branch_automaton r) numbers bytes l a.0) x a.2 in
      let c = then_some (descend (cell_table (node_count p) numbers) b.0 a.0 l b.0)
      (from_end (state_count r) (branch_automaton r) bytes l) x b.2 in
      kept-end c.0 x c.2

  pub ask-kept : (a : Result ColourAsked Refusal) → told a ≡ colour_ask_answer reading p r node_table numbers bytes u l
      → state_kept r a
  unfolding colour_ask_answer colour_answer
  ask-kept (Err e) h = tt
  ask-kept (Ok y) h = go (colour_number reading p r node_table numbers bytes u l)
      (coloured_on reading p r node_table numbers bytes u l) refl h
    where
      go : (m : ℕ) (o : Option ColourAsked) → coloured_on reading p r node_table numbers bytes u l ≡ o
          → ◌≡◌ {A = ℕ × Option ColourAsked} (0, some y) (colour_answer m o) → state_kept r (Ok y)
      go zero none e i = absurd (let z : ◌≡◌ {A = ℕ} 0 18 = ap (λ t. t.0) i in omega arith)
      go zero (some x) e i =
          subst (λ (z : ColourAsked). state_kept r (Ok z)) (some-injective x y (sym (ap (λ t. t.1) i))) (kept_on x e)
      go (suc m) o e i = absurd (let z : ◌≡◌ {A = ℕ} 0 (suc m) = ap (λ t. t.0) i in omega arith)
