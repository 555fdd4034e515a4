-- Where plan, branch table, node table and the colours' numbers are as built and the copies are any bytes below S with
-- state 0 in each: the answer is what the descent by the tree's own colours gives on those bytes.
--     on-copies    so, as OnCopies has it
use Prim.Native.Nat.{ℕ, ◌+◌, ◌*◌, ◌<◌}
use mathlib.Core.Path.{◌≡◌, refl, sym, ap, ◌∙◌}
use mathlib.Core.Bool.{true}
use mathlib.Core.List.{List}
use mathlib.Core.Option.{Option, none, some}
use native.Mathlib.Omega.{arith}
use native.Mathlib.Decide.{ℕ_discrete}
use lib.ListN.{length, get_or}
use borrow.Author.Tests.{lt-ltb, eq-eqb, ne_eqb}
use Rattle.trees.specs.Tree.{Tree, size}
use Rattle.trees.specs.Automaton.{WordAutomaton}
use Rattle.trees.specs.Numbering.{parent, AtOrBelow}
use Rattle.trees.proofs.NodeLaws.{up}
use Rattle.trees.proofs.IntervalLaws.{ancestor-interval}
use Rattle.formats.specs.Plan.{node_count, plan_tree}
use Rattle.formats.specs.Rules.{state_count, branch_automaton}
use Rattle.formats.proofs.InputLaws.{branch-table-passes}
use Rattle.tables.specs.node_tables.Cells.{is_in_subtree_on}
use Rattle.tables.specs.Climbs.{below}
use Rattle.branches.specs.declared.answers.Reading.{Reading}
use Rattle.branches.specs.declared.answers.Reading.TheVariants.{WithUpper, BelowUpper}
use Rattle.branches.proofs.FinishLaws.{is-in-subtree}
use Rattle.colours.specs.Colouring.{place_of}
use Rattle.colours.specs.Descents.{Place, Descent, drops, links, descend, colour_table_of}
use Rattle.colours.specs.Words.{word_step, above_of}
use Rattle.colours.proofs.AgreeLaws.{PlaceIn}
use Rattle.colour_tables.specs.ColourCells.{copy_row, cell_table}
use Rattle.colour_tables.proofs.BuiltLaws.{descend-built}
use Rattle.colour_tables.proofs.RangeLaws.{descend-low}
use Rattle.colour_questions.specs.branch.Question.{colour_buffers_fit, start_on, colour_in, coloured, coloured_on, colour_answer}
use Rattle.colour_questions.specs.branch.Question.{colour_ask_answer}
use Rattle.colour_questions.specs.branch.Promise.{BranchColoursUsable, word_start, OnCopies}
use Rattle.colour_questions.proofs.branch.AskChecks.{ask-number, ask-on}
use Rattle.colour_questions.proofs.branch.AskRange.{ask-out-of-range}
use Rattle.colour_questions.proofs.branch.AskUsable as usable
use Rattle.colour_questions.proofs.branch.AnswerLaws.{on_some, on_none, below-yes, from_end, from_colour, from_place_on}

module _ (reading : Reading) (p r node_table numbers bytes : List ℕ) (U : BranchColoursUsable p r node_table numbers bytes)
    (fits : colour_buffers_fit p r (length node_table) (length numbers) (length bytes) ≡ true) (u l : ℕ)
    (hu : u < node_count p) (hl : l < node_count p) (A : AtOrBelow (plan_tree p) u l) where
  abbrev t : Tree
  t = plan_tree p

  abbrev B : WordAutomaton
  B = branch_automaton r

  abbrev s : ℕ
  s = state_count r

  abbrev step : ℕ → ℕ → ℕ
  step = word_step (branch_automaton r) (plan_tree p)

  size_is : size (plan_tree p) ≡ node_count p
  size_is = usable.size_is p r node_table numbers bytes U

  some_state : 0 < state_count r
  some_state = omega (arith, (branch-table-passes p r U.accepted).1.states-least)

  upper_in : u < size (plan_tree p)
  upper_in = omega (arith, size_is)

  lower_in : l < size (plan_tree p)
  lower_in = omega (arith, size_is)

  below-it : is_in_subtree_on node_table u l ≡ true
  below-it =
      let w = ancestor-interval t u l A.0 lower_in A.1 A.2 in
      is-in-subtree node_table u l w.0 (rw ((usable.links_are p r node_table numbers bytes U).sizes u upper_in) w.1)

  start_is : (q : Reading) → start_on q (node_count p) node_table u ≡ some (word_start q (plan_tree p) u)
  unfolding start_on above_of
  start_is WithUpper = elim (ℕ_discrete (u + 1) (node_count p)) [
    | yes e ↦ rw (eq-eqb (u + 1) (node_count p) e, eq-eqb (u + 1) (size t) (e ∙ sym size_is))
    | no e ↦ (let i : u + 1 < size t = omega (arith, size_is) in
        let q : parent t u < node_count p = omega (arith, (up t u i).below, size_is) in
        rw (
          ne_eqb (u + 1) (node_count p) e,
          (usable.links_are p r node_table numbers bytes U).parents u upper_in,
          lt-ltb (parent t u) (node_count p) q,
          ne_eqb (u + 1) (size t) (λ z. omega arith),
        ))
  ]
  start_is BelowUpper = refl

  place_in : (q : Reading) → PlaceIn (size (plan_tree p)) (word_start q (plan_tree p) u)
  unfolding above_of
  place_in WithUpper = elim (ℕ_discrete (u + 1) (size t)) [
    | yes e ↦ rw (eq-eqb (u + 1) (size t) e) tt
    | no e ↦ rw (ne_eqb (u + 1) (size t) e) (up t u (omega (arith, upper_in))).below
  ]
  place_in BelowUpper = upper_in

  colour-of : (z : Place) → PlaceIn (size (plan_tree p)) z
      → (c : ℕ) × (colour_in (state_count r) bytes z ≡ some c) × (c < state_count r)
  unfolding colour_in
  colour-of none i = (0, below-yes s 0 some_state, some_state)
  colour-of (some z) i =
      let h : place_of 0 (copy_row s bytes z) < s = U.starts z (omega (arith, i, size_is)) in
      (place_of 0 (copy_row s bytes z), below-yes s _ h, h)

  never : coloured_on reading p r node_table numbers bytes u l ≡ none → ⊥
  unfolding colour_answer
  never e =
      usable.usable-in-range p r node_table numbers bytes U
      (ask-out-of-range reading p r node_table numbers bytes u l
      (sym (ask-number reading p r node_table numbers bytes u l)
      ∙ ap (λ t. t.0) (ask-on reading p r node_table numbers bytes u l fits hu hl below-it ∙ ap (colour_answer 0) e)))

  pub on-copies : OnCopies reading p r bytes u l (colour_ask_answer reading p r node_table numbers bytes u l)
  unfolding coloured_on colour_answer
  on-copies = go (descend (colour_table_of s step t) c z l c) refl
    where
      z : Place
      z = word_start reading (plan_tree p) u

      c : ℕ
      c = (colour-of (word_start reading (plan_tree p) u) (place_in reading)).0

      starts : colour_in (state_count r) bytes z ≡ some c
      starts = (colour-of (word_start reading (plan_tree p) u) (place_in reading)).1

      low : c < state_count r
      low = (colour-of (word_start reading (plan_tree p) u) (place_in reading)).2

      same : descend (cell_table (node_count p) numbers) c z l c
          ≡ descend (colour_table_of (state_count r) (word_step (branch_automaton r) (plan_tree p)) (plan_tree p)) c z l c
      same =
          ap (λ (m : ℕ). descend (cell_table m numbers) c z l c) (sym size_is)
          ∙ descend-built s step t numbers (usable.cells p r node_table numbers bytes U) c z l c lower_in low (place_in reading)

      to-colour : coloured_on reading p r node_table numbers bytes u l ≡ from_colour (node_count p) s B numbers bytes l z c
      to-colour =
          on_some (start_on reading (node_count p) node_table u) z (from_place_on (node_count p) s B numbers bytes l) (start_is reading)
          ∙ on_some (colour_in s bytes z) c (from_colour (node_count p) s B numbers bytes l z) starts

      go : (o : Option Descent)
          → descend (colour_table_of (state_count r) (word_step (branch_automaton r) (plan_tree p)) (plan_tree p)) c z l c ≡ o
          → OnCopies reading p r bytes u l (colour_ask_answer reading p r node_table numbers bytes u l)
      go none e =
          absurd (never (to-colour ∙ on_none (descend (cell_table (node_count p) numbers) c z l c) (from_end s B bytes l)
          (same ∙ e)))
      go (some d) e =
          let f = same ∙ e in
          let h : d.colour < s = omega (arith, low, descend-low (cell_table (node_count p) numbers) l c z c d f) in
          let q : ℕ = get_or bytes (l * s + d.colour) 0 in
          let on : coloured_on reading p r node_table numbers bytes u l ≡ some (coloured B q (drops d) (links d)) =
          to-colour
          ∙ on_some (descend (cell_table (node_count p) numbers) c z l c) d (from_end s B bytes l) f
          ∙ on_some (below s q) q (λ x. some (coloured B x (drops d) (links d))) (below-yes s q (U.below l d.colour
          hl h)) in
          record {
            colour = c;
            starts = starts;
            way = d;
            found = e;
            is = ask-on reading p r node_table numbers bytes u l fits hu hl below-it ∙ ap (colour_answer 0) on;
          }
