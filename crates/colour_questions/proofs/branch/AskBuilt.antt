-- A branch question by colours on tables as built.
--     fits-built   17 passes
--     descent-built, on-built  the answer is the word automaton's, with the drops and links of the descent by the
--                              tree's own colours
--     drops-built              its drops are the places on the path where the colour falls
--     built-usable             tables as built are usable: 18 never comes
use Prim.Native.Nat.{ℕ, ◌+◌, ◌*◌, ◌≤◌, ◌<◌}
use mathlib.Core.Path.{◌≡◌, refl, sym, ap, ◌∙◌, subst}
use mathlib.Core.Bool.{true}
use mathlib.Core.List.{List}
use mathlib.Core.Option.{none, some, some-injective}
use native.Mathlib.Omega.{arith}
use native.Mathlib.Decide.{ℕ_discrete}
use lib.ListN.{length, get_or, take, drop}
use lib.Seq.{ext_get_or, get_or-take, get_or-drop}
use borrow.Author.Tests.{le-leb, eq-eqb, ne_eqb}
use Rattle.list_laws.specs.Tests.{holds}
use Rattle.list_laws.proofs.RowLaws.{stride}
use Rattle.list_laws.proofs.SliceLaws.{length_part}
use Rattle.trees.specs.Tree.{Tree, size}
use Rattle.trees.specs.Automaton.{WordAutomaton, word_run}
use Rattle.trees.specs.Numbering.{parent, AtOrBelow}
use Rattle.trees.specs.Tables.{node_table_of}
use Rattle.trees.proofs.NodeLaws.{up}
use Rattle.formats.specs.Plan.{node_count, plan_tree}
use Rattle.formats.specs.Rules.{state_count, label_count, branch_automaton}
use Rattle.formats.specs.Buffers.{headers_fit}
use Rattle.formats.proofs.PlanLaws.{size-plan_tree}
use Rattle.formats.specs.Passing.{PlanPasses}
use Rattle.formats.proofs.BranchLaws.{BranchPasses, step_below}
use Rattle.formats.proofs.InputLaws.{branch-table-passes}
use Rattle.formats.proofs.BufferLaws.{are-limits}
use Rattle.tables.specs.node_tables.NodeCells.{NodeCells}
use Rattle.tables.proofs.node_tables.CellLaws.{length-node_table_of, link-cells}
use Rattle.tables.specs.Climbs.{below}
use Rattle.branches.specs.declared.answers.Reading.{Reading}
use Rattle.branches.specs.declared.answers.Reading.TheVariants.{WithUpper, BelowUpper}
use Rattle.branches.specs.Promise.{word_of}
use Rattle.colours.specs.Colouring.{place_of, Colouring}
use Rattle.colours.specs.Copies.{copy, copy_above}
use Rattle.colours.specs.Descents.{Place, Descent, drops, links, descend, colour_table_of}
use Rattle.colours.specs.Words.{word_step, above_of, colour_above, colour_here, with_upper, below_upper}
use Rattle.colours.proofs.ColouringLaws.{place-lt, has-colour}
use Rattle.colours.proofs.CopyLaws.{top-colour, copy_above-root, copy_above-down, copy-colouring, copy_above-colouring}
use Rattle.colours.proofs.WordLaws.{upper-drops, below-drops}
use Rattle.colours.specs.Answers.{WordAnswer}
use Rattle.colours.proofs.Theorems.{word-upper, word_below}
use Rattle.colour_tables.specs.ColourCells.{copy_row}
use Rattle.colour_tables.specs.Layout.{colour_numbers_of, copies_of, colour_numbers_length, copies_length}
use Rattle.colour_tables.proofs.LayoutLaws.{length-numbers, length-copies, copies-cells}
use Rattle.colour_tables.proofs.RangeLaws.{descend-low}
use Rattle.tables.proofs.CheckAnswers.{begins-room}
use Rattle.colour_questions.specs.branch.Question.{colour_buffers_fit, colour_in, asked, colour_ask_answer}
use Rattle.colour_questions.specs.branch.Promise.{BranchColoursBuilt, BranchColoursUsable, word_start, word_descent, word_drops}
use Rattle.colour_questions.proofs.branch.FitLaws.{are-fits}
use Rattle.colour_questions.proofs.branch.AnswerLaws.{below-yes}
use Rattle.colour_questions.proofs.branch.OnCopies.{on-copies}

module _ (p r node_table numbers bytes : List ℕ) (D : BranchColoursBuilt p r node_table numbers bytes) where
  abbrev t : Tree
  t = plan_tree p

  abbrev B : WordAutomaton
  B = branch_automaton r

  abbrev s : ℕ
  s = state_count r

  abbrev step : ℕ → ℕ → ℕ
  step = word_step (branch_automaton r) (plan_tree p)

  plan-passes : PlanPasses p
  plan-passes = (branch-table-passes p r D.coloured.accepted).0

  table-passes : BranchPasses r
  table-passes = (branch-table-passes p r D.coloured.accepted).1

  pub size_is : size (plan_tree p) ≡ node_count p
  size_is = size-plan_tree p plan-passes

  below-s : (q a : ℕ) → (branch_automaton r).step q a < state_count r
  below-s q a = step_below r table-passes (q * label_count r + a)

  keeps : (v q : ℕ) → q < state_count r → word_step (branch_automaton r) (plan_tree p) v q < state_count r
  keeps v q h = below-s q _

  some_state : 0 < state_count r
  some_state = omega (arith, table-passes.states-least)

  -- ---- 17

  links-room : node_count p * 4 ≤ length node_table
  links-room =
      begins-room (node_count p * 4) node_table (node_table_of t) D.links
      (length-node_table_of t ∙ ap (λ (n : ℕ). n * 4) size_is)

  numbers_room : colour_numbers_length (node_count p) (state_count r) ≤ length numbers
  numbers_room =
      begins-room (s * (node_count p * 4)) numbers (colour_numbers_of s step t) D.coloured.numbers_are
      (length-numbers s step t ∙ ap (λ (n : ℕ). s * (n * 4)) size_is)

  bytes_room : copies_length (node_count p) (state_count r) ≤ length bytes
  bytes_room =
      begins-room (node_count p * s) bytes (copies_of s step t) D.coloured.bytes_are
      (length-copies s step t keeps ∙ ap (λ (n : ℕ). n * s) size_is)

  heads : headers_fit 16 p r ≡ true
  unfolding headers_fit
  heads =
      rw (
        le-leb 12 (length p) plan-passes.long,
        le-leb 16 (length r) table-passes.long,
        are-limits (node_count p) (state_count r) (label_count r) (record {
          nodes = plan-passes.least;
          most = plan-passes.most;
          states = table-passes.states-least;
          few = table-passes.states_most;
          labels = table-passes.labels_least;
          labels_most = table-passes.labels_most;
        }),
      )

  pub fits-built : colour_buffers_fit p r (length node_table) (length numbers) (length bytes) ≡ true
  fits-built =
      are-fits p r (length node_table) (length numbers) (length bytes) heads plan-passes.exact
      table-passes.exact links-room
      numbers_room bytes_room

  -- ---- the tables

  pub built-links : NodeCells (plan_tree p) node_table
  built-links = link-cells t (node_count p) node_table (sym size_is) D.links

  states : (v c : ℕ) → v < size (plan_tree p) → c < state_count r
      → get_or bytes (v * state_count r + c) 0 ≡ get_or
      (copy (state_count r) (word_step (branch_automaton r) (plan_tree p)) (plan_tree p) v) c 0
  states =
      copies-cells s step t keeps bytes
      (subst (λ (n : ℕ). take (n * s) bytes ≡ copies_of s step t) (sym size_is) D.coloured.bytes_are)

  row_is : (z : ℕ) → z < size (plan_tree p)
      → copy_row (state_count r) bytes z ≡ copy (state_count r) (word_step (branch_automaton r) (plan_tree p)) (plan_tree p) z
  row_is z h =
      let a : length (copy_row s bytes z) ≡ s =
      length_part bytes (z * s) s
      (omega (arith, stride s z (size t) h, bytes_room, size_is, ap (λ (n : ℕ). n * s) size_is)) in
      ext_get_or 0 (copy_row s bytes z) (copy s step t z) (a ∙ sym (copy-colouring s step t keeps z).count)
      (λ c l.
      let i : c < s = omega arith in
      get_or-take s (drop (z * s) bytes) c 0 i ∙ get_or-drop (z * s) bytes c 0 ∙ states z c h i)

  -- ---- the colour of state 0

  zero-below : (from : List ℕ) → Colouring (state_count r) from → place_of 0 from < state_count r
  zero-below from C =
      let e : holds 0 from ≡ true = has-colour s from C 0 some_state in
      omega (arith, place-lt 0 from e, C.count)

  colour-node : (z : ℕ) → z < size (plan_tree p) → (from : List ℕ) → copy s step t z ≡ from → Colouring s from
      → colour_in (state_count r) bytes (some z) ≡ some (place_of 0 from)
  unfolding colour_in
  colour-node z h from e C =
      ap (λ (xs : List ℕ). below s (place_of 0 xs)) (row_is z h ∙ e) ∙ below-yes s (place_of 0 from) (zero-below from C)

  colour-top : (u : ℕ) → u + 1 ≡ size (plan_tree p)
      → colour_in (state_count r) bytes none ≡ some (colour_above (branch_automaton r) (plan_tree p) u)
  unfolding colour_in colour_above
  colour-top u e =
      below-yes s 0 some_state
      ∙ ap some (sym (ap (place_of 0) (copy_above-root s step t u e) ∙ top-colour s 0 some_state))

  pub built-usable : BranchColoursUsable p r node_table numbers bytes
  built-usable = record {
    accepted = D.coloured.accepted;
    links = D.links;
    numbers_are = D.coloured.numbers_are;
    below = λ v c h b.
        let i : v < size t = omega (arith, size_is) in
        rw (states v c i b) ((copy-colouring s step t keeps v).below c b);
    starts = λ z h.
        let i : z < size t = omega (arith, size_is) in
        rw (row_is z i) (zero-below (copy s step t z) (copy-colouring s step t keeps z));
  }

  module _ (u l : ℕ) (hu : u < node_count p) (hl : l < node_count p) where
    upper_in : u < size (plan_tree p)
    upper_in = omega (arith, size_is)

    lower_in : l < size (plan_tree p)
    lower_in = omega (arith, size_is)

    colour-above : colour_in (state_count r) bytes (above_of (plan_tree p) u)
        ≡ some (colour_above (branch_automaton r) (plan_tree p) u)
    unfolding above_of colour_above
    colour-above = elim (ℕ_discrete (u + 1) (size t)) [
      | yes e ↦ rw (eq-eqb (u + 1) (size t) e) (colour-top u e)
      | no e ↦ (let i : u + 1 < size t = omega (arith, upper_in) in
          rw (ne_eqb (u + 1) (size t) e)
          (colour-node (parent t u) (up t u i).below (copy_above s step t u) (sym (copy_above-down s step t u i))
          (copy_above-colouring s step t keeps u)))
    ]

    above_low : colour_above (branch_automaton r) (plan_tree p) u < state_count r
    unfolding colour_above
    above_low = zero-below (copy_above s step t u) (copy_above-colouring s step t keeps u)

    here-low : colour_here (branch_automaton r) (plan_tree p) u < state_count r
    unfolding colour_here
    here-low = zero-below (copy s step t u) (copy-colouring s step t keeps u)

    colour-here : colour_in (state_count r) bytes (some u) ≡ some (colour_here (branch_automaton r) (plan_tree p) u)
    unfolding colour_here
    colour-here = colour-node u upper_in (copy s step t u) refl (copy-colouring s step t keeps u)

    -- the colour of state 0 in the copy where the word begins
    abbrev first : Reading → ℕ
    first WithUpper = colour_above (branch_automaton r) (plan_tree p) u
    first BelowUpper = colour_here (branch_automaton r) (plan_tree p) u

    first-is : (reading : Reading) → colour_in (state_count r) bytes (word_start reading (plan_tree p) u) ≡ some (first reading)
    first-is WithUpper = colour-above
    first-is BelowUpper = colour-here

    first-low : (reading : Reading) → first reading < state_count r
    first-low WithUpper = above_low
    first-low BelowUpper = here-low

    way-from : (reading : Reading) → word_descent reading (branch_automaton r) (plan_tree p) u l
        ≡ descend (colour_table_of (state_count r) (word_step (branch_automaton r) (plan_tree p)) (plan_tree p)) (first reading)
        (word_start reading (plan_tree p) u) l (first reading)
    unfolding with_upper below_upper
    way-from WithUpper = refl
    way-from BelowUpper = refl

    module _ (A : AtOrBelow (plan_tree p) u l) where
      pub descent-built : (reading : Reading)
          → WordAnswer (branch_automaton r) (plan_tree p) l (word_of reading (plan_tree p) u l)
          (word_descent reading (branch_automaton r) (plan_tree p) u l)
      descent-built WithUpper = word-upper B t below-s u l lower_in A
      descent-built BelowUpper = word_below B t below-s u l lower_in A

      -- what is given on the copies, with the copies' own states
      pub on-built : (reading : Reading)
          → colour_ask_answer reading p r node_table numbers bytes u l
          ≡ (
            0,
            some (asked (word_run (branch_automaton r) 0 (word_of reading (plan_tree p) u l))
                ((branch_automaton r).accepting (word_run (branch_automaton r) 0 (word_of reading (plan_tree p) u l)))
                (drops (descent-built reading).way) (links (descent-built reading).way)),
          )
      on-built reading =
          let C = on-copies reading p r node_table numbers bytes built-usable fits-built u l hu hl A in
          let W = descent-built reading in
          let table = colour_table_of s step t in
          let z : Place = word_start reading t u in
          let own : descend table (first reading) z l (first reading) ≡ some W.way = sym (way-from reading) ∙ W.found in
          let c : C.colour ≡ first reading = some-injective _ _ (sym C.starts ∙ first-is reading) in
          let d : C.way ≡ W.way =
          some-injective _ _ (sym C.found ∙ ap (λ (i : ℕ). descend table i z l i) c ∙ own) in
          let low : W.way.colour < s =
          omega (arith, first-low reading, descend-low table l (first reading) z (first reading) W.way own) in
          let q : get_or bytes (l * s + W.way.colour) 0 ≡ word_run B 0 (word_of reading t u l) =
          states l W.way.colour lower_in low ∙ W.state in
          C.is
          ∙ ap (λ (x : Descent). (
            0,
            some (asked (get_or bytes (l * s + x.colour) 0)
                (B.accepting (get_or bytes (l * s + x.colour) 0)) (drops x) (links x)),
          )) d
          ∙ ap (λ (x : ℕ). (0, some (asked x (B.accepting x) (drops W.way) (links W.way)))) q

      pub drops-built : (reading : Reading) (d : Descent)
          → word_descent reading (branch_automaton r) (plan_tree p) u l ≡ some d
          → drops d ≡ word_drops reading (branch_automaton r) (plan_tree p) u l
      drops-built WithUpper = upper-drops B t below-s u l lower_in A
      drops-built BelowUpper = below-drops B t below-s u l lower_in A
