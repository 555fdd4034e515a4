-- The promise of a branch question by colours.
--     ask-built   on tables as built: the word automaton's answer where the lower node is at or below the upper
--     ask-apart   16 where it is not, so 18 never
--     ask-done    the whole promise, for any answer that tells what colour_ask_answer says
use Prim.Native.Nat.{ℕ, ◌+◌, ◌≤◌, ◌<◌}
use mathlib.Core.Path.{◌≡◌, refl, sym, ap, ◌∙◌}
use mathlib.Core.Bool.{Bool, true, false}
use mathlib.Core.List.{List}
use mathlib.Core.Option.{none}
use native.Mathlib.Omega.{arith}
use Rattle.trees.specs.Tree.{Tree, size}
use Rattle.trees.specs.Numbering.{sub, AtOrBelow}
use Rattle.trees.proofs.IntervalLaws.{interval-ancestor}
use Rattle.std.specs.Prelude.{Result, Ok, Err}
use Rattle.formats.specs.Plan.{node_count, plan_tree}
use Rattle.formats.specs.Refusals.{answer_number, told}
use Rattle.formats.specs.declared.refusals.Refusal.{Refusal}
use Rattle.formats.proofs.RefusalLaws.{told-value}
use Rattle.formats.proofs.InputLaws.{branch-table-passes}
use Rattle.tables.specs.node_tables.Cells.{is_in_subtree_on}
use Rattle.branches.specs.declared.answers.Reading.{Reading}
use Rattle.branches.proofs.FinishLaws.{in-subtree-is}
use Rattle.colours.proofs.DescentLaws.{sum-le}
use Rattle.colours.proofs.Theorems.{links-limit}
use Rattle.colour_questions.specs.declared.branch.answers.ColourAsked.{ColourAsked}
use Rattle.colour_questions.specs.branch.Question.{colour_number, colour_ask_answer}
use Rattle.colour_questions.specs.branch.Promise.{BranchColoursBuilt, DescentAnswer, ColourAskDone}
use Rattle.colour_questions.proofs.branch.AskChecks.{ask-number, ask-16, ask-not-below}
use Rattle.colour_questions.proofs.branch.AskRange.{ask-out-of-range, ask-kept}
use Rattle.colour_questions.proofs.branch.AskUsable.{usable-in-range}
use Rattle.colour_questions.proofs.branch.AskBuilt.{size_is, fits-built, built-links, descent-built, on-built}
use Rattle.colour_questions.proofs.branch.AskBuilt.{drops-built}

module _ (reading : Reading) (p r node_table numbers bytes : List ℕ) (D : BranchColoursBuilt p r node_table numbers bytes)
    (u l : ℕ)
    (hu : u < node_count p) (hl : l < node_count p) where
  abbrev t : Tree
  t = plan_tree p

  upper_in : u < size (plan_tree p)
  upper_in = omega (arith, size_is p r node_table numbers bytes D)

  lower_in : l < size (plan_tree p)
  lower_in = omega (arith, size_is p r node_table numbers bytes D)

  small : size (plan_tree p) ≤ 65535
  small = omega (arith, size_is p r node_table numbers bytes D, (branch-table-passes p r D.coloured.accepted).0.most)

  ask-built : AtOrBelow (plan_tree p) u l → (answer : Result ColourAsked Refusal)
      → told answer ≡ colour_ask_answer reading p r node_table numbers bytes u l → DescentAnswer reading p r u l answer
  ask-built A answer e =
      let W = descent-built p r node_table numbers bytes D u l hu hl A reading in
      record {
        way = W.way;
        found = W.found;
        is = told-value answer 0 _ (e ∙ on-built p r node_table numbers bytes D u l hu hl A reading) refl;
        drops_are = drops-built p r node_table numbers bytes D u l hu hl A reading W.way W.found;
        falls = W.falls;
        few = sum-le 45 W.way.searches (links-limit t W.way.searches small W.few);
      }

  -- what the given size says is true
  subtree-above : is_in_subtree_on node_table u l ≡ true → AtOrBelow (plan_tree p) u l
  subtree-above e =
      let w = in-subtree-is node_table u l e in
      let i : u < l + size (sub t u) = rw (← (built-links p r node_table numbers bytes D).sizes u upper_in) w.1 in
      interval-ancestor t u l upper_in lower_in (w.0, i)

  ask-apart : (AtOrBelow (plan_tree p) u l → ⊥) → colour_ask_answer reading p r node_table numbers bytes u l ≡ (16, none)
  ask-apart never =
      sym (ask-16 reading p r node_table numbers bytes u l (fits-built p r node_table numbers bytes D) hu hl
      (go (is_in_subtree_on node_table u l) refl))
    where
      go : (b : Bool) → is_in_subtree_on node_table u l ≡ b → b ≡ false
      go true e = absurd (never (subtree-above e))
      go false e = refl

module _ (reading : Reading) (p r node_table numbers bytes : List ℕ) (u l : ℕ) where
  -- an answer tells its number
  told-asked : (a : Result ColourAsked Refusal) → answer_number a ≡ (told a).0
  told-asked (Ok x) = refl
  told-asked (Err e) = refl

  pub ask-done : (answer : Result ColourAsked Refusal)
      → told answer ≡ colour_ask_answer reading p r node_table numbers bytes u l
      → ColourAskDone reading p r node_table numbers bytes u l answer
  ask-done answer e =
      let named : answer_number answer ≡ (colour_ask_answer reading p r node_table numbers bytes u l).0 =
      told-asked answer ∙ ap (λ t. t.0) e in
      let number : answer_number answer ≡ colour_number reading p r node_table numbers bytes u l =
      named ∙ ask-number reading p r node_table numbers bytes u l in
      record {
        result = e;
        number = number;
        properties = ask-kept reading p r node_table numbers bytes u l answer e;
        not_below = λ f hu hl. rw named (ask-not-below reading p r node_table numbers bytes u l f hu hl);
        out_of_range = λ i. ask-out-of-range reading p r node_table numbers bytes u l (sym number ∙ i);
        usable = λ U i. usable-in-range p r node_table numbers bytes U
            (ask-out-of-range reading p r node_table numbers bytes u l (sym number ∙ i));
        built = λ D hu hl A. ask-built reading p r node_table numbers bytes D u l hu hl A answer e;
        apart = λ D hu hl never. e ∙ ask-apart reading p r node_table numbers bytes D u l hu hl never;
      }
