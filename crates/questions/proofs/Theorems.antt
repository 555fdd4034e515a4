-- The questions layer's main theorems by name, each cited from where it is proved.
--     ready-is-least      the ready set is the least set with document 01's three rules
--     roots-as-built     on numbers as built the computed roots are exactly the ready set: rising, each once, ending at the root
--     roots_few           at most 4m - 2 roots for m listed nodes, one for none: on any numbers
--     highest-is-one      all members below a child are under the greatest of them: the highest is unique
--     part-is-the-rule    on numbers as built and any bytes below S a part is what the rule gives on those bytes, never 18
--     part-is-the-run     on the run's own bytes every part has the changed run's state at its root
--     passed_over         a question passes over no fewer nodes than it has links, and no more than the plan is high for each part
--     roots-in-range, part-in-range   18 only where a value leads outside the plan, the states or the labels, or a link does not rise
--     rule-in-range     .. and where the rule holds no value does
-- That answer, parts and links do not depend on the list's order, and each part's links: crate reference (OrderLaws, Ceilings).
use Rattle.std.proofs.Common.{◌≡◌, ℕ, ◌*◌, ◌<◌, ◌≤◌, Bool, true, List, ◌∷◌, ◌++◌, length}
use mathlib.Core.List.{Memᴰ}
use mathlib.Core.Option.{none, some}
use Rattle.trees.specs.Tree.{Tree, size, height, labels_of}
use Rattle.trees.specs.Automaton.{state}
use Rattle.trees.specs.Changes.{changed}
use Rattle.trees.specs.Numbering.{sub, InSubtree}
use Rattle.list_laws.specs.Tests.{all_below}
use Rattle.tables.specs.node_tables.OutOfRange.{NodeTableOutOfRange}
use Rattle.tables.specs.node_tables.NodeCells.{NodeCells}
use Rattle.tables.specs.Climbs.{View, reached}
use Rattle.questions.specs.ready.Ready.{Ready, Closed}
use Rattle.questions.specs.ready.Members.{ready_list, roots}
use Rattle.questions.specs.ready.Parts.{Given, Part, nodes_of, states_of, state_of, part_state, part_links, part_passed, parts_of}
use Rattle.questions.specs.ready.Parts.{question_links, question_passed}
use Rattle.questions.proofs.ready.ClosedForm as closed-form
use Rattle.questions.proofs.ready.HighestLaws.{Highest, highest-holds}
use Rattle.questions.proofs.ready.ChangedRun.{Changes}
use Rattle.questions.specs.ready.StaysInside.{StaysInside}
use Rattle.questions.proofs.ready.PartsRun.{Members, parts-right}
use Rattle.questions.specs.ready.RunGiven.{RunGiven}
use Rattle.questions.proofs.ready.PassedLaws.{question-passed}
use Rattle.questions.specs.Roots.{roots_on}
use Rattle.questions.specs.Part.{part_on}
use Rattle.questions.specs.OutOfRange.{PartOutOfRange}
use Rattle.questions.specs.Promises.{RootsAre, Reads}
use Rattle.questions.proofs.RootsLaws.{roots_on-are}
use Rattle.questions.proofs.RootsBuilt as built
use Rattle.questions.proofs.PartBuilt.{part-built}
use Rattle.questions.proofs.RootsRange.{roots-out-of-range}
use Rattle.questions.proofs.PartRange.{part-out-of-range}
use Rattle.questions.proofs.RuleRange.{reads-in-range}

ready-is-closed : (w : ℕ → Bool) (t : Tree) → Closed w t (Ready w t)
ready-is-closed = closed-form.ready-closed

ready-is-least : (w : ℕ → Bool) (t : Tree) (C : ℕ → Type 0) → Closed w t C → {v : ℕ} → Ready w t v → C v
ready-is-least = closed-form.ready-least

roots-as-built : (t : Tree) (node_table : List ℕ) → NodeCells t node_table → (vs : List ℕ) → ((v : ℕ) → Memᴰ v vs → v < size t)
    → roots_on (size t) node_table vs ≡ some (roots t vs)
roots-as-built = built.roots-built

roots_few : (n : ℕ) (node_table vs l : List ℕ) → 0 < n → all_below n vs ≡ true → roots_on n node_table vs ≡ some l → RootsAre n (length vs) l
roots_few = roots_on-are

highest-is-one : (w : ℕ → Bool) (t : Tree) (C : ℕ → Type 0) → Closed w t C → ((v : ℕ) → C v → v < size t) → (c h : ℕ) → c < size t
    → Highest t C c h → (u : ℕ) → C u → InSubtree t c u → InSubtree t h u
highest-is-one = highest-holds

part-is-the-rule : (X : View) (G : Given) → Reads X G → (w : ℕ → Bool) (ms : List ℕ) → Members w G.tree ms → (ps : List Part) (v : ℕ)
    (rest : List ℕ) → nodes_of ps ++ (v ∷ rest) ≡ ms → ((x : ℕ) → state_of ps x < X.s) → (vs bs : List ℕ)
    → G.labels ≡ changed (labels_of G.tree) vs bs
    → part_on X (nodes_of ps) (states_of ps) vs bs v
    ≡ some (reached (part_state G ms ps v) (part_links G.tree ms v) (part_passed G.tree ms v))
part-is-the-rule = part-built

part-is-the-run : (G : Given) (u : Tree) → RunGiven G u → StaysInside G.automaton → (w : ℕ → Bool) → Changes w G.tree u → (ms : List ℕ)
    → Members w G.tree ms → (v : ℕ) → Memᴰ v ms → state_of (parts_of G ms) v ≡ state G.automaton (sub u v)
part-is-the-run = parts-right

passed_over : (w : ℕ → Bool) (t : Tree)
    → (question_links t (ready_list w t) ≤ question_passed t (ready_list w t))
    × (question_passed t (ready_list w t) ≤ length (ready_list w t) * height t)
passed_over = question-passed

roots-in-range : (n : ℕ) (node_table vs : List ℕ) → 0 < n → all_below n vs ≡ true → roots_on n node_table vs ≡ none → NodeTableOutOfRange n node_table
roots-in-range = roots-out-of-range

part-in-range : (X : View) (qs vs bs es : List ℕ) (v : ℕ) → v < X.n → part_on X es qs vs bs v ≡ none → PartOutOfRange X qs vs bs
part-in-range = part-out-of-range

rule-in-range : (X : View) (G : Given) → Reads X G → (qs vs bs : List ℕ) → all_below X.s qs ≡ true
    → G.labels ≡ changed (labels_of G.tree) vs bs → PartOutOfRange X qs vs bs → ⊥
rule-in-range = reads-in-range
