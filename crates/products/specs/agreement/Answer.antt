-- The answer to "do two rule books agree", by name (document 02, S-13).
--
-- differing first second == the product of the two tables that accepts where their answers differ
-- shown_count first second == how many lines are shown; none where the tables agree
-- shown_lines first second n == those lines, n of them
-- agree_checks first second == 6 to 9 for the first table, 6 to 9 for the second, 23
--
-- "Which separating plan is shown may be left to the program; its name and its properties then stand in the contract." Its name is
-- shown_lines; its properties are those of Separates.
use Rattle.std.specs.Prelude.{ℕ, List, [], ◌∷◌, ◌++◌, eqb, take}
use Rattle.std.proofs.Math.Option.{Option}
use Rattle.trees.specs.Automaton.{Automaton}
use Rattle.formats.specs.Rules.{label_count, rule_automaton}
use Rattle.formats.specs.Checks.{Check, check, rule_checks}
use Rattle.products.specs.Product.{product, differ}
use Rattle.products.specs.agreement.Lines.{Line}
use Rattle.products.specs.agreement.Search.{reached, first_accepted}

abbrev pub differing : List ℕ → List ℕ → Automaton
differing first second = product differ (rule_automaton first) (rule_automaton second)

unfoldable pub shown_count : List ℕ → List ℕ → Option ℕ
shown_count first second = first_accepted (differing first second) (reached (differing first second)
    (label_count first)).states 0

unfoldable pub shown_lines : List ℕ → List ℕ → ℕ → List Line
shown_lines first second n = take n (reached (differing first second) (label_count first)).lines

-- "The tables pass 6 to 9 in turn, then 23."
unfoldable pub agree_checks : List ℕ → List ℕ → List Check
agree_checks first second = rule_checks first ++ (rule_checks second ++ (check 23 (eqb (label_count first)
    (label_count second)) ∷ []))
