-- What the exported function promises (document 02, S-10).
--
-- exported_checks .. room == the checks of a count, then 11: whether a buffer of room numbers has one for each state
-- CountExported .. == the promise of whatif_count: its number, and counts, parts and links afterwards
--
-- In C a counts buffer shorter than S gets 11: it is checked last, so it hides no number of the count.
use Rattle.std.specs.Prelude.{ℕ, ◌≡◌, List, [], ◌∷◌, ◌++◌, leb, length}
use Rattle.list_laws.specs.Copying.{over_buffer}
use Rattle.formats.specs.Rules.{state_count}
use Rattle.formats.specs.Checks.{Check, check, first_no}
use Rattle.choices.specs.question_counts.CountOn.{count_checks}
use Rattle.choices.specs.Promise.{count_value, count_result, CountDone}

unfoldable pub exported_checks : List ℕ → List ℕ → List ℕ → List ℕ → List ℕ → ℕ → List Check
exported_checks p r node_table state_table vs room =
    count_checks p r node_table state_table vs ++ (check 11 (leb (state_count r) room) ∷ [])

-- `count_value`, what is counted where no check fails, `count_result`, what is told for any inputs, and what they are on
-- tables as built: choices/specs/Promise
pub record CountExported (p r node_table state_table vs counts : List ℕ) (parts links n : ℕ) (counts' : List ℕ)
    (parts' links' : ℕ) : Type 0 where
  -- the first check that fails, or 0
  pub number : n ≡ first_no (exported_checks p r node_table state_table vs (length counts))
  -- accepted: a number for each state, behind them what was there; parts and links
  pub counts_are : n ≡ 0
      → counts' ≡ over_buffer (state_count r) (count_value p r node_table state_table vs).counts counts
  pub parts_are : n ≡ 0 → parts' ≡ (count_value p r node_table state_table vs).parts
  pub links_are : n ≡ 0 → links' ≡ (count_value p r node_table state_table vs).links
  -- refused: all is as it was
  pub counts_kept : (n ≡ 0 → ⊥) → counts' ≡ counts
  pub parts_kept : (n ≡ 0 → ⊥) → parts' ≡ parts
  pub links_kept : (n ≡ 0 → ⊥) → links' ≡ links
  -- the properties of the named result, on any tables: "its name and its properties stand in the contract"
  pub done : CountDone p r node_table state_table vs (count_result p r node_table state_table vs)
