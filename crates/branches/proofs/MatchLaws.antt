-- The comparisons of the caller's tables with a branch table's build, one after the other: the links, the state bytes,
-- the maps.
--     answer-cells      where the links say yes, they are the tree's
--     links-fail, steps-fail, maps-tell   the test of both tables, where the links or the state bytes say no, and
--         where the maps decide
use Prim.Native.Nat.{ℕ, ◌≤◌}
use mathlib.Core.Path.{◌≡◌, refl, sym, ap, ap₂, ◌∙◌}
use mathlib.Core.Bool.{Bool, true, false, ◌&&◌}
use mathlib.Core.List.{List}
use native.Mathlib.Omega.{arith}
use lib.ListN.{length, take}
use Rattle.trees.specs.Tree.{Tree, size, kinds_of, labels_of}
use Rattle.trees.specs.Tables.{node_table_of, branch_state, branch_map, branch_table_of}
use Rattle.trees.proofs.NodeLaws.{length-labels}
use Rattle.list_laws.specs.Tests.{same_list}
use Rattle.formats.specs.Rules.{word_automaton}
use Rattle.formats.specs.Checks.{node_table_length}
use Rattle.list_laws.proofs.TestLaws.{same_list-true}
use Rattle.tables.proofs.node_tables.CellLaws.{length-node_table_of, link-cells}
use Rattle.tables.specs.Answers.{same_tables}
use Rattle.tables.specs.inner.TableTests.{states_same, maps_same}
use Rattle.tables.proofs.TableTestLaws.{table-test}
use Rattle.branches.specs.inner.BranchGiven.{BranchGiven}
use Rattle.branches.specs.inner.Filled.{FillArgs}
use Rattle.branches.specs.inner.BranchTests.{StepsTested, MapsTested, TablesTested}
use Rattle.branches.proofs.BranchInputs.{length-branch_table}
use Rattle.branches.proofs.FillLaws.{AllCells, kinds-size, lent}

-- what the check of the links returns
abbrev pub NodeTableTested : List ℕ → List ℕ → Bool → Type 0
NodeTableTested ks node_table r = (t : Tree) → kinds_of t ≡ ks → r ≡ same_list (take (node_table_length (length ks)) node_table) (node_table_of t)

module _ (ls ks st : List ℕ) (s k l m : ℕ) (A : FillArgs ls ks st s k (length ls) l m) (node_table b : List ℕ)
    (room : m ≤ length b) where
  pub answer-cells : NodeTableTested ks node_table true → AllCells ks node_table
  answer-cells result t e =
      link-cells t (length ks) node_table (kinds-size ls ks st s k l m A t e)
      (same_list-true (take (node_table_length (length ks)) node_table) (node_table_of t) (sym (result t e)))

  module _ (mk : List ℕ) (t : Tree) (e : kinds_of t ≡ ks) (d : labels_of t ≡ ls) where
    size_is : size t ≡ length ls
    size_is = sym (length-labels t) ∙ ap length d

    links_are : same_list (take (node_table_length (length ks)) node_table) (node_table_of t)
        ≡ same_list (take (length (node_table_of t)) node_table) (node_table_of t)
    links_are =
        let z : node_table_length (length ks) ≡ length (node_table_of t) =
        ap node_table_length (kinds-size ls ks st s k l m A t e) ∙ sym (length-node_table_of t) in
        ap (λ (i : ℕ). same_list (take i node_table) (node_table_of t)) z

    states_are : (states_same s (length ls) (branch_state (word_automaton s k st mk) t) b
        && maps_same s (length ls) (branch_map (word_automaton s k st mk) t) b)
        ≡ same_list (take (length (branch_table_of (word_automaton s k st mk) t)) b) (branch_table_of (word_automaton s k st mk) t)
    unfolding branch_table_of
    states_are =
        rw (length-branch_table (word_automaton s k st mk) t, size_is)
        (sym (table-test s (length ls) (branch_state (word_automaton s k st mk) t)
        (branch_map (word_automaton s k st mk) t) b
        (omega (arith, A.room))))

    -- the test of both tables, by links, states and maps
    whole : (x y z : Bool) → NodeTableTested ks node_table x
        → y ≡ states_same s (length ls) (branch_state (word_automaton s k st mk) t) b
        → z ≡ maps_same s (length ls) (branch_map (word_automaton s k st mk) t) b
        → (x && (y && z)) ≡ same_tables (node_table_of t) (branch_table_of (word_automaton s k st mk) t) node_table b
    unfolding same_tables
    whole x y z L Y Z = ap₂ ◌&&◌ (L t e ∙ links_are) (ap₂ ◌&&◌ Y Z ∙ states_are)

  pub links-fail : NodeTableTested ks node_table false → TablesTested ls ks st s k node_table b false
  links-fail L mk t e d = whole mk t e d false _ _ L refl refl

  pub steps-fail : NodeTableTested ks node_table true → StepsTested ls node_table st s k (length ls) b false
      → TablesTested ls ks st s k node_table b false
  steps-fail L S mk t e d =
      whole mk t e d true false _ L
      (S (word_automaton s k st mk) t (lent ls ks st s k l m A node_table (answer-cells L) mk t e d)) refl

  pub maps-tell : (r : Bool) → NodeTableTested ks node_table true → StepsTested ls node_table st s k (length ls) b true
      → MapsTested ls node_table st s k (length ls) b r → TablesTested ls ks st s k node_table b r
  maps-tell r L S M mk t e d =
      let C : BranchGiven (word_automaton s k st mk) t ls node_table st s k (length ls) =
      lent ls ks st s k l m A node_table (answer-cells L) mk t e d in
      whole mk t e d true true r L (S (word_automaton s k st mk) t C) (M (word_automaton s k st mk) t C)
