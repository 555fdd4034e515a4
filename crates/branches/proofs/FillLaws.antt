-- The writers of a plan's tables for a branch table, one after the other: the links, the state bytes, the maps.
--     fill-link-args, branch-args        what each needs; fill-branch-args: after the links are written
--     filled                             what they leave together
use Prim.Native.Nat.{ℕ}
use mathlib.Core.Path.{◌≡◌, refl, sym, ap, ◌∙◌}
use mathlib.Core.List.{List, [], ◌++◌}
use native.Mathlib.Omega.{arith}
use lib.ListN.{length, drop}
use Rattle.trees.specs.Tree.{Tree, size, kinds_of, labels_of}
use Rattle.trees.specs.Automaton.{WordAutomaton}
use Rattle.trees.specs.Tables.{node_table_of, branch_table_of, branch_state, branch_map}
use Rattle.trees.proofs.NodeLaws.{length-labels, length-kinds}
use Rattle.trees.proofs.PostorderLaws.{tree-postorder}
use Rattle.formats.specs.Rules.{word_automaton}
use Rattle.formats.specs.Checks.{node_table_length}
use Rattle.tables.specs.node_tables.Cells.{NodeTableArgs}
use Rattle.tables.specs.node_tables.NodeCells.{NodeCells}
use Rattle.tables.proofs.node_tables.CellLaws.{take-table, link-cells}
use Rattle.tables.proofs.MapTableLaws.{passes-written}
use Rattle.branches.specs.inner.BranchGiven.{BranchGiven, BranchArgs, StatesFrom, Stepped}
use Rattle.branches.specs.inner.Maps.{Mapped}
use Rattle.branches.specs.inner.Filled.{FillArgs, BranchFilled}

-- what the build of the links leaves
abbrev pub Linked : List ℕ → List ℕ → List ℕ → Type 0
Linked ks node_table node_table' = (t : Tree) → kinds_of t ≡ ks → node_table' ≡ node_table_of t ++ drop (node_table_length (length ks)) node_table

-- a table of links that has the cells of every tree with these kinds
abbrev pub AllCells : List ℕ → List ℕ → Type 0
AllCells ks node_table = (t : Tree) → kinds_of t ≡ ks → NodeCells t node_table

module _ (ls ks st : List ℕ) (s k l m : ℕ) (A : FillArgs ls ks st s k (length ls) l m) where
  kinds-count : length ks ≡ length ls
  kinds-count = ap length (sym A.kinds) ∙ length-kinds A.tree ∙ A.count

  pub fill-link-args : NodeTableArgs ks l
  fill-link-args = record {
    postorder = rw (← A.kinds) (tree-postorder A.tree);
    most = omega (arith, kinds-count, A.most);
    room = omega (arith, kinds-count, A.node_table_room);
  }

  size_is : (t : Tree) → labels_of t ≡ ls → size t ≡ length ls
  size_is t e = sym (length-labels t) ∙ ap length e

  pub kinds-size : (t : Tree) → kinds_of t ≡ ks → length ks ≡ size t
  kinds-size t e = ap length (sym e) ∙ length-kinds t

  -- with a table of links as built
  module _ (node_table : List ℕ) (cells : AllCells ks node_table) where
    pub lent : (mk : List ℕ) (t : Tree) → kinds_of t ≡ ks → labels_of t ≡ ls
        → BranchGiven (word_automaton s k st mk) t ls node_table st s k (length ls)
    lent mk t e d = record {
      states = refl;
      step = λ q a. refl;
      labels = d;
      count = size_is t d;
      links = cells t e;
    }

    pub branch-args : length node_table ≡ l → BranchArgs ls node_table st s k (length ls) m
    branch-args e = record {
      automaton = word_automaton s k st [];
      tree = A.tree;
      lent = lent [] A.tree A.kinds A.labels;
      few = A.few;
      node_table_room = omega (arith, A.node_table_room);
      room = A.room;
      steps_room = A.steps_room;
      steps_below = A.steps_below;
      labels_below = A.labels_below;
    }

  -- once the build has written it
  module _ (node_table node_table' : List ℕ) (W : Linked ks node_table node_table') where
    linked-cells : AllCells ks node_table'
    linked-cells t e =
        let z : length ks ≡ size t = kinds-size t e in
        rw (W t e) (link-cells t (length ks) _ z (take-table t (length ks) _ z))

    pub fill-branch-args : length node_table' ≡ l → BranchArgs ls node_table' st s k (length ls) m
    fill-branch-args e = branch-args node_table' linked-cells e

    pub filled : (b₀ b₁ b₂ : List ℕ) → length b₀ ≡ m → length b₂ ≡ length b₀
        → Stepped ls node_table' st s k (length ls) 0 b₀ b₁ → Mapped ls node_table' st s k (length ls) 0 b₁ b₂
        → BranchFilled ls ks st s k node_table b₀ node_table' b₂
    unfolding branch_table_of
    filled b₀ b₁ b₂ e f S M mk t p d =
        let B : WordAutomaton = word_automaton s k st mk in
        let L : BranchGiven B t ls node_table' st s k (length ls) = lent node_table' linked-cells mk t p d in
        let F : StatesFrom s (branch_state B t) (length ls) 0 b₀ b₁ = S B t L in
        record {
          links = rw (← kinds-size t p) (W t p);
          states = rw (size_is t d)
              (passes-written s (length ls) (branch_map B t) (branch_state B t) b₀ b₁ b₂ f
              (omega (arith, A.room)) (λ v h. F.cells v (omega arith) h) F.kept (M B t L));
        }
