-- The writers of the tables of colours, one after the other: the node table, then states and colours' tables.
--     node-args, word-args   what each needs
--     filled                 what they leave together
use Prim.Native.Nat.{ℕ, ◌+◌, ◌*◌, ◌≤◌, ◌<◌}
use mathlib.Core.Path.{◌≡◌, sym, ap, ◌∙◌}
use mathlib.Core.List.{List, ◌++◌}
use native.Mathlib.Omega.{arith}
use lib.ListN.{length, get_or, drop, get_or-append}
use Rattle.list_laws.proofs.AppendLaws.{get_d_past}
use Rattle.list_laws.proofs.RowLaws.{stride}
use Rattle.trees.specs.Tree.{Tree, size, kinds_of, labels_of}
use Rattle.trees.specs.Tables.{node_table_of}
use Rattle.trees.proofs.NodeLaws.{length-labels, length-kinds}
use Rattle.trees.proofs.PostorderLaws.{tree-postorder}
use Rattle.formats.specs.Checks.{node_table_length}
use Rattle.tables.specs.node_tables.Cells.{NodeTableArgs}
use Rattle.tables.specs.node_tables.NodeCells.{NodeCells}
use Rattle.tables.proofs.node_tables.CellLaws.{length-node_table_of, take-table, link-cells}
use Rattle.colour_tables.proofs.LayoutLaws.{numbers-over, copies-over}
use Rattle.colour_tables.specs.states.Written.{CopiesFrom}
use Rattle.colour_tables.proofs.states.CopyLoop.{first-elsewhere, past-elsewhere, copies-colours}
use Rattle.colour_tables.specs.states.inner.WordPass.{step_by, WordGiven, WordsFrom, WordArgs}
use Rattle.colour_tables.specs.branch.inner.Filled.{FillArgs, Filled}

-- what the build of the node table leaves
abbrev pub Linked : List ℕ → List ℕ → List ℕ → Type 0
Linked ks numbers numbers' =
    (t : Tree) → kinds_of t ≡ ks → numbers' ≡ node_table_of t ++ drop (node_table_length (length ks)) numbers

-- what the pass over the states leaves
abbrev pub Stated : List ℕ → List ℕ → ℕ → ℕ → List ℕ → List ℕ → List ℕ → List ℕ → Type 0
Stated ls st s k bytes numbers bytes' numbers' =
    (t : Tree) → WordGiven ls numbers t → WordsFrom s k st t 0 bytes numbers bytes' numbers'

module _ (ls ks st : List ℕ) (s k l m : ℕ) (A : FillArgs ls ks st s k l m) where
  some : 0 < s
  some = omega (arith, A.steps_below 0)

  kinds-count : length ks ≡ length ls
  kinds-count = ap length (sym A.kinds) ∙ length-kinds A.tree ∙ sym (length-labels A.tree)
      ∙ ap length A.labels

  pub node-args : NodeTableArgs ks l
  node-args = record {
    postorder = rw (← A.kinds) (tree-postorder A.tree);
    most = omega (arith, kinds-count, A.most);
    room = omega (arith, kinds-count, A.numbers_room, stride (length ls * 4) 0 s some);
  }

  size_is : (t : Tree) → labels_of t ≡ ls → size t ≡ length ls
  size_is t e = sym (length-labels t) ∙ ap length e

  kinds-size : (t : Tree) → kinds_of t ≡ ks → length ks ≡ size t
  kinds-size t e = ap length (sym e) ∙ length-kinds t

  -- once the node table is written
  module _ (a b : List ℕ) (W : Linked ks a b) (lb : length b ≡ l) where
    cells : (t : Tree) → kinds_of t ≡ ks → NodeCells t b
    cells t e =
        let z : length ks ≡ size t = kinds-size t e in
        rw (W t e) (link-cells t (length ks) _ z (take-table t (length ks) _ z))

    given : (t : Tree) → kinds_of t ≡ ks → labels_of t ≡ ls → WordGiven ls b t
    given t e d = record { labels = d; parents = λ v h. (cells t e).parents v (omega arith) }

    pub word-args : (bytes : List ℕ) → length bytes ≡ m → WordArgs ls st s k b bytes
    word-args bytes lm = record {
      tree = A.tree;
      given = given A.tree A.kinds A.labels;
      most = A.most;
      few = A.few;
      label_most = A.label_most;
      below = A.labels_below;
      steps_room = A.steps_room;
      step_below = A.steps_below;
      number_room = rw lb A.numbers_room;
      byte_room = rw lm A.bytes_room;
    }

    -- once the states are written
    pub filled : (bytes bytes' b' : List ℕ) → Stated ls st s k bytes b bytes' b' → length a ≡ l → length b' ≡ l
        → length bytes ≡ m → length bytes' ≡ m → Filled ls ks st s k a bytes b' bytes'
    filled bytes bytes' b' S la lb' lm lm' t e d =
        let step : ℕ → ℕ → ℕ = step_by st k t in
        let n : size t ≡ length ls = size_is t d in
        let C : CopiesFrom s step t 0 0 bytes b bytes' b' = S t (given t e d) in
        let z : length ks ≡ size t = kinds-size t e in
        let w : b ≡ node_table_of t ++ drop (size t * 4) a =
        W t e ∙ ap (λ (x : ℕ). node_table_of t ++ drop (x * 4) a) z in
        let g : length (node_table_of t) ≡ size t * 4 = length-node_table_of t in
        let few : s * (size t * 4) ≤ l = rw n A.numbers_room in
        let first : size t * 4 ≤ s * (size t * 4) = omega (arith, stride (size t * 4) 0 s some) in
        record {
          numbers_are = numbers-over s step t a b' (lb' ∙ sym la) (omega arith)
              (λ j h. C.kept j (first-elsewhere (size t) s j h) ∙ ap (λ (x : List ℕ). get_or x j 0) w
              ∙ get_or-append (node_table_of t) (drop (size t * 4) a) 0 j (omega (arith, g)))
              (copies-colours s step t 0 bytes b bytes' b' C)
              (λ j h. C.kept j (past-elsewhere (size t) s j h) ∙ ap (λ (x : List ℕ). get_or x j 0) w
              ∙ get_d_past (node_table_of t) a (size t * 4) j g (omega arith));
          bytes_are = copies-over s step t (λ v q h. A.steps_below _) bytes bytes' (lm' ∙ sym lm)
              (rw (n, lm) A.bytes_room)
              (λ v c h i. (let q : v * s + c ≡ 0 + v * s + c = omega arith in
              ap (λ (x : ℕ). get_or bytes' x 0) q ∙ C.rows v (omega arith) h c i))
              (λ j h. C.rest j (omega arith));
        }
