-- A whole table of states: the run's pass, then the maps' pass.
--     length-state_table_of   S + 1 bytes a node
--     map-args            after the first pass the second can be made
--     states-over         both give the state table, and the excess as before
use Prim.Native.Nat.{ℕ, ◌+◌, ◌*◌}
use mathlib.Core.Path.{◌≡◌}
use mathlib.Core.List.{List, []}
use native.Mathlib.Omega.{arith}
use lib.ListN.{length}
use Rattle.trees.specs.Tree.{Tree, kinds_of, labels_of, size}
use Rattle.trees.specs.Automaton.{Automaton, state}
use Rattle.trees.specs.Numbering.{sub}
use Rattle.trees.specs.Tables.{state_map, state_row, state_table_of}
use Rattle.trees.proofs.PostorderLaws.{postorder-tree}
use Rattle.list_laws.proofs.RowLaws.{length-rows}
use Rattle.trees.proofs.TableRows.{length-state_row}
use Rattle.trees.proofs.PostorderLaws.{size_of}
use Rattle.formats.specs.Rules.{tree_automaton}
use Rattle.tables.specs.node_tables.NodeCells.{NodeCells}
use Rattle.tables.specs.inner.States.{RunWritten, Runs}
use Rattle.tables.specs.inner.Maps.{Prepared, MapArgs, Maps}
use Rattle.tables.specs.inner.Written.{TableArgs, StatesOver}
use Rattle.tables.proofs.MapTableLaws.{passes-written}

pub length-state_table_of : (A : Automaton) (t : Tree) → length (state_table_of A t) ≡ size t * (A.states + 1)
unfolding state_table_of
length-state_table_of A t = length-rows (size t) (A.states + 1) (state_row A t) (λ v h. length-state_row A t v)

module _ (ks ls b lv inn : List ℕ) (s k : ℕ) (e st : List ℕ) (args : TableArgs ks ls b lv inn s k (length e))
    (R : Runs s k lv inn ks ls (length ks) e st) where
  prepared : (mk : List ℕ) (t : Tree) → kinds_of t ≡ ks → labels_of t ≡ ls → Prepared s k lv inn mk t ks ls b st
  prepared mk t x y =
      let L : NodeCells t b = args.links t x in
      record {
        kinds = x;
        labels = y;
        parents = L.parents;
        jumps = L.jumps;
        sizes = L.sizes;
        states = λ v h. (R mk t x y).states v (omega (arith, size_of t ks x));
      }

  pub map-args : length st ≡ length e → MapArgs ks ls b inn s k st
  map-args same =
      let T : (t : Tree) × (kinds_of t ≡ ks) × (labels_of t ≡ ls) = postorder-tree ks ls args.run.count
      args.run.postorder in
      record {
        leaves = lv;
        tree = T.0;
        prepared = prepared [] T.0 T.1 T.2;
        rules = args.run.rules;
        some = args.some;
        most = args.run.most;
        below = args.run.below;
        link_room = omega (arith, args.run.link_room, args.run.count);
        room = rw (args.run.count, same) args.run.room;
      }

  pub states-over : (after : List ℕ) → length after ≡ length e → Maps ks ls b inn s k 0 st after
      → StatesOver s k lv inn ks
      ls e after
  unfolding state_table_of
  states-over after same M mk t x y =
      let A : Automaton = tree_automaton s k lv inn mk in
      let z : length ks ≡ size t = size_of t ks x in
      let ran : RunWritten A t (length ks) e st = R mk t x y in
      rw z (passes-written s (size t) (state_map A t) (λ v. state A (sub t v)) e st after same
      (rw (← z) args.run.room)
      (λ v h. ran.states v (omega arith)) ran.kept (M lv mk t (prepared mk t x y)))
