-- The pass over the sets.
--     set-args   what it needs
--     filled     what it leaves
use Prim.Native.Nat.{ℕ, ◌^◌}
use mathlib.Core.Path.{◌≡◌}
use mathlib.Core.List.{List}
use native.Mathlib.Omega.{arith}
use lib.ListN.{length}
use Rattle.trees.specs.Tree.{Tree, kinds_of, size}
use Rattle.formats.specs.Rules.{tree_automaton}
use Rattle.formats.specs.Checks.{state_table_length}
use Rattle.tables.specs.inner.Maps.{Prepared}
use Rattle.colours.specs.StateSets.{set_step}
use Rattle.colour_tables.specs.states.Written.{CopiesFrom}
use Rattle.colour_tables.proofs.states.CopyLoop.{first-elsewhere, past-elsewhere, copies-colours}
use Rattle.colour_tables.specs.set_states.SetPass.{SetsFrom, SetArgs}
use Rattle.colour_tables.specs.rule.inner.Filled.{SetFillArgs, SetsFilled, AllFilled}

-- what the pass over the sets leaves
abbrev pub Stated : List ℕ → List ℕ → ℕ → ℕ → ℕ → ℕ → List ℕ → List ℕ → List ℕ → List ℕ → Type 0
Stated ls inn s k count base bytes numbers bytes' numbers' =
    (lv mk : List ℕ) (t : Tree) → Prepared s k lv inn mk t (kinds_of t) ls numbers bytes
    → SetsFrom s k lv inn mk count base t 0 bytes numbers bytes' numbers'

module _ (ls inn : List ℕ) (s k : ℕ) (numbers bytes : List ℕ) (A : SetFillArgs ls inn s k numbers bytes)
    (count base : ℕ) (ec : count ≡ 2 ^ s) (eb : base ≡ state_table_length (length ls) s) where
  pub set-args : SetArgs ls inn s k count base numbers bytes
  set-args = record {
    tree = A.tree;
    leaves = A.leaves;
    marks = A.marks;
    given = A.given;
    rules = A.rules;
    few = A.few;
    most = A.most;
    below = A.below;
    count_is = ec;
    base_is = eb;
    number_room = rw ec A.numbers_room;
    byte_room = rw (ec, eb) A.bytes_room;
  }

  pub filled : (bytes' numbers' : List ℕ) → Stated ls inn s k count base bytes numbers bytes' numbers'
      → AllFilled ls inn s k numbers bytes numbers' bytes'
  filled bytes' numbers' S lv mk t P =
      let step : ℕ → ℕ → ℕ = set_step (tree_automaton s k lv inn mk) t in
      let C : CopiesFrom count step t base 0 bytes numbers bytes' numbers' = S lv mk t P in
      let R : SetsFilled count base step t numbers bytes numbers' bytes' = record {
        cells = copies-colours count step t base bytes numbers bytes' numbers' C;
        first = λ j h. C.kept j (first-elsewhere (size t) count j h);
        rest = λ j h. C.kept j (past-elsewhere (size t) count j h);
        rows = λ v h c i. C.rows v (omega arith) h c i;
        front = C.front;
        past = C.rest;
      } in
      rw (← ec, ← eb) R
