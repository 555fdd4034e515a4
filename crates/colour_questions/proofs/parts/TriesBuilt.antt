-- On numbers and copies as built the trials are those by the tree's own colours.
--     SidesBuilt    the given numbers and copies are those of the tree's own colours
--     tries-built   so from any node to any node
use Prim.Native.Nat.{ℕ, zero, suc, ◌<◌}
use mathlib.Core.Path.{◌≡◌, refl, ap, ap₂, ◌∙◌}
use mathlib.Core.Bool.{Bool, true, false, cond}
use mathlib.Core.List.{List}
use mathlib.Core.Option.{Option, none, some}
use native.Mathlib.Omega.{arith}
use lib.Dec.{ltb}
use lib.ListN.{length}
use borrow.Author.Tests.{ltb-true}
use Rattle.trees.specs.Tree.{Tree, size}
use Rattle.trees.specs.Automaton.{Automaton}
use Rattle.trees.specs.Climb.{and_then}
use Rattle.colours.specs.Descents.{ColourTable, Descent, descend}
use Rattle.colours.specs.StateSets.{member, set_step, set_count, set_table, set_copies, target_colour, set_at, Tried, tried}
use Rattle.colours.specs.StateSets.{after_trial, try_one, try_from, try_targets}
use Rattle.colours.proofs.CopyLaws.{copy-colouring}
use Rattle.colours.proofs.SetLaws.{set_step-below}
use Rattle.colour_tables.specs.ColourCells.{cell_table}
use Rattle.colour_tables.specs.AsBuilt.{ColourCells}
use Rattle.colour_tables.proofs.BuiltLaws.{descend-built}

pub record SidesBuilt (A : Automaton) (t : Tree) (numbers : List ℕ) (rows : ℕ → List ℕ) : Type 0 where
  pub cells : ColourCells (set_count A) (set_step A t) t numbers
  pub copies : (v : ℕ) → v < size t → rows v ≡ set_copies A t v

module _ (A : Automaton) (t : Tree) (numbers : List ℕ) (rows : ℕ → List ℕ) (B : SidesBuilt A t numbers rows)
    (c w q : ℕ) (hc : c < size t) (hw : w < size t) where
  abbrev T : ColourTable
  T = cell_table (size t) numbers

  abbrev U : ColourTable
  U = set_table A t

  abbrev own : ℕ → List ℕ
  own = set_copies A t

  -- with the same copies, by the tree's own table
  same_way : (k : ℕ) → k < length (set_copies A t c) → descend T k (some c) w k ≡ descend U k (some c) w k
  same_way k h =
      let n = (copy-colouring (set_count A) (set_step A t) t (set_step-below A t) c).count in
      descend-built (set_count A) (set_step A t) t numbers B.cells k (some c) w k hw (omega (arith, h, n)) hc

  one-built : (x : ℕ) (later : Option Tried) → try_one T rows c w q x later ≡ try_one U own c w q x later
  unfolding try_one
  one-built x later =
      ap₂ (λ (a b : List ℕ). cond (ltb (target_colour (λ _. a) c x) (length a))
      (and_then (descend T (target_colour (λ _. a) c x) (some c) w (target_colour (λ _. a) c x)) (λ d.
      cond (member (set_at (λ _. b) w d) q) (some (tried x d.searches)) (after_trial d.searches later))) none)
      (B.copies c hc) (B.copies w hw)
      ∙ go (ltb (target_colour own c x) (length (own c))) refl
    where
      go : (b : Bool) → ltb (target_colour own c x) (length (own c)) ≡ b
          → cond b (and_then (descend T (target_colour own c x) (some c) w (target_colour own c x)) (λ d.
          cond (member (set_at own w d) q) (some (tried x d.searches)) (after_trial d.searches later))) none
          ≡ cond b (and_then (descend U (target_colour own c x) (some c) w (target_colour own c x)) (λ d.
          cond (member (set_at own w d) q) (some (tried x d.searches)) (after_trial d.searches later))) none
      go true e =
          ap (λ (o : Option Descent). and_then o (λ d.
          cond (member (set_at own w d) q) (some (tried x d.searches)) (after_trial d.searches later)))
          (same_way (target_colour own c x) (ltb-true (target_colour own c x) (length (own c)) e))
      go false e = refl

  from-built : (f x : ℕ) → try_from T rows c w q f x ≡ try_from U own c w q f x
  unfolding try_from
  from-built zero x = refl
  from-built (suc f) x = one-built x (try_from T rows c w q f (suc x)) ∙ ap (try_one U own c w q x) (from-built f (suc x))

  pub tries-built : try_from (cell_table (size t) numbers) rows c w q A.states 0 ≡ try_targets A t c w q
  unfolding try_targets
  tries-built = from-built A.states 0
