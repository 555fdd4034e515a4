-- What the functions of a part require, and what they promise.
--
-- colour_view n s k .. == the view of all runs
-- SideReads == what a side reads is inside; SideArgs, ForkArgs, LeafArgs, PartArgs == besides, what each function reads
-- SideFew s own other r == a state that was found is below s, by at most 60 drops, each with at most 65,535 links;
--   without trials where there is no root below, or one below its sibling too
-- Untried r == so: without a drop
use Rattle.std.specs.Prelude.{ℕ, ◌+◌, ◌*◌, ◌≤◌, ◌<◌, ◌^◌, ◌≡◌, List, length, get_or, Option as Given, Some, None}
use Rattle.std.proofs.Math.Option.{Option}
use Rattle.formats.specs.Checks.{node_table_length, state_table_length}
use Rattle.questions.specs.inner.PartArgs.{part_view}
use Rattle.colours.specs.StateSets.{Tried}
use Rattle.colour_questions.specs.declared.target_states.trials.Trial.{Trial}
use Rattle.colour_questions.specs.target_states.Trials.{trial_of, FewIn}
use Rattle.colour_questions.specs.parts.Part.{ColourView}

abbrev pub colour_view : ℕ → ℕ → ℕ → List ℕ → List ℕ → List ℕ → List ℕ → List ℕ → List ℕ → List ℕ → List ℕ → ColourView
colour_view n s k ls ks lv inn node_table state_table numbers copies =
    record { view = part_view n s k ls ks lv inn node_table state_table; numbers = numbers; copies = copies }

pub record SideReads (n s m : ℕ) (state_table numbers copies : List ℕ) : Type 0 where
  pub most : n ≤ 65535
  pub states : s ≤ 4
  pub few : m ≤ 16
  pub state_table_room : state_table_length n s ≤ length state_table
  pub room : m * (n * 4) ≤ length numbers
  pub copies_room : n * m ≤ length copies

-- the entry at place `own`, if it is one, is a root among the nodes
pub record SideArgs (n s m : ℕ) (state_table numbers copies es qs : List ℕ) (c own : ℕ) : Type 0 where
  pub reads : SideReads n s m state_table numbers copies
  pub at : c < n
  pub same : length es ≡ length qs
  pub place : own ≤ length es
  pub inside : (i : ℕ) → own ≡ i + 1 → get_or es i 0 < n

pub record ForkArgs (n s k m : ℕ) (inn node_table state_table numbers copies es qs : List ℕ) (v l : ℕ) : Type 0 where
  pub reads : SideReads n s m state_table numbers copies
  pub labels : k ≤ 64
  pub inner_room : s * k * s ≤ length inn
  pub node_table_room : node_table_length n ≤ length node_table
  pub at : v < n
  pub left : l < v
  pub same : length es ≡ length qs
  pub many : length es ≤ 65535

pub record LeafArgs (s k : ℕ) (lv : List ℕ) : Type 0 where
  pub few : s ≤ 4
  pub room : k ≤ length lv

-- what the parts of a question read, whichever they are
pub record PartReads (n s k m : ℕ) (ls ks lv inn node_table state_table numbers copies vs bs : List ℕ) : Type 0 where
  pub reads : SideReads n s m state_table numbers copies
  pub sets : m ≡ 2 ^ s
  pub labels : k ≤ 64
  pub labels_room : n ≤ length ls
  pub kinds_room : n ≤ length ks
  pub leaves_room : k ≤ length lv
  pub inner_room : s * k * s ≤ length inn
  pub node_table_room : node_table_length n ≤ length node_table
  pub same_list : length vs ≡ length bs
  pub many_list : length vs ≤ 65535

pub record PartArgs (n s k m : ℕ) (ls ks lv inn node_table state_table numbers copies es qs vs bs : List ℕ) (v : ℕ) :
    Type 0 where
  pub reads : PartReads n s k m ls ks lv inn node_table state_table numbers copies vs bs
  pub at : v < n
  pub same : length es ≡ length qs
  pub many : length es ≤ 65535

abbrev pub Untried : Given Trial → Type 0
Untried None = Unit {0}
Untried (Some t) = t.drops ≡ 0

pub record SideFew (s own other : ℕ) (r : Given Trial) : Type 0 where
  pub all : FewIn s 60 r
  pub run : own ≡ 0 → Untried r
  pub both : ¬ (other ≡ 0) → Untried r

-- ---- what they promise

pub record SideDone (s own other : ℕ) (o : Option Tried) (r : Given Trial) : Type 0 where
  pub result : r ≡ trial_of o
  pub bounds : SideFew s own other r

pub record PartDone (s : ℕ) (o : Option Tried) (r : Given Trial) : Type 0 where
  pub result : r ≡ trial_of o
  pub bounds : FewIn s 60 r
