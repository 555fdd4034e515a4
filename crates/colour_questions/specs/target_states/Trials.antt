-- Trials of target states on given numbers and copies, as the code has them.
--
-- trial q d k == state q found by d drops and k links; trial_of o == the answer for what trials found
-- TargetArgs, TargetsArgs == what one trial reads, and what all read, is inside: at most 16 colours, four states
-- Outcome T rows c w q x holds drops links == what came of one trial, with few drops and links; TestDone T rows c w q x r
--   == that, or that it has no end
-- Few s most q drops links == q is below s, with at most `most` drops, each with at most 65,535 links; FewIn s most r ==
--   so of a state that was found
-- TargetsDone s T rows c w q r == the trials of s target states: what they find, with at most 15 drops for each
use Rattle.std.specs.Prelude.{ℕ, ◌*◌, ◌≤◌, ◌<◌, ◌≡◌, Bool, cond, List, length, Option as Given, Some, None}
use Rattle.std.proofs.Math.Option.{Option, none, some}
use Rattle.colours.specs.Descents.{ColourTable, sum}
use Rattle.colours.specs.StateSets.{Tried, tried, after_trial, try_one, try_from}
use Rattle.colour_questions.specs.declared.target_states.trials.Trial.{Trial}
use Rattle.colour_questions.specs.declared.target_states.trials.Tested.{Tested}

abbrev pub trial : ℕ → ℕ → ℕ → Trial
trial q d k = record { state = q; drops = d; links = k }

unfoldable pub trial_of : Option Tried → Given Trial
trial_of none = None
trial_of (some r) = Some (trial r.state (length r.searches) (sum r.searches))

pub record TargetsArgs (n s m : ℕ) (numbers copies : List ℕ) (c w q : ℕ) : Type 0 where
  pub most : n ≤ 65535
  pub states : s ≤ 4
  pub few : m ≤ 16
  pub room : m * (n * 4) ≤ length numbers
  pub copies_room : n * m ≤ length copies
  pub upper : c < n
  pub lower : w < n
  pub state : q < 8

pub record TargetArgs (n m : ℕ) (numbers copies : List ℕ) (c w q x : ℕ) : Type 0 where
  pub all : TargetsArgs n 4 m numbers copies c w q
  pub target : x < 4

pub record Outcome (T : ColourTable) (rows : ℕ → List ℕ) (c w q x : ℕ) (holds : Bool) (drops links : ℕ) : Type 0 where
  pub searches : List ℕ
  pub number : length searches ≡ drops
  pub total : sum searches ≡ links
  pub falls : drops ≤ 15
  pub few : links ≤ drops * 65535
  pub is : (later : Option Tried)
      → try_one T rows c w q x later ≡ cond holds (some (tried x searches)) (after_trial searches later)

abbrev pub TestDone : ColourTable → (ℕ → List ℕ) → ℕ → ℕ → ℕ → ℕ → Given Tested → Type 0
TestDone T rows c w q x None = (later : Option Tried) → try_one T rows c w q x later ≡ none
TestDone T rows c w q x (Some t) = Outcome T rows c w q x t.holds t.drops t.links

pub record Few (s most q drops links : ℕ) : Type 0 where
  pub state : q < s
  pub falls : drops ≤ most
  pub few : links ≤ drops * 65535

abbrev pub FewIn : ℕ → ℕ → Given Trial → Type 0
FewIn s most None = Unit {0}
FewIn s most (Some t) = Few s most t.state t.drops t.links

pub record TargetsDone (s : ℕ) (T : ColourTable) (rows : ℕ → List ℕ) (c w q : ℕ) (r : Given Trial) : Type 0 where
  pub result : r ≡ trial_of (try_from T rows c w q s 0)
  pub bounds : FewIn s (s * 15) r
