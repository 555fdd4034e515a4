-- What is established about colours, each in a line or two from what is below.
--     colours-one-each      every state of every copy has exactly one colour, for any number of states and any steps
--     colours-only-fall     a colour lands on itself or on a lower one, which has the state that its state leads to
--     drops-below-colours   so a way down has fewer drops than there are colours
--     word-upper, word_below a branch answer by colours is the word automaton's, for either reading: S - 1 drops at
--     most
--     set-targets           the state of a part's climb, by trying target states in rising order: 60 drops at most
--     links-limit           each search takes at most 45 links
use Prim.Native.Nat.{ℕ, suc, ◌-◌, ◌*◌, ◌≤◌, ◌<◌}
use mathlib.Core.Path.{◌≡◌, ap, ◌∙◌}
use mathlib.Core.List.{List}
use native.Mathlib.Omega.{arith}
use lib.ListN.{get_or}
use Rattle.trees.specs.Tree.{Tree, size, height}
use Rattle.trees.specs.Automaton.{Automaton, WordAutomaton}
use Rattle.trees.specs.Numbering.{depth, ancestor, word, lower_word, AtOrBelow}
use Rattle.trees.specs.Climb.{walk, digits}
use Rattle.trees.specs.Tables.{step_up}
use Rattle.trees.proofs.HeightLaws.{height-limit}
use Rattle.trees.proofs.Digits.{digits-limit}
use Rattle.colours.specs.Colouring.{Colouring}
use Rattle.colours.specs.Copies.{copy, copy_above, lands_at, drops_down}
use Rattle.colours.specs.Words.{with_upper, below_upper}
use Rattle.colours.specs.StateSets.{try_targets, trial_drops, drops_from}
use Rattle.colours.proofs.CopyLaws.{copy-colouring, lands_at-le, lands_at-state}
use Rattle.colours.proofs.PathLaws.{drops-le}
use Rattle.colours.proofs.DescentLaws.{all-le}
use Rattle.colours.specs.Descents.{AllLe}
use Rattle.colours.proofs.WordLaws.{upper-answer, below-answer}
use Rattle.colours.specs.Answers.{WordAnswer}
use Rattle.colours.proofs.SetLaws.{Found, targets, targets-sixty}
use Rattle.colours.specs.Answers.{SetAnswer}

module _ (n : ℕ) (step : ℕ → ℕ → ℕ) (t : Tree) (keeps : (v q : ℕ) → q < n → step v q < n) where
  pub colours-one-each : (v : ℕ) → Colouring n (copy n step t v)
  colours-one-each v = copy-colouring n step t keeps v

  pub colours-only-fall : (c v : ℕ) → c < n
      → (lands_at n step t c v ≤ c)
      × (get_or (copy n step t v) (lands_at n step t c v) 0 ≡ step v (get_or (copy_above n step t v) c 0))
  colours-only-fall c v h = (lands_at-le n step t keeps c v h, lands_at-state n step t keeps c v h)

  pub drops-below-colours : (l k c : ℕ) → c < n → drops_down n step t l k c ≤ n - 1
  drops-below-colours l k c h = omega (arith, drops-le n step t keeps l k c h)

-- "a branch answer by colours is that of the climb, for either reading of the word, and its drops .. are at most S-1"
module _ (B : WordAutomaton) (t : Tree) (below : (q a : ℕ) → B.step q a < B.states)
    (u l : ℕ) (h : l < size t) (A : AtOrBelow t u l) where
  pub word-upper : WordAnswer B t l (word t u l) (with_upper B t u l)
  word-upper = upper-answer B t below u l h A

  pub word_below : WordAnswer B t l (lower_word t u l) (below_upper B t u l)
  word_below = below-answer B t below u l h A

pub set-targets : (A : Automaton) (t : Tree) → ((p a q : ℕ) → A.δ p a q < A.states) → A.states ≤ 4 → (c w k q : ℕ)
    → w < size t → k ≤ depth t w → ancestor t w k ≡ c → q < A.states → SetAnswer A t c w k q
unfolding try_targets
set-targets A t below s c w k q h l e b =
    let F : Found A t below c w k q h l e b A.states 0 = targets A t below c w k q h l e b in
    record {
      searches = F.searches;
      found = F.found;
      drops_are = F.drops_are ∙ ap (drops_from (trial_drops A t c w k) 0) (let z : suc (walk (step_up A t) t w k q) - 0
          ≡ suc (walk (step_up A t) t w k q) = omega arith in z);
      falls = targets-sixty A t below c w k q h l e b s;
      few = F.few;
    }

-- "the moves are the links, at most 45"
pub links-limit : (t : Tree) (searches : List ℕ) → size t ≤ 65535 → AllLe (3 * digits (height t)) searches
    → AllLe 45 searches
links-limit t searches s h =
    all-le (3 * digits (height t)) 45 searches (omega (arith, digits-limit (height t) (height-limit t s))) h
