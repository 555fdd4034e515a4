-- What an accepted question by colours answers (document 02, S-14).
--
-- WordColourAnswer reading p r u l n state yes drops links == on tables as built: the word automaton's answer, with the
--   drops counted on the tree and the links of the tree's own descent
-- WordCopiesAnswer .. == on any copies: what the descent by the tree's own colours reads there
-- side_drops A t u ms c == the drops of the trials at child c of a part: of every target state from 0 up to the state
--   that follows at c from the highest member below it, whose state is that of the changed tree u
-- part_drops A t u ms v == the drops of the part of root v: those of its one side, none where it has members below both
--   children or below none
-- RuleColourAnswered p r vs bs n state yes drops links parts == on tables as built: the fresh run's answer, with the
--   drops counted on the tree part by part and the links of its searches
-- RuleTrialsAnswered .. == on run states that are any bytes below S: what the parts by their trials give on them
use Rattle.std.specs.Prelude.{ℕ, suc, ◌-◌, ◌*◌, ◌≤◌, ◌+◌, ◌≡◌, cond, eqb, length, get_or}
use mathlib.Core.List.{List, [], Memᴰ}
use Rattle.std.proofs.Math.Option.{some}
use Rattle.trees.specs.Tree.{Tree, kind_at}
use Rattle.trees.specs.Automaton.{Automaton, word_run, state}
use Rattle.trees.specs.Numbering.{sub, depth}
use Rattle.trees.specs.Climb.{walk}
use Rattle.trees.specs.Tables.{step_up}
use Rattle.formats.specs.Plan.{plan_tree}
use Rattle.formats.specs.Rules.{state_count, branch_automaton, rule_automaton}
use Rattle.branches.specs.declared.answers.Reading.{Reading}
use Rattle.branches.specs.Promise.{word_of}
use Rattle.questions.specs.ready.Ready.{left_child, right_child}
use Rattle.questions.specs.ready.Parts.{any_below, highest_below, last_state, sum_of}
use Rattle.runs.specs.FreshRun.{changed_tree, root_state}
use Rattle.colours.specs.marks.Marks.{bit}
use Rattle.colours.specs.Descents.{Descent, sum, descend, colour_table_of, AllLe}
use Rattle.colours.specs.Words.{word_step}
use Rattle.colours.specs.StateSets.{trial_drops, drops_from}
use Rattle.colour_questions.specs.branch.Question.{colour_in}
use Rattle.colour_questions.specs.branch.Promise.{word_descent, word_drops, word_start}
use Rattle.colour_questions.specs.parts.OneSided.{is_one_sided}
use Rattle.colour_questions.specs.parts.Trials.{tried_parts, trials_from}
use Rattle.colour_questions.specs.rule.Promise.{roots_left, searches_left, given_lent}
use Rattle.capi.specs.numbers.Numbers.{bit_of}

-- ---- words

pub record WordColourAnswer (reading : Reading) (p r : List ℕ) (u l n state yes drops links : ℕ) : Type 0 where
  pub accepted : n ≡ 0
  pub state_is : state ≡ word_run (branch_automaton r) 0 (word_of reading (plan_tree p) u l)
  pub yes_is : yes ≡ bit_of ((branch_automaton r).accepting state)
  -- "its drops, the places on the path where the colour falls, are at most S-1"
  pub drops_are : drops ≡ word_drops reading (branch_automaton r) (plan_tree p) u l
  pub drops_most : drops ≤ state_count r - 1
  -- a search for each drop, by the tree's own colours; "the moves are the links, at most 45"
  pub way : Descent
  pub found : word_descent reading (branch_automaton r) (plan_tree p) u l ≡ some way
  pub searched : drops ≡ length way.searches
  pub links_are : links ≡ sum way.searches
  pub few : AllLe 45 way.searches

pub record WordCopiesAnswer (reading : Reading) (p r bytes : List ℕ) (u l n state yes drops links : ℕ) : Type 0 where
  pub accepted : n ≡ 0
  -- the colour of state 0 in the copy where the word begins, by the bytes that were passed in
  pub colour : ℕ
  pub starts : colour_in (state_count r) bytes (word_start reading (plan_tree p) u) ≡ some colour
  -- the descent from it by the tree's own colours
  pub way : Descent
  pub found : descend (colour_table_of (state_count r) (word_step (branch_automaton r) (plan_tree p)) (plan_tree p)) colour
      (word_start reading (plan_tree p) u) l colour ≡ some way
  -- the state of the colour it ends with in the copy of the lower node, by those bytes
  pub state_is : state ≡ get_or bytes (l * state_count r + way.colour) 0
  pub yes_is : yes ≡ bit_of ((branch_automaton r).accepting state)
  pub drops_are : drops ≡ length way.searches
  pub links_are : links ≡ sum way.searches

-- ---- sets

-- "the state its climb gives is found by trying target states in rising order up to it"
unfoldable pub side_drops : Automaton → Tree → Tree → List ℕ → ℕ → ℕ
side_drops A t u ms c =
    drops_from (trial_drops A t c (highest_below ms t c) (depth t (highest_below ms t c) - depth t c)) 0
    (suc (walk (step_up A t) t (highest_below ms t c) (depth t (highest_below ms t c) - depth t c)
    (state A (sub u (highest_below ms t c)))))

-- "where a part has members below one child only"
unfoldable pub part_drops : Automaton → Tree → Tree → List ℕ → ℕ → ℕ
part_drops A t u ms v =
    cond (eqb (kind_at t v) 0) 0
    (cond (any_below ms t (left_child t v)) (cond (any_below ms t (right_child v)) 0 (side_drops A t u ms (left_child t v)))
    (cond (any_below ms t (right_child v)) (side_drops A t u ms (right_child v)) 0))

pub record RuleColourAnswered (p r vs bs : List ℕ) (n state yes drops links parts : ℕ) : Type 0 where
  pub accepted : n ≡ 0
  pub state_is : state ≡ root_state p r vs bs
  pub yes_is : yes ≡ bit_of ((rule_automaton r).accepting state)
  pub parts_are : parts ≡ length (roots_left p vs bs)
  -- counted on the tree, part by part
  pub drops_are : drops
      ≡ sum_of (part_drops (rule_automaton r) (plan_tree p) (changed_tree p vs bs) (roots_left p vs bs)) (roots_left p vs bs)
  -- "the drops add up to at most 60 for each such part"
  pub each : (v : ℕ) → Memᴰ v (roots_left p vs bs)
      → part_drops (rule_automaton r) (plan_tree p) (changed_tree p vs bs) (roots_left p vs bs) v
      ≤ 60 * bit (is_one_sided (plan_tree p) (roots_left p vs bs) v)
  -- a search for each drop, by the tree's own colours; "the moves are the links, at most 45"
  pub searched : drops ≡ length (searches_left p r vs bs)
  pub links_are : links ≡ sum (searches_left p r vs bs)
  pub few : AllLe 45 (searches_left p r vs bs)

pub record RuleTrialsAnswered (p r node_table state_table vs bs : List ℕ) (n state yes drops links parts : ℕ)
    : Type 0 where
  pub accepted : n ≡ 0
  pub state_is : state
      ≡ last_state (tried_parts (given_lent p r node_table state_table vs bs) (roots_left p vs bs) [] (roots_left p vs bs)) 0
  pub yes_is : yes ≡ bit_of ((rule_automaton r).accepting state)
  pub parts_are : parts ≡ length (roots_left p vs bs)
  pub drops_are : drops
      ≡ length (trials_from (given_lent p r node_table state_table vs bs) (roots_left p vs bs) [] (roots_left p vs bs))
  pub links_are : links
      ≡ sum (trials_from (given_lent p r node_table state_table vs bs) (roots_left p vs bs) [] (roots_left p vs bs))
