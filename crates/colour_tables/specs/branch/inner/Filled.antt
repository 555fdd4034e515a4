-- What the writers of the tables of colours need, once all checks have passed, and what they leave.
--
-- FillArgs ls ks st s k l m == labels and kinds of a tree, steps of s states and k labels, within the limits; room in
--   buffers of l numbers and m bytes
-- Filled .. == both buffers begin with the tables of colours of the tree of these kinds and labels, and their excess
--   is as it was
-- PartArgs p r n s k l m == plan and branch table pass 2 to 11 for buffers of l numbers and m bytes; n, s and k are
--   their N, S and K, with the lengths that follow, for the parts handed on
-- ColoursWritten p r .. == both buffers begin with what the build writes, and their excess is as it was
use Rattle.std.specs.Prelude.{ℕ, ◌*◌, ◌≤◌, ◌<◌, ◌≡◌, List, ◌++◌, length, get_or, drop}
use Rattle.trees.specs.Tree.{Tree, size, kinds_of, labels_of}
use Rattle.formats.specs.Plan.{node_count, plan_length}
use Rattle.formats.specs.Rules.{state_count, label_count, branch_length}
use Rattle.formats.specs.Checks.{first_no}
use Rattle.colour_tables.specs.Layout.{colour_numbers_of, copies_of, colour_numbers_length, copies_length}
use Rattle.colour_tables.specs.states.inner.WordPass.{step_by}
use Rattle.colour_tables.specs.branch.Build.{branch_colour_checks, built_colour_numbers, built_copies}

pub record FillArgs (ls ks st : List ℕ) (s k l m : ℕ) : Type 0 where
  pub tree : Tree
  pub kinds : kinds_of tree ≡ ks
  pub labels : labels_of tree ≡ ls
  pub most : length ls ≤ 65535
  pub few : s ≤ 16
  pub label_most : k ≤ 64
  pub numbers_room : colour_numbers_length (length ls) s ≤ l
  pub bytes_room : copies_length (length ls) s ≤ m
  pub steps_room : s * k ≤ length st
  pub steps_below : (j : ℕ) → get_or st j 0 < s
  pub labels_below : (j : ℕ) → get_or ls j 0 < k

pub record ColoursFilled (st : List ℕ) (s k : ℕ) (t : Tree) (numbers bytes numbers' bytes' : List ℕ) : Type 0 where
  pub numbers_are : numbers'
      ≡ colour_numbers_of s (step_by st k t) t ++ drop (colour_numbers_length (size t) s) numbers
  pub bytes_are : bytes' ≡ copies_of s (step_by st k t) t ++ drop (copies_length (size t) s) bytes

abbrev pub Filled : List ℕ → List ℕ → List ℕ → ℕ → ℕ → List ℕ → List ℕ → List ℕ → List ℕ → Type 0
Filled ls ks st s k numbers bytes numbers' bytes' =
    (t : Tree) → kinds_of t ≡ ks → labels_of t ≡ ls → ColoursFilled st s k t numbers bytes numbers' bytes'

pub record PartArgs (p r : List ℕ) (n s k l m : ℕ) : Type 0 where
  pub passed : first_no (branch_colour_checks p r l m) ≡ 0
  pub nodes : n ≡ node_count p
  pub states : s ≡ state_count r
  pub labels : k ≡ label_count r
  pub plan_exact : length p ≡ plan_length n
  pub branch_exact : length r ≡ branch_length s k

pub record ColoursWritten (p r numbers bytes numbers' bytes' : List ℕ) : Type 0 where
  pub numbers_are : numbers' ≡ built_colour_numbers p r ++ drop (length (built_colour_numbers p r)) numbers
  pub bytes_are : bytes' ≡ built_copies p r ++ drop (length (built_copies p r)) bytes
