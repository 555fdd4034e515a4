-- The contracts of the functions that write the plan of a planner's file.
--
-- plan_header n == the twelve bytes of a plan's header
-- Filled from to x p q == q is p with x from place `from` up to place `to`
-- LayArgs f ls ps p n == ls are f's labels, ps begins with f's places, and p has n = 2 * count f + 1 leaves
-- Laid f n p q == q has the labels and kinds of f's image, and is p elsewhere
-- WriteArgs, PlanWritten == the same for the whole plan: header, labels and kinds, and the excess as it was
use Rattle.std.specs.Prelude.{ℕ, ◌+◌, ◌*◌, ◌≤◌, ◌<◌, ◌≡◌, List, ◌++◌, length, get_or, drop}
use Rattle.trees.specs.Tree.{size, labels_of, kinds_of}
use Rattle.formats.specs.Bytes.{le32_bytes}
use Rattle.formats.specs.Plan.{plan_length, plan_bytes}
use Rattle.planner.specs.Siblings.{Siblings, count, pre_labels, image, places, empty_label}

abbrev pub plan_header : ℕ → List ℕ
plan_header n = le32_bytes n ++ (le32_bytes 12 ++ le32_bytes (12 + n))

pub record Filled (from to x : ℕ) (p q : List ℕ) : Type 0 where
  pub inside : (j : ℕ) → from ≤ j → j < to → get_or q j 0 ≡ x
  pub before : (j : ℕ) → j < from → get_or q j 0 ≡ get_or p j 0
  pub after : (j : ℕ) → to ≤ j → get_or q j 0 ≡ get_or p j 0
  pub same : length q ≡ length p

-- nodes of f, by labels and places
pub record Nodes (f : Siblings) (ls ps : List ℕ) : Type 0 where
  pub labels : pre_labels f ≡ ls
  pub places_are : (v : ℕ) → v < count f → get_or ps v 0 ≡ get_or (places f 0) v 0
  pub longer : count f ≤ length ps
  pub few : count f ≤ 32767

pub record LayArgs (f : Siblings) (ls ps p : List ℕ) (n : ℕ) : Type 0 where
  pub nodes : Nodes f ls ps
  pub size_is : n ≡ size (image f)
  pub room : 12 + 2 * n ≤ length p
  pub labels_empty : (j : ℕ) → j < n → get_or p (12 + j) 0 ≡ empty_label
  pub kinds_empty : (j : ℕ) → j < n → get_or p (12 + n + j) 0 ≡ 0

pub record Laid (f : Siblings) (n : ℕ) (p q : List ℕ) : Type 0 where
  pub labels : (j : ℕ) → j < n → get_or q (12 + j) 0 ≡ get_or (labels_of (image f)) j 0
  pub kinds : (j : ℕ) → j < n → get_or q (12 + n + j) 0 ≡ get_or (kinds_of (image f)) j 0
  pub head : (j : ℕ) → j < 12 → get_or q j 0 ≡ get_or p j 0
  pub excess : (j : ℕ) → 12 + 2 * n ≤ j → get_or q j 0 ≡ get_or p j 0
  pub same : length q ≡ length p

pub record WriteArgs (f : Siblings) (ls ps p : List ℕ) : Type 0 where
  pub nodes : Nodes f ls ps
  pub room : plan_length (2 * count f + 1) ≤ length p

abbrev pub PlanWritten : Siblings → List ℕ → List ℕ → Type 0
PlanWritten f p q = q ≡ plan_bytes (image f) ++ drop (plan_length (2 * count f + 1)) p
