-- The steps of a branch question by colours, as the code has them: a copy is the number of its node, the top copy is n.
--
-- place_at n z == the copy of that number; numbered_place n z == the same, none for a number above n
-- finish_on s mk bytes l c d n == what is told at the end of a way down to node l: colour c, d drops and n links
-- StartArgs, RowArgs, WayArgs, EndArgs == what the steps read is inside its lists
-- AnswerArgs p r node_table numbers bytes u l == what the given headers and lengths say where 17 and 13 pass
use Rattle.std.specs.Prelude.{ℕ, ◌+◌, ◌*◌, ◌≤◌, ◌<◌, ◌≡◌, true, cond, List, ltb, eqb, length, get_or}
use Rattle.std.proofs.Math.Option.{Option, none, some}
use Rattle.formats.specs.Plan.{node_count}
use Rattle.colours.specs.Descents.{Place}
use Rattle.colour_questions.specs.declared.branch.answers.ColourAsked.{ColourAsked}
use Rattle.colour_questions.specs.branch.Question.{colour_buffers_fit, asked}

abbrev pub place_at : ℕ → ℕ → Place
place_at n z = cond (eqb z n) none (some z)

abbrev pub numbered_place : ℕ → ℕ → Option Place
numbered_place n z = cond (ltb n z) none (some (place_at n z))

unfoldable pub finish_on : ℕ → List ℕ → List ℕ → ℕ → ℕ → ℕ → ℕ → ℕ × Option ColourAsked
finish_on s mk bytes l c d n =
    cond (ltb (get_or bytes (l * s + c) 0) s)
    (0, some (asked (get_or bytes (l * s + c) 0) (eqb (get_or mk (get_or bytes (l * s + c) 0) 0) 1) d n))
    (18, none)

pub record StartArgs (node_table : List ℕ) (n u : ℕ) : Type 0 where
  pub most : n ≤ 65535
  pub upper : u < n
  pub room : n * 4 ≤ length node_table

pub record RowArgs (bytes : List ℕ) (n s z : ℕ) : Type 0 where
  pub most : n ≤ 65535
  pub few : s ≤ 16
  pub some : 1 ≤ s
  pub within : z ≤ n
  pub room : n * s ≤ length bytes

pub record WayArgs (n c : ℕ) (numbers : List ℕ) (z l : ℕ) : Type 0 where
  pub most : n ≤ 65535
  pub few : c ≤ 15
  pub room : c * (n * 4) + n * 4 ≤ length numbers
  pub within : z ≤ n
  pub lower : l < n

pub record EndArgs (bytes mk : List ℕ) (s l c : ℕ) : Type 0 where
  pub few : s ≤ 16
  pub small : l ≤ 65535
  pub low : c < s
  pub room : l * s + s ≤ length bytes
  pub marks_room : s ≤ length mk

pub record AnswerArgs (p r node_table numbers bytes : List ℕ) (u l : ℕ) : Type 0 where
  pub fits : colour_buffers_fit p r (length node_table) (length numbers) (length bytes) ≡ true
  pub upper : u < node_count p
  pub lower : l < node_count p
