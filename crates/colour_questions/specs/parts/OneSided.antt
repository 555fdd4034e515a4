-- One-sided parts.
--
-- is_one_sided t ms v == whether root v has members of ms below one child only
-- one_sided t ms vs == how many of the roots vs have
use Rattle.std.specs.Prelude.{ℕ, Bool, not, cond, ◌&&◌, List, eqb}
use Rattle.trees.specs.Tree.{Tree, kind_at}
use Rattle.questions.specs.ready.Ready.{left_child, right_child}
use Rattle.questions.specs.ready.Parts.{any_below, sum_of}
use Rattle.colours.specs.marks.Marks.{bit}

-- "where a part has members below one child only"
unfoldable pub is_one_sided : Tree → List ℕ → ℕ → Bool
is_one_sided t ms v =
    not (eqb (kind_at t v) 0)
    && cond (any_below ms t (left_child t v)) (not (any_below ms t (right_child v))) (any_below ms t (right_child v))

abbrev pub one_sided : Tree → List ℕ → List ℕ → ℕ
one_sided t ms vs = sum_of (λ v. bit (is_one_sided t ms v)) vs
