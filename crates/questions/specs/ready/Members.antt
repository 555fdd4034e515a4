-- The ready set as a rising list.
--
-- some_within w lo n == whether w holds of one of the n nodes from lo on
-- some_below w t c == whether w holds of a node in the subtree rooted at c, c included
-- forks_at w t v == whether v is an inner node with such nodes below both children
-- has_member w t v == whether w holds of v, or v is the root, such a node, or a child of one
-- ready_list w t == the members among the nodes of t, in rising order
-- roots t vs == the roots of the parts of a question that lists the nodes vs
-- Rising lo l == l rises strictly, from lo or above
--
-- Not the definition of the ready set (that is Ready): a list that is proved to hold exactly its members (list-ready, ready-list), each
-- once and rising.
use Rattle.std.specs.Prelude.{ℕ, zero, suc, ◌+◌, ◌-◌, ◌≤◌, Bool, false, cond, ◌&&◌, ◌||◌, List, [], ◌∷◌, ◌++◌, ◌==◌}
use Rattle.trees.specs.Tree.{Tree, size, kind_at}
use Rattle.trees.specs.Numbering.{sub, parent}
use Rattle.list_laws.specs.Tests.{holds}
use Rattle.questions.specs.ready.Ready.{left_child, right_child}

unfoldable pub some_within : (ℕ → Bool) → ℕ → ℕ → Bool
some_within w lo zero = false
some_within w lo (suc n) = w lo || some_within w (suc lo) n

unfoldable pub some_below : (ℕ → Bool) → Tree → ℕ → Bool
some_below w t c = some_within w (c + 1 - size (sub t c)) (size (sub t c))

unfoldable pub forks_at : (ℕ → Bool) → Tree → ℕ → Bool
forks_at w t v = kind_at t v == 1 && (some_below w t (left_child t v) && some_below w t (right_child v))

unfoldable pub has_member : (ℕ → Bool) → Tree → ℕ → Bool
has_member w t v = w v || (v + 1 == size t || (forks_at w t v || forks_at w t (parent t v)))

-- the nodes below n that p holds of, rising
unfoldable pub keep : (ℕ → Bool) → ℕ → List ℕ
keep p zero = []
keep p (suc v) = keep p v ++ cond (p v) (v ∷ []) []

unfoldable pub ready_list : (ℕ → Bool) → Tree → List ℕ
ready_list w t = keep (has_member w t) (size t)

unfoldable pub roots : Tree → List ℕ → List ℕ
roots t vs = ready_list (λ v. holds v vs) t

abbrev pub Rising : ℕ → List ℕ → Type 0
Rising lo [] = Unit {0}
Rising lo (x ∷ l) = (lo ≤ x) × Rising (suc x) l
