-- Files that go out, and the lists of siblings of a planner's tree (document 02, S-2).
--
-- FileOf p b == b is a planner's file (bytes) that whatif_plan_of_planner accepts, with outputs of the lengths it
--   needs, and p is the plan that it writes
-- siblings_from f v == the list of siblings that begins with planner node v: that node, its children's list and the
--   later siblings; f's nodes are numbered from 0 in pre-order
use Rattle.std.specs.Prelude.{ℕ, zero, suc, ◌-◌, ◌≡◌, true, cond, List, ltb, length}
use Rattle.list_laws.specs.Tests.{all_below}
use Rattle.formats.specs.Checks.{first_no}
use Rattle.planner.specs.Siblings.{Siblings, empty, sibling, count}
use Rattle.planner.specs.File.{file_count, out_checks}
use Rattle.planner.specs.Conversion.{plan_of}

pub record FileOf (p b : List ℕ) : Type 0 where
  pub bytes : all_below 256 b ≡ true
  pub accepted : first_no (out_checks b (length p) (file_count b)) ≡ 0
  pub plan_is : plan_of b ≡ p

unfoldable pub siblings_from : Siblings → ℕ → Siblings
siblings_from empty v = empty
siblings_from (sibling a c r) zero = sibling a c r
siblings_from (sibling a c r) (suc v) = cond (ltb v (count c)) (siblings_from c v) (siblings_from r (v - count c))
