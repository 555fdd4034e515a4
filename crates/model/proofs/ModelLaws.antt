-- What a call that no check refuses has, and what the calls read of the inputs.
--     load-running     Load is refused with 1 while a question runs
--     before-numbered, start-before    Start's checks before 18
--     start-list, start-sound, start-built    a Start that no check refuses has a list that passes 12 to 14, and sound inputs
--     advance-fits     an advance that no check refuses has room: check 17
--     left_below, left-most    of a list that passes 12 to 14 what is left in W does
--     some_root        there is always a part: the plan's root
--     marks-built      the accept marks by the record's S and K are the rule table's
use Prim.Native.Nat.{ℕ, ◌+◌, ◌-◌, ◌*◌, ◌≤◌, ◌<◌}
use mathlib.Core.Path.{◌≡◌, refl, sym, ap, ap₂, ◌∙◌}
use mathlib.Core.Bool.{Bool, true}
use mathlib.Core.List.{List, [], ◌∷◌}
use native.Mathlib.Omega.{arith}
use lib.ListN.{length, take, drop}
use Rattle.trees.specs.Tree.{size}
use Rattle.trees.proofs.NodeLaws.{size-pos}
use Rattle.list_laws.specs.Tests.{all_below, holds}
use Rattle.formats.specs.Plan.{plan_tree, labels_within}
use Rattle.formats.specs.Rules.{rule_marks}
use Rattle.formats.specs.Checks.{check, first_no, list_checks}
use Rattle.formats.specs.Inputs.{Inputs, Sizes, fits, node_table_built, state_table_built, sound}
use Rattle.list_laws.proofs.BoolLaws.{and_left}
use Rattle.formats.proofs.CheckLaws.{Numbered, first_no-head, first_no-tail, first_no-append-left, first_no-append-right}
use Rattle.formats.proofs.InputLaws.{ListPasses, list-passes, list-numbered}
use Rattle.changes.proofs.DifferingLaws.{differing-below, differing-most}
use Rattle.formats.specs.Passing.{Built}
use Rattle.questions.specs.ready.Members.{roots}
use Rattle.questions.proofs.ready.ListLaws.{list-last}
use Rattle.model.specs.Calls.{load, start, advance, Phase, may_load, may_start, is_running}
use Rattle.model.specs.Refusals.{Stage, stage, checks_before18, refusal}
use Rattle.model.specs.Model.{left_within, roots_in, marks_by}
use Rattle.questions.proofs.PartListLaws.{length_more}

-- "Load is allowed unless running"
pub load-running : (z : Sizes) (l : Bool) (x : Inputs) → refusal (stage Phase.running z l) (load x) ≡ 1
unfolding refusal first_no may_load
load-running z l x = refl

module _ (t : Stage) (x : Inputs) (vs bs : List ℕ) where
  pub before-numbered : Numbered (checks_before18 t x vs bs)
  before-numbered = (omega arith, (omega arith, list-numbered t.sizes.n t.sizes.k vs bs))

  pub start-before : refusal t (start x vs bs) ≡ 0 → first_no (checks_before18 t x vs bs) ≡ 0
  unfolding refusal
  start-before e = first_no-append-left (checks_before18 t x vs bs) _ before-numbered e

  pub start-list : refusal t (start x vs bs) ≡ 0 → first_no (list_checks t.sizes.n t.sizes.k vs bs) ≡ 0
  start-list e =
      let list = list_checks t.sizes.n t.sizes.k vs bs in
      first_no-tail 17 (fits t.sizes x) list (omega arith)
      (first_no-tail 1 (may_start t.phase) (check 17 (fits t.sizes x) ∷ list) (omega arith) (start-before e))

  pub start-sound : refusal t (start x vs bs) ≡ 0 → sound t.sizes x ≡ true
  unfolding refusal
  start-sound e =
      first_no-head 18 (sound t.sizes x) [] (omega arith)
      (first_no-append-right (checks_before18 t x vs bs) (check 18 (sound t.sizes x) ∷ []) before-numbered e)

  pub start-built : refusal t (start x vs bs) ≡ 0 → node_table_built t.sizes x ≡ true
  unfolding sound
  start-built e = and_left (node_table_built t.sizes x) (state_table_built t.sizes x) (start-sound e)

pub advance-fits : (t : Stage) (x : Inputs) → refusal t (advance x) ≡ 0 → fits t.sizes x ≡ true
unfolding refusal
advance-fits t x e =
    first_no-head 17 (fits t.sizes x) [] (omega arith)
    (first_no-tail 1 (is_running t.phase) (check 17 (fits t.sizes x) ∷ []) (omega arith) e)

module _ (x : Inputs) (n k : ℕ) (vs bs : List ℕ) (e : first_no (list_checks n k vs bs) ≡ 0) where
  passes : ListPasses n k vs bs
  passes = list-passes n k vs bs e

  pub left_below : all_below n (left_within x vs bs) ≡ true
  left_below = differing-below n (labels_within x.plan) vs bs passes.lengths passes.nodes-below

  pub left-most : length (left_within x vs bs) ≤ 64
  left-most = omega (arith, differing-most (labels_within x.plan) vs bs passes.lengths, passes.most)

pub some_root : (y : Inputs) (vs : List ℕ) → 0 < length (roots_in y vs)
unfolding roots
some_root y vs =
    let t = plan_tree y.plan in
    let top : size t - 1 + 1 ≡ size t = omega (arith, size-pos t) in
    let L = list-last (λ v. holds v vs) t (size t - 1) top in
    rw L.1 (omega (arith, length_more L.0 (size t - 1)))

pub marks-built : (z : Sizes) (x y : Inputs) → Built z x → x.rules ≡ y.rules → marks_by z y ≡ rule_marks x.rules
marks-built z x y B e =
    ap (λ (r : List ℕ). take z.s (drop (20 + z.k + z.s * z.k * z.s) r)) (sym e)
    ∙ sym (ap₂ (λ (s k : ℕ). take s (drop (20 + k + s * k * s) x.rules)) B.s_is B.k_is)
