-- What each answer of the two checks means.
--     out-19, out-20, out-21, out-good         going out: one law for each number
--     OutPasses, out-passes                    what is known where nothing fails
--     home-19, home-21, home-good              going home
use Prim.Native.Nat.{ℕ, ◌+◌, ◌*◌, ◌≤◌}
use mathlib.Core.Path.{◌≡◌, ◌∙◌}
use mathlib.Core.Bool.{true, false}
use mathlib.Core.List.{List, [], ◌∷◌}
use native.Mathlib.Omega.{arith}
use lib.Dec.{leb}
use borrow.Author.Tests.{leb-true}
use Rattle.list_laws.specs.Tests.{all_below}
use Rattle.list_laws.proofs.BoolLaws.{and_left, and_right}
use Rattle.formats.specs.Plan.{plan_length, plan_tree}
use Rattle.formats.specs.Checks.{check, first_no}
use Rattle.formats.proofs.CheckLaws.{first_no-yes, first_no-no, first_no-head, first_no-tail, first_no-none}
use Rattle.planner.specs.Siblings.{empty_label, count, unimage}
use Rattle.planner.specs.File.{file_count, file_length, label_run, well_formed, out_room, out_checks, comes_from_file}
use Rattle.planner.specs.File.{home_checks}
use Rattle.planner.proofs.FileTrees.{WellFormed, well-formed}

-- ---- out

module _ (b : List ℕ) (m k : ℕ) where
  pub out-19 : well_formed b ≡ false → first_no (out_checks b m k) ≡ 19
  unfolding out_checks
  out-19 e = first_no-no 19 (well_formed b) _ e

  pub out-20 : well_formed b ≡ true → all_below empty_label (label_run b) ≡ false → first_no (out_checks b m k) ≡ 20
  unfolding out_checks
  out-20 e f = first_no-yes 19 (well_formed b) _ e ∙ first_no-no 20 (all_below empty_label (label_run b)) _ f

  pub out-room : well_formed b ≡ true → all_below empty_label (label_run b) ≡ true
      → first_no (out_checks b m k) ≡ first_no (check 21 (out_room (file_count b) m k) ∷ [])
  unfolding out_checks
  out-room e f = first_no-yes 19 (well_formed b) _ e ∙ first_no-yes 20 (all_below empty_label (label_run b)) _ f

  pub out-21 : well_formed b ≡ true → all_below empty_label (label_run b) ≡ true → out_room (file_count b) m k ≡ false
      → first_no (out_checks b m k) ≡ 21
  out-21 e f g = out-room e f ∙ first_no-no 21 (out_room (file_count b) m k) [] g

  pub out-good : well_formed b ≡ true → all_below empty_label (label_run b) ≡ true → out_room (file_count b) m k ≡ true
      → first_no (out_checks b m k) ≡ 0
  out-good e f g = out-room e f ∙ first_no-yes 21 (out_room (file_count b) m k) [] g ∙ first_no-none

  pub record OutPasses : Type 0 where
    pub file : WellFormed b
    pub labels : all_below empty_label (label_run b) ≡ true
    pub nodes : file_count b ≤ 32767
    pub plan-room : plan_length (2 * file_count b + 1) ≤ m
    pub places-room : file_count b ≤ k

  pub out-passes : first_no (out_checks b m k) ≡ 0 → OutPasses
  unfolding out_checks out_room
  out-passes e =
      let r = first_no-tail 19 (well_formed b) _ (omega arith) e in
      let room = first_no-head 21 (out_room (file_count b) m k) _ (omega arith)
      (first_no-tail 20 (all_below empty_label (label_run b)) _ (omega arith) r) in
      let rest = and_right (leb (file_count b) 32767) _ room in
      record {
        file = well-formed b (first_no-head 19 (well_formed b) _ (omega arith) e);
        labels = first_no-head 20 (all_below empty_label (label_run b)) _ (omega arith) r;
        nodes = leb-true (file_count b) 32767 (and_left (leb (file_count b) 32767) _ room);
        plan-room = leb-true (plan_length (2 * file_count b + 1)) m
            (and_left (leb (plan_length (2 * file_count b + 1)) m) _ rest);
        places-room = leb-true (file_count b) k (and_right (leb (plan_length (2 * file_count b + 1)) m) _ rest);
      }

-- ---- home

module _ (p : List ℕ) (m : ℕ) where
  pub home-19 : comes_from_file p ≡ false → first_no (home_checks p m) ≡ 19
  unfolding home_checks
  home-19 e = first_no-no 19 (comes_from_file p) _ e

  pub home-21 : comes_from_file p ≡ true → leb (file_length (count (unimage (plan_tree p)))) m ≡ false
      → first_no (home_checks p m) ≡ 21
  unfolding home_checks
  home-21 e f = first_no-yes 19 (comes_from_file p) _ e
      ∙ first_no-no 21 (leb (file_length (count (unimage (plan_tree p)))) m) [] f

  pub home-good : comes_from_file p ≡ true → leb (file_length (count (unimage (plan_tree p)))) m ≡ true
      → first_no (home_checks p m) ≡ 0
  unfolding home_checks
  home-good e f =
      first_no-yes 19 (comes_from_file p) _ e ∙ first_no-yes 21 (leb (file_length (count (unimage (plan_tree p)))) m) [] f
      ∙ first_no-none

  pub home-passes : first_no (home_checks p m) ≡ 0 → (comes_from_file p ≡ true)
      × (file_length (count (unimage (plan_tree p))) ≤ m)
  unfolding home_checks
  home-passes e = (
    first_no-head 19 (comes_from_file p) _ (omega arith) e,
    leb-true (file_length (count (unimage (plan_tree p)))) m
        (first_no-head 21 (leb (file_length (count (unimage (plan_tree p)))) m) _ (omega arith)
        (first_no-tail 19 (comes_from_file p) _ (omega arith) e)),
  )
