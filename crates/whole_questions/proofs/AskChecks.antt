-- The checks of a whole question, one by one.
--     no-17, no-17-lengths, then-list   the number where 17 fails, by either of its halves, and where it passes
--     Passed, passed_are                what it says that all checks before 18 pass
use Prim.Native.Nat.{ℕ, ◌≤◌}
use mathlib.Core.Path.{◌≡◌, refl, sym, ◌∙◌}
use mathlib.Core.Bool.{Bool, true, false, ◌&&◌}
use mathlib.Core.List.{List}
use native.Mathlib.Omega.{arith}
use lib.Dec.{leb, eqb}
use lib.ListN.{length}
use borrow.Author.Tests.{leb-true, eqb-true}
use Rattle.list_laws.specs.Tests.{all_below}
use Rattle.list_laws.proofs.BoolLaws.{and_left, and_right}
use Rattle.formats.specs.Limits.{change_limit}
use Rattle.formats.specs.Plan.{node_count}
use Rattle.formats.specs.Rules.{state_count, label_count, rule_length}
use Rattle.formats.specs.Checks.{first_no, list_checks}
use Rattle.formats.specs.Buffers.{buffers_fit, headers_fit, rule_tables}
use Rattle.formats.proofs.CheckLaws.{first_no-head, first_no-tail}
use Rattle.formats.proofs.BufferLaws.{headers-no, headed-by, Headed, headed-are}
use Rattle.whole_questions.specs.Question.{listed_checks}

module _ (p r : List ℕ) (node_table state_table : ℕ) (vs bs : List ℕ) where
  pub no-17 : headers_fit 20 p r ≡ false → 17 ≡ first_no (listed_checks p r node_table state_table vs bs)
  unfolding listed_checks first_no
  no-17 h = rw (headers-no rule_tables p r node_table state_table h)

  module _ (h : headers_fit 20 p r ≡ true) (n s k : ℕ) (a : n ≡ node_count p) (b : s ≡ state_count r)
      (c : k ≡ label_count r) where
    pub no-17-lengths : buffers_fit n s (rule_length s k) (length p) (length r) node_table state_table ≡ false
        → 17 ≡ first_no (listed_checks p r node_table state_table vs bs)
    unfolding listed_checks first_no
    no-17-lengths f = rw (sym (headed-by rule_tables p r node_table state_table n s k (rule_length s k) a b c refl h) ∙ f)

    pub then-list : buffers_fit n s (rule_length s k) (length p) (length r) node_table state_table ≡ true
        → first_no (list_checks n k vs bs) ≡ first_no (listed_checks p r node_table state_table vs bs)
    unfolding listed_checks first_no
    then-list f =
        rw (sym (headed-by rule_tables p r node_table state_table n s k (rule_length s k) a b c refl h) ∙ f, ← a, ← c)

  -- ---- what it says that all pass

  pub record Passed : Type 0 where
    pub headed : Headed rule_tables p r node_table state_table
    pub same_list : length vs ≡ length bs
    pub few-list : length vs ≤ change_limit
    pub nodes-below : all_below (node_count p) vs ≡ true
    pub labels_below : all_below (label_count r) bs ≡ true

  abbrev lists : Bool
  lists = eqb (length vs) (length bs) && leb (length vs) change_limit

  pub passed_are : first_no (listed_checks p r node_table state_table vs bs) ≡ 0 → Passed
  unfolding listed_checks list_checks
  passed_are ok =
      let a = first_no-tail 17 _ _ (omega arith) ok in
      let both : lists ≡ true = first_no-head 12 _ _ (omega arith) a in
      let b = first_no-tail 12 _ _ (omega arith) a in
      let c = first_no-tail 13 _ _ (omega arith) b in
      record {
        headed = headed-are rule_tables p r node_table state_table (first_no-head 17 _ _ (omega arith) ok);
        same_list = eqb-true (length vs) (length bs)
            (and_left (eqb (length vs) (length bs)) (leb (length vs) change_limit) both);
        few-list = leb-true (length vs) change_limit
            (and_right (eqb (length vs) (length bs)) (leb (length vs) change_limit) both);
        nodes-below = first_no-head 13 _ _ (omega arith) b;
        labels_below = first_no-head 14 _ _ (omega arith) c;
      }
