-- The checks of a rule question by colours, one by one.
--     fit-no, lengths-no, many-states, few-states   what each test of check 17 says of it
--     no-17, no-27, then-list                       the number where a check fails and those before it pass
--     Fits, fits-are                                what a yes of check 17 says
--     Passed, passed_are                            what it says that all checks before 18 pass
use Prim.Native.Nat.{ℕ, ◌≤◌, ◌<◌}
use mathlib.Core.Path.{◌≡◌, refl, sym, ap, ◌∙◌}
use mathlib.Core.Bool.{Bool, true, false, ◌&&◌, ◌||◌}
use mathlib.Core.List.{List}
use native.Mathlib.Omega.{arith}
use lib.Dec.{leb, ltb, eqb}
use lib.ListN.{length}
use borrow.Author.Tests.{lt-ltb, le-ltb, le-leb, lt-leb, leb-true, eqb-true}
use Rattle.list_laws.specs.Tests.{all_below}
use Rattle.list_laws.proofs.BoolLaws.{and_left, and_right}
use Rattle.formats.specs.Limits.{change_limit}
use Rattle.formats.specs.Plan.{node_count}
use Rattle.formats.specs.Rules.{state_count, label_count, rule_length}
use Rattle.formats.specs.Checks.{first_no, list_checks}
use Rattle.formats.specs.Buffers.{buffers_fit, headers_fit, headed_buffers_fit, rule_tables}
use Rattle.formats.proofs.CheckLaws.{first_no-head, first_no-tail}
use Rattle.formats.proofs.BufferLaws.{headers-no, headed-by, Headed, headed-are}
use Rattle.colour_tables.specs.rule.Build.{set_numbers_length, set_bytes_length, set_colours_fit}
use Rattle.colour_questions.specs.rule.Question.{rule_colours_fit, asked_checks}

module _ (p r : List ℕ) (node_table state_table numbers bytes : ℕ) where
  -- ---- 17

  abbrev head : Bool
  head = headed_buffers_fit rule_tables p r node_table state_table

  pub fit-no : headers_fit 20 p r ≡ false → false ≡ rule_colours_fit p r node_table state_table numbers bytes
  unfolding rule_colours_fit
  fit-no h = rw (headers-no rule_tables p r node_table state_table h)

  module _ (h : headers_fit 20 p r ≡ true) (n s k : ℕ) (a : n ≡ node_count p) (b : s ≡ state_count r) (c : k
      ≡ label_count r) where
    head-is : buffers_fit n s (rule_length s k) (length p) (length r) node_table state_table ≡ head
    head-is = headed-by rule_tables p r node_table state_table n s k (rule_length s k) a b c refl h

    pub lengths-no : buffers_fit n s (rule_length s k) (length p) (length r) node_table state_table ≡ false
        → false ≡ rule_colours_fit p r node_table state_table numbers bytes
    unfolding rule_colours_fit
    lengths-no f = rw (sym head-is ∙ f)

    module _ (f : buffers_fit n s (rule_length s k) (length p) (length r) node_table state_table ≡ true) where
      pub many-states : 4 < s → true ≡ rule_colours_fit p r node_table state_table numbers bytes
      unfolding rule_colours_fit
      many-states l = rw (sym head-is ∙ f, ← b, lt-ltb 4 s l)

      pub few-states : s ≤ 4 → set_colours_fit n s numbers bytes ≡ rule_colours_fit p r node_table state_table numbers bytes
      unfolding rule_colours_fit
      few-states l = rw (sym head-is ∙ f, ← b, ← a, le-ltb 4 s l)

  -- ---- what 17 says

  pub record Fits : Type 0 where
    pub headed : Headed rule_tables p r node_table state_table
    pub coloured : state_count r ≤ 4 → set_colours_fit (node_count p) (state_count r) numbers bytes ≡ true

  pub fits-are : rule_colours_fit p r node_table state_table numbers bytes ≡ true → Fits
  unfolding rule_colours_fit
  fits-are e =
      let second : (ltb 4 (state_count r) || set_colours_fit (node_count p) (state_count r) numbers bytes) ≡ true =
      and_right head (ltb 4 (state_count r) || set_colours_fit (node_count p) (state_count r) numbers bytes) e in
      record {
        headed = headed-are rule_tables p r node_table state_table
            (and_left head (ltb 4 (state_count r) || set_colours_fit (node_count p) (state_count r) numbers bytes) e);
        coloured = λ l. sym (ap (λ (t : Bool). t || set_colours_fit (node_count p) (state_count r) numbers bytes)
            (le-ltb 4 (state_count r) l)) ∙ second;
      }

  -- ---- the number

  module _ (vs bs : List ℕ) where
    pub no-17 : rule_colours_fit p r node_table state_table numbers bytes ≡ false
        → 17 ≡ first_no (asked_checks p r node_table state_table numbers bytes vs bs)
    unfolding asked_checks first_no
    no-17 e = rw e

    module _ (e : rule_colours_fit p r node_table state_table numbers bytes ≡ true) (s : ℕ) (b : s ≡ state_count r) where
      pub no-27 : 4 < s → 27 ≡ first_no (asked_checks p r node_table state_table numbers bytes vs bs)
      unfolding asked_checks first_no
      no-27 l = rw (e, ← b, lt-leb s 4 l)

      pub then-list : (n k : ℕ) → n ≡ node_count p → k ≡ label_count r → s ≤ 4
          → first_no (list_checks n k vs bs) ≡ first_no (asked_checks p r node_table state_table numbers bytes vs bs)
      unfolding asked_checks first_no
      then-list n k a c l = rw (e, ← b, le-leb s 4 l, ← a, ← c)

    -- ---- what it says that all pass

    pub record Passed : Type 0 where
      pub fits : Fits
      pub states : state_count r ≤ 4
      pub numbers_room : set_numbers_length (node_count p) (state_count r) ≤ numbers
      pub bytes_room : set_bytes_length (node_count p) (state_count r) ≤ bytes
      pub same_list : length vs ≡ length bs
      pub few-list : length vs ≤ change_limit
      pub nodes-below : all_below (node_count p) vs ≡ true
      pub labels_below : all_below (label_count r) bs ≡ true

    abbrev lists : Bool
    lists = eqb (length vs) (length bs) && leb (length vs) change_limit

    pub passed_are : first_no (asked_checks p r node_table state_table numbers bytes vs bs) ≡ 0 → Passed
    unfolding asked_checks list_checks
    passed_are ok =
        let F : Fits = fits-are (first_no-head 17 _ _ (omega arith) ok) in
        let a = first_no-tail 17 _ _ (omega arith) ok in
        let few : state_count r ≤ 4 = leb-true (state_count r) 4 (first_no-head 27 _ _ (omega arith) a) in
        let b = first_no-tail 27 _ _ (omega arith) a in
        let both : lists ≡ true = first_no-head 12 _ _ (omega arith) b in
        let c = first_no-tail 12 _ _ (omega arith) b in
        let d = first_no-tail 13 _ _ (omega arith) c in
        let room : set_colours_fit (node_count p) (state_count r) numbers bytes ≡ true = F.coloured few in
        record {
          fits = F;
          states = few;
          numbers_room = leb-true (set_numbers_length (node_count p) (state_count r)) numbers
              (and_left (leb (set_numbers_length (node_count p) (state_count r)) numbers)
              (leb (set_bytes_length (node_count p) (state_count r)) bytes) room);
          bytes_room = leb-true (set_bytes_length (node_count p) (state_count r)) bytes
              (and_right (leb (set_numbers_length (node_count p) (state_count r)) numbers)
              (leb (set_bytes_length (node_count p) (state_count r)) bytes) room);
          same_list = eqb-true (length vs) (length bs) (and_left (eqb (length vs) (length bs)) (leb (length vs)
              change_limit) both);
          few-list = leb-true (length vs) change_limit (and_right (eqb (length vs) (length bs)) (leb (length vs)
              change_limit) both);
          nodes-below = first_no-head 13 _ _ (omega arith) c;
          labels_below = first_no-head 14 _ _ (omega arith) d;
        }
