-- Check 17 of a branch question by colours.
--     headers-no, plan-no, table-no, links-no, fit-end   what each test of the code says of it
--     Fits, fits-are, are-fits                           what a yes says, and back
use Prim.Native.Nat.{ℕ, ◌+◌, ◌*◌, ◌≤◌, ◌<◌}
use mathlib.Core.Path.{◌≡◌}
use mathlib.Core.Bool.{Bool, true, false, ◌&&◌}
use mathlib.Core.List.{List}
use lib.Dec.{leb, eqb}
use lib.ListN.{length}
use borrow.Author.Tests.{leb-true, le-leb, lt-leb, eqb-true, eq-eqb, ne_eqb}
use Rattle.list_laws.proofs.BoolLaws.{and_left, and_right}
use Rattle.formats.specs.Plan.{node_count, plan_length}
use Rattle.formats.specs.Rules.{state_count, label_count, branch_length}
use Rattle.formats.specs.Checks.{node_table_length}
use Rattle.formats.specs.Buffers.{headers_fit}
use Rattle.formats.proofs.BufferLaws.{Headers, headers-are}
use Rattle.colour_tables.specs.Layout.{colour_numbers_length, copies_length}
use Rattle.colour_tables.specs.branch.Build.{colours_fit}
use Rattle.colour_questions.specs.branch.Question.{colour_buffers_fit}

module _ (p r : List ℕ) (node_table numbers bytes : ℕ) where
  pub headers-no : headers_fit 16 p r ≡ false → false ≡ colour_buffers_fit p r node_table numbers bytes
  unfolding colour_buffers_fit
  headers-no e = rw e

  module _ (h : headers_fit 16 p r ≡ true) (n s k : ℕ) (a : n ≡ node_count p) (b : s ≡ state_count r)
      (c : k ≡ label_count r) where
    pub plan-no : (length p ≡ 12 + 2 * n → ⊥) → false ≡ colour_buffers_fit p r node_table numbers bytes
    unfolding colour_buffers_fit
    plan-no f = rw (h, ← a, ne_eqb (length p) (plan_length n) f)

    module _ (plan : length p ≡ 12 + 2 * n) where
      pub table-no : (length r ≡ 16 + s * k + s → ⊥) → false ≡ colour_buffers_fit p r node_table numbers bytes
      unfolding colour_buffers_fit
      table-no f = rw (h, ← a, ← b, ← c, eq-eqb (length p) (plan_length n) plan, ne_eqb (length r) (branch_length s k) f)

      module _ (table : length r ≡ 16 + s * k + s) where
        pub links-no : node_table < n * 4 → false ≡ colour_buffers_fit p r node_table numbers bytes
        unfolding colour_buffers_fit
        links-no f =
            rw (
              h,
              ← a,
              ← b,
              ← c,
              eq-eqb (length p) (plan_length n) plan,
              eq-eqb (length r) (branch_length s k) table,
              lt-leb (node_table_length n) node_table f,
            )

        pub fit-end : n * 4 ≤ node_table → colours_fit n s numbers bytes ≡ colour_buffers_fit p r node_table numbers bytes
        unfolding colour_buffers_fit
        fit-end f =
            rw (
              h,
              ← a,
              ← b,
              ← c,
              eq-eqb (length p) (plan_length n) plan,
              eq-eqb (length r) (branch_length s k) table,
              le-leb (node_table_length n) node_table f,
            )

  pub record Fits : Type 0 where
    pub headers : Headers 16 p r
    pub plan_exact : length p ≡ plan_length (node_count p)
    pub table-exact : length r ≡ branch_length (state_count r) (label_count r)
    pub node_table_room : node_count p * 4 ≤ node_table
    pub numbers_room : colour_numbers_length (node_count p) (state_count r) ≤ numbers
    pub bytes_room : copies_length (node_count p) (state_count r) ≤ bytes

  abbrev t1 : Bool
  t1 = eqb (length p) (plan_length (node_count p))

  abbrev t2 : Bool
  t2 = eqb (length r) (branch_length (state_count r) (label_count r))

  abbrev t3 : Bool
  t3 = leb (node_table_length (node_count p)) node_table

  abbrev t4 : Bool
  t4 = leb (colour_numbers_length (node_count p) (state_count r)) numbers

  abbrev t5 : Bool
  t5 = leb (copies_length (node_count p) (state_count r)) bytes

  pub fits-are : colour_buffers_fit p r node_table numbers bytes ≡ true → Fits
  unfolding colour_buffers_fit
  fits-are e =
      let a : (t1 && (t2 && (t3 && (t4 && t5)))) ≡ true =
      and_right (headers_fit 16 p r) (t1 && (t2 && (t3 && (t4 && t5)))) e in
      let b : (t2 && (t3 && (t4 && t5))) ≡ true = and_right t1 (t2 && (t3 && (t4 && t5))) a in
      let c : (t3 && (t4 && t5)) ≡ true = and_right t2 (t3 && (t4 && t5)) b in
      let d : (t4 && t5) ≡ true = and_right t3 (t4 && t5) c in
      record {
        headers = headers-are 16 p r (and_left (headers_fit 16 p r) (t1 && (t2 && (t3 && (t4 && t5)))) e);
        plan_exact = eqb-true (length p) (plan_length (node_count p)) (and_left t1 (t2 && (t3 && (t4 && t5))) a);
        table-exact = eqb-true (length r) (branch_length (state_count r) (label_count r))
            (and_left t2 (t3 && (t4 && t5)) b);
        node_table_room = leb-true (node_table_length (node_count p)) node_table (and_left t3 (t4 && t5) c);
        numbers_room = leb-true (colour_numbers_length (node_count p) (state_count r)) numbers (and_left t4 t5 d);
        bytes_room = leb-true (copies_length (node_count p) (state_count r)) bytes (and_right t4 t5 d);
      }

  pub are-fits : headers_fit 16 p r ≡ true → length p ≡ plan_length (node_count p)
      → length r ≡ branch_length (state_count r) (label_count r) → node_count p * 4 ≤ node_table
      → colour_numbers_length (node_count p) (state_count r) ≤ numbers → copies_length (node_count p) (state_count r) ≤ bytes
      → colour_buffers_fit p r node_table numbers bytes ≡ true
  unfolding colour_buffers_fit
  are-fits h a b c d e =
      rw (
        h,
        eq-eqb (length p) (plan_length (node_count p)) a,
        eq-eqb (length r) (branch_length (state_count r) (label_count r)) b,
        le-leb (node_table_length (node_count p)) node_table c,
        le-leb (colour_numbers_length (node_count p) (state_count r)) numbers d,
        le-leb (copies_length (node_count p) (state_count r)) bytes e,
      )

-- with N, S and K as read
module _ (p r : List ℕ) (node_table numbers bytes : ℕ) (F : Fits p r node_table numbers bytes) (n s k : ℕ) where
  pub numbers_fit : n ≡ node_count p → s ≡ state_count r → s * (n * 4) ≤ numbers
  numbers_fit a b = rw (a, b) F.numbers_room

  pub bytes_fit : n ≡ node_count p → s ≡ state_count r → n * s ≤ bytes
  bytes_fit a b = rw (a, b) F.bytes_room

  pub table-fit : s ≡ state_count r → k ≡ label_count r → length r ≡ 16 + s * k + s
  table-fit b c = rw (b, c) F.table-exact
