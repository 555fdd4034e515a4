-- Check 17, test by test.
--     limits-none, limits-many, limits-end     limits_fit by its tests; the last decides where the others pass
--     Limits, limits-are, are-limits           what it says, by name: where it says yes, and back
--     plan-no, table-no, buffers-end           the same for buffers_fit
--     Lengths, lengths-are, are-lengths
--     plan-cut, table-cut, headers-end         the same for headers_fit; headers-by: with N, S and K as they were read
--     Headers, headers-are
--     headers-no, headed-end, headed-by        headed_buffers_fit by its two halves
--     Headed, headed-are, are-headed           what it says, by name
use Prim.Native.Nat.{ℕ, ◌+◌, ◌*◌, ◌≤◌, ◌<◌}
use mathlib.Core.Path.{◌≡◌, sym, ap, ap₂, ◌∙◌}
use mathlib.Core.Bool.{Bool, true, false, ◌&&◌}
use mathlib.Core.List.{List}
use lib.Dec.{leb, eqb}
use lib.ListN.{length}
use borrow.Author.Tests.{leb-true, eqb-true, le-leb, lt-leb, eq-eqb, ne_eqb}
use Rattle.formats.specs.Limits.{node_limit, state_limit, label_limit, within}
use Rattle.formats.specs.Plan.{node_count, plan_length}
use Rattle.formats.specs.Rules.{state_count, label_count}
use Rattle.formats.specs.Checks.{node_table_length, state_table_length}
use Rattle.formats.specs.inner.InnerChecks.{counts_fit, room_fits}
use Rattle.formats.specs.Buffers.{limits_fit, buffers_fit, TableKind, headers_fit, headed_buffers_fit}
use Rattle.list_laws.proofs.BoolLaws.{and_both, and_left, and_right, and-no-left, and-next}
use Rattle.formats.proofs.PlanLaws.{within_low, within-high, within-no-low, within-no-high, is_within}

-- ---- limits

module _ (n s k : ℕ) where
  limits-out : within 1 node_limit n ≡ false → limits_fit n s k ≡ false
  unfolding limits_fit
  limits-out h = and-no-left (within 1 node_limit n) (counts_fit s k) h

  pub limits-none : n < 1 → limits_fit n s k ≡ false
  limits-none h = limits-out (within-no-low 1 node_limit n h)

  pub limits-many : 65535 < n → limits_fit n s k ≡ false
  limits-many h = limits-out (within-no-high 1 node_limit n h)

  pub limits-end : 1 ≤ n → n ≤ 65535 → limits_fit n s k ≡ counts_fit s k
  unfolding limits_fit
  limits-end a b = and-next (within 1 node_limit n) (counts_fit s k) (is_within 1 node_limit n a b)

  pub record Limits : Type 0 where
    pub nodes : 1 ≤ n
    pub most : n ≤ 65535
    pub states : 1 ≤ s
    pub few : s ≤ 16
    pub labels : 1 ≤ k
    pub labels_most : k ≤ 64

  pub limits-are : limits_fit n s k ≡ true → Limits
  unfolding limits_fit
  limits-are h =
      let N : within 1 node_limit n ≡ true = and_left (within 1 node_limit n) (counts_fit s k) h in
      let C : counts_fit s k ≡ true = and_right (within 1 node_limit n) (counts_fit s k) h in
      let S : within 1 state_limit s ≡ true = and_left (within 1 state_limit s) (within 1 label_limit k) C in
      let K : within 1 label_limit k ≡ true = and_right (within 1 state_limit s) (within 1 label_limit k) C in
      record {
        nodes = within_low 1 node_limit n N;
        most = within-high 1 node_limit n N;
        states = within_low 1 state_limit s S;
        few = within-high 1 state_limit s S;
        labels = within_low 1 label_limit k K;
        labels_most = within-high 1 label_limit k K;
      }

  pub are-limits : Limits → limits_fit n s k ≡ true
  are-limits L =
      limits-end L.nodes L.most
      ∙ and_both (within 1 state_limit s) (within 1 label_limit k) (is_within 1 state_limit s L.states L.few)
      (is_within 1 label_limit k L.labels L.labels_most)

-- ---- lengths

module _ (n s exact plan table node_table state_table : ℕ) where
  abbrev room : Bool
  room = room_fits n s node_table state_table

  pub plan-no : ¬ (plan ≡ plan_length n) → buffers_fit n s exact plan table node_table state_table ≡ false
  unfolding buffers_fit
  plan-no h = and-no-left (eqb plan (plan_length n)) (eqb table exact && room) (ne_eqb plan (plan_length n) h)

  module _ (p : plan ≡ plan_length n) where
    from-table : buffers_fit n s exact plan table node_table state_table ≡ (eqb table exact && room)
    unfolding buffers_fit
    from-table = and-next (eqb plan (plan_length n)) (eqb table exact && room) (eq-eqb plan (plan_length n) p)

    pub table-no : ¬ (table ≡ exact) → buffers_fit n s exact plan table node_table state_table ≡ false
    table-no h = from-table ∙ and-no-left (eqb table exact) room (ne_eqb table exact h)

    pub buffers-end : table ≡ exact → buffers_fit n s exact plan table node_table state_table ≡ room_fits n s node_table state_table
    buffers-end h = from-table ∙ and-next (eqb table exact) room (eq-eqb table exact h)

  pub record Lengths : Type 0 where
    pub plan_is : plan ≡ plan_length n
    pub table_is : table ≡ exact
    pub node_table_room : node_table_length n ≤ node_table
    pub state_table_room : state_table_length n s ≤ state_table

  pub lengths-are : buffers_fit n s exact plan table node_table state_table ≡ true → Lengths
  unfolding buffers_fit
  lengths-are h =
      let two : (eqb table exact && room) ≡ true = and_right (eqb plan (plan_length n)) (eqb table exact && room) h in
      let three : room ≡ true = and_right (eqb table exact) room two in
      record {
        plan_is = eqb-true plan (plan_length n) (and_left (eqb plan (plan_length n)) (eqb table exact && room) h);
        table_is = eqb-true table exact (and_left (eqb table exact) room two);
        node_table_room = leb-true (node_table_length n) node_table (and_left (leb (node_table_length n) node_table) (leb (state_table_length n s) state_table) three);
        state_table_room =
            leb-true (state_table_length n s) state_table (and_right (leb (node_table_length n) node_table) (leb (state_table_length n s) state_table) three);
      }

  pub are-lengths : Lengths → buffers_fit n s exact plan table node_table state_table ≡ true
  are-lengths L =
      buffers-end L.plan_is L.table_is
      ∙ and_both (leb (node_table_length n) node_table) (leb (state_table_length n s) state_table) (le-leb (node_table_length n) node_table L.node_table_room)
      (le-leb (state_table_length n s) state_table L.state_table_room)

-- ---- headers

module _ (header : ℕ) (p r : List ℕ) where
  abbrev limits : Bool
  limits = limits_fit (node_count p) (state_count r) (label_count r)

  pub plan-cut : length p < 12 → headers_fit header p r ≡ false
  unfolding headers_fit
  plan-cut h = and-no-left (leb 12 (length p)) (leb header (length r) && limits) (lt-leb 12 (length p) h)

  module _ (a : 12 ≤ length p) where
    from-header : headers_fit header p r ≡ (leb header (length r) && limits)
    unfolding headers_fit
    from-header = and-next (leb 12 (length p)) (leb header (length r) && limits) (le-leb 12 (length p) a)

    pub table-cut : length r < header → headers_fit header p r ≡ false
    table-cut h = from-header ∙ and-no-left (leb header (length r)) limits (lt-leb header (length r) h)

    pub headers-end : header ≤ length r
        → headers_fit header p r ≡ limits_fit (node_count p) (state_count r) (label_count r)
    headers-end h = from-header ∙ and-next (leb header (length r)) limits (le-leb header (length r) h)

  -- with N, S and K as they were read
  pub headers-by : (n s k : ℕ) → n ≡ node_count p → s ≡ state_count r → k ≡ label_count r → 12 ≤ length p
      → header ≤ length r → limits_fit n s k ≡ headers_fit header p r
  headers-by n s k e f g a b =
      ap (λ (i : ℕ). limits_fit i s k) e ∙ ap₂ (λ (i j : ℕ). limits_fit (node_count p) i j) f g ∙ sym (headers-end a b)

  pub record Headers : Type 0 where
    pub plan-long : 12 ≤ length p
    pub table-long : header ≤ length r
    pub in-limits : Limits (node_count p) (state_count r) (label_count r)

  pub headers-are : headers_fit header p r ≡ true → Headers
  unfolding headers_fit
  headers-are h =
      let two : (leb header (length r) && limits) ≡ true =
      and_right (leb 12 (length p)) (leb header (length r) && limits) h in
      record {
        plan-long = leb-true 12 (length p) (and_left (leb 12 (length p)) (leb header (length r) && limits) h);
        table-long = leb-true header (length r) (and_left (leb header (length r)) limits two);
        in-limits =
            limits-are (node_count p) (state_count r) (label_count r) (and_right (leb header (length r)) limits two);
      }

-- ---- headers and lengths

module _ (kind : TableKind) (p r : List ℕ) (node_table state_table : ℕ) where
  abbrev lengths : Bool
  lengths =
      buffers_fit (node_count p) (state_count r) (kind.exact (state_count r) (label_count r)) (length p) (length r) node_table
      state_table

  pub headers-no : headers_fit kind.header p r ≡ false → headed_buffers_fit kind p r node_table state_table ≡ false
  unfolding headed_buffers_fit
  headers-no h = and-no-left (headers_fit kind.header p r) lengths h

  pub headed-end : headers_fit kind.header p r ≡ true
      → headed_buffers_fit kind p r node_table state_table
      ≡ buffers_fit (node_count p) (state_count r) (kind.exact (state_count r) (label_count r)) (length p) (length r) node_table
      state_table
  unfolding headed_buffers_fit
  headed-end h = and-next (headers_fit kind.header p r) lengths h

  -- with N, S and K as they were read
  pub headed-by : (n s k exact : ℕ) → n ≡ node_count p → s ≡ state_count r → k ≡ label_count r → exact ≡ kind.exact s k
      → headers_fit kind.header p r ≡ true
      → buffers_fit n s exact (length p) (length r) node_table state_table ≡ headed_buffers_fit kind p r node_table state_table
  headed-by n s k exact e f g x h =
      ap₂ (λ (i j : ℕ). buffers_fit i s j (length p) (length r) node_table state_table) e x
      ∙ ap₂ (λ (i j : ℕ). buffers_fit (node_count p) i (kind.exact i j) (length p) (length r) node_table state_table) f g
      ∙ sym (headed-end h)

  pub record Headed : Type 0 where
    pub headers : Headers kind.header p r
    pub plan_exact : length p ≡ plan_length (node_count p)
    pub table-exact : length r ≡ kind.exact (state_count r) (label_count r)
    pub node_table_room : node_count p * 4 ≤ node_table
    pub state_table_room : node_count p * (state_count r + 1) ≤ state_table

  pub headed-are : headed_buffers_fit kind p r node_table state_table ≡ true → Headed
  unfolding headed_buffers_fit
  headed-are h =
      let L = lengths-are (node_count p) (state_count r) (kind.exact (state_count r) (label_count r)) (length p) (length r)
      node_table state_table (and_right (headers_fit kind.header p r) lengths h) in
      record {
        headers = headers-are kind.header p r (and_left (headers_fit kind.header p r) lengths h);
        plan_exact = L.plan_is;
        table-exact = L.table_is;
        node_table_room = L.node_table_room;
        state_table_room = L.state_table_room;
      }

  pub are-headed : Headed → headed_buffers_fit kind p r node_table state_table ≡ true
  are-headed H =
      let L = H.headers in
      headed-end (headers-end kind.header p r L.plan-long L.table-long
      ∙ are-limits (node_count p) (state_count r) (label_count r) L.in-limits)
      ∙ are-lengths (node_count p) (state_count r) (kind.exact (state_count r) (label_count r)) (length p) (length r) node_table
      state_table
      (record {
        plan_is = H.plan_exact;
        table_is = H.table-exact;
        node_table_room = H.node_table_room;
        state_table_room = H.state_table_room;
      })
