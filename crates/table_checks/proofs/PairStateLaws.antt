-- The states and maps of a pair: indices, and what the test means.
--     within-below .. left_less      indices and values of the tables are in range
--     rows-args, rows-args-of        what the tests at one node read lies inside
--     rule-place                     the same of the rules
--     placed, pair_is                the indices of a pair, and the test at its node, as the code computes them
--     rows-near, rows-far            the test of both maps, as the code makes it; rows-joined: through the joined map
--     Rows, rows_told, tells-rows    what the test of both children's maps means
use Prim.Native.Nat.{ℕ, ◌+◌, ◌-◌, ◌*◌, ◌≤◌, ◌<◌}
use mathlib.Core.Path.{◌≡◌, refl, ◌∙◌}
use mathlib.Core.Bool.{Bool, true, false, cond, ◌&&◌}
use mathlib.Core.List.{List}
use native.Mathlib.Nat.{mul-le-mul_right}
use native.Mathlib.Decide.{ℕ_discrete}
use native.Mathlib.Omega.{arith}
use lib.Dec.{eqb, ltb}
use lib.ListN.{length, get_or}
use lib.Bits.{bit_or}
use borrow.Author.Tests.{eq-eqb, ne_eqb, ltb-true}
use Rattle.list_laws.proofs.RowLaws.{stride}
use Rattle.trees.proofs.MoveLaws.{both}
use Rattle.tables.specs.node_tables.Cells.{jump_cell}
use Rattle.tables.specs.StateCells.{state_cell, map_cell}
use Rattle.tables.specs.inner.Rows.{RowIn}
use Rattle.tables.specs.inner.MapPairs.{row_of, col_of}
use Rattle.tables.specs.inner.Compare.{row_equals, near_entry}
use Rattle.table_checks.specs.inner.Joins.{Joined, through_entry}
use Rattle.table_checks.specs.inner.PairPlaces.{PairPlaced}
use Rattle.table_checks.specs.inner.PairStates.{far_entry, FarEntryArgs, rows_match, pair_states}
use Rattle.table_checks.specs.inner.PairStates.{RowsArgs, StateIn, TableRoom}
use Rattle.tables.specs.node_tables.inner.UpPass.{left_of}
use Rattle.tables.proofs.CompareLaws.{row_equals-map, map-row_equals, row_equals-ext}
use Rattle.formats.proofs.RuleLaws.{rule-in}
use Rattle.table_checks.specs.inner.PairNodes.{within}
use Rattle.table_checks.proofs.DifferenceLaws.{or-test}

pub within-below : (n x : ℕ) → 0 < n → within n x < n
within-below n x h = go (ltb x n) refl
  where
    go : (c : Bool) → ltb x n ≡ c → cond c x 0 < n
    go true e = ltb-true x n e
    go false e = h

-- ---- indices

module _ (ls node_table lv inn : List ℕ) (s k n : ℕ) (b : List ℕ) (T : TableRoom ls node_table lv inn s k n b) where
  pub row_room : (u : ℕ) → u < n → RowIn (length b) s u
  row_room u h = omega (arith, stride (s + 1) u n h, T.room)

  pub row_small : (u : ℕ) → u < n → u * (s + 1) < 4294967296
  row_small u h =
      let e : u ≤ 65535 = omega (arith, T.most) in
      omega (arith, mul-le-mul_right (s + 1) e, T.rules.few)

  pub state_in : (u : ℕ) → u < n → StateIn s b u
  state_in u h = record { few = T.rules.few; at = omega (arith, row_room u h) }

  pub state-less : (u : ℕ) → u < n → state_cell s b u < s
  state-less u h = T.states (u * (s + 1)) (omega (arith, stride (s + 1) u n h))

  pub map-less : (u : ℕ) → u < n → (q : ℕ) → q < s → map_cell s b u q < s
  map-less u h q l = T.states (u * (s + 1) + (1 + q)) (omega (arith, stride (s + 1) u n h))

  module _ (v : ℕ) (pos : 0 < v) (hv : v < n) where
    pub left_less : left_of node_table v < n
    left_less = omega arith

    right-less : v - 1 < n
    right-less = omega arith

    row_in : (q : ℕ) → q < s → row_of ls node_table b s k v + q * 1 < length inn
    row_in q l =
        omega (
          arith,
          rule-in s k (state_cell s b (left_of node_table v)) (get_or ls v 0) q (state-less (left_of node_table v) left_less)
              (T.below v) l,
          T.rules.inner_count,
        )

    col-in : (q : ℕ) → q < s → col_of ls b s v + q * (k * s) < length inn
    col-in q l =
        omega (
          arith,
          rule-in s k q (get_or ls v 0) (state_cell s b (v - 1)) l (T.below v) (state-less (v - 1) right-less),
          T.rules.inner_count,
        )

    pub rows-args : RowsArgs node_table inn s n b v (left_of node_table v) (row_of ls node_table b s k v) (col_of ls b s v)
        (k * s)
    rows-args = record {
      links = record { pos = pos; inside = hv; most = T.most; room = T.link_room };
      right = record { room = row_room (v - 1) right-less; inside = row_in };
      left = record { room = row_room (left_of node_table v) left_less; inside = col-in };
      maps = record {
        first = row_room v hv;
        second = row_room (within n (jump_cell node_table v)) (within-below n (jump_cell node_table v) (omega arith));
        below = map-less v hv;
        room = T.rules.few;
      };
      jump_below =
          map-less (within n (jump_cell node_table v)) (within-below n (jump_cell node_table v) (omega arith));
      right_below = λ q l. T.rules.inner_below (row_of ls node_table b s k v + q * 1);
      left_below = λ q l. T.rules.inner_below (col_of ls b s v + q * (k * s));
    }

    -- as the code has them
    pub rows-args-of : (l row col : ℕ) → l ≡ left_of node_table v → row ≡ row_of ls node_table b s k v
        → col ≡ col_of ls b s v → RowsArgs node_table inn s n b v l row col (k * s)
    rows-args-of l row col e f g = rw (f, g, e) rows-args

    pub rule-place : (l p q : ℕ) → l ≡ left_of node_table v → p ≡ state_cell s b l → q ≡ state_cell s b (v - 1)
        → (p * k + get_or ls v 0) * s + q < length inn
    rule-place l p q e f g =
        rw (f, g, e) (omega (
          arith,
          rule-in s k (state_cell s b (left_of node_table v)) (get_or ls v 0) (state_cell s b (v - 1))
              (state-less (left_of node_table v) left_less) (T.below v) (state-less (v - 1) right-less),
          T.rules.inner_count,
        ))

    pub placed : (l p q x : ℕ) → l ≡ left_of node_table v → p ≡ state_cell s b l → q ≡ state_cell s b (v - 1)
        → eqb x 0 ≡ eqb (state_cell s b v) (get_or inn ((p * k + get_or ls v 0) * s + q) 0)
        → PairPlaced ls node_table inn s k b v l ((p * k + get_or ls v 0) * s) (get_or ls v 0 * s + q) x
    placed l p q x e f g h = record {
      left_is = e;
      row_is = rw (f, e);
      col_is = rw g;
      state_is = rw (f, g, e) at h;
    }

    pub pair_is : (l row col x : ℕ) → PairPlaced ls node_table inn s k b v l row col x → (y : ℕ)
        → eqb y 0 ≡ rows_match node_table inn s n b v l row col (k * s)
        → eqb (bit_or x y) 0 ≡ pair_states ls node_table inn s k n b v
    unfolding pair_states
    pair_is l row col x P y z =
        or-test x y ∙ rw (P.state_is, z, P.left_is, P.row_is, P.col_is)

  pub step_small : k * s ≤ 1024
  step_small = omega (arith, mul-le-mul_right s T.rules.labels, T.rules.few)

-- ---- the test of both maps, as the code makes it

module _ (node_table inn : List ℕ) (s n : ℕ) (b : List ℕ) (v l row col step : ℕ) where
  pub rows-near : jump_cell node_table (v - 1) ≡ v → (x y : Bool) → x ≡ row_equals s b (v - 1) (near_entry inn row 1)
      → y ≡ row_equals s b l (near_entry inn col step) → (x && y) ≡ rows_match node_table inn s n b v l row col step
  unfolding rows_match
  rows-near h x y e f = rw (eq-eqb (jump_cell node_table (v - 1)) v h, e, f)

  pub rows-far : (jump_cell node_table (v - 1) ≡ v → ⊥) → (j : ℕ) → j ≡ within n (jump_cell node_table v) → (x y : Bool)
      → x ≡ row_equals s b (v - 1) (far_entry s b v j inn row 1) → y ≡ row_equals s b l (far_entry s b v j inn col step)
      → (x && y) ≡ rows_match node_table inn s n b v l row col step
  unfolding rows_match
  rows-far h j z x y e f = rw (ne_eqb (jump_cell node_table (v - 1)) v h, e, f, z)

  -- through the joined map
  through-far : (u p j base stride : ℕ) (m : List ℕ) → Joined s b p j s m
      → ((q : ℕ) → q < s → near_entry inn base stride q < s)
      → row_equals s b u (through_entry m inn base stride) ≡ row_equals s b u (far_entry s b p j inn base stride)
  through-far u p j base stride m J h =
      row_equals-ext s b u (through_entry m inn base stride) (far_entry s b p j inn base stride)
      (λ q l. J (near_entry inn base stride q) (h q l))

  module _ (A : RowsArgs node_table inn s n b v l row col step) where
    pub far-right : FarEntryArgs s b (v - 1) v (within n (jump_cell node_table v)) inn row 1
    far-right = record {
      room = A.right.room;
      first = A.maps.first;
      second = A.maps.second;
      inside = A.right.inside;
      near_below = A.right_below;
      first_below = A.maps.below;
    }

    pub far-left : FarEntryArgs s b l v (within n (jump_cell node_table v)) inn col step
    far-left = record {
      room = A.left.room;
      first = A.maps.first;
      second = A.maps.second;
      inside = A.left.inside;
      near_below = A.left_below;
      first_below = A.maps.below;
    }

    pub rows-joined : (jump_cell node_table (v - 1) ≡ v → ⊥) → (j : ℕ) → j ≡ within n (jump_cell node_table v)
        → (m : List ℕ) → Joined s b v j s m → (x y : Bool) → x ≡ row_equals s b (v - 1) (through_entry m inn row 1)
        → y ≡ row_equals s b l (through_entry m inn col step) → (x && y) ≡ rows_match node_table inn s n b v l row col step
    rows-joined h j z m J x y e f =
        rows-far h j z x y (e ∙ through-far (v - 1) v j row 1 m J A.right_below)
        (f ∙ through-far l v j col step m J A.left_below)

-- ---- what it means

pub record Rows (node_table inn : List ℕ) (s n : ℕ) (b : List ℕ) (v l row col step : ℕ) : Type 0 where
  pub near-right : jump_cell node_table (v - 1) ≡ v → (q : ℕ) → q < s → map_cell s b (v - 1) q ≡ near_entry inn row 1 q
  pub near-left : jump_cell node_table (v - 1) ≡ v → (q : ℕ) → q < s → map_cell s b l q ≡ near_entry inn col step q
  pub far-right : (jump_cell node_table (v - 1) ≡ v → ⊥) → (q : ℕ) → q < s
      → map_cell s b (v - 1) q ≡ far_entry s b v (within n (jump_cell node_table v)) inn row 1 q
  pub far-left : (jump_cell node_table (v - 1) ≡ v → ⊥) → (q : ℕ) → q < s
      → map_cell s b l q ≡ far_entry s b v (within n (jump_cell node_table v)) inn col step q

module _ (node_table inn : List ℕ) (s n : ℕ) (b : List ℕ) (v l row col step : ℕ) where
  nr : Bool
  nr = row_equals s b (v - 1) (near_entry inn row 1)

  nl : Bool
  nl = row_equals s b l (near_entry inn col step)

  fr : Bool
  fr = row_equals s b (v - 1) (far_entry s b v (within n (jump_cell node_table v)) inn row 1)

  fl : Bool
  fl = row_equals s b l (far_entry s b v (within n (jump_cell node_table v)) inn col step)

  near-told : rows_match node_table inn s n b v l row col step ≡ true → jump_cell node_table (v - 1) ≡ v → (nr ≡ true)
      × (nl ≡ true)
  unfolding rows_match nr nl
  near-told e h = both nr nl (rw (eq-eqb (jump_cell node_table (v - 1)) v h) at e)

  far-told : rows_match node_table inn s n b v l row col step ≡ true → (jump_cell node_table (v - 1) ≡ v → ⊥)
      → (fr ≡ true) × (fl ≡ true)
  unfolding rows_match fr fl
  far-told e h = both fr fl (rw (ne_eqb (jump_cell node_table (v - 1)) v h) at e)

  pub rows_told : rows_match node_table inn s n b v l row col step ≡ true → Rows node_table inn s n b v l row col step
  unfolding nr nl fr fl
  rows_told e = record {
    near-right = λ h. row_equals-map s b (v - 1) (near_entry inn row 1) (near-told e h).0;
    near-left = λ h. row_equals-map s b l (near_entry inn col step) (near-told e h).1;
    far-right = λ h. row_equals-map s b (v - 1) (far_entry s b v (within n (jump_cell node_table v)) inn row 1)
        (far-told e h).0;
    far-left = λ h. row_equals-map s b l (far_entry s b v (within n (jump_cell node_table v)) inn col step) (far-told e h).1;
  }

  pub tells-rows : Rows node_table inn s n b v l row col step → rows_match node_table inn s n b v l row col step ≡ true
  unfolding rows_match
  tells-rows R = elim (ℕ_discrete (jump_cell node_table (v - 1)) v) [
    | yes h ↦ rw (
      eq-eqb (jump_cell node_table (v - 1)) v h,
      map-row_equals s b (v - 1) (near_entry inn row 1) (R.near-right h),
      map-row_equals s b l (near_entry inn col step) (R.near-left h),
    )
    | no h ↦ rw (
      ne_eqb (jump_cell node_table (v - 1)) v h,
      map-row_equals s b (v - 1) (far_entry s b v (within n (jump_cell node_table v)) inn row 1) (R.far-right h),
      map-row_equals s b l (far_entry s b v (within n (jump_cell node_table v)) inn col step) (R.far-left h),
    )
  ]
