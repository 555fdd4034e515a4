-- Two states by arithmetic on 0 and 1.
--     bit-cases                      a number below 2 is 0 or 1
--     two-entry                      the entry of a map of two states, without a choice
--     bit-most, two-mapped           the map that both children's steps are composed with, as the code makes it
--     near-at, rows-two              the test of both maps, as the code makes it
use Prim.Native.Nat.{ℕ, zero, suc, ◌+◌, ◌-◌, ◌*◌, ◌≤◌, ◌<◌}
use mathlib.Core.Path.{◌≡◌, refl, sym, ap₂, ◌∙◌}
use mathlib.Core.Bool.{Bool, true, false, cond, ◌&&◌}
use mathlib.Core.List.{List}
use native.Mathlib.Omega.{arith}
use lib.Dec.{eqb}
use lib.ListN.{get_or}
use lib.Bits.{bit_and, bit_or, bit_xor}
use Rattle.tables.specs.node_tables.Cells.{jump_cell}
use Rattle.tables.specs.StateCells.{map_cell}
use Rattle.tables.specs.inner.Compare.{every, row_equals, near_entry}
use Rattle.table_checks.specs.inner.PairNodes.{within}
use Rattle.table_checks.specs.inner.PairStates.{far_entry, rows_match}
use Rattle.table_checks.specs.inner.TwoStates.{near_of, taken_entry, TwoArgs, TwoMapped}
use Rattle.table_checks.proofs.DifferenceLaws.{or-test, xor-test}

pub bit-cases : (x : ℕ) → x < 2 → (P : ℕ → Type 0) → P 0 → P 1 → P x
bit-cases zero h P p q = p
bit-cases (suc zero) h P p q = q
bit-cases (suc (suc x)) h P p q = absurd (omega arith)

pub two-entry : (a b x : ℕ) → a < 2 → b < 2 → x < 2 → bit_xor a (bit_and x (bit_xor a b)) ≡ cond (eqb x 0) a b
two-entry a b x ha hb hx =
    bit-cases a ha (λ a. bit_xor a (bit_and x (bit_xor a b)) ≡ cond (eqb x 0) a b)
    (bit-cases b hb (λ b. bit_xor 0 (bit_and x (bit_xor 0 b)) ≡ cond (eqb x 0) 0 b)
    (bit-cases x hx (λ x. bit_xor 0 (bit_and x (bit_xor 0 0)) ≡ cond (eqb x 0) 0 0) refl refl)
    (bit-cases x hx (λ x. bit_xor 0 (bit_and x (bit_xor 0 1)) ≡ cond (eqb x 0) 0 1) refl refl))
    (bit-cases b hb (λ b. bit_xor 1 (bit_and x (bit_xor 1 b)) ≡ cond (eqb x 0) 1 b)
    (bit-cases x hx (λ x. bit_xor 1 (bit_and x (bit_xor 1 0)) ≡ cond (eqb x 0) 1 0) refl refl)
    (bit-cases x hx (λ x. bit_xor 1 (bit_and x (bit_xor 1 1)) ≡ cond (eqb x 0) 1 1) refl refl))

-- ---- the map, as the code makes it

masked : (t : Bool) (x : ℕ) → x < 2 → bit_and x (cond t 0 1) ≡ cond t 0 x
masked true x h = bit-cases x h (λ x. bit_and x 0 ≡ 0) refl refl
masked false x h = bit-cases x h (λ x. bit_and x 1 ≡ x) refl refl

filled : (t : Bool) (x : ℕ) → x < 2 → bit_or x (1 - cond t 0 1) ≡ cond t 1 x
filled true x h = bit-cases x h (λ x. bit_or x 1 ≡ 1) refl refl
filled false x h = bit-cases x h (λ x. bit_or x 0 ≡ x) refl refl

either-bit : (t : Bool) (x y : ℕ) → x < 2 → y < 2 → cond t x y < 2
either-bit true x y h i = h
either-bit false x y h i = i

pub bit-most : (t : Bool) (x : ℕ) → x ≡ cond t 0 1 → x ≤ 1
bit-most true x e = omega arith
bit-most false x e = omega arith

module _ (node_table : List ℕ) (n : ℕ) (b : List ℕ) (v : ℕ) where
  pub two-mapped : TwoArgs node_table n b v → (far j : ℕ) → far ≡ cond (near_of node_table v) 0 1
      → j ≡ within n (jump_cell node_table v)
      → TwoMapped node_table n b v (bit_and (map_cell 2 b j (map_cell 2 b v 0)) far)
      (bit_or (map_cell 2 b j (map_cell 2 b v 1)) (1 - far))
  two-mapped A far j e f =
      let t = near_of node_table v in
      let x = map_cell 2 b (within n (jump_cell node_table v)) (map_cell 2 b v 0) in
      let y = map_cell 2 b (within n (jump_cell node_table v)) (map_cell 2 b v 1) in
      let hx : x < 2 = A.jump_below (map_cell 2 b v 0) (A.maps.below 0 (omega arith)) in
      let hy : y < 2 = A.jump_below (map_cell 2 b v 1) (A.maps.below 1 (omega arith)) in
      rw (e, f) (record {
        zero_is = masked t x hx;
        one_is = filled t y hy;
        zero_less = rw (masked t x hx) (either-bit t 0 x (omega arith) hx);
        one_less = rw (filled t y hy) (either-bit t 1 y (omega arith) hy);
      })

  -- ---- the test of both maps

  entry-taken : (m0 m1 : ℕ) → TwoMapped node_table n b v m0 m1 → (x : ℕ) → x < 2
      → cond (eqb x 0) m0 m1 ≡ taken_entry node_table n b v x
  entry-taken m0 m1 M x h =
      bit-cases x h (λ x. cond (eqb x 0) m0 m1 ≡ taken_entry node_table n b v x) M.zero_is M.one_is

  row-two : (inn : List ℕ) (u base stride : ℕ)
      → (eqb (map_cell 2 b u 0) (taken_entry node_table n b v (near_entry inn base stride 0))
      && eqb (map_cell 2 b u 1) (taken_entry node_table n b v (near_entry inn base stride 1)))
      ≡ row_equals 2 b u (λ q. taken_entry node_table n b v (near_entry inn base stride q))
  unfolding every
  row-two inn u base stride = refl

  chosen : (inn : List ℕ) (l row col step : ℕ) (t : Bool)
      → cond t (row_equals 2 b (v - 1) (near_entry inn row 1) && row_equals 2 b l (near_entry inn col step))
      (row_equals 2 b (v - 1) (far_entry 2 b v (within n (jump_cell node_table v)) inn row 1)
      && row_equals 2 b l (far_entry 2 b v (within n (jump_cell node_table v)) inn col step))
      ≡ (row_equals 2 b (v - 1)
      (λ q. cond t (near_entry inn row 1 q) (far_entry 2 b v (within n (jump_cell node_table v)) inn row 1 q))
      && row_equals 2 b l
      (λ q. cond t (near_entry inn col step q) (far_entry 2 b v (within n (jump_cell node_table v)) inn col step q)))
  chosen inn l row col step true = refl
  chosen inn l row col step false = refl

  four : (a0 a1 a2 a3 e0 e1 e2 e3 : ℕ)
      → eqb (bit_or (bit_or (bit_xor a0 e0) (bit_xor a1 e1)) (bit_or (bit_xor a2 e2) (bit_xor a3 e3))) 0
      ≡ ((eqb a0 e0 && eqb a1 e1) && (eqb a2 e2 && eqb a3 e3))
  four a0 a1 a2 a3 e0 e1 e2 e3 =
      or-test (bit_or (bit_xor a0 e0) (bit_xor a1 e1)) (bit_or (bit_xor a2 e2) (bit_xor a3 e3))
      ∙ ap₂ (λ (x y : Bool). x && y)
      (or-test (bit_xor a0 e0) (bit_xor a1 e1) ∙ ap₂ (λ (x y : Bool). x && y) (xor-test a0 e0) (xor-test a1 e1))
      (or-test (bit_xor a2 e2) (bit_xor a3 e3) ∙ ap₂ (λ (x y : Bool). x && y) (xor-test a2 e2) (xor-test a3 e3))

  pub rows-two : (inn : List ℕ) (l row col step m0 m1 : ℕ) → TwoMapped node_table n b v m0 m1
      → ((q : ℕ) → q < 2 → near_entry inn row 1 q < 2) → ((q : ℕ) → q < 2 → near_entry inn col step q < 2)
      → (e0 e1 e2 e3 : ℕ) → e0 ≡ cond (eqb (near_entry inn row 1 0) 0) m0 m1
      → e1 ≡ cond (eqb (near_entry inn row 1 1) 0) m0 m1 → e2 ≡ cond (eqb (near_entry inn col step 0) 0) m0 m1
      → e3 ≡ cond (eqb (near_entry inn col step 1) 0) m0 m1
      → eqb (bit_or (bit_or (bit_xor (map_cell 2 b (v - 1) 0) e0) (bit_xor (map_cell 2 b (v - 1) 1) e1))
      (bit_or (bit_xor (map_cell 2 b l 0) e2) (bit_xor (map_cell 2 b l 1) e3))) 0
      ≡ rows_match node_table inn 2 n b v l row col step
  unfolding rows_match
  rows-two inn l row col step m0 m1 M hr hl e0 e1 e2 e3 z0 z1 z2 z3 =
      let o : 0 < 2 = omega arith in
      let i : 1 < 2 = omega arith in
      four (map_cell 2 b (v - 1) 0) (map_cell 2 b (v - 1) 1) (map_cell 2 b l 0) (map_cell 2 b l 1) e0 e1 e2 e3
      ∙ ap₂ (λ (x y : Bool). x && y)
      (ap₂ (λ (x y : ℕ). eqb (map_cell 2 b (v - 1) 0) x && eqb (map_cell 2 b (v - 1) 1) y)
      (z0 ∙ entry-taken m0 m1 M (near_entry inn row 1 0) (hr 0 o))
      (z1 ∙ entry-taken m0 m1 M (near_entry inn row 1 1) (hr 1 i)) ∙ row-two inn (v - 1) row 1)
      (ap₂ (λ (x y : ℕ). eqb (map_cell 2 b l 0) x && eqb (map_cell 2 b l 1) y)
      (z2 ∙ entry-taken m0 m1 M (near_entry inn col step 0) (hl 0 o))
      (z3 ∙ entry-taken m0 m1 M (near_entry inn col step 1) (hl 1 i)) ∙ row-two inn l col step)
      ∙ sym (chosen inn l row col step (near_of node_table v))

pub near-at : (inn : List ℕ) (base stride q at : ℕ) → at ≡ base + q * stride → near_entry inn base stride q < 2
    → get_or inn at 0 < 2
near-at inn base stride q at e h = rw e h
