-- The states at a node's parent.
--     right_in, left_in              the places of a right child's and of a left child's
--     above-right, above-left            they are the values of the definition
--     place-.., sums, right-args, left-args   what the code reads of the sibling is inside, and small
use Prim.Native.Nat.{ℕ, ◌+◌, ◌-◌, ◌*◌, ◌≤◌, ◌<◌}
use mathlib.Core.Path.{◌≡◌}
use mathlib.Core.List.{List}
use native.Mathlib.Omega.{arith}
use native.Mathlib.Nat.{mul-le-mul}
use lib.ListN.{length, get_or}
use borrow.Author.Tests.{eq-eqb, ne_eqb}
use Rattle.list_laws.proofs.RowLaws.{stride}
use Rattle.tables.specs.node_tables.Cells.{parent_cell, size_cell}
use Rattle.tables.specs.StateCells.{state_cell}
use Rattle.tables.specs.inner.Maps.{near_value}
use Rattle.colour_tables.specs.set_states.StatesAbove.{StatesAboveTo, FromArgs, UpArgs}

pub right_in : (s k x a q m : ℕ) → x < s → a < k → q < s → s * k * s ≤ m → (x * k + a) * s + q * 1 < m
right_in s k x a q m hx ha hq r =
    let i : x * k + a < s * k = omega (arith, stride k x s hx) in
    omega (arith, stride s (x * k + a) (s * k) i)

pub left_in : (s k x a q m : ℕ) → x < s → a < k → q < s → s * k * s ≤ m → a * s + x + q * (k * s) < m
left_in s k x a q m hx ha hq r =
    let i : q * k + a < s * k = omega (arith, stride k q s hq) in
    omega (arith, stride s (q * k + a) (s * k) i)

module _ (ls b inn st : List ℕ) (s k v p a : ℕ) (ep : p ≡ parent_cell b v) (ea : a ≡ get_or ls p 0) (above : List ℕ) where
  pub above-right : v + 1 ≡ p → (z : ℕ) → z ≡ size_cell b v
      → StatesAboveTo s (λ q. get_or inn ((state_cell s st (v - z) * k + a) * s + q * 1) 0) above
      → StatesAboveTo s (near_value ls b inn s k st v) above
  unfolding near_value
  above-right h z e U = record {
    long = U.long;
    cells = λ q l. rw (← ep, ← ea, ← e, eq-eqb (v + 1) p h) (U.cells q l);
  }

  pub above-left : (v + 1 ≡ p → ⊥)
      → StatesAboveTo s (λ q. get_or inn (a * s + state_cell s st (p - 1) + q * (k * s)) 0) above
      → StatesAboveTo s (near_value ls b inn s k st v) above
  unfolding near_value
  above-left h U = record { long = U.long; cells = λ q l. rw (← ep, ← ea, ne_eqb (v + 1) p h) (U.cells q l) }

-- ---- what is read of the sibling u, a node below p

module _ (ls b inn st : List ℕ) (s k v : ℕ) (A : UpArgs ls b inn st s k v) (p : ℕ) (ep : p ≡ parent_cell b v) (u : ℕ)
    (h : u < p) where
  pub place-small : u * (s + 1) ≤ 327675
  place-small =
      let few : s + 1 ≤ 5 = omega (arith, A.few) in
      mul-le-mul {n₁ = u} {m₁ = s + 1} {n₂ = 65535} {m₂ = 5} (omega (arith, A.inside, A.most)) few

  pub place_in : u * (s + 1) < length st
  place_in =
      let r : p * (s + 1) ≤ length st = rw ep A.room in
      omega (arith, stride (s + 1) u p h)

  pub state_in : state_cell s st u < s
  state_in = A.state_below u (omega arith)

  pub label_in : get_or ls p 0 < k
  label_in = rw ep A.label

  pub sums : (state_cell s st u * k ≤ 256) × ((state_cell s st u * k + get_or ls p 0) * s ≤ 1280) × (get_or ls p 0 * s ≤ 256)
      × (k * s ≤ 256)
  sums =
      let x : ℕ = state_cell s st u in
      let a : ℕ = get_or ls p 0 in
      let hx : x ≤ 4 = omega (arith, state_in, A.few) in
      let ha : a ≤ 64 = omega (arith, label_in, A.labels) in
      let m : x * k ≤ 4 * 64 = mul-le-mul {n₁ = x} {m₁ = k} {n₂ = 4} {m₂ = 64} hx A.labels in (
        m,
        mul-le-mul {n₁ = x * k + a} {m₁ = s} {n₂ = 320} {m₂ = 4} (omega arith) A.few,
        mul-le-mul {n₁ = a} {m₁ = s} {n₂ = 64} {m₂ = 4} ha A.few,
        mul-le-mul {n₁ = k} {m₁ = s} {n₂ = 64} {m₂ = 4} A.labels A.few,
      )

  pub right-args : FromArgs inn s ((state_cell s st u * k + get_or ls p 0) * s) 1
  right-args = record {
    few = A.few;
    inside = λ q l. right_in s k (state_cell s st u) (get_or ls p 0) q (length inn) state_in label_in l A.inner_room;
  }

  pub left-args : FromArgs inn s (get_or ls p 0 * s + state_cell s st u) (k * s)
  left-args = record {
    few = A.few;
    inside = λ q l. left_in s k (state_cell s st u) (get_or ls p 0) q (length inn) state_in label_in l A.inner_room;
  }
