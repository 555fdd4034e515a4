-- The number that each refusal of a whole call gives, by the answers of its parts.
--     first_part                  a number of the first part
--     table-rules, table-labels, table-good
--                                 plan, table (of either kind, with checks ts) and labels
--     room-no, room-good          room after checks ts
--     then-list                   a list after checks ts
use Prim.Native.Nat.{ℕ, ◌+◌, ◌*◌, ◌≤◌, ◌<◌}
use mathlib.Core.Path.{◌≡◌, sym, ap, ap₂, ◌∙◌}
use mathlib.Core.Bool.{Bool, true, false, not}
use mathlib.Core.List.{List, [], ◌∷◌, ◌++◌}
use native.Mathlib.Omega.{arith}
use native.Mathlib.Nat.{mul-le-mul}
use lib.Dec.{leb}
use borrow.Author.Tests.{le-leb, lt-leb, not-true, not-false}
use Rattle.list_laws.specs.Tests.{all_below}
use Rattle.formats.specs.Plan.{labels_within}
use Rattle.formats.specs.Checks.{Check, first_no, plan_checks, label_check, room_check}
use Rattle.formats.specs.inner.InnerChecks.{room_fits}
use Rattle.formats.proofs.CheckLaws.{Numbered, first_no-none, first_no-yes, first_no-no, first_no-append-zero, first_no-append-no}
use Rattle.formats.proofs.PlanLaws.{plan-numbered}

pub first_part : (xs ys : List Check) (x : ℕ) → x ≡ first_no xs → (x ≡ 0 → ⊥) → x ≡ first_no (xs ++ ys)
first_part xs ys x e f = e ∙ sym (first_no-append-no xs ys (λ z. f (e ∙ z)))

pub last-part : (xs ys : List Check) → Numbered xs → first_no xs ≡ 0 → (x : ℕ) → x ≡ first_no ys → x ≡ first_no (xs ++ ys)
last-part xs ys num e x f = f ∙ sym (first_no-append-zero xs ys num e)

-- ---- plan, table and labels

module _ (p : List ℕ) (k m : ℕ) (same : k ≡ m) (ts : List Check) (num : Numbered ts) (plan : first_no (plan_checks p) ≡ 0) where
  pub table-rules : (x : ℕ) → x ≡ first_no ts → (x ≡ 0 → ⊥) → x ≡ first_no (plan_checks p ++ (ts ++ (label_check p m ∷ [])))
  table-rules x e f =
      last-part (plan_checks p) (ts ++ (label_check p m ∷ [])) (plan-numbered p) plan x (first_part ts (label_check p m ∷ []) x e f)

  module _ (table : first_no ts ≡ 0) (x : Bool) (result : x ≡ all_below k (labels_within p)) where
    labels-answer : all_below m (labels_within p) ≡ x
    labels-answer = ap (λ (i : ℕ). all_below i (labels_within p)) (sym same) ∙ sym result

    after : (n : ℕ) → n ≡ first_no (label_check p m ∷ []) → n ≡ first_no (plan_checks p ++ (ts ++ (label_check p m ∷ [])))
    after n e =
        last-part (plan_checks p) (ts ++ (label_check p m ∷ [])) (plan-numbered p) plan n
        (last-part ts (label_check p m ∷ []) num table n e)

    pub table-labels : not x ≡ true → 10 ≡ first_no (plan_checks p ++ (ts ++ (label_check p m ∷ [])))
    table-labels f = after 10 (sym (first_no-no 10 (all_below m (labels_within p)) [] (labels-answer ∙ not-true x f)))

    pub table-good : not x ≡ false → 0 ≡ first_no (plan_checks p ++ (ts ++ (label_check p m ∷ [])))
    table-good f = after 0 (sym (first_no-yes 10 (all_below m (labels_within p)) [] (labels-answer ∙ not-false x f) ∙ first_no-none))

-- ---- room for the tables

pub product-states : (n s : ℕ) → n ≤ 65535 → s ≤ 16 → n * (s + 1) ≤ 1114095
product-states n s a b = mul-le-mul {n₁ = n} {m₁ = s + 1} {n₂ = 65535} {m₂ = 17} a (omega arith)

module _ (n s node_table state_table : ℕ) where
  pub room-links : node_table < n * 4 → false ≡ room_fits n s node_table state_table
  room-links h = rw (lt-leb (n * 4) node_table h)

  pub room-states : n * 4 ≤ node_table → leb (n * (s + 1)) state_table ≡ room_fits n s node_table state_table
  room-states h = rw (le-leb (n * 4) node_table h)

module _ (ts : List Check) (num : Numbered ts) (none : first_no ts ≡ 0) (n n₁ s s₁ node_table state_table : ℕ) (a : n ≡ n₁) (b : s ≡ s₁)
    (x : Bool) (result : x ≡ room_fits n s node_table state_table) where
  room-answer : room_fits n₁ s₁ node_table state_table ≡ x
  room-answer = ap₂ (λ (i j : ℕ). room_fits i j node_table state_table) (sym a) (sym b) ∙ sym result

  pub room-no : not x ≡ true → 11 ≡ first_no (ts ++ (room_check n₁ s₁ node_table state_table ∷ []))
  room-no f =
      last-part ts (room_check n₁ s₁ node_table state_table ∷ []) num none 11
      (sym (first_no-no 11 (room_fits n₁ s₁ node_table state_table) [] (room-answer ∙ not-true x f)))

  pub room-good : not x ≡ false → 0 ≡ first_no (ts ++ (room_check n₁ s₁ node_table state_table ∷ []))
  room-good f =
      last-part ts (room_check n₁ s₁ node_table state_table ∷ []) num none 0
      (sym (first_no-yes 11 (room_fits n₁ s₁ node_table state_table) [] (room-answer ∙ not-false x f) ∙ first_no-none))
