-- The stack in the plan's buffer, and one iteration of the loop that closes lists.
--     stack_same, stack-top     only the entries count; the top and the rest
--     stack-pushed              an entry more
--     close-iteration, close-end
use Prim.Native.Nat.{ℕ, zero, suc, ◌+◌, ◌*◌, ◌≤◌, ◌<◌}
use mathlib.Core.Path.{◌≡◌, refl, sym, ap, ◌∙◌}
use mathlib.Core.Bool.{Bool, true, false}
use mathlib.Core.List.{List, ◌∷◌}
use mathlib.Core.Option.{Option}
use native.Mathlib.Omega.{arith}
use native.Mathlib.Numerals.{add-one}
use lib.Dec.{eqb}
use lib.ListN.{length, get_or, set, length-set}
use lib.Seq.{get_or-set_same, get_or-set_other}
use Rattle.list_laws.proofs.BoolLaws.{true-false}
use Rattle.planner.specs.inner.OutMachine.{Entry, entry, to_come, closed, placed}
use Rattle.planner.specs.out.inner.Stack.{node_on_top, is_later, entry_at, stack_of, after_top, goes_further, after_leaf}
use Rattle.planner.specs.out.inner.Stack.{Pushed}

pub stack_same : (p q : List ℕ) (d : ℕ) → ((j : ℕ) → j < d * 4 → get_or q j 0 ≡ get_or p j 0) → stack_of q d ≡ stack_of p d
unfolding stack_of
stack_same p q zero h = refl
stack_same p q (suc d) h =
    let e0 : get_or q (d * 4) 0 ≡ get_or p (d * 4) 0 = h (d * 4) (omega arith) in
    let e1 : get_or q (d * 4 + 1) 0 ≡ get_or p (d * 4 + 1) 0 = h (d * 4 + 1) (omega arith) in
    let e2 : get_or q (d * 4 + 2) 0 ≡ get_or p (d * 4 + 2) 0 = h (d * 4 + 2) (omega arith) in
    let e3 : get_or q (d * 4 + 3) 0 ≡ get_or p (d * 4 + 3) 0 = h (d * 4 + 3) (omega arith) in
    rw (e0, e1, e2, e3) (ap (λ (st : List Entry). entry_at p d ∷ st) (stack_same p q d (λ j l. h j (omega arith))))

-- four stores
module _ (p : List ℕ) (d a b c e : ℕ) (room : d * 4 + 4 ≤ length p) where
  abbrev pub pushed : List ℕ
  pushed = set (set (set (set p (d * 4) a) (d * 4 + 1) b) (d * 4 + 2) c) (d * 4 + 3) e

  pub pushed-length : length pushed ≡ length p
  pushed-length = simp length-set

  pub pushed-other : (j : ℕ) → (j ≡ d * 4 → ⊥) → (j ≡ d * 4 + 1 → ⊥) → (j ≡ d * 4 + 2 → ⊥) → (j ≡ d * 4 + 3 → ⊥)
      → get_or pushed j 0 ≡ get_or p j 0
  pushed-other j h0 h1 h2 h3 =
      get_or-set_other (set (set (set p (d * 4) a) (d * 4 + 1) b) (d * 4 + 2) c) (d * 4 + 3) j e 0 h3
      ∙ get_or-set_other (set (set p (d * 4) a) (d * 4 + 1) b) (d * 4 + 2) j c 0 h2
      ∙ get_or-set_other (set p (d * 4) a) (d * 4 + 1) j b 0 h1
      ∙ get_or-set_other p (d * 4) j a 0 h0

  pushed-0 : get_or pushed (d * 4) 0 ≡ a
  pushed-0 =
      get_or-set_other (set (set (set p (d * 4) a) (d * 4 + 1) b) (d * 4 + 2) c) (d * 4 + 3) (d * 4) e 0
      (λ q. omega arith)
      ∙ get_or-set_other (set (set p (d * 4) a) (d * 4 + 1) b) (d * 4 + 2) (d * 4) c 0 (λ q. omega arith)
      ∙ get_or-set_other (set p (d * 4) a) (d * 4 + 1) (d * 4) b 0 (λ q. omega arith)
      ∙ get_or-set_same p (d * 4) a 0 (omega arith)

  pushed-1 : get_or pushed (d * 4 + 1) 0 ≡ b
  pushed-1 =
      get_or-set_other (set (set (set p (d * 4) a) (d * 4 + 1) b) (d * 4 + 2) c) (d * 4 + 3) (d * 4 + 1) e 0
      (λ q. omega arith)
      ∙ get_or-set_other (set (set p (d * 4) a) (d * 4 + 1) b) (d * 4 + 2) (d * 4 + 1) c 0 (λ q. omega arith)
      ∙ get_or-set_same (set p (d * 4) a) (d * 4 + 1) b 0 (simp length-set (omega arith))

  pushed-2 : get_or pushed (d * 4 + 2) 0 ≡ c
  pushed-2 =
      get_or-set_other (set (set (set p (d * 4) a) (d * 4 + 1) b) (d * 4 + 2) c) (d * 4 + 3) (d * 4 + 2) e 0
      (λ q. omega arith)
      ∙ get_or-set_same (set (set p (d * 4) a) (d * 4 + 1) b) (d * 4 + 2) c 0 (simp length-set (omega arith))

  pushed-3 : get_or pushed (d * 4 + 3) 0 ≡ e
  pushed-3 = get_or-set_same (set (set (set p (d * 4) a) (d * 4 + 1) b) (d * 4 + 2) c) (d * 4 + 3) e 0
      (simp length-set (omega arith))

  pub stack-pushed : (v : ℕ) → a + 256 * b ≡ v → Pushed d v c e p pushed
  unfolding stack_of
  stack-pushed v h = record {
    stack = rw (add-one d) (rw (pushed-0, pushed-1, pushed-2, pushed-3, h)
        (ap (λ (st : List Entry). entry v c (eqb e 1) ∷ st) (stack_same p pushed d
        (λ j l. pushed-other j (λ q. omega arith) (λ q. omega arith) (λ q. omega arith) (λ q. omega arith)))));
    same = pushed-length;
    kept = λ j l. pushed-other j (λ q. omega arith) (λ q. omega arith) (λ q. omega arith) (λ q. omega arith);
  }

-- ---- closing lists

module _ (k : List Entry → List (Option ℕ)) (p : List ℕ) where
  -- the top is written
  pub close-iteration : (d : ℕ) (closing : Bool) (next : ℕ) (ps : List ℕ) → goes_further p (suc d) closing ≡ true
      → placed (closed k (stack_of p (suc d)) closing) next ps
      ≡ placed (closed k (stack_of p d) (is_later p d)) (after_leaf closing next + 1)
      (set ps (node_on_top p d) (after_leaf closing next))
  unfolding stack_of
  close-iteration d true next ps e = refl
  close-iteration d false next ps e = rw e

  pub close-end : (d : ℕ) (closing : Bool) → goes_further p d closing ≡ false
      → closed k (stack_of p d) closing ≡ k (stack_of p d)
  unfolding stack_of
  close-end zero closing e = refl
  close-end (suc d) true e = absurd (true-false e)
  close-end (suc d) false e = rw e

pub after_top-to_come : (p : List ℕ) (d : ℕ) → after_top p d ≡ to_come (stack_of p d)
unfolding stack_of
after_top-to_come p zero = refl
after_top-to_come p (suc d) = refl

-- ---- the top, by a depth above 0

pub top-some : (p : List ℕ) (d : ℕ) (closing : Bool) → goes_further p d closing ≡ true → 0 < d
top-some p zero closing e = absurd (true-false (sym e))
top-some p (suc d) closing e = omega arith
