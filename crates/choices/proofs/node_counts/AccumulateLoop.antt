-- One iteration of pour, its start and its end.
use Prim.Native.Nat.{ℕ, suc, ◌+◌, ◌*◌, ◌-◌, ◌≤◌, ◌<◌}
use mathlib.Core.Path.{◌≡◌, sym, ap, ◌∙◌}
use mathlib.Core.Bool.{true, false}
use mathlib.Core.List.{List}
use native.Mathlib.Decide.{ℕ_discrete}
use native.Mathlib.Omega.{arith}
use native.Mathlib.Nat.{add-mul}
use lib.Arith.{digits_lt}
use lib.Dec.{eqb}
use lib.ListN.{get_or, set, length-set}
use lib.Seq.{get_or-set_same, get_or-set_other}
use borrow.Author.Tests.{eq-eqb, ne_eqb}
use Rattle.choices.specs.assignments.Sums.{sum_to, one}
use Rattle.choices.specs.node_counts.Capped.{capped}
use Rattle.choices.specs.node_counts.Join.{led_to, ways_to, TableArgs, Kept, AccumulateArgs, Accumulated}
use Rattle.choices.proofs.node_counts.CappedLaws.{capped-add}

-- x more at place d
module _ (l : List ℕ) (K : Kept l) (d x r : ℕ) (h : d < 16) (e : r ≡ capped (get_or l d 0 + x)) where
  pub added-count : (c : ℕ) → get_or (set l d r) c 0 ≡ capped (get_or l c 0 + one c d * x)
  added-count c = elim (ℕ_discrete c d) [
    | yes i ↦ (let q : eqb d c ≡ true = eq-eqb d c (sym i) in
        let z : one c d * x ≡ x = rw q (omega arith) in
        let g : get_or (set l d r) d 0 ≡ r = get_or-set_same l d r 0 (omega (arith, h, K.sixteen)) in
        let w : get_or l d 0 ≡ get_or l c 0 = ap (λ (j : ℕ). get_or l j 0) (sym i) in
        ap (λ (j : ℕ). get_or (set l d r) j 0) i ∙ g ∙ e ∙ omega arith)
    | no i ↦ (let q : eqb d c ≡ false = ne_eqb d c (λ z. i (sym z)) in
        let z : one c d * x ≡ 0 = rw q (omega arith) in
        get_or-set_other l d c r 0 i ∙ omega (arith, K.most c))
  ]

  pub added-kept : Kept (set l d r)
  added-kept = record { sixteen = length-set l d r ∙ K.sixteen; most = λ c. omega (arith, added-count c) }

pub record Pouring (f : List ℕ) (s k i e p q x : ℕ) (l₀ l : List ℕ) (b : ℕ) : Type 0 where
  pub args : AccumulateArgs f s k i e p q x l₀
  pub from : i ≤ b
  pub upto : b ≤ e
  pub kept : Kept l
  pub counts : (c : ℕ) → c < 16
      → get_or l c 0 ≡ capped (get_or l₀ c 0 + sum_to (b - i) (λ j. one c (led_to f s k p q (i + j))) * x)

pub accumulating-start : (f : List ℕ) (s k i e p q x : ℕ) (l : List ℕ) → AccumulateArgs f s k i e p q x l
    → Pouring f s k i e p q x l l i
unfolding sum_to
accumulating-start f s k i e p q x l A =
    let z : i - i ≡ 0 = omega arith in
    record {
      args = A;
      from = omega arith;
      upto = A.table.order;
      kept = A.kept;
      counts = λ c h. rw z (omega (arith, A.kept.most c));
    }

module _ (f : List ℕ) (s k i e p q x : ℕ) (l₀ l : List ℕ) (b : ℕ) (L : Pouring f s k i e p q x l₀ l b) (h : b < e)
  where
    T : TableArgs f s k i e
    T = L.args.table

    row : p * k + b < s * k
    row = digits_lt L.args.left (omega (arith, T.labels, h))

    cell : (p * k + b) * s + q < s * k * s
    cell = digits_lt row L.args.right

    pub accumulating-state : led_to f s k p q b < 16
    accumulating-state = T.below ((p * k + b) * s + q)

    pub accumulating-next : (r : ℕ) → r ≡ capped (get_or l (led_to f s k p q b) 0 + x)
        → Pouring f s k i e p q x l₀ (set l (led_to f s k p q b) r) (b + 1)
    unfolding sum_to
    accumulating-next r w = record {
      args = L.args;
      from = omega (arith, L.from);
      upto = omega arith;
      kept = added-kept l L.kept (led_to f s k p q b) x r accumulating-state w;
      counts = λ c hc.
          let g : ℕ → ℕ = λ j. one c (led_to f s k p q (i + j)) in
          let n : b + 1 - i ≡ suc (b - i) = omega (arith, L.from) in
          let m : i + (b - i) ≡ b = omega (arith, L.from) in
          let v : sum_to (b + 1 - i) g ≡ sum_to (b - i) g + one c (led_to f s k p q b) =
          ap (λ (z : ℕ). sum_to z g) n ∙ ap (λ (z : ℕ). sum_to (b - i) g + one c (led_to f s k p q z)) m in
          added-count l L.kept (led_to f s k p q b) x r accumulating-state w c
          ∙ ap (λ (z : ℕ). capped (z + one c (led_to f s k p q b) * x)) (L.counts c hc)
          ∙ capped-add (get_or l₀ c 0 + sum_to (b - i) g * x) (one c (led_to f s k p q b) * x)
          ∙ (let d = add-mul (sum_to (b - i) g) (one c (led_to f s k p q b)) x in
          let u = ap (λ (z : ℕ). z * x) v in omega (arith, d, u));
    }

pub accumulating-done : (f : List ℕ) (s k i e p q x : ℕ) (l₀ l : List ℕ) (b : ℕ) → Pouring f s k i e p q x l₀ l b → e ≤ b
    → Accumulated f s k i e p q x l₀ l
unfolding ways_to
accumulating-done f s k i e p q x l₀ l b L h =
    let m : b ≡ e = omega (arith, L.upto) in
    record {
      kept = L.kept;
      counts = λ c hc. L.counts c hc
          ∙ ap (λ (n : ℕ). capped (get_or l₀ c 0 + sum_to (n - i) (λ j. one c (led_to f s k p q (i + j))) * x)) m;
    }
