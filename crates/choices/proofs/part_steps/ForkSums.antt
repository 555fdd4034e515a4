-- The counts of an inner node in the four kinds of part: the sums of choices/assignments' `inner_count`, in terms of the
-- caller's buffers.
--     fork-both            roots below both children: the sum over both states of the products
--     fork-left, fork-right   below one child only: each count at the state that its climb ends in
--     fork-none            below none: the run's states
--     ways-open, ways-own  every label of an open node, and the own label alone of another
use Prim.Native.Nat.{ℕ, suc, ◌+◌, ◌-◌, ◌*◌, ◌<◌}
use mathlib.Core.Path.{◌≡◌, refl, sym, ap, ◌∙◌}
use mathlib.Core.List.{List}
use native.Mathlib.Omega.{arith}
use native.Mathlib.Nat.{mul_comm, mul_assoc}
use lib.ListN.{get_or}
use Rattle.tables.specs.StateCells.{state_cell}
use Rattle.tables.specs.Climbs.{View}
use Rattle.choices.specs.assignments.Sums.{sum_to, one}
use Rattle.choices.proofs.assignments.SumLaws.{sum-ext, sum-swap, sum-times, sum_one}
use Rattle.choices.specs.node_counts.Join.{led_to, ways_to}
use Rattle.choices.specs.part_steps.Carry.{arrives_at}
use Rattle.choices.specs.part_steps.Side.{count_in, side_count}
use Rattle.choices.specs.part_steps.Fork.{fork_count}

-- counts a, each at the state y, summed with the weights f
pub carried-sum : (s : ℕ) (a y f : ℕ → ℕ) → ((q : ℕ) → q < s → y q < s)
    → sum_to s (λ p. sum_to s (λ q. a q * one p (y q)) * f p) ≡ sum_to s (λ q. a q * f (y q))
carried-sum s a y f h =
    sum-ext s _ _ (λ p _. sym (sum-times s (λ q. a q * one p (y q)) (f p)))
    ∙ sum-swap s s (λ p q. a q * one p (y q) * f p)
    ∙ sum-ext s _ _ (λ q g. sum-ext s _ (λ p. one p (y q) * (a q * f p)) (λ p _. turned (a q) (one p (y q)) (f p))
    ∙ sum_one s (y q) (λ p. a q * f p) (h q g))
  where
    turned : (x o w : ℕ) → x * o * w ≡ o * (x * w)
    turned x o w = ap (λ (z : ℕ). z * w) (mul_comm x o) ∙ mul_assoc o x w

module _ (X : View) (es cs : List ℕ) (t l r b e c : ℕ) where
  abbrev ways : ℕ → ℕ → ℕ
  ways p q = ways_to X.inner X.s X.k b e p q c

  abbrev run : ℕ → ℕ
  run v = state_cell X.s X.state_table v

  pub fork-both : (i j : ℕ) → fork_count X es cs t l r (suc i) (suc j) b e c
      ≡ sum_to X.s (λ p. count_in cs i p * sum_to X.s (λ q. count_in cs j q * ways p q))
  unfolding fork_count side_count
  fork-both i j = refl

  pub fork-none : run l < X.s → run r < X.s → fork_count X es cs t l r 0 0 b e c ≡ ways (run l) (run r)
  unfolding fork_count side_count
  fork-none hl hr =
      sum_one X.s (run l) (λ p. sum_to X.s (λ q. one q (run r) * ways p q)) hl
      ∙ sum_one X.s (run r) (λ q. ways (run l) q) hr

  pub fork-left : (i : ℕ) → ((q : ℕ) → q < X.s → arrives_at X (get_or es i 0) t q < X.s) → run r < X.s
      → fork_count X es cs t l r (suc i) 0 b e c
      ≡ sum_to X.s (λ q. count_in cs i q * ways (arrives_at X (get_or es i 0) t q) (run r))
  unfolding fork_count side_count
  fork-left i h hr =
      carried-sum X.s (count_in cs i) (arrives_at X (get_or es i 0) t)
      (λ p. sum_to X.s (λ q. one q (run r) * ways p q)) h
      ∙ sum-ext X.s _ _ (λ q _. ap (λ (z : ℕ). count_in cs i q * z)
      (sum_one X.s (run r) (λ z. ways (arrives_at X (get_or es i 0) t q) z) hr))

  pub fork-right : (j : ℕ) → ((q : ℕ) → q < X.s → arrives_at X (get_or es j 0) t q < X.s) → run l < X.s
      → fork_count X es cs t l r 0 (suc j) b e c
      ≡ sum_to X.s (λ q. count_in cs j q * ways (run l) (arrives_at X (get_or es j 0) t q))
  unfolding fork_count side_count
  fork-right j h hl =
      sum_one X.s (run l)
      (λ p. sum_to X.s (λ q. sum_to X.s (λ z. count_in cs j z * one q (arrives_at X (get_or es j 0) t z)) * ways p q))
      hl
      ∙ carried-sum X.s (count_in cs j) (arrives_at X (get_or es j 0) t) (λ q. ways (run l) q) h

module _ (f : List ℕ) (s k p q c : ℕ) where
  pub ways-open : ways_to f s k 0 k p q c ≡ sum_to k (λ b. one c (led_to f s k p q b))
  unfolding ways_to
  ways-open =
      let e : k - 0 ≡ k = omega arith in
      ap (λ (n : ℕ). sum_to n (λ j. one c (led_to f s k p q (0 + j)))) e
      ∙ sum-ext k _ _ (λ j _. let z : 0 + j ≡ j = omega arith in ap (λ (i : ℕ). one c (led_to f s k p q i)) z)

  pub ways-own : (a : ℕ) → ways_to f s k a (a + 1) p q c ≡ one c (led_to f s k p q a)
  unfolding ways_to sum_to
  ways-own a =
      let e : a + 1 - a ≡ 1 = omega arith in
      let z : a + 0 ≡ a = omega arith in
      ap (λ (n : ℕ). sum_to n (λ j. one c (led_to f s k p q (a + j)))) e
      ∙ omega (arith, ap (λ (i : ℕ). one c (led_to f s k p q i)) z)
