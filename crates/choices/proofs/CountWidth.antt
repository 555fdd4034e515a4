-- Where every leaf and inner state of the rules is below S, no choice ends in a state from S on.
--     part-above, rows_above
use Prim.Native.Nat.{ℕ, ◌+◌, ◌-◌, ◌*◌, ◌≤◌, ◌<◌}
use mathlib.Core.Path.{◌≡◌, ap, ◌∙◌}
use mathlib.Core.Bool.{Bool, true, false, cond}
use mathlib.Core.List.{List, [], ◌∷◌, ◌++◌}
use native.Mathlib.Decide.{dec_lt, ℕ_discrete}
use native.Mathlib.Omega.{arith}
use lib.Dec.{eqb}
use lib.ListN.{length, get_or, length-append, get_or-append, get_or-eq_default}
use lib.Seq.{get_or-append-add}
use borrow.Author.Tests.{ne_eqb}
use Rattle.list_laws.proofs.RowLaws.{length-tabulate, get_d_tabulate}
use Rattle.tables.specs.Climbs.{View}
use Rattle.choices.specs.assignments.Sums.{sum_to, one}
use Rattle.choices.proofs.assignments.SumLaws.{sum-ext, sum-zero}
use Rattle.choices.specs.node_counts.Capped.{capped}
use Rattle.choices.specs.node_counts.Join.{led_to, ways_to}
use Rattle.choices.specs.part_steps.Side.{side_count}
use Rattle.choices.specs.part_steps.Fork.{fork_count}
use Rattle.choices.specs.part_steps.Root.{root_count}
use Rattle.choices.specs.question_counts.PartOn.{part_count_on}
use Rattle.choices.specs.question_counts.PartsOn.{row_on, rows_from}

sum-none : (n : ℕ) (f : ℕ → ℕ) → ((i : ℕ) → f i ≡ 0) → sum_to n f ≡ 0
sum-none n f h = sum-ext n f (λ i. 0) (λ i g. h i) ∙ sum-zero n

times_none : (x y : ℕ) → y ≡ 0 → x * y ≡ 0
times_none x y e = ap (λ (z : ℕ). x * z) e ∙ omega arith

module _ (X : View) (c : ℕ) (above : X.s ≤ c) where
  one_none : (x : ℕ) → x < X.s → one c x ≡ 0
  one_none x h = rw (ne_eqb x c (λ e. omega arith))

  ways-none : (f : List ℕ) → ((j : ℕ) → get_or f j 0 < X.s) → (s k i e p q : ℕ) → ways_to f s k i e p q c ≡ 0
  unfolding ways_to
  ways-none f h s k i e p q = sum-none (e - i) _ (λ j. one_none (led_to f s k p q (i + j)) (h _))

  module _ (lb : (j : ℕ) → get_or X.leaves j 0 < X.s) (ib : (j : ℕ) → get_or X.inner j 0 < X.s) where
    fork-none : (es cs : List ℕ) (t l r i j b e : ℕ) → fork_count X es cs t l r i j b e c ≡ 0
    unfolding fork_count
    fork-none es cs t l r i j b e =
        sum-none X.s _ (λ p. times_none (side_count X es cs t l i j p) _
        (sum-none X.s _ (λ q. times_none (side_count X es cs t r j i q) _
        (ways-none X.inner ib X.s X.k b e p q))))

    pub part-above : (w : ℕ → Bool) (es cs : List ℕ) (v : ℕ) → part_count_on X w es cs v c ≡ 0
    unfolding part_count_on root_count
    part-above w es cs v =
        go (eqb (get_or X.kinds v 0) 0) _ _ (ways-none X.leaves lb 1 X.k _ _ 0 0) (fork-none es cs _ _ _ _ _ _ _)
      where
        go : (b : Bool) (x y : ℕ) → x ≡ 0 → y ≡ 0 → cond b x y ≡ 0
        go true x y p q = p
        go false x y p q = q

    module _ (w : ℕ → Bool) (fits : c < 16) where
      row-none : (es cs : List ℕ) (v i : ℕ) → get_or (row_on X w es cs v) (i * 16 + c) 0 ≡ 0
      unfolding row_on
      row-none es cs v i = elim (ℕ_discrete i 0) [
        | yes e ↦ (let z : i * 16 + c ≡ c = omega arith in
            ap (λ (j : ℕ). get_or (row_on X w es cs v) j 0) z
            ∙ get_d_tabulate 16 (λ x. capped (part_count_on X w es cs v x)) c fits
            ∙ omega (arith, part-above w es cs v))
        | no e ↦ get_or-eq_default (row_on X w es cs v) 0 {n = i * 16 + c}
            (omega (arith, length-tabulate 16 (λ x. capped (part_count_on X w es cs v x))))
      ]

      pub rows_above : (ms es cs : List ℕ) (m : ℕ) → length cs ≡ m * 16 → ((i : ℕ) → get_or cs (i * 16 + c) 0 ≡ 0)
          → (i : ℕ) → get_or (rows_from X w es cs ms) (i * 16 + c) 0 ≡ 0
      unfolding rows_from row_on
      rows_above [] es cs m e f i = f i
      rows_above (v ∷ ms) es cs m e f i =
          rows_above ms (es ++ (v ∷ [])) (cs ++ row_on X w es cs v) (m + 1)
          (length-append cs (row_on X w es cs v)
          ∙ omega (arith, length-tabulate 16 (λ x. capped (part_count_on X w es cs v x)), e))
          (λ j. more j) i
        where
          more : (j : ℕ) → get_or (cs ++ row_on X w es cs v) (j * 16 + c) 0 ≡ 0
          more j = elim (dec_lt j m) [
            | yes h ↦ get_or-append cs (row_on X w es cs v) 0 (j * 16 + c) (omega arith) ∙ f j
            | no h ↦ (let z : j * 16 + c ≡ length cs + ((j - m) * 16 + c) = omega arith in
                ap (λ (x : ℕ). get_or (cs ++ row_on X w es cs v) x 0) z
                ∙ get_or-append-add cs (row_on X w es cs v) ((j - m) * 16 + c) 0 ∙ row-none es cs v (j - m))
          ]
