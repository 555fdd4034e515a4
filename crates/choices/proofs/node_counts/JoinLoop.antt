-- One iteration of join_row and of join, their starts and their ends.
use Prim.Native.Nat.{ℕ, ◌+◌, ◌*◌, ◌≤◌, ◌<◌}
use mathlib.Core.Path.{◌≡◌, ap, ap₂, ◌∙◌}
use mathlib.Core.List.{List}
use native.Mathlib.Omega.{arith}
use native.Mathlib.Nat.{mul-add, mul_comm, mul_assoc}
use native.Mathlib.Numerals.{add-one}
use lib.ListN.{get_or}
use Rattle.choices.specs.assignments.Sums.{sum_to}
use Rattle.choices.specs.node_counts.Capped.{capped}
use Rattle.choices.specs.node_counts.Join.{ways_to, Kept, AccumulateArgs, Accumulated, RowArgs, RowJoined, JoinArgs, Joined}
use Rattle.choices.proofs.node_counts.CappedLaws.{capped-add, capped-ways}

-- ---- one row

module _ (f : List ℕ) (s k i e p x : ℕ) (cr l₀ : List ℕ) where
  abbrev term : ℕ → ℕ → ℕ
  term c j = get_or cr j 0 * ways_to f s k i e p j c

  pub record RowJoining (l : List ℕ) (q : ℕ) : Type 0 where
    pub args : RowArgs f s k i e p cr l₀
    pub upto : q ≤ s
    pub kept : Kept l
    pub counts : (c : ℕ) → c < 16 → get_or l c 0
        ≡ capped (get_or l₀ c 0 + x * sum_to q (λ j. get_or cr j 0 * ways_to f s k i e p j c))

  pub row-start : RowArgs f s k i e p cr l₀ → RowJoining l₀ 0
  unfolding sum_to
  row-start A = record {
    args = A;
    upto = omega arith;
    kept = A.kept;
    counts = λ c h. omega (arith, A.kept.most c);
  }

  module _ (l : List ℕ) (q : ℕ) (L : RowJoining l q) (h : q < s) (y : ℕ) (is : y ≡ capped (get_or cr q 0 * x)) where
    pub row-args : AccumulateArgs f s k i e p q y l
    row-args = record {
      table = L.args.table;
      left = L.args.left;
      right = h;
      many = omega arith;
      kept = L.kept;
    }

    -- what one more right state adds
    more : (c : ℕ) → c < 16
        → capped (get_or l c 0 + ways_to f s k i e p q c * y) ≡ capped (get_or l₀ c 0 + x * sum_to (q + 1) (term c))
    unfolding sum_to
    more c hc =
        let A : ℕ = get_or l₀ c 0 + x * sum_to q (term c) in
        let n : ℕ = ways_to f s k i e p q c in
        let v : sum_to (q + 1) (term c) ≡ sum_to q (term c) + term c q = ap (λ (z : ℕ). sum_to z (term c)) (add-one q) in
        let u : n * (get_or cr q 0 * x) ≡ x * term c q =
        mul_comm n (get_or cr q 0 * x) ∙ ap (λ (z : ℕ). z * n) (mul_comm (get_or cr q 0) x)
        ∙ mul_assoc x (get_or cr q 0) n in
        ap₂ (λ (z w : ℕ). capped (z + n * w)) (L.counts c hc) is
        ∙ capped-add A (n * capped (get_or cr q 0 * x))
        ∙ capped-ways A n (get_or cr q 0 * x)
        ∙ (let d = mul-add x (sum_to q (term c)) (term c q) in
        let t = ap (λ (z : ℕ). x * z) v in omega (arith, d, t, u))

    pub row-accumulated : (m : List ℕ) → Accumulated f s k i e p q y l m → RowJoining m (q + 1)
    row-accumulated m P = record {
      args = L.args;
      upto = omega arith;
      kept = P.kept;
      counts = λ c hc. P.counts c hc ∙ more c hc;
    }

  pub row_done : (l : List ℕ) (q : ℕ) → RowJoining l q → s ≤ q → RowJoined f s k i e p x cr l₀ l
  row_done l q L h =
      let m : q ≡ s = omega (arith, L.upto) in
      record {
        kept = L.kept;
        counts = λ c hc. L.counts c hc ∙ ap (λ (n : ℕ). capped (get_or l₀ c 0 + x * sum_to n (term c))) m;
      }

-- ---- all rows

module _ (f : List ℕ) (s k i e : ℕ) (cl cr l₀ : List ℕ) where
  abbrev summand : ℕ → ℕ → ℕ
  summand c j = get_or cl j 0 * sum_to s (λ q. get_or cr q 0 * ways_to f s k i e j q c)

  pub record Joining (l : List ℕ) (p : ℕ) : Type 0 where
    pub args : JoinArgs f s k i e cl cr l₀
    pub upto : p ≤ s
    pub kept : Kept l
    pub counts : (c : ℕ) → c < 16 → get_or l c 0
        ≡ capped (get_or l₀ c 0 + sum_to p (λ j. get_or cl j 0 * sum_to s (λ q. get_or cr q 0 * ways_to f s k i e j q c)))

  pub join-start : JoinArgs f s k i e cl cr l₀ → Joining l₀ 0
  unfolding sum_to
  join-start A = record {
    args = A;
    upto = omega arith;
    kept = A.kept;
    counts = λ c h. omega (arith, A.kept.most c);
  }

  module _ (l : List ℕ) (p : ℕ) (L : Joining l p) (h : p < s) where
    pub join-args : RowArgs f s k i e p cr l
    join-args = record { table = L.args.table; left = h; right = L.args.right; kept = L.kept }

    pub join-next : (m : List ℕ) → RowJoined f s k i e p (get_or cl p 0) cr l m → Joining m (p + 1)
    unfolding sum_to
    join-next m P = record {
      args = L.args;
      upto = omega arith;
      kept = P.kept;
      counts = λ c hc.
          let A : ℕ = get_or l₀ c 0 + sum_to p (summand c) in
          let v : sum_to (p + 1) (summand c) ≡ sum_to p (summand c) + summand c p =
          ap (λ (z : ℕ). sum_to z (summand c)) (add-one p) in
          P.counts c hc
          ∙ ap (λ (z : ℕ). capped (z + summand c p)) (L.counts c hc)
          ∙ capped-add A (summand c p)
          ∙ omega (arith, v);
    }

  pub join-done : (l : List ℕ) (p : ℕ) → Joining l p → s ≤ p → Joined f s k i e cl cr l₀ l
  join-done l p L h =
      let m : p ≡ s = omega (arith, L.upto) in
      record {
        kept = L.kept;
        counts = λ c hc. L.counts c hc ∙ ap (λ (n : ℕ). capped (get_or l₀ c 0 + sum_to n (summand c))) m;
      }
