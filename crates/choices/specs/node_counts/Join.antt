-- The counts of a node from those of its children.
--
-- led_to f s k p q b == the state for left state p, label b and right state q in the inner states f
-- ways_to f s k i e p q c == how many of the labels from i to before e lead from p and q to state c
-- AccumulateArgs, RowArgs, JoinArgs == every read is inside, every value read is below 16, every count at most the limit
-- Accumulated, RowJoined, Joined == each state's count
--
-- Counts are lists of 16; those from S on are not read.
use Rattle.std.specs.Prelude.{ℕ, ◌+◌, ◌-◌, ◌*◌, ◌≤◌, ◌<◌, ◌≡◌, List, length, get_or}
use Rattle.formats.specs.Limits.{state_limit, label_limit}
use Rattle.choices.specs.assignments.Sums.{sum_to, one}
use Rattle.choices.specs.node_counts.Capped.{count_limit, capped}

abbrev pub led_to : List ℕ → ℕ → ℕ → ℕ → ℕ → ℕ → ℕ
led_to f s k p q b = get_or f ((p * k + b) * s + q) 0

unfoldable pub ways_to : List ℕ → ℕ → ℕ → ℕ → ℕ → ℕ → ℕ → ℕ → ℕ
ways_to f s k i e p q c = sum_to (e - i) (λ j. one c (led_to f s k p q (i + j)))

-- the table and the labels
pub record TableArgs (f : List ℕ) (s k i e : ℕ) : Type 0 where
  pub states_most : s ≤ state_limit
  pub labels_most : k ≤ label_limit
  pub order : i ≤ e
  pub labels : e ≤ k
  pub room : s * k * s ≤ length f
  pub below : (j : ℕ) → get_or f j 0 < state_limit

-- counts that were kept
pub record Kept (l : List ℕ) : Type 0 where
  pub sixteen : length l ≡ state_limit
  pub most : (c : ℕ) → get_or l c 0 ≤ count_limit

pub record AccumulateArgs (f : List ℕ) (s k i e p q x : ℕ) (l : List ℕ) : Type 0 where
  pub table : TableArgs f s k i e
  pub left : p < s
  pub right : q < s
  pub many : x ≤ count_limit
  pub kept : Kept l

-- x for each label that leads to the state
pub record Accumulated (f : List ℕ) (s k i e p q x : ℕ) (l r : List ℕ) : Type 0 where
  pub kept : Kept r
  pub counts : (c : ℕ) → c < state_limit → get_or r c 0 ≡ capped (get_or l c 0 + ways_to f s k i e p q c * x)

pub record RowArgs (f : List ℕ) (s k i e p : ℕ) (cr l : List ℕ) : Type 0 where
  pub table : TableArgs f s k i e
  pub left : p < s
  pub right : Kept cr
  pub kept : Kept l

pub record RowJoined (f : List ℕ) (s k i e p x : ℕ) (cr l r : List ℕ) : Type 0 where
  pub kept : Kept r
  pub counts : (c : ℕ) → c < state_limit
      → get_or r c 0 ≡ capped (get_or l c 0 + x * sum_to s (λ q. get_or cr q 0 * ways_to f s k i e p q c))

pub record JoinArgs (f : List ℕ) (s k i e : ℕ) (cl cr l : List ℕ) : Type 0 where
  pub table : TableArgs f s k i e
  pub left : Kept cl
  pub right : Kept cr
  pub kept : Kept l

-- "members below both children": the sum over both states of the products of their counts
pub record Joined (f : List ℕ) (s k i e : ℕ) (cl cr l r : List ℕ) : Type 0 where
  pub kept : Kept r
  pub counts : (c : ℕ) → c < state_limit
      → get_or r c 0
      ≡ capped (get_or l c 0 + sum_to s (λ p. get_or cl p 0 * sum_to s (λ q. get_or cr q 0 * ways_to f s k i e p q c)))
