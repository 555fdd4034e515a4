-- The stack of the loop that reads a plan from the right, and what it has written, as they are in the file's buffer;
-- the contracts of its functions.
--
-- waiting_at q n i == entry i of the stack: label without bit 6, count, and bit 6; stack_of q n d == the first d entries,
--   the last on top
-- cells_from q base n i == the cells i to n - 1 of the run that begins at base
-- home_now xs run q n d left == the state at the end, from the nodes xs still to be read, the buffer q, a stack of d
--   entries, and `left` inner nodes still to be read: what is written begins at cell d + left
-- marked a run == a label as it is on the stack: with bit 6 for the first of a list
-- Kept n p q == only the two runs differ
use Rattle.std.specs.Prelude.{ℕ, zero, suc, ◌+◌, ◌-◌, ◌*◌, ◌%◌, ◌≤◌, ◌<◌, ◌≡◌, Bool, true, false, List, [], ◌∷◌, leb, length, get_or, take, drop}
use Rattle.std.proofs.Math.Option.{Option, none, some}
use Rattle.trees.specs.Tree.{labels_of, kinds_of}
use Rattle.planner.specs.Siblings.{Siblings, count, width, pre_labels, pre_counts, image}
use Rattle.planner.specs.inner.HomeMachine.{Waiting, waiting, HomeState, homeward, node_item}
use Rattle.planner.specs.inner.ImageTests.{labels_fit, all_runs_fit}

abbrev pub waiting_at : List ℕ → ℕ → ℕ → Waiting
waiting_at q n i = waiting (get_or q (12 + i) 0 % 64) (get_or q (12 + n + i) 0) (leb 64 (get_or q (12 + i) 0))

unfoldable pub stack_of : List ℕ → ℕ → ℕ → List Waiting
stack_of q n zero = []
stack_of q n (suc i) = waiting_at q n i ∷ stack_of q n i

abbrev pub cells_from : List ℕ → ℕ → ℕ → ℕ → List ℕ
cells_from q base n i = take (n - i) (drop (base + i) q)

abbrev pub home_now : List (Option ℕ) → ℕ → List ℕ → ℕ → ℕ → ℕ → HomeState
home_now xs run q n d left =
    homeward xs run (stack_of q n d) (cells_from q 12 n (d + left)) (cells_from q (12 + n) n (d + left))

abbrev pub marked : ℕ → ℕ → ℕ
marked a zero = a + 64
marked a (suc run) = a

pub record Kept (n : ℕ) (p q : List ℕ) : Type 0 where
  pub same : length q ≡ length p
  pub excess : (j : ℕ) → 12 + 2 * n ≤ j → get_or q j 0 ≡ get_or p j 0

-- n nodes have room, and n is in its limit
pub record Fits (n : ℕ) (p : List ℕ) : Type 0 where
  pub room : 12 + 2 * n ≤ length p
  pub few : n ≤ 32767

pub record PushArgs (p : List ℕ) (n a d left : ℕ) : Type 0 where
  pub fits : Fits n p
  pub inside : d + left ≤ n
  pub some_left : 0 < left
  pub small : a < 64

pub record PushDone (n a d left run : ℕ) (p q : List ℕ) : Type 0 where
  pub rest : (xs : List (Option ℕ)) → home_now xs (run + 1) q n (d + 1) (left - 1) ≡ home_now (some a ∷ xs) run p n d left
  pub kept : Kept n p q

pub record CountArgs (p : List ℕ) (n d left run : ℕ) : Type 0 where
  pub fits : Fits n p
  pub inside : d + left ≤ n
  pub some_read : 0 < run
  pub small : run < 256

pub record CountDone (n d left run : ℕ) (p q : List ℕ) : Type 0 where
  pub rest : (xs : List (Option ℕ)) → home_now xs 0 q n d left ≡ home_now (none ∷ xs) run p n d left
  pub kept : Kept n p q

pub record ReleaseArgs (p : List ℕ) (n d left : ℕ) : Type 0 where
  pub fits : Fits n p
  pub inside : d + left ≤ n

pub record ReleaseDone (n d left : ℕ) (p : List ℕ) (d₁ : ℕ) (q : List ℕ) : Type 0 where
  pub rest : (xs : List (Option ℕ)) → home_now xs 0 q n d₁ left ≡ home_now (none ∷ xs) 0 p n d left
  pub lower : d₁ ≤ d
  pub kept : Kept n p q

pub record NodeArgs (p : List ℕ) (n a k d left run : ℕ) : Type 0 where
  pub fits : Fits n p
  pub inside : d + left ≤ n
  pub some_left : (k ≡ 0 → ⊥) → 0 < left
  pub small : (k ≡ 0 → ⊥) → a < 64
  pub short : run < 256

-- `left` falls by one at an inner node, and the run ends at a leaf
pub record NodeDone (n a k d left run : ℕ) (p : List ℕ) (d₁ left₁ run₁ : ℕ) (q : List ℕ) : Type 0 where
  pub rest : (xs : List (Option ℕ)) → home_now xs run₁ q n d₁ left₁ ≡ home_now (node_item a k ∷ xs) run p n d left
  pub inner : (k ≡ 0 → ⊥) → (left₁ + 1 ≡ left) × (run₁ ≡ run + 1)
  pub leaf : k ≡ 0 → (left₁ ≡ left) × (run₁ ≡ 0)
  pub inside : d₁ + left₁ ≤ n
  pub kept : Kept n p q

pub record ReadArgs (f : Siblings) (ls ks p : List ℕ) (n : ℕ) : Type 0 where
  pub labels : labels_of (image f) ≡ ls
  pub kinds : kinds_of (image f) ≡ ks
  pub one_tree : width f ≡ 1
  pub count_is : n ≡ count f
  pub labels_fit : labels_fit ls ks ≡ true
  pub runs_fit : all_runs_fit 256 ks 0 ≡ true
  pub fits : Fits n p

pub record ReadDone (f : Siblings) (n : ℕ) (p q : List ℕ) : Type 0 where
  pub labels : cells_from q 12 n 0 ≡ pre_labels f
  pub counts : cells_from q (12 + n) n 0 ≡ pre_counts f
  pub kept : Kept n p q
