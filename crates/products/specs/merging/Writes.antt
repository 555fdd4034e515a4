-- What is written to the output, and what the parts of merge ask (document 02, S-6).
--
-- written at xs l == the list l with xs from place `at` on; what lies outside is as it was
-- leaf_cell f g s2 a == the merged leaf state of label a, from the leaf runs f and g
-- row_cell f g s2 q == the merged state at place q of a row, from the rows f and g of the two inner runs
-- inner_cell f g s1 s2 k i == the merged state at place i of the inner run, from the inner runs f and g
-- mark_cell f g s2 c == the merged mark of state c, from the marks f and g
-- first_row s1 s2 k r, second_row s2 k r == where row r = p × K + a of the merged inner run finds its rows in the two inner runs
-- WordArgs, HeadArgs, .. == what a part asks: the machine's facts, in terms of its indices
use Rattle.std.specs.Prelude.{ℕ, ◌+◌, ◌*◌, ◌/◌, ◌%◌, ◌≤◌, ◌<◌, ◌≡◌, List, ◌++◌, length, get_or, take, drop}
use Rattle.formats.specs.Layout.{rules_head}
use Rattle.formats.specs.Limits.{state_limit, label_limit}
use Rattle.formats.specs.Rules.{state_count, label_count, rule_length}
use Rattle.formats.specs.Checks.{first_no, rule_checks}

unfoldable pub written : ℕ → List ℕ → List ℕ → List ℕ
written at xs l = take at l ++ (xs ++ drop (at + length xs) l)

abbrev pub leaf_cell : List ℕ → List ℕ → ℕ → ℕ → ℕ
leaf_cell f g s2 a = get_or f a 0 * s2 + get_or g a 0

abbrev pub row_cell : List ℕ → List ℕ → ℕ → ℕ → ℕ
row_cell f g s2 q = get_or f (q / s2) 0 * s2 + get_or g (q % s2) 0

abbrev pub first_row : ℕ → ℕ → ℕ → ℕ → ℕ
first_row s1 s2 k r = (r / k / s2 * k + r % k) * s1

abbrev pub second_row : ℕ → ℕ → ℕ → ℕ
second_row s2 k r = (r / k % s2 * k + r % k) * s2

abbrev pub row_at : List ℕ → List ℕ → ℕ → ℕ → ℕ → ℕ → ℕ → ℕ
row_at f g s1 s2 k r q = get_or f (first_row s1 s2 k r + q / s2) 0 * s2 + get_or g (second_row s2 k r + q % s2) 0

abbrev pub inner_cell : List ℕ → List ℕ → ℕ → ℕ → ℕ → ℕ → ℕ
inner_cell f g s1 s2 k i = row_at f g s1 s2 k (i / (s1 * s2)) (i % (s1 * s2))

abbrev pub mark_cell : List ℕ → List ℕ → ℕ → ℕ → ℕ
mark_cell f g s2 c = get_or f (c / s2) 0 * get_or g (c % s2) 0

-- ---- what the parts ask

-- n bytes from `at` on are in the list, and their places fit
pub record Room (at n : ℕ) (l : List ℕ) : Type 0 where
  pub inside : at + n ≤ length l
  pub small : at + n ≤ 65536

pub record HeadArgs (s k : ℕ) (l : List ℕ) : Type 0 where
  pub room : Room 0 rules_head l
  pub states : s ≤ state_limit
  pub labels : k ≤ label_limit

pub record LeavesArgs (f g : List ℕ) (s2 at : ℕ) (l : List ℕ) : Type 0 where
  pub room : Room at (length f) l
  pub same : length f ≡ length g
  pub few : s2 ≤ state_limit
  pub small : (i : ℕ) → leaf_cell f g s2 i < 256

pub record RunArgs (g : List ℕ) (x at : ℕ) (l : List ℕ) : Type 0 where
  pub room : Room at (length g) l
  pub small : (i : ℕ) → i < length g → x + get_or g i 0 < 256

pub record RowArgs (f g : List ℕ) (s2 at : ℕ) (l : List ℕ) : Type 0 where
  pub room : Room at (length f * s2) l
  pub least : 1 ≤ s2
  pub width : length g ≡ s2
  pub small : (i j : ℕ) → i < length f → j < length g → get_or f i 0 * s2 + get_or g j 0 < 256

-- the two inner runs
pub record Inner (f g : List ℕ) (s1 s2 k : ℕ) : Type 0 where
  pub first_least : 1 ≤ s1
  pub first_most : s1 ≤ state_limit
  pub second_least : 1 ≤ s2
  pub second_most : s2 ≤ state_limit
  pub labels_least : 1 ≤ k
  pub labels_most : k ≤ label_limit
  pub product : s1 * s2 ≤ state_limit
  pub first_length : length f ≡ s1 * k * s1
  pub second_length : length g ≡ s2 * k * s2
  pub small : (i j : ℕ) → get_or f i 0 * s2 + get_or g j 0 < 256

pub record NthRowArgs (f g : List ℕ) (s1 s2 k r at : ℕ) (l : List ℕ) : Type 0 where
  pub inner : Inner f g s1 s2 k
  pub inside : r < s1 * s2 * k
  pub room : Room at (s1 * s2) l

pub record InnerArgs (f g : List ℕ) (s1 s2 k at : ℕ) (l : List ℕ) : Type 0 where
  pub inner : Inner f g s1 s2 k
  pub room : Room at (s1 * s2 * k * (s1 * s2)) l

pub record MarksArgs (f g : List ℕ) (s2 n at : ℕ) (l : List ℕ) : Type 0 where
  pub room : Room at n l
  pub least : 1 ≤ s2
  pub states : n ≡ length f * s2
  pub width : length g ≡ s2
  pub first_bit : (i : ℕ) → get_or f i 0 < 2
  pub second_bit : (i : ℕ) → get_or g i 0 < 2

-- both tables pass 6 to 9, K is the same, the product is at most 16, the output is long enough, and these are their counts
pub record TableArgs (first second : List ℕ) (s1 s2 k : ℕ) (l : List ℕ) : Type 0 where
  pub first_passes : first_no (rule_checks first) ≡ 0
  pub second_passes : first_no (rule_checks second) ≡ 0
  pub first_states : s1 ≡ state_count first
  pub second_states : s2 ≡ state_count second
  pub first_labels : k ≡ label_count first
  pub second_labels : k ≡ label_count second
  pub first_most : s1 ≤ state_limit
  pub second_most : s2 ≤ state_limit
  pub labels_most : k ≤ label_limit
  pub product : s1 * s2 ≤ state_limit
  pub first_exact : length first ≡ rule_length s1 k
  pub second_exact : length second ≡ rule_length s2 k
  pub room : rule_length (s1 * s2) k ≤ length l
