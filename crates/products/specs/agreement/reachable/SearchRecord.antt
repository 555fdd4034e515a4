-- The search's record as the definitions have it, and what its functions ask and promise.
--
-- line_added s kind a i j c == the record with one line more; empty_search == with none
-- line_from ks bs ls rs n, lines_from ks bs ls rs n == line n, and the first n lines, of the four arrays kinds, labels, lefts, rights
-- lines_to s n == the first n lines of the record
-- found_in s == what the record says was found (products, specs/agreement/Search)
-- pair_step f g s1 s2 k p1 p2 a q1 q2 == the state of the product, from the inner runs f and g of the two tables
-- step_of f g s1 s2 k p a q == the same from the product's own states; pair_leaf f g s2 a == its leaf states, from the leaf runs
-- Pair f g s1 s2 k == the inner runs of two tables that pass 6 to 9 and have the same K
-- Fits s1 s2 s == the record can be worked on: arrays of 256, as many lines as states seen, states below S1 × S2; and each of its
--   entries says what its line does: kind 0 or 1, a leaf's lefts and rights 0
-- Front F G == G is F, and perhaps more lines behind
-- differing_from f g s2 s i n == i and how many of n lines from i on, up to and with the first whose marks (runs f, g) differ; 0 where
--   none does
-- StepArgs, LabelsArgs, LinesArgs, SearchArgs, LeavesArgs, MarksArgs == what a function asks; LabelsDone, .. == what it promises
use Rattle.std.specs.Prelude.{ℕ, zero, suc, ◌+◌, ◌*◌, ◌/◌, ◌%◌, ◌-◌, ◌≤◌, ◌<◌, ◌≡◌, List, [], ◌∷◌, ◌++◌, cond, eqb, length, get_or, take, set, replicate}
use Rattle.formats.specs.Limits.{state_limit, label_limit}
use Rattle.products.specs.agreement.Lines.{pair_limit, Line, leaf_line, inner_line}
use Rattle.products.specs.agreement.Search.{Found, over_leaves, over_labels, over_found, searched, marks}
use Rattle.products.specs.declared.agreement.reachable.Search.{Search}

abbrev pub line_added : Search → ℕ → ℕ → ℕ → ℕ → ℕ → Search
line_added s kind a i j c = record {
  kinds = set s.kinds s.count kind;
  labels = set s.labels s.count a;
  lefts = set s.lefts s.count i;
  rights = set s.rights s.count j;
  codes = set s.codes s.count c;
  seen = set s.seen c 1;
  count = s.count + 1;
}

abbrev pub empty_search : Search
empty_search = record {
  kinds = replicate pair_limit 0;
  labels = replicate pair_limit 0;
  lefts = replicate pair_limit 0;
  rights = replicate pair_limit 0;
  codes = replicate pair_limit 0;
  seen = replicate pair_limit 0;
  count = 0;
}

abbrev pub line_of : ℕ → ℕ → ℕ → ℕ → Line
line_of zero a i j = leaf_line a
line_of (suc n) a i j = inner_line a i j

abbrev pub line_from : List ℕ → List ℕ → List ℕ → List ℕ → ℕ → Line
line_from ks bs ls rs n = line_of (get_or ks n 0) (get_or bs n 0) (get_or ls n 0) (get_or rs n 0)

unfoldable pub lines_from : List ℕ → List ℕ → List ℕ → List ℕ → ℕ → List Line
lines_from ks bs ls rs zero = []
lines_from ks bs ls rs (suc n) = lines_from ks bs ls rs n ++ (line_from ks bs ls rs n ∷ [])

abbrev pub line_at : Search → ℕ → Line
line_at s n = line_from s.kinds s.labels s.lefts s.rights n

abbrev pub lines_to : Search → ℕ → List Line
lines_to s n = lines_from s.kinds s.labels s.lefts s.rights n

unfoldable pub found_in : Search → Found
found_in s = record { lines = lines_to s s.count; states = take s.count s.codes; seen = s.seen }

abbrev pub pair_step : List ℕ → List ℕ → ℕ → ℕ → ℕ → ℕ → ℕ → ℕ → ℕ → ℕ → ℕ
pair_step f g s1 s2 k p1 p2 a q1 q2 = get_or f ((p1 * k + a) * s1 + q1) 0 * s2 + get_or g ((p2 * k + a) * s2 + q2) 0

unfoldable pub step_of : List ℕ → List ℕ → ℕ → ℕ → ℕ → ℕ → ℕ → ℕ → ℕ
step_of f g s1 s2 k p a q = pair_step f g s1 s2 k (p / s2) (p % s2) a (q / s2) (q % s2)

pub record Pair (f g : List ℕ) (s1 s2 k : ℕ) : Type 0 where
  pub first_least : 1 ≤ s1
  pub first_most : s1 ≤ state_limit
  pub second_least : 1 ≤ s2
  pub second_most : s2 ≤ state_limit
  pub labels_most : k ≤ label_limit
  pub first_length : length f ≡ s1 * k * s1
  pub second_length : length g ≡ s2 * k * s2
  pub first_below : (j : ℕ) → get_or f j 0 < s1
  pub second_below : (j : ℕ) → get_or g j 0 < s2

pub record Fits (s1 s2 : ℕ) (s : Search) : Type 0 where
  pub kinds : length s.kinds ≡ pair_limit
  pub labels : length s.labels ≡ pair_limit
  pub lefts : length s.lefts ≡ pair_limit
  pub rights : length s.rights ≡ pair_limit
  pub codes : length s.codes ≡ pair_limit
  pub seen : length s.seen ≡ pair_limit
  pub counted : marks s.seen ≡ s.count
  pub below : (i : ℕ) → get_or s.codes i 0 < s1 * s2
  pub kind_bit : (i : ℕ) → get_or s.kinds i 0 < 2
  pub leaf_left : (i : ℕ) → get_or s.kinds i 0 ≡ 0 → get_or s.lefts i 0 ≡ 0
  pub leaf_right : (i : ℕ) → get_or s.kinds i 0 ≡ 0 → get_or s.rights i 0 ≡ 0

-- what one lookup reads
pub record StepArgs (f g : List ℕ) (s1 s2 k p1 p2 a q1 q2 : ℕ) : Type 0 where
  pub first_row : p1 * k + a < 65536
  pub first_cell : (p1 * k + a) * s1 + q1 < 65536
  pub first_in : (p1 * k + a) * s1 + q1 < length f
  pub second_row : p2 * k + a < 65536
  pub second_cell : (p2 * k + a) * s2 + q2 < 65536
  pub second_in : (p2 * k + a) * s2 + q2 < length g
  pub small : get_or f ((p1 * k + a) * s1 + q1) 0 * s2 + get_or g ((p2 * k + a) * s2 + q2) 0 < 256

pub record LabelsArgs (f g : List ℕ) (s1 s2 k : ℕ) (s : Search) (i j p q : ℕ) : Type 0 where
  pub pair : Pair f g s1 s2 k
  pub fits : Fits s1 s2 s
  pub left_in : i < pair_limit
  pub right_in : j < pair_limit
  pub left_below : p < s1 * s2
  pub right_below : q < s1 * s2

pub record LabelsDone (f g : List ℕ) (s1 s2 k : ℕ) (s : Search) (i j p q : ℕ) (r : Search) : Type 0 where
  pub fits : Fits s1 s2 r
  pub longer : s.count ≤ r.count
  pub found : found_in r ≡ over_labels (step_of f g s1 s2 k) i j p q 0 k (found_in s)

-- ---- the first line whose marks differ

-- how many of n lines from i on, up to and with the first whose marks differ; 0 where none does
unfoldable pub differing_from : List ℕ → List ℕ → ℕ → Search → ℕ → ℕ → ℕ
differing_from f g s2 s i zero = 0
differing_from f g s2 s i (suc n) =
    cond (eqb (get_or f (get_or s.codes i 0 / s2) 0) (get_or g (get_or s.codes i 0 % s2) 0)) (differing_from f g s2 s
    (suc i) n) (suc i)

pub record MarksArgs (f g : List ℕ) (s2 : ℕ) (s : Search) : Type 0 where
  pub second_least : 1 ≤ s2
  pub few : s.count ≤ pair_limit
  pub second_length : length g ≡ s2
  pub below : (i : ℕ) → get_or s.codes i 0 < length f * s2
  pub small : (i : ℕ) → get_or s.codes i 0 < 256

-- ---- the search, which may end at a line whose marks (runs x, y) differ

pub record Front (F G : Found) : Type 0 where
  pub later_lines : List Line
  pub later_states : List ℕ
  pub lines : G.lines ≡ F.lines ++ later_lines
  pub states : G.states ≡ F.states ++ later_states

pub record LinesArgs (f g x y : List ℕ) (s1 s2 k : ℕ) (s : Search) (n : ℕ) : Type 0 where
  pub pair : Pair f g s1 s2 k
  pub first_marks : length x ≡ s1
  pub second_marks : length y ≡ s2
  pub fits : Fits s1 s2 s
  pub inside : n < s.count

pub record LinesDone (f g x y : List ℕ) (s1 s2 k : ℕ) (s : Search) (n : ℕ) (r : Search) : Type 0 where
  pub fits : Fits s1 s2 r
  pub longer : s.count ≤ r.count
  pub front : Front (found_in r) (over_found (step_of f g s1 s2 k) k n 0 (n + 1) (found_in s))
  -- all of it, unless the marks of a new line differ
  pub found : differing_from x y s2 r s.count (r.count - s.count) ≡ 0
      → found_in r ≡ over_found (step_of f g s1 s2 k) k n 0 (n + 1) (found_in s)

pub record SearchArgs (f g x y : List ℕ) (s1 s2 k : ℕ) (s : Search) : Type 0 where
  pub pair : Pair f g s1 s2 k
  pub first_marks : length x ≡ s1
  pub second_marks : length y ≡ s2
  pub fits : Fits s1 s2 s

pub record SearchDone (f g x y : List ℕ) (s1 s2 k : ℕ) (s r : Search) : Type 0 where
  pub fits : Fits s1 s2 r
  pub front : Front (found_in r) (searched (step_of f g s1 s2 k) k pair_limit 0 (found_in s))
  -- all of it, unless the marks of a line differ
  pub found : differing_from x y s2 r 0 (r.count - 0) ≡ 0
      → found_in r ≡ searched (step_of f g s1 s2 k) k pair_limit 0 (found_in s)

-- ---- leaves

abbrev pub pair_leaf : List ℕ → List ℕ → ℕ → ℕ → ℕ
pair_leaf f g s2 a = get_or f a 0 * s2 + get_or g a 0

pub record LeavesArgs (f g : List ℕ) (s1 s2 k : ℕ) (s : Search) : Type 0 where
  pub first_most : s1 ≤ state_limit
  pub second_most : s2 ≤ state_limit
  pub labels_most : k ≤ label_limit
  pub first_length : length f ≡ k
  pub second_length : length g ≡ k
  pub first_below : (j : ℕ) → get_or f j 0 < s1
  pub second_below : (j : ℕ) → get_or g j 0 < s2
  pub fits : Fits s1 s2 s

pub record LeavesDone (f g : List ℕ) (s1 s2 k : ℕ) (s r : Search) : Type 0 where
  pub fits : Fits s1 s2 r
  pub found : found_in r ≡ over_leaves (pair_leaf f g s2) 0 k (found_in s)
