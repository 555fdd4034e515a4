-- What `agree` replies (document 02, S-13).
--
-- line_kind, line_label, line_left, line_right == the four numbers of a line; a leaf's left and right are 0
-- column f xs == an array of 256: f of each line, then zeros
-- reply_of xs == the reply with the lines xs
-- lines_in r == the lines that a reply shows
-- shown_reply first second == the lines that are shown (products, specs/agreement/Answer); none where the tables agree
-- Replied first second r == what is promised of a reply r
-- AgreeDone first second a == the promise, on every input
-- Front n a r == r is the first n entries of the array a, then zeros; FrontArgs, CutArgs, AnswerArgs == what the parts of agree ask
use Rattle.std.specs.Prelude.{ℕ, ◌≤◌, ◌<◌, ◌≡◌, List, [], length, get_or, Result, IfOk}
use Rattle.std.proofs.Math.Option.{Option, none, some}
use Rattle.list_laws.specs.Rows.{tabulate}
use Rattle.formats.specs.Limits.{state_limit, label_limit}
use Rattle.formats.specs.Rules.{state_count, label_count, rule_length, rule_automaton}
use Rattle.formats.specs.Checks.{first_no, rule_checks}
use Rattle.formats.specs.Refusals.{answer_number}
use Rattle.formats.specs.declared.refusals.Refusal.{Refusal}
use Rattle.products.specs.agreement.Lines.{pair_limit, Line, leaf_line, inner_line}
use Rattle.products.specs.agreement.Agreement.{Agree, Separates}
use Rattle.products.specs.agreement.Answer.{agree_checks, shown_count, shown_lines}
use Rattle.products.specs.declared.agreement.reachable.Search.{Search}
use Rattle.products.specs.agreement.reachable.SearchRecord.{lines_from, Fits}
use Rattle.products.specs.declared.agreement.Agreement.{Agreement}

abbrev pub line_kind : Line → ℕ
line_kind (leaf_line a) = 0
line_kind (inner_line a i j) = 1

abbrev pub line_label : Line → ℕ
line_label (leaf_line a) = a
line_label (inner_line a i j) = a

abbrev pub line_left : Line → ℕ
line_left (leaf_line a) = 0
line_left (inner_line a i j) = i

abbrev pub line_right : Line → ℕ
line_right (leaf_line a) = 0
line_right (inner_line a i j) = j

unfoldable pub column : (Line → ℕ) → List Line → List ℕ
column f xs = tabulate pair_limit (λ i. f (get_or xs i (leaf_line 0)))

abbrev pub reply_of : List Line → Agreement
reply_of xs = record {
  count = length xs;
  kinds = column line_kind xs;
  labels = column line_label xs;
  lefts = column line_left xs;
  rights = column line_right xs;
}

abbrev pub lines_in : Agreement → List Line
lines_in r = lines_from r.kinds r.labels r.lefts r.rights r.count

abbrev pub shown_by : List ℕ → List ℕ → Option ℕ → List Line
shown_by first second none = []
shown_by first second (some n) = shown_lines first second n

-- "its name and its properties then stand in the contract"
unfoldable pub shown_reply : List ℕ → List ℕ → List Line
shown_reply first second = shown_by first second (shown_count first second)

pub record Replied (first second : List ℕ) (r : Agreement) : Type 0 where
  -- the named lines, and nothing behind them
  pub named : r ≡ reply_of (shown_reply first second)
  -- "The reply is agreement, exactly when that holds"
  pub agreed : r.count ≡ 0 → Agree (rule_automaton first) (rule_automaton second) (label_count first)
  pub exactly : Agree (rule_automaton first) (rule_automaton second) (label_count first) → r.count ≡ 0
  -- "or else, by value, a separating plan as at most 256 lines", of least height
  pub separates : 0 < r.count → Separates (rule_automaton first) (rule_automaton second) (label_count first) (lines_in r)
  -- entries that no line uses are 0
  pub unused : (i : ℕ) → r.count ≤ i
      → (get_or r.kinds i 0 ≡ 0) × (get_or r.labels i 0 ≡ 0) × (get_or r.lefts i 0 ≡ 0) × (get_or r.rights i 0 ≡ 0)

pub record AgreeDone (first second : List ℕ) (a : Result Agreement Refusal) : Type 0 where
  -- "The tables pass 6 to 9 in turn, then 23": the first check that fails, or 0
  pub number : answer_number a ≡ first_no (agree_checks first second)
  -- accepted; a refusal replies nothing else
  pub replied : IfOk a (Replied first second)

-- ---- the parts

pub record FrontArgs (a : List ℕ) (n : ℕ) : Type 0 where
  pub long : length a ≡ pair_limit
  pub few : n ≤ pair_limit

pub record Front (n : ℕ) (a r : List ℕ) : Type 0 where
  pub long : length r ≡ pair_limit
  pub copied : (i : ℕ) → i < n → get_or r i 0 ≡ get_or a i 0
  pub zero : (i : ℕ) → n ≤ i → get_or r i 0 ≡ 0

pub record CutArgs (s1 s2 : ℕ) (t : Search) (n : ℕ) : Type 0 where
  pub fits : Fits s1 s2 t
  pub few : n ≤ pair_limit

-- both tables pass 6 to 9, K is the same, and these are their counts
pub record AnswerArgs (first second : List ℕ) (s1 s2 k : ℕ) : Type 0 where
  pub first_passes : first_no (rule_checks first) ≡ 0
  pub second_passes : first_no (rule_checks second) ≡ 0
  pub first_states : s1 ≡ state_count first
  pub second_states : s2 ≡ state_count second
  pub first_labels : k ≡ label_count first
  pub second_labels : k ≡ label_count second
  pub first_most : s1 ≤ state_limit
  pub second_most : s2 ≤ state_limit
  pub labels_most : k ≤ label_limit
  pub first_exact : length first ≡ rule_length s1 k
  pub second_exact : length second ≡ rule_length s2 k
