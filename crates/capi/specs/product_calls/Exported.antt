-- What the exported functions promise (document 02, S-6 and S-13).
--
-- MergeExported first second out r out' == the promise of whatif_merge: its number r, and the output afterwards
-- line_row ks bs ls rs i == the four numbers of line i: 0 leaf or 1 inner, label, left line, right line
-- line_numbers ks bs ls rs n == those of the first n lines, from the four arrays of a reply
-- lines_for r == those of all lines of the reply r
-- agree_number a room == the number of whatif_agree: the refusal's, or 11 where the lines do not fit in `room` numbers
-- shown first second == the reply where no check fails
-- AgreeExported .. == the promise of whatif_agree: its number, and lines, `agreed` and count afterwards
--
-- 11 is given only where the lines do not fit: it is decided after the search, so it hides no number of the checks.
use Rattle.std.specs.Prelude.{ℕ, ◌+◌, ◌*◌, ◌≤◌, ◌≡◌, cond, List, [], ◌∷◌, ◌++◌, eqb, leb, length, get_or, drop, Result, Ok, Err}
use Rattle.list_laws.specs.Rows.{rows}
use Rattle.formats.specs.Checks.{Check, check, first_no}
use Rattle.formats.specs.Refusals.{refusal_number}
use Rattle.formats.specs.declared.refusals.Refusal.{Refusal}
use Rattle.products.specs.merging.Merged.{merged_bytes, merge_checks}
use Rattle.products.specs.declared.agreement.Agreement.{Agreement}
use Rattle.products.specs.agreement.Lines.{pair_limit}
use Rattle.products.specs.agreement.Answer.{agree_checks}
use Rattle.products.specs.agreement.Reply.{reply_of, shown_reply, AgreeDone}

pub record MergeExported (first second out : List ℕ) (r : ℕ) (out' : List ℕ) : Type 0 where
  -- the first check that fails, or 0
  pub number : r ≡ first_no (merge_checks first second (length out))
  -- accepted: the merged table, and behind it what was there
  pub merged : r ≡ 0 → out' ≡ merged_bytes first second ++ drop (length (merged_bytes first second)) out
  -- refused: nothing is written
  pub refused : (r ≡ 0 → ⊥) → out' ≡ out

-- four numbers each: 0 leaf or 1 inner, label, left line, right line (both 0 for a leaf)
abbrev pub line_row : List ℕ → List ℕ → List ℕ → List ℕ → ℕ → List ℕ
line_row ks bs ls rs i = get_or ks i 0 ∷ get_or bs i 0 ∷ get_or ls i 0 ∷ get_or rs i 0 ∷ []

abbrev pub line_numbers : List ℕ → List ℕ → List ℕ → List ℕ → ℕ → List ℕ
line_numbers ks bs ls rs n = rows n (line_row ks bs ls rs)

abbrev pub lines_for : Agreement → List ℕ
lines_for r = line_numbers r.kinds r.labels r.lefts r.rights r.count

unfoldable pub agree_number : Result Agreement Refusal → ℕ → ℕ
agree_number (Ok r) room = cond (leb (r.count * 4) room) 0 11
agree_number (Err e) room = refusal_number e

-- what is replied where no check fails: the lines that are shown, none where the tables agree
abbrev pub shown : List ℕ → List ℕ → Agreement
shown first second = reply_of (shown_reply first second)

pub record AgreeExported (first second lines : List ℕ) (agreed count r : ℕ) (lines' : List ℕ) (agreed' count' : ℕ) : Type 0 where
  -- the reply by value, with its promise
  pub reply : Result Agreement Refusal
  pub done : AgreeDone first second reply
  pub number : r ≡ agree_number reply (length lines)
  -- accepted: the lines at the front, 1 for agreement, and their count; behind the lines what was there
  pub written : r ≡ 0
      → lines' ≡ lines_for (shown first second) ++ drop (length (lines_for (shown first second))) lines
  pub agreed_is : r ≡ 0 → agreed' ≡ cond (eqb (shown first second).count 0) 1 0
  pub count_is : r ≡ 0 → count' ≡ (shown first second).count
  -- refused: all is as it was
  pub lines_kept : (r ≡ 0 → ⊥) → lines' ≡ lines
  pub agreed_kept : (r ≡ 0 → ⊥) → agreed' ≡ agreed
  pub count_kept : (r ≡ 0 → ⊥) → count' ≡ count

-- ---- what the functions that write the lines require

pub record LineArgs (at : ℕ) (l : List ℕ) : Type 0 where
  pub inside : at + 4 ≤ length l
  pub small : at + 4 ≤ 65536

pub record LinesArgs (ks bs ls rs : List ℕ) (n : ℕ) (l : List ℕ) : Type 0 where
  pub kinds : length ks ≡ pair_limit
  pub labels : length bs ≡ pair_limit
  pub lefts : length ls ≡ pair_limit
  pub rights : length rs ≡ pair_limit
  pub few : n ≤ pair_limit
  pub room : n * 4 ≤ length l

-- the checks of the reply, then whether its lines, four numbers each, fit in `room` numbers
abbrev pub agree_room_checks : List ℕ → List ℕ → ℕ → List Check
agree_room_checks first second room =
    agree_checks first second ++ (check 11 (leb (length (shown_reply first second) * 4) room) ∷ [])
