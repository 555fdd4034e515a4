-- Statements about every list of calls, for any form of the calls: `Step` is a call's contract, `fresh` the record, or
-- the run of eight records, before the first call.
--
-- Superseded fresh Step == the calls as listed and the calls with each question's list superseded have the same answers
-- AnyOrder fresh Step == so have any two lists of calls that are the same once each question's list is superseded
-- ReorderedCall c d == call d is call c, or a Start with the same list without repeats in another order
-- Reordered cs ds == each call of the list ds is so of the list cs
-- OrderFree fresh Step == then the two lists of calls have the same answers
-- ReadsAlike fresh Step == from one Read on every Read is answered as it was, until a call replaces the last answer
-- StartsAfterLoad fresh Step == a Start given what an accepted Load just left is accepted if its list passes 12 to 14
-- answer_state a, answer_yes a == the state, and the yes or no, of a Read's answer; 0 and no of any other
-- ToTheEnd fresh Step x vs bs n ys == a question on inputs x, accepted with n parts; ys answer n advances and a Read
-- FreshRunAgrees fresh Step == such a Read has the state and the yes or no of fresh_run on Start's plan, rules and list
-- StateOver fresh Step == two such questions, on a changed plan and with lists laid over, have one state
-- Beyond c == a call of the screens that names a screen above 7, the one to try first included
-- ScreenHistory fresh Step == a screen's answers, in every list of calls of the eight, are a single session's
-- ScreenFinishes fresh Step == a question of a screen, carried to its end, is answered as one of a single session
--
-- What `superseded_calls` are: reference/specs/Superseding; `AnswerLasts`: reference/specs/Lasting; `advances_of`,
-- `AllSame` and `until_the_end`: reference/specs/Finished; `own_calls`, `own_answers`: screens/specs/Projection.
use Rattle.std.specs.Prelude.{ℕ, ◌<◌, ◌≡◌, Bool, true, false, length, Result, Ok}
use mathlib.Core.List.{List, [], ◌∷◌, ◌++◌, zip, Permᴰ}
use Rattle.list_laws.specs.Tests.{distinct}
use Rattle.formats.specs.Checks.{first_no, list_checks}
use Rattle.formats.specs.Inputs.{Inputs, sizes_in}
use Rattle.formats.specs.declared.refusals.Refusal.{Refusal}
use Rattle.runs.specs.declared.answer.Verdict.{Verdict}
use Rattle.runs.specs.FreshRun.{FreshRunDone}
use Rattle.changes.specs.Entries.{entries, nodes_listed, labels_listed, laid_over}
use Rattle.changes.specs.ChangedPlan.{changed_plan}
use Rattle.model.specs.Calls.{Call, load, start, read, Answer, parts, on_outcome}
use Rattle.model.specs.History.{History}
use Rattle.model.specs.Model.{fresh_record, Does}
use Rattle.reference.specs.Reference.{new_reference, part_count, fresh_answer, asked}
use Rattle.reference.specs.Undisturbed.{reference_at}
use Rattle.reference.specs.Superseding.{superseded_calls}
use Rattle.reference.specs.Lasting.{AnswerLasts}
use Rattle.reference.specs.Finished.{advances_of, AllSame, until_the_end}
use Rattle.screens.specs.ScreenCalls.{ScreenCall, load_all, start_on, cancel_on, read_on, deal, ScreenAnswer, nobody_runs}
use Rattle.screens.specs.Projection.{own_calls, own_answers}
use Rattle.screens.specs.Statements.{left_by}

-- ---- one session

pub data ReorderedCall : Call → Call → Type 0 where
  same : {c : Call} → ReorderedCall c c
  permuted : {x : Inputs} {vs bs ws ls : List ℕ} → length vs ≡ length bs → length ws ≡ length ls
      → Permᴰ (zip vs bs) (zip ws ls) → distinct vs ≡ true → ReorderedCall (start x vs bs) (start x ws ls)

abbrev pub Reordered : List Call → List Call → Type 0
Reordered [] [] = Unit {0}
Reordered [] (d ∷ ds) = ⊥
Reordered (c ∷ cs) [] = ⊥
Reordered (c ∷ cs) (d ∷ ds) = ReorderedCall c d × Reordered cs ds

module _ {R : Type 0} (fresh : R) (Step : R → Call → Answer → R → Type 0) where
  -- "with repeats the answer is that of the list after superseding"
  abbrev pub Superseded : Type 0
  Superseded = (cs : List Call) (xs ys : List Answer) → History Step fresh cs xs
      → History Step fresh (superseded_calls fresh_record cs) ys → ys ≡ xs

  -- "A list without repeats may still be given in any order; with repeats the answer is that of the list after
  -- superseding"
  abbrev pub AnyOrder : Type 0
  AnyOrder = (cs ds : List Call) (xs ys : List Answer)
      → superseded_calls fresh_record cs ≡ superseded_calls fresh_record ds
      → History Step fresh cs xs → History Step fresh ds ys → xs ≡ ys

  -- "A list without repeats may still be given in any order"
  abbrev pub OrderFree : Type 0
  OrderFree = (cs ds : List Call) (xs ys : List Answer) → Reordered cs ds
      → History Step fresh cs xs → History Step fresh ds ys → xs ≡ ys

  -- "The last finished answer survives a Cancel": cs and xs are the calls and answers before the first Read, a its
  -- answer, a refusal included, es and zs what comes after it
  abbrev pub ReadsAlike : Type 0
  ReadsAlike = (cs : List Call) (xs : List Answer) (a : Answer) (es : List Call) (zs : List Answer)
      → length cs ≡ length xs → History Step fresh (cs ++ (read ∷ es)) (xs ++ (a ∷ zs)) → AnswerLasts a es zs

  -- "it may lend what Load wrote"
  abbrev pub StartsAfterLoad : Type 0
  StartsAfterLoad = (cs : List Call) (xs : List Answer) (x : Inputs) (vs bs : List ℕ) (a : Answer)
      (ds : List Call) (ys : List Answer) → length cs ≡ length xs
      → first_no (list_checks (sizes_in x).n (sizes_in x).k vs bs) ≡ 0
      → History Step fresh (cs ++ (load x ∷ start (left_by x) vs bs ∷ ds)) (xs ++ (Answer.accepted ∷ a ∷ ys))
      → a ≡ parts (part_count (asked (left_by x) vs bs))

-- ---- questions that are carried to their end

abbrev pub answer_state : Answer → ℕ
answer_state a = on_outcome (λ o. o.state) 0 a

abbrev pub answer_yes : Answer → Bool
answer_yes a = on_outcome (λ o. o.yes) false a

module _ {R : Type 0} (fresh : R) (Step : R → Call → Answer → R → Type 0) where
  -- cs and xs are the calls and answers before the Start, ws the inputs of the advances, the same as Start's
  pub record ToTheEnd (x : Inputs) (vs bs : List ℕ) (n : ℕ) (ys : List Answer) : Type 0 where
    pub cs : List Call
    pub xs : List Answer
    pub ws : List Inputs
    pub before : length cs ≡ length xs
    pub advances : length ws ≡ n
    pub same : AllSame (reference_at new_reference cs xs).sizes x ws
    pub history : History Step fresh (cs ++ (start x vs bs ∷ (advances_of ws ++ (read ∷ [])))) (xs ++ (parts n ∷ ys))

  -- "the root state, and its yes or no, of a fresh run (source document 002's, on Start's plan with the listed labels
  -- changed)"
  abbrev pub FreshRunAgrees : Type 0
  FreshRunAgrees = (x : Inputs) (vs bs : List ℕ) (n : ℕ) (ys : List Answer) → ToTheEnd x vs bs n ys
      → (r : Result Verdict Refusal) → FreshRunDone x.plan x.rules vs bs r
      → (a : Answer) × (ys ≡ until_the_end n a) × (r ≡ Ok (record { state = answer_state a; accepted = answer_yes a }))

  -- "a question with the second on the plan changed by the first has the state of a question with the second laid over
  -- the first on the plan itself, each on tables built from its own plan and left alone"
  abbrev pub StateOver : Type 0
  StateOver = (x y : Inputs) (vs bs us ls : List ℕ)
      → y.plan ≡ changed_plan x.plan vs bs → y.rules ≡ x.rules
      → (n m : ℕ) (ys zs : List Answer) → ToTheEnd y us ls n ys
      → ToTheEnd x (nodes_listed (laid_over (entries vs bs) (entries us ls)))
      (labels_listed (laid_over (entries vs bs) (entries us ls))) m zs
      → (a b : Answer) × (ys ≡ until_the_end n a) × (zs ≡ until_the_end m b)
      × (answer_state a ≡ answer_state b) × (answer_yes a ≡ answer_yes b)

-- ---- eight screens

-- "A screen number above 7, the one to try first included"
abbrev pub Beyond : ScreenCall → Type 0
Beyond (load_all x) = ⊥
Beyond (start_on i x vs bs) = 7 < i
Beyond (cancel_on i) = 7 < i
Beyond (read_on i) = 7 < i
Beyond (deal k x) = 7 < k

module _ {Run : Type 0} (fresh : Run) (Step : Run → ScreenCall → ScreenAnswer → Run → Type 0) where
  -- so every statement about lists of calls holds of each screen's own calls and turns
  abbrev pub ScreenHistory : Type 0
  ScreenHistory = (i : ℕ) → i < 8 → (cs : List ScreenCall) (xs : List ScreenAnswer) → History Step fresh cs xs
      → History Does fresh_record (own_calls i nobody_runs cs xs) (own_answers i nobody_runs cs xs)

  -- of screen i: before and given are its calls and answers before a Start on the inputs x that answered n parts; ws
  -- are the inputs of its n turns after it, the same as x; ys are the answers of these and of the Read after them
  abbrev pub ScreenFinishes : Type 0
  ScreenFinishes = (i : ℕ) → i < 8 → (cs : List ScreenCall) (xs : List ScreenAnswer) → History Step fresh cs xs
      → (before : List Call) (given : List Answer) (x : Inputs) (vs bs : List ℕ) (n : ℕ)
      (ws : List Inputs) (ys : List Answer)
      → own_calls i nobody_runs cs xs ≡ before ++ (start x vs bs ∷ (advances_of ws ++ (read ∷ [])))
      → own_answers i nobody_runs cs xs ≡ given ++ (parts n ∷ ys)
      → length before ≡ length given → length ws ≡ n → AllSame (reference_at new_reference before given).sizes x ws
      → ys ≡ until_the_end n (fresh_answer (asked x vs bs))
