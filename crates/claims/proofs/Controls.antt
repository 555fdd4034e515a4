-- Controls of the statements' words: a premise that can be met, and a wrong answer that is turned down.
--     undisturbed-met, refused-undisturbed, cancel-disturbs, outcome-after    Undisturbed, OnlyOutcomeAfter
--     last-answer, no_answer, as-anew            AnswerLasts, NoAnswerYet, SameButReads
--     few_parts                                  Few
--     to-the-end-met                             ToTheEnd
--     reordered-met, superseded-met              Reordered, and the premise of AnyOrder
--     tables-met, blank-tables, refused-tables, refused-tables-by-value    TablesAfterLoadCall and TablesAfterLoad
--     wrong-number, not-kept, no-18              RefusedBy
--     handed-met, handed-number, handed-refused  HandedOn
--     until-turn, twice-between, again-after     until, in TurnsApart and BetweenTurns
--     screen-finishes-met                        the premises of ScreenFinishes
--     beyond-met, not_beyond                     Beyond
-- The words of demand 3 have theirs in reference/proofs/Controls and LastControls, S-8's in screens/proofs/Sample.
use Prim.Native.Nat.{ℕ}
use mathlib.Core.Path.{◌≡◌, refl, sym, ap}
use mathlib.Core.Bool.{Bool, true, false}
use mathlib.Core.List.{List, [], ◌∷◌, ◌++◌, zip, zip_with, Permᴰ}
use native.Mathlib.Omega.{arith}
use lib.ListN.{get_or}
use Rattle.list_laws.specs.Tests.{holds, distinct}
use Rattle.list_laws.proofs.BoolLaws.{true-false}
use Rattle.formats.specs.Inputs.{Inputs, Sizes}
use Rattle.model.specs.Calls.{Call, load, start, advance, cancel, read, Answer, refused, more, finished, Outcome}
use Rattle.model.specs.Calls.{parts, outcome, outcome_answer}
use Rattle.model.specs.Model.{fresh_record, Does}
use Rattle.reference.specs.Undisturbed.{Undisturbed, UndisturbedBy, OnlyOutcomeAfter}
use Rattle.reference.specs.Finished.{advances_of, AllSame, until_the_end}
use Rattle.reference.specs.Lasting.{AnswerLasts, NoAnswerYet, SameButReads}
use Rattle.reference.specs.Superseding.{superseded_calls}
use Rattle.reference.specs.Outcomes.{Few}
use Rattle.reference.proofs.AgreementTestLaws.{history-of}
use Rattle.reference.specs.Sample.{computing, load_a, inputs_a}
use Rattle.screens.specs.ScreenCalls.{ScreenCall, load_all, start_on, cancel_on, read_on, deal, ScreenAnswer, one, loads}
use Rattle.screens.specs.ScreenCalls.{deals, nobody_runs}
use Rattle.screens.specs.EightRecords.{eight_fresh}
use Rattle.screens.specs.Projection.{own_calls, own_answers}
use Rattle.screens.specs.Turns.{HandedOn, until}
use Rattle.screens.proofs.Sample as sample
use Rattle.claims.specs.Refusals.{RefusedBy}
use Rattle.claims.specs.Lent.{TablesAfterLoad, TablesAfterLoadCall}
use Rattle.claims.specs.Histories.{same, permuted, Reordered, ToTheEnd, Beyond}

-- ---- Undisturbed

-- advances given the same, then a Read: undisturbed, for any answers
undisturbed-met : (z : Sizes) (x : Inputs) (ws : List Inputs) (ys : List Answer) → AllSame z x ws
    → Undisturbed z x (advances_of ws ++ (read ∷ [])) ys
undisturbed-met z x [] [] s = tt
undisturbed-met z x [] (y ∷ ys) s = (tt, tt)
undisturbed-met z x (w ∷ ws) [] s = tt
undisturbed-met z x (w ∷ ws) (y ∷ ys) s = (λ _. s.0, undisturbed-met z x ws ys s.1)

-- and so is a refused call of any kind
refused-undisturbed : (z : Sizes) (x : Inputs) (c : Call) (n : ℕ) → UndisturbedBy z x c (refused n)
refused-undisturbed z x (load y) n = refl
refused-undisturbed z x (start y vs bs) n = refl
refused-undisturbed z x (advance y) n = λ e. absurd (true-false e)
refused-undisturbed z x cancel n = refl
refused-undisturbed z x read n = tt

-- an accepted Cancel disturbs
cancel-disturbs : (z : Sizes) (x : Inputs) → UndisturbedBy z x cancel Answer.accepted → ⊥
cancel-disturbs z x e = true-false (sym e)

-- another outcome after finished is turned down
outcome-after : (a b : Outcome) → OnlyOutcomeAfter (outcome a) (finished ∷ outcome b ∷ []) → outcome b ≡ outcome a
outcome-after a b h = h.0

-- ---- the last finished answer

-- after a Cancel a Read has that answer, and no other; before the first finish it has 1
last-answer : (a z : Answer) → AnswerLasts a (cancel ∷ read ∷ []) (Answer.accepted ∷ z ∷ []) → z ≡ a
last-answer a z h = (h.1 refl).0

no_answer : (z : Answer) → NoAnswerYet (cancel ∷ read ∷ []) (Answer.accepted ∷ z ∷ []) → z ≡ refused 1
no_answer z h = (h.1 refl).0

as-anew : (x : Inputs) (vs bs : List ℕ) (a b : Answer)
    → SameButReads (read ∷ start x vs bs ∷ []) (refused 1 ∷ a ∷ []) (refused 1 ∷ b ∷ []) → a ≡ b
as-anew x vs bs a b h = (h.2 refl).0

-- ---- Few: 4m - 2, and not more; 1 where no node is left

few_parts : (Few 1 3 → ⊥) × (Few 2 7 → ⊥) × (Few 0 2 → ⊥)
few_parts = (
  λ F. omega (arith, F.few (omega arith)),
  λ F. omega (arith, F.few (omega arith)),
  λ F. omega (arith, F.one refl),
)

-- ---- ToTheEnd: the sample's second row, of the model

to-the-end-met : ToTheEnd fresh_record Does inputs_a (0 ∷ []) (0 ∷ []) 2
    (more ∷ finished ∷ outcome_answer 0 false 2 1 1 ∷ [])
unfolding computing load_a inputs_a
to-the-end-met = record {
  cs = load load_a ∷ [];
  xs = Answer.accepted ∷ [];
  ws = inputs_a ∷ inputs_a ∷ [];
  before = refl;
  advances = refl;
  same = (refl, (refl, tt));
  history = history-of fresh_record (load load_a ∷ start inputs_a (0 ∷ []) (0 ∷ []) ∷ advance inputs_a ∷ advance inputs_a
      ∷ read ∷ []);
}

-- ---- Reordered, and the premise of AnyOrder: 0→0 2→0 and 2→0 0→0

two-orders : (u v b : ℕ) → Permᴰ (zip (u ∷ v ∷ []) (b ∷ b ∷ [])) (zip (v ∷ u ∷ []) (b ∷ b ∷ []))
unfolding zip zip_with
two-orders u v b = Permᴰ.swap refl refl

reordered-met : (x y : Inputs) → Reordered (load x ∷ start y (0 ∷ 2 ∷ []) (0 ∷ 0 ∷ []) ∷ read ∷ [])
    (load x ∷ start y (2 ∷ 0 ∷ []) (0 ∷ 0 ∷ []) ∷ read ∷ [])
unfolding distinct holds
reordered-met x y = (same, (permuted refl refl (two-orders 0 2 0) refl, (same, tt)))

superseded-met :
    superseded_calls fresh_record (load load_a ∷ start inputs_a (0 ∷ 2 ∷ []) (0 ∷ 0 ∷ []) ∷ advance inputs_a ∷ [])
    ≡ superseded_calls fresh_record (load load_a ∷ start inputs_a (2 ∷ 0 ∷ []) (0 ∷ 0 ∷ []) ∷ advance inputs_a ∷ [])
unfolding computing superseded_calls load_a inputs_a
superseded-met = refl

-- ---- Load's tables, on plan A and table A

-- the tables of the definition are what an accepted Load leaves
tables-met : TablesAfterLoadCall load_a 0 inputs_a.node_table inputs_a.state_table
unfolding computing load_a inputs_a
tables-met = record { unwritten = λ h. absurd (h refl); written = λ e. (refl, refl) }

-- buffers that an accepted Load leaves as they were are turned down
blank-tables : TablesAfterLoadCall load_a 0 load_a.node_table load_a.state_table → ⊥
unfolding computing load_a
blank-tables T =
    let e : ◌≡◌ {A = ℕ} 9 2 = ap (λ (l : List ℕ). get_or l 0 0) (T.written refl).0 in
    omega (arith, e)

-- and tables that a refused one writes
refused-tables : TablesAfterLoadCall load_a 1 inputs_a.node_table inputs_a.state_table → ⊥
unfolding computing load_a inputs_a
refused-tables T =
    let e : ◌≡◌ {A = ℕ} 2 9 =
    ap (λ (l : List ℕ). get_or l 0 0) (T.unwritten (λ z. omega (arith, let i : ◌≡◌ {A = ℕ} 1 0 = z in i))).0 in
    omega (arith, e)

refused-tables-by-value : TablesAfterLoad load_a true inputs_a.node_table inputs_a.state_table → ⊥
unfolding computing load_a inputs_a
refused-tables-by-value T =
    let e : ◌≡◌ {A = ℕ} 2 9 = ap (λ (l : List ℕ). get_or l 0 0) (T.unwritten refl).0 in
    omega (arith, e)

-- ---- RefusedBy: n is the number of the first failing check

-- another number is turned down, and so is acceptance
wrong-number : {R : Type 0} (s s' : R) (c : Call) (n : ℕ) → RefusedBy 12 s c (refused n) s' → n ≡ 12
wrong-number s s' c n D = go (refused n) (D.by_number 11 refl)
  where
    go : (a : Answer) → refused n ≡ refused 12 → n ≡ 12
    go a e = cc

-- a refusal that alters the session
not-kept : (c : Call) (n : ℕ) → RefusedBy n false c (refused n) true → ⊥
not-kept c n D = true-false (D.unaltered n refl)

-- 18 for a call other than an advance that no check refuses
no-18 : {R : Type 0} (s s' : R) → RefusedBy 0 s cancel (refused 18) s' → ⊥
no-18 s s' D = go cancel (D.else_accepted refl refl).0 (D.else_accepted refl refl).1
  where
    go : (c : Call) (x : Inputs) → cancel ≡ advance x → ⊥
    go c x e = true-false (ap is_cancel e)
      where
        is_cancel : Call → Bool
        is_cancel (load y) = false
        is_cancel (start y vs bs) = false
        is_cancel (advance y) = false
        is_cancel cancel = true
        is_cancel read = false

-- ---- HandedOn

-- the sample's twenty calls hand the number on as it was returned
handed-met : HandedOn 0 sample.calls sample.told
handed-met = sample.sample-handed

-- after a deal that returned 1 the next deal is handed 1, and no other number
handed-number : (k : ℕ) (x y : Inputs) (a : ScreenAnswer)
    → HandedOn 0 (deal 0 x ∷ deal k y ∷ []) (deals 1 more ∷ a ∷ []) → k ≡ 1
handed-number k x y a h = h.1.0

-- after a refused one the number that was handed in
handed-refused : (k : ℕ) (x y : Inputs) (a : ScreenAnswer)
    → HandedOn 3 (deal 3 x ∷ deal k y ∷ []) (one (refused 18) ∷ a ∷ []) → k ≡ 3
handed-refused k x y a h = h.1.0

-- ---- until

-- the turns before screen 2's next one
until-turn : until 2 (0 ∷ 1 ∷ 2 ∷ 3 ∷ 2 ∷ []) ≡ 0 ∷ 1 ∷ []
unfolding until
until-turn = refl

-- a screen that is served twice between is turned down
twice-between : distinct (until 2 (0 ∷ 1 ∷ 0 ∷ 2 ∷ [])) ≡ true → ⊥
unfolding until distinct holds
twice-between e = true-false (sym e)

-- once before and once after is none
again-after : distinct (until 2 (0 ∷ 2 ∷ 0 ∷ [])) ≡ true
unfolding until distinct holds
again-after = refl

-- ---- ScreenFinishes: two screens ask, and screen 5 is served twice and reads

unfoldable screen_calls : List ScreenCall
screen_calls =
    load_all load_a ∷ start_on 0 inputs_a (0 ∷ []) (0 ∷ []) ∷ start_on 5 inputs_a (4 ∷ []) (0 ∷ [])
    ∷ deal 0 inputs_a ∷ deal 1 inputs_a ∷ deal 6 inputs_a ∷ deal 1 inputs_a ∷ read_on 5 ∷ []

unfoldable screen_answers : List ScreenAnswer
screen_answers =
    loads 0 ∷ one (parts 2) ∷ one (parts 2)
    ∷ deals 1 more ∷ deals 6 more ∷ deals 1 finished ∷ deals 6 finished ∷ one (outcome_answer 0 false 2 1 1) ∷ []

screen-finishes-met :
    (sample.answers_all eight_fresh screen_calls ≡ screen_answers)
    × (own_calls 5 nobody_runs screen_calls screen_answers
    ≡ (load load_a ∷ []) ++ (start inputs_a (4 ∷ []) (0 ∷ []) ∷ (advances_of (inputs_a ∷ inputs_a ∷ []) ++ (read ∷ []))))
    × (own_answers 5 nobody_runs screen_calls screen_answers
    ≡ (Answer.accepted ∷ []) ++ (parts 2 ∷ until_the_end 2 (outcome_answer 0 false 2 1 1)))
unfolding sample.computing_screens screen_calls screen_answers load_a inputs_a
screen-finishes-met = (refl, refl, refl)

-- ---- Beyond

beyond-met : Beyond (cancel_on 8) × Beyond (read_on 259)
beyond-met = (omega arith, omega arith)

not_beyond : (x : Inputs) → (Beyond (deal 7 x) → ⊥) × (Beyond (load_all x) → ⊥)
not_beyond x = (λ h. omega (arith, h), λ h. h)
