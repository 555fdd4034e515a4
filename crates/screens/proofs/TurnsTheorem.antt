-- "a screen that stays running is served within eight accepted deals, and no other is served twice between two
-- successive turns of it in one question": for any inputs, and for any Starts and Cancels of the others.
--     nearing          the screens served before screen i lie on the way to it, each farther than the one before
--     served_soon, turns_apart, between_turns    the sentences, from any point of a history on
-- Only the shape of answers is used (ShapeLaws).
use Prim.Native.Nat.{ℕ, zero, suc, ◌+◌, ◌-◌, ◌≤◌, ◌<◌}
use mathlib.Core.Path.{◌≡◌, refl, sym, ap, ◌∙◌, subst}
use mathlib.Core.Bool.{Bool, true, false, cond}
use mathlib.Core.List.{List, [], ◌∷◌, ◌++◌}
use mathlib.Core.Option.{Option, some}
use native.Mathlib.Decide.{ℕ_discrete}
use native.Mathlib.Omega.{arith}
use lib.Dec.{ltb}
use borrow.Author.Tests.{eq-eqb, ne_eqb, lt-ltb}
use Rattle.list_laws.specs.Tests.{distinct}
use Rattle.list_laws.proofs.BoolLaws.{true-false}
use Rattle.formats.specs.Checks.{first_no}
use Rattle.formats.specs.Inputs.{Inputs}
use Rattle.model.specs.Calls.{Call, start, cancel, read, Answer, refused, parts, more, finished, outcome}
use Rattle.model.specs.Calls.{is_refused}
use Rattle.reference.specs.OwnAnswers.{OwnAnswer, refuses, starts, reads}
use Rattle.screens.specs.ScreenCalls.{ScreenCall, load_all, start_on, cancel_on, read_on, deal, ScreenAnswer, one}
use Rattle.screens.specs.ScreenCalls.{loads, deals, answer_in}
use Rattle.screens.specs.ScreenCalls.{Running, nobody_runs, one_past, served_by, next_running_in, next_running, Target}
use Rattle.screens.specs.ScreenCalls.{nobody, every_screen}
use Rattle.screens.specs.ScreenCalls.{screen, turn, load_all_checks, load_target, deal_target, numbered, target}
use Rattle.screens.specs.ScreenCalls.{turn_answer}
use Rattle.screens.specs.EightRecords.{DoesAll, eight_fresh}
use Rattle.screens.specs.Projection.{fed_by, still_runs, still_runs_by, followed, running_after}
use Rattle.screens.specs.Turns.{turns_of, number_after, HandedOn, Uncancelled, until}
use Rattle.screens.specs.Statements.{ServedSoon, TurnsApart, BetweenTurns}
use Rattle.screens.proofs.TargetLaws.{Rightly, rightly}
use Rattle.screens.proofs.Steps.{Steps, steps, at_first, one_end, onward, between, past_one, served-past, First}
use Rattle.screens.proofs.Steps.{next-first, Nearing}
use Rattle.screens.proofs.Steps.{nearing-few, nearing-distinct, until-holds}
use Rattle.screens.proofs.ShapeLaws.{ShapedBy, Shaped, fresh-shaped, shaped-split}

-- ---- a screen that runs goes on running

refused-stays : (b : Bool) (a : Answer) → is_refused a ≡ true → still_runs b a ≡ b
unfolding still_runs
refused-stays b (refused n) e = refl
refused-stays b Answer.accepted e = absurd (true-false (sym e))
refused-stays b (parts p) e = absurd (true-false (sym e))
refused-stays b more e = absurd (true-false (sym e))
refused-stays b finished e = absurd (true-false (sym e))
refused-stays b (outcome o) e = refl

start-stays : (x : Inputs) (vs bs : List ℕ) (a : Answer) → OwnAnswer (start x vs bs) a → still_runs true a ≡ true
unfolding still_runs
start-stays x vs bs (refused m) (refuses n) = refl
start-stays x vs bs Answer.accepted x'' = elim x'' [ ]
start-stays x vs bs more x3 = elim x3 [ ]
start-stays x vs bs finished x4 = elim x4 [ ]
start-stays x vs bs (outcome _) x6 = elim x6 [ ]
start-stays x vs bs (parts q) (starts p) = refl

read_stays : (a : Answer) → OwnAnswer read a → still_runs true a ≡ true
unfolding still_runs
read_stays (refused m) (refuses n) = refl
read_stays Answer.accepted x' = elim x' [ ]
read_stays (parts _) x3 = elim x3 [ ]
read_stays more x3 = elim x3 [ ]
read_stays finished x4 = elim x4 [ ]
read_stays (outcome q) (reads o) = refl

-- ---- one call

abbrev Premises : ℕ → ℕ → ℕ → List ScreenCall → List ScreenAnswer → Type 0
Premises i o D cs xs = (run : Running) (k lo : ℕ) → Shaped run cs xs → Steps o k lo → lo ≤ D → run i ≡ true
    → HandedOn k cs xs → Uncancelled i cs xs → Nearing o lo D (until i (turns_of xs))

module _ (i o D : ℕ) (W : Steps o i D) (run run' : Running) (k lo : ℕ) (a : ScreenAnswer) (cs : List ScreenCall)
    (xs : List ScreenAnswer)
    (later : Premises i o D cs xs) (shaped : Shaped run' cs xs) (S : Steps o k lo) (l : lo ≤ D) (runs : run i ≡ true)
    (on : HandedOn (number_after k a) cs xs) (un : Uncancelled i cs xs) where
  -- a call that is no turn
  quietly : (y : Answer) → a ≡ one y → run' i ≡ true → Nearing o lo D (until i (turns_of (a ∷ xs)))
  unfolding turns_of
  quietly y e r =
      subst (λ (t : ScreenAnswer). HandedOn (number_after k t) cs xs → Nearing o lo D (until i (turns_of (t ∷ xs))))
      (sym e)
      (λ h. later run' k lo shaped S l r h un) on

  -- a call on screen m
  screened : (m : ℕ) (d : Call) (b : Bool)
      → run' i ≡ still_runs_by (run i) (fed_by i (cond b (screen m d) (nobody 25)) (answer_in a))
      → ShapedBy (cond b (screen m d) (nobody 25)) a → (i ≡ m → OwnAnswer d (answer_in a) → still_runs true (answer_in a) ≡ true)
      → Nearing o lo D (until i (turns_of (a ∷ xs)))
  unfolding still_runs_by fed_by
  screened m d false now h f = quietly (refused 25) h (now ∙ runs)
  screened m d true now h f = quietly (answer_in a) h.0 (now ∙ elim (ℕ_discrete i m) [
    | yes q ↦ rw (eq-eqb i m q, runs) (f q h.1)
    | no q ↦ rw (ne_eqb i m q) runs
  ])

  -- a turn of screen s
  turned : (s : ℕ) (x : Inputs) (e : ℕ) → Steps k s e → e ≤ D - lo
      → run' i ≡ still_runs_by (run i) (fed_by i (turn s x) (answer_in a))
      → ShapedBy (turn s x) a → Nearing o lo D (until i (turns_of (a ∷ xs)))
  unfolding still_runs_by fed_by turn_answer until turns_of
  turned s x e T m now h = go (is_refused (answer_in a)) refl h.0
    where
      way : Steps o s (lo + e)
      way = onward o k s lo e S T (omega (arith, W.few))

      strict : (i ≡ s → ⊥) → lo + e < D
      strict z = elim (ℕ_discrete (lo + e) D) [
        | yes w ↦ absurd (z (one_end o i s D W (subst (Steps o s) w way)))
        | no w ↦ omega arith
      ]

      far : lo + e < D → Steps o (one_past s) (suc (lo + e))
      far n = let u : lo + e + 1 ≡ suc (lo + e) = omega arith in
          subst (Steps o (one_past s)) u (onward o s (one_past s) (lo + e) 1 way (past_one s T.to)
          (omega (arith, W.few)))

      other : (i ≡ s → ⊥) → run' i ≡ true
      other z = now ∙ rw (ne_eqb i s z) runs

      waits : is_refused (answer_in a) ≡ true → run' i ≡ true
      waits q = elim (ℕ_discrete i s) [
        | yes z ↦ now ∙ rw (eq-eqb i s z) (refused-stays (run i) (answer_in a) q ∙ runs)
        | no z ↦ other z
      ]

      told : a ≡ deals (one_past s) (answer_in a) → HandedOn (one_past s) cs xs
      told p = subst (λ (t : ScreenAnswer). HandedOn (number_after k t) cs xs) p on

      go : (b : Bool) → is_refused (answer_in a) ≡ b → a ≡ cond b (one (answer_in a)) (deals (one_past s) (answer_in a))
          → Nearing o lo D (until i (turns_of (a ∷ xs)))
      go true q p = quietly (answer_in a) p (waits q)
      go false q p =
          subst (λ (t : ScreenAnswer). Nearing o lo D (until i (turns_of (t ∷ xs)))) (sym p)
          (elim (ℕ_discrete i s) [
            | yes z ↦ rw (served-past s T.to, eq-eqb i s z) tt
            | no z ↦ (let near : lo + e < D = strict z in
                rw (served-past s T.to, ne_eqb i s z) (
                  lo + e,
                  omega arith,
                  near,
                  way,
                  later run' (one_past s) (suc (lo + e)) shaped (far near) (omega arith)
                      (other z) (told p) un,
                ))
          ])

  loading : (x : Inputs) (t : Target) → Rightly run t → (n : ℕ) → t ≡ load_target n x
      → run' i ≡ still_runs_by (run i) (fed_by i (load_target n x) (answer_in a)) → ShapedBy (load_target n x) a
      → Nearing o lo D (until i (turns_of (a ∷ xs)))
  unfolding load_target still_runs_by fed_by
  loading x t r zero e now h =
      absurd (true-false (sym runs ∙ (subst (Rightly run) e r).0 i W.to))
  loading x t r (suc n) e now h = quietly (refused (suc n)) h (now ∙ runs)

-- a deal serves the next screen that runs
pub to-turn : (run : Running) (k : ℕ) (x : Inputs) → k < 8 → (s : ℕ) → next_running_in 8 run k ≡ some s
    → target run (deal k x) ≡ turn s x
unfolding target numbered next_running deal_target
to-turn run k x h s e = rw (lt-ltb k 8 h) (ap (λ (t : Option ℕ). deal_target t x) e)

module _ (i o D : ℕ) (W : Steps o i D) where
  one_more : (c : ScreenCall) (cs : List ScreenCall) (a : ScreenAnswer) (xs : List ScreenAnswer) → Premises i o D cs xs
      → Premises i o D (c ∷ cs) (a ∷ xs)
  unfolding target numbered
  one_more (load_all x) cs a xs later run k lo s S l r on un =
      loading i o D W run (followed run (load_all x) a) k lo a cs xs later s.1 S l r on.1 un.1 x
      (target run (load_all x)) (rightly run (load_all x)) (first_no (load_all_checks run x)) refl refl s.0
  one_more (start_on m x vs bs) cs a xs later run k lo s S l r on un =
      screened i o D W run (followed run (start_on m x vs bs) a) k lo a cs xs later s.1 S l r on.1 un.1
      m (start x vs bs) (ltb m 8) refl s.0 (λ q w. start-stays x vs bs (answer_in a) w)
  one_more (cancel_on m) cs a xs later run k lo s S l r on un =
      screened i o D W run (followed run (cancel_on m) a) k lo a cs xs later s.1 S l r on.1 un.1
      m cancel (ltb m 8) refl s.0 (λ q w. refused-stays true (answer_in a) (un.0 (eq-eqb i m q)))
  one_more (read_on m) cs a xs later run k lo s S l r on un =
      screened i o D W run (followed run (read_on m) a) k lo a cs xs later s.1 S l r on.1 un.1
      m read (ltb m 8) refl s.0 (λ q w. read_stays (answer_in a) w)
  one_more (deal j x) cs a xs later run k lo s S l r on un =
      let F : First k (D - lo) (next_running_in 8 run k) =
      next-first 8 run k i (D - lo) (between o k i lo D S W l) (between o k i lo D S W l).few r in
      let z : target run (deal j x) ≡ turn F.screen x =
      ap (λ (m : ℕ). target run (deal m x)) on.0 ∙ to-turn run k x S.to F.screen F.found in
      turned i o D W run (followed run (deal j x) a) k lo a cs xs later s.1 S l r on.1 un.1
      F.screen x F.way F.steps-to F.before
      (ap (λ (t : Target). still_runs_by (run i) (fed_by i t (answer_in a))) z)
      (subst (λ (t : Target). ShapedBy t a) z s.0)

  pub nearing : (cs : List ScreenCall) (xs : List ScreenAnswer) → Premises i o D cs xs
  unfolding until turns_of
  nearing [] [] run k lo s S l r on un = tt
  nearing [] (a ∷ xs) run k lo s S l r on un = absurd s
  nearing (c ∷ cs) [] run k lo s S l r on un = absurd s
  nearing (c ∷ cs) (a ∷ xs) run k lo s S l r on un = one_more c cs a xs (nearing cs xs) run k lo s S l r on un

-- ---- the sentences

apart_from : (run : Running) (k i : ℕ) (cs : List ScreenCall) (xs : List ScreenAnswer) → k < 8 → i < 8 → run i ≡ true
    → Shaped run cs xs → HandedOn k cs xs → Uncancelled i cs xs → distinct (until i (turns_of xs)) ≡ true
apart_from run k i cs xs hk hi r s on un =
    let W = steps k i hk hi in
    nearing-distinct k 0 W.0 (until i (turns_of xs))
    (nearing i k W.0 W.1 cs xs run k 0 s (at_first k hk) (omega arith) r on un)

pub turns_apart : TurnsApart eight_fresh DoesAll
turns_apart i k before cs told xs hi hk e h r on un =
    apart_from (running_after nobody_runs before told) k i cs xs hk hi r
    (shaped-split nobody_runs before cs told xs e (fresh-shaped (before ++ cs) (told ++ xs) h)) on un

pub served_soon : ServedSoon eight_fresh DoesAll
served_soon i k before cs told xs hi hk e h r on un many =
    let W = steps k i hk hi in
    let s = shaped-split nobody_runs before cs told xs e (fresh-shaped (before ++ cs) (told ++ xs) h) in
    let few = nearing-few k 0 W.0 (until i (turns_of xs)) (omega arith)
    (nearing i k W.0 W.1 cs xs (running_after nobody_runs before told) k 0 s (at_first k hk)
    (omega arith) r on un) in
    until-holds i 8 (turns_of xs) (omega (arith, few, W.1.few)) many

-- ---- between two turns of a screen

is_deals : ScreenAnswer → Bool
is_deals (one a) = false
is_deals (loads k) = false
is_deals (deals k a) = true

number_in : ScreenAnswer → ℕ
number_in (one a) = 0
number_in (loads k) = k
number_in (deals k a) = k

-- a deal that returns more and the number n was a turn of a screen of the eight, which runs on
record Goes (n : ℕ) (t : Target) : Type 0 where
  served : served_by n < 8
  number : n < 8
  runs_on : (b : Bool) → still_runs_by b (fed_by (served_by n) t more) ≡ true

goes : (run : Running) (n : ℕ) (t : Target) → Rightly run t → ShapedBy t (deals n more) → Goes n t
unfolding is_deals number_in answer_in turn_answer fed_by still_runs_by still_runs
goes run n (nobody m) r h = absurd (true-false (ap is_deals h))
goes run n (every_screen x) r h = absurd (true-false (ap is_deals h))
goes run n (screen j c) r h = absurd (true-false (ap is_deals h.0))
goes run n (turn s x) r h =
    let e : n ≡ one_past s = ap number_in h.0 in
    let q : served_by n ≡ s = ap served_by e ∙ served-past s r.0 in
    record {
      served = subst (λ (m : ℕ). m < 8) (sym q) r.0;
      number = subst (λ (m : ℕ). m < 8) (sym e) (past_one s r.0).to;
      runs_on = λ b. rw (eq-eqb (served_by n) s q) refl;
    }

pub between_turns : BetweenTurns eight_fresh DoesAll
unfolding answer_in
between_turns i k n x before cs told xs e h q on un =
    let run : Running = running_after nobody_runs before told in
    let s = shaped-split nobody_runs before (deal k x ∷ cs) told (deals n more ∷ xs) e (fresh-shaped _ _ h) in
    let G = goes run n (target run (deal k x)) (rightly run (deal k x)) s.0 in
    apart_from (followed run (deal k x) (deals n more)) n i cs xs G.number (subst (λ (m : ℕ). m < 8) q G.served)
    (subst (λ (m : ℕ). followed run (deal k x) (deals n more) m ≡ true) q (G.runs_on (run (served_by n)))) s.1 on un
