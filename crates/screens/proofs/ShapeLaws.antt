-- What each answer of a history looks like, by who runs: all that turns depend on.
--     ShapedBy t a       answer a to a call that is t's: a refusal, a Load's number, a screen's own answer, or a turn's
--     Shaped run cs xs   of all answers; who runs is followed on the way
--     history-shaped     so are those of a history
--     shaped-split       and those from any point of it on
use mathlib.Core.Path.{◌≡◌, refl, sym, ap, subst}
use mathlib.Core.List.{List, [], ◌∷◌, ◌++◌}
use native.Mathlib.Omega.{arith}
use lib.ListN.{length}
use Rattle.model.specs.Calls.{advance, Answer, refused}
use Rattle.model.specs.History.{History, done, call}
use Rattle.model.specs.Model.{Record, act}
use Rattle.reference.specs.OwnAnswers.{OwnAnswer}
use Rattle.screens.specs.ScreenCalls.{ScreenCall, ScreenAnswer, one, loads, answer_in, Running, nobody_runs, Target}
use Rattle.screens.specs.ScreenCalls.{nobody, every_screen}
use Rattle.screens.specs.ScreenCalls.{screen, turn, target, turn_answer}
use Rattle.screens.specs.EightRecords.{at, runs, act_on, DoesAll, eight_fresh}
use Rattle.screens.specs.Projection.{followed, running_after}
use Rattle.screens.proofs.RecordLaws.{act-own}
use Rattle.screens.proofs.TargetLaws.{SameRunning, target-same}
use Rattle.screens.proofs.EightLaws.{on-target, answer-turn, does-eight, does-follows}
use Rattle.screens.proofs.ProjectionTheorem.{fresh-idle}

abbrev pub ShapedBy : Target → ScreenAnswer → Type 0
ShapedBy (nobody n) a = a ≡ one (refused n)
ShapedBy (every_screen x) a = a ≡ loads 0
ShapedBy (screen i c) a = (a ≡ one (answer_in a)) × OwnAnswer c (answer_in a)
ShapedBy (turn i x) a = (a ≡ turn_answer i (answer_in a)) × OwnAnswer (advance x) (answer_in a)

abbrev pub Shaped : Running → List ScreenCall → List ScreenAnswer → Type 0
Shaped run [] [] = Unit {0}
Shaped run [] (a ∷ xs) = ⊥
Shaped run (c ∷ cs) [] = ⊥
Shaped run (c ∷ cs) (a ∷ xs) = ShapedBy (target run c) a × Shaped (followed run c a) cs xs

target-shaped : (rs : List Record) (t : Target) → ShapedBy t (act_on rs t).answer
unfolding act_on answer_in
target-shaped rs (nobody n) = refl
target-shaped rs (every_screen x) = refl
target-shaped rs (screen i c) = (refl, act-own (at rs i) c)
target-shaped rs (turn i x) =
    let a : Answer = (act (at rs i) (advance x)).answer in
    let e : answer_in (turn_answer i a) ≡ a = answer-turn i a in
    (ap (turn_answer i) (sym e), subst (OwnAnswer (advance x)) (sym e) (act-own (at rs i) (advance x)))

pub history-shaped : (rs : List Record) (run : Running) → length rs ≡ 8 → SameRunning run (runs rs)
    → (cs : List ScreenCall) (xs : List ScreenAnswer) → History DoesAll rs cs xs → Shaped run cs xs
history-shaped rs run long same [] [] done = tt
history-shaped rs run long same [] (a ∷ xs) x4 = elim x4 [ ]
history-shaped rs run long same (c ∷ cs) [] x5 = elim x5 [ ]
history-shaped rs run long same (c ∷ cs) (a ∷ xs) (call {r' = rs'} d h) = (
  rw (target-same run (runs rs) same c, d.tells, on-target rs c long) (target-shaped rs (target (runs rs) c)),
  history-shaped rs' (followed run c a) (does-eight rs rs' c a long d)
      (does-follows rs rs' c a long d run same) cs xs h,
)

pub fresh-shaped : (cs : List ScreenCall) (xs : List ScreenAnswer) → History DoesAll eight_fresh cs xs
    → Shaped nobody_runs cs xs
fresh-shaped cs xs h = history-shaped eight_fresh nobody_runs refl fresh-idle cs xs h

pub shaped-split : (run : Running) (cs ds : List ScreenCall) (xs ys : List ScreenAnswer) → length cs ≡ length xs
    → Shaped run (cs ++ ds) (xs ++ ys) → Shaped (running_after run cs xs) ds ys
shaped-split run [] ds [] ys e h = h
shaped-split run [] ds (a ∷ xs) ys e h = absurd (omega arith)
shaped-split run (c ∷ cs) ds [] ys e h = absurd (omega arith)
shaped-split run (c ∷ cs) ds (a ∷ xs) ys e h = shaped-split (followed run c a) cs ds xs ys (omega arith) h.1
