-- Eight reference models, one for each screen, and the whole list of answers against them.
--
-- "Each screen has a panel book of its own, fed with the accepted Loads, its own calls and its turns as advances."
--
-- References == a reference model for each screen; running_in bs == which screens run by them
-- ScreenConforms bs t a == answer a to a call that is t's, against the reference models bs; references_after bs t a ==
--   these then
-- ScreensAgree bs cs xs == the whole list of answers xs to the calls cs against bs: who is served, the number returned,
--   25, Load's and the deal's 1 too
-- ScreensDemand3 fresh Step == every history from the fresh run of records agrees with eight new reference models
use Rattle.std.specs.Prelude.{ℕ, ◌<◌, ◌≡◌, cond, List, [], ◌∷◌, eqb}
use Rattle.model.specs.Calls.{load, advance, Answer, refused, is_running}
use Rattle.model.specs.History.{History}
use Rattle.reference.specs.Reference.{Reference, new_reference, phase, step}
use Rattle.reference.specs.Demand3.{Conforms, after}
use Rattle.screens.specs.ScreenCalls.{ScreenCall, ScreenAnswer, one, loads, answer_in, Running, Target, nobody}
use Rattle.screens.specs.ScreenCalls.{every_screen, screen, turn}
use Rattle.screens.specs.ScreenCalls.{target, turn_answer}

abbrev pub References : Type 0
References = ℕ → Reference

abbrev pub running_in : References → Running
running_in bs i = is_running (phase (bs i).state)

abbrev pub put : References → ℕ → Reference → References
put bs i b j = cond (eqb i j) b (bs j)

abbrev pub ScreenConforms : References → Target → ScreenAnswer → Type 0
ScreenConforms bs (nobody n) a = a ≡ one (refused n)
ScreenConforms bs (every_screen x) a = (a ≡ loads 0) ×
    ((i : ℕ) → i < 8 → Conforms (step (bs i) (load x)) Answer.accepted)
ScreenConforms bs (screen i c) a = (a ≡ one (answer_in a)) × Conforms (step (bs i) c) (answer_in a)
ScreenConforms bs (turn i x) a = (a ≡ turn_answer i (answer_in a)) × Conforms (step (bs i) (advance x)) (answer_in a)

abbrev pub references_after : References → Target → ScreenAnswer → References
references_after bs (nobody n) a = bs
references_after bs (every_screen x) a = λ i. after (step (bs i) (load x)) Answer.accepted
references_after bs (screen i c) a = put bs i (after (step (bs i) c) (answer_in a))
references_after bs (turn i x) a = put bs i (after (step (bs i) (advance x)) (answer_in a))

abbrev pub ScreensAgree : References → List ScreenCall → List ScreenAnswer → Type 0
ScreensAgree bs [] [] = Unit {0}
ScreensAgree bs [] (a ∷ xs) = ⊥
ScreensAgree bs (c ∷ cs) [] = ⊥
ScreensAgree bs (c ∷ cs) (a ∷ xs) =
    ScreenConforms bs (target (running_in bs) c) a × ScreensAgree (references_after bs (target (running_in bs) c) a) cs xs

abbrev pub ScreensDemand3 : {Run : Type 0} → Run → (Run → ScreenCall → ScreenAnswer → Run → Type 0) → Type 0
ScreensDemand3 fresh Step = (cs : List ScreenCall) (xs : List ScreenAnswer) → History Step fresh cs xs
    → ScreensAgree (λ i. new_reference) cs xs
