-- The eight states that next_running is handed are those of the structs, whatever is read past the run's end.
--     found-phases    what is found by the eight states is what is found on the structs
use Prim.Native.Nat.{ℕ, zero, suc, ◌<◌}
use mathlib.Core.Path.{◌≡◌, sym, ◌∙◌, ap}
use mathlib.Core.List.{List, [], ◌∷◌}
use native.Mathlib.Omega.{arith}
use lib.ListN.{length, get_or}
use Rattle.model.specs.Calls.{is_running}
use Rattle.screens.specs.ScreenCalls.{or_eight, found}
use Rattle.screens.proofs.TargetLaws.{next-same}
use Rattle.screens.proofs.FoundLaws.{found-next}
use Rattle.session.specs.declared.state.Phase.{Phase}
use Rattle.session.specs.declared.state.Phase.TheVariants.{Empty}
use Rattle.session.specs.declared.state.Session.{Session}
use Rattle.session.specs.Records.{phase_of}
use Rattle.screens.specs.in_place.OnStructs.{at, runs, runs_in}
use Rattle.screens.proofs.in_place.BusyLaws.{at-any}

abbrev pub phases : Session → List Session → List Phase
phases u ss =
    (get_or ss 0 u).head.phase ∷ (get_or ss 1 u).head.phase ∷ (get_or ss 2 u).head.phase ∷ (get_or ss 3 u).head.phase
    ∷ (get_or ss 4 u).head.phase ∷ (get_or ss 5 u).head.phase ∷ (get_or ss 6 u).head.phase
    ∷ (get_or ss 7 u).head.phase ∷ []

phase-at : (ss : List Session) (i : ℕ) (u : Session) → length ss ≡ 8 → i < 8
    → (get_or ss i u).head.phase ≡ (at ss i).head.phase
phase-at ss i u l h = ap (λ (s : Session). s.head.phase) (at-any ss i u (omega arith))

phases-at : (ss : List Session) (u : Session) → length ss ≡ 8 → (i : ℕ) → i < 8
    → get_or (phases u ss) i Empty ≡ (at ss i).head.phase
phases-at ss u l zero h = phase-at ss 0 u l h
phases-at ss u l (suc zero) h = phase-at ss 1 u l h
phases-at ss u l (suc (suc zero)) h = phase-at ss 2 u l h
phases-at ss u l (suc (suc (suc zero))) h = phase-at ss 3 u l h
phases-at ss u l (suc (suc (suc (suc zero)))) h = phase-at ss 4 u l h
phases-at ss u l (suc (suc (suc (suc (suc zero))))) h = phase-at ss 5 u l h
phases-at ss u l (suc (suc (suc (suc (suc (suc zero)))))) h = phase-at ss 6 u l h
phases-at ss u l (suc (suc (suc (suc (suc (suc (suc zero))))))) h = phase-at ss 7 u l h
phases-at ss u l (suc (suc (suc (suc (suc (suc (suc (suc i)))))))) h =
    absurd (let z : suc (suc (suc (suc (suc (suc (suc (suc i))))))) < 8 = h in omega arith)

pub found-phases : (ss : List Session) (u : Session) (k : ℕ) → length ss ≡ 8 → k < 8
    → found (runs_in (phases u ss)) k ≡ found (runs ss) k
found-phases ss u k l h =
    found-next (runs_in (phases u ss)) k h
    ∙ ap or_eight (next-same (runs_in (phases u ss)) (runs ss)
    (λ i m. ap (λ (p : Phase). is_running (phase_of p)) (phases-at ss u l i m)) 8 k h)
    ∙ sym (found-next (runs ss) k h)
