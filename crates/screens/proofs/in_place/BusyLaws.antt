-- Whether a screen may not be loaded, as the code asks it.
--     busy-broken, busy-valid    one struct: it is no record, or it is one and its state decides
--     at-any, busy-at            an element of the run
use Prim.Native.Nat.{ℕ, zero, suc, ◌<◌}
use mathlib.Core.Path.{◌≡◌, refl, sym, ◌∙◌, ap}
use mathlib.Core.Bool.{Bool, true, false, not, ◌||◌}
use mathlib.Core.List.{List, [], ◌∷◌}
use native.Mathlib.Omega.{arith}
use lib.ListN.{length, get_or}
use borrow.Author.Tests.{not-true, not-false}
use Rattle.model.specs.Calls.{is_running}
use Rattle.session.specs.declared.state.Session.{Session}
use Rattle.session.specs.Records.{phase_of, valid}
use Rattle.screens.specs.in_place.OnStructs.{at, is_busy, busy}

pub busy-broken : (s : Session) (r : Bool) → r ≡ valid s → not r ≡ true → true ≡ is_busy s
busy-broken s r e h =
    sym (ap (λ (b : Bool). not b || is_running (phase_of s.head.phase)) (sym e ∙ not-true r h))

pub busy-valid : (s : Session) (r q : Bool) → r ≡ valid s → not r ≡ false → q ≡ is_running (phase_of s.head.phase)
    → q ≡ is_busy s
busy-valid s r q e h w =
    w ∙ sym (ap (λ (b : Bool). not b || is_running (phase_of s.head.phase)) (sym e ∙ not-false r h))

-- an element of the run, with any default for an index out of range
pub at-any : (ss : List Session) (i : ℕ) (d : Session) → i < length ss → get_or ss i d ≡ at ss i
at-any [] i d h = absurd (let z : i < 0 = h in omega arith)
at-any (s ∷ ss) zero d h = refl
at-any (s ∷ ss) (suc i) d h = at-any ss i d (let z : suc i < suc (length ss) = h in omega arith)

pub busy-at : (ss : List Session) (i : ℕ) (d : Session) → length ss ≡ 8 → i < 8 → busy ss i ≡ is_busy (get_or ss i d)
busy-at ss i d l h = ap is_busy (sym (at-any ss i d (omega arith)))
