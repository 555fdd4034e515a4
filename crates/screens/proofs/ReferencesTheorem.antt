-- One statement about every list of screen calls: eight reference models, each beside its screen's record.
--     Tied r b           every history from record r agrees with the reference model b
--     tied-next          a call on both: the answer conforms, and what is left is tied again
--     tied-runs          they agree on whether a question runs: a Cancel shows it
--     screens-demand-3   the statement
-- Tied asks nothing of a record but its answers, so demand 3 of a single session is all that is used here.
use Prim.Native.Nat.{ℕ, ◌<◌}
use mathlib.Core.Path.{◌≡◌, refl, sym, ap, subst}
use mathlib.Core.Bool.{Bool, true, false, cond}
use mathlib.Core.List.{List, [], ◌∷◌}
use mathlib.Core.Option.{none, some}
use native.Mathlib.Decide.{ℕ_discrete}
use lib.Dec.{eqb}
use lib.ListN.{length}
use borrow.Author.Tests.{eq-eqb, ne_eqb}
use Rattle.list_laws.proofs.BoolLaws.{true-false}
use Rattle.formats.specs.Checks.{check, first_no}
use Rattle.model.specs.Calls.{Call, load, advance, cancel, Answer, is_refused, is_running}
use Rattle.model.specs.Refusals.{refusal}
use Rattle.model.specs.History.{History, done, call}
use Rattle.model.specs.Model.{Record, proceeds, unless, act, Does}
use Rattle.reference.specs.Reference.{Reference, new_reference, phase, proceed, decided, step}
use Rattle.reference.specs.Demand3.{Conforms, after, Agrees}
use Rattle.reference.proofs.Theorems.{model-demand-3}
use Rattle.screens.specs.ScreenCalls.{ScreenCall, ScreenAnswer, answer_in, Target, nobody, every_screen}
use Rattle.screens.specs.ScreenCalls.{screen, turn, target}
use Rattle.screens.specs.ScreenCalls.{turn_answer}
use Rattle.screens.specs.EightRecords.{at, runs, act_on, DoesAll, eight_fresh}
use Rattle.screens.specs.Projection.{fed, fed_by}
use Rattle.screens.specs.EightReferences.{References, running_in, put, ScreenConforms, references_after}
use Rattle.screens.specs.EightReferences.{ScreensAgree, ScreensDemand3}
use Rattle.screens.proofs.RecordLaws.{load-accepted, acts}
use Rattle.screens.proofs.TargetLaws.{Rightly, rightly, SameRunning, target-same}
use Rattle.screens.proofs.EightLaws.{on-target, answer-turn, Moved, does-eight, does-moved}
use Rattle.screens.proofs.ProjectionTheorem.{fresh_at}

-- ---- a record and a reference model

abbrev pub Tied : Record → Reference → Type 0
Tied r b = (cs : List Call) (xs : List Answer) → History Does r cs xs → Agrees b cs xs

pub tied-next : (r r' : Record) (b : Reference) (c : Call) (a : Answer) → Tied r b → Does r c a r'
    → Conforms (step b c) a × Tied r' (after (step b c) a)
tied-next r r' b c a t d = ((t (c ∷ []) (a ∷ []) (call d done)).0, λ cs xs h. (t (c ∷ cs) (a ∷ xs) (call d h)).1)

-- a Cancel is accepted exactly while a question runs
pub tied-runs : (r : Record) (b : Reference) → Tied r b → is_running r.phase ≡ is_running (phase b.state)
unfolding act unless proceeds step decided proceed refusal first_no
tied-runs r b t =
    go (is_running r.phase) (is_running (phase b.state))
    (tied-next r (act r cancel).record' b cancel (act r cancel).answer t (acts r cancel)).0
  where
    go : (p q : Bool) → Conforms (decided (first_no (check 1 q ∷ [])) b cancel)
        (unless (first_no (check 1 p ∷ [])) r cancel).answer → p ≡ q
    go true true e = refl
    go true false e = absurd (true-false (sym (ap is_refused e)))
    go false true e = absurd (true-false (ap is_refused e))
    go false false e = refl

-- ---- eight of each

abbrev pub TiedAll : List Record → References → Type 0
TiedAll rs bs = (i : ℕ) → i < 8 → Tied (at rs i) (bs i)

pub tied-same : (rs : List Record) (bs : References) → TiedAll rs bs → SameRunning (running_in bs) (runs rs)
tied-same rs bs t i h = sym (tied-runs (at rs i) (bs i) (t i h))

-- what a screen is fed keeps it tied
module _ (rs rs' : List Record) (bs : References) (t : TiedAll rs bs) (i : ℕ) (hi : i < 8) where
  own_tied : (j : ℕ) (c : Call) (a : Answer) → Moved (cond (eqb i j) (some (fed c a)) none) (at rs i) (at rs' i)
      → Tied (at rs' i) (put bs j (after (step (bs j) c) a) i)
  own_tied j c a m = elim (ℕ_discrete i j) [
    | yes q ↦ (let d : Does (at rs i) c a (at rs' i) =
        subst (λ (b : Bool). Moved (cond b (some (fed c a)) none) (at rs i) (at rs' i)) (eq-eqb i j q) m in
        rw (eq-eqb j i (sym q)) (subst (λ (k : ℕ). Tied (at rs' i) (after (step (bs k) c) a)) q
        (tied-next (at rs i) (at rs' i) (bs i) c a (t i hi) d).1))
    | no q ↦ (let e : at rs' i ≡ at rs i =
        subst (λ (b : Bool). Moved (cond b (some (fed c a)) none) (at rs i) (at rs' i)) (ne_eqb i j q) m in
        rw (ne_eqb j i (λ e. q (sym e))) (subst (λ (r : Record). Tied r (bs i)) (sym e) (t i hi)))
  ]

  fed-tied : (u : Target) (a : ScreenAnswer) → ScreenConforms bs u a
      → Moved (fed_by i u (answer_in a)) (at rs i) (at rs' i)
      → Tied (at rs' i) (references_after bs u a i)
  unfolding fed_by answer_in
  fed-tied (nobody n) a f e = subst (λ (r : Record). Tied r (bs i)) (sym e) (t i hi)
  fed-tied (every_screen x) a f d =
      (tied-next (at rs i) (at rs' i) (bs i) (load x) Answer.accepted (t i hi)
      (subst (λ (y : ScreenAnswer). Does (at rs i) (load x) (answer_in y) (at rs' i)) f.0 d)).1
  fed-tied (screen j c) a f m = own_tied j c (answer_in a) m
  fed-tied (turn j x) a f m = own_tied j (advance x) (answer_in a) m

-- the answers of the eight records conform
module _ (rs : List Record) (bs : References) (t : TiedAll rs bs) where
  acts-conforms : (j : ℕ) (c : Call) → j < 8 → Conforms (step (bs j) c) (act (at rs j) c).answer
  acts-conforms j c h = (tied-next (at rs j) _ (bs j) c (act (at rs j) c).answer (t j h) (acts (at rs j) c)).0

  target-conforms : (u : Target) → Rightly (runs rs) u → ScreenConforms bs u (act_on rs u).answer
  unfolding act_on answer_in
  target-conforms (nobody n) h = refl
  target-conforms (every_screen x) h = (
    refl,
    λ i l. (tied-next (at rs i) _ (bs i) (load x) Answer.accepted (t i l)
        (load-accepted (at rs i) x (h.0 i l) h.1)).0,
  )
  target-conforms (screen j c) h = (refl, acts-conforms j c h)
  target-conforms (turn j x) h =
      let a : Answer = (act (at rs j) (advance x)).answer in
      let e : answer_in (turn_answer j a) ≡ a = answer-turn j a in (
        ap (turn_answer j) (sym e),
        subst (λ (y : Answer). Conforms (step (bs j) (advance x)) y) (sym e)
            (acts-conforms j (advance x) h.0),
      )

  does-conforms : length rs ≡ 8 → (c : ScreenCall) (a : ScreenAnswer) (rs' : List Record) → DoesAll rs c a rs'
      → ScreenConforms bs (target (running_in bs) c) a
  does-conforms long c a rs' d =
      rw (target-same (running_in bs) (runs rs) (tied-same rs bs t) c, d.tells, on-target rs c long)
      (target-conforms (target (runs rs) c) (rightly (runs rs) c))

-- one call
pub tied-step : (rs rs' : List Record) (bs : References) (c : ScreenCall) (a : ScreenAnswer) → length rs ≡ 8
    → TiedAll rs bs
    → DoesAll rs c a rs'
    → ScreenConforms bs (target (running_in bs) c) a × TiedAll rs' (references_after bs (target (running_in bs) c) a)
tied-step rs rs' bs c a long t d =
    let f = does-conforms rs bs t long c a rs' d in (
      f,
      λ i l. fed-tied rs rs' bs t i l (target (running_in bs) c) a f
          (does-moved rs rs' c a long d (running_in bs) (tied-same rs bs t) i l),
    )

agrees_from : (rs : List Record) (bs : References) → length rs ≡ 8 → TiedAll rs bs
    → (cs : List ScreenCall) (xs : List ScreenAnswer) → History DoesAll rs cs xs → ScreensAgree bs cs xs
agrees_from rs bs long t [] [] done = tt
agrees_from rs bs long t [] (a ∷ xs) x4 = elim x4 [ ]
agrees_from rs bs long t (c ∷ cs) [] x5 = elim x5 [ ]
agrees_from rs bs long t (c ∷ cs) (a ∷ xs) (call {r' = rs'} d h) =
    let n = tied-step rs rs' bs c a long t d in (
      n.0,
      agrees_from rs' (references_after bs (target (running_in bs) c) a) (does-eight rs rs' c a long d)
          n.1 cs xs h,
    )

pub fresh-tied : TiedAll eight_fresh (λ i. new_reference)
fresh-tied i h = subst (λ (r : Record). Tied r new_reference) (sym (fresh_at i h)) model-demand-3

pub screens-demand-3 : ScreensDemand3 eight_fresh DoesAll
screens-demand-3 cs xs h = agrees_from eight_fresh (λ i. new_reference) refl fresh-tied cs xs h
