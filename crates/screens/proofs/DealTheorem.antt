-- "While plan, rules and tables are as Load left them" every deal with a screen running is accepted.
--     kept_target   calls on what the Load left keep all eight reference models so (LentLaws)
--     deal_taken    so a deal that is handed a number up to 7 while a screen runs is accepted
use Prim.Native.Nat.{ℕ, zero, suc, ◌<◌}
use mathlib.Core.Path.{◌≡◌, refl, sym, ap, ◌∙◌, subst}
use mathlib.Core.Bool.{Bool, true, false, cond}
use mathlib.Core.List.{List, [], ◌∷◌}
use mathlib.Core.Option.{Option, none, some}
use native.Mathlib.Omega.{arith}
use lib.Dec.{ltb, eqb}
use lib.ListN.{length}
use Rattle.list_laws.proofs.BoolLaws.{true-false}
use Rattle.formats.specs.Checks.{first_no}
use Rattle.formats.specs.Inputs.{Inputs, sizes_in}
use Rattle.model.specs.Calls.{Call, load, start, advance, cancel, read, Answer, is_running}
use Rattle.model.specs.History.{History, done, call}
use Rattle.model.specs.Model.{Record, idle, fresh_record, loaded_record}
use Rattle.reference.specs.Reference.{Reference, new_reference, step}
use Rattle.reference.specs.Demand3.{after}
use Rattle.reference.proofs.Theorems.{model-demand-3}
use Rattle.screens.specs.ScreenCalls.{ScreenCall, load_all, start_on, cancel_on, read_on, deal, ScreenAnswer}
use Rattle.screens.specs.ScreenCalls.{answer_in, refuses}
use Rattle.screens.specs.ScreenCalls.{Running, nobody_runs, next_running_in, next_running, any_runs, Target, nobody}
use Rattle.screens.specs.ScreenCalls.{screen}
use Rattle.screens.specs.ScreenCalls.{load_all_checks, load_target, deal_target, numbered, target}
use Rattle.screens.specs.EightRecords.{runs, DoesAll, eight_fresh}
use Rattle.screens.specs.Projection.{followed}
use Rattle.screens.specs.EightReferences.{References, running_in, put, ScreenConforms, references_after}
use Rattle.screens.specs.Statements.{AsLeftIn, AsLeft, Taken, AllTaken, DealTaken}
use Rattle.screens.proofs.RecordLaws.{load-accepted}
use Rattle.screens.proofs.TargetLaws.{Rightly, rightly, SameRunning, any_same, any-which, next-runs}
use Rattle.screens.proofs.EightLaws.{does-eight, does-follows}
use Rattle.screens.proofs.ReferencesTheorem.{Tied, TiedAll, tied-same, tied-next, tied-step}
use Rattle.screens.proofs.Steps.{steps, First, next-first}
use Rattle.screens.proofs.TurnsTheorem.{to-turn}
use Rattle.screens.proofs.SinceLoad.{eight_loaded, Passes, loaded_at, loaded-idle, since-load}
use Rattle.screens.proofs.LentLaws.{Kept, kept-load, kept-start, kept-advance, kept-cancel, kept_read}
use Rattle.screens.proofs.LentLaws.{advance-taken}

module _ (x : Inputs) where
  abbrev KeptAll : References → Type 0
  KeptAll bs = (i : ℕ) → i < 8 → Kept x (bs i)

  module _ (bs : References) (k : KeptAll bs) where
    put-kept : (j : ℕ) (b : Reference) → Kept x b → KeptAll (put bs j b)
    put-kept j b h i l = go (eqb j i)
      where
        go : (t : Bool) → Kept x (cond t b (bs i))
        go true = h
        go false = k i l

    -- a call on screen m
    screen-kept : (m : ℕ) (c : Call) (a : ScreenAnswer) → (m < 8 → Kept x (after (step (bs m) c) (answer_in a)))
        → Rightly (running_in bs) (numbered m (screen m c)) → KeptAll (references_after bs (numbered m (screen m c)) a)
    unfolding numbered
    screen-kept m c a f = go (ltb m 8)
      where
        go : (t : Bool) → Rightly (running_in bs) (cond t (screen m c) (nobody 25))
            → KeptAll (references_after bs (cond t (screen m c) (nobody 25)) a)
        go true r = put-kept m (after (step (bs m) c) (answer_in a)) (f r)
        go false r = k

    load_kept : (y : Inputs) (a : ScreenAnswer) (n : ℕ) → refuses a ≡ true → ScreenConforms bs (load_target n y) a
        → KeptAll (references_after bs (load_target n y) a)
    unfolding load_target answer_in
    load_kept y a zero e h = absurd (true-false (sym e ∙ ap refuses h.0))
    load_kept y a (suc n) e h = k

    turn-kept : (y : Inputs) (a : ScreenAnswer) (j : ℕ)
        → ((s : ℕ) → s < 8 → Kept x (after (step (bs s) (advance y)) (answer_in a)))
        → (o : Option ℕ) (t : Bool) → Rightly (running_in bs) (cond t (deal_target o y) (nobody 25))
        → KeptAll (references_after bs (cond t (deal_target o y) (nobody 25)) a)
    unfolding deal_target
    turn-kept y a j f o false r = k
    turn-kept y a j f none true r = k
    turn-kept y a j f (some s) true r = put-kept s (after (step (bs s) (advance y)) (answer_in a)) (f s r.0)

    kept_target : (c : ScreenCall) (a : ScreenAnswer) → AsLeftIn x c a → ScreenConforms bs (target (running_in bs) c) a
        → KeptAll (references_after bs (target (running_in bs) c) a)
    unfolding target numbered
    kept_target (load_all y) a e h = load_kept y a (first_no (load_all_checks (running_in bs) y)) e h
    kept_target (start_on m y vs ls) a e h =
        screen-kept m (start y vs ls) a (λ l. kept-start x (bs m) (k m l) (answer_in a) y vs ls e)
        (rightly (running_in bs) (start_on m y vs ls))
    kept_target (cancel_on m) a e h =
        screen-kept m cancel a (λ l. kept-cancel x (bs m) (k m l) (answer_in a)) (rightly (running_in bs) (cancel_on m))
    kept_target (read_on m) a e h =
        screen-kept m read a (λ l. kept_read x (bs m) (k m l) (answer_in a)) (rightly (running_in bs) (read_on m))
    kept_target (deal j y) a e h =
        turn-kept y a j (λ s l. kept-advance x (bs s) (k s l) (answer_in a) y e) (next_running (running_in bs) j) (ltb j 8)
        (rightly (running_in bs) (deal j y))

    -- a deal while a screen runs
    taken : Passes x → (c : ScreenCall) (a : ScreenAnswer) → AsLeftIn x c a
        → ScreenConforms bs (target (running_in bs) c) a
        → Taken (running_in bs) c a
    taken p (load_all y) a e h = tt
    taken p (start_on m y vs ls) a e h = tt
    taken p (cancel_on m) a e h = tt
    taken p (read_on m) a e h = tt
    taken p (deal j y) a e h = λ l r.
        let w = any-which 8 (running_in bs) r in
        let S = steps j w.0 l w.1 in
        let F : First j S.0 (next_running_in 8 (running_in bs) j) = next-first 8 (running_in bs) j w.0 S.0 S.1
        S.1.few w.2 in
        let R = next-runs 8 (running_in bs) j F.screen l F.found in
        let c = subst (λ (t : Target). ScreenConforms bs t a) (to-turn (running_in bs) j y l F.screen F.found) h in
        advance-taken x (bs F.screen) (k F.screen R.0) (answer_in a) y e p R.1 c.1

  -- who runs may be any test that agrees on the eight
  same_taken : (run run' : Running) → any_runs 8 run ≡ any_runs 8 run' → (c : ScreenCall) (a : ScreenAnswer)
      → Taken run' c a → Taken run c a
  same_taken run run' e (load_all y) a h = tt
  same_taken run run' e (start_on m y vs ls) a h = tt
  same_taken run run' e (cancel_on m) a h = tt
  same_taken run run' e (read_on m) a h = tt
  same_taken run run' e (deal j y) a h = λ l r. h l (sym e ∙ r)

  taken-from : Passes x → (rs : List Record) (bs : References) (run : Running) → length rs ≡ 8 → TiedAll rs bs
      → SameRunning run (runs rs)
      → KeptAll bs → (cs : List ScreenCall) (xs : List ScreenAnswer) → History DoesAll rs cs xs → AsLeft x cs xs
      → AllTaken run cs xs
  taken-from p rs bs run long t same k [] [] done l = tt
  taken-from p rs bs run long t same k [] (a ∷ xs) x9 l = elim x9 [ ]
  taken-from p rs bs run long t same k (c ∷ cs) [] x9 l = elim x9 [ ]
  taken-from p rs bs run long t same k (c ∷ cs) (a ∷ xs) (call {r' = rs'} d h) l =
      let n = tied-step rs rs' bs c a long t d in
      let agree : SameRunning run (running_in bs) = λ i hi. same i hi ∙ sym (tied-same rs bs t i hi) in (
        same_taken run (running_in bs) (any_same run (running_in bs) agree 8 (omega arith)) c a
            (taken bs k p c a l.0 n.0),
        taken-from p rs' (references_after bs (target (running_in bs) c) a) (followed run c a)
            (does-eight rs rs' c a long d) n.1
            (does-follows rs rs' c a long d run same) (kept_target bs k c a l.0 n.0) cs xs h l.1,
      )

-- ---- from the Load on

unfoldable loaded_reference : Inputs → Reference
loaded_reference x = after (step new_reference (load x)) Answer.accepted

fresh-rests : is_running fresh_record.phase ≡ false
unfolding fresh_record idle is_running
fresh-rests = refl

loaded-tied : (x : Inputs) → Passes x → TiedAll (eight_loaded (sizes_in x)) (λ i. loaded_reference x)
unfolding loaded_reference
loaded-tied x p i h =
    subst (λ (r : Record). Tied r (after (step new_reference (load x)) Answer.accepted))
    (sym (loaded_at (sizes_in x) i h))
    (tied-next fresh_record (loaded_record (sizes_in x)) new_reference (load x) Answer.accepted model-demand-3
    (load-accepted fresh_record x fresh-rests p)).1

loaded-kept : (x : Inputs) → Passes x → Kept x (loaded_reference x)
unfolding loaded_reference
loaded-kept x p =
    kept-load x new_reference (tied-next fresh_record (loaded_record (sizes_in x)) new_reference
    (load x) Answer.accepted model-demand-3
    (load-accepted fresh_record x fresh-rests p)).0

pub deal_taken : DealTaken eight_fresh DoesAll
deal_taken x before cs told xs k e h l =
    let S = since-load x before cs told xs k e h in
    taken-from x S.passes (eight_loaded (sizes_in x)) (λ i. loaded_reference x) nobody_runs refl
    (loaded-tied x S.passes)
    (loaded-idle (sizes_in x)) (λ i hi. loaded-kept x S.passes) cs xs S.history l
