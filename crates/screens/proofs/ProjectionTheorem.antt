-- Projection: what a screen is fed is a history of a single session; so each screen has its reference model, and no
-- other screen's calls change its answers.
--     screen-alone         projection
--     screens-references   with demand 3 of a single session, for each screen
--     isolation-from       of two runs of eight records that agree on one screen
--     isolation            from fresh records
use Prim.Native.Nat.{ℕ, ◌<◌}
use mathlib.Core.Path.{◌≡◌, refl, sym, ap, ap₂, ◌∙◌, subst}
use mathlib.Core.List.{List, [], ◌∷◌}
use mathlib.Core.Option.{Option, none, some}
use lib.ListN.{length, get_or-replicate}
use Rattle.model.specs.Calls.{Call, Answer, is_running}
use Rattle.model.specs.History.{History, done, call}
use Rattle.model.specs.Model.{Record, idle, fresh_record, Does}
use Rattle.reference.proofs.Theorems.{model-demand-3}
use Rattle.screens.specs.ScreenCalls.{ScreenCall, ScreenAnswer, Running, nobody_runs}
use Rattle.screens.specs.EightRecords.{at, runs, DoesAll, eight_fresh}
use Rattle.screens.specs.Projection.{Fed, fed_to, followed, before, project, calls_of, answers_of, own_calls}
use Rattle.screens.specs.Projection.{own_answers}
use Rattle.screens.specs.Statements.{ScreenAlone, ScreensReferences, Isolation}
use Rattle.screens.proofs.TargetLaws.{SameRunning}
use Rattle.screens.proofs.EightLaws.{Moved, does-eight, does-moved, does-follows}

-- who runs may be any test that agrees on the eight
pub alone : (i : ℕ) → i < 8 → (rs : List Record) → length rs ≡ 8 → (run : Running) → SameRunning run (runs rs)
    → (cs : List ScreenCall) (xs : List ScreenAnswer) → History DoesAll rs cs xs
    → History Does (at rs i) (own_calls i run cs xs) (own_answers i run cs xs)
unfolding project
alone i hi rs long run same [] [] done = done
alone i hi rs long run same [] (a ∷ xs) x4 = elim x4 [ ]
alone i hi rs long run same (c ∷ cs) [] x5 = elim x5 [ ]
alone i hi rs long run same (c ∷ cs) (a ∷ xs) (call {r' = rs'} d h) =
    go (fed_to run i c a) (does-moved rs rs' c a long d run same i hi)
    (alone i hi rs' (does-eight rs rs' c a long d) (followed run c a) (does-follows rs rs' c a long d run same) cs xs h)
  where
    go : (o : Option Fed) → Moved o (at rs i) (at rs' i)
        → History Does (at rs' i) (own_calls i (followed run c a) cs xs) (own_answers i (followed run c a) cs xs)
        → History Does (at rs i) (calls_of (before o (project i (followed run c a) cs xs)))
        (answers_of (before o (project i (followed run c a) cs xs)))
    go none e k =
        subst (λ (r : Record). History Does r (own_calls i (followed run c a) cs xs)
        (own_answers i (followed run c a) cs xs)) e k
    go (some f) e k = call e k

pub screen-alone : ScreenAlone
screen-alone i hi rs long cs xs h = alone i hi rs long (runs rs) (λ j l. refl) cs xs h

-- ---- from fresh records

pub fresh_at : (i : ℕ) → i < 8 → at eight_fresh i ≡ fresh_record
fresh_at i h = get_or-replicate 8 i fresh_record fresh_record h

pub fresh-idle : SameRunning nobody_runs (runs eight_fresh)
unfolding fresh_record idle is_running
fresh-idle i h = sym (ap (λ (r : Record). is_running r.phase) (fresh_at i h))

pub fresh-alone : (i : ℕ) → i < 8 → (cs : List ScreenCall) (xs : List ScreenAnswer) → History DoesAll eight_fresh cs xs
    → History Does fresh_record (own_calls i nobody_runs cs xs) (own_answers i nobody_runs cs xs)
fresh-alone i hi cs xs h =
    subst (λ (r : Record). History Does r (own_calls i nobody_runs cs xs) (own_answers i nobody_runs cs xs)) (fresh_at i hi)
    (alone i hi eight_fresh refl nobody_runs fresh-idle cs xs h)

pub screens-references : ScreensReferences eight_fresh DoesAll
screens-references i hi cs xs h =
    model-demand-3 (own_calls i nobody_runs cs xs) (own_answers i nobody_runs cs xs) (fresh-alone i hi cs xs h)

-- ---- isolation

-- a session's answers depend only on its record and its calls
pub same-answers : (r : Record) (cs : List Call) (xs ys : List Answer) → History Does r cs xs → History Does r cs ys
    → xs ≡ ys
same-answers r [] [] [] done done = refl
same-answers r [] [] (y ∷ ys) _ x7 = elim x7 [ ]
same-answers r [] (x ∷ xs) ys x6 _ = elim x6 [ ]
same-answers r (c ∷ cs) [] ys x5 _ = elim x5 [ ]
same-answers r (c ∷ cs) (x ∷ xs) [] _ x10 = elim x10 [ ]
same-answers r (c ∷ cs) (x ∷ xs) (y ∷ ys) (call {r'} d h) (call {r' = r''} e k) =
    let q : r'' ≡ r' = e.leaves ∙ sym d.leaves in
    ap₂ (λ (a : Answer) (l : List Answer). a ∷ l) (d.tells ∙ sym e.tells)
    (same-answers r' cs xs ys h (subst (λ (u : Record). History Does u cs ys) q k))

-- of two runs of records that agree on the screen alone
pub isolation-from : (i : ℕ) → i < 8 → (rs qs : List Record) → length rs ≡ 8 → length qs ≡ 8 → at rs i ≡ at qs i
    → (run run' : Running) → SameRunning run (runs rs) → SameRunning run' (runs qs)
    → (cs ds : List ScreenCall) (xs ys : List ScreenAnswer) → History DoesAll rs cs xs → History DoesAll qs ds ys
    → own_calls i run cs xs ≡ own_calls i run' ds ys → own_answers i run cs xs ≡ own_answers i run' ds ys
isolation-from i hi rs qs l m e run run' f g cs ds xs ys h k s =
    same-answers (at rs i) (own_calls i run cs xs) (own_answers i run cs xs) (own_answers i run' ds ys)
    (alone i hi rs l run f cs xs h)
    (subst (λ (l : List Call). History Does (at rs i) l (own_answers i run' ds ys)) (sym s)
    (subst (λ (r : Record). History Does r (own_calls i run' ds ys) (own_answers i run' ds ys)) (sym e)
    (alone i hi qs m run' g ds ys k)))

pub isolation : Isolation eight_fresh DoesAll
isolation i hi cs ds xs ys h k s =
    isolation-from i hi eight_fresh eight_fresh refl refl refl nobody_runs nobody_runs fresh-idle fresh-idle cs ds xs ys h
    k s
