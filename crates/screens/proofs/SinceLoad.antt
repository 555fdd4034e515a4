-- A history cut at an accepted Load: what follows it starts from eight records as after a first Load.
--     since-load             so it does, and the inputs of that Load passed 2 to 11
--     isolation_since_load   "Between two accepted Loads, for the same own calls and turns with the same lent bytes in
--                            the same order, what a screen reads, and each of its refusals except Load's, must
--                            be the same"
use Prim.Native.Nat.{ℕ, zero, suc, ◌<◌}
use mathlib.Core.Path.{◌≡◌, refl, sym, ap, ◌∙◌, subst}
use mathlib.Core.Bool.{Bool, true, false}
use mathlib.Core.List.{List, [], ◌∷◌, ◌++◌}
use native.Mathlib.Omega.{arith}
use lib.ListN.{length, replicate, get_or-replicate}
use Rattle.list_laws.proofs.BoolLaws.{true-false}
use Rattle.formats.specs.Checks.{first_no, build_checks}
use Rattle.formats.specs.Inputs.{Inputs, Sizes, sizes_in}
use Rattle.model.specs.Calls.{is_running}
use Rattle.model.specs.History.{History, call}
use Rattle.model.specs.Model.{Record, idle, fresh_record, loaded_record}
use Rattle.screens.specs.ScreenCalls.{ScreenCall, load_all, ScreenAnswer, one, loads, deals, nobody_runs}
use Rattle.screens.specs.ScreenCalls.{load_all_checks, load_target}
use Rattle.screens.specs.ScreenCalls.{target}
use Rattle.screens.specs.EightRecords.{at, runs, act_on, act_all, ActedAll, DoesAll, eight_fresh}
use Rattle.screens.specs.Statements.{IsolationSinceLoad}
use Rattle.screens.proofs.TargetLaws.{Rightly, rightly, SameRunning}
use Rattle.screens.proofs.EightLaws.{on-target, does-eight}
use Rattle.screens.proofs.LoadTheorem.{load-clears}
use Rattle.screens.proofs.ProjectionTheorem.{isolation-from}

abbrev pub eight_loaded : Sizes → List Record
eight_loaded z = replicate 8 (loaded_record z)

abbrev pub Passes : Inputs → Type 0
Passes x = first_no (build_checks x.plan x.rules (length x.node_table) (length x.state_table)) ≡ 0

pub loaded_at : (z : Sizes) (i : ℕ) → i < 8 → at (eight_loaded z) i ≡ loaded_record z
loaded_at z i h = get_or-replicate 8 i (loaded_record z) fresh_record h

pub loaded-idle : (z : Sizes) → SameRunning nobody_runs (runs (eight_loaded z))
unfolding idle is_running
loaded-idle z i h = sym (ap (λ (r : Record). is_running r.phase) (loaded_at z i h))

-- ---- cuts

record Reached (cs : List ScreenCall) (xs : List ScreenAnswer) : Type 0 where
  records : List Record
  eight : length records ≡ 8
  history : History DoesAll records cs xs

reached : (rs : List Record) → length rs ≡ 8 → (before cs : List ScreenCall) (told xs : List ScreenAnswer)
    → length before ≡ length told
    → History DoesAll rs (before ++ cs) (told ++ xs) → Reached cs xs
reached rs long [] cs [] xs e h = record { records = rs; eight = long; history = h }
reached rs long [] cs (a ∷ told) xs e h = absurd (omega arith)
reached rs long (c ∷ before) cs [] xs e h = absurd (omega arith)
reached rs long (c ∷ before) cs (a ∷ told) xs e (call {r' = rs'} d h) =
    reached rs' (does-eight rs rs' c a long d) before cs told xs (omega arith) h

is_loads : ScreenAnswer → Bool
is_loads (one a) = false
is_loads (loads k) = true
is_loads (deals k a) = false

load-passes : (rs : List Record) (x : Inputs) (k : ℕ) → length rs ≡ 8 → (act_all rs (load_all x)).answer ≡ loads k
    → Passes x
unfolding act_on target load_target is_loads
load-passes rs x k long e =
    go (first_no (load_all_checks (runs rs) x)) (rightly (runs rs) (load_all x))
    (sym (ap (λ (t : ActedAll). t.answer) (on-target rs (load_all x) long)) ∙ e)
  where
    go : (n : ℕ) → Rightly (runs rs) (load_target n x) → (act_on rs (load_target n x)).answer ≡ loads k → Passes x
    go zero r q = r.1
    go (suc n) r q = absurd (true-false (sym (ap is_loads q)))

pub record SinceLoad (x : Inputs) (cs : List ScreenCall) (xs : List ScreenAnswer) : Type 0 where
  pub passes : Passes x
  pub history : History DoesAll (eight_loaded (sizes_in x)) cs xs

first_load : (rs : List Record) → length rs ≡ 8 → (x : Inputs) (k : ℕ) (cs : List ScreenCall) (xs : List ScreenAnswer)
    → History DoesAll rs (load_all x ∷ cs) (loads k ∷ xs) → SinceLoad x cs xs
first_load rs long x k cs xs (call {r' = rs'} d h) = record {
  passes = load-passes rs x k long (sym d.tells);
  history = subst (λ (l : List Record). History DoesAll l cs xs) (d.leaves ∙ (load-clears rs x k (sym d.tells)).1) h;
}

pub since-load : (x : Inputs) (before cs : List ScreenCall) (told xs : List ScreenAnswer) (k : ℕ)
    → length before ≡ length told
    → History DoesAll eight_fresh (before ++ (load_all x ∷ cs)) (told ++ (loads k ∷ xs)) → SinceLoad x cs xs
since-load x before cs told xs k e h =
    let R = reached eight_fresh refl before (load_all x ∷ cs) told (loads k ∷ xs) e h in
    first_load R.records R.eight x k cs xs R.history

-- ---- isolation

pub isolation_since_load : IsolationSinceLoad eight_fresh DoesAll
isolation_since_load i hi x y z before cs before' ds told xs told' ys k l m n h j s =
    isolation-from i hi (eight_loaded (sizes_in x)) (eight_loaded (sizes_in y)) refl refl
    (ap (λ (w : Sizes). at (eight_loaded w) i) z) nobody_runs nobody_runs (loaded-idle (sizes_in x))
    (loaded-idle (sizes_in y)) cs ds xs ys
    (since-load x before cs told xs k m h).history (since-load y before' ds told' ys l n j).history s
