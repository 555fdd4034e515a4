-- Document 02, S-8: eight screens on one mill; each sentence by its theorem, for a run of eight structs (`-on-structs`)
-- and for a run of eight records as bytes, as C decodes the answers (`-on-bytes`, from 8 x 983 zeros).
--     another-length-.., number-above-7-..    25 before everything else
--     deal-serves, screen-alone            of the model that both refine
--     demand-3-.., references-..           one statement about every list of screen calls; a panel book for each screen
--     screen-.., screen-finishes-..        a screen's answers are a single session's; a question to its end
--     isolation-.., since-load-..          what the others start or cancel makes no difference
--     named-alone-on-bytes, deal-alone-on-bytes    on any bytes: a screen's answers depend on its own record alone
--     own-call-.., others-stay-..          a call is its screen's own call, and every other record is as it was
--     served-soon-.., turns-apart-.., between-turns-.., deal-taken-..    turns
--     load-waits-.., load-clears-.., load-empties-..    Load
--     tables-after-load-..                 what a Load leaves in the tables
--     refused-..                           a refused call alters nothing
--     start-keeps, read_keeps, deal-finished-keeps, deal-next-keeps, load-next-keeps    nor any output parameter
-- Where each word of a statement is defined: screens/specs; the two forms: screens/specs/in_place, capi_screens/specs;
-- `ScreenHistory`, `ScreenFinishes`, `Beyond`: specs/Histories; the tables after a Load: specs/Lent.
use Prim.Native.Nat.{ℕ, ◌<◌}
use mathlib.Core.Path.{◌≡◌}
use mathlib.Core.Bool.{true, false}
use mathlib.Core.List.{List}
use mathlib.Core.Option.{some}
use lib.ListN.{length, replicate}
use Rattle.list_laws.specs.Rows.{rows}
use Rattle.formats.specs.Inputs.{Inputs, sizes_in}
use Rattle.model.specs.Model.{loaded_record}
use Rattle.model.specs.Calls.{refused}
use Rattle.screens.specs.ScreenCalls.{ScreenCall, load_all, start_on, cancel_on, read_on, deal, ScreenAnswer, one, loads}
use Rattle.screens.specs.ScreenCalls.{answer_in, refuses, next_running, Another}
use Rattle.screens.specs.EightReferences.{ScreensDemand3}
use Rattle.screens.specs.Statements as say
use Rattle.screens.proofs.Theorems as of-records
use Rattle.session.specs.declared.state.Session.{Session}
use Rattle.session.specs.Records.{session_of}
use Rattle.records.specs.Layout.{encoded}
use Rattle.screens.specs.in_place.OnStructs.{ScreenDone, OwnDone}
use Rattle.screens.specs.in_place.OnStructs as on
use Rattle.screens.specs.in_place.LoadAll.{LoadAllDone}
use Rattle.screens.specs.in_place.ScreensInPlace.{ScreenInPlace, eight_sessions}
use Rattle.screens.proofs.in_place.RunTheorem.{structs-hold}
use Rattle.capi_screens.specs.RunLayout.{run_length, record_at, runs, busy}
use Rattle.capi_session.specs.SessionExported.{Places}
use Rattle.capi_screens.specs.ScreensExported.{answer_all_for, target_in, OwnExported, ScreensCallExported}
use Rattle.capi_screens.specs.ScreensExported.{ScreensLoadExported, ScreensStartExported, ScreensDealExported}
use Rattle.capi_screens.specs.ScreensExported.{ScreensReadExported}
use Rattle.capi_screens.specs.DecodedScreens.{ScreensExports, fresh_run}
use Rattle.capi_screens.proofs.LoadClears.{load-waits, load-clears}
use Rattle.capi_screens.proofs.OwnBytes.{start-alone, cancel-alone, read-alone, deal-alone}
use Rattle.capi_screens.proofs.ScreensTheorem.{bytes-hold}
use Rattle.claims.specs.Lent.{TablesAfterLoad, TablesAfterLoadCall}
use Rattle.claims.specs.Histories.{Beyond, ScreenHistory, ScreenFinishes}
use Rattle.claims.proofs.laws.LoadTables.{tables-on-structs, tables-of-screens}
use Rattle.claims.proofs.laws.ScreenRefusals as refusal
use Rattle.claims.proofs.laws.ScreenLoads.{structs-wait, structs-clear}
use Rattle.claims.proofs.laws.ScreenHistories as history

-- ---- "A screen number above 7, the one to try first included, or a run of another length, gives 25, before everything
-- else.": for any records

another-length-on-structs : (ss ss' : List Session) (c : ScreenCall) (a : ScreenAnswer) → ScreenInPlace ss c a ss'
    → (length ss ≡ 8 → ⊥) → (a ≡ one (refused 25)) × (ss' ≡ ss)
another-length-on-structs = refusal.structs-another-length

another-length-on-bytes : (b b' : List ℕ) (c : ScreenCall) (a : ScreenAnswer) → ScreensExports b c a b'
    → (length b ≡ run_length → ⊥) → (a ≡ one (refused 25)) × (b' ≡ b)
another-length-on-bytes = refusal.another-length

number-above-7-on-structs : (ss ss' : List Session) (c : ScreenCall) (a : ScreenAnswer) → ScreenInPlace ss c a ss'
    → Beyond c → (a ≡ one (refused 25)) × (ss' ≡ ss)
number-above-7-on-structs = refusal.structs-above-7

number-above-7-on-bytes : (b b' : List ℕ) (c : ScreenCall) (a : ScreenAnswer) → ScreensExports b c a b' → Beyond c
    → (a ≡ one (refused 25)) × (b' ≡ b)
number-above-7-on-bytes = refusal.number-above-7

-- ---- "One deal gives one advance to the next running screen after the one served last, going from 7 back to 0."

deal-serves : say.DealServes
deal-serves = of-records.deal-serves

-- ---- "Each screen has a panel book of its own, fed with the accepted Loads, its own calls and its turns as advances."
-- "The screen to try first travels beside the records as a number: 0 after a Load, else one past the screen served, 0
-- past 7. A deal tells that number and what the advance tells." "A deal with no screen running gives 1."

demand-3-on-structs : ScreensDemand3 eight_sessions ScreenInPlace
demand-3-on-structs = structs-hold.demand_3

demand-3-on-bytes : ScreensDemand3 fresh_run ScreensExports
demand-3-on-bytes = bytes-hold.demand_3

references-on-structs : say.ScreensReferences eight_sessions ScreenInPlace
references-on-structs = structs-hold.references

references-on-bytes : say.ScreensReferences fresh_run ScreensExports
references-on-bytes = bytes-hold.references

-- a history of the eight, seen by one screen, is a history of a single session
screen-alone : say.ScreenAlone
screen-alone = of-records.screen-alone

-- and so it is in both forms: every statement about lists of calls (Main, Session, LastAnswer, Lists) holds of a screen's own
-- calls and turns
screen-on-structs : ScreenHistory eight_sessions ScreenInPlace
screen-on-structs = history.screen-on-structs

screen-on-bytes : ScreenHistory fresh_run ScreensExports
screen-on-bytes = history.screen-on-bytes

-- one such statement: a question of a screen that is carried to its end, with one turn for each of its parts
screen-finishes-on-structs : ScreenFinishes eight_sessions ScreenInPlace
screen-finishes-on-structs = history.screen-finishes eight_sessions ScreenInPlace history.screen-on-structs

screen-finishes-on-bytes : ScreenFinishes fresh_run ScreensExports
screen-finishes-on-bytes = history.screen-finishes fresh_run ScreensExports history.screen-on-bytes

-- ---- "Between two accepted Loads, for the same own calls and turns with the same lent bytes in the same order, what a
-- screen reads, and each of its refusals except Load's, must be the same whatever the others start or cancel."

isolation-on-structs : say.Isolation eight_sessions ScreenInPlace
isolation-on-structs = structs-hold.isolation

isolation-on-bytes : say.Isolation fresh_run ScreensExports
isolation-on-bytes = bytes-hold.isolation

since-load-on-structs : say.IsolationSinceLoad eight_sessions ScreenInPlace
since-load-on-structs = structs-hold.isolation_since_load

since-load-on-bytes : say.IsolationSinceLoad fresh_run ScreensExports
since-load-on-bytes = bytes-hold.isolation_since_load

-- on any two runs of 8 x 983 bytes, records that are none included: Start, Cancel and Read depend on the named record
-- alone, a deal on the eight states and the record that it serves
named-alone-on-bytes : (b c : List ℕ) → length b ≡ run_length → length c ≡ run_length → (i : ℕ)
    → record_at b i ≡ record_at c i
    → ((x : Inputs) (vs bs : List ℕ) → answer_all_for b (start_on i x vs bs) ≡ answer_all_for c (start_on i x vs bs))
    × ((answer_all_for b (cancel_on i) ≡ answer_all_for c (cancel_on i))
    × (answer_all_for b (read_on i) ≡ answer_all_for c (read_on i)))
named-alone-on-bytes b c l m i same =
    (start-alone b c l m i same, (cancel-alone b c l m i same, read-alone b c l m i same))

deal-alone-on-bytes : (b c : List ℕ) → length b ≡ run_length → length c ≡ run_length → (k : ℕ) (x : Inputs)
    → ((i : ℕ) → i < 8 → runs b i ≡ runs c i)
    → ((i : ℕ) → next_running (runs b) k ≡ some i → record_at b i ≡ record_at c i)
    → answer_all_for b (deal k x) ≡ answer_all_for c (deal k x)
deal-alone-on-bytes = deal-alone

-- a call has what the single session's call promises of the record whose it is, and every other record is as it was
own-call-on-structs : (ss ss' : List Session) (c : ScreenCall) (a : ScreenAnswer) → ScreenDone ss c a ss'
    → length ss ≡ 8 → OwnDone ss ss' (on.target_in ss c) (answer_in a)
own-call-on-structs ss ss' c a d = d.own

own-call-on-bytes : (b b' : List ℕ) (c : ScreenCall) (r : ℕ) → ScreensCallExported b c r b' → length b ≡ run_length
    → OwnExported b b' (target_in b c) r
own-call-on-bytes b b' c r e = e.own

others-stay-on-structs : (ss ss' : List Session) (c : ScreenCall) (a : ScreenAnswer) → ScreenDone ss c a ss'
    → length ss ≡ 8 → (j : ℕ) → Another (on.target_in ss c) j → on.at ss' j ≡ on.at ss j
others-stay-on-structs ss ss' c a d = d.others

others-stay-on-bytes : (b b' : List ℕ) (c : ScreenCall) (r : ℕ) → ScreensCallExported b c r b' → length b ≡ run_length
    → (j : ℕ) → j < 8 → Another (target_in b c) j → record_at b' j ≡ record_at b j
others-stay-on-bytes b b' c r e = e.others

-- ---- "a screen that stays running is served within eight accepted deals", for any inputs

served-soon-on-structs : say.ServedSoon eight_sessions ScreenInPlace
served-soon-on-structs = structs-hold.served_soon

served-soon-on-bytes : say.ServedSoon fresh_run ScreensExports
served-soon-on-bytes = bytes-hold.served_soon

-- ---- "and no other is served twice between two successive turns of it in one question"

turns-apart-on-structs : say.TurnsApart eight_sessions ScreenInPlace
turns-apart-on-structs = structs-hold.turns_apart

turns-apart-on-bytes : say.TurnsApart fresh_run ScreensExports
turns-apart-on-bytes = bytes-hold.turns_apart

between-turns-on-structs : say.BetweenTurns eight_sessions ScreenInPlace
between-turns-on-structs = structs-hold.between_turns

between-turns-on-bytes : say.BetweenTurns fresh_run ScreensExports
between-turns-on-bytes = bytes-hold.between_turns

-- ---- "While plan, rules and tables are as Load left them" every deal with a screen running is accepted; how Load
-- leaves them: tables-after-load-..

deal-taken-on-structs : say.DealTaken eight_sessions ScreenInPlace
deal-taken-on-structs = structs-hold.deal_taken

deal-taken-on-bytes : say.DealTaken fresh_run ScreensExports
deal-taken-on-bytes = bytes-hold.deal_taken

-- ---- "Load is refused while any screen runs and clears them all", kept answers too

load-waits-on-records : say.LoadWaits
load-waits-on-records = of-records.load-waits

load-clears-on-records : say.LoadClears
load-clears-on-records = of-records.load-clears

load-empties-on-records : say.LoadEmpties
load-empties-on-records = of-records.load-empties

-- on any run of eight structs, or of 8 x 983 bytes: a screen that runs, or is no record
load-waits-on-structs : (ss ss' : List Session) (x : Inputs) (a : ScreenAnswer) → ScreenDone ss (load_all x) a ss'
    → (i : ℕ) → length ss ≡ 8 → i < 8 → on.busy ss i ≡ true → (a ≡ one (refused 1)) × (ss' ≡ ss)
load-waits-on-structs = structs-wait

load-waits-on-bytes : (b b' : List ℕ) (x : Inputs) (r k₀ k₁ : ℕ) (node_table' state_table' : List ℕ)
    → ScreensLoadExported b x r b' node_table' state_table' k₀ k₁ → (i : ℕ) → length b ≡ run_length → i < 8
    → busy b i ≡ true → (r ≡ 1) × (b' ≡ b)
load-waits-on-bytes = load-waits

load-clears-on-structs : (ss ss' : List Session) (x : Inputs) (a : ScreenAnswer) → ScreenDone ss (load_all x) a ss'
    → refuses a ≡ false → (a ≡ loads 0) × (ss' ≡ replicate 8 (session_of (loaded_record (sizes_in x))))
load-clears-on-structs = structs-clear

load-clears-on-bytes : (b b' : List ℕ) (x : Inputs) (r k₀ k₁ : ℕ) (node_table' state_table' : List ℕ)
    → ScreensLoadExported b x r b' node_table' state_table' k₀ k₁ → r ≡ 0
    → (k₁ ≡ 0) × (b' ≡ rows 8 (λ i. encoded (session_of (loaded_record (sizes_in x)))))
load-clears-on-bytes = load-clears

-- "Everything lent beside the record holds what it held, save the tables an accepted Load writes as defined"
tables-after-load-on-structs : (ss ss' : List Session) (x : Inputs) (a : ScreenAnswer) (node_table' state_table' : List ℕ)
    → length ss ≡ 8 → LoadAllDone ss x a ss' node_table' state_table'
    → TablesAfterLoad x (refuses a) node_table' state_table'
tables-after-load-on-structs = tables-on-structs

tables-after-load-on-bytes : (b b' : List ℕ) (x : Inputs) (r next₀ next₁ : ℕ) (node_table' state_table' : List ℕ)
    → ScreensLoadExported b x r b' node_table' state_table' next₀ next₁
    → TablesAfterLoadCall x r node_table' state_table'
tables-after-load-on-bytes = tables-of-screens

-- ---- "nothing else is returned and nothing is altered": a refused call leaves the records, broken ones included, and
-- every output parameter, the screen to try first among them

refused-on-structs : (ss ss' : List Session) (c : ScreenCall) (a : ScreenAnswer) → ScreenDone ss c a ss'
    → refuses a ≡ true → ss' ≡ ss
refused-on-structs ss ss' c a d = d.unchanged

refused-on-bytes : (b b' : List ℕ) (c : ScreenCall) (r : ℕ) → ScreensCallExported b c r b' → (r ≡ 0 → ⊥) → b' ≡ b
refused-on-bytes b b' c r e = e.unchanged

start-keeps : (b b' : List ℕ) (c : ScreenCall) (r parts₀ parts₁ : ℕ) → ScreensStartExported b c r b' parts₀ parts₁
    → (r ≡ 0 → ⊥) → parts₁ ≡ parts₀
start-keeps = refusal.start-kept

read_keeps : (b : List ℕ) (i r : ℕ) (before after : Places) → ScreensReadExported b i r before after → (r ≡ 0 → ⊥)
    → after ≡ before
read_keeps = refusal.read_kept

deal-finished-keeps : (b b' : List ℕ) (c : ScreenCall) (r next₀ next₁ finished₀ finished₁ : ℕ)
    → ScreensDealExported b c r b' next₀ next₁ finished₀ finished₁ → (r ≡ 0 → ⊥) → finished₁ ≡ finished₀
deal-finished-keeps = refusal.finished-kept

deal-next-keeps : (b b' : List ℕ) (k : ℕ) (x : Inputs) (r next₀ next₁ finished₀ finished₁ : ℕ)
    → ScreensDealExported b (deal k x) r b' next₀ next₁ finished₀ finished₁ → (r ≡ 0 → ⊥) → next₁ ≡ next₀
deal-next-keeps = refusal.deal-next-kept

load-next-keeps : (b b' : List ℕ) (x : Inputs) (r next₀ next₁ : ℕ) (node_table' state_table' : List ℕ)
    → ScreensLoadExported b x r b' node_table' state_table' next₀ next₁ → (r ≡ 0 → ⊥) → next₁ ≡ next₀
load-next-keeps = refusal.load-next-kept
