-- What document 02, S-8, asks of eight screens, each sentence by its theorem. Here they are of the model; every form of
-- the calls that refines it has them too.
--
-- "One deal gives one advance to the next running screen after the one served last, going from 7 back to 0":
--   deal-serves
-- "A deal with no screen running gives 1"; "gives 25, before everything else"; "0 after a Load, else one past the
--   screen served, 0 past 7. A deal tells that number and what the advance tells": screens-demand-3, by the definition
--   of a call's target and of a turn's answer
-- "a screen that stays running is served within eight accepted deals": served_soon; and "while plan, rules and tables
--   are as Load left them" every deal with a screen running is accepted: deal_taken
-- "no other is served twice between two successive turns of it in one question": turns_apart, between_turns
-- "Between two accepted Loads, .. what a screen reads, and each of its refusals except Load's, must be the same":
--   isolation, isolation_since_load
-- "Load is refused while any screen runs and clears them all": load-waits, load-clears, load-empties
-- "Each screen has a panel book of its own, fed with the accepted Loads, its own calls and its turns as advances":
--   screen-alone, screens-references, screens-demand-3
-- A refused call alters nothing, and a refused deal returns no number: refused-alike
--
--     screens-hold      those about every list of calls, together
--     screens-hold-of   they pass on to every form of the calls that refines this one
use Rattle.model.proofs.Refinement.{Refines, refines}
use Rattle.screens.specs.ScreenCalls.{ScreenCall, ScreenAnswer}
use Rattle.screens.specs.EightRecords.{DoesAll, eight_fresh}
use Rattle.screens.specs.EightReferences.{ScreensDemand3}
use Rattle.screens.specs.Statements as say
use Rattle.screens.proofs.NextLaws as next
use Rattle.screens.proofs.ProjectionTheorem as projection
use Rattle.screens.proofs.LoadTheorem as load
use Rattle.screens.proofs.ReferencesTheorem as references
use Rattle.screens.proofs.TurnsTheorem as turns
use Rattle.screens.proofs.SinceLoad as since
use Rattle.screens.proofs.DealTheorem as deals

pub deal-serves : say.DealServes
deal-serves = next.deal-serves

pub screen-alone : say.ScreenAlone
screen-alone = projection.screen-alone

pub screens-references : say.ScreensReferences eight_fresh DoesAll
screens-references = projection.screens-references

pub screens-demand-3 : ScreensDemand3 eight_fresh DoesAll
screens-demand-3 = references.screens-demand-3

pub isolation : say.Isolation eight_fresh DoesAll
isolation = projection.isolation

pub isolation_since_load : say.IsolationSinceLoad eight_fresh DoesAll
isolation_since_load = since.isolation_since_load

pub served_soon : say.ServedSoon eight_fresh DoesAll
served_soon = turns.served_soon

pub turns_apart : say.TurnsApart eight_fresh DoesAll
turns_apart = turns.turns_apart

pub between_turns : say.BetweenTurns eight_fresh DoesAll
between_turns = turns.between_turns

pub deal_taken : say.DealTaken eight_fresh DoesAll
deal_taken = deals.deal_taken

pub load-clears : say.LoadClears
load-clears = load.load-clears

pub load-empties : say.LoadEmpties
load-empties = load.load-empties

pub load-waits : say.LoadWaits
load-waits = load.load-waits

pub refused-alike : say.RefusedAlike
refused-alike = load.refused-alike

-- ---- together, and for other forms of the calls

pub screens-hold : say.Screens eight_fresh DoesAll
screens-hold = record {
  demand_3 = screens-demand-3;
  references = screens-references;
  isolation = isolation;
  isolation_since_load = isolation_since_load;
  served_soon = served_soon;
  turns_apart = turns_apart;
  between_turns = between_turns;
  deal_taken = deal_taken;
}

module _ {A B : Type 0} (StepA : A → ScreenCall → ScreenAnswer → A → Type 0)
    (StepB : B → ScreenCall → ScreenAnswer → B → Type 0)
    (Represents : A → B → Type 0) where
  pub screens-hold-of : Refines StepA StepB Represents → (a : A) (b : B) → Represents a b → say.Screens b StepB
      → say.Screens a StepA
  screens-hold-of f a b i S = record {
    demand_3 = λ cs xs h. S.demand_3 cs xs (refines StepA StepB Represents f a b _ _ i h);
    references = λ j l cs xs h. S.references j l cs xs (refines StepA StepB Represents f a b _ _ i h);
    isolation = λ j l cs ds xs ys h k. S.isolation j l cs ds xs ys (refines StepA StepB Represents f a b _ _ i h)
        (refines StepA StepB Represents f a b _ _ i k);
    isolation_since_load = λ j l x y z before cs before' ds told xs told' ys m n d e h k.
        S.isolation_since_load j l x y z before cs before' ds told xs told' ys m n d e
        (refines StepA StepB Represents f a b _ _ i h) (refines StepA StepB Represents f a b _ _ i k);
    served_soon = λ j k before cs told xs l m e h. S.served_soon j k before cs told xs l m e
        (refines StepA StepB Represents f a b _ _ i h);
    turns_apart = λ j k before cs told xs l m e h. S.turns_apart j k before cs told xs l m e
        (refines StepA StepB Represents f a b _ _ i h);
    between_turns = λ j k n x before cs told xs e h. S.between_turns j k n x before cs told xs e
        (refines StepA StepB Represents f a b _ _ i h);
    deal_taken = λ x before cs told xs k e h. S.deal_taken x before cs told xs k e
        (refines StepA StepB Represents f a b _ _ i h);
  }
