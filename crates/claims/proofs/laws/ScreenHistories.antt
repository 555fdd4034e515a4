-- A screen's calls and answers are a history of a single session, in both forms of the screens' calls.
--     screen-on-structs, screen-on-bytes    the two forms
--     screen-finishes    so a question of a screen that is carried to its end is answered as one of a single session
use mathlib.Core.Path.{subst}
use mathlib.Core.List.{List, [], ◌∷◌, ◌++◌}
use Rattle.model.specs.Calls.{Call, start, read, Answer}
use Rattle.model.specs.History.{History}
use Rattle.model.specs.Model.{fresh_record, Does}
use Rattle.model.proofs.LayersHold.{layers}
use Rattle.model.proofs.Refinement.{refines}
use Rattle.reference.specs.Finished.{advances_of}
use Rattle.reference.proofs.FinishTheorem.{questions-finish}
use Rattle.screens.specs.ScreenCalls.{ScreenCall, ScreenAnswer, nobody_runs}
use Rattle.screens.specs.EightRecords.{DoesAll, eight_fresh}
use Rattle.screens.specs.Projection.{own_answers}
use Rattle.screens.proofs.ProjectionTheorem.{fresh-alone}
use Rattle.screens.specs.in_place.ScreensInPlace.{ScreenInPlace, eight_sessions}
use Rattle.screens.proofs.in_place.RunTheorem.{RepresentsAll, run-refines, eight-seen}
use Rattle.capi_screens.specs.DecodedScreens.{ScreensExports, fresh_run}
use Rattle.capi_screens.proofs.EncodedRun.{EncodesAll}
use Rattle.capi_screens.proofs.ScreensTheorem.{screens-refine, fresh-run-held}
use Rattle.claims.specs.Histories.{ScreenHistory, ScreenFinishes}

of-records : ScreenHistory eight_fresh DoesAll
of-records = fresh-alone

pub screen-on-structs : ScreenHistory eight_sessions ScreenInPlace
screen-on-structs i h cs xs k =
    of-records i h cs xs
    (refines ScreenInPlace DoesAll RepresentsAll run-refines eight_sessions eight_fresh cs xs eight-seen k)

pub screen-on-bytes : ScreenHistory fresh_run ScreensExports
screen-on-bytes i h cs xs k =
    of-records i h cs xs
    (refines ScreensExports DoesAll EncodesAll screens-refine fresh_run eight_fresh cs xs fresh-run-held k)

pub screen-finishes : {Run : Type 0} (fresh : Run) (Step : Run → ScreenCall → ScreenAnswer → Run → Type 0)
    → ScreenHistory fresh Step → ScreenFinishes fresh Step
screen-finishes fresh Step S i h cs xs k before given x vs bs n ws ys c a l m s =
    questions-finish layers before given x vs bs n ws ys l m s
    (subst
    (λ (z : List Answer). History Does fresh_record (before ++ (start x vs bs ∷ (advances_of ws ++ (read ∷ [])))) z) a
    (subst (λ (z : List Call). History Does fresh_record z (own_answers i nobody_runs cs xs)) c (S i h cs xs k)))
