use Rattle.capi_session.proofs.SessionExportedLaws.{done-stored, done_refused}
use Rattle.capi_session.proofs.calls.store_done.Goals as goal

pub returns-in-Ok : goal.returns-in-Ok
returns-in-Ok c = done-stored _ _ _ _ c.requires
    c.in-Ok.is c.encode.ensures

pub returns-in-Err : goal.returns-in-Err
returns-in-Err c = done_refused _ _ _ _ c.in-Err.is c.number.ensures
