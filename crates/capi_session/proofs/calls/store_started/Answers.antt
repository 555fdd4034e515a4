use Rattle.capi_session.proofs.SessionExportedLaws.{start-stored, start-refused}
use Rattle.capi_session.proofs.calls.store_started.Goals as goal

pub returns-in-Ok : goal.returns-in-Ok
returns-in-Ok c = start-stored _ _ _ _ _ c.requires
    c.in-Ok.is c.encode.ensures

pub returns-in-Err : goal.returns-in-Err
returns-in-Err c = start-refused _ _ _ _ _ c.in-Err.is c.number.ensures
