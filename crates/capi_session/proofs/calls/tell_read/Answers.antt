use Rattle.capi_session.proofs.SessionExportedLaws.{read-in, read-refused}
use Rattle.capi_session.proofs.calls.tell_read.Goals as goal

pub returns-in-Ok : goal.returns-in-Ok
returns-in-Ok c =
    read-in _ _ _ _ c.in-Ok.is c.bit.ensures

pub returns-in-Err : goal.returns-in-Err
returns-in-Err c = read-refused _ _ _ _ c.in-Err.is c.number.ensures
