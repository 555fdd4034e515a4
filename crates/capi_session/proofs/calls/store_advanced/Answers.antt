-- `capi_session::calls::store_advanced` meets its contract. What an accepted advance alters is stored; it stores a state.
use mathlib.Core.Path.{ap, ◌∙◌}
use Rattle.std.proofs.Common.{Ok}
use Rattle.session.specs.inner.Steps.{stores_by}
use Rattle.capi_session.proofs.SessionExportedLaws.{more-stored, finished-stored, advance-refused}
use Rattle.capi_session.proofs.calls.store_advanced.Goals as goal

pub encode_step-requires : goal.encode_step-requires
encode_step-requires c =
    c.requires.room (c.requires.stores ∙ ap stores_by c.in-Ok.is)

pub returns-in-More : goal.returns-in-More
returns-in-More c =
    more-stored _ _ _ _ _ c.requires.long (c.in-Ok.is ∙ ap Ok c.in-More.is) c.encode_step.ensures

pub returns-in-Finished : goal.returns-in-Finished
returns-in-Finished c =
    finished-stored _ _ _ _ _ c.requires.long (c.in-Ok.is ∙ ap Ok c.in-Finished.is) c.encode_step.ensures

pub returns-in-Err : goal.returns-in-Err
returns-in-Err c = advance-refused _ _ _ _ _ _ c.in-Err.is c.number.ensures
