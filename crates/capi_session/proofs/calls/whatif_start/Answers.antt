use Rattle.std.proofs.Common.{ap, not}
use Rattle.capi_session.proofs.SessionExportedLaws.{refused-laid, passed-laid, passed_length, start-not, start-laid, of-decoded}
use Rattle.capi_session.proofs.calls.whatif_start.Goals as goal

pub returns-then-not-laid_out : goal.returns-then-not-laid_out
returns-then-not-laid_out c =
    rw c.number.ensures
    (start-not _ _ _ (refused-laid _ _ c.laid_out.ensures (ap not c.if-not-laid_out.true)))

pub decode-s-requires : goal.decode-s-requires
decode-s-requires c =
    passed_length _ _ c.laid_out.ensures (ap not c.if-not-laid_out.false)

pub store_started-requires : goal.store_started-requires
store_started-requires c =
    passed_length _ _ c.laid_out.ensures (ap not c.if-not-laid_out.false)

pub returns : goal.returns
returns c =
    start-laid _ _ (passed-laid _ _ c.laid_out.ensures
    (ap not c.if-not-laid_out.false)) _ _ _ _ _
    (of-decoded _ _ _ _ _ c.decode-s.ensures
    c.start-out.ensures) c.store_started.ensures
