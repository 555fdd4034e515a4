use Rattle.std.proofs.Common.{ap, not}
use Rattle.capi_session.proofs.SessionExportedLaws.{refused-laid, passed-laid, passed_length, read-not, read-laid, read-decoded}
use Rattle.capi_session.proofs.calls.whatif_read.Goals as goal

pub returns-then-not-laid_out : goal.returns-then-not-laid_out
returns-then-not-laid_out c =
    rw c.number.ensures
    (read-not _ _ (refused-laid _ _ c.laid_out.ensures (ap not c.if-not-laid_out.true)))

pub decode-s-requires : goal.decode-s-requires
decode-s-requires c =
    passed_length _ _ c.laid_out.ensures (ap not c.if-not-laid_out.false)

pub returns : goal.returns
returns c =
    read-laid _ (passed-laid _ _ c.laid_out.ensures
    (ap not c.if-not-laid_out.false)) _ _ _ _
    (read-decoded _ _ _ c.decode-s.ensures
    c.read-answer.ensures) c.tell_read.ensures
