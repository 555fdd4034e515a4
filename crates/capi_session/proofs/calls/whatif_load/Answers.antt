use Rattle.std.proofs.Common.{ap, not}
use Rattle.capi_session.proofs.SessionExportedLaws.{refused-laid, passed-laid, passed_length, load-not, load-laid, load-decoded}
use Rattle.capi_session.proofs.calls.whatif_load.Goals as goal

pub returns-then-not-laid_out : goal.returns-then-not-laid_out
returns-then-not-laid_out c =
    rw c.number.ensures
    (load-not _ _ (refused-laid _ _ c.laid_out.ensures (ap not c.if-not-laid_out.true)))

pub decode-s-requires : goal.decode-s-requires
decode-s-requires c =
    passed_length _ _ c.laid_out.ensures (ap not c.if-not-laid_out.false)

pub store_done-requires : goal.store_done-requires
store_done-requires c =
    passed_length _ _ c.laid_out.ensures (ap not c.if-not-laid_out.false)

pub returns : goal.returns
returns c =
    load-laid _ _ (passed-laid _ _ c.laid_out.ensures (ap not c.if-not-laid_out.false)) _ _ _ _ _
    (load-decoded _ _ _ _ _ _ _ c.decode-s.ensures c.load-out.ensures) c.store_done.ensures
