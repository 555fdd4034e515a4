use Rattle.std.proofs.Common.{ap, not}
use Rattle.capi_session.proofs.SessionExportedLaws.{refused-laid, passed-laid, passed_length, advance-not}
use Rattle.capi_session.proofs.StepBytes.{advance-made}
use native.Mathlib.Omega.{arith}
use Rattle.capi_session.proofs.calls.whatif_advance.Goals as goal

pub returns-then-not-laid_out : goal.returns-then-not-laid_out
returns-then-not-laid_out c =
    rw c.number.ensures
    (advance-not _ _ _ (refused-laid _ _ c.laid_out.ensures (ap not c.if-not-laid_out.true)))

pub decode-s-requires : goal.decode-s-requires
decode-s-requires c =
    passed_length _ _ c.laid_out.ensures (ap not c.if-not-laid_out.false)

pub store_advanced-requires : goal.store_advanced-requires
store_advanced-requires c =
    let F = c.advance_step-step.ensures in
    record { long = passed_length _ _ c.laid_out.ensures (ap not c.if-not-laid_out.false); stores = F.stores; room = F.room }

pub returns : goal.returns
returns c =
    advance-made c.args.rec.now _ _ _ _ _ _ _ (passed-laid _ _ c.laid_out.ensures (ap not c.if-not-laid_out.false))
    (λ j. omega (arith, c.slice_known-1.given j)) c.decode-s.ensures c.advance_step-step.ensures c.store_advanced.ensures
