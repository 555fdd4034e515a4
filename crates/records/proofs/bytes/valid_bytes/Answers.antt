-- Bytes that are not laid out, and the struct of those that are (ByteTests).
use Rattle.std.proofs.Common.{ap, not}
use Rattle.records.proofs.ByteTests.{valid-not, valid-laid, valid-test}
use Rattle.records.proofs.bytes.valid_bytes.Goals as goal

pub returns-then-not-laid_out : goal.returns-then-not-laid_out
returns-then-not-laid_out c = valid-not c.args.bytes.now _ c.laid_out.ensures (ap not c.if-not-laid_out.true)

pub decode-requires : goal.decode-requires
decode-requires c =
    valid-laid c.args.bytes.now _ c.laid_out.ensures (ap not c.if-not-laid_out.false)

pub returns : goal.returns
returns c =
    valid-test c.args.bytes.now _ _ _ c.laid_out.ensures (ap not c.if-not-laid_out.false) c.decode.ensures
    c.valid.ensures
