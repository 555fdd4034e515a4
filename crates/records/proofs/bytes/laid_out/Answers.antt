-- Another length, and each test (ByteTests).
use Rattle.records.proofs.ByteTests.{laid-short, laid-test}
use Rattle.records.proofs.bytes.laid_out.Goals as goal

pub returns-then-bytes-ne-RECORD_BYTES : goal.returns-then-bytes-ne-RECORD_BYTES
returns-then-bytes-ne-RECORD_BYTES c = laid-short c.args.bytes.now c.if-bytes-ne-RECORD_BYTES.true

pub returns : goal.returns
returns c =
    laid-test c.args.bytes.now c.if-bytes-ne-RECORD_BYTES.false
