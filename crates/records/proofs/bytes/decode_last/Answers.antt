-- `records::bytes::decode_last` meets its contract. Each field is read at its offset.
use Rattle.records.proofs.ByteTests.{last-read}
use Rattle.records.proofs.bytes.decode_last.Goals as goal

pub returns : goal.returns
returns c =
    last-read c.args.bytes.now c.number32.result c.number32-2.result
    c.number32.ensures c.number32-2.ensures
