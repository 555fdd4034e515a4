-- `records::bytes::decode_head` meets its contract. Each field is read at its offset.
use Rattle.records.proofs.ByteTests.{head_read}
use Rattle.records.proofs.bytes.decode_head.Goals as goal

pub returns : goal.returns
returns c =
    head_read c.args.bytes.now c.phase_at.result c.number16.result c.number32.result
    c.number32-2.result c.decode_last.result c.phase_at.ensures c.number16.ensures c.number32.ensures
    c.number32-2.ensures c.decode_last.ensures
