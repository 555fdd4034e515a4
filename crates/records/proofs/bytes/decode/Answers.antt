-- `records::bytes::decode` meets its contract. Each part is read at its offset.
use Rattle.records.proofs.ByteTests.{record-read}
use Rattle.records.proofs.bytes.decode.Goals as goal

pub returns : goal.returns
returns c =
    record-read c.args.bytes.now _ _ _ _ _ c.decode_head-head.ensures
    c.get_numbers.ensures c.copy_from_slice.ensures.after c.get_numbers-2.ensures c.copy_from_slice-2.ensures.after
