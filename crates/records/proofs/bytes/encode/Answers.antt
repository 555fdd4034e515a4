-- `records::bytes::encode` meets its contract. A buffer of another length is left; the head, the four arrays and the answer that is kept are
-- written one after the other.
use native.Mathlib.Omega.{arith}
use mathlib.Core.Path.{sym}
use lib.Seq.{length-take-le}
use Rattle.records.proofs.Types.{in-types}
use Rattle.records.proofs.ByteTests.{encode-other, encode-done, record-written}
use Rattle.records.proofs.bytes.encode.Goals as goal

pub returns-then-out-ne-RECORD_BYTES : goal.returns-then-out-ne-RECORD_BYTES
returns-then-out-ne-RECORD_BYTES c = encode-other c.args.out.now c.args.rec c.if-out-ne-RECORD_BYTES.true

pub slice_bounds-put_head-end-2 : goal.slice_bounds-put_head-end-2
slice_bounds-put_head-end-2 c = sym (length-take-le 13 c.args.out.now (omega arith))

pub put_head-requires : goal.put_head-requires
put_head-requires c = length-take-le 13 c.args.out.now (omega arith)

pub returns : goal.returns
returns c =
    encode-done c.args.out.now c.args.rec _ (omega arith)
    (record-written c.args.out.now c.args.rec _ _ _ _ _ _ (omega arith) (in-types c.args.rec c.well_formed.0)
    c.put_head.ensures c.put_numbers.ensures c.copy_from_slice.ensures.after c.put_numbers-2.ensures
    c.copy_from_slice-2.ensures.after c.put_last.ensures)
