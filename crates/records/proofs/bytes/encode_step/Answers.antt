-- `records::bytes::encode_step` meets its contract. A buffer of another length is left; head, state and the answer that is kept are
-- written one after the other.
use native.Mathlib.Omega.{arith}
use mathlib.Core.Path.{sym}
use lib.Seq.{length-take-le}
use Rattle.records.proofs.ByteTests.{step_other, step-done}
use Rattle.records.proofs.bytes.encode_step.Goals as goal

pub returns-then-out-ne-RECORD_BYTES : goal.returns-then-out-ne-RECORD_BYTES
returns-then-out-ne-RECORD_BYTES c = step_other c.args.out.now _ c.if-out-ne-RECORD_BYTES.true

pub slice_bounds-put_head-end-2 : goal.slice_bounds-put_head-end-2
slice_bounds-put_head-end-2 c = sym (length-take-le 13 c.args.out.now (omega arith))

pub put_head-requires : goal.put_head-requires
put_head-requires c = length-take-le 13 c.args.out.now (omega arith)

pub returns : goal.returns
returns c =
    step-done c.args.out.now c.args.h c.args.at c.args.state _ _ _ (omega arith)
    c.put_head.ensures c.put_state.ensures c.put_last.ensures
