-- 13 stores in a row (ByteTests).
use lib.ListN.{length-set}
use Rattle.records.proofs.ByteTests.{head-written}
use Rattle.records.proofs.bytes.put_head.Goals as goal

pub shape_of-out : goal.shape_of-out
shape_of-out c = simp length-set

pub returns : goal.returns
returns c =
    head-written c.args.out.now c.args.h _ _ c.requires c.phase_byte.ensures c.yes_byte.ensures
