-- `records::bytes::put_last` meets its contract. 16 stores in a row; the last ones take the length from the start.
use lib.ListN.{length-set}
use Rattle.records.proofs.ByteTests.{last_written}
use Rattle.records.proofs.bytes.put_last.Goals as goal

pub shape_of-out : goal.shape_of-out
shape_of-out c = simp length-set

pub returns : goal.returns
returns c =
    last_written c.args.out.now c.args.h _ _ c.requires c.yes_byte.ensures c.yes_byte-2.ensures
