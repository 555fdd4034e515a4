use Rattle.std.proofs.Common.{take, ◌+◌, ◌*◌, ◌≤◌}
use Rattle.whatif.specs.Stream.{question_line, Advances}
use Rattle.whatif.proofs.chunk.take_in.Given as goal

-- the bytes that are taken
abbrev pub invariant-loop-b : goal.invariant-loop-b
invariant-loop-b l = record {
  end_most : l.end ≤ 48 * l.b-index;
  part_most : l.part ≤ l.have + l.b-index;
  advances : Advances (question_line l.plan l.rules) (take l.b-index l.chunk) l.initial.asked l.have l.asked l.part l.initial.out 0 l.out l.end;
}
