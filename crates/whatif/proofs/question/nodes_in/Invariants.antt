use Rattle.std.proofs.Common.{◌≡◌, ◌*◌, ◌++◌, length, take, drop}
use Rattle.whatif.specs.Question.{nodes_in}
use Rattle.whatif.proofs.question.nodes_in.Given as goal

-- what is done and what is left to do make the whole
abbrev pub invariant-loop-i : goal.invariant-loop-i
invariant-loop-i l = record {
  room : length l.nodes ≡ 65;
  whole : take l.i l.nodes ++ nodes_in (drop (3 * l.i) l.list) ≡ nodes_in l.list;
}
