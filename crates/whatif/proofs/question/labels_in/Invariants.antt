use Rattle.std.proofs.Common.{◌≡◌, ◌*◌, ◌++◌, length, take, drop}
use Rattle.whatif.specs.Question.{labels_within}
use Rattle.whatif.proofs.question.labels_in.Given as goal

-- what is done and what is left to do make the whole
abbrev pub invariant-loop-i : goal.invariant-loop-i
invariant-loop-i l = record {
  room : length l.labels ≡ 65;
  whole : take l.i l.labels ++ labels_within (drop (3 * l.i) l.list) ≡ labels_within l.list;
}
