use Rattle.std.proofs.Common.{◌≡◌, length}
use Rattle.whatif.specs.Stream.{question_line}
use Rattle.whatif.proofs.TurnLaws.{Heard}
use Rattle.whatif.proofs.asking.put_questions.Given as goal

-- the questions that came, and their lines
abbrev pub invariant-loop-turn : goal.invariant-loop-turn
invariant-loop-turn g l = record {
  heard : Heard (question_line l.plan l.rules) (g.R.Read.remaining l.initial.input) (g.R.Read.remaining l.input)
      (g.W.Write.contents l.initial.output) (g.W.Write.contents l.output) l.stated l.asked l.turn.have l.turn.left l.turn.sent;
  chunk_room : length l.chunk ≡ 1365;
  out_room : length l.out ≡ 65536;
}

abbrev pub decreases-loop-turn : goal.decreases-loop-turn
decreases-loop-turn g l = l.turn.left
