-- What the moves from i on make of state q is x.
use Rattle.tables.proofs.ReplayLaws.{Replaying}
use Rattle.tables.proofs.replays.replay.Given as goal

abbrev pub invariant-loop-i : goal.invariant-loop-i
invariant-loop-i l = Replaying l.s l.k l.labels l.steps l.state_table l.moves l.count l.q l.i l.x
