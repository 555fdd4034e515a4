-- What the rest of the roots still makes of the parts before is the result.
use Rattle.whole_questions.proofs.PartsLoop.{Going}
use Rattle.whole_questions.proofs.parts.all_parts.Given as goal

abbrev pub invariant-loop-i : goal.invariant-loop-i
invariant-loop-i l =
    Going l.n l.s l.k l.plan l.rules l.node_table l.state_table l.roots l.nodes l.labels l.states l.last l.links
    l.passed l.i
