-- At each iteration the parts left give the answer of all.
use Rattle.colour_questions.proofs.rule.PartsLoop.{Going}
use Rattle.colour_questions.proofs.rule.parts.all_by_colours.Given as goal

abbrev pub invariant-loop-i : goal.invariant-loop-i
invariant-loop-i l =
    Going l.n l.s l.k l.m l.labels l.kinds l.leaves l.inner l.node_table l.state_table l.numbers l.copies l.nodes
    l.changes l.roots l.states l.last l.drops l.links l.i
