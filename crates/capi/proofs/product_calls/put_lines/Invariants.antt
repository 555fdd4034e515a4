-- The lines passed are written (LineLaws).
use Rattle.capi.proofs.product_calls.LineLaws.{LinesLoop}
use Rattle.capi.proofs.product_calls.put_lines.Given as goal

abbrev pub invariant-loop-i : goal.invariant-loop-i
invariant-loop-i l = LinesLoop l.kinds l.labels l.lefts l.rights l.n l.initial.lines l.lines l.i
