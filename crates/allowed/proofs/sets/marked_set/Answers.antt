-- `marked_set` meets its contract.
use Rattle.state_sets.proofs.BitLaws.{gathered-below}
use native.Mathlib.Omega.{arith}
use Rattle.allowed.proofs.sets.marked_set.Goals as goal

pub returns : goal.returns
returns c =
    (c.gathered.ensures, omega (arith, c.gathered.ensures, gathered-below c.args.marks.now 0 1 2 c.args.s c.requires.few))
