-- `right_set` meets its contract.
use Prim.Native.Nat.{◌+◌, ◌*◌}
use Rattle.state_sets.proofs.BitLaws.{gathered-below}
use native.Mathlib.Omega.{arith}
use Rattle.allowed.proofs.sets.right_set.Goals as goal

pub returns : goal.returns
returns c =
    let g = c.args in
    (c.gathered.ensures, omega (arith, c.gathered.ensures, gathered-below g.inner.now ((g.p * g.k + g.a) * g.s) 1 g.c g.s c.requires.few))
