use Rattle.colour_tables.proofs.branch.BuildLaws.{products, fit-numbers, fit-bytes}
use native.Mathlib.Omega.{arith}
use Rattle.colour_tables.proofs.branch.build.colours_fit.Goals as goal

pub overflow_mul-s : goal.overflow_mul-s
overflow_mul-s c =
    omega (arith, (products c.args.n c.args.s c.requires.nodes c.requires.states).0)

pub returns-then-numbers-s : goal.returns-then-numbers-s
returns-then-numbers-s c =
    let a = c.args in fit-numbers a.n a.s a.numbers a.bytes c.if-numbers-s.true

pub returns : goal.returns
returns c =
    let a = c.args in fit-bytes a.n a.s a.numbers a.bytes c.if-numbers-s.false
