-- `set_colours_fit` meets its contract: the products are small.
use Rattle.colour_tables.proofs.rule.BuildLaws.{products, fit-numbers, fit-bytes}
use native.Mathlib.Omega.{arith}
use Rattle.colour_tables.proofs.rule.build.set_colours_fit.Goals as goal

pub overflow_mul-count : goal.overflow_mul-count
overflow_mul-count c =
    omega (
      arith,
      (products c.args.n c.args.s c.set_count-count.result c.requires.nodes c.requires.states
          c.set_count-count.ensures.1).0,
    )

pub returns-then-numbers-count : goal.returns-then-numbers-count
returns-then-numbers-count c =
    let a = c.args in
    fit-numbers a.n a.s a.numbers a.bytes c.set_count-count.result c.set_count-count.ensures.0 c.if-numbers-count.true

pub overflow_mul-result : goal.overflow_mul-result
overflow_mul-result c =
    omega (
      arith,
      (products c.args.n c.args.s c.set_count-count.result c.requires.nodes c.requires.states
          c.set_count-count.ensures.1).1,
    )

pub overflow_add-result-2 : goal.overflow_add-result-2
overflow_add-result-2 c =
    let z = products c.args.n c.args.s c.set_count-count.result c.requires.nodes c.requires.states
    c.set_count-count.ensures.1 in
    omega (arith, z.1, z.2)

pub returns : goal.returns
returns c =
    let a = c.args in
    fit-bytes a.n a.s a.numbers a.bytes c.set_count-count.result c.set_count-count.ensures.0 c.if-numbers-count.false
