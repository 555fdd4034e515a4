-- `count_runs` meets its contract.
use native.Mathlib.Omega.{arith}
use mathlib.Core.Path.{sym}
use lib.Seq.{length-take-le}
use Rattle.choices.proofs.RunCases.{fit-by, on-args, on-answer}
use Rattle.choices.proofs.count.count_runs.Goals as goal

pub overflow_add-n : goal.overflow_add-n
overflow_add-n c = omega (arith, fit-by _ _ _ _ _ _ _ _ c.requires)

pub slice_bounds-count_on-end : goal.slice_bounds-count_on-end
slice_bounds-count_on-end c = omega (arith, fit-by _ _ _ _ _ _ _ _ c.requires)

pub slice_bounds-count_on-count-2 : goal.slice_bounds-count_on-count-2
slice_bounds-count_on-count-2 c = omega (arith, fit-by _ _ _ _ _ _ _ _ c.requires)

pub slice_bounds-count_on-start-2 : goal.slice_bounds-count_on-start-2
slice_bounds-count_on-start-2 c = omega (arith, fit-by _ _ _ _ _ _ _ _ c.requires)

pub overflow_add-k : goal.overflow_add-k
overflow_add-k c = omega (arith, fit-by _ _ _ _ _ _ _ _ c.requires)

pub slice_bounds-count_on-end-3 : goal.slice_bounds-count_on-end-3
slice_bounds-count_on-end-3 c = omega (arith, fit-by _ _ _ _ _ _ _ _ c.requires)

pub overflow_mul-s : goal.overflow_mul-s
overflow_mul-s c = omega (arith, fit-by _ _ _ _ _ _ _ _ c.requires)

pub overflow_mul-s-2 : goal.overflow_mul-s-2
overflow_mul-s-2 c = omega (arith, fit-by _ _ _ _ _ _ _ _ c.requires)

pub overflow_add-k-4 : goal.overflow_add-k-4
overflow_add-k-4 c = omega (arith, fit-by _ _ _ _ _ _ _ _ c.requires)

pub slice_bounds-count_on-end-4 : goal.slice_bounds-count_on-end-4
slice_bounds-count_on-end-4 c = omega (arith, fit-by _ _ _ _ _ _ _ _ c.requires)

pub overflow_mul-n : goal.overflow_mul-n
overflow_mul-n c = omega (arith, fit-by _ _ _ _ _ _ _ _ c.requires)

pub slice_bounds-count_on-end-5 : goal.slice_bounds-count_on-end-5
slice_bounds-count_on-end-5 c =
    sym (length-take-le _ _ (fit-by _ _ _ _ _ _ _ _ c.requires).lengths.node_table_room)

pub overflow_add-s : goal.overflow_add-s
overflow_add-s c =
    omega (arith, fit-by _ _ _ _ _ _ _ _ c.requires)

pub overflow_mul-n-2 : goal.overflow_mul-n-2
overflow_mul-n-2 c =
    omega (arith, fit-by _ _ _ _ _ _ _ _ c.requires)

pub slice_bounds-count_on-end-6 : goal.slice_bounds-count_on-end-6
slice_bounds-count_on-end-6 c =
    sym (length-take-le _ _ (fit-by _ _ _ _ _ _ _ _ c.requires).lengths.state_table_room)

pub count_on-requires : goal.count_on-requires
count_on-requires c =
    on-args _ _ _ _ _ _ _ _ c.requires

pub returns : goal.returns
returns c =
    on-answer _ _ _ _ _ _ _ _ c.requires _ c.count_on.ensures
