-- `rows2::two_maps` meets its contract.
use Rattle.table_checks.specs.inner.TwoStates.{near_of}
use Rattle.table_checks.proofs.TwoStateLaws.{bit-most, two-mapped}
use Rattle.table_checks.proofs.rows2.two_maps.Goals as goal

pub overflow_sub-result : goal.overflow_sub-result
overflow_sub-result c =
    let g = c.args in
    let f = c.far_bit-far in
    bit-most (near_of g.node_table.now g.v) f.result f.ensures

pub returns : goal.returns
returns c =
    let f = c.far_bit-far in
    let j = c.inside-j in
    two-mapped _ _ _ _ c.requires f.result j.result f.ensures j.ensures.0
