-- The two parts of the plan are handed on, and the runs that come back with the header before them are the file.
use Rattle.std.proofs.Common.{arith}
use Rattle.formats.specs.Plan.{plan_tree}
use Rattle.planner.specs.Siblings.{unimage}
use Rattle.planner.proofs.home.HomeLaws.{home-size, labels-part, kinds-part, home-read-args, home-is}
use Rattle.planner.proofs.home.convert.write_home.Goals as goal

pub overflow_mul-size : goal.overflow_mul-size
overflow_mul-size c = omega (arith, home-size _ _ _ c.requires)

pub overflow_add-size : goal.overflow_add-size
overflow_add-size c = omega (arith, home-size _ _ _ c.requires)

pub overflow_add-size-2 : goal.overflow_add-size-2
overflow_add-size-2 c = omega (arith, home-size _ _ _ c.requires)

pub slice_bounds-read_nodes-count : goal.slice_bounds-read_nodes-count
slice_bounds-read_nodes-count c = omega (arith, home-size _ _ _ c.requires)

pub slice_bounds-read_nodes-start : goal.slice_bounds-read_nodes-start
slice_bounds-read_nodes-start c = omega (arith, home-size _ _ _ c.requires)

pub slice_bounds-read_nodes-end : goal.slice_bounds-read_nodes-end
slice_bounds-read_nodes-end c = omega (arith, home-size _ _ _ c.requires)

pub overflow_add-size-3 : goal.overflow_add-size-3
overflow_add-size-3 c = omega (arith, home-size _ _ _ c.requires)

pub slice_bounds-read_nodes-count-2 : goal.slice_bounds-read_nodes-count-2
slice_bounds-read_nodes-count-2 c = omega (arith, home-size _ _ _ c.requires)

pub slice_bounds-read_nodes-start-2 : goal.slice_bounds-read_nodes-start-2
slice_bounds-read_nodes-start-2 c = omega (arith, home-size _ _ _ c.requires)

pub slice_bounds-read_nodes-end-2 : goal.slice_bounds-read_nodes-end-2
slice_bounds-read_nodes-end-2 c = omega (arith, home-size _ _ _ c.requires)

pub read_nodes-requires : goal.read_nodes-requires
read_nodes-requires c = (
  unimage (plan_tree c.args.plan.now),
  home-read-args _ _ _ c.requires _ _ (labels-part _ _ _ c.requires) (kinds-part _ _ _ c.requires),
)

pub write_header-requires : goal.write_header-requires
write_header-requires c =
    let z = home-size _ _ _ c.requires in
    let R = c.read_nodes.ensures (unimage (plan_tree c.args.plan.now))
    (home-read-args _ _ _ c.requires _ _ (labels-part _ _ _ c.requires) (kinds-part _ _ _ c.requires)) in
    (omega (arith, R.kept.same), omega arith)

pub returns : goal.returns
returns c =
    home-is _ _ _ c.requires _ _
    (c.read_nodes.ensures (unimage (plan_tree c.args.plan.now))
    (home-read-args _ _ _ c.requires _ _ (labels-part _ _ _ c.requires) (kinds-part _ _ _ c.requires)))
    c.write_header.ensures
