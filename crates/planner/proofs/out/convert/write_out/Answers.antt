-- The counts and the labels of the file are handed on, and what is written is its plan and its places.
use Rattle.std.proofs.Common.{arith}
use Rattle.planner.specs.File.{file_tree}
use Rattle.planner.proofs.out.OutLaws.{out-size, counts-are, labels-are, place-args, write-args, plan-is}
use Rattle.planner.proofs.out.convert.write_out.Goals as goal

pub overflow_add-n : goal.overflow_add-n
overflow_add-n c = omega (arith, out-size _ _ _ _ c.requires)

pub slice_bounds-place_nodes-count : goal.slice_bounds-place_nodes-count
slice_bounds-place_nodes-count c = omega (arith, out-size _ _ _ _ c.requires)

pub slice_bounds-place_nodes-start : goal.slice_bounds-place_nodes-start
slice_bounds-place_nodes-start c = omega (arith, out-size _ _ _ _ c.requires)

pub place_nodes-requires : goal.place_nodes-requires
place_nodes-requires c = place-args _ _ _ _ c.requires _ (counts-are _ _ _ _ c.requires)

pub overflow_add-n-2 : goal.overflow_add-n-2
overflow_add-n-2 c = omega (arith, out-size _ _ _ _ c.requires)

pub slice_bounds-write_plan-end : goal.slice_bounds-write_plan-end
slice_bounds-write_plan-end c = omega (arith, out-size _ _ _ _ c.requires)

pub write_plan-requires : goal.write_plan-requires
write_plan-requires c = (
  file_tree c.args.file.now,
  write-args _ _ _ _ c.requires _ (counts-are _ _ _ _ c.requires) _ _ c.place_nodes.ensures _ (labels-are _ _ _ _ c.requires),
)

pub returns : goal.returns
returns c =
    let k = counts-are _ _ _ _ c.requires in
    let l = labels-are _ _ _ _ c.requires in
    let N = c.place_nodes.ensures in
    plan-is _ _ _ _ c.requires _ k _ _ N _ l _
    (c.write_plan.ensures (file_tree c.args.file.now) (write-args _ _ _ _ c.requires _ k _ _ N _ l))
