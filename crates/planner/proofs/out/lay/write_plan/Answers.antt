-- The header, the labels of leaves, their kinds, and then the nodes: the plan of the image.
use Rattle.std.proofs.Common.{refl, arith}
use Rattle.planner.proofs.out.PlanLaws.{write-room, lay-args, plan-written}
use Rattle.planner.proofs.out.lay.write_plan.Goals as goal

pub write_header-requires : goal.write_header-requires
write_header-requires c =
    let R = write-room c.requires.0 _ _ _ c.requires.1 in (omega (arith, R.room), omega (arith, R.few))

pub overflow_add-size-2 : goal.overflow_add-size-2
overflow_add-size-2 c = let R = write-room c.requires.0 _ _ _ c.requires.1 in omega (arith, R.few)

pub slice_bounds-fill-end : goal.slice_bounds-fill-end
slice_bounds-fill-end c = let R = write-room c.requires.0 _ _ _ c.requires.1 in omega (arith, R.room)

pub slice_bounds-fill-end-2 : goal.slice_bounds-fill-end-2
slice_bounds-fill-end-2 c = let R = write-room c.requires.0 _ _ _ c.requires.1 in omega (arith, R.room)

pub lay_nodes-requires : goal.lay_nodes-requires
lay_nodes-requires c = (
  c.requires.0,
  lay-args c.requires.1 _ refl c.write_header.ensures (c.fill.ensures.after (λ y e. e)) (c.fill-2.ensures.after (λ y e. e)),
)

pub returns : goal.returns
returns c = λ f A. (
    let h = c.write_header.ensures in
    let w = c.fill.ensures.after (λ y e. e) in
    let z = c.fill-2.ensures.after (λ y e. e) in
    plan-written A _ refl h w z (c.lay_nodes.ensures f (lay-args A _ refl h w z)))
