-- A node with children is pushed, and one without closes the lists that end at it.
use Rattle.std.proofs.Common.{arith}
use Rattle.planner.proofs.out.PlaceLoop.{node-inner, node-leaf, leaf-args, next_fits}
use Rattle.planner.proofs.out.places.read_node.Goals as goal

pub returns-then-count-ne0 : goal.returns-then-count-ne0
returns-then-count-ne0 c =
    let a = c.args in
    node-inner a.v a.w.depth a.w.next a.w.left a.w.first _ a.plan.now a.places.now _ (omega arith) c.push.ensures
    a.count (λ e. omega arith)

pub overflow_add-w-2 : goal.overflow_add-w-2
overflow_add-w-2 c = omega (arith, next_fits _ _ _ _ _ _ _ _ c.requires)

pub close_lists-c-requires : goal.close_lists-c-requires
close_lists-c-requires c =
    let a = c.args in
    leaf-args a.v a.w.depth a.w.next a.w.left a.w.first _ a.plan.now a.places.now _ (omega arith) c.push.ensures
    a.count (omega arith) c.requires

pub returns : goal.returns
returns c =
    let a = c.args in
    node-leaf a.v a.w.depth a.w.next a.w.left a.w.first _ a.plan.now a.places.now _ (omega arith) c.push.ensures
    a.count _ _ _ _ (omega arith) c.close_lists-c.ensures c.to_come.ensures
