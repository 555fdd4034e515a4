-- An inner node is pushed, a leaf ends a list that is being read, or a node is released.
use Rattle.std.proofs.Common.{arith}
use Rattle.planner.proofs.home.ReadLoop.{push-args, count-args, release-args, node-push, node-count, node-release}
use Rattle.planner.proofs.home.read.read_node.Goals as goal

pub push-requires : goal.push-requires
push-requires c = push-args _ _ _ c.args.kind _ _ c.args.w.run c.requires (λ e. omega arith)

pub overflow_sub-result : goal.overflow_sub-result
overflow_sub-result c = c.requires.some_left (λ e. omega arith)

pub returns-then-kind-ne0 : goal.returns-then-kind-ne0
returns-then-kind-ne0 c = node-push _ _ _ _ _ _ _ c.requires _ (λ e. omega arith) c.push.ensures

pub put_count-requires : goal.put_count-requires
put_count-requires c = count-args _ _ c.args.label c.args.kind _ _ _ c.requires (λ e. omega arith)

pub returns-then-w-ne0 : goal.returns-then-w-ne0
returns-then-w-ne0 c = node-count _ _ _ _ _ _ _ c.requires _ (omega arith) c.put_count.ensures

pub release-d-requires : goal.release-d-requires
release-d-requires c = release-args _ _ c.args.label c.args.kind _ _ c.args.w.run c.requires

pub returns : goal.returns
returns c = node-release _ _ _ _ _ _ _ c.requires _ _ (omega arith) (omega arith) c.release-d.ensures
