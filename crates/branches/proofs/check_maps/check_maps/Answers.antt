-- The root's map and each node's are compared.
use Rattle.std.proofs.Common.{◌≡◌, ◌-◌, length, sym, ◌∙◌, arith}
use Rattle.branches.proofs.StepLoop.{args-pos}
use Rattle.branches.proofs.MapLoop.{row_in, map-above, map-args}
use Rattle.branches.proofs.TestLoop.{root-map-same, root-map-differs, map_same, map-differs, all-maps}
use Rattle.branches.proofs.check_maps.check_maps.Goals as goal

pub overflow_sub-root : goal.overflow_sub-root
overflow_sub-root c = omega (arith, args-pos _ _ _ _ _ _ _ c.requires)

pub root_row_is-requires : goal.root_row_is-requires
root_row_is-requires c =
    row_in c.args.s c.args.n (c.args.n - 1) (length c.args.state_table.now)
    (omega (arith, args-pos _ _ _ _ _ _ _ c.requires)) c.requires.room

pub returns-then-not-root_row_is : goal.returns-then-not-root_row_is
returns-then-not-root_row_is c =
    root-map-differs _ _ _ _ _ _ _ c.requires c.args.state_table.now (c.args.n - 1)
    (omega (arith, args-pos _ _ _ _ _ _ _ c.requires)) (sym c.root_row_is.ensures ∙ c.if-not-root_row_is.true)

pub loop-v-init : goal.loop-v-init
loop-v-init c =
    root-map-same _ _ _ _ _ _ _ c.requires c.args.state_table.now (c.args.n - 1)
    (omega (arith, args-pos _ _ _ _ _ _ _ c.requires)) (sym c.root_row_is.ensures ∙ c.if-not-root_row_is.false)

pub node_map_is-requires : goal.node_map_is-requires
node_map_is-requires c =
    let g = c.args in
    map-args _ _ _ _ _ _ _ c.requires (c.loop-v.v - 1) g.state_table.now g.state_table.now
    (map-above _ _ _ _ _ _ _ c.requires c.loop-v.v g.state_table.now g.state_table.now (omega arith) c.loop-v.invariant)
    (omega arith) c.requires.room

pub returns-then-not-node_map_is : goal.returns-then-not-node_map_is
returns-then-not-node_map_is c =
    let g = c.args in
    map-differs _ _ _ _ _ _ _ c.requires g.state_table.now (c.loop-v.v - 1) (omega arith)
    (map-above _ _ _ _ _ _ _ c.requires c.loop-v.v g.state_table.now g.state_table.now (omega arith) c.loop-v.invariant)
    (sym c.node_map_is.ensures ∙ c.if-not-node_map_is.true)

pub loop-v-preserved : goal.loop-v-preserved
loop-v-preserved c =
    let g = c.args in
    map_same _ _ _ _ _ _ _ c.requires g.state_table.now (c.loop-v.v - 1) (omega arith)
    (map-above _ _ _ _ _ _ _ c.requires c.loop-v.v g.state_table.now g.state_table.now (omega arith) c.loop-v.invariant)
    (sym c.node_map_is.ensures ∙ c.if-not-node_map_is.false)

pub returns : goal.returns
returns c =
    let e : 0 ≡ c.loop-v.v = omega arith in
    all-maps _ _ _ _ _ _ _ c.requires c.args.state_table.now (rw e c.loop-v.invariant)
