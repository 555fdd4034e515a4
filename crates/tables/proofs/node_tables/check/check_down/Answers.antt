-- By the root, then by each node's comparison, from the root's number down.
use Rattle.std.proofs.Common.{arith, subst, sym, ℕ, ◌+◌, ◌-◌, ◌≡◌, ◌∙◌}
use Rattle.tables.proofs.node_tables.DownLoop.{down_pos}
use Rattle.tables.proofs.node_tables.CheckLoop.{DownsFrom, downs-args, downs-step, downs-no, root-from, root-jump-no, root-depth-no}
use Rattle.tables.proofs.node_tables.check.check_down.Goals as goal

pub overflow_sub-root : goal.overflow_sub-root
overflow_sub-root c = down_pos c.args.n c.args.node_table.now c.requires.0

pub bounds-node_table-root : goal.bounds-node_table-root
bounds-node_table-root c = omega (arith, down_pos c.args.n c.args.node_table.now c.requires.0)

pub returns-then-node_table-root : goal.returns-then-node_table-root
returns-then-node_table-root c =
    let g = c.args in
    root-jump-no g.n (g.n - 1) g.node_table.now (omega (arith, down_pos g.n g.node_table.now c.requires.0))
    c.if-node_table-root.true

pub bounds-node_table-root-2 : goal.bounds-node_table-root-2
bounds-node_table-root-2 c = omega (arith, down_pos c.args.n c.args.node_table.now c.requires.0)

pub returns-then-node_table-root-ne0 : goal.returns-then-node_table-root-ne0
returns-then-node_table-root-ne0 c =
    let g = c.args in
    root-depth-no g.n (g.n - 1) g.node_table.now (omega (arith, down_pos g.n g.node_table.now c.requires.0))
    c.if-node_table-root-ne0.true

pub loop-v-init : goal.loop-v-init
loop-v-init c =
    let g = c.args in
    root-from g.n (g.n - 1) g.node_table.now (omega (arith, down_pos g.n g.node_table.now c.requires.0))
    c.if-node_table-root.false c.if-node_table-root-ne0.false

pub down_matches-requires : goal.down_matches-requires
down_matches-requires c =
    let g = c.args in
    let e : c.loop-v.v ≡ c.loop-v.v - 1 + 1 = omega arith in (
      downs-args g.n (c.loop-v.v - 1) g.node_table.now (omega arith) c.requires.0
          (subst (λ (i : ℕ). DownsFrom g.n i g.node_table.now) e c.loop-v.invariant),
      c.requires.1,
    )

pub returns-then-not-down_matches : goal.returns-then-not-down_matches
returns-then-not-down_matches c =
    let g = c.args in
    downs-no g.n (c.loop-v.v - 1) g.node_table.now (omega arith)
    (sym c.down_matches.ensures ∙ c.if-not-down_matches.true)

pub loop-v-preserved : goal.loop-v-preserved
loop-v-preserved c =
    let g = c.args in
    let e : c.loop-v.v ≡ c.loop-v.v - 1 + 1 = omega arith in
    downs-step g.n (c.loop-v.v - 1) g.node_table.now (omega arith)
    (subst (λ (i : ℕ). DownsFrom g.n i g.node_table.now) e c.loop-v.invariant)
    (sym c.down_matches.ensures ∙ c.if-not-down_matches.false)
