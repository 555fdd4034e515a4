-- `blocks::pairs_match` meets its contract: both tests, node table and states, of the same list.
use mathlib.Core.Path.{ap₂, ◌∙◌}
use mathlib.Core.Bool.{Bool, ◌&&◌}
use lib.ListN.{get_or}
use Rattle.table_checks.specs.inner.PairNodes.{pair_nodes}
use Rattle.table_checks.specs.inner.PairStates.{pair_states, pair_is}
use Rattle.table_checks.proofs.DifferenceLaws.{every-both}
use Rattle.table_checks.proofs.blocks.pairs_match.Goals as goal

pub returns : goal.returns
unfolding pair_is
returns c =
    let g = c.args in
    let n = c.listed_nodes_match-nodes in
    let s = c.listed_states_match_any-states in
    ap₂ (λ (x y : Bool). x && y) n.ensures s.ensures
    ∙ every-both g.c (λ i. pair_nodes g.n g.node_table.now (get_or g.list.now i 0))
    (λ i. pair_states g.labels.now g.node_table.now g.inner.now g.s g.k g.n g.state_table.now
    (get_or g.list.now i 0))
