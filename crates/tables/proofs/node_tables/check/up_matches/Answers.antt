-- `up_matches` meets its contract, by the kind.
use Rattle.std.proofs.Common.{eq-eqb, ne_eqb}
use Rattle.tables.specs.node_tables.inner.CheckPass.{up_matches}
use Rattle.tables.proofs.node_tables.check.up_matches.Goals as goal

pub returns-then-kinds-v-eq0 : goal.returns-then-kinds-v-eq0
unfolding up_matches
returns-then-kinds-v-eq0 c = rw (eq-eqb _ _ c.if-kinds-v-eq0.true)

pub returns : goal.returns
unfolding up_matches
returns c = rw (ne_eqb _ _ c.if-kinds-v-eq0.false) c.inner_matches.ensures
