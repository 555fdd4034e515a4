-- `label_hits` meets its contract.
use Rattle.state_sets.specs.StateSets.{member}
use Rattle.fewest.specs.inner.down.Search.{label_hit}
use Rattle.fewest.proofs.down.AnyLaws.{any-first}
use Rattle.fewest.proofs.down.WayLaws.{none-under}
use Rattle.fewest.proofs.down.search.label_hits.Goals as goal

pub returns-then-c-base : goal.returns-then-c-base
returns-then-c-base c =
    let g = c.args in
    none-under g.inner.now g.s g.k g.p g.q g.a (member g.labels) g.base g.j g.c c.if-c-base.true c.requires.1

pub returns : goal.returns
returns c =
    let g = c.args in
    any-first g.k (label_hit g.inner.now g.s g.k g.p g.q g.a (member g.labels) g.base g.j g.c) c.find_label.result c.find_label.ensures
