-- `formats::lists::check_list` meets its contract: each return cites the law of its answer.
use Rattle.formats.proofs.ListAnswers.{list-12, list-13, list-14, list-good}
use Rattle.formats.proofs.lists.check_list.Goals as goal

pub returns-then-not-lists_fit : goal.returns-then-not-lists_fit
returns-then-not-lists_fit c = list-12 _ _ _ _ _ c.lists_fit.ensures c.if-not-lists_fit.true-raw

pub returns-then-not-nodes_below : goal.returns-then-not-nodes_below
returns-then-not-nodes_below c =
    let e = c in
    list-13 _ _ _ _ _ e.lists_fit.ensures e.if-not-lists_fit.false-raw _ c.nodes_below.ensures c.if-not-nodes_below.true-raw

pub returns-then-not-labels_below : goal.returns-then-not-labels_below
returns-then-not-labels_below c =
    let f = c in
    let e = f in
    list-14 _ _ _ _ _ e.lists_fit.ensures e.if-not-lists_fit.false-raw _ f.nodes_below.ensures f.if-not-nodes_below.false-raw
    _ c.labels_below.ensures c.if-not-labels_below.true-raw

pub returns : goal.returns
returns c =
    let f = c in
    let e = f in
    list-good _ _ _ _ _ e.lists_fit.ensures e.if-not-lists_fit.false-raw _ f.nodes_below.ensures f.if-not-nodes_below.false-raw
    _ c.labels_below.ensures c.if-not-labels_below.false-raw
