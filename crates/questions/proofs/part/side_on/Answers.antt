-- The four ways in which a child comes to its state.
use Rattle.std.proofs.Common.{ap, ◌∙◌}
use Rattle.tables.specs.Climbs.{climbed_of}
use Rattle.questions.proofs.PartLaws.{side-run, side-own, side-lost, side-climb}
use Rattle.questions.proofs.part.side_on.Goals as goal

pub returns-then-own-eq0 : goal.returns-then-own-eq0
returns-then-own-eq0 c =
    let g = c.args in
    c.handled_state.ensures
    ∙ ap climbed_of (side-run _ g.to g.c g.earlier.now
    g.states.now g.own g.other c.run_on.result c.run_on.ensures c.if-own-eq0.true)

pub returns-then-other-ne0 : goal.returns-then-other-ne0
returns-then-other-ne0 c =
    let g = c.args in
    c.handled_state-then-other-ne0.ensures
    ∙ ap climbed_of (side-own _ g.to g.c g.earlier.now
    g.states.now g.own g.other c.if-own-eq0.false c.if-other-ne0.true)

pub returns-then-s-q : goal.returns-then-s-q
returns-then-s-q c =
    let g = c.args in
    side-lost _ g.to g.c
    g.earlier.now g.states.now g.own g.other c.if-own-eq0.false c.if-other-ne0.false c.if-s-q.true

pub returns : goal.returns
returns c =
    let g = c.args in
    c.climb_state.ensures
    ∙ ap climbed_of (side-climb _ g.to g.c g.earlier.now
    g.states.now g.own g.other c.if-own-eq0.false c.if-other-ne0.false c.if-s-q.false)
