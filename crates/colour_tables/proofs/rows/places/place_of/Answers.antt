-- Before the first place, where the state is found, one place more, and past the last.
use Rattle.colour_tables.proofs.rows.PlaceLoop.{searched-start, searched-next, searched-found, searched-past}
use Rattle.colour_tables.proofs.rows.places.place_of.Goals as goal

pub loop-i-init : goal.loop-i-init
loop-i-init c = searched-start c.args.row.now c.args.q

pub returns-then-x-q : goal.returns-then-x-q
returns-then-x-q c =
    searched-found c.args.row.now c.args.q c.loop-i.i c.loop-i.invariant c.loop-i-test.true c.if-x-q.true

pub loop-i-preserved : goal.loop-i-preserved
loop-i-preserved c =
    searched-next c.args.row.now c.args.q c.loop-i.i c.loop-i.invariant c.loop-i-test.true c.if-x-q.false

pub returns : goal.returns
returns c = searched-past c.args.row.now c.args.q c.loop-i.i c.loop-i.invariant c.loop-i-test.false
