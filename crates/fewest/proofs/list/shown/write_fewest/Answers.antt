-- `write_fewest` meets its contract.
use Rattle.fewest.proofs.list.ShownLaws.{written-short, written-long}
use native.Mathlib.Omega.{arith}
use Rattle.fewest.proofs.list.shown.write_fewest.Goals as goal

pub returns-then-m-gt-MOST_LISTED : goal.returns-then-m-gt-MOST_LISTED
returns-then-m-gt-MOST_LISTED c =
    let g = c.args in
    let p = c.requires.given.up in
    λ t x y. written-long g.kinds.now g.labels.now g.leaves.now g.inner.now g.marks.now g.may.now g.s g.k g.mark p.runs c.least_up-m.new.work g.work.now (omega (arith, p.room)) c.least_up-m.ensures.up t x y c.least_up-m.result
    c.least_up-m.ensures.least c.if-m-gt-MOST_LISTED.true g.nodes.now g.out.now

pub show-requires : goal.show-requires
show-requires c =
    let g = c.args in
    let p = c.requires.given.up in
    record {
      given = record { up = record { runs = p.runs; stocks = p.stocks; room = omega (arith, p.room) }; marks = c.requires.given.marks };
      first = g.work.now;
      up = c.least_up-m.ensures.up;
      least = c.least_up-m.ensures.least;
      few = omega (arith, c.if-m-gt-MOST_LISTED.false);
      nodes_room = c.requires.nodes_room;
      labels_room = c.requires.labels_room;
    }

pub returns : goal.returns
returns c =
    let g = c.args in
    let p = c.requires.given.up in
    λ t x y. written-short g.kinds.now g.labels.now g.leaves.now g.inner.now g.marks.now g.may.now g.s g.k g.mark p.runs c.least_up-m.new.work g.work.now (omega (arith, p.room)) c.least_up-m.ensures.up t x y c.least_up-m.result
    c.least_up-m.ensures.least (omega (arith, c.if-m-gt-MOST_LISTED.false)) g.nodes.now g.out.now c.show.result c.show.new.work c.show.new.nodes c.show.new.out
    (c.show.ensures g.work.now t x y c.least_up-m.ensures.up)
