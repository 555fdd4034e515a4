-- The first left state that does, or none.
use Rattle.std.proofs.Common.{◌+◌, sym, ◌∙◌, get_or, lt-ltb, le-ltb, arith}
use Rattle.state_sets.specs.StateSets.{member}
use Rattle.fewest.specs.inner.down.Search.{right_hit, left_hit}
use Rattle.fewest.proofs.down.AnyLaws.{any-first, first_next, first-here}
use Rattle.fewest.proofs.down.search.find_left.Goals as goal

pub returns-then-find_right-s : goal.returns-then-find_right-s
returns-then-find_right-s c =
    let g = c.args in
    let l = c.loop-p in
    first-here g.s (left_hit g.work.now g.inner.now g.s g.k g.from g.at g.a (member g.labels) g.j g.c) l.p c.loop-p-test.true l.invariant
    (sym (any-first g.s (right_hit g.work.now g.inner.now g.s g.k l.p (get_or g.work.now (g.from + l.p) 0) g.at g.a (member g.labels) g.j g.c) c.find_right.result c.find_right.ensures) ∙ lt-ltb c.find_right.result g.s c.if-find_right-s.true)

pub loop-p-preserved : goal.loop-p-preserved
loop-p-preserved c =
    let g = c.args in
    let l = c.loop-p in
    first_next (left_hit g.work.now g.inner.now g.s g.k g.from g.at g.a (member g.labels) g.j g.c) l.p l.invariant
    (sym (any-first g.s (right_hit g.work.now g.inner.now g.s g.k l.p (get_or g.work.now (g.from + l.p) 0) g.at g.a (member g.labels) g.j g.c) c.find_right.result c.find_right.ensures) ∙ le-ltb c.find_right.result g.s (omega (arith, c.if-find_right-s.false)))
