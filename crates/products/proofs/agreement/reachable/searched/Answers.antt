-- One line more is joined with the lines up to it in each iteration.
use Rattle.std.proofs.Common.{◌∙◌, sym, arith}
use Rattle.products.proofs.agreement.reachable.SearchLoop.{search-loop-small, search-loop-marks, search-loop-stop}
use Rattle.products.proofs.agreement.reachable.SearchLoop.{search-loop-next, search-loop-done, search-marks, search-not}
use Rattle.products.proofs.agreement.reachable.searched.Goals as goal

pub first_differing-requires : goal.first_differing-requires
first_differing-requires c = search-marks c.requires

pub returns-then-first_differing-ne0 : goal.returns-then-first_differing-ne0
returns-then-first_differing-ne0 c =
    search-not c.requires (λ e. c.if-first_differing-ne0.true (c.first_differing.ensures ∙ e))

pub first_differing-requires-in-loop-n : goal.first_differing-requires-in-loop-n
first_differing-requires-in-loop-n c = search-loop-marks c.loop-n.invariant c.loop-n-test.true c.over_lines.ensures

pub returns-then-first_differing-ne0-2 : goal.returns-then-first_differing-ne0-2
returns-then-first_differing-ne0-2 c =
    search-loop-stop c.loop-n.invariant c.loop-n-test.true c.over_lines.ensures
    (λ e. c.if-first_differing-ne0-2.true (c.first_differing-in-loop-n.ensures ∙ e))

pub overflow_add-n : goal.overflow_add-n
overflow_add-n c = omega (arith, search-loop-small c.loop-n.invariant c.loop-n-test.true)

pub loop-n-smaller : goal.loop-n-smaller
loop-n-smaller c = omega (arith, search-loop-small c.loop-n.invariant c.loop-n-test.true)

pub loop-n-preserved : goal.loop-n-preserved
loop-n-preserved c =
    search-loop-next c.loop-n.invariant c.loop-n-test.true c.over_lines.ensures
    (sym c.first_differing-in-loop-n.ensures ∙ c.if-first_differing-ne0-2.false)

pub returns : goal.returns
returns c = search-loop-done c.loop-n.invariant c.loop-n-test.false
