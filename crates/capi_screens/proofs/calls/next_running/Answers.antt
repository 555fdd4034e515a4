-- The search: here, one screen on, and nowhere (FoundLaws).
use Rattle.std.proofs.Common.{◌+◌, ◌-◌, refl, arith}
use Rattle.screens.proofs.FoundLaws.{found_here, found-on, found_nothing}
use Rattle.capi_screens.proofs.ExportedLaws.{runs_here, rests-here}
use Rattle.capi_screens.proofs.calls.next_running.Goals as goal

pub loop-init : goal.loop-init
loop-init c = (c.requires.1, refl)

pub returns-then-records-at-eq2 : goal.returns-then-records-at-eq2
returns-then-records-at-eq2 c =
    let l = c.loop in
    found_here _ _ (8 - l.counter) l.at c.requires.1 (omega arith) l.invariant.1
    (runs_here _ l.at c.if-records-at-eq2.true)

pub loop-preserved : goal.loop-preserved
loop-preserved c =
    let l = c.loop in
    let a = c.one_past-at.ensures in (
      a.1,
      rw a.0 (found-on _ (8 - l.counter) (8 - (l.counter + 1)) l.at _ (omega arith) l.invariant.1
          (rests-here _ l.at c.if-records-at-eq2.false)),
    )

pub returns : goal.returns
returns c =
    let l = c.loop in
    found_nothing _ _ (8 - l.counter) l.at c.requires.1 (omega arith) l.invariant.1
