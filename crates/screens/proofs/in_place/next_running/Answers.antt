-- No such screen; and the search: here, one screen on, and nowhere (FoundLaws).
use Rattle.std.proofs.Common.{◌+◌, ◌-◌, ◌∙◌, refl, sym, arith}
use Rattle.screens.proofs.FoundLaws.{found-beyond, found_here, found-on, found_nothing}
use Rattle.screens.proofs.in_place.next_running.Goals as goal

pub returns-then-first-gt-LAST_SCREEN : goal.returns-then-first-gt-LAST_SCREEN
returns-then-first-gt-LAST_SCREEN c = found-beyond _ _ c.if-first-gt-LAST_SCREEN.true

pub loop-init : goal.loop-init
loop-init c = (omega arith, refl)

pub returns-then-is_running : goal.returns-then-is_running
returns-then-is_running c =
    let l = c.loop in
    found_here _ _ (8 - l.counter) l.at (omega arith) (omega arith) l.invariant.1
    (sym c.is_running.ensures ∙ c.if-is_running.true)

pub loop-preserved : goal.loop-preserved
loop-preserved c =
    let l = c.loop in
    let a = c.one_past-at.ensures in (
      a.1,
      rw a.0 (found-on _ (8 - l.counter) (8 - (l.counter + 1)) l.at _ (omega arith) l.invariant.1
          (sym c.is_running.ensures ∙ c.if-is_running.false)),
    )

pub returns : goal.returns
returns c =
    let l = c.loop in
    found_nothing _ _ (8 - l.counter) l.at (omega arith) (omega arith) l.invariant.1
