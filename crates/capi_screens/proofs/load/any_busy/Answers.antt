-- Here, one screen on, and none (AnyLaws).
use Rattle.std.proofs.Common.{◌∙◌, ◌-◌, ◌*◌, refl, sym, arith}
use Rattle.screens.proofs.AnyLaws.{any_here, any-on, any-end}
use Rattle.capi_screens.specs.RunLayout.{busy}
use Rattle.capi_screens.proofs.RestLaws.{busy-part}
use Rattle.capi_screens.proofs.load.any_busy.Goals as goal

pub loop-i-init : goal.loop-i-init
loop-i-init c = refl

pub returns-then-is_busy : goal.returns-then-is_busy
returns-then-is_busy c =
    let b = c.args.records.now in
    let l = c.loop-i in
    any_here (busy b) l.i (omega arith)
    (sym (busy-part b (983 * (l.i - 1)) _ c.is_busy.ensures) ∙ c.if-is_busy.true) l.invariant

pub loop-i-preserved : goal.loop-i-preserved
loop-i-preserved c =
    let b = c.args.records.now in
    let l = c.loop-i in
    any-on (busy b) l.i (omega arith)
    (sym (busy-part b (983 * (l.i - 1)) _ c.is_busy.ensures) ∙ c.if-is_busy.false) l.invariant

pub returns : goal.returns
returns c = any-end _ c.loop-i.i (omega arith) c.loop-i.invariant
