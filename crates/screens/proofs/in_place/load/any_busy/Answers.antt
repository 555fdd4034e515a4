-- Here, one screen on, and none (AnyLaws).
use Rattle.std.proofs.Common.{◌≡◌, ◌∙◌, ◌-◌, length, refl, sym, arith}
use borrow.Kind.Array.{e_struct, good_length}
use Rattle.session.specs.contracts.state.Session as T
use Rattle.session.proofs.state.Session.TheLaws as T'
use Rattle.screens.proofs.AnyLaws.{any_here, any-on, any-end}
use Rattle.screens.proofs.in_place.BusyLaws.{busy-at}
use Rattle.screens.proofs.in_place.load.any_busy.Goals as goal

pub loop-i-init : goal.loop-i-init
loop-i-init c = refl

pub returns-then-is_busy : goal.returns-then-is_busy
returns-then-is_busy c =
    let l = c.loop-i in
    let e : length c.args.all ≡ 8 = good_length (e_struct T.the_type T'.the_laws T'.the_copy) 8 c.args.all _ c.well_formed.0 in
    any_here _ l.i (omega arith)
    (busy-at c.args.all (l.i - 1) _ e (omega arith) ∙ sym c.is_busy.ensures ∙ c.if-is_busy.true) l.invariant

pub loop-i-preserved : goal.loop-i-preserved
loop-i-preserved c =
    let l = c.loop-i in
    let e : length c.args.all ≡ 8 = good_length (e_struct T.the_type T'.the_laws T'.the_copy) 8 c.args.all _ c.well_formed.0 in
    any-on _ l.i (omega arith)
    (busy-at c.args.all (l.i - 1) _ e (omega arith) ∙ sym c.is_busy.ensures ∙ c.if-is_busy.false) l.invariant

pub returns : goal.returns
returns c = any-end _ c.loop-i.i (omega arith) c.loop-i.invariant
