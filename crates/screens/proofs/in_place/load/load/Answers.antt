-- `screens::in_place::load::load` meets its contract.
use mathlib.Core.Path.{sym, ◌∙◌}
use borrow.Kind.Array.{e_struct, good_length}
use Rattle.session.specs.contracts.state.Session as T
use Rattle.session.proofs.state.Session.TheLaws as T'
use Rattle.screens.proofs.in_place.LoadAllLaws.{one-busy, cleared, turned_down}
use Rattle.screens.proofs.in_place.load.load.Goals as goal

pub returns-then-any_busy : goal.returns-then-any_busy
returns-then-any_busy c =
    one-busy _ _ (good_length (e_struct T.the_type T'.the_laws T'.the_copy) 8 c.args.all _ c.well_formed.0)
    (sym c.any_busy.ensures ∙ c.if-any_busy.true)

pub returns-in-Ok : goal.returns-in-Ok
returns-in-Ok c =
    cleared _ _ _ (good_length (e_struct T.the_type T'.the_laws T'.the_copy) 8 c.args.all _ c.well_formed.0)
    (sym c.any_busy.ensures ∙ c.if-any_busy.false) _ _ _ _
    c.load-out.ensures _ c.in-Ok.is

pub returns-in-Err : goal.returns-in-Err
returns-in-Err c =
    turned_down _ _ _ (good_length (e_struct T.the_type T'.the_laws T'.the_copy) 8 c.args.all _ c.well_formed.0)
    (sym c.any_busy.ensures ∙ c.if-any_busy.false) _ _ _ _
    c.load-out.ensures _ c.in-Err.is
