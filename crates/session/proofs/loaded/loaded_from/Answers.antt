-- `session::loaded::loaded_from` meets its contract. N, S and K are those that the headers name.
use Rattle.session.proofs.LoadLaws.{loaded-same}
use Rattle.session.proofs.loaded.loaded_from.Goals as goal

pub returns : goal.returns
returns c =
    loaded-same c.args.plan.now c.args.rules.now _ _ _ _ _
    c.loaded.ensures c.no_last-last.ensures c.read32-n.ensures c.read32-s.ensures c.read32-k.ensures
