-- `with_state` meets its contract.
use Rattle.fewest.proofs.rows.ImageLaws.{member-with}
use Rattle.fewest.proofs.rows.images.with_state.Goals as goal

pub returns : goal.returns
returns c = member-with c.args.states c.args.j c.requires
