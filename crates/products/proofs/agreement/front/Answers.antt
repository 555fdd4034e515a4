-- The result is the first n entries of the array, and zeros behind them.
use Rattle.products.proofs.agreement.ReplyLaws.{front_is}
use Rattle.products.proofs.agreement.front.Goals as goal

pub returns : goal.returns
returns c = front_is c.args.a.now c.args.n _ c.requires c.copy_from_slice.ensures.after
