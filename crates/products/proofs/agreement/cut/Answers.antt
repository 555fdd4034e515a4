-- The four fronts are the columns of the lines.
use Rattle.products.proofs.agreement.ReplyLaws.{cut-reply}
use Rattle.products.proofs.agreement.cut.Goals as goal

pub returns : goal.returns
returns c = cut-reply c.requires c.front.ensures c.front-2.ensures c.front-3.ensures c.front-4.ensures
