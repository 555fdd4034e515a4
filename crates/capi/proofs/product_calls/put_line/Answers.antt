-- `put_line` meets its contract.
use Rattle.capi.proofs.product_calls.LineLaws.{line-written}
use Rattle.capi.proofs.product_calls.put_line.Goals as goal

pub returns : goal.returns
returns c = line-written c.args.at _ _ _ _ c.args.lines.now c.requires.inside
