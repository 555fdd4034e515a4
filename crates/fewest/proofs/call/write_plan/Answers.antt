-- `write_plan` meets its contract: plan and rules are handed on as parts.
use Rattle.fewest.proofs.call.CallLaws.{parts-given, parts-written}
use Rattle.fewest.proofs.call.write_plan.Goals as goal

pub write_fewest-requires : goal.write_fewest-requires
write_fewest-requires c =
    parts-given c.requires c.inner_count.result c.inner_count.ensures.value

pub returns : goal.returns
returns c =
    let g = c.args in
    parts-written c.requires c.inner_count.result c.inner_count.ensures.value g.mark g.work.now g.nodes.now g.labels.now
    c.write_fewest.result c.write_fewest.new.work c.write_fewest.new.nodes c.write_fewest.new.out c.write_fewest.new.least c.write_fewest.ensures
