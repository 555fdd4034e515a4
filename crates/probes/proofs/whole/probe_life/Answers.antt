-- `probes::whole::probe_life` meets its contract. Its calls' promises are those of the definition.
use Rattle.probes.proofs.ProbeLaws.{life-answer, parts-of, number-of}
use Rattle.probes.proofs.whole.probe_life.Goals as goal

pub shape_of-node_table : goal.shape_of-node_table
shape_of-node_table c =
    c.node_table-1.given

pub returns : goal.returns
returns c =
    life-answer _ _ _ _ c.fresh-fresh.result c.fresh-fresh.ensures.value c.load_at-out.result _ _ c.load_at-out.ensures
    c.start_at-put.result c.start_at-put.ensures c.cancel_at-ended.result c.cancel_at-ended.ensures _ _ _ _
    (number-of _ _ c.call_number-load.ensures) (parts-of _ _ c.parts_in-parts.ensures)
    (number-of _ _ c.call_number-cancel.ensures) c.question_on-again.ensures
