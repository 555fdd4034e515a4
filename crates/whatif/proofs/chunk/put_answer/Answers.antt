use Rattle.std.proofs.Common.{ℕ, List, take, subst, ◌∙◌}
use Rattle.formats.specs.Inputs.{inputs_of}
use Rattle.session.specs.Answers.{read_answer}
use Rattle.whatif.specs.Text.{Put}
use Rattle.whatif.proofs.ClearedLaws.{cleared-answer}
use Rattle.whatif.proofs.StreamLaws.{kept_line}
use Rattle.whatif.proofs.chunk.put_answer.Goals as goal

pub returns-clause-put : goal.returns-clause-put
returns-clause-put c =
    let a = c.args in
    let k = c.kept_changes-k in
    let n = c.nodes_in-nodes in
    let l = c.labels_in-labels in
    let q = c.ask-answer in
    let x = inputs_of a.plan.now a.rules.now a.node_table.now a.state_table.now in
    let e =
    kept_line a.asked.now k.result c.requires.asked_len k.ensures.0 a.plan.now a.rules.now n.result l.result
    (read_answer q.result) n.ensures.result_value l.ensures.result_value
    (q.ensures ∙ cleared-answer a.loaded x (take k.result n.result) (take k.result l.result) c.requires.cleared) in
    subst (λ (t : List ℕ). Put a.out.now a.end t c.put_line.new.out c.put_line.result) e c.put_line.ensures.put
