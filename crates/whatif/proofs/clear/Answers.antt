use Rattle.std.proofs.Common.{ℕ, List, [], length, take, refl, sym, ap, ◌∙◌}
use Rattle.std.specs.Io.KnownBytes.{Appends}
use Rattle.whatif.specs.Line.{refused_line}
use Rattle.whatif.specs.Stream.{question_line, lines_by}
use Rattle.whatif.specs.Said.{said_on}
use Rattle.whatif.specs.Told.{AppendsFront}
use Rattle.whatif.proofs.ClearedLaws.{load-cleared}
use Rattle.whatif.proofs.SaidLaws.{loaded-said, refused-said}
use Rattle.whatif.proofs.ToldLaws.{says-failed}
use Rattle.whatif.proofs.PartLaws.{text-known, text-always}
use Rattle.whatif.proofs.clear.Goals as goal

pub put_questions-requires-clause-cleared : goal.put_questions-requires-clause-cleared
put_questions-requires-clause-cleared g c =
    let d = c.load-done.result in
    load-cleared c.fresh-fresh.result d.session c.args.plan.now c.args.rules.now c.node_table_space-node_table.result
    c.state_table_space-state_table.result _ _ d.answer _ c.fresh-fresh.ensures.value c.in-Ok.is c.load-done.ensures

pub returns-in_err-turn-in-Ok-clause-says : goal.returns-in_err-turn-in-Ok-clause-says
returns-in_err-turn-in-Ok-clause-says g c =
    let p = c.args.plan.now in
    let r = c.args.rules.now in
    let d = c.load-done.result in
    let known = g.R.Read.remaining c.args.input.now in
    let a = g.W.Write.contents c.args.output.now in
    let b = g.W.Write.contents c.put_questions.new.output in
    says-failed known a b c.from_residual.result (λ (w : List ℕ). said_on p r (take c.args.stated w)) c.from_residual.ensures.0
    (text-known (AppendsFront a b) known (λ (w : List ℕ). said_on p r (take c.args.stated w))
    (λ (w : List ℕ). lines_by (question_line p r) [] (take c.args.stated w))
    (λ w. sym (loaded-said p r c.node_table_space-node_table.result c.state_table_space-state_table.result c.fresh-fresh.result
    d.session _ _ d.answer c.fresh-fresh.ensures.value c.load-done.ensures _ c.in-Ok.is (take c.args.stated w)))
    c.in_err-turn-in-Ok.ensures.says)

pub returns-in_ok-turn-in-Ok-clause-answered_on : goal.returns-in_ok-turn-in-Ok-clause-answered_on
returns-in_ok-turn-in-Ok-clause-answered_on g c =
    let d = c.load-done.result in
    let s =
    loaded-said c.args.plan.now c.args.rules.now c.node_table_space-node_table.result c.state_table_space-state_table.result
    c.fresh-fresh.result d.session _ _ d.answer c.fresh-fresh.ensures.value c.load-done.ensures _ c.in-Ok.is
    c.in_ok-turn-in-Ok.ensures.progress.questions in
    record {
      questions = c.in_ok-turn-in-Ok.ensures.progress.questions;
      count = c.in_ok-turn-in-Ok.ensures.progress.count;
      all = c.in_ok-turn-in-Ok.ensures.progress.lines ∙ sym (ap length s);
    }

pub returns-in_ok-turn-in-Ok-clause-says : goal.returns-in_ok-turn-in-Ok-clause-says
returns-in_ok-turn-in-Ok-clause-says g c =
    let p = c.args.plan.now in
    let r = c.args.rules.now in
    let d = c.load-done.result in
    let a = g.W.Write.contents c.args.output.now in
    let b = g.W.Write.contents c.put_questions.new.output in
    text-known (Appends a b) (g.R.Read.remaining c.args.input.now) (λ (w : List ℕ). said_on p r (take c.args.stated w))
    (λ (w : List ℕ). lines_by (question_line p r) [] (take c.args.stated w))
    (λ w. sym (loaded-said p r c.node_table_space-node_table.result c.state_table_space-state_table.result c.fresh-fresh.result
    d.session _ _ d.answer c.fresh-fresh.ensures.value c.load-done.ensures _ c.in-Ok.is (take c.args.stated w)))
    c.in_ok-turn-in-Ok.ensures.says

pub send_load_refusal-requires : goal.send_load_refusal-requires
send_load_refusal-requires g c =
    let d = c.load-done.result in
    λ qs. refused-said c.args.plan.now c.args.rules.now c.node_table_space-node_table.result
    c.state_table_space-state_table.result c.fresh-fresh.result d.session _ _ d.answer c.fresh-fresh.ensures.value
    c.load-done.ensures _ c.in-Err.is c.requires.plan_len_bound c.node_table_space-node_table.ensures
    c.state_table_space-state_table.ensures qs ∙ ap refused_line (sym c.number.ensures)

pub returns-in_err-sent-in-Err-clause-says : goal.returns-in_err-sent-in-Err-clause-says
returns-in_err-sent-in-Err-clause-says g c =
    let p = c.args.plan.now in
    let r = c.args.rules.now in
    let d = c.load-done.result in
    let known = g.R.Read.remaining c.args.input.now in
    let a = g.W.Write.contents c.args.output.now in
    let b = g.W.Write.contents c.send_load_refusal.new.output in
    says-failed known a b c.from_residual-in_err-sent-in-Err.result (λ (w : List ℕ). said_on p r (take c.args.stated w))
    c.from_residual-in_err-sent-in-Err.ensures.0
    (text-always (AppendsFront a b) known (λ (w : List ℕ). said_on p r (take c.args.stated w)) (refused_line c.number.result)
    (λ w. refused-said p r c.node_table_space-node_table.result c.state_table_space-state_table.result c.fresh-fresh.result d.session
    _ _ d.answer c.fresh-fresh.ensures.value c.load-done.ensures _ c.in-Err.is c.requires.plan_len_bound
    c.node_table_space-node_table.ensures c.state_table_space-state_table.ensures (take c.args.stated w) ∙ ap refused_line (sym c.number.ensures))
    c.in_err-sent-in-Err.ensures.written)

pub returns-in_ok-sent-in-Err-clause-answered_on : goal.returns-in_ok-sent-in-Err-clause-answered_on
returns-in_ok-sent-in-Err-clause-answered_on g c =
    let d = c.load-done.result in
    let s =
    refused-said c.args.plan.now c.args.rules.now c.node_table_space-node_table.result c.state_table_space-state_table.result
    c.fresh-fresh.result d.session _ _ d.answer c.fresh-fresh.ensures.value c.load-done.ensures _ c.in-Err.is
    c.requires.plan_len_bound c.node_table_space-node_table.ensures c.state_table_space-state_table.ensures [] ∙ ap refused_line (sym c.number.ensures) in
    record { questions = []; count = refl; all = c.in_ok-sent-in-Err.ensures.len ∙ sym (ap length s) }

pub returns-in_ok-sent-in-Err-clause-says : goal.returns-in_ok-sent-in-Err-clause-says
returns-in_ok-sent-in-Err-clause-says g c =
    let p = c.args.plan.now in
    let r = c.args.rules.now in
    let d = c.load-done.result in
    let a = g.W.Write.contents c.args.output.now in
    let b = g.W.Write.contents c.send_load_refusal.new.output in
    text-always (Appends a b) (g.R.Read.remaining c.args.input.now) (λ (w : List ℕ). said_on p r (take c.args.stated w))
    (refused_line c.number.result)
    (λ w. refused-said p r c.node_table_space-node_table.result c.state_table_space-state_table.result c.fresh-fresh.result d.session
    _ _ d.answer c.fresh-fresh.ensures.value c.load-done.ensures _ c.in-Err.is c.requires.plan_len_bound
    c.node_table_space-node_table.ensures c.state_table_space-state_table.ensures (take c.args.stated w) ∙ ap refused_line (sym c.number.ensures))
    c.in_ok-sent-in-Err.ensures.written
