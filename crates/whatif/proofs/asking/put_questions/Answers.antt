use Rattle.std.proofs.Common.{ℕ, List, [], ◌<◌, length, take, sym, ◌∙◌, arith}
use lib.Seq.{length-take-le}
use Rattle.whatif.specs.Stream.{question_line, lines_by}
use Rattle.whatif.proofs.ToldLaws.{says-failed}
use Rattle.whatif.proofs.TurnLaws.{going-progress, heard_start, heard_on, heard-said, heard-failed}
use Rattle.whatif.proofs.asking.put_questions.Goals as goal

pub loop-turn-init : goal.loop-turn-init
loop-turn-init g c = record {
  heard = heard_start (question_line c.args.plan.now c.args.rules.now) _ _ _ _ c.asked_space-asked.ensures c.requires.stated_bound;
  chunk_room = c.chunk_space-chunk.ensures;
  out_room = c.lines_space-out.ensures;
}

pub returns-in_err-turn-clause-says : goal.returns-in_err-turn-clause-says
returns-in_err-turn-clause-says g c =
    let f = question_line c.args.plan.now c.args.rules.now in
    says-failed (g.R.Read.remaining c.args.input.now) (g.W.Write.contents c.args.output.now)
    (g.W.Write.contents c.some_questions.new.output) c.from_residual.result
    (λ (w : List ℕ). lines_by f [] (take c.args.stated w)) c.from_residual.ensures.0
    (heard-failed {f = f} _ _ _ _ _ c.loop-turn.invariant.heard c.in_err-turn.ensures.failed)

pub returns-then-turn-eq0-clause-progress : goal.returns-then-turn-eq0-clause-progress
returns-then-turn-eq0-clause-progress g c =
    let n = sym (length-take-le _ _ c.in_ok-turn.ensures.came_in_bounds.0) in
    let h =
    heard_on {f = question_line c.args.plan.now c.args.rules.now} c.in_ok-turn.turn.came c.loop-turn.invariant.heard c.in_ok-turn.ensures.advances n c.in_ok-turn.ensures.came_value.0
    c.in_ok-turn.ensures.came_value.1 c.in_ok-turn.ensures.have_bound.0 c.in_ok-turn.ensures.have_bound.1
    c.in_ok-turn.ensures.taken c.in_ok-turn.ensures.written in
    (going-progress h.going).1

pub returns-then-turn-eq0-clause-says : goal.returns-then-turn-eq0-clause-says
returns-then-turn-eq0-clause-says g c =
    let n = sym (length-take-le _ _ c.in_ok-turn.ensures.came_in_bounds.0) in
    let h =
    heard_on {f = question_line c.args.plan.now c.args.rules.now} c.in_ok-turn.turn.came c.loop-turn.invariant.heard c.in_ok-turn.ensures.advances n c.in_ok-turn.ensures.came_value.0
    c.in_ok-turn.ensures.came_value.1 c.in_ok-turn.ensures.have_bound.0 c.in_ok-turn.ensures.have_bound.1
    c.in_ok-turn.ensures.taken c.in_ok-turn.ensures.written in
    let room : 0 < length c.loop-turn.chunk = omega (arith, c.loop-turn.invariant.chunk_room) in
    heard-said {f = question_line c.args.plan.now c.args.rules.now} _ _ _ _ h (λ l. c.in_ok-turn.ensures.ended c.if-turn-eq0.true c.loop-turn-test.true room)

pub loop-turn-preserved : goal.loop-turn-preserved
loop-turn-preserved g c =
    let n = sym (length-take-le _ _ c.in_ok-turn.ensures.came_in_bounds.0) in record {
      heard =
          heard_on {f = question_line c.args.plan.now c.args.rules.now} c.in_ok-turn.turn.came c.loop-turn.invariant.heard c.in_ok-turn.ensures.advances n
          c.in_ok-turn.ensures.came_value.0 c.in_ok-turn.ensures.came_value.1 c.in_ok-turn.ensures.have_bound.0
          c.in_ok-turn.ensures.have_bound.1 c.in_ok-turn.ensures.taken c.in_ok-turn.ensures.written;
      chunk_room = c.in_ok-turn.ensures.came_in_bounds.1 ∙ c.loop-turn.invariant.chunk_room;
      out_room = c.some_questions.auto.out ∙ c.loop-turn.invariant.out_room;
    }

pub returns-clause-says : goal.returns-clause-says
returns-clause-says g c = heard-said {f = question_line c.args.plan.now c.args.rules.now} _ _ _ _ c.loop-turn.invariant.heard (λ l. absurd (omega arith))
