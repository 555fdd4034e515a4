use Rattle.std.proofs.Common.{ℕ, List, ◌≤◌, length, take, subst, arith, length-take}
use lib.Seq.{take-take}
use Rattle.std.specs.Io.KnownBytes.{Appends, Consumes}
use Rattle.whatif.specs.Stream.{question_line, lines_by, Buffered}
use Rattle.whatif.proofs.ToldLaws.{nothing-written, on-error}
use Rattle.whatif.proofs.TurnLaws.{lines-sent, chunk-text, lines-failed}
use Rattle.whatif.proofs.asking.some_questions.Goals as goal

pub returns-in_err-n-clause-failed : goal.returns-in_err-n-clause-failed
returns-in_err-n-clause-failed g c =
    let f = question_line c.args.plan.now c.args.rules.now in
    on-error c.from_residual.result _
    (λ (q : List ℕ) (h : Buffered q c.args.asked.now c.args.last.have).
    nothing-written (g.R.Read.remaining c.args.input.now) (g.W.Write.contents c.args.output.now)
    (λ (w : List ℕ). lines_by f q (take c.args.last.left w)))

pub send_lines-requires : goal.send_lines-requires
send_lines-requires g c = lines-sent c.requires.before_value c.take_in-taken.ensures.advances

pub returns-in_err-sent-clause-failed : goal.returns-in_err-sent-clause-failed
returns-in_err-sent-clause-failed g c =
    let f = question_line c.args.plan.now c.args.rules.now in
    let n = c.in_ok-n.n in
    let chunk = c.read_some.new.chunk in
    let left = c.args.last.left in
    let a = g.W.Write.contents c.args.output.now in
    let b = g.W.Write.contents c.send_lines.new.output in
    let l : length (take n chunk) ≤ left = omega (arith, length-take n chunk, c.in_ok-n.ensures.upper_bound) in
    on-error c.from_residual-in_err-sent.result _
    (λ (q : List ℕ) (h : Buffered q c.args.asked.now c.args.last.have).
    lines-failed f (g.R.Read.remaining c.args.input.now) (g.R.Read.remaining c.read_some.new.input) a b q (take n chunk) left
    c.in_err-sent.ensures.written.0 l
    (subst (Consumes (g.R.Read.remaining c.args.input.now) (g.R.Read.remaining c.read_some.new.input))
    (take-take n left chunk c.in_ok-n.ensures.upper_bound) c.in_ok-n.ensures.taken.0)
    (subst (λ (t : List ℕ). Appends a b (take c.in_err-sent.ensures.written.0 t)) (chunk-text q c.take_in-taken.ensures.advances h)
    c.in_err-sent.ensures.written.1))

pub returns-clause-taken : goal.returns-clause-taken
returns-clause-taken g c =
    subst (Consumes (g.R.Read.remaining c.args.input.now) (g.R.Read.remaining c.read_some.new.input))
    (take-take c.in_ok-n.n c.args.last.left c.read_some.new.chunk c.in_ok-n.ensures.upper_bound) c.in_ok-n.ensures.taken.0

pub returns-clause-advances : goal.returns-clause-advances
returns-clause-advances g c = c.take_in-taken.ensures.advances
