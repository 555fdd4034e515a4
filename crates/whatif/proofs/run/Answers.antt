use Rattle.std.proofs.Common.{◌≡◌, length, take, arith}
use Rattle.std.specs.Io.KnownBytes.{Appends}
use Rattle.whatif.specs.Said.{said}
use Rattle.whatif.specs.Told.{AppendsFront}
use Rattle.whatif.proofs.ToldLaws.{says-failed}
use Rattle.whatif.proofs.PartLaws.{head-known}
use Rattle.whatif.proofs.run.Goals as goal

pub returns-in_err-rest-clause-says : goal.returns-in_err-rest-clause-says
returns-in_err-rest-clause-says g c =
    let known = g.R.Read.remaining c.args.input.now in
    let a = g.W.Write.contents c.args.output.now in
    let b = g.W.Write.contents c.answer.new.output in
    let n = c.in_ok-got.got.count in
    let h = take n c.read_whole.new.space in
    let l : n ≡ length h = c.in_ok-got.ensures.prefix_len.1 in
    says-failed known a b c.from_residual-in_err-rest.result said c.from_residual-in_err-rest.ensures.0
    (head-known (AppendsFront a b) known (g.R.Read.remaining c.read_whole.new.input) h c.in_ok-got.ensures.taken
    (omega (arith, c.in_ok-got.ensures.count_le_asked, c.in_ok-got.ensures.asked_value))
    (λ k. c.in_ok-got.ensures.ended (omega (arith, k, c.in_ok-got.ensures.asked_value))) c.in_err-rest.ensures.says)

pub returns-clause-says : goal.returns-clause-says
returns-clause-says g c =
    let a = g.W.Write.contents c.args.output.now in
    let b = g.W.Write.contents c.answer.new.output in
    let n = c.in_ok-got.got.count in
    let h = take n c.read_whole.new.space in
    let l : n ≡ length h = c.in_ok-got.ensures.prefix_len.1 in
    head-known (Appends a b) (g.R.Read.remaining c.args.input.now) (g.R.Read.remaining c.read_whole.new.input) h
    c.in_ok-got.ensures.taken (omega (arith, c.in_ok-got.ensures.count_le_asked, c.in_ok-got.ensures.asked_value))
    (λ k. c.in_ok-got.ensures.ended (omega (arith, k, c.in_ok-got.ensures.asked_value))) c.in_ok-rest.ensures.says
