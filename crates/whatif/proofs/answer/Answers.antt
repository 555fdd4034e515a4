use Rattle.std.proofs.Common.{ℕ, [], ◌≡◌, true, false, length, take, refl, sym, ap, subst, ◌∙◌, arith}
use Rattle.std.specs.Io.KnownBytes.{Appends}
use Rattle.std.specs.Option.{IfSome}
use Rattle.whatif.specs.Said.{too_large_line, said_on, said_after}
use Rattle.whatif.specs.Told.{AppendsFront}
use Rattle.whatif.proofs.SaidLaws.{too-large-by, said-too-large, too-large-said, in-limits-said}
use Rattle.whatif.proofs.SaidLaws.{asked-none, asked-stated, asked-all}
use Rattle.whatif.proofs.ToldLaws.{says-failed}
use Rattle.whatif.proofs.PartLaws.{text-always, parts-known}
use Rattle.whatif.proofs.answer.Goals as goal

pub send_too_large-requires : goal.send_too_large-requires
send_too_large-requires g c =
    let h = c.args.head.now in
    said-too-large h
    (too-large-by h _ _ _ true c.length_at-plan_length.ensures.0 c.length_at-rules_length.ensures.0 c.is_too_large.ensures
    c.if-is_too_large.true)

pub returns-in_err-sent-clause-says : goal.returns-in_err-sent-clause-says
returns-in_err-sent-clause-says g c =
    let h = c.args.head.now in
    let known = g.R.Read.remaining c.args.input.now in
    let a = g.W.Write.contents c.args.output.now in
    let b = g.W.Write.contents c.send_too_large.new.output in
    let t =
    too-large-by h _ _ _ true c.length_at-plan_length.ensures.0 c.length_at-rules_length.ensures.0 c.is_too_large.ensures
    c.if-is_too_large.true in
    says-failed known a b c.from_residual.result (said_after h) c.from_residual.ensures.0
    (text-always (AppendsFront a b) known (said_after h) too_large_line (λ w. too-large-said h _ _ _ t) c.in_err-sent.ensures.written)

pub returns-then-is_too_large-clause-answered : goal.returns-then-is_too_large-clause-answered
returns-then-is_too_large-clause-answered g c =
    let h = c.args.head.now in
    let t =
    too-large-by h _ _ _ true c.length_at-plan_length.ensures.0 c.length_at-rules_length.ensures.0 c.is_too_large.ensures
    c.if-is_too_large.true in
    record {
      questions = [];
      count = refl;
      all = c.in_ok-sent.ensures.len ∙ sym (ap length (too-large-said h [] [] [] t));
      plan_most = omega arith;
      rules_most = omega arith;
      came_most = omega arith;
    }

pub returns-then-is_too_large-clause-asked_for : goal.returns-then-is_too_large-clause-asked_for
returns-then-is_too_large-clause-asked_for g c =
    let h = c.args.head.now in
    asked-none h
    (too-large-by h _ _ _ true c.length_at-plan_length.ensures.0 c.length_at-rules_length.ensures.0 c.is_too_large.ensures
    c.if-is_too_large.true)

pub returns-then-is_too_large-clause-says : goal.returns-then-is_too_large-clause-says
returns-then-is_too_large-clause-says g c =
    let h = c.args.head.now in
    let known = g.R.Read.remaining c.args.input.now in
    let a = g.W.Write.contents c.args.output.now in
    let b = g.W.Write.contents c.send_too_large.new.output in
    let t =
    too-large-by h _ _ _ true c.length_at-plan_length.ensures.0 c.length_at-rules_length.ensures.0 c.is_too_large.ensures
    c.if-is_too_large.true in
    text-always (Appends a b) known (said_after h) too_large_line (λ w. too-large-said h _ _ _ t) c.in_ok-sent.ensures.written

pub returns-in_err-heard-clause-says : goal.returns-in_err-heard-clause-says
returns-in_err-heard-clause-says g c =
    let h = c.args.head.now in
    let p = c.in_ok-plan_got.plan_got in
    let r = c.in_ok-rules_got.rules_got in
    let ps = take p.count c.read_whole.new.space in
    let rs = take r.count c.read_whole-2.new.space in
    let b = c.length_at-plan_length.ensures.0 in
    let d = c.length_at-rules_length.ensures.0 in
    let t = too-large-by h _ _ _ false b d c.is_too_large.ensures c.if-is_too_large.false in
    let A =
    asked-all h p.asked r.asked t
    (asked-stated h _ _ _ _ _ _ t c.in_ok-plan_got.ensures.asked_value b c.requires.0 c.in_ok-rules_got.ensures.asked_value d
    c.requires.1) in
    let n : p.count ≡ length ps = c.in_ok-plan_got.ensures.prefix_len.1 in
    let m : r.count ≡ length rs = c.in_ok-rules_got.ensures.prefix_len.1 in
    let known = g.R.Read.remaining c.args.input.now in
    let old = g.W.Write.contents c.args.output.now in
    let new = g.W.Write.contents c.clear.new.output in
    let told =
    subst (λ (k : ℕ). IfSome (g.R.Read.remaining c.read_whole-2.new.input) (λ w. AppendsFront old new (said_on ps rs (take k w))))
    c.length_at.ensures.0 c.in_err-heard.ensures.says in
    says-failed known old new c.from_residual-in_err-heard.result (said_after h) c.from_residual-in_err-heard.ensures.0
    (parts-known (AppendsFront old new) known (g.R.Read.remaining c.read_whole.new.input)
    (g.R.Read.remaining c.read_whole-2.new.input) h ps rs t c.in_ok-plan_got.ensures.taken c.in_ok-rules_got.ensures.taken
    (omega (arith, c.in_ok-plan_got.ensures.count_le_asked)) (λ k. c.in_ok-plan_got.ensures.ended (omega (arith, k)))
    (omega (arith, c.in_ok-rules_got.ensures.count_le_asked)) (λ k. c.in_ok-rules_got.ensures.ended (omega (arith, k))) told)

pub returns-clause-answered : goal.returns-clause-answered
returns-clause-answered g c =
    let h = c.args.head.now in
    let p = c.in_ok-plan_got.plan_got in
    let r = c.in_ok-rules_got.rules_got in
    let ps = take p.count c.read_whole.new.space in
    let rs = take r.count c.read_whole-2.new.space in
    let b = c.length_at-plan_length.ensures.0 in
    let d = c.length_at-rules_length.ensures.0 in
    let t = too-large-by h _ _ _ false b d c.is_too_large.ensures c.if-is_too_large.false in
    let A =
    asked-all h p.asked r.asked t
    (asked-stated h _ _ _ _ _ _ t c.in_ok-plan_got.ensures.asked_value b c.requires.0 c.in_ok-rules_got.ensures.asked_value d
    c.requires.1) in
    let n : p.count ≡ length ps = c.in_ok-plan_got.ensures.prefix_len.1 in
    let m : r.count ≡ length rs = c.in_ok-rules_got.ensures.prefix_len.1 in
    record {
      questions = c.in_ok-heard.ensures.answered_on.questions;
      count = c.in_ok-heard.ensures.answered_on.count;
      all = c.in_ok-heard.ensures.answered_on.all ∙ sym (ap length (in-limits-said h ps rs c.in_ok-heard.ensures.answered_on.questions t));
      plan_most = omega (arith, c.in_ok-plan_got.ensures.count_le_asked);
      rules_most = omega (arith, c.in_ok-rules_got.ensures.count_le_asked);
      came_most = omega (arith, c.in_ok-heard.ensures.came_le_stated, c.length_at.ensures.0);
    }

pub returns-clause-asked_for : goal.returns-clause-asked_for
returns-clause-asked_for g c =
    let h = c.args.head.now in
    let b = c.length_at-plan_length.ensures.0 in
    let d = c.length_at-rules_length.ensures.0 in
    let t = too-large-by h _ _ _ false b d c.is_too_large.ensures c.if-is_too_large.false in
    asked-stated h _ _ _ _ _ _ t c.in_ok-plan_got.ensures.asked_value b c.requires.0 c.in_ok-rules_got.ensures.asked_value d
    c.requires.1

pub returns-clause-says : goal.returns-clause-says
returns-clause-says g c =
    let h = c.args.head.now in
    let p = c.in_ok-plan_got.plan_got in
    let r = c.in_ok-rules_got.rules_got in
    let ps = take p.count c.read_whole.new.space in
    let rs = take r.count c.read_whole-2.new.space in
    let b = c.length_at-plan_length.ensures.0 in
    let d = c.length_at-rules_length.ensures.0 in
    let t = too-large-by h _ _ _ false b d c.is_too_large.ensures c.if-is_too_large.false in
    let A =
    asked-all h p.asked r.asked t
    (asked-stated h _ _ _ _ _ _ t c.in_ok-plan_got.ensures.asked_value b c.requires.0 c.in_ok-rules_got.ensures.asked_value d
    c.requires.1) in
    let n : p.count ≡ length ps = c.in_ok-plan_got.ensures.prefix_len.1 in
    let m : r.count ≡ length rs = c.in_ok-rules_got.ensures.prefix_len.1 in
    let known = g.R.Read.remaining c.args.input.now in
    let old = g.W.Write.contents c.args.output.now in
    let new = g.W.Write.contents c.clear.new.output in
    let told =
    subst (λ (k : ℕ). IfSome (g.R.Read.remaining c.read_whole-2.new.input) (λ w. Appends old new (said_on ps rs (take k w))))
    c.length_at.ensures.0 c.in_ok-heard.ensures.says in
    parts-known (Appends old new) known (g.R.Read.remaining c.read_whole.new.input) (g.R.Read.remaining c.read_whole-2.new.input) h
    ps rs t c.in_ok-plan_got.ensures.taken c.in_ok-rules_got.ensures.taken
    (omega (arith, c.in_ok-plan_got.ensures.count_le_asked)) (λ k. c.in_ok-plan_got.ensures.ended (omega (arith, k)))
    (omega (arith, c.in_ok-rules_got.ensures.count_le_asked)) (λ k. c.in_ok-rules_got.ensures.ended (omega (arith, k))) told
