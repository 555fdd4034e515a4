-- `session::valid::no_question` meets its contract. Each test is one of the definition's.
use Rattle.session.specs.declared.state.Session.{Session}
use Rattle.session.specs.Records.{whole}
use Rattle.session.proofs.ValidLaws.{question-test}
use borrow.Author.Rules.{rules}
use Rattle.session.proofs.valid.no_question.Statement.{statement}
use Rattle.session.proofs.valid.no_question.Tie as tie

abbrev of : tie.Start → Session
of a = whole a.args.h a.args.nodes.now a.args.labels.now a.args.roots.now a.args.states.now

returns : tie.Need-returns
returns c =
    question-test (of c.before.before.before.before.before.before.before.before.before.before.before.before.before) _ _ _ c.zero_pairs.ensures c.zeros.ensures c.zero_bytes.ensures

pub no_question_spec : {M : Type 1} → statement M
no_question_spec =
    tie.close
    (tie.spec (λ c κs. search rules) (λ c κs. search rules) (λ c κs. search rules) returns)
