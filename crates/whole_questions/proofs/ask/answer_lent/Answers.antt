-- The headers give N, S and K; the roots that are left go to the answer.
use Rattle.std.proofs.Common.{arith}
use borrow.Author.Tests.{not-true, not-false}
use Rattle.whole_questions.proofs.AskChecks.{passed_are}
use Rattle.whole_questions.proofs.AnswerLaws.{lent-passed, lent-lost, root-args, lent-answer}
use Rattle.whole_questions.proofs.ask.answer_lent.Goals as goal

pub read32-n-requires : goal.read32-n-requires
read32-n-requires c = omega (arith, (passed_are _ _ _ _ _ _ c.requires.passed).headed.headers.plan-long)

pub read32-s-requires : goal.read32-s-requires
read32-s-requires c = omega (arith, (passed_are _ _ _ _ _ _ c.requires.passed).headed.headers.table-long)

pub read32-k-requires : goal.read32-k-requires
read32-k-requires c = omega (arith, (passed_are _ _ _ _ _ _ c.requires.passed).headed.headers.table-long)

pub roots_left-found-requires : goal.roots_left-found-requires
roots_left-found-requires c =
    let h = (lent-passed _ _ _ _ _ _ c.requires c.read32-n.result c.read32-s.result c.read32-k.result
    c.read32-n.ensures c.read32-s.ensures c.read32-k.ensures).headed in
    record {
      most = omega (arith, h.headers.in-limits.most, c.read32-n.ensures);
      labels = omega (arith, h.plan_exact, c.read32-n.ensures);
      numbers = omega (arith, h.node_table_room, c.read32-n.ensures);
    }

pub returns-then-not-found : goal.returns-then-not-found
returns-then-not-found c =
    lent-lost _ _ _ _ _ _ c.requires c.read32-n.result c.read32-s.result c.read32-k.result c.read32-n.ensures
    c.read32-s.ensures c.read32-k.ensures c.roots_left-found.result c.roots_left-found.ensures (not-true _ c.if-not-found.true)

pub answer_roots-requires : goal.answer_roots-requires
answer_roots-requires c =
    root-args _ _ _ _ _ _ c.requires c.read32-n.result c.read32-s.result c.read32-k.result c.read32-n.ensures
    c.read32-s.ensures c.read32-k.ensures c.roots_left-found.result c.roots_left-found.ensures (not-false _ c.if-not-found.false)

pub returns : goal.returns
returns c =
    lent-answer _ _ _ _ _ _ c.requires c.read32-n.result c.read32-s.result c.read32-k.result c.read32-n.ensures
    c.read32-s.ensures c.read32-k.ensures c.roots_left-found.result c.roots_left-found.ensures (not-false _ c.if-not-found.false)
    _ c.answer_roots.ensures
