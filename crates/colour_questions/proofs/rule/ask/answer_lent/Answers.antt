-- The headers give N, S and K; the roots that are left go to the answer.
use Rattle.std.proofs.Common.{sym, arith}
use lib.Seq.{length-take-le}
use borrow.Author.Tests.{not-true, not-false}
use Rattle.colour_questions.proofs.rule.AskChecks.{passed_are}
use Rattle.colour_questions.proofs.rule.AnswerLaws.{lent-passed, lent-lost, rooted-room, root-args, lent-answer}
use Rattle.colour_questions.proofs.rule.ask.answer_lent.Goals as goal

pub read32-n-requires : goal.read32-n-requires
read32-n-requires c = omega (arith, (passed_are _ _ _ _ _ _ _ _ c.requires.passed).fits.headed.headers.plan-long)

pub read32-s-requires : goal.read32-s-requires
read32-s-requires c = omega (arith, (passed_are _ _ _ _ _ _ _ _ c.requires.passed).fits.headed.headers.table-long)

pub read32-k-requires : goal.read32-k-requires
read32-k-requires c = omega (arith, (passed_are _ _ _ _ _ _ _ _ c.requires.passed).fits.headed.headers.table-long)

pub roots_left-found-requires : goal.roots_left-found-requires
roots_left-found-requires c =
    let h = (lent-passed _ _ _ _ _ _ _ _ c.requires _ _ _ c.read32-n.ensures c.read32-s.ensures
    c.read32-k.ensures).fits.headed in
    record {
      most = omega (arith, h.headers.in-limits.most, c.read32-n.ensures);
      labels = omega (arith, h.plan_exact, c.read32-n.ensures);
      numbers = omega (arith, h.node_table_room, c.read32-n.ensures);
    }

pub returns-then-not-found : goal.returns-then-not-found
returns-then-not-found c = (
  lent-lost _ _ _ _ _ _ _ _ c.requires c.read32-n.result _ _ c.read32-n.ensures c.read32-s.ensures
      c.read32-k.ensures _ c.roots_left-found.ensures (not-true _ c.if-not-found.true),
  tt,
)

pub slice_bounds-list-end : goal.slice_bounds-list-end
slice_bounds-list-end c =
    rooted-room _ _ _ _ _ _ _ _ c.requires _ _ _ c.read32-n.ensures c.read32-s.ensures c.read32-k.ensures _
    c.roots_left-found.ensures (not-false _ c.if-not-found.false)

pub slice_bounds-answer_roots-end : goal.slice_bounds-answer_roots-end
slice_bounds-answer_roots-end c =
    sym (length-take-le _ _ (rooted-room _ _ _ _ _ _ _ _ c.requires _ _ _ c.read32-n.ensures c.read32-s.ensures
    c.read32-k.ensures _ c.roots_left-found.ensures (not-false _ c.if-not-found.false)))

pub answer_roots-requires : goal.answer_roots-requires
answer_roots-requires c =
    root-args _ _ _ _ _ _ _ _ c.requires _ _ _ c.read32-n.ensures c.read32-s.ensures c.read32-k.ensures _
    c.roots_left-found.ensures (not-false _ c.if-not-found.false)

pub returns : goal.returns
returns c = (
  lent-answer _ _ _ _ _ _ _ _ c.requires c.read32-n.result _ _ c.read32-n.ensures c.read32-s.ensures
      c.read32-k.ensures _ c.roots_left-found.ensures (not-false _ c.if-not-found.false)
      _ c.answer_roots.ensures.0,
  c.answer_roots.ensures.1,
)
