-- The mark of the state, or that a part has none.
use Rattle.std.proofs.Common.{arith}
use Rattle.formats.proofs.BufferLaws.{limits-are, lengths-are}
use Rattle.whole_questions.proofs.AnswerLaws.{climbed-state, roots-lost, roots-answer}
use Rattle.whole_questions.proofs.ask.answer_roots.Goals as goal

pub inner_count-requires : goal.inner_count-requires
inner_count-requires c =
    let l = limits-are _ _ _ c.requires.all.limits in record { states = l.few; labels = l.labels_most }

pub bounds-rules-k : goal.bounds-rules-k
bounds-rules-k c =
    let q = climbed-state _ _ _ _ _ _ _ _ _ _ c.requires c.all_parts.result c.all_parts.ensures c.in-Reached.x
    c.in-Reached.is in
    omega (arith, q, c.inner_count.ensures.value, (lengths-are _ _ _ _ _ _ _ c.requires.all.lengths).table_is)

pub returns-in-Reached : goal.returns-in-Reached
returns-in-Reached c =
    roots-answer _ _ _ _ _ _ _ _ _ _ c.requires c.all_parts.result c.all_parts.ensures c.in-Reached.x c.in-Reached.is
    c.inner_count.result c.inner_count.ensures.value

pub returns-in-OutOfRange : goal.returns-in-OutOfRange
returns-in-OutOfRange c =
    roots-lost _ _ _ _ _ _ _ _ _ _ c.requires c.all_parts.result c.all_parts.ensures c.in-OutOfRange.is
