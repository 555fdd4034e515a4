-- `answer_colours` meets its contract: each way out cites the law of its answer.
use Prim.Native.Nat.{◌+◌, ◌*◌, ◌≤◌, ◌<◌}
use mathlib.Core.Path.{◌≡◌, ◌∙◌}
use native.Mathlib.Nat.{mul-le-mul}
use lib.ListN.{length, length-drop}
use Rattle.list_laws.proofs.RowLaws.{stride}
use Rattle.list_laws.proofs.SliceLaws.{rest_part}
use Rattle.formats.proofs.BranchLaws.{branch-marks-part-exact}
use Rattle.colour_questions.proofs.branch.FitLaws.{Fits, fits-are, numbers_fit, bytes_fit, table-fit}
use Rattle.colour_questions.proofs.branch.AnswerLaws.{answer-outside, answer-no-start, answer-lost, end_low, answer-end}
use native.Mathlib.Omega.{arith}
use Rattle.colour_questions.proofs.branch.ask.answer_colours.Goals as goal
use Rattle.colour_questions.proofs.branch.ask.answer_colours.Goals.{After-read32-k, In-Some}

-- what the given headers and lengths say
lent : (m : After-read32-k) → let g = m.args in
    Fits g.plan.now g.branch.now (length g.node_table.now) (length g.numbers.now)
    (length g.bytes.now)
lent m = fits-are _ _ _ _ _ m.requires.fits

limits : (m : After-read32-k)
    → (m.read32-n.result ≤ 65535) × (m.read32-s.result ≤ 16) × (m.read32-k.result ≤ 64)
limits m =
    let h = (lent m).headers.in-limits in (
      omega (arith, h.most, m.read32-n.ensures),
      omega (arith, h.few, m.read32-s.ensures),
      omega (arith, h.labels_most, m.read32-k.ensures),
    )

product : (m : After-read32-k) → m.read32-s.result * m.read32-k.result ≤ 1024
product m = mul-le-mul {n₁ = m.read32-s.result} {m₁ = m.read32-k.result} {n₂ = 16} {m₂ = 64} (limits m).1
    (limits m).2

numbers : (m : After-read32-k)
    → m.read32-s.result * (m.read32-n.result * 4) ≤ length m.args.numbers.now
numbers m = numbers_fit _ _ _ _ _ (lent m) _ _ 0 m.read32-n.ensures m.read32-s.ensures

bytes : (m : After-read32-k)
    → m.read32-n.result * m.read32-s.result ≤ length m.args.bytes.now
bytes m = bytes_fit _ _ _ _ _ (lent m) _ _ 0 m.read32-n.ensures m.read32-s.ensures

table : (m : After-read32-k)
    → length m.args.branch.now ≡ 16 + m.read32-s.result * m.read32-k.result
    + m.read32-s.result
table m = table-fit _ _ _ _ _ (lent m) 0 _ _ m.read32-s.ensures m.read32-k.ensures

-- where the way down was found
low : (e : In-Some) → e.in-Some.end.colour < e.read32-s.result
low e =
    let g = e.args in
    end_low g.reading g.plan.now g.branch.now g.node_table.now
    g.numbers.now g.bytes.now g.u g.l _ _ e.read32-n.ensures e.read32-s.ensures
    e.start_place-z.result e.start_place-z.ensures e.if-n-z.false e.start_colour-c.result
    e.start_colour-c.ensures
    e.if-s-c.false e.descend_to.result e.descend_to.ensures e.in-Some.end e.in-Some.is

pub read32-n-requires : goal.read32-n-requires
read32-n-requires c = omega (arith, (fits-are _ _ _ _ _ c.requires.fits).headers.plan-long)

pub read32-s-requires : goal.read32-s-requires
read32-s-requires c = omega (arith, (fits-are _ _ _ _ _ c.requires.fits).headers.table-long)

pub read32-k-requires : goal.read32-k-requires
read32-k-requires c = omega (arith, (fits-are _ _ _ _ _ c.requires.fits).headers.table-long)

pub start_place-z-requires : goal.start_place-z-requires
start_place-z-requires c =
    record {
      most = (limits (goal.at.start_place-z-requires c).After-read32-k).0;
      upper = omega (arith, c.requires.upper, c.read32-n.ensures);
      room = omega (arith, (lent (goal.at.start_place-z-requires c).After-read32-k).node_table_room, c.read32-n.ensures);
    }

pub returns-then-n-z : goal.returns-then-n-z
returns-then-n-z c =
    answer-outside _ _ _ _ _ _ _ _ _ _ c.read32-n.ensures c.read32-s.ensures
    _ c.start_place-z.ensures c.if-n-z.true

pub start_colour-c-requires : goal.start_colour-c-requires
start_colour-c-requires c =
    let m = (goal.at.start_colour-c-requires c).After-read32-k in
    record {
      most = (limits m).0;
      few = (limits m).1;
      some = omega (arith, (lent m).headers.in-limits.states, c.read32-s.ensures);
      within = c.if-n-z.false;
      room = bytes m;
    }

pub returns-then-s-c : goal.returns-then-s-c
returns-then-s-c c =
    answer-no-start _ _ _ _ _ _ _ _ _ _ c.read32-n.ensures c.read32-s.ensures
    _ c.start_place-z.ensures c.if-n-z.false _ c.start_colour-c.ensures c.if-s-c.true

pub descend_to-requires : goal.descend_to-requires
descend_to-requires c =
    let m = (goal.at.descend_to-requires c).After-read32-k in
    let b : c.start_colour-c.result < c.read32-s.result = c.if-s-c.false in
    record {
      most = (limits m).0;
      few = omega (arith, limits m);
      room =
          omega (
            arith,
            stride (c.read32-n.result * 4) c.start_colour-c.result
                c.read32-s.result b,
            numbers m,
          );
      within = c.if-n-z.false;
      lower = omega (arith, c.requires.lower, c.read32-n.ensures);
    }

pub returns-in-None : goal.returns-in-None
returns-in-None c =
    answer-lost _ _ _ _ _ _ _ _ _ _ c.read32-n.ensures c.read32-s.ensures
    _ c.start_place-z.ensures c.if-n-z.false _ c.start_colour-c.ensures
    c.if-s-c.false _ c.descend_to.ensures c.in-None.is

pub overflow_mul-s : goal.overflow_mul-s
overflow_mul-s c = omega (arith, product (goal.at.overflow_mul-s c).After-read32-k)

pub overflow_add-s : goal.overflow_add-s
overflow_add-s c = omega (arith, product (goal.at.overflow_add-s c).After-read32-k)

pub slice_bounds-finish-count : goal.slice_bounds-finish-count
slice_bounds-finish-count c = omega (arith, table (goal.at.slice_bounds-finish-count c).After-read32-k)

pub slice_bounds-finish-start : goal.slice_bounds-finish-start
slice_bounds-finish-start c = omega (arith, table (goal.at.slice_bounds-finish-start c).After-read32-k)

pub finish-requires : goal.finish-requires
finish-requires c =
    let e = (goal.at.finish-requires c).In-Some in
    let m = (goal.at.finish-requires c).After-read32-k in
    record {
      few = (limits m).1;
      small = omega (arith, c.requires.lower, c.read32-n.ensures, (limits m).0);
      low = low e;
      room = omega (
        arith,
        stride c.read32-s.result c.args.l c.read32-n.result
            (omega (arith, c.requires.lower, c.read32-n.ensures)),
        bytes m,
      );
      marks_room = rw (rest_part _ (16 + c.read32-s.result * c.read32-k.result))
          (omega (
            arith,
            table m,
            length-drop (16 + c.read32-s.result * c.read32-k.result)
                c.args.branch.now,
          ));
    }

pub returns-in-Some : goal.returns-in-Some
returns-in-Some c =
    let g = c.args in
    c.finish.ensures
    ∙ answer-end g.reading g.plan.now g.branch.now g.node_table.now
    g.numbers.now g.bytes.now g.u g.l _ _ c.read32-n.ensures c.read32-s.ensures
    c.start_place-z.result c.start_place-z.ensures c.if-n-z.false c.start_colour-c.result
    c.start_colour-c.ensures
    c.if-s-c.false c.descend_to.result c.descend_to.ensures c.in-Some.end c.in-Some.is _
    (branch-marks-part-exact g.branch.now _ _ (fits-are _ _ _ _ _ c.requires.fits).table-exact c.read32-s.ensures
    c.read32-k.ensures)
