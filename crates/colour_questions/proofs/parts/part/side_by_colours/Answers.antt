-- `side_by_colours` meets its contract.
use Rattle.tables.proofs.LookupLaws.{state-place}
use Rattle.colour_questions.proofs.parts.SideCases.{side-run, side-own, side-outside, side-found}
use native.Mathlib.Omega.{arith}
use Rattle.colour_questions.proofs.parts.part.side_by_colours.Goals as goal

pub run_on-requires : goal.run_on-requires
run_on-requires c =
    record {
      few = omega (arith, c.requires.reads.states);
      at = state-place _ _ _ _ c.requires.at c.requires.reads.state_table_room;
    }

pub returns-then-own-eq0 : goal.returns-then-own-eq0
returns-then-own-eq0 c =
    side-run _ _ _ _ _ _ _ _ c.if-own-eq0.true c.run_on.ensures c.untried_state.ensures

pub returns-then-other-ne0 : goal.returns-then-other-ne0
returns-then-other-ne0 c =
    side-own _ _ _ _ _ _ c.if-own-eq0.false _ c.if-other-ne0.true c.untried_state-then-other-ne0.ensures

pub returns-then-s-q : goal.returns-then-s-q
returns-then-s-q c =
    side-outside _ _ _ _ _ _ c.if-own-eq0.false c.if-other-ne0.false c.if-s-q.true

pub returns : goal.returns
returns c =
    side-found _ _ _ _ _ _ c.if-own-eq0.false c.if-other-ne0.false
    _ c.requires.reads.states c.if-s-q.false c.try_targets.ensures
