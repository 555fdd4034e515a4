-- `ask::answer_branch` meets its contract: the first state, the climb from it, and the answer for its end.
use Prim.Native.Nat.{ℕ, ◌+◌, ◌*◌, ◌≤◌}
use mathlib.Core.Path.{◌≡◌, ap₂}
use mathlib.Core.List.{List}
use native.Mathlib.Omega.{arith}
use lib.ListN.{length}
use Rattle.formats.specs.Rules.{state_count, label_count}
use Rattle.formats.specs.Buffers.{branch_tables}
use Rattle.formats.proofs.BufferLaws.{Headed, headed-are}
use Rattle.branches.specs.inner.Finish.{AnswerArgs}
use Rattle.branches.proofs.AskParts.{handed}
use Rattle.branches.proofs.AskAnswer.{first-args, replay-args, state_in, answer-first, answer-told}
use Rattle.branches.proofs.ask.answer_branch.Goals as goal

module _ (p r node_table state_table : List ℕ) (u l : ℕ) (A : AnswerArgs p r node_table state_table u l) where
  -- what the given headers and lengths say
  fit : Headed branch_tables p r (length node_table) (length state_table)
  fit = headed-are _ _ _ _ _ A.fits

  -- the steps end inside the branch table
  steps-end : (s k : ℕ) → s ≡ state_count r → k ≡ label_count r → 16 + s * k ≤ length r
  steps-end s k a b =
      let e : s * k ≡ state_count r * label_count r = ap₂ (λ (i j : ℕ). i * j) a b in
      omega (arith, fit.table-exact)

pub read32-n-requires : goal.read32-n-requires
read32-n-requires c = omega (arith, (fit _ _ _ _ _ _ c.requires).headers.plan-long)

pub read32-s-requires : goal.read32-s-requires
read32-s-requires c = omega (arith, (fit _ _ _ _ _ _ c.requires).headers.table-long)

pub read32-k-requires : goal.read32-k-requires
read32-k-requires c = omega (arith, (fit _ _ _ _ _ _ c.requires).headers.table-long)

pub overflow_add-labels : goal.overflow_add-labels
overflow_add-labels c = omega (arith, (fit _ _ _ _ _ _ c.requires).headers.in-limits.most, c.read32-n.ensures)

pub slice_bounds-labels-end : goal.slice_bounds-labels-end
slice_bounds-labels-end c = omega (arith, (fit _ _ _ _ _ _ c.requires).plan_exact, c.read32-n.ensures)

pub overflow_mul-steps : goal.overflow_mul-steps
overflow_mul-steps c = omega (arith, steps-end _ _ _ _ _ _ c.requires _ _ c.read32-s.ensures c.read32-k.ensures)

pub overflow_add-steps : goal.overflow_add-steps
overflow_add-steps c = omega (arith, steps-end _ _ _ _ _ _ c.requires _ _ c.read32-s.ensures c.read32-k.ensures)

pub slice_bounds-steps-end : goal.slice_bounds-steps-end
slice_bounds-steps-end c = steps-end _ _ _ _ _ _ c.requires _ _ c.read32-s.ensures c.read32-k.ensures

pub depth_at-to-requires : goal.depth_at-to-requires
depth_at-to-requires c = omega (arith, c.requires.upper, (fit _ _ _ _ _ _ c.requires).node_table_room)

pub first_state-q-requires : goal.first_state-q-requires
first_state-q-requires c =
    first-args c.args.reading _ _ _ _ _ _ _ _ _ _ _ _ _ c.requires
    (handed _ _ _ _ _ _ _ _ c.read32-n.ensures c.read32-s.ensures c.read32-k.ensures c.depth_at-to.ensures
    (fit _ _ _ _ _ _ c.requires).table-exact)

pub returns-then-s-q : goal.returns-then-s-q
returns-then-s-q c =
    answer-first c.args.reading _ _ _ _ _ _ _ _ _ _ _ _ _ c.requires
    (handed _ _ _ _ _ _ _ _ c.read32-n.ensures c.read32-s.ensures c.read32-k.ensures c.depth_at-to.ensures
    (fit _ _ _ _ _ _ c.requires).table-exact)
    c.first_state-q.result c.first_state-q.ensures c.if-s-q.true

pub replay_climb-end-requires : goal.replay_climb-end-requires
replay_climb-end-requires c =
    replay-args c.args.reading _ _ _ _ _ _ _ _ _ _ _ _ _ c.requires
    (handed _ _ _ _ _ _ _ _ c.read32-n.ensures c.read32-s.ensures c.read32-k.ensures c.depth_at-to.ensures
    (fit _ _ _ _ _ _ c.requires).table-exact)
    c.first_state-q.result c.if-s-q.false

pub slice_bounds-finish_answer-count : goal.slice_bounds-finish_answer-count
slice_bounds-finish_answer-count c = steps-end _ _ _ _ _ _ c.requires _ _ c.read32-s.ensures c.read32-k.ensures

pub slice_bounds-finish_answer-start : goal.slice_bounds-finish_answer-start
slice_bounds-finish_answer-start c = steps-end _ _ _ _ _ _ c.requires _ _ c.read32-s.ensures c.read32-k.ensures

pub finish_answer-requires : goal.finish_answer-requires
finish_answer-requires c =
    state_in c.args.reading _ _ _ _ _ _ _ _ _ _ _ _ _ c.requires
    (handed _ _ _ _ _ _ _ _ c.read32-n.ensures c.read32-s.ensures c.read32-k.ensures c.depth_at-to.ensures
    (fit _ _ _ _ _ _ c.requires).table-exact)
    c.first_state-q.result c.if-s-q.false c.replay_climb-end.result c.replay_climb-end.ensures

pub returns : goal.returns
returns c =
    answer-told c.args.reading _ _ _ _ _ _ _ _ _ _ _ _ _ c.requires
    (handed _ _ _ _ _ _ _ _ c.read32-n.ensures c.read32-s.ensures c.read32-k.ensures c.depth_at-to.ensures
    (fit _ _ _ _ _ _ c.requires).table-exact)
    c.first_state-q.result c.first_state-q.ensures c.if-s-q.false c.replay_climb-end.result c.replay_climb-end.ensures
    c.finish_answer.result c.finish_answer.ensures
