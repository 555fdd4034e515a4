-- `answer_roots` meets its contract.
use mathlib.Core.Path.{sym}
use Prim.Native.Nat.{◌*◌}
use lib.ListN.{length}
use lib.Seq.{length-take-le}
use Rattle.colour_questions.specs.target_states.Trials.{Few}
use Rattle.colour_questions.proofs.rule.AnswerLaws.{runs_by, all-args, roots-lost, roots_few, roots-answer}
use native.Mathlib.Omega.{arith}
use Rattle.colour_questions.proofs.rule.ask.answer_roots.Goals as goal

pub overflow_add-n : goal.overflow_add-n
overflow_add-n c =
    omega (arith, runs_by _ _ _ _ _ _ _ _ _ _ _ _ c.requires)

pub slice_bounds-all_by_colours-count : goal.slice_bounds-all_by_colours-count
slice_bounds-all_by_colours-count c =
    omega (arith, runs_by _ _ _ _ _ _ _ _ _ _ _ _ c.requires)

pub slice_bounds-all_by_colours-start : goal.slice_bounds-all_by_colours-start
slice_bounds-all_by_colours-start c =
    omega (arith, runs_by _ _ _ _ _ _ _ _ _ _ _ _ c.requires)

pub slice_bounds-all_by_colours-end : goal.slice_bounds-all_by_colours-end
slice_bounds-all_by_colours-end c =
    omega (arith, runs_by _ _ _ _ _ _ _ _ _ _ _ _ c.requires)

pub overflow_add-n-2 : goal.overflow_add-n-2
overflow_add-n-2 c =
    omega (arith, runs_by _ _ _ _ _ _ _ _ _ _ _ _ c.requires)

pub slice_bounds-all_by_colours-count-2 : goal.slice_bounds-all_by_colours-count-2
slice_bounds-all_by_colours-count-2 c =
    omega (arith, runs_by _ _ _ _ _ _ _ _ _ _ _ _ c.requires)

pub slice_bounds-all_by_colours-start-2 : goal.slice_bounds-all_by_colours-start-2
slice_bounds-all_by_colours-start-2 c =
    omega (arith, runs_by _ _ _ _ _ _ _ _ _ _ _ _ c.requires)

pub slice_bounds-all_by_colours-end-2 : goal.slice_bounds-all_by_colours-end-2
slice_bounds-all_by_colours-end-2 c =
    omega (arith, runs_by _ _ _ _ _ _ _ _ _ _ _ _ c.requires)

pub overflow_add-k : goal.overflow_add-k
overflow_add-k c =
    omega (arith, runs_by _ _ _ _ _ _ _ _ _ _ _ _ c.requires)

pub slice_bounds-all_by_colours-count-3 : goal.slice_bounds-all_by_colours-count-3
slice_bounds-all_by_colours-count-3 c =
    omega (arith, runs_by _ _ _ _ _ _ _ _ _ _ _ _ c.requires)

pub slice_bounds-all_by_colours-start-3 : goal.slice_bounds-all_by_colours-start-3
slice_bounds-all_by_colours-start-3 c =
    omega (arith, runs_by _ _ _ _ _ _ _ _ _ _ _ _ c.requires)

pub slice_bounds-all_by_colours-end-3 : goal.slice_bounds-all_by_colours-end-3
slice_bounds-all_by_colours-end-3 c =
    omega (arith, runs_by _ _ _ _ _ _ _ _ _ _ _ _ c.requires)

pub overflow_add-k-2 : goal.overflow_add-k-2
overflow_add-k-2 c =
    omega (arith, runs_by _ _ _ _ _ _ _ _ _ _ _ _ c.requires)

pub overflow_add-k-3 : goal.overflow_add-k-3
overflow_add-k-3 c =
    omega (arith, runs_by _ _ _ _ _ _ _ _ _ _ _ _ c.requires)

pub overflow_mul-s : goal.overflow_mul-s
overflow_mul-s c =
    omega (arith, runs_by _ _ _ _ _ _ _ _ _ _ _ _ c.requires)

pub overflow_mul-s-2 : goal.overflow_mul-s-2
overflow_mul-s-2 c =
    omega (arith, runs_by _ _ _ _ _ _ _ _ _ _ _ _ c.requires)

pub overflow_add-k-4 : goal.overflow_add-k-4
overflow_add-k-4 c =
    omega (arith, runs_by _ _ _ _ _ _ _ _ _ _ _ _ c.requires)

pub slice_bounds-all_by_colours-count-4 : goal.slice_bounds-all_by_colours-count-4
slice_bounds-all_by_colours-count-4 c =
    omega (arith, runs_by _ _ _ _ _ _ _ _ _ _ _ _ c.requires)

pub slice_bounds-all_by_colours-start-4 : goal.slice_bounds-all_by_colours-start-4
slice_bounds-all_by_colours-start-4 c =
    omega (arith, runs_by _ _ _ _ _ _ _ _ _ _ _ _ c.requires)

pub slice_bounds-all_by_colours-end-4 : goal.slice_bounds-all_by_colours-end-4
slice_bounds-all_by_colours-end-4 c =
    omega (arith, runs_by _ _ _ _ _ _ _ _ _ _ _ _ c.requires)

pub overflow_mul-n : goal.overflow_mul-n
overflow_mul-n c =
    omega (arith, runs_by _ _ _ _ _ _ _ _ _ _ _ _ c.requires)

pub slice_bounds-all_by_colours-end-5 : goal.slice_bounds-all_by_colours-end-5
slice_bounds-all_by_colours-end-5 c =
    sym (length-take-le _ _ (runs_by _ _ _ _ _ _ _ _ _ _ _ _ c.requires).lengths.node_table_room)

pub overflow_add-s : goal.overflow_add-s
overflow_add-s c =
    omega (arith, runs_by _ _ _ _ _ _ _ _ _ _ _ _ c.requires)

pub overflow_mul-n-2 : goal.overflow_mul-n-2
overflow_mul-n-2 c =
    omega (arith, runs_by _ _ _ _ _ _ _ _ _ _ _ _ c.requires)

pub slice_bounds-all_by_colours-end-6 : goal.slice_bounds-all_by_colours-end-6
slice_bounds-all_by_colours-end-6 c =
    sym (length-take-le _ _ (runs_by _ _ _ _ _ _ _ _ _ _ _ _ c.requires).lengths.state_table_room)

pub overflow_add-s-2 : goal.overflow_add-s-2
overflow_add-s-2 c =
    omega (arith, runs_by _ _ _ _ _ _ _ _ _ _ _ _ c.requires)

pub overflow_mul-n-3 : goal.overflow_mul-n-3
overflow_mul-n-3 c =
    omega (arith, runs_by _ _ _ _ _ _ _ _ _ _ _ _ c.requires)

pub slice_bounds-all_by_colours-count-5 : goal.slice_bounds-all_by_colours-count-5
slice_bounds-all_by_colours-count-5 c =
    omega (arith, runs_by _ _ _ _ _ _ _ _ _ _ _ _ c.requires)

pub slice_bounds-all_by_colours-start-5 : goal.slice_bounds-all_by_colours-start-5
slice_bounds-all_by_colours-start-5 c =
    omega (arith, runs_by _ _ _ _ _ _ _ _ _ _ _ _ c.requires)

pub slice_bounds-all_by_colours-end-7 : goal.slice_bounds-all_by_colours-end-7
slice_bounds-all_by_colours-end-7 c =
    omega (arith, runs_by _ _ _ _ _ _ _ _ _ _ _ _ c.requires)

pub all_by_colours-t-requires : goal.all_by_colours-t-requires
all_by_colours-t-requires c =
    all-args _ _ _ _ _ _ _ _ _ _ _ _ c.requires _ c.set_count-m.ensures.0 c.set_count-m.ensures.1

pub overflow_add-yes : goal.overflow_add-yes
overflow_add-yes c =
    omega (arith, runs_by _ _ _ _ _ _ _ _ _ _ _ _ c.requires)

pub overflow_mul-yes : goal.overflow_mul-yes
overflow_mul-yes c =
    omega (arith, runs_by _ _ _ _ _ _ _ _ _ _ _ _ c.requires)

pub overflow_mul-yes-in-Some : goal.overflow_mul-yes-in-Some
overflow_mul-yes-in-Some c =
    omega (arith, runs_by _ _ _ _ _ _ _ _ _ _ _ _ c.requires)

pub overflow_add-yes-in-Some : goal.overflow_add-yes-in-Some
overflow_add-yes-in-Some c =
    omega (arith, runs_by _ _ _ _ _ _ _ _ _ _ _ _ c.requires)

pub overflow_add-yes-in-Some-2 : goal.overflow_add-yes-in-Some-2
overflow_add-yes-in-Some-2 c =
    let few : let g = c.args in
    Few g.s (length g.roots.now * 60) c.in-Some.trial.state c.in-Some.trial.drops c.in-Some.trial.links =
    (roots_few _ _ _ _ _ _ _ _ _ _ _ _ c.requires
    _ c.all_by_colours-t.ensures c.in-Some.trial.state c.in-Some.trial.drops c.in-Some.trial.links c.in-Some.is) in
    omega (arith, few.state, c.requires.states, runs_by _ _ _ _ _ _ _ _ _ _ _ _ c.requires)

pub bounds-rules-k : goal.bounds-rules-k
bounds-rules-k c =
    let few : let g = c.args in
    Few g.s (length g.roots.now * 60) c.in-Some.trial.state c.in-Some.trial.drops c.in-Some.trial.links =
    (roots_few _ _ _ _ _ _ _ _ _ _ _ _ c.requires
    _ c.all_by_colours-t.ensures c.in-Some.trial.state c.in-Some.trial.drops c.in-Some.trial.links c.in-Some.is) in
    omega (arith, few.state, (runs_by _ _ _ _ _ _ _ _ _ _ _ _ c.requires).lengths.table_is)

pub returns-in-None : goal.returns-in-None
returns-in-None c = (
  roots-lost _ _ _ _ _ _ _ _ _ _ _ _ c.requires
      _ c.all_by_colours-t.ensures c.in-None.is,
  tt,
)

pub returns-in-Some : goal.returns-in-Some
returns-in-Some c =
    let few : let g = c.args in
    Few g.s (length g.roots.now * 60) c.in-Some.trial.state c.in-Some.trial.drops c.in-Some.trial.links =
    (roots_few _ _ _ _ _ _ _ _ _ _ _ _ c.requires
    _ c.all_by_colours-t.ensures c.in-Some.trial.state c.in-Some.trial.drops c.in-Some.trial.links c.in-Some.is) in (
      roots-answer _ _ _ _ _ _ _ _ _ _ _ _ c.requires
          _ c.all_by_colours-t.ensures c.in-Some.trial.state c.in-Some.trial.drops c.in-Some.trial.links c.in-Some.is,
      (few.falls, few.few),
    )
