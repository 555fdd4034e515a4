-- No pair, and one more, by the way for its number of states.
use Rattle.std.proofs.Common.{◌≡◌, ◌∙◌, ℕ, eqb, get_or, take, sym, ap}
use Rattle.table_checks.specs.inner.PairStates.{pair_states}
use Rattle.table_checks.proofs.DifferenceLaws.{or-listed, every-none}
use Rattle.table_checks.proofs.listed.listed_states_match.Goals as goal
use Rattle.table_checks.proofs.listed.listed_states_match.Goals.{in-2, in-16, in_default}

pub loop-v-init : goal.loop-v-init
loop-v-init g c = every-none _

pub loop-v-preserved : goal.loop-v-preserved
loop-v-preserved g c =
    let a = c.args in
    let v : ℕ = get_or (take a.c a.list.now) c.loop-v.v-index 0 in
    let f = (λ (s v : ℕ). pair_states a.labels.now a.node_table.now a.inner.now s a.k a.n a.state_table.now v) in
    let tells : eqb c.match-this.states 0 ≡ f a.s v =
    elim c.match-this.branch [
      | in-2 w ↦ ap (λ x. eqb x 0) w.states-is ∙ w.pair_differences2-states.ensures
          ∙ ap (λ s. f s v) (sym (c.requires.1.0 w.in-2.is))
      | in-16 w ↦ ap (λ x. eqb x 0) w.states-is ∙ w.pair_differences16-states.ensures
          ∙ ap (λ s. f s v) (sym (c.requires.1.1 w.in-16.is))
      | in_default w ↦ ap (λ x. eqb x 0) w.states-is ∙ w.pair_differences-states.ensures
    ] in
    or-listed (f a.s) _ _ _ _ _ c.loop-v-test.true c.loop-v.invariant tells
