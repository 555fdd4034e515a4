-- `rule_buffers_fit` meets its contract.
use native.Mathlib.Omega.{arith}
use Prim.Native.Nat.{ℕ}
use mathlib.Core.Path.{ap, ◌∙◌}
use Rattle.formats.specs.Buffers.{buffers_fit}
use Rattle.formats.proofs.buffers.rule_buffers_fit.Goals as goal

pub inner_count-requires : goal.inner_count-requires
inner_count-requires c = record { states = c.requires.few; labels = c.requires.labels }

pub overflow_add-exact-2 : goal.overflow_add-exact-2
overflow_add-exact-2 c = omega (arith, c.inner_count.ensures.fits, c.requires.labels)

pub overflow_add-exact-3 : goal.overflow_add-exact-3
overflow_add-exact-3 c = omega (arith, c.inner_count.ensures.fits, c.requires.labels, c.requires.few)

pub buffers_fit-requires : goal.buffers_fit-requires
buffers_fit-requires c = record { nodes = c.requires.most; states = c.requires.few }

pub returns : goal.returns
returns c =
    let g = c.args in
    c.buffers_fit.ensures
    ∙ ap (λ (x : ℕ). buffers_fit g.n g.s x g.plan g.rules g.node_table g.state_table)
    (omega (arith, c.inner_count.ensures.value))
