-- `branch_buffers_fit` meets its contract.
use native.Mathlib.Omega.{arith}
use mathlib.Core.Path.{sym, ◌∙◌}
use Rattle.formats.proofs.BufferLaws.{headers-are, headers-no, headed-by}
use Rattle.formats.proofs.buffers.branch_buffers_fit.Goals as goal

pub returns-then-not-headers_fit : goal.returns-then-not-headers_fit
returns-then-not-headers_fit c =
    sym (headers-no _ _ _ _ _ (sym c.headers_fit.ensures ∙ c.if-not-headers_fit.true))

pub read32-n-requires : goal.read32-n-requires
read32-n-requires c = omega (arith, (headers-are 16 _ _ (sym c.headers_fit.ensures ∙ c.if-not-headers_fit.false)).plan-long)

pub read32-s-requires : goal.read32-s-requires
read32-s-requires c = omega (arith, (headers-are 16 _ _ (sym c.headers_fit.ensures ∙ c.if-not-headers_fit.false)).table-long)

pub read32-k-requires : goal.read32-k-requires
read32-k-requires c = omega (arith, (headers-are 16 _ _ (sym c.headers_fit.ensures ∙ c.if-not-headers_fit.false)).table-long)

pub step_count-requires : goal.step_count-requires
step_count-requires c =
    let L = (headers-are 16 _ _ (sym c.headers_fit.ensures ∙ c.if-not-headers_fit.false)).in-limits in
    record { states = omega (arith, L.few); labels = omega (arith, L.labels_most) }

pub overflow_add-exact-2 : goal.overflow_add-exact-2
overflow_add-exact-2 c =
    omega (arith, c.step_count.ensures.fits, (headers-are 16 _ _ (sym c.headers_fit.ensures ∙ c.if-not-headers_fit.false)).in-limits.few)

pub buffers_fit-requires : goal.buffers_fit-requires
buffers_fit-requires c =
    let L = (headers-are 16 _ _ (sym c.headers_fit.ensures ∙ c.if-not-headers_fit.false)).in-limits in
    record { nodes = omega (arith, L.most); states = omega (arith, L.few) }

pub returns : goal.returns
returns c =
    c.buffers_fit.ensures
    ∙ headed-by _ _ _ _ _ _ _ _ _ (omega arith) (omega arith) c.read32-k.ensures
    (omega (arith, c.step_count.ensures.value)) (sym c.headers_fit.ensures ∙ c.if-not-headers_fit.false)
