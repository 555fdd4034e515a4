-- `try_target` meets its contract: each way out cites its law.
use Rattle.std.proofs.Common.{arith}
use native.Mathlib.Nat.{mul-le-mul}
use Rattle.colour_questions.proofs.target_states.TrialLoop.{row_in, test-uncoloured, test-lost, end_low, test-end}
use Rattle.colour_questions.proofs.target_states.trials.try_target.Goals as goal

pub returns-then-m-k : goal.returns-then-m-k
returns-then-m-k c = test-uncoloured _ _ _ _ _ _ _ _ c.requires _ _ c.single.ensures c.place_of-k.ensures.0 c.if-m-k.true

pub returns-in_err-end : goal.returns-in_err-end
returns-in_err-end c =
    rw c.from_residual.ensures (test-lost _ _ _ _ _ _ _ _ c.requires _ _ c.single.ensures c.place_of-k.ensures.0
    c.if-m-k.false _ c.descend_from.ensures c.in_err-end.was)

pub overflow_add-set : goal.overflow_add-set
overflow_add-set c =
    let g = c.args in
    let low = end_low _ _ _ _ _ _ _ _ c.requires _ _ c.single.ensures c.place_of-k.ensures.0 c.if-m-k.false _
    c.descend_from.ensures c.in_ok-end.end c.in_ok-end.was in
    let product = mul-le-mul {n₁ = g.w} {m₁ = g.m} {n₂ = 65535} {m₂ = 16} (omega (
      arith,
      c.requires.all.most,
      c.requires.all.lower,
    )) c.requires.all.few in
    omega (arith, product, low, c.requires.all.few)

pub bounds-copies-w : goal.bounds-copies-w
bounds-copies-w c =
    let low = end_low _ _ _ _ _ _ _ _ c.requires _ _ c.single.ensures c.place_of-k.ensures.0 c.if-m-k.false _
    c.descend_from.ensures c.in_ok-end.end c.in_ok-end.was in
    omega (arith, row_in _ _ _ _ _ _ _ _ c.requires c.args.w c.requires.all.lower, low)

pub returns : goal.returns
returns c =
    test-end _ _ _ _ _ _ _ _ c.requires _ _ c.single.ensures c.place_of-k.ensures.0 c.if-m-k.false _
    c.descend_from.ensures c.in_ok-end.end c.in_ok-end.was
    (λ i. omega (arith, c.type_inv.numbers i)) _ c.bit_of.ensures.0
