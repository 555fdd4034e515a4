-- The three tests, and the runs that are handed on.
use Rattle.std.proofs.Common.{◌≡◌, length, true, sym, ◌∙◌, arith, length-take-le}
use Rattle.formats.specs.Rules.{rule_length}
use Rattle.formats.specs.Buffers.{limits_fit, buffers_fit}
use Rattle.formats.proofs.BufferLaws.{limits-are}
use Rattle.questions.specs.PartAnswers.{asked_fits}
use Rattle.questions.proofs.PartFits.{given-limits, given-lengths, given-asked}
use Rattle.questions.proofs.PartHanded.{Fit, fit-by, part-args, part-answer}
use Rattle.questions.proofs.Promised.{part-done}
use Rattle.questions.proofs.part.part.Goals as goal
use Rattle.questions.proofs.part.part.Goals.{Else-not-limits_fit, Else-not-rule_buffers_fit, Else-not-asked_fits}

limits : (c : Else-not-limits_fit) → let g = c.args in limits_fit g.n g.s g.k ≡ true
limits c = sym c.limits_fit.ensures ∙ c.if-not-limits_fit.false

lengths : (c : Else-not-rule_buffers_fit) → let g = c.args in
    buffers_fit g.n g.s (rule_length g.s g.k) (length g.plan.now) (length g.rules.now) (length g.node_table.now)
    (length g.state_table.now) ≡ true
lengths c = sym c.rule_buffers_fit.ensures ∙ c.if-not-rule_buffers_fit.false

asked : (c : Else-not-asked_fits) → let g = c.args in
    asked_fits g.n g.roots.now g.states.now g.nodes.now g.labels.now ≡ true
asked c = sym c.asked_fits.ensures ∙ c.if-not-asked_fits.false

fit : (c : Else-not-asked_fits) → let g = c.args in
    Fit g.n g.s g.k g.plan.now g.rules.now g.node_table.now g.state_table.now g.roots.now g.states.now g.nodes.now
    g.labels.now
fit c =
    fit-by _ _ _ _ _ _ _ _ _ _ _ (sym c.limits_fit.ensures ∙ c.if-not-limits_fit.false)
    (sym c.rule_buffers_fit.ensures ∙ c.if-not-rule_buffers_fit.false) (asked c)

pub returns-then-not-limits_fit : goal.returns-then-not-limits_fit
returns-then-not-limits_fit c =
    part-done _ _ _ _ _ _ _ _ _ _ _ (λ j. omega (arith, c.type_inv.node_table j)) _
    (given-limits _ _ _ _ _ _ _ _ _ _ _ (sym c.limits_fit.ensures ∙ c.if-not-limits_fit.true))

pub rule_buffers_fit-requires : goal.rule_buffers_fit-requires
rule_buffers_fit-requires c =
    let L = limits-are _ _ _ (limits (goal.at.rule_buffers_fit-requires c).Else-not-limits_fit) in
    record { most = L.most; few = L.few; labels = L.labels_most }

pub returns-then-not-rule_buffers_fit : goal.returns-then-not-rule_buffers_fit
returns-then-not-rule_buffers_fit c =
    part-done _ _ _ _ _ _ _ _ _ _ _ (λ j. omega (arith, c.type_inv.node_table j)) _
    (given-lengths _ _ _ _ _ _ _ _ _ _ _ (limits (goal.at.returns-then-not-rule_buffers_fit c).Else-not-limits_fit)
    (sym c.rule_buffers_fit.ensures ∙ c.if-not-rule_buffers_fit.true))

pub returns-then-not-asked_fits : goal.returns-then-not-asked_fits
returns-then-not-asked_fits c =
    let t = goal.at.returns-then-not-asked_fits c in
    part-done _ _ _ _ _ _ _ _ _ _ _ (λ j. omega (arith, c.type_inv.node_table j)) _
    (given-asked _ _ _ _ _ _ _ _ _ _ _ (limits t.Else-not-limits_fit) (lengths t.Else-not-rule_buffers_fit)
    (sym c.asked_fits.ensures ∙ c.if-not-asked_fits.true))

pub overflow_add-n : goal.overflow_add-n
overflow_add-n c = omega (arith, fit (goal.at.overflow_add-n c).Else-not-asked_fits)

pub slice_bounds-part_on-end : goal.slice_bounds-part_on-end
slice_bounds-part_on-end c = omega (arith, fit (goal.at.slice_bounds-part_on-end c).Else-not-asked_fits)

pub slice_bounds-part_on-count-2 : goal.slice_bounds-part_on-count-2
slice_bounds-part_on-count-2 c = omega (arith, fit (goal.at.slice_bounds-part_on-count-2 c).Else-not-asked_fits)

pub slice_bounds-part_on-start-2 : goal.slice_bounds-part_on-start-2
slice_bounds-part_on-start-2 c = omega (arith, fit (goal.at.slice_bounds-part_on-start-2 c).Else-not-asked_fits)

pub overflow_add-k : goal.overflow_add-k
overflow_add-k c = omega (arith, fit (goal.at.overflow_add-k c).Else-not-asked_fits)

pub slice_bounds-part_on-end-3 : goal.slice_bounds-part_on-end-3
slice_bounds-part_on-end-3 c = omega (arith, fit (goal.at.slice_bounds-part_on-end-3 c).Else-not-asked_fits)

pub overflow_mul-s : goal.overflow_mul-s
overflow_mul-s c = omega (arith, fit (goal.at.overflow_mul-s c).Else-not-asked_fits)

pub overflow_mul-s-2 : goal.overflow_mul-s-2
overflow_mul-s-2 c = omega (arith, fit (goal.at.overflow_mul-s-2 c).Else-not-asked_fits)

pub overflow_add-k-4 : goal.overflow_add-k-4
overflow_add-k-4 c = omega (arith, fit (goal.at.overflow_add-k-4 c).Else-not-asked_fits)

pub slice_bounds-part_on-end-4 : goal.slice_bounds-part_on-end-4
slice_bounds-part_on-end-4 c = omega (arith, fit (goal.at.slice_bounds-part_on-end-4 c).Else-not-asked_fits)

pub overflow_mul-n : goal.overflow_mul-n
overflow_mul-n c = omega (arith, fit (goal.at.overflow_mul-n c).Else-not-asked_fits)

pub slice_bounds-part_on-end-5 : goal.slice_bounds-part_on-end-5
slice_bounds-part_on-end-5 c =
    let F = fit (goal.at.slice_bounds-part_on-end-5 c).Else-not-asked_fits in sym (length-take-le _ _ (omega (arith, F.lengths.node_table_room)))

pub overflow_add-s : goal.overflow_add-s
overflow_add-s c = omega (arith, fit (goal.at.overflow_add-s c).Else-not-asked_fits)

pub overflow_mul-n-2 : goal.overflow_mul-n-2
overflow_mul-n-2 c = omega (arith, fit (goal.at.overflow_mul-n-2 c).Else-not-asked_fits)

pub slice_bounds-part_on-end-6 : goal.slice_bounds-part_on-end-6
slice_bounds-part_on-end-6 c =
    let F = fit (goal.at.slice_bounds-part_on-end-6 c).Else-not-asked_fits in sym (length-take-le _ _ F.lengths.state_table_room)

pub slice_bounds-part_on-end-7 : goal.slice_bounds-part_on-end-7
slice_bounds-part_on-end-7 c =
    let F = fit (goal.at.slice_bounds-part_on-end-7 c).Else-not-asked_fits in sym (length-take-le _ _ (omega (arith, F.asked.root)))

pub bounds-roots-i : goal.bounds-roots-i
bounds-roots-i c = omega (arith, fit (goal.at.bounds-roots-i c).Else-not-asked_fits)

pub part_on-requires : goal.part_on-requires
part_on-requires c = part-args _ _ _ _ _ _ _ _ _ _ _ (fit (goal.at.part_on-requires c).Else-not-asked_fits)

pub returns : goal.returns
returns c =
    let t = goal.at.returns c in
    part-done _ _ _ _ _ _ _ _ _ _ _ (λ j. omega (arith, c.type_inv.node_table j)) _
    (part-answer _ _ _ _ _ _ _ _ _ _ _ (limits t.Else-not-limits_fit) (lengths t.Else-not-rule_buffers_fit)
    (asked t.Else-not-asked_fits) c.part_on.result c.part_on.ensures)
