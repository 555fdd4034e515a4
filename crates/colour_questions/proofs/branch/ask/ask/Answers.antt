-- `ask` meets its promise: each check that fails, or the answer where none does.
use Prim.Native.Nat.{◌<◌}
use mathlib.Core.Path.{◌≡◌, sym, ◌∙◌}
use mathlib.Core.Bool.{true}
use native.Mathlib.Omega.{arith}
use lib.ListN.{length}
use Rattle.formats.specs.Plan.{node_count}
use Rattle.colour_questions.specs.branch.Question.{colour_buffers_fit}
use Rattle.colour_questions.proofs.branch.FitLaws.{fits-are}
use Rattle.colour_questions.proofs.branch.AskChecks.{ask-17, ask-13-upper, ask-13-lower, ask-16, ask-on}
use Rattle.colour_questions.proofs.branch.AskTheorem.{ask-done}
use Rattle.colour_questions.proofs.branch.ask.ask.Goals as goal

pub returns-then-not-colour_buffers_fit : goal.returns-then-not-colour_buffers_fit
returns-then-not-colour_buffers_fit c =
    ask-done _ _ _ _ _ _ _ _ _
    (ask-17 _ _ _ _ _ _ _ _ (sym c.colour_buffers_fit.ensures ∙ c.if-not-colour_buffers_fit.true))

pub read32-n-requires : goal.read32-n-requires
read32-n-requires c =
    let fits : let g = c.args in
    colour_buffers_fit g.plan.now g.branch.now (length g.node_table.now) (length g.numbers.now)
    (length g.bytes.now) ≡ true =
    (sym c.colour_buffers_fit.ensures ∙ c.if-not-colour_buffers_fit.false) in
    omega (arith, (fits-are _ _ _ _ _ fits).headers.plan-long)

pub returns-then-n-u : goal.returns-then-n-u
returns-then-n-u c =
    let fits : let g = c.args in
    colour_buffers_fit g.plan.now g.branch.now (length g.node_table.now) (length g.numbers.now)
    (length g.bytes.now) ≡ true =
    (sym c.colour_buffers_fit.ensures ∙ c.if-not-colour_buffers_fit.false) in
    ask-done _ _ _ _ _ _ _ _ _
    (ask-13-upper _ _ _ _ _ _ _ _ fits (omega (arith, c.if-n-u.true, c.read32-n.ensures)))

pub returns-then-n-l : goal.returns-then-n-l
returns-then-n-l c =
    let fits : let g = c.args in
    colour_buffers_fit g.plan.now g.branch.now (length g.node_table.now) (length g.numbers.now)
    (length g.bytes.now) ≡ true =
    (sym c.colour_buffers_fit.ensures ∙ c.if-not-colour_buffers_fit.false) in
    ask-done _ _ _ _ _ _ _ _ _
    (ask-13-lower _ _ _ _ _ _ _ _ fits
    (omega (arith, c.if-n-l.true, c.read32-n.ensures)))

pub is_below-requires : goal.is_below-requires
is_below-requires c =
    let fits : let g = c.args in
    colour_buffers_fit g.plan.now g.branch.now (length g.node_table.now) (length g.numbers.now)
    (length g.bytes.now) ≡ true =
    (sym c.colour_buffers_fit.ensures ∙ c.if-not-colour_buffers_fit.false) in
    let upper_in : let g = c.args in
    g.upper < node_count g.plan.now =
    (omega (arith, c.if-n-u.false, c.read32-n.ensures)) in
    omega (arith, upper_in, (fits-are _ _ _ _ _ fits).node_table_room)

pub returns-then-not-is_below : goal.returns-then-not-is_below
returns-then-not-is_below c =
    let fits : let g = c.args in
    colour_buffers_fit g.plan.now g.branch.now (length g.node_table.now) (length g.numbers.now)
    (length g.bytes.now) ≡ true =
    (sym c.colour_buffers_fit.ensures ∙ c.if-not-colour_buffers_fit.false) in
    let upper_in : let g = c.args in
    g.upper < node_count g.plan.now =
    (omega (arith, c.if-n-u.false, c.read32-n.ensures)) in
    let lower_in : let g =
    c.args in
    g.lower < node_count g.plan.now =
    (omega (arith, c.if-n-l.false, c.read32-n.ensures)) in
    ask-done _ _ _ _ _ _ _ _ _
    (ask-16 _ _ _ _ _ _ _ _ fits upper_in lower_in
    (sym c.is_below.ensures ∙ c.if-not-is_below.true))

pub returns : goal.returns
returns c =
    let fits : let g = c.args in
    colour_buffers_fit g.plan.now g.branch.now (length g.node_table.now) (length g.numbers.now)
    (length g.bytes.now) ≡ true =
    (sym c.colour_buffers_fit.ensures ∙ c.if-not-colour_buffers_fit.false) in
    let upper_in : let g = c.args in
    g.upper < node_count g.plan.now =
    (omega (arith, c.if-n-u.false, c.read32-n.ensures)) in
    let lower_in : let g =
    c.args in
    g.lower < node_count g.plan.now =
    (omega (arith, c.if-n-l.false, c.read32-n.ensures)) in
    ask-done _ _ _ _ _ _ _ _ c.answer_colours.result
    (c.answer_colours.ensures
    ∙ sym (ask-on _ _ _ _ _ _ _ _ fits upper_in lower_in
    (sym c.is_below.ensures ∙ c.if-not-is_below.false)))
