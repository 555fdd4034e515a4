-- `colour_buffers_fit` meets its contract, test by test.
use Prim.Native.Nat.{◌≤◌}
use mathlib.Core.Path.{◌≡◌, sym, ◌∙◌}
use mathlib.Core.Bool.{true}
use Rattle.formats.specs.Buffers.{headers_fit}
use Rattle.formats.proofs.BufferLaws.{Headers, headers-are}
use Rattle.colour_questions.proofs.branch.FitLaws.{headers-no, plan-no, table-no, links-no, fit-end}
use native.Mathlib.Omega.{arith}
use Rattle.colour_questions.proofs.branch.ask.colour_buffers_fit.Goals as goal

pub returns-then-not-headers_fit : goal.returns-then-not-headers_fit
returns-then-not-headers_fit c =
    headers-no _ _ _ _ _ (sym c.headers_fit.ensures ∙ c.if-not-headers_fit.true)

pub returns-then-plan-n : goal.returns-then-plan-n
returns-then-plan-n c =
    let head : let g = c.args in
    headers_fit 16 g.plan.now g.branch.now ≡ true =
    (sym c.headers_fit.ensures ∙ c.if-not-headers_fit.false) in
    plan-no _ _ _ _ _ head _ _ _
    c.read32-n.ensures c.read32-s.ensures c.read32-k.ensures c.if-plan-n.true

pub returns-then-branch-s : goal.returns-then-branch-s
returns-then-branch-s c =
    let head : let g = c.args in
    headers_fit 16 g.plan.now g.branch.now ≡ true =
    (sym c.headers_fit.ensures ∙ c.if-not-headers_fit.false) in
    table-no _ _ _ _ _ head _ _ _ c.read32-n.ensures
    c.read32-s.ensures c.read32-k.ensures c.if-plan-n.false c.if-branch-s.true

pub returns-then-node_table-n : goal.returns-then-node_table-n
returns-then-node_table-n c =
    let head : let g = c.args in
    headers_fit 16 g.plan.now g.branch.now ≡ true =
    (sym c.headers_fit.ensures ∙ c.if-not-headers_fit.false) in
    links-no _ _ _ _ _ head _ _ _ c.read32-n.ensures
    c.read32-s.ensures c.read32-k.ensures c.if-plan-n.false c.if-branch-s.false c.if-node_table-n.true

pub returns : goal.returns
returns c =
    let head : let g = c.args in
    headers_fit 16 g.plan.now g.branch.now ≡ true =
    (sym c.headers_fit.ensures ∙ c.if-not-headers_fit.false) in
    c.colours_fit.ensures ∙ fit-end _ _ _ _ _ head _ _ _
    c.read32-n.ensures
    c.read32-s.ensures c.read32-k.ensures c.if-plan-n.false c.if-branch-s.false c.if-node_table-n.false

pub read32-n-requires : goal.read32-n-requires
read32-n-requires c =
    let head : let g = c.args in
    headers_fit 16 g.plan.now g.branch.now ≡ true =
    (sym c.headers_fit.ensures ∙ c.if-not-headers_fit.false) in
    let heads : let g = c.args in Headers 16 g.plan.now g.branch.now =
    (let g = c.args in headers-are 16 g.plan.now g.branch.now head) in
    omega (arith, heads.plan-long)

pub read32-s-requires : goal.read32-s-requires
read32-s-requires c =
    let head : let g = c.args in
    headers_fit 16 g.plan.now g.branch.now ≡ true =
    (sym c.headers_fit.ensures ∙ c.if-not-headers_fit.false) in
    let heads : let g = c.args in Headers 16 g.plan.now g.branch.now =
    (let g = c.args in headers-are 16 g.plan.now g.branch.now head) in
    omega (arith, heads.table-long)

pub read32-k-requires : goal.read32-k-requires
read32-k-requires c =
    let head : let g = c.args in
    headers_fit 16 g.plan.now g.branch.now ≡ true =
    (sym c.headers_fit.ensures ∙ c.if-not-headers_fit.false) in
    let heads : let g = c.args in Headers 16 g.plan.now g.branch.now =
    (let g = c.args in headers-are 16 g.plan.now g.branch.now head) in
    omega (arith, heads.table-long)

pub colours_fit-requires : goal.colours_fit-requires
colours_fit-requires c =
    let head : let g = c.args in
    headers_fit 16 g.plan.now g.branch.now ≡ true =
    (sym c.headers_fit.ensures ∙ c.if-not-headers_fit.false) in
    let heads : let g = c.args in Headers 16 g.plan.now g.branch.now =
    (let g = c.args in headers-are 16 g.plan.now g.branch.now head) in
    let limits : (c.read32-n.result ≤ 65535) × (c.read32-s.result ≤ 16) × (c.read32-k.result ≤ 64) =
    (let h = heads.in-limits in (
      omega (arith, h.most, c.read32-n.ensures),
      omega (arith, h.few, c.read32-s.ensures),
      omega (arith, h.labels_most, c.read32-k.ensures),
    )) in
    record { nodes = omega (arith, limits); states = omega (arith, limits) }
