-- `maps::node_map` meets its contract: in each arm the literal is the number of states.
use Prim.Native.Nat.{ℕ}
use mathlib.Core.Path.{◌≡◌, sym, subst}
use mathlib.Core.List.{List}
use Rattle.tables.specs.inner.Rows.{Rowed}
use Rattle.branches.specs.inner.Maps.{node_map, NodeArgs}
use Rattle.branches.proofs.maps.node_map.Goals as goal

-- the map for the number of states that the test returned
by_count : {s x : ℕ} → x ≡ s → (ls node_table st : List ℕ) (k v : ℕ) (b after : List ℕ)
    → Rowed x (node_map ls node_table st x k b v) v b after → Rowed s (node_map ls node_table st s k b v) v b after
by_count e ls node_table st k v b after =
    subst (λ (y : ℕ). Rowed y (node_map ls node_table st y k b v) v b after) e

pub label_map-requires : goal.label_map-requires
label_map-requires c =
    let g = c.args in
    subst (λ (x : ℕ). NodeArgs g.labels.now g.node_table.now g.steps.now x g.k g.state_table.now
    g.v) c.if-s-eq2.true c.requires

pub returns-then-s-eq2 : goal.returns-then-s-eq2
returns-then-s-eq2 c =
    let g = c.args in
    by_count (sym c.if-s-eq2.true) g.labels.now g.node_table.now g.steps.now g.k g.v
    g.state_table.now c.label_map.new.state_table c.label_map.ensures

pub label_map-requires-then-s-eq4 : goal.label_map-requires-then-s-eq4
label_map-requires-then-s-eq4 c =
    let g = c.args in
    subst (λ (x : ℕ). NodeArgs g.labels.now g.node_table.now g.steps.now x g.k g.state_table.now
    g.v) c.if-s-eq4.true c.requires

pub returns-then-s-eq4 : goal.returns-then-s-eq4
returns-then-s-eq4 c =
    let g = c.args in
    by_count (sym c.if-s-eq4.true) g.labels.now g.node_table.now g.steps.now g.k g.v
    g.state_table.now c.label_map-then-s-eq4.new.state_table c.label_map-then-s-eq4.ensures

pub label_map-requires-then-s-eq16 : goal.label_map-requires-then-s-eq16
label_map-requires-then-s-eq16 c =
    let g = c.args in
    subst (λ (x : ℕ). NodeArgs g.labels.now g.node_table.now g.steps.now x g.k g.state_table.now
    g.v) c.if-s-eq16.true c.requires

pub returns-then-s-eq16 : goal.returns-then-s-eq16
returns-then-s-eq16 c =
    let g = c.args in
    by_count (sym c.if-s-eq16.true) g.labels.now g.node_table.now g.steps.now g.k g.v
    g.state_table.now c.label_map-then-s-eq16.new.state_table c.label_map-then-s-eq16.ensures
