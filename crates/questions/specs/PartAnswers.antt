-- The part that a caller asks for.
--
-- asked_fits n roots states vs bs == there is a root after those that have states, it is one of n nodes, the lists of
--   nodes and labels have the same length, and neither list of nodes is longer than a plan can be
-- part_fits .. == besides, n, s and k are within their limits, and the buffers fit them (check 17; crate formats, Buffers)
-- part_given .. == the part of the root that comes next after those whose states are given; none (18) also where it does
--   not fit
--
-- Of the earlier roots nothing is asked: one that is found below a child is a node.
use Rattle.std.specs.Prelude.{ℕ, Bool, cond, ◌&&◌, List, length, take, ◌==◌, nat_le, nat_lt, slice_index}
use Rattle.std.proofs.Math.Option.{Option, none}
use Rattle.formats.specs.Limits.{node_limit}
use Rattle.formats.specs.Rules.{rule_length}
use Rattle.formats.specs.Checks.{node_table_length, state_table_length}
use Rattle.formats.specs.Buffers.{limits_fit, buffers_fit}
use Rattle.tables.specs.declared.answers.Reached.{Reached}
use Rattle.tables.specs.Climbs.{View, view_of}
use Rattle.questions.specs.Part.{part_on}

unfoldable pub asked_fits : ℕ → List ℕ → List ℕ → List ℕ → List ℕ → Bool
asked_fits n roots states vs bs =
    nat_lt (length states) (length roots)
    && (nat_le (length roots) node_limit
    && (nat_lt (slice_index roots (length states)) n && (length vs == length bs && nat_le (length vs) node_limit)))

unfoldable pub part_fits : ℕ → ℕ → ℕ → List ℕ → List ℕ → List ℕ → List ℕ → List ℕ → List ℕ → List ℕ → List ℕ → Bool
part_fits n s k plan rules node_table state_table roots states vs bs =
    limits_fit n s k
    && (buffers_fit n s (rule_length s k) (length plan) (length rules) (length node_table) (length state_table)
    && asked_fits n roots states vs bs)

-- the inputs, without the excess of longer tables
abbrev pub view_in : ℕ → ℕ → ℕ → List ℕ → List ℕ → List ℕ → List ℕ → View
view_in n s k plan rules node_table state_table = view_of n s k plan rules (take (node_table_length n) node_table) (take (state_table_length n s) state_table)

unfoldable pub part_given : ℕ → ℕ → ℕ → List ℕ → List ℕ → List ℕ → List ℕ → List ℕ → List ℕ → List ℕ → List ℕ
    → Option Reached
part_given n s k plan rules node_table state_table roots states vs bs =
    cond (part_fits n s k plan rules node_table state_table roots states vs bs)
    (part_on (view_in n s k plan rules node_table state_table) (take (length states) roots) states vs bs
    (slice_index roots (length states)))
    none
