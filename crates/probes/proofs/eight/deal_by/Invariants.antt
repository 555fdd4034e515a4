-- The deals still to come lead where all lead from the eight records and the screen given.
use Rattle.std.proofs.Common.{◌≡◌, ◌-◌}
use Rattle.formats.specs.Inputs.{inputs_of}
use Rattle.probes.specs.EightProbed.{dealt_all, dealt_next}
use Rattle.probes.proofs.eight.deal_by.Given as goal

abbrev pub invariant-loop : goal.invariant-loop
invariant-loop l =
    (dealt_all (l.fn.count - l.counter) (inputs_of l.plan l.rules l.node_table l.state_table) l.at l.u
    ≡ dealt_all l.fn.count (inputs_of l.plan l.rules l.node_table l.state_table) l.initial.at l.initial.u)
    × (dealt_next (l.fn.count - l.counter) (inputs_of l.plan l.rules l.node_table l.state_table) l.at l.u
    ≡ dealt_next l.fn.count (inputs_of l.plan l.rules l.node_table l.state_table) l.initial.at l.initial.u)
