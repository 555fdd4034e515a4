-- The advances still to come lead where all lead from the session given.
use Rattle.std.proofs.Common.{◌≡◌, ◌-◌}
use Rattle.formats.specs.Inputs.{inputs_of}
use Rattle.probes.specs.Probed.{advanced}
use Rattle.probes.proofs.whole.advance_by.Given as goal

abbrev pub invariant-loop : goal.invariant-loop
invariant-loop l =
    advanced (l.fn.count - l.counter) (inputs_of l.plan l.rules l.node_table l.state_table) l.u
    ≡ advanced l.fn.count (inputs_of l.plan l.rules l.node_table l.state_table) l.initial.u
