use Rattle.std.proofs.Common.{◌≡◌, ◌-◌}
use Rattle.formats.specs.Inputs.{inputs_of}
use Rattle.whatif.specs.Asked.{finished_in, most_parts}
use Rattle.whatif.proofs.ask.finish.Given as goal

-- what is left to do comes to the answer
abbrev pub invariant-loop-parts : goal.invariant-loop-parts
invariant-loop-parts l = record {
  same : finished_in (254 - l._parts) l.rec (inputs_of l.plan l.rules l.node_table l.state_table)
      ≡ finished_in most_parts l.fn.started (inputs_of l.plan l.rules l.node_table l.state_table);
}
