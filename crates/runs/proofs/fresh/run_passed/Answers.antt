-- The run of what passes its checks meets its contract. What the pass asks of the parts that are handed on, and what
-- its answer says of the whole, are laws of proofs/RunLaws.
use native.Mathlib.Omega.{arith}
use Rattle.runs.proofs.RunLaws.{parts-args, root_in, result-is}
use Rattle.runs.proofs.fresh.run_passed.Goals as goal

pub pass-q-requires : goal.pass-q-requires
pass-q-requires c = parts-args c.requires

pub bounds-rules-marks : goal.bounds-rules-marks
bounds-rules-marks c =
    let p = c.requires in
    omega (arith, root_in p c.pass-q.ensures, p.rules_length)

pub returns : goal.returns
returns c =
    let p = c.requires in
    result-is p c.pass-q.ensures
