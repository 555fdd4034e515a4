-- `changes::differing::is_superseded` meets its contract.
use Prim.Native.Nat.{◌+◌}
use mathlib.Core.Path.{ap, ◌∙◌}
use lib.ListN.{get_or}
use Rattle.list_laws.specs.Tests.{holds}
use Rattle.list_laws.proofs.SliceLaws.{rest_part}
use Rattle.changes.proofs.LastPlacesLaws.{last-of-all}
use Rattle.changes.proofs.differing.is_superseded.Goals as goal

pub returns-then-last-v : goal.returns-then-last-v
returns-then-last-v c =
    let a = c.args in
    last-of-all a.nodes.now a.last.now a.i c.requires.places c.if-last-v.true

pub returns : goal.returns
returns c =
    let a = c.args in
    c.is_listed.ensures ∙ ap (holds (get_or a.nodes.now a.i 0)) (rest_part a.nodes.now (a.i + 1))
