-- PlacesLoop of LastPlacesLaws.
use Rattle.changes.proofs.LastPlacesLaws.{PlacesLoop}
use Rattle.changes.proofs.differing.put_places.Given as goal

abbrev pub invariant-loop-i : goal.invariant-loop-i
invariant-loop-i l = PlacesLoop l.nodes l.last l.i
