-- The state is at none of the places passed.
use Rattle.colour_tables.proofs.rows.PlaceLoop.{Searched}
use Rattle.colour_tables.proofs.rows.places.place_of.Given as goal

abbrev pub invariant-loop-i : goal.invariant-loop-i
invariant-loop-i l = Searched l.row l.q l.i
