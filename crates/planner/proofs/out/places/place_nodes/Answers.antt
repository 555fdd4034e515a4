-- One node more is read in each iteration.
use Rattle.planner.proofs.out.PlaceLoop.{placing-start}
use Rattle.planner.proofs.out.places.place_nodes.Goals as goal

pub loop-v-init : goal.loop-v-init
loop-v-init c = placing-start _ _ _
