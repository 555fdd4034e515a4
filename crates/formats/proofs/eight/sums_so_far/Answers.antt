-- `formats::eight::sums_so_far` meets its contract: the sums fit.
use Rattle.formats.proofs.EightKinds.{fits-pairs, fits-fours, fits-sums}
use native.Mathlib.Omega.{arith}
use Rattle.formats.proofs.eight.sums_so_far.Goals as goal

pub overflow_add-pairs : goal.overflow_add-pairs
overflow_add-pairs c = record { fits = fits-pairs _ c.requires }

pub overflow_add-fours : goal.overflow_add-fours
overflow_add-fours c = record { fits = fits-fours _ c.requires }

pub overflow_add-result : goal.overflow_add-result
overflow_add-result c = record { fits = omega (arith, fits-sums _ c.requires) }
