-- What is left to do of the definition's work gives the whole; a search has at most 256 lines.
use Rattle.std.proofs.Common.{◌-◌}
use Rattle.products.proofs.agreement.reachable.SearchLoop.{SearchLoop}
use Rattle.products.proofs.agreement.reachable.searched.Given as goal

abbrev pub invariant-loop-n : goal.invariant-loop-n
invariant-loop-n l = SearchLoop l.first l.second l.marks1 l.marks2 l.s1 l.s2 l.k l.initial.t l.t l.n

abbrev pub decreases-loop-n : goal.decreases-loop-n
decreases-loop-n l = 256 - l.n
