-- By the distance from the first number of the run.
use Rattle.std.proofs.Common.{◌≡◌, ℕ, ◌+◌, ◌-◌, ◌%◌, arith}
use Rattle.questions.proofs.ScanLaws.{covers-by-distance}
use Rattle.questions.proofs.scan.is_in_run.Goals as goal

pub returns : goal.returns
returns c =
    let g = c.args in
    let first : ℕ = c.first_in_run-first.result in
    let w : ℕ = (g.e + (65536 - first)) % 65536 in
    let d : (w + first) % 65536 ≡ g.e = omega arith in
    covers-by-distance g.c g.z g.e w first c.requires c.first_in_run-first.ensures d (omega arith) (omega arith)
