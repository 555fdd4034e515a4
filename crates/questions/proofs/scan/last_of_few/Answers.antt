-- The entry at i is in the run, or it is left out; of no entries the place is 0.
use Rattle.std.proofs.Common.{◌≡◌, ℕ, ◌+◌, ◌-◌, take, sym, ap, ◌∙◌, arith}
use Rattle.questions.specs.inner.Scans.{last_from, last_in}
use Rattle.questions.proofs.ScanLaws.{last-hit, last-miss}
use Rattle.questions.proofs.scan.last_of_few.Goals as goal

pub returns-then-is_in_run : goal.returns-then-is_in_run
returns-then-is_in_run c =
    let g = c.args in
    let l = c.loop-i in
    let z : l.i - 1 + 1 ≡ l.i = omega arith in
    z
    ∙ last-hit g.c g.z g.list.now l.i (omega arith) l.invariant.within (sym c.is_in_run.ensures ∙ c.if-is_in_run.true)
    ∙ l.invariant.place

pub loop-i-preserved : goal.loop-i-preserved
loop-i-preserved c =
    let g = c.args in
    let l = c.loop-i in
    record {
      within = omega (arith, l.invariant.within);
      place =
          last-miss g.c g.z g.list.now l.i (omega arith) l.invariant.within
          (sym c.is_in_run.ensures ∙ c.if-is_in_run.false)
          ∙ l.invariant.place;
    }

pub returns : goal.returns
unfolding last_from
returns c =
    let g = c.args in
    let z : 0 ≡ c.loop-i.i = omega arith in
    ap (λ (n : ℕ). last_in g.c g.z (take n g.list.now)) z ∙ c.loop-i.invariant.place
