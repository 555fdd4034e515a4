-- None of the eight is in the run, so they may be left out.
use Rattle.std.proofs.Common.{◌≡◌, ℕ, ◌+◌, ◌-◌, take, sym, ap, ◌∙◌, arith}
use Rattle.questions.specs.inner.Scans.{last_in}
use Rattle.questions.proofs.ScanLaws.{last-cut}
use Rattle.questions.proofs.scan.without_eights.Goals as goal

pub loop-i-preserved : goal.loop-i-preserved
loop-i-preserved c =
    let g = c.args in
    let i = c.loop-i.i in
    let e : i - 8 + (i - (i - 8)) ≡ i = omega arith in
    record {
      within = omega (arith, c.loop-i.invariant.within);
      place =
          last-cut g.c g.z g.list.now (i - 8) (i - (i - 8)) (sym c.any_in.ensures ∙ c.if-any_in.false)
          ∙ ap (λ (n : ℕ). last_in g.c g.z (take n g.list.now)) e ∙ c.loop-i.invariant.place;
    }
