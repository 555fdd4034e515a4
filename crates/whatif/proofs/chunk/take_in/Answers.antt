use Rattle.std.proofs.Common.{ℕ, [], ◌∷◌, ◌++◌, ◌≡◌, ◌+◌, take, get_or, sym, ap, ◌∙◌, add-one, arith}
use lib.Seq.{take-suc}
use Rattle.whatif.specs.Stream.{question_line, open_by}
use Rattle.whatif.proofs.StreamLaws.{advances-none, advances-then}
use Rattle.whatif.proofs.chunk.take_in.Goals as goal

pub loop-b-init : goal.loop-b-init
loop-b-init c = record { end_most = omega arith; part_most = omega arith; advances = advances-none _ _ _ _ _ }

pub take_byte-next-requires-clause-keeps : goal.take_byte-next-requires-clause-keeps
take_byte-next-requires-clause-keeps c =
    let k = c.requires.keeps in
    (open_by k.0 (take c.loop-b.b-index c.args.chunk.now), c.loop-b.invariant.advances.held k.0 k.1)

pub loop-b-preserved : goal.loop-b-preserved
loop-b-preserved c =
    let a = c.args in
    let l = c.loop-b in
    let b = c.take_byte-next in
    let f = question_line a.plan.now a.rules.now in
    let e : take l.b-index a.chunk.now ++ (get_or a.chunk.now l.b-index 0 ∷ []) ≡ take (l.b-index + 1) a.chunk.now =
    sym (ap (λ (n : ℕ). take n a.chunk.now) (add-one l.b-index) ∙ take-suc a.chunk.now l.b-index 0 (omega arith)) in record {
      end_most = omega (arith, b.ensures.end_bound.0);
      part_most = omega (arith, b.ensures.end_bound.1);
      advances =
          advances-then f (take l.b-index a.chunk.now) (get_or a.chunk.now l.b-index 0) _ a.asked.now a.have l.asked l.part _ _ a.out.now 0 l.out
          l.end _ _ e l.invariant.advances b.ensures.advances;
    }
