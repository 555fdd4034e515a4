-- `session::valid::question_fits` meets its contract. Each test is one of the definition's.
use Rattle.std.proofs.Common.{ap, not}
use Rattle.session.specs.declared.state.Session.{Session}
use Rattle.session.specs.Records.{whole}
use Rattle.session.proofs.ValidLaws.{parted, question-sizes, question-counts, question-fits}
use native.Mathlib.Omega.{arith}
use borrow.Author.Rules.{rules}
use Rattle.session.proofs.valid.question_fits.Statement.{statement}
use Rattle.session.proofs.valid.question_fits.Tie as tie

abbrev of : tie.Start → Session
of a = whole a.args.h a.args.nodes.now a.args.labels.now a.args.roots.now a.args.states.now

returns : tie.Need-returns-then-not-sizes_fit
returns c =
    question-sizes (of c.before.before.before) _ c.sizes_fit.ensures (ap not c.if-not-sizes_fit.true)

returns-2 : tie.Need-returns-then-h
returns-2 c = question-counts (of c.before.before.before.before.before) c.if-h.true

parts-fit-requires : tie.Need-parts_fit-requires
parts-fit-requires c κs =
    parted (of c.before.before.before.before.before.before.before.before.before.before) _ c.sizes_fit.ensures c.parts_fit-arg-1.given c.parts_fit-arg-2-1.given
    (ap not c.if-not-sizes_fit.false) (omega arith)

returns-3 : tie.Need-returns
returns-3 c =
    question-fits (of c.before.before.before.before.before.before.before.before.before.before.before) _ c.sizes_fit.ensures (ap not c.if-not-sizes_fit.false) _ _ (c.list_fits.ensures _ _)
    (c.parts_fit.ensures _ _) (omega arith)

pub question_fits_spec : {M : Type 1} → statement M
question_fits_spec =
    tie.close
    (tie.spec (λ c κs. search rules) returns returns-2 (λ c κs. search rules) parts-fit-requires returns-3)
