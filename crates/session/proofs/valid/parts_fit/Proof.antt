-- `session::valid::parts_fit` meets its contract. Each test is one of the definition's.
use Prim.Native.Nat.{ℕ}
use mathlib.Core.List.{List}
use Rattle.session.specs.declared.state.Session.{Session}
use Rattle.session.specs.Records.{whole}
use Rattle.session.proofs.PadLaws.{take_long}
use Rattle.session.proofs.ValidLaws.{parts_none, parts-many, parts-test}
use native.Mathlib.Omega.{arith}
use borrow.Author.Rules.{rules}
use Rattle.session.proofs.valid.parts_fit.Statement.{statement}
use Rattle.session.proofs.valid.parts_fit.Tie as tie

abbrev of : tie.Start → List ℕ → List ℕ → Session
of a vs bs = whole a.args.h vs bs a.args.roots.now a.args.states.now

returns : tie.Need-returns-then-p-lt1
returns c = λ vs bs. parts_none (of c.before.before.before.before.before vs bs) c.if-p-lt1.true

returns-2 : tie.Need-returns-then-p-gt-PART_LIMIT
returns-2 c =
    λ vs bs. parts-many (of c.before.before.before.before.before.before vs bs) c.if-p-gt-PART_LIMIT.true

slice-aggregate-rises-to : tie.Need-slice_bounds-rises_to-end
slice-aggregate-rises-to c =
    take_long 254 c.args.h.parts c.args.roots.now c.requires.roots (omega arith)

slice-aggregate-all-below : tie.Need-slice_bounds-all_below-end
slice-aggregate-all-below c =
    take_long 254 c.args.h.handled c.args.states.now c.requires.states (omega arith)

returns-3 : tie.Need-returns
returns-3 c =
    λ vs bs. parts-test (of c.before.before.before.before.before.before.before.before.before.before.before.before.before.before.before.before vs bs) (omega arith) (omega arith) _ _ _ _ c.rises_to.ensures
    c.zeros.ensures
    c.all_below.ensures c.zero_bytes.ensures

pub parts_fit_spec : {M : Type 1} → statement M
parts_fit_spec =
    tie.close
    (tie.spec (λ c. search rules) (λ c. search rules) returns returns-2 (λ c. search rules) slice-aggregate-rises-to
    (λ c κs. search rules) (λ c. search rules) (λ c. search rules) (λ c. search rules) (λ c. search rules)
    (λ c κs. search rules) slice-aggregate-all-below (λ c κs. search rules) (λ c. search rules) (λ c. search rules)
    (λ c. search rules) (λ c κs. search rules) (λ c. search rules) (λ c. search rules) returns-3)
