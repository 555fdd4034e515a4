-- `session::valid::list_fits` meets its contract. Each test is one of the definition's.
use Prim.Native.Nat.{ℕ}
use mathlib.Core.List.{List}
use Rattle.session.specs.declared.state.Session.{Session}
use Rattle.session.specs.Records.{whole}
use Rattle.session.proofs.PadLaws.{take_long}
use Rattle.session.proofs.ValidLaws.{rests-long, list-long, list-test}
use native.Mathlib.Omega.{arith}
use borrow.Author.Rules.{rules}
use Rattle.session.proofs.valid.list_fits.Statement.{statement}
use Rattle.session.proofs.valid.list_fits.Tie as tie

abbrev of : tie.Start → List ℕ → List ℕ → Session
of a rs qs = whole a.args.h a.args.nodes.now a.args.labels.now rs qs

returns : tie.Need-returns-then-m-gt-CHANGE_LIMIT
returns c = λ rs qs. list-long (of c.before.before.before.before rs qs) c.if-m-gt-CHANGE_LIMIT.true

slice-aggregate-below : tie.Need-slice_bounds-below-end
slice-aggregate-below c =
    take_long 64 c.args.h.m c.args.nodes.now c.requires.nodes (omega arith)

slice-aggregate-all-below : tie.Need-slice_bounds-all_below-end
slice-aggregate-all-below c =
    take_long 64 c.args.h.m c.args.labels.now c.requires.labels (omega arith)

zero-pairs-requires : tie.Need-zero_pairs-requires
zero-pairs-requires c κs =
    rests-long c.args.nodes.now c.args.labels.now c.args.h.m (omega arith)

returns-2 : tie.Need-returns
returns-2 c =
    λ rs qs. list-test (of c.before.before.before.before.before.before.before.before.before rs qs) (omega arith) _ _ _ c.below.ensures c.all_below.ensures c.zero_pairs.ensures

pub list_fits_spec : {M : Type 1} → statement M
list_fits_spec =
    tie.close
    (tie.spec (λ c. search rules) returns slice-aggregate-below (λ c κs. search rules) slice-aggregate-all-below
    (λ c κs. search rules) (λ c. search rules) (λ c. search rules) (λ c. search rules) (λ c. search rules)
    (λ c. search rules) (λ c. search rules) (λ c. search rules) zero-pairs-requires returns-2)
