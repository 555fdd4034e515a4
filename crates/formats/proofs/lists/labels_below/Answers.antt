-- `formats::lists::labels_below` meets its contract: a byte is below a K above 255.
use mathlib.Core.Path.{sym}
use Rattle.list_laws.proofs.TestLaws.{at-all_below}
use native.Mathlib.Omega.{arith}
use Rattle.formats.proofs.lists.labels_below.Goals as goal

pub returns-then-k-gt255 : goal.returns-then-k-gt255
returns-then-k-gt255 c =
    sym (at-all_below c.args.k c.args.labels.now (λ j h. omega (arith, c.type_inv.labels j)))
