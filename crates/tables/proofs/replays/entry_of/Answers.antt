use Rattle.std.proofs.Common.{arith}
use Rattle.tables.proofs.LookupLaws.{below-yes, below-no}
use Rattle.tables.proofs.replays.entry_of.Goals as goal

pub returns-then-s-x : goal.returns-then-s-x
returns-then-s-x c =
    record { entry = rw (below-no _ _ c.if-s-x.true) (below-no _ 255 (omega (arith, c.requires.few))) }

pub returns : goal.returns
returns c =
    record { entry = rw (below-yes _ _ c.if-s-x.false) }
