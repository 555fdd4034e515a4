-- `session::soundness::tables_sound` meets its contract. Each return cites the law of what was found.
use Rattle.session.proofs.TablesSoundLaws.{other-n, other-s, other-k, checked-yes, checked_refused}
use Rattle.session.proofs.soundness.tables_sound.Goals as goal

pub returns-then-read32-n : goal.returns-then-read32-n
returns-then-read32-n c = other-n _ _ _ _ _ _ _ _ c.read32.ensures c.if-read32-n.true

pub returns-then-read32-s : goal.returns-then-read32-s
returns-then-read32-s c = other-s _ _ _ _ _ _ _ _ c.read32-2.ensures c.if-read32-s.true

pub returns-then-read32-k : goal.returns-then-read32-k
returns-then-read32-k c = other-k _ _ _ _ _ _ _ _ c.read32-3.ensures c.if-read32-k.true

pub returns-in-Ok : goal.returns-in-Ok
returns-in-Ok c =
    checked-yes _ _ _ _ _ _ _ _ c.check_tables.ensures _ _ _ c.read32.ensures c.if-read32-n.false
    c.read32-2.ensures c.if-read32-s.false c.read32-3.ensures c.if-read32-k.false _ c.in-Ok.is

pub returns-in-Err : goal.returns-in-Err
returns-in-Err c = checked_refused _ _ _ _ _ _ _ _ c.check_tables.ensures _ c.in-Err.is
