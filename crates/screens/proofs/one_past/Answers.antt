-- `one_past` meets its contract.
use borrow.Author.Tests.{lt-ltb, le-ltb}
use native.Mathlib.Omega.{arith}
use Rattle.screens.proofs.one_past.Goals as goal

pub returns-then-i-lt-LAST_SCREEN : goal.returns-then-i-lt-LAST_SCREEN
returns-then-i-lt-LAST_SCREEN c = (simp (lt-ltb _ _ c.if-i-lt-LAST_SCREEN.true) (omega arith), omega arith)

pub returns : goal.returns
returns c = (simp (le-ltb _ _ c.if-i-lt-LAST_SCREEN.false), omega arith)
