-- `session::valid::last_is_own` meets its contract. Each test is one of the definition's.
use Rattle.session.proofs.ValidLaws.{own-few, own-many, own-test, same-flag}
use native.Mathlib.Omega.{arith}
use Rattle.session.proofs.valid.last_is_own.Goals as goal

pub returns-then-h-lt1 : goal.returns-then-h-lt1
returns-then-h-lt1 c = λ vs bs rs. own-few _ c.if-h-lt1.true

pub returns-then-h-gt-MOST_PARTS : goal.returns-then-h-gt-MOST_PARTS
returns-then-h-gt-MOST_PARTS c = λ vs bs rs. own-many _ c.if-h-gt-MOST_PARTS.true

pub returns : goal.returns
returns c =
    λ vs bs rs. own-test _ (omega arith) (omega arith) _ (same-flag _ _)
