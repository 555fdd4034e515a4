-- By the way each test went.
use Rattle.std.proofs.Common.{sym}
use Rattle.questions.proofs.PartFits.{roots-short, roots-many, root-outside, lists-apart, asked-end}
use Rattle.questions.proofs.fits.asked_fits.Goals as goal

pub returns-then-roots-i : goal.returns-then-roots-i
returns-then-roots-i c = sym (roots-short _ _ _ _ _ c.if-roots-i.true)

pub returns-then-roots-gt-NODE_LIMIT : goal.returns-then-roots-gt-NODE_LIMIT
returns-then-roots-gt-NODE_LIMIT c = sym (roots-many _ _ _ _ _ c.if-roots-i.false c.if-roots-gt-NODE_LIMIT.true)

pub returns-then-n-roots : goal.returns-then-n-roots
returns-then-n-roots c =
    sym (root-outside _ _ _ _ _ c.if-roots-i.false c.if-roots-gt-NODE_LIMIT.false c.if-n-roots.true)

pub returns-then-nodes-labels : goal.returns-then-nodes-labels
returns-then-nodes-labels c =
    sym (lists-apart _ _ _ _ _ c.if-roots-i.false c.if-roots-gt-NODE_LIMIT.false c.if-n-roots.false c.if-nodes-labels.true)

pub returns : goal.returns
returns c =
    sym (asked-end _ _ _ _ _ c.if-roots-i.false c.if-roots-gt-NODE_LIMIT.false c.if-n-roots.false c.if-nodes-labels.false)
