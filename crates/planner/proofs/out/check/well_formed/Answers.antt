-- Each test is one of check 19's, and past them the counts decide.
use Rattle.std.proofs.Common.{◌∙◌, sym, ap, arith}
use Rattle.planner.specs.File.{is_preorder}
use Rattle.planner.proofs.out.CheckLoop.{file-not, file-counts, count-part}
use Rattle.planner.proofs.out.check.well_formed.Goals as goal

pub returns-then-file-lt-PLAN_HEAD : goal.returns-then-file-lt-PLAN_HEAD
returns-then-file-lt-PLAN_HEAD c = sym (file-not _ (λ W. omega (arith, W.long)))

pub returns-then-n-lt1 : goal.returns-then-n-lt1
returns-then-n-lt1 c = sym (file-not _ (λ W. omega (arith, W.some-nodes)))

pub returns-then-file-n : goal.returns-then-file-n
returns-then-file-n c = sym (file-not _ (λ W. omega (arith, W.exact)))

pub returns-then-read32-ne-PLAN_HEAD : goal.returns-then-read32-ne-PLAN_HEAD
returns-then-read32-ne-PLAN_HEAD c = sym (file-not _ (λ W. c.if-read32-ne-PLAN_HEAD.true (omega (arith, W.labels_at))))

pub returns-then-read32-n : goal.returns-then-read32-n
returns-then-read32-n c = sym (file-not _ (λ W. c.if-read32-n.true (omega (arith, W.counts-at))))

pub returns-then-file-n-2 : goal.returns-then-file-n-2
returns-then-file-n-2 c = sym (file-not _ (λ W. c.if-file-n-2.true (omega (arith, W.exact))))

pub returns : goal.returns
returns c =
    c.is_preorder.ensures ∙ ap is_preorder (count-part c.args.file.now _ (omega arith) (omega arith))
    ∙ sym (file-counts c.args.file.now (omega arith) (omega arith) (omega arith) (omega arith) (omega arith))
