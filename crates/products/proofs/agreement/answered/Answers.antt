-- Each part is handed the runs of the two tables, and the lines up to the first that differs are the shown reply.
use Rattle.std.proofs.Common.{◌∙◌, ap}
use Rattle.products.specs.agreement.Reply.{reply_of}
use Rattle.products.proofs.agreement.TableAnswer.{leaf-args-at, leaves-first, leaves-second, inner_first, inner-second}
use Rattle.products.proofs.agreement.TableAnswer.{marks-first, marks-second}
use Rattle.products.proofs.agreement.TableAnswer.{whole-args-at, mark-args-at, cut-args-at, answered-at}
use Rattle.products.proofs.agreement.answered.Goals as goal

pub over_leaves-l-requires : goal.over_leaves-l-requires
over_leaves-l-requires c =
    leaf-args-at c.requires _ _ c.empty_search-e.result
    (leaves-first c.requires)
    (leaves-second c.requires)
    c.empty_search-e.ensures

pub searched-t-requires : goal.searched-t-requires
searched-t-requires c =
    whole-args-at c.requires _ _ _ _ c.over_leaves-l.result
    (inner_first c.requires c.inner_count.result c.inner_count.ensures.value)
    (inner-second c.requires c.inner_count-2.result c.inner_count-2.ensures.value)
    (marks-first c.requires c.inner_count.result c.inner_count.ensures.value)
    (marks-second c.requires c.inner_count-2.result c.inner_count-2.ensures.value)
    c.over_leaves-l.ensures.fits

pub first_differing-n-requires : goal.first_differing-n-requires
first_differing-n-requires c =
    mark-args-at c.requires _ _ c.searched-t.result
    (marks-first c.requires c.inner_count.result c.inner_count.ensures.value)
    (marks-second c.requires c.inner_count-2.result c.inner_count-2.ensures.value)
    c.searched-t.ensures.fits

pub cut-requires : goal.cut-requires
cut-requires c =
    cut-args-at c.requires _ _ c.searched-t.result c.first_differing-n.result
    (marks-first c.requires c.inner_count.result c.inner_count.ensures.value)
    (marks-second c.requires c.inner_count-2.result c.inner_count-2.ensures.value)
    c.searched-t.ensures.fits c.first_differing-n.ensures

pub returns : goal.returns
returns c =
    c.cut.ensures
    ∙ ap reply_of
    (answered-at c.requires _ _ _ _ _ _ _
    c.over_leaves-l.result c.searched-t.result c.first_differing-n.result
    (leaves-first c.requires)
    (leaves-second c.requires)
    (inner_first c.requires c.inner_count.result c.inner_count.ensures.value)
    (inner-second c.requires c.inner_count-2.result c.inner_count-2.ensures.value)
    (marks-first c.requires c.inner_count.result c.inner_count.ensures.value)
    (marks-second c.requires c.inner_count-2.result c.inner_count-2.ensures.value)
    c.empty_search-e.ensures c.over_leaves-l.ensures c.searched-t.ensures c.first_differing-n.ensures)
